-- What the check of an event asks for.
use Rattle.edt_score.specs.Field.{FieldTimes}
use Rattle.edt_score.specs.Problem.{IsValidProblem}
use Rattle.event_assembly.specs.declared.assembly.Case.{Case}
use Rattle.event_assembly.specs.declared.assembly.Case.TheVariants.{Ready, Few, Many}

-- the problem of an event is valid, where it has one
abbrev pub IsSoundCase : FieldTimes → Case → Type 0
IsSoundCase field (Ready problem) = IsValidProblem field problem
IsSoundCase field Few = Unit {0}
IsSoundCase field Many = Unit {0}
