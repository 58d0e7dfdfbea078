-- The covers that a text names.
use Rattle.std.specs.List.{AllByRecursion}
use Rattle.control_reader.specs.ControlValues.{ControlValues}
use Rattle.edt_score.specs.BoxBound.{box_bound}
use Rattle.edt_score.specs.Field.{FieldTimes}
use Rattle.octree_search.specs.Fewest.{HasShortestCover}
use Rattle.event_assembly.specs.AssemblyValues.{EventCase, EventValues, Ready, Few, Many}
use Rattle.location_report.specs.Texts.{outcome_of_picks}
use Rattle.run_input.specs.Inputs.{InputValues}

-- the cover of an event that is located, or that fits nowhere, is that of the rule, and no octree cover of its kind has fewer boxes
abbrev pub HasShortest : ControlValues → FieldTimes → EventCase → Type 0
HasShortest control field (Ready picks) =
    HasShortestCover field.roots (box_bound control.shape field picks) control.margin (outcome_of_picks control field picks)
HasShortest control field Few = Unit {0}
HasShortest control field Many = Unit {0}

-- those of all events of an input are so
abbrev pub AreCoversShortest : InputValues → Type 0
AreCoversShortest input =
    AllByRecursion (λ (event : EventValues). HasShortest input.control input.assembly.field event.case) input.assembly.events
