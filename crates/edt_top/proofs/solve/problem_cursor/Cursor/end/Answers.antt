use Rattle.std.proofs.Common.{refl, sym, Some}
use Rattle.edt_top.specs.Solve.ProblemFile.{Nothing}
use Rattle.edt_top.proofs.SolveLaws.ProblemSteps.{whole_file, named}
use Rattle.edt_top.specs.declared.solve.problem_word.ProblemCause.TheVariants.{Form}
use Rattle.edt_top.proofs.solve.problem_cursor.Cursor.end.Goals as goal

pub returns-in-None-clause-whole : goal.returns-in-None-clause-whole
returns-in-None-clause-whole c = whole_file c.args.self.now c.requires.sound c.requires.form (sym c.in-None.ensures.word)

pub returns-in-Some-clause-fault : goal.returns-in-Some-clause-fault
returns-in-Some-clause-fault c =
    named c.args.self.now c.next_word.new.self Nothing (Some c.in-Some.field-0.now) Form _ c.requires.sound c.requires.form
    c.in-Some.ensures.word c.in-Some.ensures.moved c.fault.ensures refl
