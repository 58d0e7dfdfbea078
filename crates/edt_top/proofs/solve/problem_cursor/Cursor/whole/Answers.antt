use Rattle.std.proofs.Common.{refl}
use Rattle.edt_top.specs.Solve.ProblemFile.{Whole}
use Rattle.edt_top.proofs.SolveLaws.ProblemSteps.{sound_step, named}
use Rattle.edt_top.proofs.solve.problem_cursor.Cursor.whole.Goals as goal

pub returns-in-Ok-clause-sound : goal.returns-in-Ok-clause-sound
returns-in-Ok-clause-sound c =
    sound_step c.args.self.now c.next_word-word.new.self (Whole c.args.low c.args.high) _ refl c.requires.sound c.requires.form
    c.next_word-word.ensures.word c.next_word-word.ensures.moved c.in-Ok.ensures.fault

pub returns-in-Err-clause-fault : goal.returns-in-Err-clause-fault
returns-in-Err-clause-fault c =
    named c.args.self.now c.next_word-word.new.self (Whole c.args.low c.args.high) _ c.in-Err.cause _ c.requires.sound c.requires.form
    c.next_word-word.ensures.word c.next_word-word.ensures.moved c.fault.ensures c.in-Err.ensures.fault
