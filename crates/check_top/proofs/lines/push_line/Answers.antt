use Rattle.std.proofs.Common.{◌++◌, ◌∷◌, ◌∙◌, ap}
use Rattle.std.specs.Prelude.{codes, decimal}
use Rattle.check_top.specs.CheckLines.{answer_words, check_line}
use Rattle.check_top.specs.EventAnswers.{answer_value}
use Rattle.check_top.proofs.LineSteps.{whole_line}
use Rattle.check_top.proofs.lines.push_line.Goals as goal

pub returns : goal.returns
unfolding check_line
returns c =
    whole_line c.args.out.now.items c.extend_from_slice.new.self.items c.push_count.new.out.items c.push_answer.new.out.items c.push.new.self.items (codes "CHECK") (decimal c.args.number)
    (answer_words c.args.frame.now (answer_value c.args.answer.now)) c.in_ok-extend_from_slice.ensures.items
    (c.in_ok-push_count.ensures ∙ ap (λ n. c.extend_from_slice.new.self.items ++ 32 ∷ decimal n) c.from.ensures) c.in_ok-push_answer.ensures c.in_ok-push.ensures.items
