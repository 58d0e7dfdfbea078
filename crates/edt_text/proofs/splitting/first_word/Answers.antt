use Rattle.std.proofs.Common.{sym}
use Rattle.text_terms.proofs.RunLaws.{runs-absent, runs-cut}
use Rattle.edt_text.specs.Inside.Parting.{parting}
use Rattle.edt_text.proofs.splitting.first_word.Goals as goal

pub returns-in_default-clause-none : goal.returns-in_default-clause-none
returns-in_default-clause-none c = runs-absent (parting c.args.over_lines) c.args.bytes.now (sym c.in_default.ensures)

pub returns-clause-some : goal.returns-clause-some
returns-clause-some c =
    runs-cut (parting c.args.over_lines) c.args.bytes.now c.split_at.result.1.now _ _ c.in-Some.start c.unwrap_or-end.result
    (sym c.in-Some.ensures) c.split_at.ensures.back (rw c.word_end.ensures at c.unwrap_or-end.ensures)
    c.split_at-2.ensures.front c.split_at-2.ensures.back
