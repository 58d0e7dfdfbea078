use Rattle.std.proofs.Common.{arith, ap, length, ◌∙◌}
use Rattle.edt_score.proofs.EndTotals.{pairs-counted}
use Rattle.edt_score.proofs.scorer.Scorer.totals.Goals as goal

pub table_totals-requires-clause-lengths : goal.table_totals-requires-clause-lengths
table_totals-requires-clause-lengths g c =
    let self = c.args.self.now in
    pairs-counted self.problem.now.picks.items c.deref-in-Gauss.result.now c.deref.result.now
    (c.deref-in-Gauss.ensures.value ∙ self.pairs_kept) (ap length c.deref.ensures.value ∙ self.room_for_ends)

pub table_totals-requires-in_default : goal.table_totals-requires-in_default
table_totals-requires-in_default g c =
    let self = c.args.self.now in
    let long = ap length c.deref-in_default.ensures.value ∙ self.room_for_ends in
    record {
      few = omega (arith, long, self.valid.few);
      lengths = pairs-counted self.problem.now.picks.items c.deref-in_default-2.result.now c.deref-in_default.result.now
          (c.deref-in_default-2.ensures.value ∙ self.pairs_kept) long;
      ready = c.requires.answers;
    }
