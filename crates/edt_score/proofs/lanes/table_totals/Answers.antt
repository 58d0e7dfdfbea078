use Rattle.std.proofs.Common.{arith, length}
use Rattle.edt_score.proofs.LaneTotals.{lanes_step}
use Rattle.edt_score.proofs.RowTotals.{pair_count-le, pair_count-rest}
use Rattle.edt_score.proofs.lanes.table_totals.Goals as goal

pub add_row-requires-clause-room : goal.add_row-requires-clause-room
add_row-requires-clause-room g c k within =
    let few = pair_count-le (length c.args.ends.now) c.requires.few in
    omega (arith, c.requires.lengths, c.loop-first.invariant.bound k within)

pub loop-first-preserved : goal.loop-first-preserved
loop-first-preserved g c =
    let rest_is = c.in-Some.ensures.cases.0 in
    let shorter = c.in-Some.ensures.cases.1 in
    let before = c.loop-first.invariant in
    let parts = c.split_at.ensures.back_len in
    record {
      few = omega arith;
      lengths = pair_count-rest c.in-Some.first.now c.loop-first.rest.now c.in-Some.others.now _ _ rest_is before.lengths parts;
      total = λ k within. lanes_step (g.V.Values.shape c.args.values.now) k c.in-Some.first.now c.loop-first.rest.now c.in-Some.others.now
          c.loop-first.left.now c.split_at.result.0.now c.split_at.result.1.now _ _ _
          rest_is c.split_at.ensures.front c.split_at.ensures.back (c.add_row.ensures.value k within) (before.total k within);
      bound = λ k within. let row = c.add_row.ensures.bound k within in let so_far = before.bound k within in omega arith;
    }
