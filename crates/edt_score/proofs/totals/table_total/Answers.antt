use Rattle.std.proofs.Common.{arith, length}
use Rattle.edt_score.proofs.RowTotals.{pair_count-le, pair_count-rest, table_step}
use Rattle.edt_score.proofs.totals.table_total.Goals as goal

pub overflow_add-sum : goal.overflow_add-sum
overflow_add-sum g c =
    let few = pair_count-le (length c.args.ends.now) c.requires.few in
    let lengths = c.requires.lengths in
    let before = c.loop-first.invariant.bound in
    let parts = c.split_at.ensures.back_len in
    let row = c.row_total-sum.ensures.bound in
    omega arith

pub loop-first-preserved : goal.loop-first-preserved
loop-first-preserved g c =
    let rest_is = c.in-Some.ensures.cases.0 in
    let shorter = c.in-Some.ensures.cases.1 in
    let before = c.loop-first.invariant in
    let parts = c.split_at.ensures.back_len in
    let row = c.row_total-sum.ensures.bound in
    record {
      few = omega arith;
      lengths = pair_count-rest c.in-Some.first.now c.loop-first.rest.now c.in-Some.others.now _ _ rest_is before.lengths parts;
      total = table_step (g.V.Values.shape c.args.values.now) c.in-Some.first.now c.loop-first.rest.now c.in-Some.others.now
          c.loop-first.left.now c.split_at.result.0.now c.split_at.result.1.now c.loop-first.sum c.row_total-sum.result _
          rest_is c.split_at.ensures.front c.split_at.ensures.back c.row_total-sum.ensures.value before.total;
      bound = omega arith;
    }
