use Rattle.std.proofs.Common.{◌≡◌, ◌+◌, arith, append_assoc, length}
use Rattle.std.proofs.lemmas.List.Elements.{All-rest}
use Rattle.edt_score.specs.Inside.Pairs.{IsPairable, pair_count}
use Rattle.edt_score.proofs.RowTotals.{pair_count-le}
use Rattle.edt_score.proofs.kept_pairs.write_pairs.Goals as goal

pub write_row-requires-clause-room : goal.write_row-requires-clause-room
write_row-requires-clause-room c =
    let rest_is = c.in-Some.ensures.cases.0 in
    let others = length c.in-Some.others.now in
    let opened : c.loop-first.at + (others + pair_count others) ≡ pair_count (length c.args.picks.now) = rw rest_is at c.loop-first.invariant.count in
    let few = pair_count-le (length c.args.picks.now) c.requires.few in
    let room = c.loop-first.invariant.room in
    omega arith

pub loop-first-preserved : goal.loop-first-preserved
loop-first-preserved c =
    let rest_is = c.in-Some.ensures.cases.0 in
    let others = length c.in-Some.others.now in
    let opened : c.loop-first.at + (others + pair_count others) ≡ pair_count (length c.args.picks.now) = rw rest_is at c.loop-first.invariant.count in
    let room = c.loop-first.invariant.room in
    let kept = c.write_row.ensures.room in
    record {
      picks = All-rest IsPairable c.in-Some.first.now c.in-Some.others.now c.loop-first.rest.now rest_is c.loop-first.invariant.picks;
      room = omega arith;
      count = omega arith;
      pairs = rw (c.write_row.ensures.pairs, append_assoc) (rw rest_is at c.loop-first.invariant.pairs);
    }
