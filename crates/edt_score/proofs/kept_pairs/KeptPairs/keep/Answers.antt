use Rattle.std.proofs.Common.{◌∙◌, arith, ap, length}
use Rattle.edt_score.proofs.FamilyBounds.{written}
use Rattle.edt_score.proofs.RowTotals.{pair_count-le}
use Rattle.edt_score.proofs.kept_pairs.KeptPairs.keep.Goals as goal

pub invariant_of-self : goal.invariant_of-self
invariant_of-self c =
    let few = pair_count-le (length c.args.picks.now) c.requires.few in
    let count = c.write_pairs-self-inside.ensures.count in
    let room = c.write_pairs-self-inside.ensures.room in
    let kept = c.self.invariant.pairs_room in
    let value = ap length c.deref_mut.ensures.value in
    let len = c.deref_mut.ensures.len in
    record {
      count = omega arith;
      pairs_room = ap length (written c.self.inside.pairs.len c.write_pairs-self-inside.new.room _ (omega arith)) ∙ omega arith;
      ends_room = c.self.invariant.ends_room;
    }
