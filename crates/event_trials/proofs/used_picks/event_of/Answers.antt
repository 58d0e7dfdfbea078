use Rattle.std.proofs.Common.{◌≡◌, ◌≤◌, suc, List, [], ◌∷◌, All, length, pos, arith}
use Rattle.std.proofs.lemmas.Bool.Decides.{nat_tests}
use Rattle.std.proofs.lemmas.Int.{ints}
use Rattle.phase_reader.specs.Limits.{AreNearFirst}
use Rattle.phase_reader.specs.declared.phases.Pick.{Pick}
use Rattle.event_trials.proofs.used_picks.event_of.Goals as goal

-- picks of one time are near the first
near_first : (picks : List Pick) → All (λ (pick : Pick). pick.time ≡ pos 0) picks → AreNearFirst picks
near_first [] still = tt
near_first (first ∷ picks) still =
    λ k d below.
    let here : first.time ≡ pos 0 = still 0 first (omega arith) in
    let there = still (suc k) d (omega arith) in
    omega (arith, ints, here, there)

pub returns : goal.returns
returns c =
    let rows : 1 ≤ length c.args.rows.now = grind (arith, nat_tests, c.if-is_empty.ensures) in
    record {
      some = omega (arith, c.loop-row.invariant.count);
      few = omega (arith, c.loop-row.invariant.count);
      picks = c.loop-row.invariant.good;
      near = near_first c.loop-row.picks.items c.loop-row.invariant.still;
    }
