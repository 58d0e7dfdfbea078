-- The picks of a valid problem have rows of the field and times near the first pick's.
use Rattle.std.proofs.Common.{ℕ, ℤ, List, [], ◌<◌, ◌≤◌, ◌-ℤ◌, All, zero, suc, arith, length, get_or, unsigned_abs}
use Rattle.std.specs.List.{AllPairs}
use Rattle.std.proofs.lemmas.Int.{ints}
use Rattle.std.proofs.lemmas.List.{get_or_default}
use Rattle.node_boxes.specs.declared.limits.TheConstants.{GREATEST_TIME}
use Rattle.edt_score.specs.declared.problem.ProblemPick.{ProblemPick}
use Rattle.edt_score.specs.declared.problem.Problem.{Problem}
use Rattle.node_boxes.specs.Grid.{node_count}
use Rattle.edt_score.specs.Field.{FieldTimes, IsField, time_at}
use Rattle.edt_score.specs.Inside.Ends.{IsNear, point}
use Rattle.edt_score.specs.Inside.Pairs.{IsReadable}
use Rattle.edt_score.specs.Problem.{AreNear, IsValidProblem}

-- the size of a difference is that of the other way round
far_back : (a b : ℤ) (n : ℕ) → unsigned_abs (a -ℤ b) ≤ n → unsigned_abs (b -ℤ a) ≤ n
far_back a b n near = omega (arith, ints)

near_itself : (a : ℤ) (n : ℕ) → unsigned_abs (a -ℤ a) ≤ n
near_itself a n = omega (arith, ints)

-- each pick is near the first
pub near_first : (picks : List ProblemPick) (first : ProblemPick) → AllPairs AreNear picks → (k : ℕ) (d : ProblemPick) → k < length picks
    → unsigned_abs ((get_or picks k d).time -ℤ (get_or picks 0 first).time) ≤ 2200000000000
near_first picks first near zero d below =
    rw (get_or_default picks 0 d first below) (near_itself (get_or picks 0 first).time 2200000000000)
near_first picks first near (suc k) d below =
    far_back (get_or picks 0 first).time (get_or picks (suc k) d).time 2200000000000
    (rw (get_or_default picks 0 first d (omega arith)) (near 0 (suc k) d (omega arith) below))

pub IsReadable-picks : (field : FieldTimes) (problem : Problem) (first : ProblemPick) → IsValidProblem field problem
    → All (IsReadable field (get_or problem.picks.items 0 first).time) problem.picks.items
IsReadable-picks field problem first valid k d below =
    record { row = (valid.picks k d below).row; near = near_first problem.picks.items first valid.times k d below }

-- the time of a row at a node is at most 2,000,000,000
pub time_at-limit : (field : FieldTimes) (row node : ℕ) → IsField field → row < length field.rows → node < node_count field.grid
    → time_at field row node ≤ GREATEST_TIME
time_at-limit field row node kept in_rows in_nodes =
    let whole = kept.rows row [] in_rows in
    let within : node < length (get_or field.rows row []) = rw whole.one_a_node in_nodes in
    whole.limit node 0 within

-- so a readable pick is near with its time at a node as its span
pub IsNear-points : (field : FieldTimes) (start : ℤ) (node : ℕ) (picks : List ProblemPick) → IsField field → node < node_count field.grid
    → All (IsReadable field start) picks → All (IsNear start (point (time_at field) node)) picks
IsNear-points field start node picks kept in_nodes readable k d below =
    let pick = readable k d below in
    let limit = time_at-limit field (get_or picks k d).row node kept pick.row in_nodes in
    record { close = pick.near; span = record { order = omega arith; limit = omega arith } }
