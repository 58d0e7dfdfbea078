-- The first fault of a body.
use Rattle.std.proofs.Common.{◌≡◌, ℕ, ◌*◌, ◌<◌, List, length, get_or, Option, Some, None, option_map, position, arith, refl}
use Rattle.std.proofs.lemmas.Bool.{lt-ltb, le-ltb}
use Rattle.std.proofs.lemmas.List.FromFn.{length-map-range_with_len, get_or-map-range_with_len}
use Rattle.node_boxes.specs.declared.limits.TheConstants.{GREATEST_TIME}
use Rattle.time_grid.specs.declared.numbers.ByteOrder.{ByteOrder}
use Rattle.time_grid.specs.declared.faults.GridFault.TheVariants.{Short, Long, TimeLimit}
use Rattle.time_grid.specs.Bodies.{body_fault}
use Rattle.time_grid.specs.Numbers.{body_times, is_over, number_at}
use Rattle.time_grid.specs.Inside.Judging.{IsFirstOver}
use Rattle.time_grid.proofs.PositionLaws.{position_is, position_is_none}

pub length-body_times : (order : ByteOrder) (bytes : List ℕ) (n : ℕ) → length (body_times order bytes n) ≡ n
unfolding body_times
length-body_times order bytes n = length-map-range_with_len (number_at order bytes) 0 n

pub body_times-at : (order : ByteOrder) (bytes : List ℕ) (n k : ℕ) → k < n → get_or (body_times order bytes n) k 0 ≡ number_at order bytes k
unfolding body_times
body_times-at order bytes n k below = get_or-map-range_with_len (number_at order bytes) 0 n k k 0 below (omega arith)

pub first_over_is : (order : ByteOrder) (bytes : List ℕ) (n : ℕ) (over : Option ℕ) → IsFirstOver (number_at order bytes) n over
    → position is_over (body_times order bytes n) ≡ over
first_over_is order bytes n None none =
    let long = length-body_times order bytes n in
    position_is_none is_over (body_times order bytes n) (λ k below.
    rw (body_times-at order bytes n k (omega arith)) (le-ltb GREATEST_TIME (number_at order bytes k) (none k (omega arith))))
first_over_is order bytes n (Some first) (inside, over, none) =
    let long = length-body_times order bytes n in
    position_is is_over (body_times order bytes n) first (omega arith)
    (rw (body_times-at order bytes n first inside) (lt-ltb GREATEST_TIME (number_at order bytes first) over))
    (λ k below. rw (body_times-at order bytes n k (omega arith)) (le-ltb GREATEST_TIME (number_at order bytes k) (none k below)))

pub fault_short : (order : ByteOrder) (bytes : List ℕ) (n : ℕ) → length bytes < 4 * n → body_fault order bytes n ≡ Some Short
unfolding body_fault
fault_short order bytes n short = rw (lt-ltb (length bytes) (4 * n) short) refl

pub fault_long : (order : ByteOrder) (bytes : List ℕ) (n : ℕ) → 4 * n < length bytes → body_fault order bytes n ≡ Some Long
unfolding body_fault
fault_long order bytes n long = rw (le-ltb (length bytes) (4 * n) (omega arith), lt-ltb (4 * n) (length bytes) long) refl

pub fault_of_times : (order : ByteOrder) (bytes : List ℕ) (n : ℕ) (over : Option ℕ) → length bytes ≡ 4 * n → IsFirstOver (number_at order bytes) n over
    → body_fault order bytes n ≡ option_map TimeLimit over
unfolding body_fault
fault_of_times order bytes n over exact first =
    rw (le-ltb (length bytes) (4 * n) (omega arith), le-ltb (4 * n) (length bytes) (omega arith), first_over_is order bytes n over first) refl
