-- The numbers that stand in a piece of a body.
use Rattle.std.proofs.Common.{◌≡◌, ℕ, ◌+◌, ◌*◌, ◌-◌, ◌<◌, List, get_or, take, drop, arith, refl, add-zero, ◌∙◌}
use Rattle.std.proofs.lemmas.List.{get_or-take, get_or-drop}
use Rattle.time_grid.specs.declared.numbers.ByteOrder.{ByteOrder}
use Rattle.time_grid.specs.Numbers.{number_at, number_of_four}

-- the bytes of a part
pub part_at : (bytes : List ℕ) (n m i : ℕ) → i < m → get_or (take m (drop n bytes)) i 0 ≡ get_or bytes (n + i) 0
part_at bytes n m i below = get_or-take m (drop n bytes) i 0 below ∙ get_or-drop n bytes i 0

same_four : (order : ByteOrder) (xs ys : List ℕ) (j k : ℕ) → get_or xs (4 * j) 0 ≡ get_or ys (4 * k) 0
    → get_or xs (4 * j + 1) 0 ≡ get_or ys (4 * k + 1) 0 → get_or xs (4 * j + 2) 0 ≡ get_or ys (4 * k + 2) 0
    → get_or xs (4 * j + 3) 0 ≡ get_or ys (4 * k + 3) 0 → number_at order xs j ≡ number_at order ys k
unfolding number_at
same_four order xs ys j k a b c d = rw (a, b, c, d) refl

-- two lists write the same number where their four bytes are the same
pub same_number : (order : ByteOrder) (xs ys : List ℕ) (j k : ℕ) → ((i : ℕ) → i < 4 → get_or xs (4 * j + i) 0 ≡ get_or ys (4 * k + i) 0)
    → number_at order xs j ≡ number_at order ys k
same_number order xs ys j k same =
    let first : get_or xs (4 * j) 0 ≡ get_or ys (4 * k) 0 = simp (add-zero) at (same 0 (omega arith)) in
    same_four order xs ys j k first (same 1 (omega arith)) (same 2 (omega arith)) (same 3 (omega arith))

-- the number that the four bytes of one node write
pub number_of_part : (order : ByteOrder) (bytes : List ℕ) (k r : ℕ)
    → (let four = take (4 * k + 4 - 4 * k) (drop (4 * k) bytes) in r ≡ number_of_four order (get_or four 0 0) (get_or four 1 0) (get_or four 2 0) (get_or four 3 0))
    → r ≡ number_at order bytes k
unfolding number_at
number_of_part order bytes k r e =
    let part = part_at bytes (4 * k) (4 * k + 4 - 4 * k) in
    let first : get_or (take (4 * k + 4 - 4 * k) (drop (4 * k) bytes)) 0 0 ≡ get_or bytes (4 * k) 0 = simp add-zero at (part 0 (omega arith)) in
    e ∙ rw (first, part 1 (omega arith), part 2 (omega arith), part 3 (omega arith)) refl
