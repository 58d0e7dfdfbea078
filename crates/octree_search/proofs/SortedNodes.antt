-- A list in order is told by how often each number stands in it.
use Rattle.std.proofs.Common.{◌≡◌, ◌⊎◌, inl, inr, ℕ, zero, suc, ◌+◌, ◌≤◌, ◌<◌, arith, Bool, true, false, cond, List, [], ◌∷◌, length, get_or, refl, ap, sym, ◌∙◌, sum_by, filter, map}
use Rattle.std.specs.Prelude.{◌==◌}
use Rattle.std.specs.List.{AllByRecursion, range_with_len}
use Rattle.std.proofs.lemmas.Bool.{cases_eq, cases_lt}
use Rattle.std.proofs.lemmas.Bool.Decides.{nat_tests}
use Rattle.std.proofs.lemmas.List.Sums.{sum_by-cons}
use Rattle.octree_search.proofs.Choices.{by_test}

-- whether a number is this one
abbrev pub hit : ℕ → ℕ → ℕ
hit k x = cond (x == k) 1 0

-- each number is at most those after it
abbrev pub Ascends : List ℕ → Type 0
Ascends [] = Unit {0}
Ascends (x ∷ xs) = AllByRecursion (λ y. x ≤ y) xs × Ascends xs

pub hit_same : (k : ℕ) → hit k k ≡ 1
hit_same k = let is : (k == k) ≡ true = grind (arith, nat_tests) in ap (λ b. cond {A = ℕ} b 1 0) is

pub hit_other : (k x : ℕ) → (x ≡ k → ⊥) → hit k x ≡ 0
hit_other k x other = hit_other-by (by_test (x == k))
  where
    hit_other-by : ((x == k) ≡ true) ⊎ ((x == k) ≡ false) → hit k x ≡ 0
    hit_other-by (inl same) = absurd (other (grind (arith, nat_tests)))
    hit_other-by (inr not_same) = ap (λ b. cond {A = ℕ} b 1 0) not_same

-- a number below all others doesn't stand among them
pub not_among : (k : ℕ) (xs : List ℕ) → AllByRecursion (λ y. k < y) xs → sum_by (hit k) xs ≡ 0
not_among k [] all = refl
not_among k (x ∷ xs) (here, all) = omega (arith, sum_by-cons (hit k) x xs, hit_other k x (λ same. absurd (omega (arith, here, same))), not_among k xs all)

-- numbers from k on that don't hold k are from k + 1 on
pub from_next : (k n : ℕ) (xs : List ℕ) → AllByRecursion (λ x. (k ≤ x) × (x < k + suc n)) xs → sum_by (hit k) xs ≡ 0
    → AllByRecursion (λ x. (k + 1 ≤ x) × (x < k + 1 + n)) xs
from_next k n [] all none = tt
from_next k n (x ∷ xs) (here, all) none =
    let parts : hit k x + sum_by (hit k) xs ≡ 0 = sym (sum_by-cons (hit k) x xs) ∙ none in (
      elim (cases_eq x k) [
        | inl same ↦ absurd (let one : hit k x ≡ 1 = ap (hit k) same ∙ hit_same k in omega (arith, parts, one))
        | inr other ↦ (let low = here.0 in cases_up k x low other, omega (arith, here.1))
      ],
      from_next k n xs all (omega (arith, parts)),
    )
  where
    cases_up : (k x : ℕ) → k ≤ x → (x ≡ k → ⊥) → k + 1 ≤ x
    cases_up k x low other = elim (cases_lt k x) [
      | inl less ↦ omega (arith, less)
      | inr more ↦ absurd (other (omega (arith, low, more)))
    ]

-- so a list in order, within a range, in which each number of the range stands once where a test holds and else not, is the range's
-- numbers that pass the test
pub sorted_is : (p : ℕ → Bool) (from n : ℕ) (xs : List ℕ) → Ascends xs → AllByRecursion (λ x. (from ≤ x) × (x < from + n)) xs
    → ((k : ℕ) → from ≤ k → k < from + n → sum_by (hit k) xs ≡ cond (p k) 1 0) → xs ≡ filter p (range_with_len from n)
sorted_is p from zero [] ascends within counts = refl
sorted_is p from zero (x ∷ xs) ascends (here, within) counts = absurd (omega (arith, here.0, here.1))
sorted_is p from (suc n) xs ascends within counts = elim (by_test (p from)) [
  | inl passes ↦ sorted_first xs ascends within
      (counts from (omega arith) (omega arith) ∙ ap (λ b. cond {A = ℕ} b 1 0) passes)
      (λ k low high. counts k (omega (arith, low)) (omega (arith, high))) passes (λ rest asc in_range cs. sorted_is p (from + 1) n rest asc in_range cs)
  | inr fails ↦
      let none : sum_by (hit from) xs ≡ 0 = counts from (omega arith) (omega arith) ∙ ap (λ b. cond {A = ℕ} b 1 0) fails in
      sorted_is p (from + 1) n xs ascends (from_next from n xs within none) (λ k low high. counts k (omega (arith, low)) (omega (arith, high)))
      ∙ sym (filter_fails fails)
]
  where
    filter_fails : p from ≡ false → filter p (range_with_len from (suc n)) ≡ filter p (range_with_len (from + 1) n)
    filter_fails fails = rw fails refl

    sorted_first : (xs : List ℕ) → Ascends xs → AllByRecursion (λ x. (from ≤ x) × (x < from + suc n)) xs → sum_by (hit from) xs ≡ 1
        → ((k : ℕ) → from + 1 ≤ k → k < from + 1 + n → sum_by (hit k) xs ≡ cond (p k) 1 0) → p from ≡ true
        → ((rest : List ℕ) → Ascends rest → AllByRecursion (λ x. (from + 1 ≤ x) × (x < from + 1 + n)) rest
        → ((k : ℕ) → from + 1 ≤ k → k < from + 1 + n → sum_by (hit k) rest ≡ cond (p k) 1 0) → rest ≡ filter p (range_with_len (from + 1) n))
        → xs ≡ filter p (range_with_len from (suc n))
    sorted_first [] ascends in_range one cs passes recur = absurd (omega (arith, one))
    sorted_first (x ∷ rest) (low, ascends) (here, in_range) one cs passes recur =
        let parts : hit from x + sum_by (hit from) rest ≡ 1 = sym (sum_by-cons (hit from) x rest) ∙ one in
        elim (cases_eq x from) [
          | inl same ↦
              let first : hit from x ≡ 1 = ap (hit from) same ∙ hit_same from in
              let none : sum_by (hit from) rest ≡ 0 = omega (arith, parts, first) in
              let tail : rest ≡ filter p (range_with_len (from + 1) n) =
              recur rest ascends (from_next from n rest in_range none) (λ k low' high.
              let other : hit k x ≡ 0 = hit_other k x (λ is. absurd (omega (arith, low', is, same))) in
              let whole : sum_by (hit k) (x ∷ rest) ≡ hit k x + sum_by (hit k) rest = sum_by-cons (hit k) x rest in
              omega (arith, whole, other, cs k low' high)) in
              ap (λ y. y ∷ rest) same ∙ ap (λ more. from ∷ more) tail ∙ sym (filter_passes passes)
          | inr other ↦
              let none : hit from x ≡ 0 = hit_other from x other in
              absurd (
              let more : sum_by (hit from) rest ≡ 0 = not_among from rest (above x rest low here.0 other) in
              omega (arith, parts, none, more))
        ]
      where
        filter_passes : p from ≡ true → filter p (range_with_len from (suc n)) ≡ from ∷ filter p (range_with_len (from + 1) n)
        filter_passes passes = rw passes refl

        above : (x : ℕ) (rest : List ℕ) → AllByRecursion (λ y. x ≤ y) rest → from ≤ x → (x ≡ from → ⊥) → AllByRecursion (λ y. from < y) rest
        above x [] low begins other = tt
        above x (y ∷ rest) (here, low) begins other = (
          elim (cases_lt from y) [
            | inl less ↦ less
            | inr more ↦ absurd (other (omega (arith, here, begins, more)))
          ],
          above x rest low begins other,
        )

-- numbers that don't fall ascend
pub ascends_from : {X : Type 0} (n : X → ℕ) (xs : List X) → ((i j : ℕ) (d : X) → i ≤ j → j < length xs → n (get_or xs i d) ≤ n (get_or xs j d))
    → Ascends (map n xs)
ascends_from n [] order = tt
ascends_from n (x ∷ xs) order = (
  first_least n x xs (λ k d below. order 0 (suc k) d (omega arith) (omega (arith, below))),
  ascends_from n xs (λ i j d low below. order (suc i) (suc j) d (omega (arith, low)) (omega (arith, below))),
)
  where
    first_least : {X : Type 0} (n : X → ℕ) (x : X) (xs : List X) → ((k : ℕ) (d : X) → k < length xs → n x ≤ n (get_or xs k d))
        → AllByRecursion (λ y. n x ≤ y) (map n xs)
    first_least n x [] low = tt
    first_least n x (y ∷ xs) low = (low 0 y (omega arith), first_least n x xs (λ k d below. low (suc k) d (omega (arith, below))))
