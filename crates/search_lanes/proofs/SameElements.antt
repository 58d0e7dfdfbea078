-- Lists whose sums are the same by every weight have the same elements.
use Rattle.std.proofs.Common.{◌≡◌, inl, inr, ℕ, suc, ◌≤◌, arith, Bool, true, cond, List, [], ◌∷◌, ◌++◌, refl, ap, sym, subst, sum_by, Contains}
use Rattle.std.specs.Prelude.{◌&&◌, ◌==◌}
use Rattle.std.specs.List.{AllByRecursion, remove}
use Rattle.std.specs.List.Sorted.{IsPermutation}
use Rattle.std.proofs.lemmas.Bool.Decides.{nat_tests}
use Rattle.std.proofs.lemmas.List.{append_assoc}
use Rattle.std.proofs.lemmas.List.Elements.{All-from_recursion, recursion_from_All}
use Rattle.std.proofs.lemmas.List.Sorted.{All-permutation, IsPermutation-append, IsPermutation-append_comm, IsPermutation-cons, IsPermutation-refl, IsPermutation-remove, IsPermutation-sym, IsPermutation-trans, sum_by-IsPermutation}
use Rattle.std.proofs.lemmas.List.Sums.{sum_by-cons}
use Rattle.node_boxes.specs.declared.node_box.BoxBound.{BoxBound}
use Rattle.octree_search.proofs.Choices.{by_test}

-- what holds of each element of a list holds of each of the same elements
pub all_permuted : {X : Type 0} (P : X → Type 0) (xs ys : List X) → IsPermutation xs ys → AllByRecursion P xs → AllByRecursion P ys
all_permuted P xs ys same all = recursion_from_All P ys (All-permutation P xs ys same (All-from_recursion P xs all))

-- two parts change places before a third
pub fronts_changed : {X : Type 0} (xs ys zs : List X) → IsPermutation (xs ++ (ys ++ zs)) (ys ++ (xs ++ zs))
fronts_changed xs ys zs =
    subst (λ all. IsPermutation all (ys ++ (xs ++ zs))) (append_assoc xs ys zs)
    (subst (IsPermutation ((xs ++ ys) ++ zs)) (append_assoc ys xs zs)
    (IsPermutation-append (xs ++ ys) (ys ++ xs) zs zs (IsPermutation-append_comm xs ys) (IsPermutation-refl zs)))

-- an element stands in a list in which it counts
pub counted_there : {X : Type 0} (same : X → X → Bool) → ((x y : X) → same x y ≡ true → x ≡ y) → (x : X) (ys : List X)
    → 1 ≤ sum_by (λ y. cond {A = ℕ} (same x y) 1 0) ys → Contains ys x
counted_there same is_same x [] some = absurd (omega (arith, some))
counted_there same is_same x (y ∷ ys) some = elim (by_test (same x y)) [
  | inl is ↦ (0, omega arith, sym (is_same x y is))
  | inr other ↦
      let none : cond {A = ℕ} (same x y) 1 0 ≡ 0 = ap (λ b. cond {A = ℕ} b 1 0) other in
      let at = counted_there same is_same x ys (omega (arith, some, none, sum_by-cons (λ z. cond {A = ℕ} (same x z) 1 0) y ys)) in
      (suc at.0, omega (arith, at.1), at.2)
]

-- lists with the same sums have the same elements
pub same_sums : {X : Type 0} (same : X → X → Bool) → ((x y : X) → same x y ≡ true → x ≡ y) → ((x : X) → same x x ≡ true)
    → (xs ys : List X) → ((f : X → ℕ) → sum_by f xs ≡ sum_by f ys) → IsPermutation xs ys
same_sums same is_same itself [] [] all = IsPermutation-refl []
same_sums same is_same itself [] (y ∷ ys) all = absurd (omega (arith, all (λ _. 1), sum_by-cons (λ _. 1) y ys))
same_sums same is_same itself (x ∷ xs) ys all =
    let here : cond {A = ℕ} (same x x) 1 0 ≡ 1 = ap (λ b. cond {A = ℕ} b 1 0) (itself x) in
    let some : 1 ≤ sum_by (λ y. cond {A = ℕ} (same x y) 1 0) ys =
    omega (arith, here, all (λ y. cond {A = ℕ} (same x y) 1 0), sum_by-cons (λ y. cond {A = ℕ} (same x y) 1 0) x xs) in
    let at = counted_there same is_same x ys some in
    let front : IsPermutation ys (x ∷ remove ys at.0) = IsPermutation-remove ys at.0 x at.1 (sym at.2) in
    let rest = same_sums same is_same itself xs (remove ys at.0) (λ f.
    omega (arith, all f, sum_by-IsPermutation f ys (x ∷ remove ys at.0) front, sum_by-cons f x xs, sum_by-cons f x (remove ys at.0))) in
    IsPermutation-trans (x ∷ xs) (x ∷ remove ys at.0) ys (IsPermutation-cons x xs (remove ys at.0) rest)
    (IsPermutation-sym ys (x ∷ remove ys at.0) front)

-- whether two boxes with bounds are the same
abbrev pub same_box : BoxBound → BoxBound → Bool
same_box a b = (a.bound == b.bound) && (a.area.x0 == b.area.x0) && (a.area.x1 == b.area.x1) && (a.area.y0 == b.area.y0)
    && (a.area.y1 == b.area.y1) && (a.area.z0 == b.area.z0) && (a.area.z1 == b.area.z1)

pub same_box-true : (a b : BoxBound) → same_box a b ≡ true → a ≡ b
same_box-true a b same =
    let bound : a.bound ≡ b.bound = grind (arith, nat_tests) in
    let x0 : a.area.x0 ≡ b.area.x0 = grind (arith, nat_tests) in
    let x1 : a.area.x1 ≡ b.area.x1 = grind (arith, nat_tests) in
    let y0 : a.area.y0 ≡ b.area.y0 = grind (arith, nat_tests) in
    let y1 : a.area.y1 ≡ b.area.y1 = grind (arith, nat_tests) in
    let z0 : a.area.z0 ≡ b.area.z0 = grind (arith, nat_tests) in
    let z1 : a.area.z1 ≡ b.area.z1 = grind (arith, nat_tests) in
    let made : record {
      area = record { x0 = a.area.x0; x1 = a.area.x1; y0 = a.area.y0; y1 = a.area.y1; z0 = a.area.z0; z1 = a.area.z1 };
      bound = a.bound;
    } ≡ b = rw (bound, x0, x1, y0, y1, z0, z1) refl in
    made

pub same_box-itself : (a : BoxBound) → same_box a a ≡ true
same_box-itself a = grind (arith, nat_tests)

-- lists of boxes with the same sums have the same boxes
pub same_boxes : (xs ys : List BoxBound) → ((f : BoxBound → ℕ) → sum_by f xs ≡ sum_by f ys) → IsPermutation xs ys
same_boxes xs ys all = same_sums same_box same_box-true same_box-itself xs ys all
