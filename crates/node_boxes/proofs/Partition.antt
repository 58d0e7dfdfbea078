-- Numbers that add up along a range add up over the boxes that ranges make.
use Rattle.std.proofs.Common.{◌≡◌, ℕ, zero, suc, ◌+◌, ◌-◌, ◌*◌, ◌/◌, ◌≤◌, arith, List, [], ◌∷◌, map, ap, ◌∙◌, Bool, true, false, cond, nat_le, nat_lt, ◌&&◌, sum_by, add-one, subst}
use Rattle.std.specs.List.{flat_map, range_with_len}
use Rattle.std.proofs.Math.Nat.{zero-div, div-mul-le_self, mul-div_cancel_left}
use Rattle.std.proofs.lemmas.Nat.{le-div}
use Rattle.std.proofs.lemmas.Bool.Decides.{nat_tests}
use Rattle.std.proofs.lemmas.List.FromFn.{sum_by-map-range_with_len_more}
use Rattle.node_boxes.specs.declared.node_box.NodeBox.{NodeBox}
use Rattle.node_boxes.specs.Boxes.{contains}
use Rattle.node_boxes.specs.BoxLists.{box_of, boxes_of}
use Rattle.node_boxes.specs.Children.{halves}
use Rattle.node_boxes.specs.Roots.{part, parts}
use Rattle.node_boxes.proofs.Lists.{sum_by-map, sum_by-flat_map, sum_by-same, sum_by-times, sum_by-times_right}

-- the product of three numbers, one for each range of a box
abbrev pub weigh : (ℕ × ℕ → ℕ) → (ℕ × ℕ → ℕ) → (ℕ × ℕ → ℕ) → NodeBox → ℕ
weigh f g h a = f (a.x0, a.x1) * (g (a.y0, a.y1) * h (a.z0, a.z1))

sum_row : (f g h : ℕ × ℕ → ℕ) (x y : ℕ × ℕ) (zs : List (ℕ × ℕ))
    → sum_by (weigh f g h) (map (box_of x y) zs) ≡ f x * (g y * sum_by h zs)
sum_row f g h x y zs =
    sum_by-map (weigh f g h) (box_of x y) zs
    ∙ sum_by-times (f x) (λ z. g y * h z) zs
    ∙ ap (λ n. f x * n) (sum_by-times (g y) h zs)

sum_slab : (f g h : ℕ × ℕ → ℕ) (x : ℕ × ℕ) (ys zs : List (ℕ × ℕ))
    → sum_by (weigh f g h) (flat_map (λ y. map (box_of x y) zs) ys) ≡ f x * (sum_by g ys * sum_by h zs)
sum_slab f g h x ys zs =
    sum_by-flat_map (weigh f g h) (λ y. map (box_of x y) zs) ys
    ∙ sum_by-same (λ y. sum_by (weigh f g h) (map (box_of x y) zs)) (λ y. f x * (g y * sum_by h zs))
    (λ y. sum_row f g h x y zs) ys
    ∙ sum_by-times (f x) (λ y. g y * sum_by h zs) ys
    ∙ ap (λ n. f x * n) (sum_by-times_right (sum_by h zs) g ys)

pub sum_boxes : (f g h : ℕ × ℕ → ℕ) (xs ys zs : List (ℕ × ℕ))
    → sum_by (weigh f g h) (boxes_of xs ys zs) ≡ sum_by f xs * (sum_by g ys * sum_by h zs)
sum_boxes f g h xs ys zs =
    sum_by-flat_map (weigh f g h) (λ x. flat_map (λ y. map (box_of x y) zs) ys) xs
    ∙ sum_by-same (λ x. sum_by (weigh f g h) (flat_map (λ y. map (box_of x y) zs) ys))
    (λ x. f x * (sum_by g ys * sum_by h zs)) (λ x. sum_slab f g h x ys zs) xs
    ∙ sum_by-times_right (sum_by g ys * sum_by h zs) f xs

-- the numbers of two ranges that meet add up to that of both together
abbrev pub AddsUp : (ℕ × ℕ → ℕ) → Type 0
AddsUp f = (a b c : ℕ) → a ≤ b → b ≤ c → f (a, b) + f (b, c) ≡ f (a, c)

sum_choice : (f : ℕ × ℕ → ℕ) (low middle high : ℕ) → f (low, middle) + f (middle, high) ≡ f (low, high)
    → (b : Bool)
    → sum_by f (cond b ((low, high) ∷ []) ((low, middle) ∷ (middle, high) ∷ [])) ≡ f (low, high)
sum_choice f low middle high is true = omega arith
sum_choice f low middle high is false = omega arith

pub sum_halves : (f : ℕ × ℕ → ℕ) → AddsUp f → (low high : ℕ) → low ≤ high
    → sum_by f (halves low high) ≡ f (low, high)
sum_halves f adds low high order =
    let middle = low + (high - low + 1) / 2 in
    sum_choice f low middle high (adds low middle high (omega arith) (omega arith))
    (nat_le (high - low) 1)

pub div_up : (a b n : ℕ) → 1 ≤ n → a ≤ b → a / n ≤ b / n
div_up a b n some order = le-div (a / n) b n (omega arith) (omega (arith, div-mul-le_self a n))

sum_front : (f : ℕ × ℕ → ℕ) → AddsUp f → (nodes n k : ℕ) → 1 ≤ n
    → sum_by f (map (part nodes n) (range_with_len 0 k)) ≡ f (0, k * nodes / n)
sum_front f adds nodes n zero some =
    let none : 0 * nodes / n ≡ 0 = ap (λ m. m / n) (omega arith) ∙ zero-div n in
    let empty = adds 0 0 0 (omega arith) (omega arith) in
    rw none (omega arith)
sum_front f adds nodes n (suc k) some =
    let order : k * nodes ≤ (k + 1) * nodes = grind arith in
    let P : ℕ → Type 0 = λ m.
    sum_by f (map (part nodes n) (range_with_len 0 m)) ≡ f (0, m * nodes / n) in
    let more : P (k + 1) =
    sum_by-map-range_with_len_more f (part nodes n) 0 k k (omega arith)
    ∙ ap (λ m. m + f (part nodes n k)) (sum_front f adds nodes n k some)
    ∙ adds 0 (k * nodes / n) ((k + 1) * nodes / n) (omega arith)
    (div_up (k * nodes) ((k + 1) * nodes) n some order) in
    subst P (add-one k) more

pub sum_parts : (f : ℕ × ℕ → ℕ) → AddsUp f → (nodes n : ℕ) → 1 ≤ n
    → sum_by f (parts nodes n) ≡ f (0, nodes)
sum_parts f adds nodes n some =
    sum_front f adds nodes n n some ∙ ap (λ m. f (0, m)) (mul-div_cancel_left nodes (omega arith))

-- how many nodes a range has
abbrev pub places : ℕ × ℕ → ℕ
places range = range.1 - range.0

pub places-adds : AddsUp places
places-adds a b c low high = omega arith

-- 1 where a range holds the place, else 0
abbrev pub at : ℕ → ℕ × ℕ → ℕ
at i range = cond (nat_le range.0 i && nat_lt i range.1) 1 0

pub at-adds : (i : ℕ) → AddsUp (at i)
at-adds i a b c low high = grind (arith, nat_tests)

pub contains-at : (ix iy iz : ℕ) (a : NodeBox)
    → cond (contains a ix iy iz) 1 0 ≡ weigh (at ix) (at iy) (at iz) a
contains-at ix iy iz a = grind (arith, nat_tests)
