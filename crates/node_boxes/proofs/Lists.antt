-- Lists that are joined of parts: their elements, lengths and sums, and what holds of each element.
use Rattle.std.proofs.Common.{◌≡◌, ◌⊎◌, inl, inr, ℕ, zero, suc, ◌+◌, ◌-◌, ◌*◌, ◌/◌, ◌%◌, ◌<◌, ◌≤◌, arith, List, [], ◌∷◌, ◌++◌, length, map, refl, ap, sym, ◌∙◌, subst, add-one, sum_by, slice_get, Contains}
use Rattle.std.specs.List.{flat_map, range_with_len, AllByRecursion}
use Rattle.std.specs.Option.{option_and_then}
use Rattle.std.proofs.Math.Nat.{sub-zero}
use Rattle.std.proofs.lemmas.Nat.{div-mul-add, mod-mul-add, div-add-mod', mod_below}
use Rattle.std.proofs.lemmas.Bool.{cases_lt}
use Rattle.std.proofs.lemmas.List.{length-append}
use Rattle.std.proofs.lemmas.List.Sums.{sum_by-cons, sum_by-append}

pub slice_get-append_left : {X : Type 0} (xs ys : List X) (i : ℕ) → i < length xs
    → slice_get (xs ++ ys) i ≡ slice_get xs i
slice_get-append_left [] ys i below = absurd (omega arith)
slice_get-append_left (x ∷ xs) ys zero below = refl
slice_get-append_left (x ∷ xs) ys (suc i) below = slice_get-append_left xs ys i (omega arith)

pub slice_get-append_right : {X : Type 0} (xs ys : List X) (i : ℕ) → length xs ≤ i
    → slice_get (xs ++ ys) i ≡ slice_get ys (i - length xs)
slice_get-append_right [] ys i past = ap (slice_get ys) (sym (sub-zero i))
slice_get-append_right (x ∷ xs) ys zero past = absurd (omega arith)
slice_get-append_right (x ∷ xs) ys (suc i) past =
    let less : i - length xs ≡ suc i - suc (length xs) = omega arith in
    slice_get-append_right xs ys i (omega arith) ∙ ap (slice_get ys) less

-- the parts have the same length
pub length-even : {X Y : Type 0} (f : X → List Y) (w : ℕ) → ((x : X) → length (f x) ≡ w)
    → (xs : List X) → length (flat_map f xs) ≡ length xs * w
length-even f w same [] = omega arith
length-even f w same (x ∷ xs) =
    let more : suc (length xs) * w ≡ w + length xs * w = grind arith in
    length-append (f x) (flat_map f xs) ∙ (omega (arith, same x, length-even f w same xs))

-- one step on in such a list
step_on : (w p : ℕ) → 0 < w → w ≤ p
    → (p / w ≡ (p - w) / w + 1) × (p % w ≡ (p - w) % w)
step_on w p some past =
    let split : (p - w) / w * w + (p - w) % w ≡ p - w = div-add-mod' (p - w) w in
    let more : ((p - w) / w + 1) * w ≡ (p - w) / w * w + w = grind arith in
    let whole : ((p - w) / w + 1) * w + (p - w) % w ≡ p = omega arith in
    let below = mod_below (p - w) w some in (
      ap (λ n. n / w) (sym whole) ∙ div-mul-add ((p - w) / w + 1) w ((p - w) % w) below,
      ap (λ n. n % w) (sym whole) ∙ mod-mul-add ((p - w) / w + 1) w ((p - w) % w) below,
    )

pub slice_get-even : {X Y : Type 0} (f : X → List Y) (w : ℕ) → 0 < w → ((x : X) → length (f x) ≡ w)
    → (xs : List X) (p : ℕ)
    → slice_get (flat_map f xs) p ≡ option_and_then (λ x. slice_get (f x) (p % w)) (slice_get xs (p / w))
slice_get-even f w some same [] p = refl
slice_get-even f w some same (x ∷ xs) p = elim (cases_lt p w) [
  | inl below ↦
      let none : p / w ≡ 0 = ap (λ n. n / w) (sym (omega arith)) ∙ div-mul-add 0 w p below in
      let whole : p % w ≡ p = ap (λ n. n % w) (sym (omega arith)) ∙ mod-mul-add 0 w p below in
      let here : p < length (f x) = omega (arith, same x) in
      rw (none, whole) (slice_get-append_left (f x) (flat_map f xs) p here)
  | inr past ↦
      let on = step_on w p some past in
      let along : p - length (f x) ≡ p - w = ap (λ n. p - n) (same x) in
      let there : length (f x) ≤ p = omega (arith, same x) in
      let next : p / w ≡ suc ((p - w) / w) = on.0 ∙ add-one ((p - w) / w) in
      rw (next, on.1)
      (slice_get-append_right (f x) (flat_map f xs) p there
      ∙ ap (slice_get (flat_map f xs)) along
      ∙ slice_get-even f w some same xs (p - w))
]

pub sum_by-map : {X Y : Type 0} (f : Y → ℕ) (g : X → Y) (xs : List X)
    → sum_by f (map g xs) ≡ sum_by (λ x. f (g x)) xs
sum_by-map f g [] = refl
sum_by-map f g (x ∷ xs) =
    sum_by-cons f (g x) (map g xs) ∙ ap (λ n. f (g x) + n) (sum_by-map f g xs)
    ∙ sym (sum_by-cons (λ y. f (g y)) x xs)

pub sum_by-flat_map : {X Y : Type 0} (f : Y → ℕ) (g : X → List Y) (xs : List X)
    → sum_by f (flat_map g xs) ≡ sum_by (λ x. sum_by f (g x)) xs
sum_by-flat_map f g [] = refl
sum_by-flat_map f g (x ∷ xs) =
    sum_by-append f (g x) (flat_map g xs) ∙ ap (λ n. sum_by f (g x) + n) (sum_by-flat_map f g xs)
    ∙ sym (sum_by-cons (λ y. sum_by f (g y)) x xs)

pub sum_by-same : {X : Type 0} (f g : X → ℕ) → ((x : X) → f x ≡ g x) → (xs : List X)
    → sum_by f xs ≡ sum_by g xs
sum_by-same f g same [] = refl
sum_by-same f g same (x ∷ xs) =
    sum_by-cons f x xs ∙ ap (λ n. n + sum_by f xs) (same x)
    ∙ ap (λ n. g x + n) (sum_by-same f g same xs) ∙ sym (sum_by-cons g x xs)

spread : (c all a rest : ℕ) → all ≡ a + rest → c * all ≡ c * a + c * rest
spread c all a rest is = rw is (grind arith)

pub sum_by-times : {X : Type 0} (c : ℕ) (f : X → ℕ) (xs : List X)
    → sum_by (λ x. c * f x) xs ≡ c * sum_by f xs
sum_by-times c f [] = omega arith
sum_by-times c f (x ∷ xs) =
    sum_by-cons (λ y. c * f y) x xs ∙ ap (λ n. c * f x + n) (sum_by-times c f xs)
    ∙ sym (spread c (sum_by f (x ∷ xs)) (f x) (sum_by f xs) (sum_by-cons f x xs))

spread_right : (c all a rest : ℕ) → all ≡ a + rest → all * c ≡ a * c + rest * c
spread_right c all a rest is = rw is (grind arith)

pub sum_by-times_right : {X : Type 0} (c : ℕ) (f : X → ℕ) (xs : List X)
    → sum_by (λ x. f x * c) xs ≡ sum_by f xs * c
sum_by-times_right c f [] = omega arith
sum_by-times_right c f (x ∷ xs) =
    sum_by-cons (λ y. f y * c) x xs ∙ ap (λ n. f x * c + n) (sum_by-times_right c f xs)
    ∙ sym (spread_right c (sum_by f (x ∷ xs)) (f x) (sum_by f xs) (sum_by-cons f x xs))

pub all-append : {X : Type 0} (P : X → Type 0) (xs ys : List X) → AllByRecursion P xs
    → AllByRecursion P ys → AllByRecursion P (xs ++ ys)
all-append P [] ys before after = after
all-append P (x ∷ xs) ys (here, before) after = (here, all-append P xs ys before after)

pub all-map : {X Y : Type 0} (P : X → Type 0) (Q : Y → Type 0) (f : X → Y)
    → ((x : X) → P x → Q (f x)) → (xs : List X) → AllByRecursion P xs → AllByRecursion Q (map f xs)
all-map P Q f each [] all = tt
all-map P Q f each (x ∷ xs) (here, all) = (each x here, all-map P Q f each xs all)

pub all-flat_map : {X Y : Type 0} (P : X → Type 0) (Q : Y → Type 0) (f : X → List Y)
    → ((x : X) → P x → AllByRecursion Q (f x)) → (xs : List X) → AllByRecursion P xs
    → AllByRecursion Q (flat_map f xs)
all-flat_map P Q f each [] all = tt
all-flat_map P Q f each (x ∷ xs) (here, all) =
    all-append Q (f x) (flat_map f xs) (each x here) (all-flat_map P Q f each xs all)

pub all-weaker : {X : Type 0} (P Q : X → Type 0) → ((x : X) → P x → Q x) → (xs : List X)
    → AllByRecursion P xs → AllByRecursion Q xs
all-weaker P Q each [] all = tt
all-weaker P Q each (x ∷ xs) (here, all) = (each x here, all-weaker P Q each xs all)

pub all-range : (P : ℕ → Type 0) (a n : ℕ) → ((k : ℕ) → a ≤ k → k < a + n → P k)
    → AllByRecursion P (range_with_len a n)
all-range P a zero each = tt
all-range P a (suc n) each = (
  each a (omega arith) (omega arith),
  all-range P (a + 1) n (λ k from to. each k (omega arith) (omega arith)),
)

-- an element is the first one or stands after it
pub first_or_rest : {X : Type 0} (x : X) (xs : List X) (y : X) → Contains (x ∷ xs) y
    → (x ≡ y) ⊎ Contains xs y
first_or_rest x xs y (zero, below, is) = inl is
first_or_rest x xs y (suc k, below, is) = inr (k, omega arith, is)

-- what holds of each element holds of one
pub all-contains : {X : Type 0} (P : X → Type 0) (xs : List X) (x : X) → AllByRecursion P xs
    → Contains xs x → P x
all-contains P [] x all (k, below, is) = absurd (omega arith)
all-contains P (y ∷ xs) x (here, all) at = elim (first_or_rest y xs x at) [
  | inl is ↦ subst P is here
  | inr after ↦ all-contains P xs x all after
]

-- each term is 1 or more, so the sum is at least the length
pub length-le-sum_by : {X : Type 0} (f : X → ℕ) (xs : List X) → AllByRecursion (λ x. 1 ≤ f x) xs
    → length xs ≤ sum_by f xs
length-le-sum_by f [] all = omega arith
length-le-sum_by f (x ∷ xs) (here, all) =
    omega (arith, sum_by-cons f x xs, length-le-sum_by f xs all)

-- of two or more terms of 1 or more, each is less than the sum
pub each_less : {X : Type 0} (f : X → ℕ) (xs : List X) (rest total : ℕ)
    → sum_by f xs + rest ≡ total → 2 ≤ length xs + rest → AllByRecursion (λ x. 1 ≤ f x) xs
    → AllByRecursion (λ x. f x < total) xs
each_less f [] rest total is two all = tt
each_less f (x ∷ xs) rest total is two (here, all) = (
  omega (arith, sum_by-cons f x xs, length-le-sum_by f xs all),
  each_less f xs (rest + f x) total (omega (arith, sum_by-cons f x xs))
      (omega (arith, length-le-sum_by f xs all)) all,
)
