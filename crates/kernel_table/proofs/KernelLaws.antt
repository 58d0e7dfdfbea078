-- What callers need of the kernels: each value is at most 2^20, never rises with the misfit and never
-- falls with the scale.
use Rattle.std.proofs.Common.{◌≡◌, ℕ, zero, suc, ◌+◌, ◌-◌, ◌*◌, ◌/◌, ◌^◌, ◌<◌, ◌≤◌, refl, sym, ap, ◌∙◌, inl, inr, arith, lit≤}
use Rattle.std.proofs.Math.Nat.{div-mul-le_self, mul-le-mul_left, mul-le-mul_right, le_of_mul-le-mul_right, div-le_of_le-mul}
use Rattle.std.proofs.lemmas.Nat.{le-div}
use Rattle.std.proofs.lemmas.Bool.{cases_lt, cond-true, cond-false, lt-ltb, le-ltb, le-leb, lt-leb}
use Rattle.std.proofs.lemmas.Bool.Decides.{nat_tests}
use Rattle.kernel_table.specs.declared.kernels.Shape.{Shape}
use Rattle.kernel_table.specs.declared.kernels.Shape.TheVariants.{Gauss, Triangle, Count}
use Rattle.kernel_table.specs.Kernel.{gauss_row, gauss_entry, gauss_value, triangle_value, count_value, kernel_value}

-- a factor is at most 1
pub factor-le : (i : ℕ) → (gauss_row i).factor ≤ 2 ^ 32
unfolding gauss_row
factor-le zero = lit≤ tt
factor-le (suc i) = omega (arith, factor-le i)

-- the entry after an entry is no greater
entry-falls : (i : ℕ) → (gauss_row (suc i)).entry ≤ (gauss_row i).entry
unfolding gauss_row
entry-falls i = let most = mul-le-mul_left (gauss_row i).entry (factor-le i) in div-le_of_le-mul (2 ^ 32) (omega (arith, most))

-- nor is that of the same row
same_row : (i j : ℕ) → i ≡ j → (gauss_row j).entry ≤ (gauss_row i).entry
same_row i j e = omega (arith, ap (λ k. (gauss_row k).entry) e)

-- nor is any later one
row-never_rises : (i j : ℕ) → i ≤ j → (gauss_row j).entry ≤ (gauss_row i).entry
row-never_rises i zero h = same_row i zero (omega arith)
row-never_rises i (suc j) h = elim (cases_lt j i) [
  | inl last ↦ same_row i (suc j) (omega arith)
  | inr before ↦ omega (arith, entry-falls j, row-never_rises i j before)
]

-- the table has ended by 232
entry-232 : (gauss_row 232).entry ≡ 0
unfolding gauss_row
entry-232 = refl

-- so every entry from there on is 0
row-zero : (i : ℕ) → 232 ≤ i → (gauss_row i).entry ≡ 0
row-zero i far = omega (arith, row-never_rises 232 i far, entry-232)

-- and the table's end at 256 cuts nothing off
pub gauss_entry-row : (i : ℕ) → gauss_entry i ≡ (gauss_row i).entry
unfolding gauss_entry
gauss_entry-row i = elim (cases_lt i 256) [ inl within ↦ cond-true _ _ _ (lt-ltb i 256 within) | inr past ↦ cond-false _ _ _ (le-ltb i 256 past) ∙ sym (row-zero i (omega arith)) ]

-- no entry of the table is greater than an earlier one
pub gauss_entry-never_rises : (i j : ℕ) → i ≤ j → gauss_entry j ≤ gauss_entry i
gauss_entry-never_rises i j h = omega (arith, row-never_rises i j h, gauss_entry-row i, gauss_entry-row j)

-- the entries from 232 on are 0
pub gauss_entry-zero : (i : ℕ) → 232 ≤ i → gauss_entry i ≡ 0
gauss_entry-zero i far = gauss_entry-row i ∙ row-zero i far

-- the first rows
pub gauss_row-first : (gauss_row 0 ≡ record { entry = 1048576; factor = 4293918847 }) × (gauss_row 1 ≡ record { entry = 1048320; factor = 4291822717 }) × ((gauss_row 2).entry ≡ 1047552)
unfolding gauss_row
gauss_row-first = (refl, refl, refl)

-- an entry is at most 2^20
pub gauss_entry-le : (i : ℕ) → gauss_entry i ≤ 2 ^ 20
gauss_entry-le i = omega (arith, gauss_entry-never_rises 0 i (omega arith), gauss_entry-row 0, ap (λ row. row.entry) gauss_row-first.0)

-- a quotient is no greater where the products across are not
div-le-div : (a s b r : ℕ) → 0 < s → 0 < r → a * r ≤ b * s → a / s ≤ b / r
div-le-div a s b r some_s some_r across =
    let below = mul-le-mul_right r (div-mul-le_self a s) in
    let all : a / s * r * s ≤ b * s = omega (arith, below) in
    le-div (a / s) b r some_r (le_of_mul-le-mul_right all some_s)

-- a greater number has no smaller quotient
quotient_rises : (a b s : ℕ) → 1 ≤ s → a ≤ b → a / s ≤ b / s
quotient_rises a b s some h = div-le-div a s b s some some (mul-le-mul_right s h)

-- and a greater divisor no greater one
quotient_falls : (a s t : ℕ) → 1 ≤ s → s ≤ t → a / t ≤ a / s
quotient_falls a s t some h = div-le-div a t a s (omega arith) some (mul-le-mul_left a h)

-- the triangle on each side of the scale
triangle-near : (misfit scale : ℕ) → misfit ≤ scale → triangle_value misfit scale ≡ 2 ^ 20 * (scale - misfit) / scale
triangle-near misfit scale h = cond-true _ _ _ (le-leb misfit scale h)

triangle-far : (misfit scale : ℕ) → scale < misfit → triangle_value misfit scale ≡ 0
triangle-far misfit scale h = cond-false _ _ _ (lt-leb misfit scale h)

-- it never rises with the misfit
triangle-never_rises : (misfit other scale : ℕ) → 1 ≤ scale → misfit ≤ other → triangle_value other scale ≤ triangle_value misfit scale
triangle-never_rises misfit other scale some h = elim (cases_lt scale other) [
  | inl far ↦ omega (arith, triangle-far other scale far)
  | inr near ↦ omega (arith, triangle-near other scale near, triangle-near misfit scale (omega arith), quotient_rises (2 ^ 20 * (scale - other)) (2 ^ 20 * (scale - misfit)) scale some (omega arith))
]

-- what is left of a greater scale is the greater part of it
left-across : (misfit left more scale other all : ℕ) → scale ≡ misfit + left → other ≡ misfit + left + more → all ≡ left + more
    → 2 ^ 20 * left * other ≤ 2 ^ 20 * all * scale
left-across misfit left more scale other all p q r = rw (p, q, r) (omega arith)

-- so it never falls with the scale
triangle-never_falls : (misfit scale other : ℕ) → 1 ≤ scale → scale ≤ other → triangle_value misfit scale ≤ triangle_value misfit other
triangle-never_falls misfit scale other some h = elim (cases_lt scale misfit) [
  | inl far ↦ omega (arith, triangle-far misfit scale far)
  | inr near ↦
      let across = left-across misfit (scale - misfit) (other - scale) scale other (other - misfit) (omega arith) (omega arith) (omega arith) in
      let parts = div-le-div (2 ^ 20 * (scale - misfit)) scale (2 ^ 20 * (other - misfit)) other some (omega arith) across in
      omega (arith, triangle-near misfit scale near, triangle-near misfit other (omega arith), parts)
]

-- and is at most 2^20
triangle-le : (misfit scale : ℕ) → triangle_value misfit scale ≤ 2 ^ 20
triangle-le misfit scale = elim (cases_lt scale misfit) [
  | inl far ↦ omega (arith, triangle-far misfit scale far)
  | inr near ↦ omega (arith, triangle-near misfit scale near, div-le_of_le-mul scale {m = 2 ^ 20 * (scale - misfit)} {n = 2 ^ 20} (omega arith))
]

-- the count never rises with the misfit, and is at most 2^20
count-never_rises : (limit misfit other : ℕ) → misfit ≤ other → count_value limit other ≤ count_value limit misfit
count-never_rises limit misfit other h = grind (arith, nat_tests)

count-le : (limit misfit : ℕ) → count_value limit misfit ≤ 2 ^ 20
count-le limit misfit = grind (arith, nat_tests)

-- from four scales on a Gaussian is 0
pub gauss_value-far : (misfit scale : ℕ) → 1 ≤ scale → scale ≤ misfit / 4 → gauss_value misfit scale ≡ 0
gauss_value-far misfit scale some far = let past = le-div 256 (64 * misfit) scale some (omega arith) in gauss_entry-zero (64 * misfit / scale) (omega (arith, past))

-- each value is at most 2^20
pub kernel_value-le : (shape : Shape) (misfit scale : ℕ) → kernel_value shape misfit scale ≤ 2 ^ 20
kernel_value-le Gauss misfit scale = gauss_entry-le (64 * misfit / scale)
kernel_value-le Triangle misfit scale = triangle-le misfit scale
kernel_value-le (Count limit) misfit scale = count-le limit misfit

-- a value never rises with the misfit
pub kernel_value-never_rises : (shape : Shape) (misfit other scale : ℕ) → 1 ≤ scale → misfit ≤ other → kernel_value shape other scale ≤ kernel_value shape misfit scale
kernel_value-never_rises Gauss misfit other scale some h = gauss_entry-never_rises _ _ (quotient_rises (64 * misfit) (64 * other) scale some (omega arith))
kernel_value-never_rises Triangle misfit other scale some h = triangle-never_rises misfit other scale some h
kernel_value-never_rises (Count limit) misfit other scale some h = count-never_rises limit misfit other h

-- a value never falls with the scale
pub kernel_value-never_falls : (shape : Shape) (misfit scale other : ℕ) → 1 ≤ scale → scale ≤ other → kernel_value shape misfit scale ≤ kernel_value shape misfit other
kernel_value-never_falls Gauss misfit scale other some h = gauss_entry-never_rises _ _ (quotient_falls (64 * misfit) scale other some h)
kernel_value-never_falls Triangle misfit scale other some h = triangle-never_falls misfit scale other some h
kernel_value-never_falls (Count limit) misfit scale other some h = omega arith
