-- An axis whose first search node lies `offset` after the first node of the time grid: its nodes are s apart, those of the time grid d.
use Rattle.std.proofs.Common.{◌≡◌, ◌≢◌, ℕ, ◌+◌, ◌*◌, ◌-◌, ◌/◌, ◌%◌, ◌<◌, ◌≤◌, zero, suc, arith, sym, ap, ◌∙◌}
use Rattle.std.proofs.lemmas.Nat.{div-add-mod', same_from_place}
use Rattle.std.proofs.Math.Nat.{mul-mod_left, add-mul-mod_self_left}

-- one factor of two equal products
pub same_factor : (a b d : ℕ) → 1 ≤ d → a * d ≡ b * d → a ≡ b
same_factor a b d some e = (same_from_place a 0 b 0 d (omega arith) (omega arith) (omega (arith, e))).0

-- search node i is at no node of the time grid
abbrev pub IsOff : ℕ → ℕ → ℕ → ℕ → ℕ → Type 0
IsOff offset d m s i = (j : ℕ) → j < m → j * d ≢ offset + i * s

pub off_first : (offset d m s : ℕ) → offset % d ≢ 0 → IsOff offset d m s 0
off_first offset d m s rest j below e =
    let whole : offset ≡ j * d = omega (arith, e) in
    absurd (rest (ap (λ n. n % d) whole ∙ mul-mod_left j d))

pub off_second : (offset d m s : ℕ) → offset % d ≡ 0 → ((k : ℕ) → k * d ≢ s) → IsOff offset d m s 1
off_second offset d m s whole never j below e =
    let first : offset / d * d + offset % d ≡ offset = div-add-mod' offset d in
    let sum : s + d * (offset / d) ≡ j * d = grind arith in
    let none : s % d ≡ 0 = sym (add-mul-mod_self_left s d (offset / d)) ∙ ap (λ n. n % d) sum ∙ mul-mod_left j d in
    let all : s / d * d + s % d ≡ s = div-add-mod' s d in
    absurd (never (s / d) (omega arith))

-- the node of the time grid at a search node
pub meets : (offset d s n stride i : ℕ) → offset % d ≡ 0 → (n ≡ 1 → stride ≡ 0) → (1 < n → stride * d ≡ s) → i < n
    → (offset / d + i * stride) * d ≡ offset + i * s
meets offset d s n stride zero whole one many below =
    let first : offset / d * d + offset % d ≡ offset = div-add-mod' offset d in
    grind arith
meets offset d s n stride (suc i) whole one many below =
    let first : offset / d * d + offset % d ≡ offset = div-add-mod' offset d in
    let steps : suc i * (stride * d) ≡ suc i * s = ap (λ x. suc i * x) (many (omega arith)) in
    grind arith

pub off_last : (offset d m s n stride : ℕ) → 1 ≤ d → 1 ≤ n → offset % d ≡ 0 → (n ≡ 1 → stride ≡ 0) → (1 < n → stride * d ≡ s)
    → m ≤ offset / d + (n - 1) * stride → IsOff offset d m s (n - 1)
off_last offset d m s n stride some few whole one many past j below e =
    let last = meets offset d s n stride (n - 1) whole one many (omega arith) in
    let same : j ≡ offset / d + (n - 1) * stride = same_factor j _ d some (e ∙ sym last) in
    absurd (omega arith)
