-- A node is the first best exactly where it is the first of all nodes with the greatest score, and
-- among nodes there is one and only one such.
use Rattle.std.proofs.Common.{◌≡◌, ℕ, Bool, true, false, Some, ◌+◌, ◌==◌, ◌<◌, ◌≤◌, map, zero, suc, arith, refl, sym, ap, ◌∙◌, inl, inr, ◌⊎◌}
use Rattle.std.specs.List.{find, range_with_len}
use Rattle.std.proofs.Math.Nat.{eq-or-lt_of_le, le_antisymm}
use Rattle.std.proofs.lemmas.Bool.{cases_lt, cond-false, cond-true, eq-eqb, eqb-true}
use Rattle.std.proofs.lemmas.Bool.Decides.{eqb_tells}
use Rattle.edt_score.specs.Best.{IsFirstBest, best_score, first_best}
use Rattle.minmax_pyramid.specs.Spans.{greatest}

-- each score is at most the greatest
greatest-above : (score : ℕ → ℕ) (from n node : ℕ) → from ≤ node → node < from + n → score node ≤ greatest (map score (range_with_len from n))
greatest-above score from zero node low high = absurd (omega arith)
greatest-above score from (suc n) node low high = elim (eq-or-lt_of_le low) [
  | inl here ↦ omega (arith, ap score here)
  | inr later ↦ let rest = greatest-above score (from + 1) n node (omega arith) (omega arith) in omega arith
]

-- the greatest is at most what each score is at most
greatest-below : (score : ℕ → ℕ) (most from n : ℕ) → ((node : ℕ) → from ≤ node → node < from + n → score node ≤ most)
    → greatest (map score (range_with_len from n)) ≤ most
greatest-below score most from zero bound = omega arith
greatest-below score most from (suc n) bound =
    let here = bound from (omega arith) (omega arith) in
    let rest = greatest-below score most (from + 1) n (λ node low high. bound node (omega arith) (omega arith)) in
    omega arith

by_bool : (b : Bool) → (b ≡ true) ⊎ (b ≡ false)
by_bool true = inl refl
by_bool false = inr refl

-- a number found from `from` on: the first of `n` that passes
record IsFound (test : ℕ → Bool) (from n node : ℕ) : Type 0 where
  low : from ≤ node
  high : node < from + n
  passes : test node ≡ true
  first : (other : ℕ) → from ≤ other → other < node → test other ≡ false

find-range : (test : ℕ → Bool) (from n node : ℕ) → IsFound test from n node → find test (range_with_len from n) ≡ Some node
find-range test from zero node found = absurd (let low = found.low in let high = found.high in omega arith)
find-range test from (suc n) node found = elim (eq-or-lt_of_le found.low) [
  | inl here ↦ cond-true (test from) _ _ (ap test here ∙ found.passes) ∙ ap Some here
  | inr later ↦
      let high = found.high in
      let rest : IsFound test (from + 1) n node = record {
        low = omega arith;
        high = omega arith;
        passes = found.passes;
        first = λ other low before. found.first other (omega arith) before;
      } in
      cond-false (test from) _ _ (found.first from (omega arith) later) ∙ find-range test (from + 1) n node rest
]

found-find : (test : ℕ → Bool) (from n node : ℕ) → find test (range_with_len from n) ≡ Some node → IsFound test from n node
found-find test from zero node is = cc
found-find test from (suc n) node is = elim (by_bool (test from)) [
  | inl hit ↦
      let here : from ≡ node = let some : Some from ≡ Some node = rw hit at is in cc in
      record {
        low = omega arith;
        high = omega arith;
        passes = sym (ap test here) ∙ hit;
        first = λ other low before. absurd (omega arith);
      }
  | inr miss ↦
      let rest = found-find test (from + 1) n node (rw miss at is) in
      let low = rest.low in
      let high = rest.high in
      record {
        low = omega arith;
        high = omega arith;
        passes = rest.passes;
        first = λ other low before. elim (eq-or-lt_of_le low) [
          | inl here ↦ sym (ap test here) ∙ miss
          | inr later ↦ rest.first other (omega arith) before
        ];
      }
]

-- no node scores more than the best
pub best_score-above : (n : ℕ) (score : ℕ → ℕ) (node : ℕ) → node < n → score node ≤ best_score n score
unfolding best_score
best_score-above n score node within = greatest-above score 0 n node (omega arith) (omega arith)

-- the first best node has the best score
pub best_score-is : (n : ℕ) (score : ℕ → ℕ) (node : ℕ) → IsFirstBest n score node → best_score n score ≡ score node
unfolding best_score
best_score-is n score node best =
    let inside = best.inside in
    le_antisymm (greatest-below score (score node) 0 n (λ other low high. best.best other (omega arith)))
    (greatest-above score 0 n node (omega arith) (omega arith))

pub first_best-is : (n : ℕ) (score : ℕ → ℕ) (node : ℕ) → IsFirstBest n score node → first_best n score ≡ Some node
unfolding first_best
first_best-is n score node best =
    let is = best_score-is n score node best in
    find-range (λ other. score other == best_score n score) 0 n node (record {
      low = omega arith;
      high = let inside = best.inside in omega arith;
      passes = eq-eqb (score node) (best_score n score) (sym is);
      first = λ other low before. elim (eqb_tells (score other) (best_score n score)) [
        | inl hit ↦ absurd (let less = best.first other before in omega (arith, hit.1))
        | inr miss ↦ miss.0
      ];
    })

-- and the first node with the best score is the first best
pub IsFirstBest-first_best : (n : ℕ) (score : ℕ → ℕ) (node : ℕ) → first_best n score ≡ Some node → IsFirstBest n score node
unfolding first_best
IsFirstBest-first_best n score node is =
    let found = found-find (λ other. score other == best_score n score) 0 n node is in
    let high = found.high in
    let best : score node ≡ best_score n score = eqb-true (score node) (best_score n score) found.passes in
    record {
      inside = omega arith;
      best = λ other within. omega (arith, best_score-above n score other within);
      first = λ other before.
          let most = best_score-above n score other (omega arith) in
          elim (eqb_tells (score other) (best_score n score)) [
            | inl hit ↦ absurd (let passed = hit.0 in let failed = found.first other (omega arith) before in cc)
            | inr miss ↦ let differs = miss.1 in omega arith
          ];
    }

-- two first best nodes are one
pub IsFirstBest-unique : (n : ℕ) (score : ℕ → ℕ) (a b : ℕ) → IsFirstBest n score a → IsFirstBest n score b → a ≡ b
IsFirstBest-unique n score a b one other =
    let above = one.best b other.inside in
    let below = other.best a one.inside in
    elim (cases_lt a b) [
      | inl less ↦ absurd (let worse = other.first a less in omega arith)
      | inr more ↦ elim (cases_lt b a) [
        | inl less ↦ absurd (let worse = one.first b less in omega arith)
        | inr same ↦ omega arith
      ]
    ]

-- the first node alone
pub IsFirstBest-one : (score : ℕ → ℕ) → IsFirstBest 1 score 0
IsFirstBest-one score = record {
  inside = omega arith;
  best = λ other within. let same : other ≡ 0 = omega arith in omega (arith, ap score same);
  first = λ other before. absurd (omega arith);
}

-- one more node, which is not better
pub IsFirstBest-keep : (n : ℕ) (score : ℕ → ℕ) (node : ℕ) → IsFirstBest n score node → score n ≤ score node → IsFirstBest (n + 1) score node
IsFirstBest-keep n score node best worse =
    let inside = best.inside in
    record {
      inside = omega arith;
      best = λ other within. elim (cases_lt other n) [
        | inl before ↦ best.best other before
        | inr last ↦ let same : other ≡ n = omega arith in omega (arith, ap score same)
      ];
      first = best.first;
    }

-- one more node, which is better
pub IsFirstBest-more : (n : ℕ) (score : ℕ → ℕ) (node : ℕ) → IsFirstBest n score node → score node < score n → IsFirstBest (n + 1) score n
IsFirstBest-more n score node best better =
    record {
      inside = omega arith;
      best = λ other within. elim (cases_lt other n) [
        | inl before ↦ let less = best.best other before in omega arith
        | inr last ↦ let same : other ≡ n = omega arith in omega (arith, ap score same)
      ];
      first = λ other before. let less = best.best other before in omega arith;
    }

exists_more : (n : ℕ) (score : ℕ → ℕ) (node : ℕ) → IsFirstBest n score node → (x : ℕ) × IsFirstBest (n + 1) score x
exists_more n score node best = elim (cases_lt (score node) (score n)) [
  | inl better ↦ (n, IsFirstBest-more n score node best better)
  | inr worse ↦ (node, IsFirstBest-keep n score node best worse)
]

-- where there are nodes, one is the first best
pub IsFirstBest-exists : (n : ℕ) (score : ℕ → ℕ) → 0 < n → (node : ℕ) × IsFirstBest n score node
IsFirstBest-exists zero score some = absurd (omega arith)
IsFirstBest-exists (suc zero) score some = (0, IsFirstBest-one score)
IsFirstBest-exists (suc (suc n)) score some =
    let before = IsFirstBest-exists (suc n) score (omega arith) in
    let next : suc n + 1 ≡ suc (suc n) = omega arith in
    rw next at (exists_more (suc n) score before.0 before.1)
