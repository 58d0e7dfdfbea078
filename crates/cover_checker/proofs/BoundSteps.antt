-- Spans over the nodes of a box, and the bound that comes of them.
use Rattle.std.proofs.Common.{◌≡◌, inl, inr, ℕ, ◌+◌, ◌*◌, ◌<◌, ◌≤◌, ◌^◌, arith, refl, ap, sym, subst, ◌∙◌, List, [], ◌∷◌, length, set, sum_by}
use Rattle.std.proofs.Math.Nat.{mul-le-mul_right}
use Rattle.std.proofs.lemmas.Bool.{cases_lt}
use Rattle.std.proofs.lemmas.Grind.{get_or-set_at}
use Rattle.std.proofs.lemmas.List.{get_or-set_other}
use Rattle.std.proofs.lemmas.List.Sums.{sum_by-cons}
use Rattle.kernel_table.specs.declared.kernels.Shape.{Shape}
use Rattle.minmax_pyramid.specs.Spans.{greatest, least, span_over}
use Rattle.edt_score.specs.declared.problem.ProblemPick.{ProblemPick}
use Rattle.edt_score.specs.Bound.{IsTimeSpan, bound_by, bound_over, pair_bound}
use Rattle.edt_score.specs.KeptPairs.{bound_of_spans, span_at}
use Rattle.edt_score.specs.Look.{numbered, numbered_from}
use Rattle.cover_checker.specs.Inside.Walks.{AreSpansOf}

-- the least of some times is at most the greatest
pub least_most : (ns : List ℕ) → least ns ≤ greatest ns
least_most [] = omega arith
least_most (n ∷ []) = omega arith
least_most (n ∷ (m ∷ ns)) = omega arith

-- the first `n` spans are in order
abbrev pub AreOrdered : ℕ → List (ℕ × ℕ) → Type 0
AreOrdered n spans = (place : ℕ) → place < n → IsTimeSpan (span_at spans place)

pub ordered_step : (i : ℕ) (spans : List (ℕ × ℕ)) (next : ℕ × ℕ) → i < length spans → IsTimeSpan next → AreOrdered i spans → AreOrdered (i + 1) (set spans i next)
ordered_step i spans next below is before place within = elim (cases_lt place i) [
  | inl earlier ↦ subst IsTimeSpan (sym (get_or-set_other spans i place next (0, 0) (λ same. absurd (omega arith)))) (before place earlier)
  | inr last ↦
      let same : place ≡ i = omega arith in
      subst IsTimeSpan (sym (get_or-set_at spans i place next (0, 0) same below)) is
]

-- one more span is written
pub spans_step : (times : ℕ → ℕ → ℕ) (nodes : List ℕ) (i : ℕ) (spans : List (ℕ × ℕ)) (next : ℕ × ℕ) → i < length spans → next ≡ span_over (times i) nodes
    → AreSpansOf times nodes i spans → AreSpansOf times nodes (i + 1) (set spans i next)
spans_step times nodes i spans next below is before place within = elim (cases_lt place i) [
  | inl earlier ↦ get_or-set_other spans i place next (0, 0) (λ same. absurd (omega arith)) ∙ before place earlier
  | inr last ↦
      let same : place ≡ i = omega arith in
      get_or-set_at spans i place next (0, 0) same below ∙ is ∙ ap (λ (n : ℕ). span_over (times n) nodes) (sym same)
]

-- the row of a sum over pairs follows the spans at the places of its picks
module _ (shape : Shape) (one other : ℕ → ℕ × ℕ) where
  row-agrees : (a : ProblemPick) (s : ℕ × ℕ) (place : ℕ) (picks : List ProblemPick) → ((j : ℕ) → place ≤ j → j < place + length picks → one j ≡ other j)
      → sum_by (λ b. pair_bound shape a b s (one b.row)) (numbered_from place picks) ≡ sum_by (λ b. pair_bound shape a b s (other b.row)) (numbered_from place picks)
  row-agrees a s place [] same = refl
  row-agrees a s place (pick ∷ picks) same =
      let b : ProblemPick = record pick { row = place } in
      let here : pair_bound shape a b s (one place) ≡ pair_bound shape a b s (other place) = ap (pair_bound shape a b s) (same place (omega arith) (omega arith)) in
      let rest = row-agrees a s (place + 1) picks (λ j low high. same j (omega arith) (omega arith)) in
      omega (
        arith,
        sum_by-cons (λ c. pair_bound shape a c s (one c.row)) b (numbered_from (place + 1) picks),
        sum_by-cons (λ c. pair_bound shape a c s (other c.row)) b (numbered_from (place + 1) picks),
        here,
        rest,
      )

  -- so does the whole sum
  bound-agrees : (place : ℕ) (picks : List ProblemPick) → ((j : ℕ) → place ≤ j → j < place + length picks → one j ≡ other j)
      → bound_by shape one (numbered_from place picks) ≡ bound_by shape other (numbered_from place picks)
  bound-agrees place [] same = refl
  bound-agrees place (pick ∷ picks) same =
      let a : ProblemPick = record pick { row = place } in
      let row = row-agrees a (one place) (place + 1) picks (λ j low high. same j (omega arith) (omega arith)) in
      let first : sum_by (λ b. pair_bound shape a b (one place) (other b.row)) (numbered_from (place + 1) picks)
      ≡ sum_by (λ b. pair_bound shape a b (other place) (other b.row)) (numbered_from (place + 1) picks) =
      ap (λ s. sum_by (λ b. pair_bound shape a b s (other b.row)) (numbered_from (place + 1) picks)) (same place (omega arith) (omega arith)) in
      let rest = bound-agrees (place + 1) picks (λ j low high. same j (omega arith) (omega arith)) in
      omega (arith, row, first, rest)

pub spans_bound : (shape : Shape) (times : ℕ → ℕ → ℕ) (picks : List ProblemPick) (nodes : List ℕ) (spans : List (ℕ × ℕ)) → length spans ≡ length picks
    → AreSpansOf times nodes (length spans) spans → bound_of_spans shape picks spans ≡ bound_over shape times (numbered picks) nodes
spans_bound shape times picks nodes spans long are =
    bound-agrees shape (span_at spans) (λ place. span_over (times place) nodes) 0 picks (λ j low high. are j (omega (arith, long, high)))

-- the looks of one more pick
pub looks_step : (before i nodes count : ℕ) → count ≡ before + i * nodes → count + nodes ≡ before + (i + 1) * nodes
looks_step before i nodes count is = let more : (i + 1) * nodes ≡ i * nodes + nodes = grind arith in omega arith

pub looks_room : (before picks i nodes count : ℕ) → count ≡ before + i * nodes → i < picks → before + picks * nodes < 2 ^ 64 → count + nodes < 2 ^ 64
looks_room before picks i nodes count is below room =
    let most : (i + 1) * nodes ≤ picks * nodes = mul-le-mul_right nodes (omega arith) in
    omega (arith, looks_step before i nodes count is, most)
