-- The first faulty place as a function.
use Rattle.std.proofs.Common.{◌≡◌, ℕ, Bool, true, false, zero, suc, ◌+◌, ◌<◌, ◌≤◌, Option, Some, None, is_some, inl, inr, arith, refl, ◌∙◌, ap}
use Rattle.std.specs.List.{find, range_with_len}
use Rattle.std.specs.Option.{option_map, option_and_then}
use Rattle.std.proofs.Math.Nat.{eq-or-lt_of_le}
use Rattle.std.proofs.lemmas.Bool.{cond-false, cond-true}
use Rattle.text_terms.specs.Faults.{HasNoFault, IsFirstFault}
use Rattle.run_input.specs.FirstRefusals.{first_faulty}

find_here : (test : ℕ → Bool) (from n node : ℕ) → from ≤ node → node < from + n → test node ≡ true → ((other : ℕ) → from ≤ other → other < node → test other ≡ false)
    → find test (range_with_len from n) ≡ Some node
find_here test from zero node low high here before = absurd (omega arith)
find_here test from (suc n) node low high here before = elim (eq-or-lt_of_le low) [
  | inl same ↦ cond-true (test from) _ _ (ap test same ∙ here) ∙ ap Some same
  | inr later ↦
      cond-false (test from) _ _ (before from (omega arith) later)
      ∙ find_here test (from + 1) n node (omega arith) (omega arith) here (λ other low less. before other (omega arith) less)
]

find_none : (test : ℕ → Bool) (from n : ℕ) → ((k : ℕ) → k < from + n → test k ≡ false) → find test (range_with_len from n) ≡ None
find_none test from zero none = refl
find_none test from (suc n) none =
    cond-false (test from) _ _ (none from (omega arith)) ∙ find_none test (from + 1) n (λ k less. none k (omega arith))

-- no fault
pub faultless : {Cause : Type 0} (fault_at : ℕ → Option Cause) (n : ℕ) → HasNoFault fault_at n → first_faulty fault_at n ≡ None
unfolding first_faulty
faultless {Cause} fault_at n none =
    ap (option_and_then (λ (k : ℕ). option_map (λ (cause : Cause). (k, cause)) (fault_at k)))
    (find_none (λ k. is_some (fault_at k)) 0 (n + 1) (λ k less. ap is_some (none k (omega arith))))

-- the first fault
pub faulty : {Cause : Type 0} (fault_at : ℕ → Option Cause) (n place : ℕ) (cause : Cause) → IsFirstFault fault_at n place cause
    → first_faulty fault_at n ≡ Some (place, cause)
unfolding first_faulty
faulty {Cause} fault_at n place cause first =
    let within = first.within in
    ap (option_and_then (λ (k : ℕ). option_map (λ (c : Cause). (k, c)) (fault_at k)))
    (find_here (λ k. is_some (fault_at k)) 0 (n + 1) place (omega arith) (omega arith) (ap is_some first.here) (λ other low less. ap is_some (first.before other less)))
    ∙ ap (option_map (λ (c : Cause). (place, c))) first.here
