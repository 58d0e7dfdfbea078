-- The picks of a problem file make a valid problem.
use Rattle.std.proofs.Common.{◌≡◌, ◌∙◌, ℕ, ◌+◌, ◌*◌, ◌<◌, ◌≤◌, ◌&&◌, ◌-ℤ◌, ℤ, Bool, true, false, if◌then◌else◌, nat_le, refl, sym, ap, subst, arith, List, length, Option, Some, None, slice_index_or, unwrap_or, []}
use Rattle.std.specs.Prelude.{unsigned_abs}
use Rattle.std.specs.List.{slice_get}
use Rattle.std.proofs.lemmas.Int.{ints}
use Rattle.std.proofs.lemmas.Bool.Decides.{nat_tests}
use Rattle.std.proofs.lemmas.List.FromFn.{get_or-map-range_with_len, length-map-range_with_len}
use Rattle.text_terms.specs.Numerals.{value_of}
use Rattle.text_terms.specs.Faults.{NoFaultBelow}
use Rattle.edt_score.specs.declared.problem.ProblemPick.{ProblemPick}
use Rattle.edt_score.specs.declared.problem.Problem.{Problem}
use Rattle.edt_score.specs.Problem.{IsValidPick, IsValidProblem, AreNear}
use Rattle.edt_top.specs.declared.solve.problem_word.ProblemCause.TheVariants.{Form, Limit}
use Rattle.edt_top.specs.Solve.ProblemFile.{Words, Whole, Observed, is_number, is_observed, without_minus, signed_of, number_at, signed_at, picks_in, first_time, form_at, fault_in, fault_at}
use Rattle.edt_top.specs.Solve.ProblemValues.{pick_in, picks_of, row_in, field_in}
use Rattle.edt_top.proofs.SolveLaws.ProblemForms.{form_of_observed, form_of_weight, form_of_variance}

-- two tests both hold where one fault or another is told of each that fails
both_hold : (form limit : Bool) → (if form then (if limit then None else Some Limit) else Some Form) ≡ None → limit ≡ true
both_hold true true fine = refl
both_hold true false fine = cc
both_hold false limit fine = cc

-- a number that has its form is within its range
whole_fits : (words : Words) (k low high : ℕ) → form_at words k ≡ Whole low high → fault_at words k ≡ None
    → (low ≤ number_at words k) × (number_at words k ≤ high)
whole_fits words k low high is fine =
    let here : fault_in (Whole low high) (slice_get words k) ≡ None = ap (λ f. fault_in f (slice_get words k)) (sym is) ∙ fine in
    range_fits low high (slice_get words k) here
  where
    range_fits : (low high : ℕ) (word : Option (List ℕ)) → fault_in (Whole low high) word ≡ None
        → (low ≤ value_of (unwrap_or word [])) × (value_of (unwrap_or word []) ≤ high)
    range_fits low high None fine = cc
    range_fits low high (Some word) fine =
        let test : (nat_le low (value_of word) && nat_le (value_of word) high) ≡ true = both_hold (is_number word) _ fine in
        grind (arith, nat_tests)

-- an observed time that has its form is near the first pick's
observed_fits : (words : Words) (k : ℕ) (first : ℤ) → form_at words k ≡ Observed first → fault_at words k ≡ None
    → unsigned_abs (signed_at words k -ℤ first) ≤ 1100000000000
observed_fits words k first is fine =
    let here : fault_in (Observed first) (slice_get words k) ≡ None = ap (λ f. fault_in f (slice_get words k)) (sym is) ∙ fine in
    near_fits first (slice_get words k) here
  where
    near_fits : (first : ℤ) (word : Option (List ℕ)) → fault_in (Observed first) word ≡ None
        → unsigned_abs (signed_of (unwrap_or word []) -ℤ first) ≤ 1100000000000
    near_fits first None fine = cc
    near_fits first (Some word) fine =
        let test : is_observed first (signed_of word) ≡ true = both_hold (is_number (without_minus word)) _ fine in
        grind (arith, nat_tests)

-- a pick of the file is valid, with a row of its own
pick_fits : (words : Words) (i : ℕ) → NoFaultBelow (fault_at words) (first_time words) → i < picks_in words → IsValidPick (field_in words) (pick_in words i)
pick_fits words i sound within =
    let weight = whole_fits words (6 + 3 * i + 1) 1 2000 (form_of_weight words i within) (sound (6 + 3 * i + 1) (omega arith)) in
    let variance = whole_fits words (6 + 3 * i + 2) 0 20000000000000000 (form_of_variance words i within) (sound (6 + 3 * i + 2) (omega arith)) in
    let rows = length-map-range_with_len (row_in words) 0 (picks_in words) in
    record { some_weight = weight.0; weight = weight.1; variance = omega (arith, variance.1); row = omega (arith, rows) }

-- any two picks of the file are near each other
near : (words : Words) (i j : ℕ) → NoFaultBelow (fault_at words) (first_time words) → i < picks_in words → j < picks_in words
    → AreNear (pick_in words i) (pick_in words j)
near words i j sound i_within j_within =
    let a = observed_fits words (6 + 3 * i) (signed_at words 6) (form_of_observed words i i_within) (sound (6 + 3 * i) (omega arith)) in
    let b = observed_fits words (6 + 3 * j) (signed_at words 6) (form_of_observed words j j_within) (sound (6 + 3 * j) (omega arith)) in
    close (signed_at words (6 + 3 * i)) (signed_at words (6 + 3 * j)) (signed_at words 6) a b
  where
    close : (a b o : ℤ) → unsigned_abs (a -ℤ o) ≤ 1100000000000 → unsigned_abs (b -ℤ o) ≤ 1100000000000 → unsigned_abs (a -ℤ b) ≤ 2200000000000
    close a b o near_a near_b = omega (arith, ints)

-- the picks of the file make a valid problem
pub valid : (words : Words) (problem : Problem) → problem.picks.items ≡ picks_of words → NoFaultBelow (fault_at words) (first_time words)
    → 2 ≤ picks_in words → picks_in words ≤ 256 → IsValidProblem (field_in words) problem
valid words problem is sound some few =
    let many : length problem.picks.items ≡ picks_in words = ap length is ∙ length-map-range_with_len (pick_in words) 0 (picks_in words) in
    let item = λ (k : ℕ) (d : ProblemPick) (within : k < picks_in words).
    ap (λ xs. slice_index_or xs k d) is ∙ get_or-map-range_with_len (pick_in words) 0 (picks_in words) k k d within (omega arith) in
    record {
      two = omega (arith, many);
      few = omega (arith, many);
      picks = λ k d within.
          let inside : k < picks_in words = omega (arith, many) in
          subst (IsValidPick (field_in words)) (sym (item k d inside)) (pick_fits words k sound inside);
      times = λ i j d before within.
          let inside_j : j < picks_in words = omega (arith, many) in
          let inside_i : i < picks_in words = omega arith in
          subst (λ a. AreNear a (slice_index_or problem.picks.items j d)) (sym (item i d inside_i))
          (subst (AreNear (pick_in words i)) (sym (item j d inside_j)) (near words i j sound inside_i inside_j));
    }
