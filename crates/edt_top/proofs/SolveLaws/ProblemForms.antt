-- What form a word of a problem file has to have, section by section.
use Rattle.std.proofs.Common.{◌↔◌, ◌≡◌, ℕ, ◌+◌, ◌-◌, ◌*◌, ◌%◌, ◌<◌, ◌≤◌, ◌∙◌, arith, ap}
use Rattle.std.proofs.lemmas.Bool.Decides.{nat_tests}
use Rattle.std.proofs.Math.Nat.{le-div_iff_mul-le}
use Rattle.node_boxes.specs.declared.limits.TheConstants.{GREATEST_TIME}
use Rattle.edt_top.specs.Solve.ProblemFile.{most_within, Words, form_at, pick_form, signed_at, picks_in, first_time, words_wanted, Whole, Nothing, Observed}

-- after the head stand the picks
form_of_pick : (words : Words) (k : ℕ) → 6 ≤ k → k < first_time words → form_at words k ≡ pick_form (signed_at words 6) ((k - 6) % 3)
form_of_pick words k behind within = grind (arith, nat_tests)

-- the words of pick i, from 0
pub form_of_observed : (words : Words) (i : ℕ) → i < picks_in words → form_at words (6 + 3 * i) ≡ Observed (signed_at words 6)
form_of_observed words i within =
    let part : (6 + 3 * i - 6) % 3 ≡ 0 = omega arith in
    form_of_pick words (6 + 3 * i) (omega arith) (omega arith) ∙ ap (pick_form (signed_at words 6)) part

pub form_of_weight : (words : Words) (i : ℕ) → i < picks_in words → form_at words (6 + 3 * i + 1) ≡ Whole 1 2000
form_of_weight words i within =
    let part : (6 + 3 * i + 1 - 6) % 3 ≡ 1 = omega arith in
    form_of_pick words (6 + 3 * i + 1) (omega arith) (omega arith) ∙ ap (pick_form (signed_at words 6)) part

pub form_of_variance : (words : Words) (i : ℕ) → i < picks_in words → form_at words (6 + 3 * i + 2) ≡ Whole 0 20000000000000000
form_of_variance words i within =
    let part : (6 + 3 * i + 2 - 6) % 3 ≡ 2 = omega arith in
    form_of_pick words (6 + 3 * i + 2) (omega arith) (omega arith) ∙ ap (pick_form (signed_at words 6)) part

-- after the picks stand the travel times
pub form_of_time : (words : Words) (k : ℕ) → first_time words ≤ k → k < words_wanted words → form_at words k ≡ Whole 0 GREATEST_TIME
form_of_time words k behind within = grind (arith, nat_tests)

-- and after the travel times nothing
pub form_of_end : (words : Words) → form_at words (words_wanted words) ≡ Nothing
form_of_end words = grind (arith, nat_tests)

-- a number is at most the greatest whose product is within a limit exactly where its own product is
pub most_within-is : (limit other n : ℕ) → 0 < other → (n ≤ most_within limit other) ↔ (n * other ≤ limit)
most_within-is limit other n some = le-div_iff_mul-le some
