-- Files within their limits.
use Rattle.std.proofs.Common.{◌≡◌, ℕ, ◌≤◌, false, List, length, Option, Some, None, if◌then◌else◌, ◌∙◌, ap, arith}
use Rattle.std.proofs.lemmas.Bool.Decides.{nat_tests}
use Rattle.std.specs.Prelude.{nat_lt}
use Rattle.run_input.specs.declared.refusals.Refusal.{Refusal}
use Rattle.run_input.specs.FirstRefusals.{file_refusal}

-- a file that is there and within its limit
pub file_passes : (file : Option (List ℕ)) (name bytes : List ℕ) (limit : ℕ) (too_long : Refusal) → file ≡ Some bytes → length bytes ≤ limit → file_refusal name limit too_long file ≡ None
file_passes file name bytes limit too_long is within =
    let short : nat_lt limit (length bytes) ≡ false = grind (arith, nat_tests) in
    ap (file_refusal name limit too_long) is ∙ ap (λ b. if b then Some too_long else None) short
