-- First reasons.
use Rattle.std.proofs.Common.{◌≡◌, ◌≤◌, ◌^◌, pos, IsTrue, arith, Bool, true, false, [], ◌∷◌, None, refl}
use Rattle.std.specs.Prelude.{int_lt, unsigned_abs}
use Rattle.std.proofs.lemmas.Bool.{or_parts}
use Rattle.std.proofs.lemmas.Int.{ints}
use Rattle.control_reader.specs.ControlValues.{ControlValues}
use Rattle.phase_reader.specs.declared.phases.Pick.{Pick}
use Rattle.station_table.specs.declared.picks.Reason.{Reason}
use Rattle.station_table.specs.declared.picks.Reason.TheVariants.{Excluded, Weight0, ErrMag}
use Rattle.text_terms.specs.Faults.{first_cause}
use Rattle.station_table.specs.Reasons.{where_so, early_reason, is_excluded, has_no_weight, has_bad_error}

-- one reason alone
pub first_one : (test : Bool) (reason : Reason) → first_cause (where_so test reason ∷ []) ≡ where_so test reason
first_one true reason = refl
first_one false reason = refl

-- where none of three tests gives a reason, the last two fail
none_of_three : (a b c : Bool) (r s t : Reason) → first_cause (where_so a r ∷ where_so b s ∷ where_so c t ∷ []) ≡ None → (b ≡ false) × (c ≡ false)
none_of_three false false false r s t e = (refl, refl)
none_of_three false false true r s t e = absurd cc
none_of_three false true c r s t e = absurd cc
none_of_three true b c r s t e = absurd cc

module _ (control : ControlValues) (pick : Pick) (none : early_reason control pick ≡ None) where
  -- a pick that meets none of the first three reasons has a weight above 0
  good_pick : (has_no_weight pick ≡ false) × (has_bad_error pick ≡ false)
  unfolding early_reason
  good_pick = none_of_three (is_excluded control pick) (has_no_weight pick) (has_bad_error pick) Excluded Weight0 ErrMag none

  pub weight_above : IsTrue (int_lt (pos 0) pick.weight)
  weight_above = let good = good_pick.0 in grind (arith, ints)

  -- and an error from 0 to 100 seconds
  pub error_within : unsigned_abs pick.error ≤ 10 ^ 8
  error_within =
      let good = or_parts (int_lt pick.error (pos 0)) (int_lt (pos (10 ^ 8)) pick.error) good_pick.1 in
      grind (arith, ints)
