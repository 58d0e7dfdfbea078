-- A text has a value or one first fault.
use Rattle.std.proofs.Common.{◌≡◌, ℕ, ◌*◌, ◌/◌, ◌%◌, ◌^◌, ◌<◌, Bool, true, false, not, ◌&&◌, List, [], length, None, Result, Ok, Err, inl, inr, refl, ap, subst, arith}
use Rattle.std.specs.Prelude.{◌↔◌, IsErrOf, ℤ, pos, ◌*ℤ◌, unsigned_abs}
use Rattle.std.proofs.lemmas.Int.{ints}
use Rattle.text_terms.proofs.Cases.{by_bool}
use mir.Syntax.{w64}
use mir.Val.{to_z, of_z}
use Rattle.fixed_decimal.specs.declared.reading.DecimalError.{DecimalError}
use Rattle.fixed_decimal.specs.declared.reading.DecimalError.TheVariants.{BadByte, Range}
use Rattle.fixed_decimal.specs.Form.{has_form}
use Rattle.fixed_decimal.specs.Leaving.{LeavesFormAt}
use Rattle.fixed_decimal.specs.Nearest.{IsNearest}
use Rattle.fixed_decimal.specs.Value.{signed, top_of, bottom_of, size_of, lowered_by, is_out_of_range, millionths_of}
use Rattle.fixed_decimal.proofs.NearestLaws.{IsNearest-nearest, ten_power}
use Rattle.fixed_decimal.proofs.LeavingLaws.{no_form_left, one_place}

-- no bytes are no decimal
nil_formless : has_form [] ≡ false
unfolding has_form
nil_formless = refl

pub no_form_nil : (text : List ℕ) → text ≡ [] → has_form text ≡ false
no_form_nil text e = rw e nil_formless

-- a value is no fault, whatever its type
pub fault_of_value : {T U E : Type 0} {x : T} {y : U} {fault : E} {Q : Type 0} → (IsErrOf (Ok x) fault ↔ Q) → IsErrOf (Ok y) fault ↔ Q
fault_of_value same = (λ e. absurd cc, λ q. absurd (let e = same.1 q in cc))

-- and a fault is the same, whatever the type of the value
fault_again : {T U E : Type 0} (f g : E) → IsErrOf {T = T} (Err f) g → IsErrOf {T = U} (Err f) g
fault_again f g e = let is : f ≡ g = cc in ap Err is

pub fault_of_fault : {T U E : Type 0} (f fault : E) (Q : Type 0) → (IsErrOf {T = T} (Err f) fault ↔ Q) → IsErrOf {T = U} (Err f) fault ↔ Q
fault_of_fault {T = T} {U = U} f fault Q same =
    (λ e. same.0 (fault_again {T = U} {U = T} f fault e), λ q. fault_again {T = T} {U = U} f fault (same.1 q))

-- the place that a text leaves the form at is the one of its fault
pub bad_byte_is : {T : Type 0} (text : List ℕ) (place k : ℕ) → 0 < length text → LeavesFormAt text place
    → IsErrOf {T = T} (Err (BadByte place)) (BadByte k) ↔ ((0 < length text) × LeavesFormAt text k)
bad_byte_is text place k some leaves = (
  λ e. let same : place ≡ k = cc in (some, subst (LeavesFormAt text) same leaves),
  λ q. ap (λ at. Err (BadByte at)) (one_place text place k leaves q.1),
)

-- a text of the form leaves it nowhere
pub bad_byte_none : {T : Type 0} (r : Result T DecimalError) (text : List ℕ) (k : ℕ) → has_form text ≡ true → (IsErrOf r (BadByte k) → ⊥)
    → IsErrOf r (BadByte k) ↔ ((0 < length text) × LeavesFormAt text k)
bad_byte_none r text k form other = (λ e. absurd (other e), λ q. absurd (no_form_left text k q.1 form))

-- a text without the form isn't out of range
pub range_none : {T : Type 0} (r : Result T DecimalError) (text : List ℕ) → (has_form text ≡ true → ⊥) → (IsErrOf r Range → ⊥)
    → IsErrOf r Range ↔ ((has_form text ≡ true) × (is_out_of_range text ≡ true))
range_none r text formless other = (λ e. absurd (other e), λ q. absurd (formless q.0))

-- the size of a decimal is nearest to its value
pub size_of-nearest : (text : List ℕ) → IsNearest (top_of text) (bottom_of text) (size_of text)
unfolding size_of
size_of-nearest text = IsNearest-nearest (top_of text) (bottom_of text) (ten_power (lowered_by text))

-- a sign stands at each multiple
pub signed-times : (negative : Bool) (n q : ℕ) → n ≡ q * 1000000 → signed negative n ≡ signed negative q *ℤ pos 1000000
signed-times true n q e = omega (arith, ints, e)
signed-times false n q e = omega (arith, ints, e)

-- a multiple of a million is so many millions
pub millions : (n : ℕ) → n % 1000000 ≡ 0 → n ≡ n / 1000000 * 1000000
millions n e = omega arith

-- a text without the form has no reading
pub unread : (text : List ℕ) → (has_form text ≡ true → ⊥) → (has_form text && not (is_out_of_range text)) ≡ false
unread text formless = elim (by_bool (has_form text)) [
  | inl form ↦ absurd (formless form)
  | inr other ↦ rw other refl
]

-- a number with a sign that fits 64 bits, written to bits and back
pub bits_and_back : (z : ℤ) (negative : Bool) (n : ℕ) → z ≡ signed negative n → n < 10 ^ 15 → to_z w64 (of_z w64 z) ≡ signed negative n
bits_and_back z true n e small = omega (arith, ints, e)
bits_and_back z false n e small = omega (arith, ints, e)

-- and its size
pub size_and_back : (z : ℤ) (negative : Bool) (n : ℕ) → z ≡ signed negative n → n < 10 ^ 15 → unsigned_abs (to_z w64 (of_z w64 z)) ≡ n
size_and_back z true n e small = rw (bits_and_back z true n e small) (omega (arith, ints))
size_and_back z false n e small = rw (bits_and_back z false n e small) refl

-- a text that leaves the form has no reading
pub unread_at : (text : List ℕ) (k : ℕ) → LeavesFormAt text k → millionths_of text ≡ None
unfolding millionths_of
unread_at text k leaves = rw (unread text (no_form_left text k leaves)) refl
