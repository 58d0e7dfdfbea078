-- A text has the form of a decimal where each of its bytes may stand where it stands and the text may end where it ends.
use Rattle.std.proofs.Common.{◌≡◌, ℕ, suc, ◌+◌, cond, Bool, true, false, not, ◌&&◌, ◌||◌, List, [], ◌∷◌, length, Option, Some, None, inl, inr, refl, sym, ◌∙◌, ap, arith}
use Rattle.std.specs.Prelude.{◌==◌, nat_le, if◌then◌else◌, count_by}
use Rattle.std.specs.Char.{is_ascii_digit}
use Rattle.std.specs.List.{list_all}
use Rattle.std.specs.Option.{option_and_then}
use Rattle.std.specs.Str.{all_ascii_digits}
use Rattle.std.proofs.lemmas.List.Sums.{sum_by-cons}
use Rattle.std.proofs.lemmas.Grind.{common_steps}
use Rattle.text_terms.specs.Numerals.{is_numeral}
use Rattle.text_terms.proofs.Cases.{by_bool}
use Rattle.fixed_decimal.specs.declared.form.State.{State}
use Rattle.fixed_decimal.specs.declared.form.State.TheVariants.{Start, Mantissa, Mark, Exponent}
use Rattle.fixed_decimal.specs.Form.{is_sign, is_mark, is_point, without_sign, is_mantissa, is_exponent, mantissa_of, exponent_of, has_mark, has_form}
use Rattle.fixed_decimal.specs.Inside.State.{ends, run}
use Rattle.fixed_decimal.proofs.ByteLaws.{digit-no_mark, digit-no_point, point-no_mark, sign-no_mark}
use Rattle.fixed_decimal.proofs.MarkLaws.{mantissa_of-mark, mantissa_of-other, exponent_of-mark, exponent_of-other, has_mark-mark, has_mark-other}

-- a text may end in this state, if there is one
abbrev pub accepted : Option State → Bool
accepted None = false
accepted (Some s) = ends s

-- a list with a first element isn't empty
some_first : (n : ℕ) (x : Bool) → (not (suc n == 0) && x) ≡ x
some_first n x = let e : (suc n == 0) ≡ false = grind (arith, common_steps) in rw e refl

-- after a digit of the exponent digits alone may stand
accepted-digits : (bytes : List ℕ) → accepted (run (Exponent true) bytes) ≡ all_ascii_digits bytes
accepted-digits [] = refl
accepted-digits (b ∷ bytes) = elim (by_bool (is_ascii_digit b)) [
  | inl digit ↦ rw digit (accepted-digits bytes)
  | inr other ↦ rw other refl
]

-- after its sign stands a numeral
accepted-numeral : (bytes : List ℕ) → accepted (run (Exponent false) bytes) ≡ is_numeral bytes
accepted-numeral [] = refl
accepted-numeral (b ∷ bytes) = elim (by_bool (is_ascii_digit b)) [
  | inl digit ↦ rw digit (accepted-digits bytes ∙ sym (some_first (length bytes) (all_ascii_digits bytes)))
  | inr other ↦ rw other (sym (some_first (length bytes) false))
]

-- after the mark stands the exponent
accepted-exponent : (bytes : List ℕ) → accepted (run Mark bytes) ≡ is_exponent bytes
accepted-exponent [] = refl
accepted-exponent (b ∷ bytes) = elim (by_bool (is_sign b)) [
  | inl sign ↦ rw sign (accepted-numeral bytes)
  | inr other ↦ rw other (accepted-numeral (b ∷ bytes))
]

-- the rest of a mantissa, given whether a digit and whether a point stood before
abbrev shape : Bool → Bool → List ℕ → Bool
shape digit point [] = digit
shape digit point (b ∷ bytes) =
    if is_ascii_digit b then shape true point bytes else if is_point b then (not point && shape digit true bytes) else false

-- the exponent of a text, if it has a mark, is one
abbrev tail_is_good : List ℕ → Bool
tail_is_good text = not (has_mark text) || is_exponent (exponent_of text)

-- a point may stand once
at_point : (digit point : Bool) (b : ℕ) (text : List ℕ) → is_mark b ≡ false
    → accepted (run (Mantissa digit true) text) ≡ (shape digit true (mantissa_of text) && tail_is_good text)
    → accepted (option_and_then (λ t. run t text) (if not point then Some (Mantissa digit true) else if is_mark b && digit then Some Mark else None))
    ≡ (not point && shape digit true (mantissa_of text) && tail_is_good text)
at_point digit true b text other goes_on = rw other refl
at_point digit false b text other goes_on = goes_on

-- a mark may stand after a digit
at_mark : (digit : Bool) (text : List ℕ)
    → accepted (option_and_then (λ t. run t text) (if digit then Some Mark else None)) ≡ (digit && is_exponent text)
at_mark true text = accepted-exponent text
at_mark false text = refl

-- a text may end after a digit
at_end : (digit : Bool) → digit ≡ (digit && true)
at_end true = refl
at_end false = refl

-- a mantissa goes on to the mark or to the end
accepted-mantissa : (digit point : Bool) (text : List ℕ)
    → accepted (run (Mantissa digit point) text) ≡ (shape digit point (mantissa_of text) && tail_is_good text)
accepted-mantissa digit point [] = at_end digit
accepted-mantissa digit point (b ∷ text) = elim (by_bool (is_ascii_digit b)) [
  | inl is_digit ↦
      let plain : is_mark b ≡ false = digit-no_mark b is_digit in
      rw (mantissa_of-other b text plain, exponent_of-other b text plain, has_mark-other b text plain, is_digit)
      (accepted-mantissa true point text)
  | inr no_digit ↦ elim (by_bool (is_point b)) [
    | inl is_dot ↦
        let plain : is_mark b ≡ false = point-no_mark b is_dot in
        rw (mantissa_of-other b text plain, exponent_of-other b text plain, has_mark-other b text plain, no_digit, is_dot)
        (at_point digit point b text plain (accepted-mantissa digit true text))
    | inr no_dot ↦ elim (by_bool (is_mark b)) [
      | inl mark ↦
          rw (mantissa_of-mark b text mark, exponent_of-mark b text mark, has_mark-mark b text mark, no_digit, no_dot, mark)
          (at_mark digit text)
      | inr no_mark ↦ rw (mantissa_of-other b text no_mark, no_digit, no_dot, no_mark) refl
    ]
  ]
]

-- digits and points, of which at most one more point, and a digit among them or before
abbrev counted : Bool → Bool → List ℕ → Bool
counted digit point bytes =
    list_all (λ b. is_ascii_digit b || is_point b) bytes
    && nat_le (count_by is_point bytes + (if point then 1 else 0)) 1
    && nat_le 1 (count_by is_ascii_digit bytes + (if digit then 1 else 0))

-- a count, one element further on
count-yes : (p : ℕ → Bool) (b : ℕ) (bytes : List ℕ) → p b ≡ true → count_by p (b ∷ bytes) ≡ 1 + count_by p bytes
count-yes p b bytes e = sum_by-cons (λ x. cond (p x) 1 0) b bytes ∙ rw e refl

count-no : (p : ℕ → Bool) (b : ℕ) (bytes : List ℕ) → p b ≡ false → count_by p (b ∷ bytes) ≡ 0 + count_by p bytes
count-no p b bytes e = sum_by-cons (λ x. cond (p x) 1 0) b bytes ∙ rw e refl

-- one more digit
count_digit : (all : Bool) (points before digits seen : ℕ)
    → (all && nat_le (points + before) 1 && nat_le 1 (digits + 1)) ≡ (all && nat_le (0 + points + before) 1 && nat_le 1 (1 + digits + seen))
count_digit all points before digits seen =
    let same : 0 + points + before ≡ points + before = omega arith in
    let one : nat_le 1 (digits + 1) ≡ true = grind (arith, common_steps) in
    let more : nat_le 1 (1 + digits + seen) ≡ true = grind (arith, common_steps) in
    rw (same, one, more) refl

-- one more point
count_point : (all : Bool) (points digits seen : ℕ)
    → (all && nat_le (points + 1) 1 && nat_le 1 (digits + seen)) ≡ (all && nat_le (1 + points + 0) 1 && nat_le 1 (0 + digits + seen))
count_point all points digits seen =
    let same : 1 + points + 0 ≡ points + 1 = omega arith in
    let still : 0 + digits + seen ≡ digits + seen = omega arith in
    rw (same, still) refl

-- and one too many
count_points : (all : Bool) (points digits seen : ℕ) → false ≡ (all && nat_le (1 + points + 1) 1 && nat_le 1 (0 + digits + seen))
count_points true points digits seen =
    let many : nat_le (1 + points + 1) 1 ≡ false = grind (arith, common_steps) in rw many refl
count_points false points digits seen = refl

-- a point, where one stood before or not
shape_point : (digit point : Bool) (bytes : List ℕ) → shape digit true bytes ≡ counted digit true bytes
    → (not point && shape digit true bytes)
    ≡ (list_all (λ b. is_ascii_digit b || is_point b) bytes
    && nat_le (1 + count_by is_point bytes + (if point then 1 else 0)) 1
    && nat_le 1 (0 + count_by is_ascii_digit bytes + (if digit then 1 else 0)))
shape_point digit true bytes e = count_points _ (count_by is_point bytes) (count_by is_ascii_digit bytes) _
shape_point digit false bytes e = e ∙ count_point _ (count_by is_point bytes) (count_by is_ascii_digit bytes) _

-- the rest of a mantissa, by counts
shape-counted : (digit point : Bool) (bytes : List ℕ) → shape digit point bytes ≡ counted digit point bytes
shape-counted true true [] = refl
shape-counted true false [] = refl
shape-counted false true [] = refl
shape-counted false false [] = refl
shape-counted digit point (b ∷ bytes) = elim (by_bool (is_ascii_digit b)) [
  | inl is_digit ↦
      rw (count-no is_point b bytes (digit-no_point b is_digit), count-yes is_ascii_digit b bytes is_digit, is_digit)
      (shape-counted true point bytes ∙ count_digit _ (count_by is_point bytes) _ (count_by is_ascii_digit bytes) _)
  | inr no_digit ↦ elim (by_bool (is_point b)) [
    | inl is_dot ↦
        rw (count-yes is_point b bytes is_dot, count-no is_ascii_digit b bytes no_digit, no_digit, is_dot) (shape_point digit point bytes (shape-counted digit true bytes))
    | inr no_dot ↦ rw (no_digit, no_dot) refl
  ]
]

-- a whole mantissa
shape-mantissa : (bytes : List ℕ) → shape false false bytes ≡ is_mantissa bytes
shape-mantissa bytes =
    shape-counted false false bytes ∙ plain (list_all (λ b. is_ascii_digit b || is_point b) bytes) (count_by is_point bytes) (count_by is_ascii_digit bytes)
  where
    plain : (all : Bool) (points digits : ℕ) → (all && nat_le (points + 0) 1 && nat_le 1 (digits + 0)) ≡ (all && nat_le points 1 && nat_le 1 digits)
    plain all points digits =
        let first : points + 0 ≡ points = omega arith in
        let second : digits + 0 ≡ digits = omega arith in
        rw (first, second) refl

-- a mantissa that begins with no sign
unsigned_mantissa : (b : ℕ) (text : List ℕ) → is_sign b ≡ false → without_sign (mantissa_of (b ∷ text)) ≡ mantissa_of (b ∷ text)
unsigned_mantissa b text other = elim (by_bool (is_mark b)) [
  | inl mark ↦ rw (mantissa_of-mark b text mark) refl
  | inr plain ↦ rw (mantissa_of-other b text plain) (rw other refl)
]

-- a text has the form where it is accepted
pub accepted-form : (text : List ℕ) → accepted (run Start text) ≡ has_form text
unfolding has_form
accepted-form [] = refl
accepted-form (b ∷ text) = elim (by_bool (is_sign b)) [
  | inl sign ↦
      let plain : is_mark b ≡ false = sign-no_mark b sign in
      rw (mantissa_of-other b text plain, exponent_of-other b text plain, has_mark-other b text plain, sign)
      (accepted-mantissa false false text ∙ ap (λ good. good && tail_is_good text) (shape-mantissa (mantissa_of text)))
  | inr other ↦
      rw (unsigned_mantissa b text other, other)
      (accepted-mantissa false false (b ∷ text) ∙ ap (λ good. good && tail_is_good (b ∷ text)) (shape-mantissa (mantissa_of (b ∷ text))))
]
