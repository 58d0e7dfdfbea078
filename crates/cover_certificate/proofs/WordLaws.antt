-- Words and the numbers that they are.
use Rattle.std.proofs.Common.{◌≡◌, ℕ, suc, ◌<◌, ◌^◌, Bool, true, not, List, [], ◌∷◌, length, get_or, drop, map, Option, Some, None, refl, sym, arith, drop-cons}
use Rattle.std.specs.Prelude.{◌&&◌, ◌==◌, nat_le, nat_lt, decimal}
use Rattle.std.specs.Char.{is_ascii_digit}
use Rattle.std.specs.Str.{all_ascii_digits}
use Rattle.std.specs.List.{list_all}
use Rattle.std.proofs.lemmas.Grind.{common_steps}
use Rattle.text_terms.specs.Words.{is_blank}
use Rattle.text_terms.specs.Numerals.{is_shortest_decimal}
use Rattle.text_terms.proofs.NumeralLaws.{shortest-decimal, digits_of-shortest, nonempty-shortest}
use Rattle.edt_text.specs.Reading.{reading_of}
use Rattle.edt_text.proofs.ReadingLaws.{reading_of-decimal, reading_of-Some}
use Rattle.cover_certificate.specs.declared.line_form.Slot.{Slot}
use Rattle.cover_certificate.specs.LineForms.{is_allowed, are_allowed}
use Rattle.cover_certificate.specs.LineWords.{is_plain}
use Rattle.cover_certificate.specs.LineFaults.{number_of, is_between, fits_number, fits_limit, all_fit}
use Rattle.cover_certificate.proofs.PartLaws.{both}

-- a digit parts no words
digit_plain : (b : ℕ) → is_ascii_digit b ≡ true → not (is_blank b) ≡ true
digit_plain b digit = grind (arith, common_steps)

digits_plain : (bytes : List ℕ) → all_ascii_digits bytes ≡ true → list_all (λ b. not (is_blank b)) bytes ≡ true
digits_plain [] digits = refl
digits_plain (b ∷ bytes) digits =
    let parted = both (is_ascii_digit b) (all_ascii_digits bytes) digits in
    rw (digit_plain b parted.0, digits_plain bytes parted.1) refl

some_bytes : (word : List ℕ) → 0 < length word → not (length word == 0) ≡ true
some_bytes word some = grind (arith, common_steps)

-- the decimal of a number is a word
pub plain-decimal : (n : ℕ) → n < 2 ^ 64 → is_plain (decimal n) ≡ true
plain-decimal n small =
    let shortest : is_shortest_decimal (decimal n) ≡ true = shortest-decimal n small in
    rw (some_bytes (decimal n) (nonempty-shortest (decimal n) shortest), digits_plain (decimal n) (digits_of-shortest (decimal n) shortest)) refl

-- and is its number
pub reads-decimal : (n : ℕ) → n < 2 ^ 64 → reading_of (decimal n) ≡ Some n
reads-decimal n small = (reading_of-decimal n small).0

pub number_of-decimal : (n : ℕ) → n < 2 ^ 64 → number_of (decimal n) ≡ n
number_of-decimal n small = rw (reads-decimal n small) refl

-- a slot of a number of 64 bits
abbrev pub is_wide : Slot → Bool
is_wide slot = nat_lt slot.most (2 ^ 64)

-- a number that a slot of 64 bits allows
pub record Allowed (slot : Slot) (n : ℕ) : Type 0 where
  pub least : nat_le slot.least n ≡ true
  pub most : nat_le n slot.most ≡ true
  pub limit : nat_le n slot.limit ≡ true

pub allowed : (slot : Slot) (n : ℕ) → is_allowed slot n ≡ true → Allowed slot n
allowed slot n h =
    let outer = both (nat_le slot.least n && nat_le n slot.most) (nat_le n slot.limit) h in
    let inner = both (nat_le slot.least n) (nat_le n slot.most) outer.0 in
    record { least = inner.0; most = inner.1; limit = outer.1 }

pub allowed_small : (slot : Slot) (n : ℕ) → is_wide slot ≡ true → Allowed slot n → n < 2 ^ 64
allowed_small slot n wide h =
    let most : nat_le n slot.most ≡ true = h.most in
    grind (arith, common_steps)

-- the decimals of numbers that slots allow fit them
pub record DecimalsFit (slots : List Slot) (numbers : List ℕ) : Type 0 where
  pub plain : all_fit (λ slot. is_plain) slots (map decimal numbers) ≡ true
  pub good : all_fit fits_number slots (map decimal numbers) ≡ true
  pub within : all_fit fits_limit slots (map decimal numbers) ≡ true
  pub words : list_all is_plain (map decimal numbers) ≡ true
  pub values : map number_of (map decimal numbers) ≡ numbers

pub decimals_fit : (slots : List Slot) (numbers : List ℕ) → list_all is_wide slots ≡ true → are_allowed slots numbers ≡ true
    → DecimalsFit slots numbers
decimals_fit [] [] wide h = record { plain = refl; good = refl; within = refl; words = refl; values = refl }
decimals_fit [] (n ∷ numbers) wide h = absurd cc
decimals_fit (slot ∷ slots) [] wide h = absurd cc
decimals_fit (slot ∷ slots) (n ∷ numbers) wide h =
    let wides = both (is_wide slot) (list_all is_wide slots) wide in
    let parted = both (is_allowed slot n) (are_allowed slots numbers) h in
    let one : Allowed slot n = allowed slot n parted.0 in
    let small : n < 2 ^ 64 = allowed_small slot n wides.0 one in
    let more : DecimalsFit slots numbers = decimals_fit slots numbers wides.1 parted.1 in
    record {
      plain = rw (plain-decimal n small, more.plain) refl;
      good = rw (reads-decimal n small, one.least, one.most, more.good) refl;
      within = rw (number_of-decimal n small, one.limit, more.within) refl;
      words = rw (plain-decimal n small, more.words) refl;
      values = rw (number_of-decimal n small, more.values) refl;
    }

-- a word that fits a slot is the decimal of its number
pub record WordIs (slot : Slot) (word : List ℕ) : Type 0 where
  pub is : decimal (number_of word) ≡ word
  pub between : is_between slot (Some (number_of word)) ≡ true

word_read : (slot : Slot) (word : List ℕ) (reading : Option ℕ) → reading_of word ≡ reading → is_between slot reading ≡ true → WordIs slot word
word_read slot word None e h = absurd cc
word_read slot word (Some n) e h =
    let value : number_of word ≡ n = rw e refl in
    record { is = rw value (sym (reading_of-Some word n e)); between = rw value h }

pub word_is : (slot : Slot) (word : List ℕ) → fits_number slot word ≡ true → WordIs slot word
word_is slot word h = word_read slot word (reading_of word) refl h

-- words that fit slots are the decimals of numbers that they allow
pub record WordsAre (slots : List Slot) (words : List (List ℕ)) : Type 0 where
  pub are : map decimal (map number_of words) ≡ words
  pub allowed : are_allowed slots (map number_of words) ≡ true

pub words_are : (slots : List Slot) (words : List (List ℕ)) → all_fit fits_number slots words ≡ true → all_fit fits_limit slots words ≡ true
    → WordsAre slots words
words_are [] [] good within = record { are = refl; allowed = refl }
words_are [] (word ∷ words) good within = absurd cc
words_are (slot ∷ slots) [] good within = absurd cc
words_are (slot ∷ slots) (word ∷ words) good within =
    let goods = both (fits_number slot word) (all_fit fits_number slots words) good in
    let withins = both (fits_limit slot word) (all_fit fits_limit slots words) within in
    let one : WordIs slot word = word_is slot word goods.0 in
    let between : (nat_le slot.least (number_of word) && nat_le (number_of word) slot.most) ≡ true = one.between in
    let limit : nat_le (number_of word) slot.limit ≡ true = withins.0 in
    let more : WordsAre slots words = words_are slots words goods.1 withins.1 in
    record {
      are = rw (one.is, more.are) refl;
      allowed = rw (between, limit, more.allowed) refl;
    }

-- a test of words from a place on
pub all_fit-drop : (fits : Slot → List ℕ → Bool) (slots : List Slot) (i : ℕ) (d : Slot) (word : List ℕ) (words : List (List ℕ)) → i < length slots
    → all_fit fits (drop i slots) (word ∷ words) ≡ (fits (get_or slots i d) word && all_fit fits (drop (suc i) slots) words)
all_fit-drop fits slots i d word words within = rw (drop-cons slots i d within) refl
