-- The shortest decimal of a number is the one word that reads as it.
use Rattle.std.proofs.Common.{◌≡◌, ℕ, zero, suc, ◌<◌, ◌^◌, true, List, length, get_or, ap, arith, rules, lit<}
use Rattle.std.specs.Fmt.{decimal}
use Rattle.std.specs.Str.{all_ascii_digits}
use Rattle.std.proofs.lemmas.Fmt.{decimal-digits_value, digits_value-decimal, digits_decimal, decimal_nonempty, first_decimal, decimal_digit}
use Rattle.std.proofs.lemmas.Str.Parse.{IsNumeralModel, numerals_by_fold}
use Rattle.std.proofs.lemmas.Grind.{common_steps}
use Rattle.text_terms.specs.Numerals.{value_after, value_of, is_shortest_decimal}

-- digits and their value are those of std
pub numerals : IsNumeralModel (λ ds. all_ascii_digits ds ≡ true) (value_after 0)
numerals = numerals_by_fold _ (search rules) value_after (search rules)

-- the value of a shortest decimal is its number
pub value_of-decimal : (n : ℕ) → n < 2 ^ 64 → value_of (decimal n) ≡ n
value_of-decimal n small = digits_value-decimal numerals n small

-- a shortest decimal has digits alone
pub digits_of-shortest : (word : List ℕ) → is_shortest_decimal word ≡ true → all_ascii_digits word ≡ true
digits_of-shortest word h = grind (arith, common_steps)

-- and at least one
pub nonempty-shortest : (word : List ℕ) → is_shortest_decimal word ≡ true → 0 < length word
nonempty-shortest word h = grind (arith, common_steps)

-- and a first digit that isn't 0, unless it is the only one
pub first-shortest : (word : List ℕ) → is_shortest_decimal word ≡ true → get_or word 0 0 ≡ 48 → length word ≡ 1
first-shortest word h nought = grind (arith, common_steps)

-- a shortest decimal below 2^64 is the decimal of its value
pub decimal-value_of : (word : List ℕ) → is_shortest_decimal word ≡ true → value_of word < 2 ^ 64 → decimal (value_of word) ≡ word
decimal-value_of word h small =
    decimal-digits_value numerals word (digits_of-shortest word h) (nonempty-shortest word h) (first-shortest word h) small

-- what reads as a shortest decimal from its three parts
pub shortest_by_parts : (word : List ℕ) → all_ascii_digits word ≡ true → 0 < length word
    → (get_or word 0 0 ≡ 48 → length word ≡ 1) → is_shortest_decimal word ≡ true
shortest_by_parts word digits some first = grind (arith, common_steps)

-- a decimal that begins with 0 is that of 0
pub zero_first : (n : ℕ) → n < 2 ^ 64 → get_or (decimal n) 0 0 ≡ 48 → length (decimal n) ≡ 1
zero_first zero small first = ap length (decimal_digit 0 (lit< tt))
zero_first (suc n) small first = absurd (omega (arith, first_decimal (suc n) (omega arith) small))

-- the decimal of a number is a shortest decimal
pub shortest-decimal : (n : ℕ) → n < 2 ^ 64 → is_shortest_decimal (decimal n) ≡ true
shortest-decimal n small =
    shortest_by_parts (decimal n) (digits_decimal numerals n small) (decimal_nonempty n small) (zero_first n small)
