-- The steps of the loop that adds up the pairs of picks from their ends and terms.
use Rattle.std.proofs.Common.{◌≡◌, ℕ, List, [], ◌∷◌, ◌+◌, ◌*◌, ◌^◌, ◌≤◌, zero, suc, arith, refl, length, drop, take, ap, ◌∙◌}
use Rattle.std.proofs.Math.Nat.{mul-le-mul}
use Rattle.kernel_table.specs.declared.kernels.Shape.{Shape}
use Rattle.edt_score.specs.PairTerms.{PairTerms}
use Rattle.edt_score.specs.Inside.Ends.{ends_value, row_total, table_total}
use Rattle.edt_score.specs.Inside.Pairs.{pair_count}
use Rattle.edt_score.specs.declared.ends.Ends.{Ends}

-- a weight by a value is at most 2^20 of the greatest weight
pub term-le : (weight value : ℕ) → weight ≤ 262144000 → value ≤ 2 ^ 20 → weight * value ≤ 274877906944000
term-le weight value light at_most =
    let product : weight * value ≤ 262144000 * 1048576 = mul-le-mul light at_most in omega arith

-- the first pairs are enough for a row
pub row_total-take : (shape : Shape) (first : Ends) (others : List Ends) (pairs : List PairTerms)
    → row_total shape first others (take (length others) pairs) ≡ row_total shape first others pairs
row_total-take shape first [] pairs = refl
row_total-take shape first (other ∷ others) [] = refl
row_total-take shape first (other ∷ others) (pair ∷ pairs) = ap (λ rest. ends_value shape first other pair + rest) (row_total-take shape first others pairs)

-- there are few pairs
pair_count-square : (n : ℕ) → 2 * pair_count n + n ≡ n * n
pair_count-square zero = refl
pair_count-square (suc n) = let before = pair_count-square n in omega arith

pub pair_count-le : (n : ℕ) → n ≤ 256 → pair_count n ≤ 32640
pair_count-le n few =
    let square : n * n ≤ 256 * n = mul-le-mul few (omega arith) in
    let count = pair_count-square n in
    omega arith

-- one more row of the table
pub table_step : (shape : Shape) (first : Ends) (rest others : List Ends) (left row later : List PairTerms) (sum result total : ℕ)
    → rest ≡ first ∷ others → row ≡ take (length others) left → later ≡ drop (length others) left
    → result ≡ row_total shape first others row → sum + table_total shape rest left ≡ total
    → sum + result + table_total shape others later ≡ total
table_step shape first rest others left row later sum result total rest_is row_is later_is result_is before =
    let opened : sum + (row_total shape first others left + table_total shape others (drop (length others) left)) ≡ total = rw rest_is at before in
    let front : row_total shape first others row ≡ row_total shape first others left =
    ap (row_total shape first others) row_is ∙ row_total-take shape first others left in
    let back : table_total shape others later ≡ table_total shape others (drop (length others) left) = ap (table_total shape others) later_is in
    omega arith

-- the pairs that are left after a row
pub pair_count-rest : {X : Type 0} (first : X) (rest others : List X) (left later : ℕ) → rest ≡ first ∷ others → left ≡ pair_count (length rest)
    → later + length others ≡ left → later ≡ pair_count (length others)
pair_count-rest first rest others left later rest_is left_is parts =
    let opened : left ≡ length others + pair_count (length others) = rw rest_is at left_is in
    omega arith
