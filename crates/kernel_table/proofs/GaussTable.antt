-- The table in the source is the one of the rule.
use Rattle.std.proofs.Common.{◌≡◌, ℕ, zero, suc, ◌+◌, ◌<◌, ◌≤◌, List, [], ◌∷◌, refl, sym, ap, ◌∙◌, arith, get_or}
use Rattle.kernel_table.specs.declared.table.TheConstants.{GAUSS_TABLE}
use Rattle.kernel_table.specs.Kernel.{Row, next_row, gauss_row, gauss_entry}
use Rattle.kernel_table.proofs.KernelLaws.{gauss_entry-row}

-- the entries of n rows, from one on
abbrev entries_from : ℕ → Row → List ℕ
entries_from zero row = []
entries_from (suc n) row = row.entry ∷ entries_from n (next_row row)

-- the i-th of them is that of the row i further on
get_or-entries_from : (n k i : ℕ) → i < n → get_or (entries_from n (gauss_row k)) i 0 ≡ (gauss_row (k + i)).entry
unfolding gauss_row
get_or-entries_from zero k i h = absurd (omega arith)
get_or-entries_from (suc n) k zero h = ap (λ j. (gauss_row j).entry) (omega arith)
get_or-entries_from (suc n) k (suc i) h = get_or-entries_from n (suc k) i (omega arith) ∙ ap (λ j. (gauss_row j).entry) (omega arith)

-- the source's table is the entries of the rule, computed
table-is : GAUSS_TABLE ≡ entries_from 257 (gauss_row 0)
unfolding gauss_row
table-is = refl

-- an entry of the table in the source
pub table-entry : (i : ℕ) → i ≤ 256 → get_or GAUSS_TABLE i 0 ≡ gauss_entry i
table-entry i h =
    ap (λ table. get_or table i 0) table-is ∙ get_or-entries_from 257 0 i (omega arith) ∙ ap (λ j. (gauss_row j).entry) (omega arith)
    ∙ sym (gauss_entry-row i)
