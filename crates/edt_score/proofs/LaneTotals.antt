-- One more row of the table, in one of the lanes.
use Rattle.std.proofs.Common.{◌≡◌, ℕ, List, ◌∷◌, ◌+◌, length, map, drop, take, ap, arith, refl}
use Rattle.std.proofs.lemmas.List.{length-map}
use Rattle.kernel_table.specs.declared.kernels.Shape.{Shape}
use Rattle.edt_score.specs.declared.ends.Ends.{Ends}
use Rattle.edt_score.specs.PairTerms.{PairTerms}
use Rattle.edt_score.specs.Inside.Ends.{row_total, table_total}
use Rattle.edt_score.specs.Inside.Lanes.{lane}
use Rattle.edt_score.proofs.RowTotals.{table_step}

pub lanes_step : (shape : Shape) (k : ℕ) (first : List Ends) (rest others : List (List Ends)) (left row later : List PairTerms) (sum before total : ℕ)
    → rest ≡ first ∷ others → row ≡ take (length others) left → later ≡ drop (length others) left
    → sum ≡ before + row_total shape (lane k first) (map (lane k) others) row
    → before + table_total shape (map (lane k) rest) left ≡ total
    → sum + table_total shape (map (lane k) others) later ≡ total
lanes_step shape k first rest others left row later sum before total rest_is row_is later_is sum_is before_is =
    let long : length (map (lane k) others) ≡ length others = simp length-map in
    let step = table_step shape (lane k first) (map (lane k) rest) (map (lane k) others) left row later before
    (row_total shape (lane k first) (map (lane k) others) row) total (ap (map (lane k)) rest_is) (rw long row_is) (rw long later_is) refl before_is in
    omega (arith, step)
