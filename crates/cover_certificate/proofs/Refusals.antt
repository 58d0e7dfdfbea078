-- A refusal that is passed on.
use Rattle.std.proofs.Common.{◌≡◌, Ok, Err, subst, sym}
use Rattle.std.specs.Prelude.{Result, IfErr, IsErr, IsErrAnd}

-- an error that is another holds what that one holds
pub passed_on : {X E : Type 0} (P : E → Type 0) (r : Result X E) (e : E) → IsErr r × IsErrAnd r (λ y. y ≡ e) → P e → IfErr r P
passed_on P (Ok x) e is h = tt
passed_on P (Err y) e is h = subst P (sym is.1) h
