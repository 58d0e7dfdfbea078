use Rattle.std.proofs.Common.{◌≡◌, ◌++◌, List, ℕ, IfOk, append_assoc, codes, subst}
use Rattle.std.specs.String.{string_bytes}
use Rattle.std.specs.Fmt.{decimal}
use Rattle.edt_top.proofs.demo.text.counts_text.Goals as goal

-- the pieces, joined from the right and from the left
joined : (head met cover near : List ℕ) → head ++ (codes " MET " ++ (met ++ (codes " COVER " ++ (cover ++ (codes " NEAR " ++ near)))))
    ≡ head ++ codes " MET " ++ met ++ codes " COVER " ++ cover ++ codes " NEAR " ++ near
joined head met cover near = simp append_assoc

pub returns : goal.returns
returns c =
    subst (λ counts. IfOk c.format.result (λ text. string_bytes text ≡ counts))
    (joined c.args.head.now (decimal c.args.met) (decimal c.args.cover) (decimal c.args.near)) c.format.ensures.ok
