use Rattle.std.proofs.Common.{◌≡◌, ◌++◌, ◌∷◌, [], List, ℕ, IfOk, append_assoc, codes, subst}
use Rattle.std.specs.String.{string_bytes}
use Rattle.std.specs.Fmt.{decimal}
use Rattle.edt_top.proofs.solve.answer.place_text.Goals as goal

-- the pieces of the line, joined from the right and from the left
joined : (n x y z s : List ℕ)
    → codes "BEST " ++ (n ++ (codes " " ++ (x ++ (codes " " ++ (y ++ (codes " " ++ (z ++ (codes " " ++ (s ++ 10 ∷ [])))))))))
    ≡ (codes "BEST " ++ n ++ codes " " ++ x ++ codes " " ++ y ++ codes " " ++ z ++ codes " " ++ s) ++ 10 ∷ []
joined n x y z s = simp append_assoc

pub returns : goal.returns
returns c =
    subst (λ line. IfOk c.format.result (λ text. string_bytes text ≡ line))
    (joined (decimal c.args.node) (decimal c.args.ix) (decimal c.args.iy) (decimal c.args.iz) (decimal c.args.score)) c.format.ensures.ok
