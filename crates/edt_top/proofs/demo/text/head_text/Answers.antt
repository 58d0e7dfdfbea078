use Rattle.std.proofs.Common.{◌≡◌, ◌++◌, List, ℕ, IfOk, append_assoc, codes, subst}
use Rattle.std.specs.String.{string_bytes}
use Rattle.std.specs.Fmt.{decimal}
use Rattle.edt_top.proofs.demo.text.head_text.Goals as goal

-- the pieces, joined from the right and from the left
joined : (seed side nodes : List ℕ) → codes "DEMO " ++ (seed ++ (codes " " ++ (side ++ (codes " NODES " ++ nodes))))
    ≡ codes "DEMO " ++ seed ++ codes " " ++ side ++ codes " NODES " ++ nodes
joined seed side nodes = simp append_assoc

pub returns : goal.returns
returns c =
    subst (λ head. IfOk c.format.result (λ text. string_bytes text ≡ head))
    (joined (decimal c.args.seed) (decimal c.args.side) (decimal c.args.nodes)) c.format.ensures.ok
