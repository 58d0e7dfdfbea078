use Rattle.std.proofs.Common.{◌≡◌, ◌++◌, ◌∷◌, [], List, ℕ, IfOk, append_assoc, codes, subst, sym}
use Rattle.std.specs.String.{string_bytes}
use Rattle.octree_search.specs.declared.found.Found.{Found}
use Rattle.octree_search.specs.Outcomes.{found_value}
use Rattle.edt_top.specs.Demo.Text.{demo_line}
use Rattle.edt_top.proofs.demo.text.outcome_text.Goals as goal

-- the pieces of a short line, joined from the right and from the left
joined : (head tail : List ℕ) → head ++ (tail ++ 10 ∷ []) ≡ (head ++ tail) ++ 10 ∷ []
joined head tail = simp append_assoc

pub returns-in-NoFit : goal.returns-in-NoFit
returns-in-NoFit c =
    subst (λ (found : Found). IfOk c.format.result (λ text. string_bytes text ≡ demo_line c.args.head.now c.args.source (found_value found))) (sym c.in-NoFit.is)
    (subst (λ (line : List ℕ). IfOk c.format.result (λ text. string_bytes text ≡ line)) (joined c.args.head.now (codes " NOFIT")) c.format.ensures.ok)

pub returns-in-NearLimit : goal.returns-in-NearLimit
returns-in-NearLimit c =
    subst (λ (found : Found). IfOk c.format-in-NearLimit.result (λ text. string_bytes text ≡ demo_line c.args.head.now c.args.source (found_value found))) (sym c.in-NearLimit.is)
    (subst (λ (line : List ℕ). IfOk c.format-in-NearLimit.result (λ text. string_bytes text ≡ line)) (joined c.args.head.now (codes " NEARLIMIT")) c.format-in-NearLimit.ensures.ok)
