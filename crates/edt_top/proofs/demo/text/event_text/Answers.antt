use Rattle.std.proofs.Common.{◌≡◌, ◌∙◌, ◌++◌, ◌∷◌, [], List, ℕ, IfOk, ap, append_assoc, codes, length, rules, subst}
use Rattle.std.specs.String.{string_bytes}
use Rattle.std.specs.Fmt.{decimal}
use Rattle.edt_top.specs.Demo.Text.{counts_words, found_line}
use Rattle.edt_top.proofs.demo.text.event_text.Goals as goal

-- the pieces of the line, joined from the right and from the left
joined : (counts node score source : List ℕ)
    → counts ++ (codes " BEST " ++ (node ++ (codes " " ++ (score ++ (codes " SOURCE " ++ (source ++ 10 ∷ []))))))
    ≡ (counts ++ codes " BEST " ++ node ++ codes " " ++ score ++ codes " SOURCE " ++ source) ++ 10 ∷ []
joined counts node score source = simp append_assoc

pub returns : goal.returns
returns c =
    let head = c.args.head.now in
    let event = c.args.event.now in
    let counts = c.in_ok-counts.counts in
    let cover : c.len.result ≡ length event.cover.items = search rules in
    let near : c.len-2.result ≡ length event.near.items = search rules in
    let counted : string_bytes counts ≡ counts_words head event.met (length event.cover.items) (length event.near.items) =
    c.in_ok-counts.ensures ∙ (ap (λ n. counts_words head event.met n c.len-2.result) cover ∙ ap (λ n. counts_words head event.met (length event.cover.items) n) near) in
    subst (λ (line : List ℕ). IfOk c.format.result (λ text. string_bytes text ≡ line))
    (joined (string_bytes counts) (decimal event.hyp) (decimal event.score) (decimal c.args.source)
    ∙ ap (λ words. found_line words event.hyp event.score c.args.source) counted) c.format.ensures.ok
