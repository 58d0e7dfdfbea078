-- What a sink has taken after one piece and then another.
use Rattle.std.proofs.Common.{◌≡◌, ℕ, ◌∙◌, sym, ap, subst, List, [], ◌++◌, length, take, drop, append_assoc, append-nil, Option, Some, None, IfSome}
use Rattle.std.proofs.Math.Seq.{take-append_seam}
use Rattle.std.proofs.lemmas.List.{take-append-drop}
use Rattle.edt_outside.specs.Sinks.{Appends}

-- one text and then another
pub appends_then : (before mid after : Option (List ℕ)) (xs ys : List ℕ) → Appends before mid xs → Appends mid after ys → Appends before after (xs ++ ys)
appends_then None mid after xs ys first then = tt
appends_then (Some taken) mid after xs ys first then =
    let second : IfSome (Some (taken ++ xs)) (λ bytes. after ≡ Some (bytes ++ ys)) = subst (λ m. IfSome m (λ bytes. after ≡ Some (bytes ++ ys))) first then in
    second ∙ ap Some (append_assoc taken xs ys)

-- nothing
pub appends_none : (before after : Option (List ℕ)) → after ≡ before → Appends before after []
appends_none None after same = tt
appends_none (Some taken) after same = same ∙ ap Some (sym (append-nil taken))

-- a text, and a front of the piece after it, are a front of the whole
pub front_of_whole : (xs piece rest whole : List ℕ) (k : ℕ) → whole ≡ (xs ++ piece) ++ rest → xs ++ take k piece ≡ take (length (xs ++ take k piece)) whole
front_of_whole xs piece rest whole k is =
    let tail : take k piece ++ (drop k piece ++ rest) ≡ piece ++ rest = sym (append_assoc (take k piece) (drop k piece) rest) ∙ ap (λ p. p ++ rest) (take-append-drop k piece) in
    let split : whole ≡ (xs ++ take k piece) ++ (drop k piece ++ rest) = is ∙ (append_assoc xs piece rest ∙ (ap (λ t. xs ++ t) (sym tail) ∙ sym (append_assoc xs (take k piece) (drop k piece ++ rest)))) in
    sym (ap (take (length (xs ++ take k piece))) split ∙ take-append_seam (xs ++ take k piece) (drop k piece ++ rest))
