-- The words of a line, appended one after another.
use Rattle.std.proofs.Common.{◌≡◌, ℕ, List, [], ◌∷◌, ◌++◌, refl, sym, ◌∙◌, ap, append-nil, append_assoc}
use Rattle.run_input.specs.Lines.{told_line, words_after}
use Rattle.check_top.specs.Inside.Lines.{spaced}

spaced_append : (xs ys : List (List ℕ)) → spaced (xs ++ ys) ≡ spaced xs ++ spaced ys
spaced_append [] ys = refl
spaced_append (x ∷ xs) ys = ap (λ t. 32 ∷ t) (ap (λ t. x ++ t) (spaced_append xs ys) ∙ sym (append_assoc x (spaced xs) (spaced ys)))

-- no word yet
pub no_words : (out : List ℕ) → out ≡ out ++ spaced []
no_words out = sym (append-nil out)

-- one word more
pub one_more : (first mid last : List ℕ) (words : List (List ℕ)) (word other : List ℕ) → mid ≡ first ++ spaced words → last ≡ mid ++ 32 ∷ other → other ≡ word
    → last ≡ first ++ spaced (words ++ word ∷ [])
one_more first mid last words word other is more same =
    more ∙ ap (λ t. t ++ 32 ∷ other) is ∙ append_assoc first (spaced words) (32 ∷ other) ∙ ap (λ t. first ++ (spaced words ++ 32 ∷ t)) (same ∙ sym (append-nil word))
    ∙ ap (λ t. first ++ t) (sym (spaced_append words (word ∷ [])))

-- the words of a line and its end
after_words : (words : List (List ℕ)) → words_after words ≡ spaced words ++ 10 ∷ []
after_words [] = refl
after_words (word ∷ words) = ap (λ t. 32 ∷ t) (ap (λ t. word ++ t) (after_words words) ∙ sym (append_assoc word (spaced words) (10 ∷ [])))

pub whole_line : (out one two three four head number : List ℕ) (words : List (List ℕ)) → one ≡ out ++ head → two ≡ one ++ 32 ∷ number → three ≡ two ++ spaced words
    → four ≡ three ++ 10 ∷ [] → four ≡ out ++ told_line head (number ∷ words)
whole_line out one two three four head number words a b c d =
    let front : two ≡ out ++ (head ++ 32 ∷ number) = b ∙ ap (λ t. t ++ 32 ∷ number) a ∙ append_assoc out head (32 ∷ number) in
    let middle : three ≡ out ++ (head ++ (32 ∷ number ++ spaced words)) =
    c ∙ ap (λ t. t ++ spaced words) front ∙ append_assoc out (head ++ 32 ∷ number) (spaced words)
    ∙ ap (λ t. out ++ t) (append_assoc head (32 ∷ number) (spaced words)) in
    let tail : (head ++ (32 ∷ number ++ spaced words)) ++ 10 ∷ [] ≡ head ++ words_after (number ∷ words) =
    append_assoc head (32 ∷ number ++ spaced words) (10 ∷ [])
    ∙ ap (λ t. head ++ t) (ap (λ t. 32 ∷ t) (append_assoc number (spaced words) (10 ∷ []) ∙ ap (λ t. number ++ t) (sym (after_words words)))) in
    d ∙ ap (λ t. t ++ 10 ∷ []) middle ∙ append_assoc out (head ++ (32 ∷ number ++ spaced words)) (10 ∷ []) ∙ ap (λ t. out ++ t) tail
