-- Bytes that begin with earlier ones.
use Rattle.std.proofs.Common.{◌≡◌, ℕ, List, [], ◌∷◌, ◌++◌, length, take, refl}
use Rattle.cover_certificate.specs.Inside.Keeping.{Keeps}

keeps_front : (before text after : List ℕ) → take (length (before ++ text)) after ≡ before ++ text → take (length before) after ≡ before
keeps_front [] text after e = refl
keeps_front (b ∷ before) text [] e = absurd cc
keeps_front (b ∷ before) text (a ∷ after) e =
    let head : a ≡ b = cc in
    let tail : take (length (before ++ text)) after ≡ before ++ text = cc in
    rw (head, keeps_front before text after tail) refl

-- what keeps more bytes keeps the first of them
pub keeps_more : (before text mid after : List ℕ) → mid ≡ before ++ text → Keeps mid after → Keeps before after
keeps_more before text mid after is kept =
    let front : take (length mid) after ≡ mid = kept.front in
    record { front = keeps_front before text after (rw is at front) }
