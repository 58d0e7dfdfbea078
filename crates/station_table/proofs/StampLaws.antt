-- Stamps, and whether they are that of now.
use Rattle.std.proofs.Common.{◌≡◌, ◌≢◌, ℕ, ◌<◌, false, List, [], ◌∷◌, All, length, map, replicate, refl, arith}
use Rattle.std.specs.Prelude.{◌==◌}
use Rattle.std.proofs.lemmas.Bool.{ne_eqb}
use Rattle.std.proofs.lemmas.List.Elements.{All-head, All-tail}

-- no stamp before now is that of now
pub none_now : (now : ℕ) (stamps : List ℕ) → All (λ stamp. stamp < now) stamps → map (λ (stamp : ℕ). stamp == now) stamps ≡ replicate (length stamps) false
none_now now [] before = refl
none_now now (stamp ∷ stamps) before =
    let less : stamp < now = All-head (λ s. s < now) stamp stamps before in
    let differs : stamp ≢ now = omega (arith, less) in
    rw (ne_eqb stamp now differs, none_now now stamps (All-tail (λ s. s < now) stamp stamps before)) refl
