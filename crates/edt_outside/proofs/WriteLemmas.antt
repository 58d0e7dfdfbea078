-- Bytes that are written piece by piece.
use Rattle.std.proofs.Common.{List, ℕ, ◌+◌, ◌-◌, ◌++◌, length, take, drop, Option, Some, None, append_assoc}
use Rattle.std.proofs.Math.Seq.{take-add}
use Rattle.std.proofs.lemmas.List.{take_rest}
use Rattle.edt_outside.specs.Sinks.{Appends}

-- the first bytes, and then the first of the piece that is left
pub Appends-take : (before mid after : Option (List ℕ)) (n m : ℕ) (bytes : List ℕ) → Appends before mid (take n bytes)
    → Appends mid after (take m (take (length bytes - n) (drop n bytes))) → Appends before after (take (n + m) bytes)
Appends-take None mid after n m bytes first second = tt
Appends-take (Some taken) mid after n m bytes first second =
    let next : Appends (Some (taken ++ take n bytes)) after (take m (drop n bytes)) = rw (first, take_rest bytes n) at second in
    rw (take-add n m bytes, ← append_assoc) next
