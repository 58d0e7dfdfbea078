-- The bytes of a file that is read piece by piece.
use Rattle.std.proofs.Common.{◌≡◌, List, [], ℕ, ◌+◌, ◌-◌, ◌<◌, ◌≤◌, ◌++◌, length, take, drop, Option, Some, None, IfSome, OnSome, refl, sym, subst, ◌∙◌, ap, arith, append_assoc, length-drop}
use Rattle.std.proofs.lemmas.List.{length-take-le, take-take, take-append-le, take_all, drop-drop}
use Rattle.std.proofs.Math.Seq.{take-add, take-append-add}
use Rattle.edt_outside.specs.Shelves.{Gives}

-- `len` bytes came: they are the first of the file, and the others are unread
pub record Came (bytes : List ℕ) (len : ℕ) (all : List ℕ) (left : Option (List ℕ)) : Type 0 where
  pub within : len ≤ length bytes
  pub front : take len all ≡ take len bytes
  pub rest : left ≡ Some (drop len bytes)

-- a vector of m bytes that keeps its first `len` and takes a slice after them
pub take-joined : (len n m : ℕ) (front into post more : List ℕ) → len ≤ length front → n ≤ length into → len + n ≤ m
    → take (len + n) (take m ((take len front ++ (into ++ post)) ++ more)) ≡ take len front ++ take n into
take-joined len n m front into post more fits there room =
    let kept = take len front in
    let short : length (take len front) ≡ len = length-take-le len front fits in
    let rest : List ℕ = into ++ (post ++ more) in
    let flat : (take len front ++ (into ++ post)) ++ more ≡ take len front ++ (into ++ (post ++ more)) = simp append_assoc in
    let parted : take (len + n) (take len front ++ rest) ≡ take len front ++ take n rest =
    let P : ℕ → Type 0 = λ k. take (k + n) (take len front ++ rest) ≡ take len front ++ take n rest in
    subst P short (take-append-add (take len front) rest n) in
    take-take (len + n) m _ room ∙ ap (take (len + n)) flat ∙ parted ∙ ap (λ (t : List ℕ). take len front ++ t) (take-append-le n into (post ++ more) there)

-- the first bytes of such a vector
pub take-front : (len m : ℕ) (front into more : List ℕ) → len ≤ length front → len ≤ m
    → take len (take m ((take len front ++ into) ++ more)) ≡ take len front
take-front len m front into more fits room =
    let short : length (take len front) ≡ len = length-take-le len front fits in
    let flat : (take len front ++ into) ++ more ≡ take len front ++ (into ++ more) = append_assoc (take len front) into more in
    take-take len m _ room ∙ ap (take len) flat ∙ take-append-le len (take len front) (into ++ more) (omega arith) ∙ take-take len len front (omega arith)

-- a read into the place after the first bytes of the vector
pub Came-read : (first before after : Option (List ℕ)) (len n : ℕ) (all mid into next : List ℕ) → IfSome first (λ bytes. Came bytes len all before)
    → take len mid ≡ take len all → take (len + n) next ≡ take len mid ++ take n into → IfSome before (λ unread. Gives unread n into after)
    → IfSome first (λ bytes. Came bytes (len + n) next after)
Came-read None before after len n all mid into next came same joined gives = tt
Came-read (Some bytes) before after len n all mid into next came same joined gives =
    let given : Gives (drop len bytes) n into after = rw came.rest at gives in
    let there : n ≤ length bytes - len = rw (length-drop len bytes) at given.there in
    let within : len ≤ length bytes = came.within in
    record {
      within = omega arith;
      front = joined ∙ rw (same, came.front, given.given) (sym (take-add len n bytes));
      rest = given.removed ∙ ap (λ (rest : List ℕ). Some rest) (drop-drop n len bytes);
    }

-- where the last read gave nothing, all of the file came
pub Came-all : (first before after : Option (List ℕ)) (len n : ℕ) (all into : List ℕ) → IfSome first (λ bytes. Came bytes len all before)
    → IfSome before (λ unread. Gives unread n into after) → n ≡ 0 → 0 < length into
    → IfSome first (λ bytes. (take len all ≡ bytes) × (length bytes ≡ len) × (after ≡ Some []))
Came-all None before after len n all into came gives none room = tt
Came-all (Some bytes) before after len n all into came gives none room =
    let given : Gives (drop len bytes) n into after = rw came.rest at gives in
    let ends : drop len bytes ≡ [] = given.ends none room in
    let all_read : length bytes - len ≡ 0 = sym (length-drop len bytes) ∙ ap length ends in
    let within : len ≤ length bytes = came.within in
    let long : length bytes ≤ len = omega arith in
    (came.front ∙ take_all len bytes long, omega arith, given.removed ∙ rw (ends, none) refl)

-- the bytes that are kept are then the whole file, within the limit
pub whole_file : (first : Option (List ℕ)) (len limit : ℕ) (all items : List ℕ) (P : Type 0)
    → IfSome first (λ bytes. (take len all ≡ bytes) × (length bytes ≡ len) × P) → items ≡ take len all → len ≤ limit
    → IfSome first (λ bytes. (items ≡ bytes) × (length bytes ≤ limit))
whole_file None len limit all items P came kept within = tt
whole_file (Some bytes) len limit all items P came kept within = (kept ∙ came.0, omega arith)

-- and nothing is left
pub nothing_left : (first : Option (List ℕ)) (len : ℕ) (all : List ℕ) (P : Type 0)
    → IfSome first (λ bytes. (take len all ≡ bytes) × (length bytes ≡ len) × P) → OnSome first P
nothing_left None len all P came = tt
nothing_left (Some bytes) len all P came = came.2
