-- Parts of a text, written one after another.
use Rattle.std.proofs.Common.{◌≡◌, ℕ, suc, ◌+◌, ◌<◌, List, [], ◌∷◌, ◌++◌, length, take, drop, get_or, Option, Err, Ok, Result, map, refl, sym, ◌∙◌, ap, subst, append-nil, append_assoc, arith}
use Rattle.std.proofs.Math.Seq.{take-append_seam}
use Rattle.std.proofs.lemmas.List.{length-append, length-map, length-take-le}
use Rattle.std.proofs.lemmas.List.FromFn.{length-enumerate_from}
use Rattle.std.proofs.lemmas.Grind.{flat_map-append}
use Rattle.std.specs.List.{enumerate_from}
use Rattle.edt_outside.specs.Sinks.{Appends}
use Rattle.edt_top.specs.declared.writing.WriteFault.{WriteFault}
use Rattle.edt_top.specs.declared.writing.WriteFault.TheVariants.{Failed, Memory}
use Rattle.run_input.specs.Told.{IsCutShort}
use Rattle.edt_top.specs.Inside.Writing.{WritingEnds}
use Rattle.edt_top.specs.Runs.{joined}
use Rattle.run_input.proofs.NumberedLaws.{numbered, numbered_at, numbered_upto}
use Rattle.run_input.proofs.SinkFronts.{appends_then, appends_none, front_of_whole}

pub joined_append : (xs ys : List (List ℕ)) → joined (xs ++ ys) ≡ joined xs ++ joined ys
joined_append xs ys = flat_map-append (λ (text : List ℕ). text) xs ys

-- the whole of one part
pub joined_one : (part : List ℕ) → joined (part ∷ []) ≡ part
joined_one part = append-nil part

-- nothing was written when out of memory
pub writes_none : (before after : Option (List ℕ)) (parts : List (List ℕ)) → 0 < length parts → after ≡ before → WritingEnds parts (Err Memory) (Appends before after)
writes_none before after parts some same = (0, some, appends_none before after same)

-- a front of a part that stands after others was written
pub cut_after : (before mid after : Option (List ℕ)) (first : List ℕ) (part rest whole : List ℕ) → Appends before mid first → whole ≡ (first ++ part) ++ rest
    → IsCutShort (Appends mid after) part → IsCutShort (Appends before after) whole
cut_after before mid after first part rest whole written is cut =
    let k : ℕ = cut.0 in
    let less : k < length part = cut.1 in
    let front : first ++ take k part ≡ take (length (first ++ take k part)) whole = front_of_whole first part rest whole k is in
    let size : length whole ≡ length first + length part + length rest = ap length is ∙ omega (arith, length-append (first ++ part) rest, length-append first part) in
    let short : length (first ++ take k part) ≡ length first + k = omega (arith, length-append first (take k part), length-take-le k part (omega (arith, less))) in
    (length (first ++ take k part), omega (arith, less, size, short), subst (Appends before after) front (appends_then before mid after first (take k part) written cut.2))

-- running out of memory after the first items of a numbered list
pub writes_stop : {X : Type 0} (f : ℕ × X → List ℕ) (xs : List X) (i : ℕ) (d : X) (before after : Option (List ℕ)) → i < length xs
    → Appends before after (joined (numbered f (take i xs))) → WritingEnds (numbered f xs) (Err Memory) (Appends before after)
writes_stop f xs i d before after within written =
    let parts : List (List ℕ) = numbered f xs in
    let first : List (List ℕ) = numbered f (take i xs) in
    let size : length first ≡ i = omega (arith, length-map (enumerate_from 1 (take i xs)) f, length-enumerate_from 1 (take i xs), length-take-le i xs (omega (arith, within))) in
    let all : length parts ≡ length xs = omega (arith, length-map (enumerate_from 1 xs) f, length-enumerate_from 1 xs) in
    let front : take i parts ≡ first =
    ap (take i) (numbered_at f xs i d within) ∙ (ap (λ k. take k (first ++ f (i + 1, get_or xs i d) ∷ map f (enumerate_from (i + 1 + 1) (drop (suc i) xs)))) (sym size)
    ∙ take-append_seam first (f (i + 1, get_or xs i d) ∷ map f (enumerate_from (i + 1 + 1) (drop (suc i) xs)))) in
    (i, omega (arith, within, all), subst (λ ps. Appends before after (joined ps)) (sym front) written)

-- a failed write after them
pub writes_short : {X : Type 0} (f : ℕ × X → List ℕ) (xs : List X) (i : ℕ) (d : X) (part : List ℕ) (before mid after : Option (List ℕ)) → i < length xs
    → part ≡ f (i + 1, get_or xs i d) → Appends before mid (joined (numbered f (take i xs))) → IsCutShort (Appends mid after) (joined (part ∷ []))
    → IsCutShort (Appends before after) (joined (numbered f xs))
writes_short f xs i d part before mid after within is written cut =
    let first : List (List ℕ) = numbered f (take i xs) in
    let rest : List (List ℕ) = map f (enumerate_from (i + 1 + 1) (drop (suc i) xs)) in
    let whole : joined (numbered f xs) ≡ (joined first ++ part) ++ joined rest =
    ap joined (numbered_at f xs i d within) ∙ (joined_append first (f (i + 1, get_or xs i d) ∷ rest)
    ∙ (ap (λ p. joined first ++ (p ++ joined rest)) (sym is) ∙ sym (append_assoc (joined first) part (joined rest)))) in
    cut_after before mid after (joined first) part (joined rest) (joined (numbered f xs)) written whole (subst (IsCutShort (Appends mid after)) (joined_one part) cut)

-- one more part was written
pub writes_next : {X : Type 0} (f : ℕ × X → List ℕ) (xs : List X) (i : ℕ) (d : X) (part : List ℕ) (before mid after : Option (List ℕ)) → i < length xs
    → part ≡ f (i + 1, get_or xs i d) → Appends before mid (joined (numbered f (take i xs))) → Appends mid after (joined (part ∷ []))
    → Appends before after (joined (numbered f (take (i + 1) xs)))
writes_next f xs i d part before mid after within is written next =
    let first : List (List ℕ) = numbered f (take i xs) in
    let step : suc i ≡ i + 1 = omega arith in
    let whole : joined first ++ joined (part ∷ []) ≡ joined (numbered f (take (i + 1) xs)) =
    ap (λ p. joined first ++ joined (p ∷ [])) is ∙ (sym (joined_append first (f (i + 1, get_or xs i d) ∷ []))
    ∙ (ap joined (sym (numbered_upto f xs i d within)) ∙ ap (λ k. joined (numbered f (take k xs))) step)) in
    subst (Appends before after) whole (appends_then before mid after (joined first) (joined (part ∷ [])) written next)

-- the first part was cut short, or there was no memory for it
pub writing_first : (before mid : Option (List ℕ)) (first : List ℕ) (parts : List (List ℕ)) (fault : WriteFault) → WritingEnds (first ∷ []) (Err fault) (Appends before mid)
    → WritingEnds (first ∷ parts) (Err fault) (Appends before mid)
writing_first before mid first parts Failed told =
    cut_after before before mid [] first (joined parts) (joined (first ∷ parts)) (appends_none before before refl) refl (subst (IsCutShort (Appends before mid)) (joined_one first) told)
writing_first before mid first parts Memory told =
    let none : told.0 ≡ 0 = let less = told.1 in omega arith in
    (0, omega arith, subst (λ n. Appends before mid (joined (take n (first ∷ [])))) none told.2)

-- what was written after the first part
pub writing_rest : (before mid after : Option (List ℕ)) (first : List ℕ) (parts : List (List ℕ)) (ended : Result (Unit {0}) WriteFault) → Appends before mid (joined (first ∷ []))
    → WritingEnds parts ended (Appends mid after) → WritingEnds (first ∷ parts) ended (Appends before after)
writing_rest before mid after first parts (Ok _) written told =
    appends_then before mid after first (joined parts) (subst (Appends before mid) (joined_one first) written) told
writing_rest before mid after first parts (Err Failed) written told =
    cut_after before mid after first (joined parts) [] (joined (first ∷ parts)) (subst (Appends before mid) (joined_one first) written)
    (sym (append-nil (first ++ joined parts))) told
writing_rest before mid after first parts (Err Memory) written told =
    let less = told.1 in
    (suc told.0, omega arith, appends_then before mid after first (joined (take told.0 parts)) (subst (Appends before mid) (joined_one first) written) told.2)
