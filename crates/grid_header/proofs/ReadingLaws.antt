-- Numbers, three by three, as the fields of a header.
use Rattle.std.proofs.Common.{◌≡◌, ℕ, List, [], ◌∷◌, Option, Some, None, Ok, IfSome, IfOk, ℤ, refl}
use Rattle.std.specs.Option.{ok_or}
use Rattle.grid_header.specs.declared.numbers.Numbers.{Numbers}
use Rattle.grid_header.specs.Layout.{grid_words, source_words}
use Rattle.grid_header.specs.Inside.Fields.{AreNumbersOf, header_with}
use Rattle.grid_header.specs.Reading.{header_of}

-- what holds of a value holds of it as a success
pub ok_or-then : {T E : Type 0} (o : Option T) (e : E) (P : T → Type 0) → IfSome o P → IfOk (ok_or o e) P
ok_or-then None e P h = tt
ok_or-then (Some x) e P h = h

-- a success is the value that was there
pub ok_or-value : {T E : Type 0} (o : Option T) (e : E) (x : T) (P : T → Type 0) → Ok x ≡ ok_or o e → IfSome o P → P x
ok_or-value None e x P same h = absurd cc
ok_or-value (Some y) e x P same h = let here : y ≡ x = cc in rw here at h

-- what follows from a fact of a value holds of it
pub if_some-then : {T : Type 0} (o : Option T) (P Q : T → Type 0) → ((x : T) → P x → Q x) → IfSome o P → IfSome o Q
if_some-then None P Q step h = tt
if_some-then (Some x) P Q step h = step x h

-- three numbers that were read
three_read : (a b c : Option ℤ) (x y z : ℤ) → a ∷ b ∷ c ∷ [] ≡ Some x ∷ Some y ∷ Some z ∷ [] → (a ≡ Some x) × (b ≡ Some y) × (c ≡ Some z)
three_read a b c x y z e = (cc, cc, cc)

-- the numbers of the words are the fields of what the bytes say
pub fields_are : (bytes : List ℕ) (n : Numbers) → AreNumbersOf (grid_words bytes) (source_words bytes) n → header_with n ≡ header_of bytes
unfolding header_of
fields_are bytes n numbers =
    let c = three_read _ _ _ n.counts.x n.counts.y n.counts.z numbers.counts in
    let o = three_read _ _ _ n.origin.x n.origin.y n.origin.z numbers.origin in
    let d = three_read _ _ _ n.spacing.x n.spacing.y n.spacing.z numbers.spacing in
    let s = three_read _ _ _ n.source.x n.source.y n.source.z numbers.source in
    rw (c.0, c.1, c.2, o.0, o.1, o.2, d.0, d.1, d.2, s.0, s.1, s.2) refl
