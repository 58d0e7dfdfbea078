-- What is left of files, and the counts of a shelf, from step to step.
use Rattle.std.proofs.Common.{◌≡◌, ℕ, Bool, true, false, List, [], ◌∷◌, ◌++◌, Option, Some, None, IfSome, OnSome, refl, arith}
use Rattle.std.specs.Prelude.{◌||◌, is_none}
use Rattle.std.specs.List.{list_any}
use Rattle.std.proofs.lemmas.List.Folds.{list_any-append}
use Rattle.edt_outside.specs.Counts.{RisesExactly}
use Rattle.edt_outside.specs.Shelves.{Files}

-- nothing is left after a step, where nothing was left before it
pub ended_more : (told now : Option Files) (first mid last : Option (List ℕ)) → now ≡ told → OnSome told (first ≡ Some [] → mid ≡ Some [])
    → OnSome now (mid ≡ Some [] → last ≡ Some []) → OnSome told (first ≡ Some [] → last ≡ Some [])
ended_more None now first mid last same before step = tt
ended_more (Some files) now first mid last same before step = let next : mid ≡ Some [] → last ≡ Some [] = rw same at step in λ start. next (before start)

-- a count that rises exactly in one step or in the next
rises_more : (a b : Bool) (first mid last : ℕ) → RisesExactly a first mid → RisesExactly b mid last → RisesExactly (a || b) first last
rises_more true true first mid last before step =
    let less = before.0 in let rose = before.1 in let more = step.0 in (omega arith, omega arith)
rises_more true false first mid last before step = rw step before
rises_more false b first mid last before step = rw before at step

-- one item is none
one_none : {A : Type 0} (o : Option A) → list_any is_none (o ∷ []) ≡ is_none o
one_none None = refl
one_none (Some x) = refl

-- the count rose exactly where one of more items is none
pub lacks_more : {A : Type 0} (items : List (Option A)) (item : Option A) (first mid last : ℕ) → RisesExactly (list_any is_none items) first mid
    → RisesExactly (is_none item) mid last → RisesExactly (list_any is_none (items ++ item ∷ [])) first last
lacks_more items item first mid last before step =
    rw (list_any-append is_none items (item ∷ []), one_none item)
    (rises_more (list_any is_none items) (is_none item) first mid last before step)

-- a count that stays, whatever the files are
pub stays : (told : Option Files) (P : Files → Type 0) (before after : ℕ) → after ≡ before → IfSome told (λ files. P files → after ≡ before)
stays None P before after same = tt
stays (Some files) P before after same = λ _. same

-- nothing is left where nothing was left
pub ended_now : (told : Option Files) (left : Option (List ℕ)) → OnSome told (left ≡ Some [] → left ≡ Some [])
ended_now None left = tt
ended_now (Some files) left = λ start. start

-- and after a step that leaves nothing
pub ended_any : (told : Option Files) (before after : Option (List ℕ)) → OnSome told (after ≡ Some []) → OnSome told (before ≡ Some [] → after ≡ Some [])
ended_any None before after ended = tt
ended_any (Some files) before after ended = λ start. ended
