-- What was made of the first keys of a list, where the first fault of a key decides.
use Rattle.std.proofs.Common.{◌≡◌, ℕ, ◌+◌, ◌≤◌, List, [], ◌∷◌, ◌++◌, map, take, length, Option, Some, None, IfSome, Result, Ok, Err, refl, add-one}
use Rattle.std.specs.Prelude.{IsErrAnd}
use Rattle.std.specs.List.{slice_get}
use Rattle.edt_outside.specs.Shelves.{Files}
use Rattle.event_assembly.specs.declared.faults.AssembleFault.{AssembleFault}
use Rattle.event_assembly.specs.declared.faults.AssembleFault.TheVariants.{Memory}
use Rattle.event_assembly.specs.Inside.Reads.{IsRefusal}
use Rattle.text_terms.specs.Faults.{first_cause}
use Rattle.event_assembly.proofs.FaultLaws.{none_more, refusal_here}
use Rattle.event_assembly.proofs.ListLaws.{map_more, take_whole}

-- none of the first keys has a fault, and these items were made of them
pub record AreMade {A B : Type 0} (fault : A → Option AssembleFault) (made : A → B) (i : ℕ) (keys : List A) (list : List B) : Type 0 where
  pub none : first_cause (map fault (take i keys)) ≡ None
  pub items : list ≡ map made (take i keys)

-- the answer for one key
abbrev pub MakesOne : {A B : Type 0} → (A → Option AssembleFault) → (A → B) → A → B → Type 0
MakesOne fault made key item = (fault key ≡ None) × (item ≡ made key)

-- at the start there is none
pub AreMade-none : {A B : Type 0} (told : Option Files) (fault : Files → A → Option AssembleFault) (made : Files → A → B) (keys : List A) (items : List B)
    → items ≡ [] → IfSome told (λ files. AreMade (fault files) (made files) 0 keys items)
AreMade-none None fault made keys items start = tt
AreMade-none (Some files) fault made keys items start = record { none = refl; items = start }

-- one more item
pub AreMade-more : {A B : Type 0} (told now : Option Files) (fault : Files → A → Option AssembleFault) (made : Files → A → B) (i : ℕ) (keys : List A) (key : A)
    (items : List B) (item : B) → now ≡ told → slice_get keys i ≡ Some key → IfSome told (λ files. AreMade (fault files) (made files) i keys items)
    → IfSome now (λ files. MakesOne (fault files) (made files) key item)
    → IfSome told (λ files. AreMade (fault files) (made files) (i + 1) keys (items ++ item ∷ []))
AreMade-more None now fault made i keys key items item same here before one = tt
AreMade-more (Some files) now fault made i keys key items item same here before one =
    let more : (fault files key ≡ None) × (item ≡ made files key) = rw same at one in
    rw add-one (record {
      none = none_more (fault files) i keys key here before.none more.0;
      items = map_more (made files) i keys key items item here before.items more.1;
    })

-- a key has a fault, and none before it
pub AreMade-refused : {A B : Type 0} (told now : Option Files) (fault : Files → A → Option AssembleFault) (made : Files → A → B) (i : ℕ) (keys : List A) (key : A)
    (items : List B) (refusal : AssembleFault) → now ≡ told → slice_get keys i ≡ Some key
    → IfSome told (λ files. AreMade (fault files) (made files) i keys items)
    → IfSome now (λ files. IsRefusal (fault files key) refusal) → IfSome told (λ files. IsRefusal (first_cause (map (fault files) keys)) refusal)
AreMade-refused None now fault made i keys key items refusal same here before one = tt
AreMade-refused (Some files) now fault made i keys key items refusal same here before one =
    let more : IsRefusal (fault files key) refusal = rw same at one in
    refusal_here (fault files) i keys key refusal here before.none more

-- all items were made
pub AreMade-all : {A B : Type 0} (told : Option Files) (fault : Files → A → Option AssembleFault) (made : Files → A → B) (i : ℕ) (keys : List A) (items : List B)
    → length keys ≤ i → IfSome told (λ files. AreMade (fault files) (made files) i keys items)
    → IfSome told (λ files. (first_cause (map (fault files) keys) ≡ None) × (items ≡ map (made files) keys))
AreMade-all None fault made i keys items all before = tt
AreMade-all (Some files) fault made i keys items all before =
    let whole : take i keys ≡ keys = take_whole i keys all in
    (rw whole at before.none, rw whole at before.items)

-- an answer that passes a refusal on
pub passed_on : {T : Type 0} (told : Option Files) (first : Files → Option AssembleFault) (answer : Result T AssembleFault)
    (refusal : AssembleFault) (Answers : Files → Result T AssembleFault → Type 0)
    → ((files : Files) (fault : AssembleFault) → IsRefusal (first files) fault → Answers files (Err fault))
    → IsErrAnd answer (λ other. other ≡ refusal) → IfSome told (λ files. IsRefusal (first files) refusal) → IfSome told (λ files. Answers files answer)
passed_on None first answer refusal Answers says gives refused = tt
passed_on (Some files) first (Ok made) refusal Answers says gives refused = absurd gives
passed_on (Some files) first (Err other) refusal Answers says gives refused = says files other (rw gives refused)

-- running out of memory is a refusal by any files
pub memory_refuses : (told : Option Files) (first : Files → Option AssembleFault) → IfSome told (λ files. IsRefusal (first files) Memory)
memory_refuses None first = tt
memory_refuses (Some files) first = tt
