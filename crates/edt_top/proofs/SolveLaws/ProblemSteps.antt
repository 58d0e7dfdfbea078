-- One step of the reading of a problem file.
use Rattle.std.proofs.Common.{◌≡◌, ℕ, ◌+◌, ◌-◌, ◌<◌, ◌≤◌, ◌∙◌, inl, inr, sym, ap, subst, arith, List, [], ◌∷◌, length, drop, get_or, suc, below_more, drop-cons, length-drop, add-one, Some, None, Option}
use Rattle.std.specs.List.{slice_get}
use Rattle.std.proofs.Math.ListN.{drop_of_length-le}
use Rattle.std.proofs.lemmas.Option.{slice_get-get_or, slice_get_cases, slice_get_past}
use Rattle.edt_top.specs.declared.solve.problem_word.ProblemCause.{ProblemCause}
use Rattle.edt_top.specs.declared.solve.problem_word.ProblemCause.TheVariants.{Form}
use Rattle.edt_top.specs.declared.solve.problem_cursor.ProblemFault.{ProblemFault}
use Rattle.edt_top.specs.Solve.ProblemFile.{Words, WordForm, Nothing, form_at, fault_in, fault_at, IsProblemFile, IsFirstFaultyWord}
use Rattle.edt_top.specs.Inside.ProblemCursor.{Reading, IsSound, Names}

-- the first of the items that are left is the item at the place
pub first_left : {X : Type 0} (xs : List X) (k : ℕ) (x : X) (rest : List X) → drop k xs ≡ x ∷ rest
    → (slice_get xs k ≡ Some x) × (drop (k + 1) xs ≡ rest)
first_left xs k x rest left =
    let there : k < length xs = omega (arith, ap length left, length-drop k xs) in
    let split : get_or xs k x ∷ drop (suc k) xs ≡ x ∷ rest = sym (drop-cons xs k x there) ∙ left in
    let same : get_or xs k x ≡ x = cc in
    let behind : drop (suc k) xs ≡ rest = cc in
    (slice_get-get_or xs k x there ∙ ap Some same, rw add-one behind)

-- where none is left, there is no item at the place
pub none_left : {X : Type 0} (xs : List X) (k : ℕ) → drop k xs ≡ [] → (slice_get xs k ≡ None) × (drop (k + 1) xs ≡ [])
none_left xs k left =
    let few : length xs ≤ k = omega (arith, ap length left, length-drop k xs) in
    let more : length xs ≤ k + 1 = omega arith in
    (slice_get_past xs k few, drop_of_length-le xs more)

-- a word that has its form is there
there : (words : Words) (k : ℕ) (form : WordForm) → fault_in form None ≡ Some Form → fault_in form (slice_get words k) ≡ None → k < length words
there words k form wants fine =
    elim (slice_get_cases words k).1 as (λ _. k < length words) [
      | inl found ↦ found.1
      | inr past ↦ let missing : Some Form ≡ None = sym wants ∙ (ap (fault_in form) (sym past.1) ∙ fine) in cc
    ]

-- the reading stays sound over a word that has its form
pub sound_step : (r next : Reading) (form : WordForm) (word : Option (List ℕ)) → fault_in form None ≡ Some Form → IsSound r
    → form_at r.words r.place ≡ form → word ≡ slice_get r.words r.place → next ≡ record r { place = r.place + 1 }
    → None ≡ fault_in form word → IsSound next
sound_step r next form word wants sound is at moved fine =
    let fine_here : fault_in form (slice_get r.words r.place) ≡ None = ap (fault_in form) (sym at) ∙ sym fine in
    let here : fault_at r.words r.place ≡ None = ap (λ f. fault_in f (slice_get r.words r.place)) is ∙ fine_here in
    let within : r.place < length r.words = there r.words r.place form wants fine_here in
    subst IsSound (sym moved) (record { within = omega arith; sound = below_more (λ j. fault_at r.words j ≡ None) r.place sound.sound here })

-- a word without its form is the first faulty one
pub named : (r next : Reading) (form : WordForm) (word : Option (List ℕ)) (cause : ProblemCause) (fault : ProblemFault) → IsSound r
    → form_at r.words r.place ≡ form → word ≡ slice_get r.words r.place → next ≡ record r { place = r.place + 1 }
    → fault ≡ record { word = next.place; cause = cause } → Some cause ≡ fault_in form word → Names r.words fault
named r next form word cause fault sound is at moved told faulty =
    let faulty_here : fault_in form (slice_get r.words r.place) ≡ Some cause = ap (fault_in form) (sym at) ∙ sym faulty in
    let here : fault_at r.words r.place ≡ Some cause = ap (λ f. fault_in f (slice_get r.words r.place)) is ∙ faulty_here in
    let first : IsFirstFaultyWord r.words r.place cause = record { within = sound.within; before = sound.sound; here = here } in
    let counted : fault.word ≡ r.place + 1 = ap (λ (f : ProblemFault). f.word) told ∙ ap (λ (x : Reading). x.place) moved in
    let back : r.place ≡ fault.word - 1 = omega (arith, counted) in
    let same : cause ≡ fault.cause = sym (ap (λ (f : ProblemFault). f.cause) told) in
    record { counted = omega (arith, counted); first = subst (λ k. IsFirstFaultyWord r.words k fault.cause) back (subst (IsFirstFaultyWord r.words r.place) same first) }

-- where no word stands at a place, there are no more words
behind_end : (words : Words) (k : ℕ) → slice_get words k ≡ None → length words ≤ k
behind_end words k none =
    elim (slice_get_cases words k).1 as (λ _. length words ≤ k) [
      | inl found ↦ let both : Some found.0 ≡ None = sym found.2 ∙ none in cc
      | inr past ↦ past.0
    ]

-- where nothing is wanted and nothing is left, no word is faulty
pub whole_file : (r : Reading) → IsSound r → form_at r.words r.place ≡ Nothing → slice_get r.words r.place ≡ None → IsProblemFile r.words
whole_file r sound is end =
    let here : fault_at r.words r.place ≡ None = ap (λ f. fault_in f (slice_get r.words r.place)) is ∙ ap (fault_in Nothing) end in
    let all : (j : ℕ) → j < r.place + 1 → fault_at r.words j ≡ None = below_more (λ j. fault_at r.words j ≡ None) r.place sound.sound here in
    let past : length r.words ≤ r.place = behind_end r.words r.place end in
    λ j within. all j (omega arith)

-- the reading after one word
pub moved_to : (r next : Reading) (words : Words) (k after : ℕ) → r ≡ record { words = words; place = k }
    → next ≡ record r { place = r.place + 1 } → k + 1 ≡ after → next ≡ record { words = words; place = after }
moved_to r next words k after at moved more =
    moved ∙ (ap (λ (x : Reading). record x { place = x.place + 1 }) at ∙ ap (λ n. record { words = words; place = n }) more)
