-- The phase words after a standard phase, one after another.
use Rattle.std.proofs.Common.{◌≡◌, ℕ, ◌≤◌, Bool, true, false, List, [], ◌∷◌, ◌++◌, length, map, drop, All, Some, None, inl, inr, refl, sym, ◌∙◌, ap, arith}
use Rattle.std.specs.Prelude.{◌&&◌}
use Rattle.std.specs.List.{list_all}
use Rattle.std.proofs.lemmas.List.{append_assoc, append-nil}
use Rattle.std.proofs.lemmas.List.Elements.{All-push}
use Rattle.text_terms.specs.Names.{is_name}
use Rattle.text_terms.proofs.Cases.{by_bool}
use Rattle.control_reader.specs.declared.control.PhaseId.{PhaseId}
use Rattle.control_reader.specs.declared.fault.ControlCause.{ControlCause}
use Rattle.control_reader.specs.declared.fault.ControlCause.TheVariants.{Name}
use Rattle.control_reader.specs.Limits.{IsPhaseId}
use Rattle.text_terms.specs.Words.{word_at}
use Rattle.control_reader.specs.Values.{phase_ids_of}
use Rattle.control_reader.specs.WordFaults.{name_fault, phase_ids_fault}

-- the entry of a phase word
abbrev pub id_of : List ℕ → List ℕ → PhaseId
id_of standard code = record { standard = standard; code = code }

-- each word is a phase
abbrev pub are_names : List (List ℕ) → Bool
are_names words = list_all (is_name 64) words

-- one more entry after those before
pub one_more : (standard code : List ℕ) (left rest : List (List ℕ)) (ids now all : List PhaseId) → left ≡ code ∷ rest
    → now ≡ ids ++ id_of standard code ∷ [] → ids ++ map (id_of standard) left ≡ all → now ++ map (id_of standard) rest ≡ all
one_more standard code left rest ids now all e pushed value =
    ap (λ is. is ++ map (id_of standard) rest) pushed
    ∙ append_assoc ids (id_of standard code ∷ []) (map (id_of standard) rest)
    ∙ ap (λ ws. ids ++ map (id_of standard) ws) (sym e)
    ∙ value

pub one_more_good : (ids now : List PhaseId) (id : PhaseId) → now ≡ ids ++ id ∷ [] → All IsPhaseId ids → IsPhaseId id → All IsPhaseId now
one_more_good ids now id pushed all good = rw pushed (All-push IsPhaseId ids id all good)

-- no entry is left after the last word
pub no_more : (words left : List (List ℕ)) (ids before : List PhaseId) → left ≡ []
    → ids ++ map (id_of (word_at 0 words)) left ≡ before ++ map (id_of (word_at 0 words)) (drop 1 words) → ids ≡ before ++ phase_ids_of words
unfolding phase_ids_of
no_more words left ids before e value =
    sym (append-nil ids) ∙ ap (λ ws. ids ++ map (id_of (word_at 0 words)) ws) (sym e) ∙ value

-- a name in front leaves the others to decide
pub name_passes : (code : List ℕ) (left rest : List (List ℕ)) → left ≡ code ∷ rest → is_name 64 code ≡ true → are_names rest ≡ are_names left
name_passes code left rest e good = rw (e, good) refl

-- another word decides
pub name_fails : (code : List ℕ) (left rest : List (List ℕ)) → left ≡ code ∷ rest → is_name 64 code ≡ false → are_names left ≡ false
name_fails code left rest e bad = rw (e, bad) refl

-- the first word and those after it
first_and_rest : (words : List (List ℕ)) → 2 ≤ length words → are_names words ≡ (is_name 64 (word_at 0 words) && are_names (drop 1 words))
first_and_rest [] many = absurd (omega arith)
first_and_rest (w ∷ ws) many = refl

-- a fault of the first word is that of the statement
pub first_fault : (words : List (List ℕ)) (cause : ControlCause) → 2 ≤ length words → name_fault 64 (word_at 0 words) ≡ Some cause
    → phase_ids_fault words ≡ Some cause
unfolding phase_ids_fault
first_fault words cause many fault = elim (by_bool (is_name 64 (word_at 0 words))) [
  | inl good ↦ let none : name_fault 64 (word_at 0 words) ≡ None = rw good refl in absurd cc
  | inr bad ↦
      let here : name_fault 64 (word_at 0 words) ≡ Some Name = rw bad refl in
      let none : are_names words ≡ false = first_and_rest words many ∙ rw bad refl in
      rw none (sym here ∙ fault)
]

-- so is that of a word after it

pub code_fault : (words : List (List ℕ)) → 2 ≤ length words → is_name 64 (word_at 0 words) ≡ true → are_names (drop 1 words) ≡ false
    → phase_ids_fault words ≡ Some Name
unfolding phase_ids_fault
code_fault words many good bad =
    let none : are_names words ≡ false = first_and_rest words many ∙ rw (good, bad) refl in
    rw none refl

-- names alone have no fault
pub no_fault : (words : List (List ℕ)) → 2 ≤ length words → is_name 64 (word_at 0 words) ≡ true → are_names (drop 1 words) ≡ true
    → phase_ids_fault words ≡ None
unfolding phase_ids_fault
no_fault words many good all =
    let names : are_names words ≡ true = first_and_rest words many ∙ rw (good, all) refl in
    rw names refl
