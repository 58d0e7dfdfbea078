-- Included files, read one after another.
use Rattle.std.proofs.Common.{◌≡◌, ℕ, suc, ◌+◌, ◌<◌, ◌≤◌, List, [], ◌∷◌, ◌++◌, length, take, drop, get_or, Option, Some, None, IfSome, unwrap_or, true, false, map, sym, ◌∙◌, ap, subst, arith}
use Rattle.std.proofs.Math.Seq.{take-suc}
use Rattle.std.proofs.lemmas.List.{take_all, map-append}
use Rattle.std.specs.Global.{Vec}
use Rattle.std.specs.List.{enumerate_from}
use Rattle.edt_outside.specs.Shelves.{Files}
use Rattle.run_input.specs.declared.refusals.Refusal.{Refusal}
use Rattle.run_input.specs.declared.refusals.Refusal.TheVariants.{ControlTooLong}
use Rattle.run_input.specs.FilesUnder.{bytes_under}
use Rattle.text_terms.specs.Faults.{first_cause}
use Rattle.run_input.specs.FirstRefusals.{file_refusal, included_refusal, included_refusals}
use Rattle.run_input.specs.Refusals.{is_untold}
use Rattle.run_input.specs.Inside.Stages.{IsFile}
use Rattle.run_input.proofs.NumberedLaws.{numbered_at, numbered_upto}
use Rattle.text_terms.proofs.CauseLaws.{first_of_second, first_here, first_after}

-- what has been read of the files so far
abbrev pub AreRead : Files → List (List ℕ) → List (List ℕ) → Type 0
AreRead files names contents = (first_cause (included_refusals files names) ≡ None) × (contents ≡ map (bytes_under files) names)

-- one more file was read
reads_here : (files : Files) (names contents : List (List ℕ)) (i : ℕ) (bytes : Vec ℕ) (d : List ℕ) → i < length names
    → AreRead files (take i names) contents
    → file_refusal (get_or names i d) 1048576 (ControlTooLong (i + 1)) (files (get_or names i d)) ≡ None
    → files (get_or names i d) ≡ Some bytes.items
    → AreRead files (take (suc i) names) (contents ++ bytes.items ∷ [])
reads_here files names contents i bytes d within before passed told =
    let name : List ℕ = get_or names i d in
    let content : bytes.items ≡ bytes_under files name = sym (ap (λ o. unwrap_or o []) told) in (
      ap first_cause (numbered_upto (included_refusal files) names i d within)
          ∙ (first_of_second (included_refusals files (take i names)) (included_refusal files (i + 1, name) ∷ []) before.0
          ∙ first_after (included_refusal files (i + 1, name)) [] passed),
      ap (λ cs. cs ++ bytes.items ∷ []) before.1
          ∙ (ap (λ b. map (bytes_under files) (take i names) ++ b ∷ []) content
          ∙ (sym (map-append (bytes_under files) (take i names) (name ∷ [])) ∙ ap (map (bytes_under files)) (sym (take-suc names i d within)))),
    )

pub reads_one : (F G : Option Files) (names contents : List (List ℕ)) (i number : ℕ) (name : List ℕ) (bytes : Vec ℕ) (d : List ℕ) → G ≡ F → i < length names
    → name ≡ get_or names i d → number ≡ i + 1
    → IfSome F (λ files. AreRead files (take i names) contents)
    → IfSome G (λ files. (file_refusal name 1048576 (ControlTooLong number) (files name) ≡ None) × IsFile (files name) 1048576 bytes)
    → IfSome F (λ files. AreRead files (take (i + 1) names) (contents ++ bytes.items ∷ []))
reads_one F G names contents i number name bytes d same within is at before told =
    read F before (rw (same, is, at) at told)
  where
    read : (F : Option Files) → IfSome F (λ files. AreRead files (take i names) contents)
        → IfSome F (λ files. (file_refusal (get_or names i d) 1048576 (ControlTooLong (i + 1)) (files (get_or names i d)) ≡ None) × IsFile (files (get_or names i d)) 1048576 bytes)
        → IfSome F (λ files. AreRead files (take (i + 1) names) (contents ++ bytes.items ∷ []))
    read None before told = tt
    read (Some files) before told =
        let next : suc i ≡ i + 1 = omega arith in
        subst (λ k. AreRead files (take k names) (contents ++ bytes.items ∷ [])) next
        (reads_here files names contents i bytes d within before told.0 told.1.0)

-- one file stops the run
stops_here : (files : Files) (names contents : List (List ℕ)) (i : ℕ) (d : List ℕ) (refusal : Refusal) → i < length names
    → AreRead files (take i names) contents
    → file_refusal (get_or names i d) 1048576 (ControlTooLong (i + 1)) (files (get_or names i d)) ≡ Some refusal
    → first_cause (included_refusals files names) ≡ Some refusal
stops_here files names contents i d refusal within before told =
    ap first_cause (numbered_at (included_refusal files) names i d within)
    ∙ (first_of_second (included_refusals files (take i names)) (here ∷ rest) before.0 ∙ first_here here rest refusal told)
  where
    here : Option Refusal
    here = included_refusal files (i + 1, get_or names i d)

    rest : List (Option Refusal)
    rest = map (included_refusal files) (enumerate_from (i + 1 + 1) (drop (suc i) names))

pub reads_stop : (F G : Option Files) (names contents : List (List ℕ)) (i number : ℕ) (name d : List ℕ) (refusal : Refusal) → G ≡ F → i < length names
    → name ≡ get_or names i d → number ≡ i + 1
    → IfSome F (λ files. AreRead files (take i names) contents)
    → IfSome G (λ files. is_untold refusal ≡ false → file_refusal name 1048576 (ControlTooLong number) (files name) ≡ Some refusal)
    → IfSome F (λ files. is_untold refusal ≡ false → first_cause (included_refusals files names) ≡ Some refusal)
reads_stop F G names contents i number name d refusal same within is at before told =
    stop F before (rw (same, is, at) at told)
  where
    stop : (F : Option Files) → IfSome F (λ files. AreRead files (take i names) contents)
        → IfSome F (λ files. is_untold refusal ≡ false → file_refusal (get_or names i d) 1048576 (ControlTooLong (i + 1)) (files (get_or names i d)) ≡ Some refusal)
        → IfSome F (λ files. is_untold refusal ≡ false → first_cause (included_refusals files names) ≡ Some refusal)
    stop None before told = tt
    stop (Some files) before told = λ free. stops_here files names contents i d refusal within before (told free)

-- all files were read
pub reads_all : (F : Option Files) (names contents : List (List ℕ)) (i : ℕ) → length names ≤ i → IfSome F (λ files. AreRead files (take i names) contents)
    → IfSome F (λ files. AreRead files names contents)
reads_all F names contents i past read = subst (λ ns. IfSome F (λ files. AreRead files ns contents)) (take_all i names past) read

-- running out of memory tells nothing
pub untold : (F : Option Files) (found : Files → Option Refusal) (refusal : Refusal) → is_untold refusal ≡ true
    → IfSome F (λ files. is_untold refusal ≡ false → found files ≡ Some refusal)
untold None found refusal is = tt
untold (Some files) found refusal is = λ told. let no : true ≡ false = sym is ∙ told in absurd (cc no)
