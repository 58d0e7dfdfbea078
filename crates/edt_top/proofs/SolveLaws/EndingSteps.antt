-- How a run that solves ends, by what stands under the name of its problem file.
use Rattle.std.proofs.Common.{◌≡◌, ℕ, ◌+◌, ◌-◌, ◌<◌, ◌≤◌, List, [], ◌∷◌, length, Option, Some, None, IfSome, IsSomeAnd, Ok, Err, true, false, if◌then◌else◌, refl, sym, ◌∙◌, ap, arith}
use Rattle.std.proofs.lemmas.Bool.Decides.{nat_tests}
use Rattle.std.specs.Prelude.{nat_lt}
use Rattle.text_terms.specs.Words.{file_words}
use Rattle.edt_outside.specs.Shelves.{Files}
use Rattle.run_input.proofs.FaultyLaws.{faultless, faulty}
use Rattle.run_input.specs.declared.refusals.Refusal.TheVariants.{Absent}
use Rattle.edt_top.specs.declared.refusals.RunRefusal.TheVariants.{Problem, ProblemTooLong, Input}
use Rattle.edt_top.specs.declared.solve.problem_cursor.ProblemFault.{ProblemFault}
use Rattle.edt_top.specs.declared.writing.WriteFault.TheVariants.{Failed}
use Rattle.edt_top.specs.RunEndings.{fault_or_text, words_ending, solve_ending}
use Rattle.edt_top.specs.Runs.{IsWritten, joined}
use Rattle.edt_top.specs.Solve.ProblemFile.{Words, IsProblemFile, fault_at}
use Rattle.edt_top.specs.Solve.Text.{solve_text}
use Rattle.edt_top.specs.Inside.ProblemCursor.{Names}
use Rattle.edt_top.specs.Inside.Writing.{WritingEnds}
use Rattle.edt_top.proofs.StatusLaws.{all_written, fault_written}

-- the file isn't there
pub absent_ending : (F : Option Files) (name file : List ℕ) → file ≡ name → IfSome F (λ files. files name ≡ None)
    → IfSome F (λ files. solve_ending name (files name) ≡ Err (Input (Absent file)))
unfolding solve_ending
absent_ending None name file same told = tt
absent_ending (Some files) name file same told = rw (told, same) refl

-- it passes its limit
long_here : (name : List ℕ) (file : Option (List ℕ)) → IsSomeAnd file (λ bytes. 16777216 < length bytes) → solve_ending name file ≡ Err ProblemTooLong
unfolding solve_ending
long_here name None long = absurd long
long_here name (Some bytes) long =
    let test : nat_lt 16777216 (length bytes) ≡ true = grind (arith, nat_tests) in
    ap (λ b. if b then Err ProblemTooLong else words_ending (file_words bytes)) test

pub long_ending : (F : Option Files) (name : List ℕ) → IfSome F (λ files. IsSomeAnd (files name) (λ bytes. 16777216 < length bytes))
    → IfSome F (λ files. solve_ending name (files name) ≡ Err ProblemTooLong)
long_ending None name told = tt
long_ending (Some files) name told = long_here name (files name) told

-- it is within its limit
within : (name bytes : List ℕ) (file : Option (List ℕ)) → file ≡ Some bytes → length bytes ≤ 16777216 → solve_ending name file ≡ words_ending (file_words bytes)
unfolding solve_ending
within name bytes file is short =
    let test : nat_lt 16777216 (length bytes) ≡ false = grind (arith, nat_tests) in
    ap (solve_ending name) is ∙ ap (λ b. if b then Err ProblemTooLong else words_ending (file_words bytes)) test

-- a word is faulty
faulty_words : (words : Words) (fault : ProblemFault) → Names words fault → words_ending words ≡ Err (Problem fault)
unfolding words_ending
faulty_words words fault names =
    let at : fault.word - 1 + 1 ≡ fault.word = omega (arith, names.counted) in
    ap (fault_or_text words) (faulty (fault_at words) (length words) (fault.word - 1) fault.cause names.first)
    ∙ ap (λ (n : ℕ). Err (Problem (record { word = n; cause = fault.cause }))) at

pub faulty_ending : (F : Option Files) (name bytes : List ℕ) (fault : ProblemFault) → IfSome F (λ files. (files name ≡ Some bytes) × (length bytes ≤ 16777216))
    → Names (file_words bytes) fault → IfSome F (λ files. solve_ending name (files name) ≡ Err (Problem fault))
faulty_ending None name bytes fault told names = tt
faulty_ending (Some files) name bytes fault told names =
    within name bytes (files name) told.0 told.1 ∙ faulty_words (file_words bytes) fault names

-- no word is
text_words : (words : Words) → IsProblemFile words → words_ending words ≡ Ok (solve_text words ∷ [])
unfolding words_ending
text_words words whole = ap (fault_or_text words) (faultless (fault_at words) (length words) whole)

-- the whole text was written
pub text_written : (F : Option Files) (name bytes text : List ℕ) (Has : List ℕ → Type 0) → IfSome F (λ files. (files name ≡ Some bytes) × (length bytes ≤ 16777216))
    → IsProblemFile (file_words bytes) → text ≡ solve_text (file_words bytes) → Has (joined (text ∷ []))
    → IfSome F (λ files. IsWritten (λ (parts : List (List ℕ)). solve_ending name (files name) ≡ Ok parts) 0 Has)
text_written None name bytes text Has told whole is all = tt
text_written (Some files) name bytes text Has told whole is all =
    all_written _ (text ∷ []) Has (within name bytes (files name) told.0 told.1 ∙ (text_words (file_words bytes) whole ∙ ap (λ t. Ok (t ∷ [])) (sym is))) all

-- a proper front of it was
pub text_cut : (F : Option Files) (name bytes text : List ℕ) (Has : List ℕ → Type 0) → IfSome F (λ files. (files name ≡ Some bytes) × (length bytes ≤ 16777216))
    → IsProblemFile (file_words bytes) → text ≡ solve_text (file_words bytes) → WritingEnds (text ∷ []) (Err Failed) Has
    → IfSome F (λ files. IsWritten (λ (parts : List (List ℕ)). solve_ending name (files name) ≡ Ok parts) 8 Has)
text_cut None name bytes text Has told whole is cut = tt
text_cut (Some files) name bytes text Has told whole is cut =
    fault_written _ (text ∷ []) Failed Has (within name bytes (files name) told.0 told.1 ∙ (text_words (file_words bytes) whole ∙ ap (λ t. Ok (t ∷ [])) (sym is))) cut
