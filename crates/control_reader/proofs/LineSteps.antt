-- A draft that takes one more line.
use Rattle.std.proofs.Common.{◌≡◌, ℕ, ◌+◌, ◌<◌, ◌≤◌, true, false, List, [], ◌∷◌, ◌++◌, length, Some, None, inl, inr, refl, sym, ◌∙◌, ap, arith}
use Rattle.std.specs.Prelude.{nat_lt, ◌&&◌, if◌then◌else◌}
use Rattle.std.proofs.lemmas.Grind.{common_steps}
use Rattle.text_terms.proofs.Cases.{by_bool}
use Rattle.edt_text.specs.declared.limits.TheConstants.{LONGEST_LINE}
use Rattle.control_reader.specs.declared.draft.ControlDraft.{ControlDraft}
use Rattle.control_reader.specs.declared.fault.ControlCause.{ControlCause}
use Rattle.control_reader.specs.declared.fault.ControlCause.TheVariants.{LongLine}
use Rattle.control_reader.specs.declared.statement.Statement.{Statement}
use Rattle.control_reader.specs.declared.statement.Statement.TheVariants.{Locfiles, Locgrid, Locmeth, Locgau, Locsearch, Locphaseid, Locexclude, Locdelay, Localias, Control, Include, Edtnear, Edtbudget, Edtkernel, Edtlanes, Locgau2}
use Rattle.control_reader.specs.declared.statement.LineKind.{LineKind}
use Rattle.control_reader.specs.declared.statement.LineKind.TheVariants.{Blank, Comment, Passed, Of}
use Rattle.control_reader.specs.ControlLines.{ControlLine, kind_of, is_include, arguments_of}
use Rattle.control_reader.specs.ControlFile.{fault_after}
use Rattle.control_reader.specs.Inside.Said.{Said, said_of, said_in}
use Rattle.control_reader.specs.Inside.NextStatement.{with_kind, with_line, with_statement}
use Rattle.control_reader.specs.Inside.NextFault.{includes_file, kind_fault_by, fault_by}
use Rattle.control_reader.specs.Inside.Follows.{Follows}
use Rattle.control_reader.proofs.LineKinds.{kind_has, has_kind}
use Rattle.control_reader.proofs.StatementFaults.{fault_nested, includes_after}
use Rattle.control_reader.proofs.DraftSteps.{said_line, same_fault}
use Rattle.control_reader.proofs.FaultSteps.{clean_more}

pub follows_line : (before : List ControlLine) (line : ControlLine) (old new : ControlDraft) → Follows before old
    → said_of new ≡ with_line line (said_of old) → fault_by (said_of old) line ≡ None → Follows (before ++ line ∷ []) new
follows_line before line old new follows value good =
    let none : fault_by (said_in before) line ≡ None = ap (λ said. fault_by said line) (sym follows.said) ∙ good in
    record {
      said = value ∙ ap (with_line line) follows.said ∙ sym (said_line before line none);
      clean = clean_more before line follows.clean (sym (same_fault before line) ∙ none);
    }

pub fault_follows : (before : List ControlLine) (line : ControlLine) (draft : ControlDraft) (cause : ControlCause) → Follows before draft
    → fault_by (said_of draft) line ≡ Some cause → fault_after before line ≡ Some cause
fault_follows before line draft cause follows is =
    sym (same_fault before line) ∙ ap (λ said. fault_by said line) (sym follows.said) ∙ is

-- how many files are included with one more line
includes_kind : (kind : LineKind) (words : List (List ℕ)) (said : Said)
    → (with_kind kind words said).includes ≡ (if kind_has Include kind then said.includes + 1 else said.includes)
includes_kind Blank words said = refl
includes_kind Comment words said = refl
includes_kind Passed words said = refl
includes_kind (Of statement) words said = includes_after said statement words

pub includes_line : (line : ControlLine) (said : Said) → (with_line line said).includes ≡ (if is_include line then said.includes + 1 else said.includes)
includes_line line said =
    includes_kind (kind_of line) (arguments_of line) said
    ∙ ap (λ b. if b then said.includes + 1 else said.includes) (sym (has_kind line Include))

-- a statement counts no line
passed_statement : (statement : Statement) (words : List (List ℕ)) (said : Said) → (with_statement statement words said).passed ≡ said.passed
passed_statement Locfiles words said = refl
passed_statement Locgrid words said = refl
passed_statement Locmeth words said = refl
passed_statement Locgau words said = refl
passed_statement Locsearch words said = refl
passed_statement Locphaseid words said = refl
passed_statement Locexclude words said = refl
passed_statement Locdelay words said = refl
passed_statement Localias words said = refl
passed_statement Control words said = refl
passed_statement Include words said = refl
passed_statement Edtnear words said = refl
passed_statement Edtbudget words said = refl
passed_statement Edtkernel words said = refl
passed_statement Edtlanes words said = refl
passed_statement Locgau2 words said = refl

-- at most one more line is counted
passed_kind : (kind : LineKind) (words : List (List ℕ)) (said : Said) → (with_kind kind words said).passed ≤ said.passed + 1
passed_kind Blank words said = omega arith
passed_kind Comment words said = omega arith
passed_kind Passed words said = omega arith
passed_kind (Of statement) words said = omega (arith, passed_statement statement words said)

pub passed_line : (line : ControlLine) (said : Said) (new : ℕ) → new ≡ (with_line line said).passed → new ≤ said.passed + 1
passed_line line said new is = omega (arith, is, passed_kind (kind_of line) (arguments_of line) said)

-- a line of an included file that has no fault includes no file
outer_kind : (kind : LineKind) (said : Said) (file : ℕ) (words : List (List ℕ)) → kind_fault_by kind said file words ≡ None → nat_lt 0 file ≡ true
    → kind_has Include kind ≡ false
outer_kind Blank said file words good inside = refl
outer_kind Comment said file words good inside = refl
outer_kind Passed said file words good inside = refl
outer_kind (Of statement) said file words good inside = elim (by_bool (includes_file statement)) [
  | inl nested ↦
      let both : (includes_file statement && nat_lt 0 file) ≡ true = rw (nested, inside) refl in
      let fault = fault_nested said file statement words both in
      absurd cc
  | inr other ↦ other
]

pub outer_line : (line : ControlLine) (said : Said) → fault_by said line ≡ None → 0 < line.file → is_include line ≡ false
outer_line line said good inside = elim (by_bool (nat_lt LONGEST_LINE (length line.bytes))) [
  | inl long ↦ let fault : fault_by said line ≡ Some LongLine = rw long refl in absurd cc
  | inr short ↦
      let within : kind_fault_by (kind_of line) said line.file (arguments_of line) ≡ None = rw short at good in
      let behind : nat_lt 0 line.file ≡ true = grind (arith, common_steps) in
      has_kind line Include ∙ outer_kind (kind_of line) said line.file (arguments_of line) within behind
]
