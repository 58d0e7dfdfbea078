-- What lines say with one more line, and its fault.
use Rattle.std.proofs.Common.{◌≡◌, ℕ, ◌+◌, Bool, true, false, List, [], ◌∷◌, ◌++◌, length, Option, Some, None, inl, inr, refl, ◌∙◌, ap, arith}
use Rattle.std.specs.Prelude.{map, filter, count_by, nat_lt, nat_le, not, ◌&&◌, if◌then◌else◌, is_some}
use Rattle.std.specs.List.{find, flat_map, list_any}
use Rattle.std.specs.Option.{option_map, option_or}
use Rattle.std.proofs.lemmas.List.{map-append, append-nil}
use Rattle.std.proofs.lemmas.Grind.{common_steps, flat_map-append}
use Rattle.text_terms.proofs.Cases.{by_bool}
use Rattle.control_reader.specs.declared.fault.ControlCause.{ControlCause}
use Rattle.control_reader.specs.declared.fault.ControlCause.TheVariants.{LongLine, NestedInclude, NotYet, Repeated, Limit}
use Rattle.control_reader.specs.declared.statement.Statement.{Statement}
use Rattle.control_reader.specs.declared.statement.Statement.TheVariants.{Locfiles, Locgrid, Locmeth, Locgau, Locsearch, Locphaseid, Locexclude, Locdelay, Localias, Control, Include, Edtnear, Edtbudget, Edtkernel, Edtlanes, Locgau2}
use Rattle.control_reader.specs.declared.statement.LineKind.{LineKind}
use Rattle.control_reader.specs.declared.statement.LineKind.TheVariants.{Blank, Comment, Passed, Of}
use Rattle.control_reader.specs.Keywords.{keyword_of, is_not_yet}
use Rattle.control_reader.specs.ControlLines.{ControlLine, kind_of, has_keyword, is_include, arguments_of, statement_with, statements_with}
use Rattle.control_reader.specs.Values.{files_of, frame_of, method_of, sigma_of, cells_of, phase_ids_of, exclude_of, delay_of, alias_of, seed_of, count_of, shape_of}
use Rattle.text_terms.specs.Faults.{first_cause, unless}
use Rattle.edt_text.specs.declared.limits.TheConstants.{LONGEST_LINE}
use Rattle.control_reader.specs.WordFaults.{words_fault}
use Rattle.control_reader.specs.ControlFile.{is_repeated, is_passed, is_passed_kind, statement_fault, kind_fault, fault_after}
use Rattle.control_reader.specs.Inside.Said.{Said, said_in}
use Rattle.control_reader.specs.Inside.NextStatement.{with_statement, with_kind, with_line}
use Rattle.control_reader.specs.Inside.NextFault.{was_said, includes_file, statement_fault_by, kind_fault_by, fault_by}
use Rattle.control_reader.proofs.LineKinds.{kind_has, has_kind}
use Rattle.control_reader.proofs.StatementFaults.{fault_nested, fault_not_yet, fault_repeated}

-- the first line with a keyword, the lines with it, and their number, where one more line has it or hasn't
first_more : (p : ControlLine → Bool) (lines : List ControlLine) (line : ControlLine)
    → option_map arguments_of (find p (lines ++ line ∷ []))
    ≡ (if p line then option_or (option_map arguments_of (find p lines)) (Some (arguments_of line)) else option_map arguments_of (find p lines))
first_more p [] line = elim (by_bool (p line)) [ inl has ↦ rw has refl | inr lacks ↦ rw lacks refl ]
first_more p (x ∷ lines) line = elim (by_bool (p x)) [
  | inl here ↦ elim (by_bool (p line)) [ inl has ↦ rw (here, has) refl | inr lacks ↦ rw (here, lacks) refl ]
  | inr later ↦ rw later (first_more p lines line)
]

list_more : (p : ControlLine → Bool) (lines : List ControlLine) (line : ControlLine)
    → map arguments_of (filter p (lines ++ line ∷ []))
    ≡ (if p line then map arguments_of (filter p lines) ++ arguments_of line ∷ [] else map arguments_of (filter p lines))
list_more p [] line = elim (by_bool (p line)) [ inl has ↦ rw has refl | inr lacks ↦ rw lacks refl ]
list_more p (x ∷ lines) line =
    let rest = list_more p lines line in
    elim (by_bool (p x)) [
      | inl here ↦ elim (by_bool (p line)) [
        | inl has ↦ let more = rw has at rest in rw (here, has) (ap (λ xs. arguments_of x ∷ xs) more)
        | inr lacks ↦ let same = rw lacks at rest in rw (here, lacks) (ap (λ xs. arguments_of x ∷ xs) same)
      ]
      | inr later ↦ rw later rest
    ]

pub count_more : (p : ControlLine → Bool) (lines : List ControlLine) (line : ControlLine)
    → count_by p (lines ++ line ∷ []) ≡ (if p line then count_by p lines + 1 else count_by p lines)
count_more p lines line = elim (by_bool (p line)) [
  | inl has ↦ rw has (grind (arith, common_steps))
  | inr lacks ↦ rw lacks (grind (arith, common_steps))
]

first_step : (statement : Statement) (lines : List ControlLine) (line : ControlLine)
    → statement_with (keyword_of statement) (lines ++ line ∷ [])
    ≡ (if kind_has statement (kind_of line) then option_or (statement_with (keyword_of statement) lines) (Some (arguments_of line))
    else statement_with (keyword_of statement) lines)
unfolding statement_with
first_step statement lines line = rw (← has_kind line statement) (first_more (has_keyword (keyword_of statement)) lines line)

list_step : (statement : Statement) (lines : List ControlLine) (line : ControlLine)
    → statements_with (keyword_of statement) (lines ++ line ∷ [])
    ≡ (if kind_has statement (kind_of line) then statements_with (keyword_of statement) lines ++ arguments_of line ∷ []
    else statements_with (keyword_of statement) lines)
unfolding statements_with
list_step statement lines line = rw (← has_kind line statement) (list_more (has_keyword (keyword_of statement)) lines line)

-- what lines say with one more line of this kind, field by field
abbrev first_with : Statement → LineKind → List (List ℕ) → List ControlLine → Option (List (List ℕ))
first_with statement kind words lines =
    if kind_has statement kind then option_or (statement_with (keyword_of statement) lines) (Some words) else statement_with (keyword_of statement) lines

abbrev list_with : Statement → LineKind → List (List ℕ) → List ControlLine → List (List (List ℕ))
list_with statement kind words lines =
    if kind_has statement kind then statements_with (keyword_of statement) lines ++ words ∷ [] else statements_with (keyword_of statement) lines

abbrev said_with : LineKind → List (List ℕ) → List ControlLine → Said
said_with kind words lines = record {
  files = option_map files_of (first_with Locfiles kind words lines);
  frame = option_map frame_of (first_with Locgrid kind words lines);
  method = option_map method_of (first_with Locmeth kind words lines);
  sigma = option_map sigma_of (first_with Locgau kind words lines);
  cells = option_map cells_of (first_with Locsearch kind words lines);
  seed = option_map seed_of (first_with Control kind words lines);
  margin = option_map count_of (first_with Edtnear kind words lines);
  budget = option_map count_of (first_with Edtbudget kind words lines);
  shape = option_map shape_of (first_with Edtkernel kind words lines);
  lanes = option_map count_of (first_with Edtlanes kind words lines);
  phase_ids = flat_map phase_ids_of (list_with Locphaseid kind words lines);
  excludes = map exclude_of (list_with Locexclude kind words lines);
  delays = map delay_of (list_with Locdelay kind words lines);
  aliases = map alias_of (list_with Localias kind words lines);
  includes = if kind_has Include kind then count_by is_include lines + 1 else count_by is_include lines;
  passed = if is_passed_kind kind then count_by is_passed lines + 1 else count_by is_passed lines;
}

said_more : (lines : List ControlLine) (line : ControlLine) → said_in (lines ++ line ∷ []) ≡ said_with (kind_of line) (arguments_of line) lines
unfolding said_in
said_more lines line = λ i. record {
  files = ap (option_map files_of) (first_step Locfiles lines line) i;
  frame = ap (option_map frame_of) (first_step Locgrid lines line) i;
  method = ap (option_map method_of) (first_step Locmeth lines line) i;
  sigma = ap (option_map sigma_of) (first_step Locgau lines line) i;
  cells = ap (option_map cells_of) (first_step Locsearch lines line) i;
  seed = ap (option_map seed_of) (first_step Control lines line) i;
  margin = ap (option_map count_of) (first_step Edtnear lines line) i;
  budget = ap (option_map count_of) (first_step Edtbudget lines line) i;
  shape = ap (option_map shape_of) (first_step Edtkernel lines line) i;
  lanes = ap (option_map count_of) (first_step Edtlanes lines line) i;
  phase_ids = ap (flat_map phase_ids_of) (list_step Locphaseid lines line) i;
  excludes = ap (map exclude_of) (list_step Locexclude lines line) i;
  delays = ap (map delay_of) (list_step Locdelay lines line) i;
  aliases = ap (map alias_of) (list_step Localias lines line) i;
  includes = (count_more is_include lines line ∙ ap (λ b. if b then count_by is_include lines + 1 else count_by is_include lines) (has_kind line Include)) i;
  passed = count_more is_passed lines line i;
}

-- nothing was said
none_said : {V : Type 0} (value : List (List ℕ) → V) (found : Option (List (List ℕ))) → is_some (option_map value found) ≡ false → found ≡ None
none_said value None absent = refl
none_said value (Some words) absent = absurd cc

-- what is said with one more statement
said_statement : (statement : Statement) (words : List (List ℕ)) (lines : List ControlLine) → was_said statement (said_in lines) ≡ false
    → said_with (Of statement) words lines ≡ with_statement statement words (said_in lines)
unfolding said_in
said_statement Locfiles words lines new = let none = none_said files_of (statement_with (keyword_of Locfiles) lines) new in rw none refl
said_statement Locgrid words lines new = let none = none_said frame_of (statement_with (keyword_of Locgrid) lines) new in rw none refl
said_statement Locmeth words lines new = let none = none_said method_of (statement_with (keyword_of Locmeth) lines) new in rw none refl
said_statement Locgau words lines new = let none = none_said sigma_of (statement_with (keyword_of Locgau) lines) new in rw none refl
said_statement Locsearch words lines new = let none = none_said cells_of (statement_with (keyword_of Locsearch) lines) new in rw none refl
said_statement Locphaseid words lines new =
    let more = flat_map-append phase_ids_of (statements_with (keyword_of Locphaseid) lines) (words ∷ []) in
    let one = append-nil (phase_ids_of words) in
    rw (more, one) refl
said_statement Locexclude words lines new = rw (map-append exclude_of (statements_with (keyword_of Locexclude) lines) (words ∷ [])) refl
said_statement Locdelay words lines new = rw (map-append delay_of (statements_with (keyword_of Locdelay) lines) (words ∷ [])) refl
said_statement Localias words lines new = rw (map-append alias_of (statements_with (keyword_of Localias) lines) (words ∷ [])) refl
said_statement Control words lines new = let none = none_said seed_of (statement_with (keyword_of Control) lines) new in rw none refl
said_statement Include words lines new = refl
said_statement Edtnear words lines new = let none = none_said count_of (statement_with (keyword_of Edtnear) lines) new in rw none refl
said_statement Edtbudget words lines new = let none = none_said count_of (statement_with (keyword_of Edtbudget) lines) new in rw none refl
said_statement Edtkernel words lines new = let none = none_said shape_of (statement_with (keyword_of Edtkernel) lines) new in rw none refl
said_statement Edtlanes words lines new = let none = none_said count_of (statement_with (keyword_of Edtlanes) lines) new in rw none refl
said_statement Locgau2 words lines new = refl

-- no statement of this kind is a second one
abbrev IsNew : LineKind → Said → Type 0
IsNew Blank said = Unit {0}
IsNew Comment said = Unit {0}
IsNew Passed said = Unit {0}
IsNew (Of statement) said = was_said statement said ≡ false

said_kind : (kind : LineKind) (words : List (List ℕ)) (lines : List ControlLine) → IsNew kind (said_in lines)
    → said_with kind words lines ≡ with_kind kind words (said_in lines)
unfolding said_in
said_kind Blank words lines new = refl
said_kind Comment words lines new = refl
said_kind Passed words lines new = refl
said_kind (Of statement) words lines new = said_statement statement words lines new

-- a statement without a fault is no second one
new_statement : (said : Said) (file : ℕ) (statement : Statement) (words : List (List ℕ)) → statement_fault_by said file statement words ≡ None
    → was_said statement said ≡ false
new_statement said file statement words good = elim (by_bool (includes_file statement && nat_lt 0 file)) [
  | inl nested ↦ let fault = fault_nested said file statement words nested in absurd cc
  | inr outer ↦ elim (by_bool (is_not_yet statement)) [
    | inl not_yet ↦ let fault = fault_not_yet said file statement words outer not_yet in absurd cc
    | inr known ↦ elim (by_bool (was_said statement said)) [
      | inl twice ↦ let fault = fault_repeated said file statement words outer known twice in absurd cc
      | inr new ↦ new
    ]
  ]
]

new_kind : (kind : LineKind) (said : Said) (file : ℕ) (words : List (List ℕ)) → kind_fault_by kind said file words ≡ None → IsNew kind said
new_kind Blank said file words good = tt
new_kind Comment said file words good = tt
new_kind Passed said file words good = tt
new_kind (Of statement) said file words good = new_statement said file statement words good

-- what lines say with one more that has no fault
pub said_line : (lines : List ControlLine) (line : ControlLine) → fault_by (said_in lines) line ≡ None
    → said_in (lines ++ line ∷ []) ≡ with_line line (said_in lines)
said_line lines line good = elim (by_bool (nat_lt LONGEST_LINE (length line.bytes))) [
  | inl long ↦ let fault : fault_by (said_in lines) line ≡ Some LongLine = rw long refl in absurd cc
  | inr short ↦
      let within : kind_fault_by (kind_of line) (said_in lines) line.file (arguments_of line) ≡ None = rw short at good in
      said_more lines line ∙ said_kind (kind_of line) (arguments_of line) lines (new_kind (kind_of line) (said_in lines) line.file (arguments_of line) within)
]

-- a keyword was said where a line has it
any_found : {V : Type 0} (value : List (List ℕ) → V) (p : ControlLine → Bool) (lines : List ControlLine)
    → is_some (option_map value (option_map arguments_of (find p lines))) ≡ list_any p lines
any_found value p [] = refl
any_found value p (x ∷ lines) = elim (by_bool (p x)) [
  | inl here ↦ rw here refl
  | inr later ↦ rw later (any_found value p lines)
]

pub any_with : {V : Type 0} (value : List (List ℕ) → V) (keyword : List ℕ) (lines : List ControlLine)
    → is_some (option_map value (statement_with keyword lines)) ≡ list_any (has_keyword keyword) lines
unfolding statement_with
any_with value keyword lines = any_found value (has_keyword keyword) lines

said_before : (statement : Statement) (lines : List ControlLine) → is_not_yet statement ≡ false
    → was_said statement (said_in lines) ≡ is_repeated lines statement
unfolding said_in
said_before Locfiles lines known = any_with files_of (keyword_of Locfiles) lines
said_before Locgrid lines known = any_with frame_of (keyword_of Locgrid) lines
said_before Locmeth lines known = any_with method_of (keyword_of Locmeth) lines
said_before Locgau lines known = any_with sigma_of (keyword_of Locgau) lines
said_before Locsearch lines known = any_with cells_of (keyword_of Locsearch) lines
said_before Locphaseid lines known = refl
said_before Locexclude lines known = refl
said_before Locdelay lines known = refl
said_before Localias lines known = refl
said_before Control lines known = any_with seed_of (keyword_of Control) lines
said_before Include lines known = refl
said_before Edtnear lines known = any_with count_of (keyword_of Edtnear) lines
said_before Edtbudget lines known = any_with count_of (keyword_of Edtbudget) lines
said_before Edtkernel lines known = any_with shape_of (keyword_of Edtkernel) lines
said_before Edtlanes lines known = any_with count_of (keyword_of Edtlanes) lines
said_before Locgau2 lines known = absurd cc

-- whether a statement that isn't read yet is repeated doesn't matter
same_causes : (nested not_yet repeated other past : Bool) (words : Option ControlCause) → (not_yet ≡ false → repeated ≡ other)
    → first_cause (unless (not nested) NestedInclude ∷ unless (not not_yet) NotYet ∷ unless (not repeated) Repeated ∷ words ∷ unless (not past) Limit ∷ [])
    ≡ first_cause (unless (not nested) NestedInclude ∷ unless (not not_yet) NotYet ∷ unless (not other) Repeated ∷ words ∷ unless (not past) Limit ∷ [])
same_causes true not_yet repeated other past words same = refl
same_causes false true repeated other past words same = refl
same_causes false false repeated other past words same = rw (same refl) refl

same_statement_fault : (lines : List ControlLine) (line : ControlLine) (statement : Statement) → kind_of line ≡ Of statement
    → statement_fault_by (said_in lines) line.file statement (arguments_of line) ≡ statement_fault lines line statement
unfolding statement_fault_by statement_fault said_in
same_statement_fault lines line statement is =
    let including : is_include line ≡ includes_file statement = has_kind line Include ∙ ap (kind_has Include) is in
    rw including (
    same_causes (includes_file statement && nat_lt 0 line.file) (is_not_yet statement) (was_said statement (said_in lines)) (is_repeated lines statement)
    (includes_file statement && nat_le 16 (count_by is_include lines)) (words_fault statement (arguments_of line)) (said_before statement lines))

same_kind_fault : (lines : List ControlLine) (line : ControlLine) (kind : LineKind) → kind_of line ≡ kind
    → kind_fault_by kind (said_in lines) line.file (arguments_of line) ≡ kind_fault kind lines line
same_kind_fault lines line Blank is = refl
same_kind_fault lines line Comment is = refl
same_kind_fault lines line Passed is = refl
same_kind_fault lines line (Of statement) is = same_statement_fault lines line statement is

-- the fault of a line by what the lines before it say
pub same_fault : (lines : List ControlLine) (line : ControlLine) → fault_by (said_in lines) line ≡ fault_after lines line
same_fault lines line = elim (by_bool (nat_lt LONGEST_LINE (length line.bytes))) [
  | inl long ↦ rw long refl
  | inr short ↦ rw short (same_kind_fault lines line (kind_of line) refl)
]
