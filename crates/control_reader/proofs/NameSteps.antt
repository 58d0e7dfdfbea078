-- The names of included files, line by line.
use Rattle.std.proofs.Common.{◌≡◌, ℕ, ◌+◌, ◌<◌, ◌≤◌, Bool, true, false, List, [], ◌∷◌, ◌++◌, length, Option, Some, None, Result, Ok, Err, refl, sym, ◌∙◌, ap, arith, length-append}
use Rattle.std.specs.Prelude.{nat_le, nat_lt, ◌≢◌, IfOk, IfErr, OnOk}
use Rattle.std.proofs.lemmas.List.{append-nil}
use Rattle.std.proofs.lemmas.Bool.{false≢true}
use Rattle.std.proofs.lemmas.Grind.{common_steps}
use Rattle.text_terms.specs.Words.{words_of}
use Rattle.edt_text.specs.declared.limits.TheConstants.{LONGEST_LINE}
use Rattle.control_reader.specs.declared.fault.ControlCause.{ControlCause}
use Rattle.control_reader.specs.declared.fault.ControlCause.TheVariants.{LongLine, Fields, Limit, Memory}
use Rattle.control_reader.specs.declared.statement.Statement.TheVariants.{Include}
use Rattle.control_reader.specs.declared.statement.LineKind.{LineKind}
use Rattle.control_reader.specs.declared.statement.LineKind.TheVariants.{Blank, Comment, Passed, Of}
use Rattle.control_reader.specs.ControlLines.{ControlLine, kind_of, kind_of_words, is_include, arguments_of}
use Rattle.control_reader.specs.Inside.ReadValues.{Pushes}
use Rattle.control_reader.specs.Inside.IncludeNames.{kind_includes, names_in, name_fault_by}
use Rattle.control_reader.specs.Values.{include_of}
use Rattle.control_reader.specs.WordFaults.{include_fault}
use Rattle.control_reader.proofs.LineKinds.{kind_has, has_kind}

-- whether a line includes a file, by its kind
same_kind : (kind : LineKind) → kind_has Include kind ≡ kind_includes kind
same_kind Blank = refl
same_kind Comment = refl
same_kind Passed = refl
same_kind (Of statement) = refl

pub include_by_kind : (line : ControlLine) (kind : LineKind) (includes : Bool) → kind ≡ kind_of_words (words_of line.bytes) → includes ≡ kind_includes kind
    → is_include line ≡ includes
unfolding kind_of
include_by_kind line kind includes is same =
    has_kind line Include ∙ same_kind (kind_of_words (words_of line.bytes)) ∙ ap kind_includes (sym is) ∙ sym same

pub names_other : (line : ControlLine) (names : List (List ℕ)) → is_include line ≡ false → names ≡ names ++ names_in line
names_other line names other = rw other (sym (append-nil names))

pub good_other : (before : ℕ) (line : ControlLine) → is_include line ≡ false → name_fault_by before line ≡ None
unfolding name_fault_by
good_other before line other = rw other refl

pub name_long : (before : ℕ) (line : ControlLine) → is_include line ≡ true → LONGEST_LINE < length line.bytes → name_fault_by before line ≡ Some LongLine
unfolding name_fault_by
name_long before line is long =
    let over : nat_le (length line.bytes) LONGEST_LINE ≡ false = grind (arith, common_steps) in
    rw (is, over) refl

-- a line that includes a file and isn't too long, and the words after its keyword
pub record IsIncludeLine (line : ControlLine) (words : List (List ℕ)) : Type 0 where
  pub is : is_include line ≡ true
  pub short : length line.bytes ≤ LONGEST_LINE
  pub same : words ≡ arguments_of line

within_line : (line : ControlLine) (words : List (List ℕ)) → IsIncludeLine line words → nat_le (length line.bytes) LONGEST_LINE ≡ true
within_line line words include = let short : length line.bytes ≤ LONGEST_LINE = include.short in grind (arith, common_steps)

pub name_few : (before : ℕ) (line : ControlLine) (words : List (List ℕ)) → IsIncludeLine line words → length words < 1
    → name_fault_by before line ≡ Some Fields
unfolding name_fault_by
name_few before line words include few =
    let within = within_line line words include in
    let short : nat_lt (length words) 1 ≡ true = grind (arith, common_steps) in
    let is = include.is in
    let same = include.same in
    rw (is, within, ← same, short) refl

pub name_words : (before : ℕ) (line : ControlLine) (words : List (List ℕ)) (cause : ControlCause) → IsIncludeLine line words → 1 ≤ length words
    → include_fault words ≡ Some cause → name_fault_by before line ≡ Some cause
unfolding name_fault_by
name_words before line words cause include enough fault =
    let within = within_line line words include in
    let many : nat_lt (length words) 1 ≡ false = grind (arith, common_steps) in
    let is = include.is in
    let same = include.same in
    rw (is, within, ← same, many, fault) refl

pub name_limit : (before : ℕ) (line : ControlLine) (words : List (List ℕ)) → IsIncludeLine line words → 1 ≤ length words
    → include_fault words ≡ None → 16 ≤ before → name_fault_by before line ≡ Some Limit
unfolding name_fault_by
name_limit before line words include enough good past =
    let within = within_line line words include in
    let many : nat_lt (length words) 1 ≡ false = grind (arith, common_steps) in
    let over : nat_le 16 before ≡ true = grind (arith, common_steps) in
    let is = include.is in
    let same = include.same in
    rw (is, within, ← same, many, good, over) refl

pub name_good : (before : ℕ) (line : ControlLine) (words : List (List ℕ)) → IsIncludeLine line words → 1 ≤ length words
    → include_fault words ≡ None → before < 16 → name_fault_by before line ≡ None
unfolding name_fault_by
name_good before line words include enough good few =
    let within = within_line line words include in
    let many : nat_lt (length words) 1 ≡ false = grind (arith, common_steps) in
    let under : nat_le 16 before ≡ false = grind (arith, common_steps) in
    let is = include.is in
    let same = include.same in
    rw (is, within, ← same, many, good, under) refl

pub names_more : (line : ControlLine) (words : List (List ℕ)) (before after : List (List ℕ)) → IsIncludeLine line words
    → after ≡ before ++ include_of words ∷ [] → after ≡ before ++ names_in line
names_more line words before after include is =
    let includes = include.is in
    let same = include.same in
    rw (includes, ← same) is

-- what was read stands after the others
pub pushed_value : {T U : Type 0} (read : Result T ControlCause) (before after : List T) (done : U) (value : T) → Pushes read before after (Ok done)
    → IfOk read (λ x. x ≡ value) → after ≡ before ++ value ∷ []
pushed_value (Ok x) before after done value pushes is = pushes.0 ∙ ap (λ y. before ++ y ∷ []) is
pushed_value (Err cause) before after done value pushes is = absurd (false≢true pushes.1)

pub pushed_good : {T U P : Type 0} (read : Result T ControlCause) (before after : List T) (done : U) → Pushes read before after (Ok done) → OnOk read P → P
pushed_good (Ok x) before after done pushes holds = holds
pushed_good (Err cause) before after done pushes holds = absurd (false≢true pushes.1)

pub pushed_fault : {T : Type 0} (U : Type 0) (read : Result T ControlCause) (before after : List T) (found : Option ControlCause) (cause : ControlCause)
    → Pushes {U = U} read before after (Err cause) → cause ≢ Memory → IfErr read (λ c. c ≢ Memory → found ≡ Some c) → found ≡ Some cause
pushed_fault U (Ok x) before after found cause pushes other is = absurd (other pushes.1)
pushed_fault U (Err c) before after found cause pushes other is =
    let same : cause ≡ c = pushes.0 in
    rw same (is (rw same at other))

pub pushed_length : {T : Type 0} (before after : List T) (x : T) → after ≡ before ++ x ∷ [] → length after ≡ length before + 1
pushed_length before after x is = let more = ap length is in omega (arith, more, length-append before (x ∷ []))
