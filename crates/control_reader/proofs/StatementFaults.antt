-- The first fault of a statement, given what the lines before it say.
use Rattle.std.proofs.Common.{◌≡◌, ℕ, ◌+◌, ◌<◌, ◌≤◌, Bool, true, false, List, length, Some, None, refl, ◌∙◌, arith}
use Rattle.std.specs.Prelude.{nat_lt, nat_le, ◌&&◌, if◌then◌else◌}
use Rattle.std.proofs.lemmas.Grind.{common_steps}
use Rattle.control_reader.specs.declared.fault.ControlCause.{ControlCause}
use Rattle.control_reader.specs.declared.fault.ControlCause.TheVariants.{NestedInclude, NotYet, Repeated, Fields, Limit}
use Rattle.control_reader.specs.declared.statement.Statement.{Statement}
use Rattle.control_reader.specs.declared.statement.Statement.TheVariants.{Locfiles, Locgrid, Locmeth, Locgau, Locsearch, Locphaseid, Locexclude, Locdelay, Localias, Control, Include, Edtnear, Edtbudget, Edtkernel, Edtlanes, Locgau2}
use Rattle.control_reader.specs.Keywords.{is_not_yet, least_of}
use Rattle.control_reader.specs.WordFaults.{fault_in_words}
use Rattle.control_reader.specs.Inside.Said.{Said}
use Rattle.control_reader.specs.Inside.NextFault.{was_said, includes_file, statement_fault_by}
use Rattle.control_reader.specs.Inside.NextStatement.{with_statement}

-- nothing speaks against the statement before its words
pub record MayStand (said : Said) (file : ℕ) (statement : Statement) : Type 0 where
  pub outer : (includes_file statement && nat_lt 0 file) ≡ false
  pub known : is_not_yet statement ≡ false
  pub new : was_said statement said ≡ false

pub fault_nested : (said : Said) (file : ℕ) (statement : Statement) (words : List (List ℕ)) → (includes_file statement && nat_lt 0 file) ≡ true
    → statement_fault_by said file statement words ≡ Some NestedInclude
unfolding statement_fault_by
fault_nested said file statement words is = rw is refl

pub fault_not_yet : (said : Said) (file : ℕ) (statement : Statement) (words : List (List ℕ)) → (includes_file statement && nat_lt 0 file) ≡ false
    → is_not_yet statement ≡ true → statement_fault_by said file statement words ≡ Some NotYet
unfolding statement_fault_by
fault_not_yet said file statement words outer is = rw (outer, is) refl

pub fault_repeated : (said : Said) (file : ℕ) (statement : Statement) (words : List (List ℕ)) → (includes_file statement && nat_lt 0 file) ≡ false
    → is_not_yet statement ≡ false → was_said statement said ≡ true → statement_fault_by said file statement words ≡ Some Repeated
unfolding statement_fault_by
fault_repeated said file statement words outer known is = rw (outer, known, is) refl

pub fault_few : (said : Said) (file : ℕ) (statement : Statement) (words : List (List ℕ)) → MayStand said file statement
    → length words < least_of statement → statement_fault_by said file statement words ≡ Some Fields
unfolding statement_fault_by
fault_few said file statement words may few =
    let short : nat_lt (length words) (least_of statement) ≡ true = grind (arith, common_steps) in
    rw (may.outer, may.known, may.new, short) refl

pub fault_words : (said : Said) (file : ℕ) (statement : Statement) (words : List (List ℕ)) (cause : ControlCause) → MayStand said file statement
    → least_of statement ≤ length words → fault_in_words statement words ≡ Some cause → statement_fault_by said file statement words ≡ Some cause
unfolding statement_fault_by
fault_words said file statement words cause may enough fault =
    let many : nat_lt (length words) (least_of statement) ≡ false = grind (arith, common_steps) in
    rw (may.outer, may.known, may.new, many, fault) refl

-- how many files are included with one more statement
pub includes_after : (said : Said) (statement : Statement) (words : List (List ℕ))
    → (with_statement statement words said).includes ≡ (if includes_file statement then said.includes + 1 else said.includes)
includes_after said Locfiles words = refl
includes_after said Locgrid words = refl
includes_after said Locmeth words = refl
includes_after said Locgau words = refl
includes_after said Locsearch words = refl
includes_after said Locphaseid words = refl
includes_after said Locexclude words = refl
includes_after said Locdelay words = refl
includes_after said Localias words = refl
includes_after said Control words = refl
includes_after said Include words = refl
includes_after said Edtnear words = refl
includes_after said Edtbudget words = refl
includes_after said Edtkernel words = refl
includes_after said Edtlanes words = refl
includes_after said Locgau2 words = refl

-- the seventeenth file
too_many : (b : Bool) (old new : ℕ) → old ≤ 16 → new ≡ (if b then old + 1 else old) → 16 < new → (b && nat_le 16 old) ≡ true
too_many true old new few is many = grind (arith, common_steps)
too_many false old new few is many = absurd (omega (arith, is))

not_too_many : (b : Bool) (old new : ℕ) → new ≡ (if b then old + 1 else old) → new ≤ 16 → (b && nat_le 16 old) ≡ false
not_too_many true old new is few = grind (arith, common_steps)
not_too_many false old new is few = refl

pub fault_limit : (said : Said) (file : ℕ) (statement : Statement) (words : List (List ℕ)) (includes : ℕ) → MayStand said file statement
    → least_of statement ≤ length words → fault_in_words statement words ≡ None
    → said.includes ≤ 16 → includes ≡ (with_statement statement words said).includes → 16 < includes
    → statement_fault_by said file statement words ≡ Some Limit
unfolding statement_fault_by
fault_limit said file statement words includes may enough good few is past =
    let many : nat_lt (length words) (least_of statement) ≡ false = grind (arith, common_steps) in
    let past_most = too_many (includes_file statement) said.includes includes few (is ∙ includes_after said statement words) past in
    rw (may.outer, may.known, may.new, many, good, past_most) refl

pub fault_none : (said : Said) (file : ℕ) (statement : Statement) (words : List (List ℕ)) (includes : ℕ) → MayStand said file statement
    → least_of statement ≤ length words → fault_in_words statement words ≡ None
    → includes ≡ (with_statement statement words said).includes → includes ≤ 16
    → statement_fault_by said file statement words ≡ None
unfolding statement_fault_by
fault_none said file statement words includes may enough good is few =
    let many : nat_lt (length words) (least_of statement) ≡ false = grind (arith, common_steps) in
    let within_most = not_too_many (includes_file statement) said.includes includes (is ∙ includes_after said statement words) few in
    rw (may.outer, may.known, may.new, many, good, within_most) refl
