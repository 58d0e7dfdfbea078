-- The kind of a line tells which keyword it has.
use Rattle.std.proofs.Common.{◌≡◌, ℕ, Bool, true, false, List, [], ◌∷◌, Option, Some, None, inl, inr, refl, sym, ◌∙◌, ap}
use Rattle.std.specs.Prelude.{◌==◌, slice_index}
use Rattle.std.specs.List.{list_all}
use Rattle.std.specs.Map.{lookup}
use Rattle.std.specs.Str.{bytes_eq}
use Rattle.std.proofs.Common.{arith}
use Rattle.std.proofs.lemmas.Grind.{common_steps}
use Rattle.std.proofs.lemmas.Slice.Eq.{bytes_eq-Decides}
use Rattle.text_terms.specs.Words.{words_of}
use Rattle.text_terms.proofs.Cases.{by_bool}
use Rattle.control_reader.specs.declared.statement.Statement.{Statement}
use Rattle.control_reader.specs.declared.statement.Statement.TheVariants.{Locfiles, Locgrid, Locmeth, Locgau, Locsearch, Locphaseid, Locexclude, Locdelay, Localias, Control, Include, Edtnear, Edtbudget, Edtkernel, Edtlanes, Locgau2}
use Rattle.control_reader.specs.declared.statement.LineKind.{LineKind}
use Rattle.control_reader.specs.declared.statement.LineKind.TheVariants.{Blank, Comment, Passed, Of}
use Rattle.control_reader.specs.Keywords.{keywords, keyword_of, statement_of}
use Rattle.control_reader.specs.ControlLines.{ControlLine, kind_of, kind_of_first, kind_of_statement, kind_of_words, begins_with, has_keyword}

-- a line of this kind has the keyword of the statement
abbrev pub kind_has : Statement → LineKind → Bool
kind_has statement Blank = false
kind_has statement Comment = false
kind_has statement Passed = false
kind_has statement (Of other) = bytes_eq (keyword_of other) (keyword_of statement)

-- each entry of a table has the keyword of its statement
abbrev is_entry : List ℕ × Statement → Bool
is_entry entry = bytes_eq entry.0 (keyword_of entry.1)

found_keyword : (word : List ℕ) (table : List (List ℕ × Statement)) (statement : Statement) → list_all is_entry table ≡ true
    → lookup (bytes_eq word) table ≡ Some statement → word ≡ keyword_of statement
found_keyword word [] statement all found = absurd cc
found_keyword word (entry ∷ table) statement all found = elim (by_bool (bytes_eq word entry.0)) [
  | inl same ↦
      let here : Some entry.1 ≡ Some statement = rw same at found in
      let is : entry.1 ≡ statement = cc in
      let key : bytes_eq entry.0 (keyword_of entry.1) ≡ true = grind (arith, common_steps) in
      (bytes_eq-Decides word entry.0).0 same ∙ (bytes_eq-Decides entry.0 (keyword_of entry.1)).0 key ∙ ap keyword_of is
  | inr other ↦
      let later : lookup (bytes_eq word) table ≡ Some statement = rw other at found in
      let rest : list_all is_entry table ≡ true = grind (arith, common_steps) in
      found_keyword word table statement rest later
]

-- the word of a statement's line is its keyword
word_of_statement : (word : List ℕ) (statement : Statement) → statement_of word ≡ Some statement → word ≡ keyword_of statement
unfolding statement_of
word_of_statement word statement found = found_keyword word keywords statement refl found

-- by the statement that was found
of_found : (word : List ℕ) (found : Option Statement) (statement : Statement) → statement_of word ≡ found → kind_of_statement found ≡ Of statement
    → word ≡ keyword_of statement
of_found word None statement e is = absurd cc
of_found word (Some other) statement e is =
    let same : other ≡ statement = cc in
    word_of_statement word other e ∙ ap keyword_of same

word_of_kind : (word : List ℕ) (statement : Statement) → kind_of_first word ≡ Of statement → word ≡ keyword_of statement
word_of_kind word statement is = elim (by_bool (slice_index word 0 == 35)) [
  | inl comment ↦ let other : Comment ≡ Of statement = rw comment at is in absurd cc
  | inr word_is ↦ let found : kind_of_statement (statement_of word) ≡ Of statement = rw word_is at is in of_found word (statement_of word) statement refl found
]

-- each keyword begins a line of its statement
kind_of_keyword : (statement : Statement) → kind_of_first (keyword_of statement) ≡ Of statement
unfolding statement_of
kind_of_keyword Locfiles = refl
kind_of_keyword Locgrid = refl
kind_of_keyword Locmeth = refl
kind_of_keyword Locgau = refl
kind_of_keyword Locsearch = refl
kind_of_keyword Locphaseid = refl
kind_of_keyword Locexclude = refl
kind_of_keyword Locdelay = refl
kind_of_keyword Localias = refl
kind_of_keyword Control = refl
kind_of_keyword Include = refl
kind_of_keyword Edtnear = refl
kind_of_keyword Edtbudget = refl
kind_of_keyword Edtkernel = refl
kind_of_keyword Edtlanes = refl
kind_of_keyword Locgau2 = refl

-- a line that begins with another word hasn't the keyword
has_other : (word : List ℕ) (statement : Statement) (kind : LineKind) → kind_of_first word ≡ kind → bytes_eq word (keyword_of statement) ≡ false
    → false ≡ kind_has statement kind
has_other word statement Blank is other = refl
has_other word statement Comment is other = refl
has_other word statement Passed is other = refl
has_other word statement (Of found) is other =
    sym other ∙ ap (λ w. bytes_eq w (keyword_of statement)) (word_of_kind word found is)

has_words : (words : List (List ℕ)) (statement : Statement) → begins_with (keyword_of statement) words ≡ kind_has statement (kind_of_words words)
has_words [] statement = refl
has_words (word ∷ words) statement = elim (by_bool (bytes_eq word (keyword_of statement))) [
  | inl same ↦
      let is = (bytes_eq-Decides word (keyword_of statement)).0 same in
      let kind : kind_of_first word ≡ Of statement = ap kind_of_first is ∙ kind_of_keyword statement in
      same ∙ sym (ap (kind_has statement) kind ∙ (bytes_eq-Decides (keyword_of statement) (keyword_of statement)).1 refl)
  | inr other ↦ other ∙ has_other word statement (kind_of_first word) refl other
]

-- a line has the keyword of a statement where its kind says so
pub has_kind : (line : ControlLine) (statement : Statement) → has_keyword (keyword_of statement) line ≡ kind_has statement (kind_of line)
unfolding has_keyword kind_of
has_kind line statement = has_words (words_of line.bytes) statement
