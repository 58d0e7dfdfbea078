-- The keywords of control statements, and what each of them asks for.
use Rattle.std.specs.Prelude.{ℕ, Bool, true, false, List, [], ◌∷◌, Option, codes}
use Rattle.std.specs.Map.{lookup}
use Rattle.std.specs.Str.{bytes_eq}
use Rattle.control_reader.specs.declared.statement.Statement.{Statement}
use Rattle.control_reader.specs.declared.statement.Statement.TheVariants.{Locfiles, Locgrid, Locmeth, Locgau, Locsearch, Locphaseid, Locexclude, Locdelay, Localias, Control, Include, Edtnear, Edtbudget, Edtkernel, Edtlanes, Locgau2}

-- each keyword with its statement
abbrev pub keywords : List (List ℕ × Statement)
keywords =
    (codes "LOCFILES", Locfiles)
    ∷ (codes "LOCGRID", Locgrid)
    ∷ (codes "LOCMETH", Locmeth)
    ∷ (codes "LOCGAU", Locgau)
    ∷ (codes "LOCSEARCH", Locsearch)
    ∷ (codes "LOCPHASEID", Locphaseid)
    ∷ (codes "LOCEXCLUDE", Locexclude)
    ∷ (codes "LOCDELAY", Locdelay)
    ∷ (codes "LOCALIAS", Localias)
    ∷ (codes "CONTROL", Control)
    ∷ (codes "INCLUDE", Include)
    ∷ (codes "EDTNEAR", Edtnear)
    ∷ (codes "EDTBUDGET", Edtbudget)
    ∷ (codes "EDTKERNEL", Edtkernel)
    ∷ (codes "EDTLANES", Edtlanes)
    ∷ (codes "LOCGAU2", Locgau2)
    ∷ []

-- the statement with this keyword, if it is read
unfoldable pub statement_of : List ℕ → Option Statement
statement_of word = lookup (bytes_eq word) keywords

-- the keyword of a statement
abbrev pub keyword_of : Statement → List ℕ
keyword_of Locfiles = codes "LOCFILES"
keyword_of Locgrid = codes "LOCGRID"
keyword_of Locmeth = codes "LOCMETH"
keyword_of Locgau = codes "LOCGAU"
keyword_of Locsearch = codes "LOCSEARCH"
keyword_of Locphaseid = codes "LOCPHASEID"
keyword_of Locexclude = codes "LOCEXCLUDE"
keyword_of Locdelay = codes "LOCDELAY"
keyword_of Localias = codes "LOCALIAS"
keyword_of Control = codes "CONTROL"
keyword_of Include = codes "INCLUDE"
keyword_of Edtnear = codes "EDTNEAR"
keyword_of Edtbudget = codes "EDTBUDGET"
keyword_of Edtkernel = codes "EDTKERNEL"
keyword_of Edtlanes = codes "EDTLANES"
keyword_of Locgau2 = codes "LOCGAU2"

-- the statement may stand once
abbrev pub is_once : Statement → Bool
is_once Locfiles = true
is_once Locgrid = true
is_once Locmeth = true
is_once Locgau = true
is_once Locsearch = true
is_once Locphaseid = false
is_once Locexclude = false
is_once Locdelay = false
is_once Localias = false
is_once Control = true
is_once Include = false
is_once Edtnear = true
is_once Edtbudget = true
is_once Edtkernel = true
is_once Edtlanes = true
is_once Locgau2 = true

-- how many words the statement needs after its keyword
abbrev pub least_of : Statement → ℕ
least_of Locfiles = 4
least_of Locgrid = 9
least_of Locmeth = 6
least_of Locgau = 1
least_of Locsearch = 1
least_of Locphaseid = 2
least_of Locexclude = 2
least_of Locdelay = 4
least_of Localias = 8
least_of Control = 2
least_of Include = 1
least_of Edtnear = 1
least_of Edtbudget = 1
least_of Edtkernel = 1
least_of Edtlanes = 1
least_of Locgau2 = 3

-- the statement isn't read yet
abbrev pub is_not_yet : Statement → Bool
is_not_yet Locfiles = false
is_not_yet Locgrid = false
is_not_yet Locmeth = false
is_not_yet Locgau = false
is_not_yet Locsearch = false
is_not_yet Locphaseid = false
is_not_yet Locexclude = false
is_not_yet Locdelay = false
is_not_yet Localias = false
is_not_yet Control = false
is_not_yet Include = false
is_not_yet Edtnear = false
is_not_yet Edtbudget = false
is_not_yet Edtkernel = false
is_not_yet Edtlanes = false
is_not_yet Locgau2 = true
