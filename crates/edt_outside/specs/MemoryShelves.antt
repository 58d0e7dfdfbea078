-- What a shelf in memory holds.
use Rattle.std.specs.Prelude.{◌≢◌, ⊤, List, [], ℕ, Option, None, Some, map, drop, slice_get, AllPairs, unwrap_or, Result, Ok, Err}
use Rattle.std.specs.Global.{Vec}
use Rattle.std.specs.Str.{bytes_eq}
use Rattle.std.specs.Map.{lookup}
use Rattle.edt_outside.specs.Shelves.{Files}

-- the names are different
abbrev pub NamesDiffer : List (List ℕ × Vec ℕ) → Type 0
NamesDiffer entries = AllPairs (λ e f. e.0 ≢ f.0) entries

-- names with the bytes under them
abbrev pub told_entries : List (List ℕ × Vec ℕ) → List (List ℕ × List ℕ)
told_entries entries = map (λ e. (e.0, e.1.items)) entries

-- the bytes under a name
abbrev pub files_of : List (List ℕ × List ℕ) → Files
files_of entries name = lookup (λ n. bytes_eq n name) entries

-- the bytes of the opened entry from a place on, and none where no entry is open
abbrev pub unread_of : List (List ℕ × Vec ℕ) → Option ℕ → ℕ → List ℕ
unread_of entries None at = []
unread_of entries (Some opened) at = unread_in (slice_get entries opened) at
  where
    unread_in : Option (List ℕ × Vec ℕ) → ℕ → List ℕ
    unread_in None at = []
    unread_in (Some e) at = drop at e.1.items

-- a shelf in memory: its files, how many bytes a read gives at most, the numbers of the calls that
-- fail, the unread bytes of the open file, and the counts, of which `calls` is the number of the last
-- call
pub record MemoryShelfState : Type 0 where
  pub entries : List (List ℕ × List ℕ)
  pub piece : ℕ
  pub failing : List ℕ
  pub left : List ℕ
  pub faults : ℕ
  pub misses : ℕ
  pub lacks : ℕ
  pub calls : ℕ

-- what is unread after an open: the file where it was opened, else nothing
abbrev pub opened_of : {E : Type 0} → Result ⊤ E → Option (List ℕ) → List ℕ
opened_of (Ok _) file = unwrap_or file []
opened_of (Err _) file = []
