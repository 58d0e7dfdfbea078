-- The rows of keys that have headers.
use Rattle.std.proofs.Common.{◌≡◌, ℕ, zero, suc, ◌<◌, ◌≤◌, List, [], ◌∷◌, length, map, Option, Some, None, IfSome, Ok, Err, refl, sym, ap, ◌∙◌, arith}
use Rattle.std.specs.Prelude.{All, unwrap_or}
use Rattle.std.specs.List.{slice_get}
use Rattle.std.specs.Option.{option_map}
use Rattle.std.proofs.lemmas.List.Elements.{All-head, All-tail}
use Rattle.std.proofs.lemmas.Option.{slice_get-map, same_Some}
use Rattle.edt_outside.specs.Shelves.{Files}
use Rattle.edt_score.specs.Field.{FieldTimes}
use Rattle.grid_header.specs.declared.header.Header.{Header}
use Rattle.grid_header.specs.Reading.{header_of}
use Rattle.control_reader.specs.ControlValues.{ControlValues}
use Rattle.station_table.specs.declared.keys.GridKey.{GridKey}
use Rattle.event_assembly.specs.declared.faults.AssembleFault.{AssembleFault}
use Rattle.event_assembly.specs.Inside.Reads.{IsRefusal}
use Rattle.event_assembly.specs.Assembling.{keys_at, roots_for}
use Rattle.event_assembly.specs.Names.{header_name, body_name}
use Rattle.event_assembly.specs.Inside.Reads.{header_in, IsRowKey, ReadsRow, ReadsRows}
use Rattle.event_assembly.specs.Rows.{body_search_times, times_for, fault_of_row_file, row_header, row_fault, row_times}
use Rattle.event_assembly.proofs.ReadLaws.{AreMade, AreMade-all, MakesOne}

-- the key of a number that has one
key_within : (keys : List GridKey) (k : ℕ) → k < length keys → (key : GridKey) × (slice_get keys k ≡ Some key)
key_within [] k below = absurd (omega arith)
key_within (key ∷ keys) zero below = (key, refl)
key_within (key ∷ keys) (suc k) below = key_within keys k (omega arith)

-- the key of a row stands at its place
pub row_key : (keys : List GridKey) (headers : List (Option Header)) (rows : List ℕ) (i k : ℕ) (key : GridKey) → All (IsRowKey keys headers) rows
    → slice_get rows i ≡ Some k → slice_get keys k ≡ Some key → slice_get (keys_at keys rows) i ≡ Some key
row_key keys headers [] i k key all here there = absurd cc
row_key keys headers (row ∷ rows) zero k key all here there =
    let same : row ≡ k = cc in
    rw (same, there) refl
row_key keys headers (row ∷ rows) (suc i) k key all here there =
    let first = key_within keys row (All-head (IsRowKey keys headers) row rows all).within in
    rw first.1 (row_key keys headers rows i k key (All-tail (IsRowKey keys headers) row rows all) here there)

-- there are as many keys as rows
pub length-keys_at : (keys : List GridKey) (headers : List (Option Header)) (rows : List ℕ) → All (IsRowKey keys headers) rows
    → length (keys_at keys rows) ≡ length rows
length-keys_at keys headers [] all = refl
length-keys_at keys headers (row ∷ rows) all =
    let first = key_within keys row (All-head (IsRowKey keys headers) row rows all).within in
    rw first.1 (ap (λ n. suc n) (length-keys_at keys headers rows (All-tail (IsRowKey keys headers) row rows all)))

-- the header of a file that is there
header_there : (file : Option (List ℕ)) (header : Header) → option_map header_of file ≡ Some header → header_of (unwrap_or file []) ≡ header
header_there None header is = absurd cc
header_there (Some bytes) header is = cc

-- the header that was read is that of the row
pub row_header-is : (files : Files) (control : ControlValues) (keys : List GridKey) (headers : List (Option Header)) (k : ℕ) (key : GridKey) (header : Header)
    → headers ≡ map (header_in files control) keys → slice_get keys k ≡ Some key → slice_get headers k ≡ Some (Some header)
    → header ≡ row_header files control key
unfolding header_in
row_header-is files control keys headers k key header read here there =
    let place : slice_get (map (header_in files control) keys) k ≡ option_map (header_in files control) (slice_get keys k) = slice_get-map (header_in files control) keys k in
    let known : Some (Some header) ≡ option_map (header_in files control) (Some key) =
    sym there ∙ ap (λ (hs : List (Option Header)). slice_get hs k) read ∙ place ∙ ap (option_map (header_in files control)) here in
    let is : option_map header_of (files (header_name control key)) ≡ Some header = cc in
    sym (header_there (files (header_name control key)) header is)

-- a row that was read
pub row_made : (told now : Option Files) (control : ControlValues) (keys : List GridKey) (headers : List (Option Header)) (k : ℕ) (key : GridKey) (header : Header)
    (times : List ℕ) → now ≡ told → IfSome told (λ files. headers ≡ map (header_in files control) keys) → slice_get keys k ≡ Some key
    → slice_get headers k ≡ Some (Some header)
    → IfSome now (λ files. (fault_of_row_file control key header (body_name control key) (files (body_name control key)) ≡ None)
    × (times ≡ times_for control key (body_search_times control header (unwrap_or (files (body_name control key)) []))))
    → IfSome now (λ files. MakesOne (row_fault files control) (row_times files control) key times)
unfolding row_fault row_times
row_made told None control keys headers k key header times same read here there row = tt
row_made None (Some files) control keys headers k key header times same read here there row = absurd cc
row_made (Some first) (Some files) control keys headers k key header times same read here there row =
    let e : files ≡ first = same_Some files first same in
    let known : headers ≡ map (header_in files control) keys = rw (← e) at read in
    let is = row_header-is files control keys headers k key header known here there in
    rw (← is) row

-- a row that was refused
pub row_refused : (told now : Option Files) (control : ControlValues) (keys : List GridKey) (headers : List (Option Header)) (k : ℕ) (key : GridKey)
    (header : Header) (fault : AssembleFault) → now ≡ told → IfSome told (λ files. headers ≡ map (header_in files control) keys)
    → slice_get keys k ≡ Some key → slice_get headers k ≡ Some (Some header) → IfSome now (λ files. ReadsRow files control key header (Err fault))
    → IfSome now (λ files. IsRefusal (row_fault files control key) fault)
unfolding row_fault
row_refused told None control keys headers k key header fault same read here there row = tt
row_refused None (Some files) control keys headers k key header fault same read here there row = absurd cc
row_refused (Some first) (Some files) control keys headers k key header fault same read here there row =
    let e : files ≡ first = same_Some files first same in
    let known : headers ≡ map (header_in files control) keys = rw (← e) at read in
    let is = row_header-is files control keys headers k key header known here there in
    rw (← is) row

-- all rows were read
pub rows_all : (told : Option Files) (control : ControlValues) (i : ℕ) (keys : List GridKey) (field : FieldTimes) → length keys ≤ i
    → field.grid ≡ control.frame.grid → field.roots ≡ roots_for control
    → IfSome told (λ files. AreMade (row_fault files control) (row_times files control) i keys field.rows)
    → IfSome told (λ files. ReadsRows files control keys (Ok field))
rows_all None control i keys field all grid roots made = tt
rows_all (Some files) control i keys field all grid roots made =
    let done = AreMade-all (Some files) (λ (f : Files). row_fault f control) (λ (f : Files). row_times f control) i keys field.rows all made in
    (done.0, λ j. record { grid = grid j; roots = roots j; rows = done.1 j })
