-- The names of the files of a time grid, as they are written.
use Rattle.std.proofs.Common.{◌≡◌, ℕ, ◌+◌, ◌≤◌, true, List, ◌∷◌, ◌++◌, length, IfOk, Result, Ok, Err, refl, ◌∙◌, append_assoc, length-append, arith}
use Rattle.std.specs.Prelude.{codes, ◌&&◌, nat_le, IsTrue}
use Rattle.std.specs.List.{list_all}
use Rattle.std.proofs.lemmas.Bool.{and_parts, leb-true, le-leb}
use Rattle.std.proofs.lemmas.List.Folds.{list_all-append}
use Rattle.text_terms.specs.Names.{is_name, is_name_byte}
use Rattle.control_reader.specs.ControlValues.{ControlValues}
use Rattle.station_table.specs.declared.keys.GridKey.{GridKey}
use Rattle.event_assembly.specs.Names.{header_name, body_name}

-- root, phase and station with dots between, and what follows them
parts_joined : (root phase station suffix : List ℕ)
    → root ++ 46 ∷ (phase ++ 46 ∷ (station ++ suffix)) ≡ root ++ codes "." ++ phase ++ codes "." ++ station ++ suffix
parts_joined root phase station suffix = simp append_assoc

-- the name of the header
pub header_name-joined : (control : ControlValues) (key : GridKey)
    → control.time_root ++ 46 ∷ (key.grid_phase ++ 46 ∷ (key.station ++ codes ".time.hdr")) ≡ header_name control key
unfolding header_name
header_name-joined control key = parts_joined control.time_root key.grid_phase key.station (codes ".time.hdr")

-- the name of the body
pub body_name-joined : (control : ControlValues) (key : GridKey)
    → control.time_root ++ 46 ∷ (key.grid_phase ++ 46 ∷ (key.station ++ codes ".time.usec")) ≡ body_name control key
unfolding body_name
body_name-joined control key = parts_joined control.time_root key.grid_phase key.station (codes ".time.usec")

-- the parts of what a name is
record IsText (most : ℕ) (text : List ℕ) : Type 0 where
  pub some : 1 ≤ length text
  pub few : length text ≤ most
  pub bytes : list_all is_name_byte text ≡ true

text_of : (most : ℕ) (text : List ℕ) → IsTrue (is_name most text) → IsText most text
text_of most text name =
    let last = and_parts (nat_le 1 (length text) && nat_le (length text) most) (list_all is_name_byte text) name in
    let first = and_parts (nat_le 1 (length text)) (nat_le (length text) most) last.0 in
    record { some = leb-true 1 (length text) first.0; few = leb-true (length text) most first.1; bytes = last.1 }

-- two texts are one
both : (most more : ℕ) (front back : List ℕ) → IsText most front → list_all is_name_byte back ≡ true → length back ≤ more → IsText (most + more) (front ++ back)
both most more front back first bytes few =
    let long = length-append front back in
    let some = first.some in
    let short = first.few in
    record { some = omega arith; few = omega arith; bytes = list_all-append is_name_byte front back ∙ rw (first.bytes, bytes) refl }

-- root, phase and station are a name of at most 512 bytes with what follows them
pub file_name : (root phase station suffix text : List ℕ) → text ≡ root ++ 46 ∷ (phase ++ 46 ∷ (station ++ suffix)) → IsTrue (is_name 255 root)
    → IsTrue (is_name 64 phase) → IsTrue (is_name 64 station) → length suffix ≤ 20 → list_all is_name_byte suffix ≡ true → IsTrue (is_name 512 text)
file_name root phase station suffix text is root_name phase_name station_name few bytes =
    let r = text_of 255 root root_name in
    let p = text_of 64 phase phase_name in
    let s = text_of 64 station station_name in
    let one = both 255 1 root (codes ".") r refl (omega arith) in
    let two = both 256 64 (root ++ codes ".") phase one p.bytes p.few in
    let three = both 320 1 (root ++ codes "." ++ phase) (codes ".") two refl (omega arith) in
    let four = both 321 64 (root ++ codes "." ++ phase ++ codes ".") station three s.bytes s.few in
    let whole = both 385 20 (root ++ codes "." ++ phase ++ codes "." ++ station) suffix four bytes few in
    let some = whole.some in
    let short = whole.few in
    let joined : text ≡ root ++ codes "." ++ phase ++ codes "." ++ station ++ suffix = is ∙ parts_joined root phase station suffix in
    rw (
      joined,
      le-leb 1 (length (root ++ codes "." ++ phase ++ codes "." ++ station ++ suffix)) (omega arith),
      le-leb (length (root ++ codes "." ++ phase ++ codes "." ++ station ++ suffix)) 512 (omega arith),
      whole.bytes,
    ) refl

-- a name that is answered is that of a text that was written so
pub named : {N E : Type 0} (r : Result N E) (P Q : N → Type 0) → IfOk r P → ((name : N) → P name → Q name) → IfOk r Q
named (Ok name) P Q h f = f name h
named (Err e) P Q h f = tt
