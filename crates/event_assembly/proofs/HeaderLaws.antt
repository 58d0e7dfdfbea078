-- What the readings of headers say of the files of a shelf.
use Rattle.std.proofs.Common.{◌≡◌, ℕ, ◌<◌, get_or, Bool, true, false, List, length, Option, Some, None, IfSome, Ok, refl, sym, ap, subst, ◌∙◌}
use Rattle.std.specs.Prelude.{is_some, is_none}
use Rattle.std.specs.Global.{Vec}
use Rattle.std.specs.Option.{option_map}
use Rattle.std.proofs.lemmas.Bool.{le-ltb}
use Rattle.edt_outside.specs.Shelves.{Files}
use Rattle.edt_outside.specs.ReadFaults.{ReadsWhole}
use Rattle.edt_outside.specs.HasFaults.{Tells}
use Rattle.grid_header.specs.declared.header.Header.{Header}
use Rattle.grid_header.specs.Causes.{cause_of}
use Rattle.grid_header.specs.Reading.{IsReading, header_of}
use Rattle.control_reader.specs.ControlValues.{ControlValues}
use Rattle.station_table.specs.declared.keys.GridKey.{GridKey}
use Rattle.phase_reader.specs.declared.phases.Pick.{Pick}
use Rattle.station_table.specs.Keys.{wanted_keys}
use Rattle.event_assembly.specs.Assembling.{lacks_a_wanted_header}
use Rattle.event_assembly.specs.Headers.{fault_of_file, has_no_header, lacks_a_header}
use Rattle.event_assembly.specs.Names.{header_name}
use Rattle.event_assembly.specs.Inside.Reads.{ReadsPresent, ReadsHeader, header_in}
use Rattle.event_assembly.proofs.GridLaws.{none_passes}

-- the answer for a file that was read whole
pub present_read : (told : Option Files) (name text : List ℕ) (bytes : Vec ℕ) (header : Header) → text ≡ name
    → IfSome told (λ files. ReadsWhole (files text) 65536 (Ok bytes)) → IsReading bytes.items header → cause_of bytes.items ≡ None
    → IfSome told (λ files. IfSome (files name) (λ found. ReadsPresent name found (Ok header)))
present_read None name text bytes header same whole read good = tt
present_read (Some files) name text bytes header same (file, short) read good =
    let there : files name ≡ Some bytes.items = subst (λ (t : List ℕ). files t ≡ Some bytes.items) same file in
    rw (there, le-ltb 65536 (length bytes.items) short, good) (refl, read.is)

-- a header that is there and was read
read_there : (name : List ℕ) (file : Option (List ℕ)) (header : Header) → is_some file ≡ true → IfSome file (λ bytes. ReadsPresent name bytes (Ok header))
    → (fault_of_file name file ≡ None) × (Some header ≡ option_map header_of file)
read_there name None header there read = absurd cc
read_there name (Some bytes) header there (none, is) = (none, ap (λ (h : Header). Some h) is)

-- a header that isn't there
read_nowhere : (name : List ℕ) (file : Option (List ℕ)) → is_some file ≡ false
    → (fault_of_file name file ≡ None) × (let none : Option Header = None in none ≡ option_map header_of file)
read_nowhere name None lacks = (refl, refl)
read_nowhere name (Some bytes) lacks = absurd cc

-- a key whose header was found and read
pub key_read : (told mid : Option Files) (control : ControlValues) (key : GridKey) (name text : List ℕ) (found : Bool) (header : Header)
    → mid ≡ told → name ≡ header_name control key → text ≡ name → IfSome told (λ files. Tells (files text) (Ok found)) → found ≡ true
    → IfSome mid (λ files. IfSome (files name) (λ bytes. ReadsPresent name bytes (Ok header)))
    → IfSome told (λ files. ReadsHeader files control key (Ok (Some header)))
unfolding header_in
key_read None mid control key name text found header kept named same tells there read = tt
key_read (Some files) mid control key name text found header kept named same tells there read =
    let here : IfSome (files name) (λ bytes. ReadsPresent name bytes (Ok header)) = rw kept at read in
    let P : List ℕ → Type 0 = λ n. (fault_of_file n (files n) ≡ None) × (Some header ≡ option_map header_of (files n)) in
    let is : is_some (files name) ≡ true = subst (λ (t : List ℕ). is_some (files t) ≡ true) same (sym tells ∙ there) in
    subst P named (read_there name (files name) header is here)

-- a key whose header isn't there
pub key_lacking : (told : Option Files) (control : ControlValues) (key : GridKey) (name text : List ℕ) (found : Bool)
    → name ≡ header_name control key → text ≡ name → IfSome told (λ files. Tells (files text) (Ok found)) → found ≡ false
    → IfSome told (λ files. ReadsHeader files control key (Ok None))
unfolding header_in
key_lacking None control key name text found named same tells lacks = tt
key_lacking (Some files) control key name text found named same tells lacks =
    let P : List ℕ → Type 0 = λ n. (fault_of_file n (files n) ≡ None) × (let none : Option Header = None in none ≡ option_map header_of (files n)) in
    let is : is_some (files name) ≡ false = subst (λ (t : List ℕ). is_some (files t) ≡ false) same (sym tells ∙ lacks) in
    subst P named (read_nowhere name (files name) is)

-- a file is there or not
there_or_not : (file : Option (List ℕ)) → is_some file ≡ false → is_none file ≡ true
there_or_not None lacks = refl
there_or_not (Some bytes) lacks = absurd cc

-- a key with a header isn't told to lack it
pub key_lacks : (told : Option Files) (control : ControlValues) (key : GridKey) (name text : List ℕ) (found : Bool) (before after : ℕ)
    → name ≡ header_name control key → text ≡ name → IfSome told (λ files. Tells (files text) (Ok found)) → found ≡ false
    → IfSome told (λ files. has_no_header files control key ≡ false → after ≡ before)
key_lacks None control key name text found before after named same tells lacks = tt
key_lacks (Some files) control key name text found before after named same tells lacks =
    let is : is_some (files (header_name control key)) ≡ false =
    subst (λ (t : List ℕ). is_some (files t) ≡ false) (same ∙ named) (sym tells ∙ lacks) in
    λ there. absurd (let none = there_or_not (files (header_name control key)) is in cc)

-- the count stays over one more key, where no key lacks its header
pub lacks_none_more : (told now : Option Files) (control : ControlValues) (keys : List GridKey) (i : ℕ) (key : GridKey) (first mid last : ℕ)
    → now ≡ told → i < length keys → key ≡ get_or keys i key
    → IfSome told (λ files. lacks_a_header files control keys ≡ false → mid ≡ first)
    → IfSome now (λ files. has_no_header files control key ≡ false → last ≡ mid)
    → IfSome told (λ files. lacks_a_header files control keys ≡ false → last ≡ first)
lacks_none_more None now control keys i key first mid last same below is before step = tt
lacks_none_more (Some files) now control keys i key first mid last same below is before step =
    let next : has_no_header files control key ≡ false → last ≡ mid = rw same at step in
    λ all. next (subst (λ (k : GridKey). has_no_header files control k ≡ false) (sym is) (none_passes (has_no_header files control) keys i key all below)) ∙ before all

-- nor over a step that asks for no header
pub wanted_lacks : (told : Option Files) (control : ControlValues) (events : List (List Pick)) (keys : List GridKey) (first mid last : ℕ)
    → keys ≡ wanted_keys control events → IfSome told (λ files. lacks_a_header files control keys ≡ false → mid ≡ first) → last ≡ mid
    → IfSome told (λ files. lacks_a_wanted_header files control events ≡ false → last ≡ first)
unfolding lacks_a_wanted_header
wanted_lacks None control events keys first mid last is before step = tt
wanted_lacks (Some files) control events keys first mid last is before step =
    λ none. step ∙ before (subst (λ (ks : List GridKey). lacks_a_header files control ks ≡ false) (sym is) none)
