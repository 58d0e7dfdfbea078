-- The answer of `assemble`, by the answers of its parts.
use Rattle.std.proofs.Common.{◌≡◌, ℕ, ◌*◌, Bool, true, false, List, [], ◌∷◌, ◌++◌, length, map, Option, Some, None, IfSome, Ok, Err, refl, sym, ap, subst, ◌∙◌}
use Rattle.std.specs.Prelude.{nat_lt}
use Rattle.std.specs.Option.{option_map}
use Rattle.edt_outside.specs.Shelves.{Files}
use Rattle.edt_score.specs.Field.{FieldTimes}
use Rattle.grid_header.specs.declared.header.Header.{Header}
use Rattle.grid_header.specs.Reading.{header_of}
use Rattle.node_boxes.specs.Grid.{node_count}
use Rattle.control_reader.specs.ControlValues.{ControlValues}
use Rattle.phase_reader.specs.declared.phases.Pick.{Pick}
use Rattle.station_table.specs.declared.keys.GridKey.{GridKey}
use Rattle.station_table.specs.declared.keys.Place.{Place}
use Rattle.station_table.specs.Keys.{wanted_keys}
use Rattle.event_assembly.specs.declared.assembly.Assembly.{Assembly}
use Rattle.event_assembly.specs.declared.faults.AssembleFault.{AssembleFault}
use Rattle.event_assembly.specs.declared.faults.AssembleFault.TheVariants.{Cells}
use Rattle.event_assembly.specs.Answers.{IsTold}
use Rattle.text_terms.specs.Faults.{first_cause}
use Rattle.event_assembly.specs.Assembling.{keys_at, rows_of, assemble_fault, roots_for}
use Rattle.event_assembly.specs.AssemblyValues.{event_value, event_of, events_of, values_by, unless_fault, assembly_of, assembly_value}
use Rattle.event_assembly.specs.Headers.{header_fault, place_of_file, places_of}
use Rattle.event_assembly.specs.Names.{header_name}
use Rattle.event_assembly.specs.Inside.Planning.{place_of_header, places_of_headers}
use Rattle.event_assembly.specs.Inside.Reads.{IsRefusal, header_in}
use Rattle.event_assembly.specs.Rows.{cells_fault, row_keys, row_fault, row_times}
use Rattle.text_terms.proofs.CauseLaws.{first_of_second, first_of_first}
use Rattle.event_assembly.proofs.FaultLaws.{refusal_by, told_weaker}

-- the place of a header is that of its file
place_is : (file : Option (List ℕ)) → place_of_header (option_map header_of file) ≡ place_of_file file
place_is None = refl
place_is (Some bytes) = refl

-- so are all places
places_are : (files : Files) (control : ControlValues) (keys : List GridKey) → places_of_headers (map (header_in files control) keys) ≡ places_of files control keys
unfolding places_of header_in
places_are files control [] = refl
places_are files control (key ∷ keys) = rw (place_is (files (header_name control key)), places_are files control keys) refl

-- a refusal by the first fault is what the files make of the events
pub told_refusal : (files : Files) (control : ControlValues) (events : List (List Pick)) (fault : AssembleFault)
    → IsRefusal (assemble_fault files control events) fault → IsTold (assembly_of files control events) (Err fault)
unfolding assembly_of
told_refusal files control events fault refused =
    told_weaker (λ f. assemble_fault files control events ≡ Some f) (λ f. assembly_of files control events ≡ Err f)
    (λ f some. ap (λ first. unless_fault first (values_by files control events)) some) fault refused

-- a refused header refuses the events
pub refused_headers : (told : Option Files) (control : ControlValues) (events : List (List Pick)) (keys : List GridKey) (fault : AssembleFault)
    → keys ≡ wanted_keys control events → IfSome told (λ files. IsRefusal (first_cause (map (header_fault files control) keys)) fault)
    → IfSome told (λ files. IsRefusal (assemble_fault files control events) fault)
unfolding assemble_fault
refused_headers None control events keys fault wanted refused = tt
refused_headers (Some files) control events keys fault wanted refused =
    let first : List GridKey → List (Option AssembleFault) = λ ks. map (header_fault files control) ks in
    let rest : List (Option AssembleFault) =
    cells_fault control (length (rows_of files control events)) ∷ map (row_fault files control) (keys_at (wanted_keys control events) (rows_of files control events)) in
    refusal_by (first_cause (first (wanted_keys control events))) (first_cause (first (wanted_keys control events) ++ rest)) fault
    (λ f some. first_of_first (first (wanted_keys control events)) rest f some)
    (subst (λ (ks : List GridKey). IsRefusal (first_cause (first ks)) fault) wanted refused)

-- what is known once the headers were read and the rows are settled
pub record IsSettled (files : Files) (control : ControlValues) (events : List (List Pick)) (keys : List GridKey) (rows : List ℕ) : Type 0 where
  pub rows_are : rows_of files control events ≡ rows
  pub fault_is : assemble_fault files control events ≡ first_cause (cells_fault control (length rows) ∷ map (row_fault files control) (keys_at keys rows))

pub settled : (told : Option Files) (control : ControlValues) (events : List (List Pick)) (keys : List GridKey) (headers : List (Option Header)) (rows : List ℕ)
    → keys ≡ wanted_keys control events
    → IfSome told (λ files. (first_cause (map (header_fault files control) keys) ≡ None) × (headers ≡ map (header_in files control) keys))
    → rows ≡ row_keys control keys (places_of_headers headers) events → IfSome told (λ files. IsSettled files control events keys rows)
unfolding assemble_fault rows_of
settled None control events keys headers rows wanted read numbered = tt
settled (Some files) control events keys headers rows wanted (none, found) numbered =
    let first : List GridKey → List (Option AssembleFault) = λ ks. map (header_fault files control) ks in
    let rest : List GridKey → List ℕ → List (Option AssembleFault) = λ ks rs. cells_fault control (length rs) ∷ map (row_fault files control) (keys_at ks rs) in
    let places : places_of_headers headers ≡ places_of files control keys = ap places_of_headers found ∙ places_are files control keys in
    let rows_are : rows ≡ rows_of files control events =
    numbered ∙ ap (λ (ps : List Place). row_keys control keys ps events) places
    ∙ ap (λ (ks : List GridKey). row_keys control ks (places_of files control ks) events) wanted in
    record {
      rows_are = sym rows_are;
      fault_is = ap (λ (ks : List GridKey). first_cause (first ks ++ rest ks (rows_of files control events))) (sym wanted)
          ∙ ap (λ (rs : List ℕ). first_cause (first keys ++ rest keys rs)) (sym rows_are)
          ∙ first_of_second (first keys) (rest keys rows) none;
    }

-- too many times refuse the events
pub refused_cells : (told : Option Files) (control : ControlValues) (events : List (List Pick)) (keys : List GridKey) (rows : List ℕ) (past : Bool)
    → IfSome told (λ files. IsSettled files control events keys rows) → past ≡ nat_lt 20000000 (length rows * node_count control.frame.grid) → past ≡ true
    → IfSome told (λ files. IsTold (assembly_of files control events) (Err Cells))
refused_cells None control events keys rows past known test is = tt
refused_cells (Some files) control events keys rows past known test is =
    let over : nat_lt 20000000 (length rows * node_count control.frame.grid) ≡ true = sym test ∙ is in
    told_refusal files control events Cells (known.fault_is ∙ rw over refl)

-- the fault of the events is that of their rows
rows_fault : (files : Files) (control : ControlValues) (events : List (List Pick)) (keys : List GridKey) (rows : List ℕ) (past : Bool)
    → IsSettled files control events keys rows → past ≡ nat_lt 20000000 (length rows * node_count control.frame.grid) → past ≡ false
    → assemble_fault files control events ≡ first_cause (map (row_fault files control) (keys_at keys rows))
rows_fault files control events keys rows past known test is =
    let within : nat_lt 20000000 (length rows * node_count control.frame.grid) ≡ false = sym test ∙ is in
    known.fault_is ∙ rw within refl

-- a refused row refuses the events
pub refused_rows : (told now : Option Files) (control : ControlValues) (events : List (List Pick)) (keys : List GridKey) (rows : List ℕ) (past : Bool)
    (fault : AssembleFault) → now ≡ told → IfSome told (λ files. IsSettled files control events keys rows)
    → past ≡ nat_lt 20000000 (length rows * node_count control.frame.grid) → past ≡ false
    → IfSome now (λ files. IsRefusal (first_cause (map (row_fault files control) (keys_at keys rows))) fault)
    → IfSome told (λ files. IsRefusal (assemble_fault files control events) fault)
refused_rows None now control events keys rows past fault same known test is refused = tt
refused_rows (Some files) now control events keys rows past fault same known test is refused =
    let here : IsRefusal (first_cause (map (row_fault files control) (keys_at keys rows))) fault = rw same at refused in
    rw (rows_fault files control events keys rows past known test is) here

-- the events that are made by the headers are those by the files
made_events : (files : Files) (control : ControlValues) (events : List (List Pick)) (keys : List GridKey) (places : List Place) (rows : List ℕ)
    → keys ≡ wanted_keys control events → places ≡ places_of files control keys → rows_of files control events ≡ rows
    → map (event_of control keys places rows) events ≡ events_of files control events
unfolding events_of
made_events files control events keys places rows wanted at numbered =
    ap (λ (ps : List Place). map (event_of control keys ps rows) events) at
    ∙ ap (λ (rs : List ℕ). map (event_of control keys (places_of files control keys) rs) events) (sym numbered)
    ∙ ap (λ (ks : List GridKey). map (event_of control ks (places_of files control ks) (rows_of files control events)) events) wanted

-- the events are assembled
pub assembled : (told now : Option Files) (control : ControlValues) (events : List (List Pick)) (keys : List GridKey) (headers : List (Option Header)) (rows : List ℕ)
    (past : Bool) (assembly : Assembly) → now ≡ told → keys ≡ wanted_keys control events
    → IfSome told (λ files. (first_cause (map (header_fault files control) keys) ≡ None) × (headers ≡ map (header_in files control) keys))
    → IfSome told (λ files. IsSettled files control events keys rows)
    → past ≡ nat_lt 20000000 (length rows * node_count control.frame.grid) → past ≡ false
    → IfSome now (λ files. (first_cause (map (row_fault files control) (keys_at keys rows)) ≡ None)
    × (assembly.field ≡ record { grid = control.frame.grid; roots = roots_for control; rows = map (row_times files control) (keys_at keys rows) }))
    → assembly.frame ≡ control.frame → map event_value assembly.events.items ≡ map (event_of control keys (places_of_headers headers) rows) events
    → IfSome told (λ files. IsTold (assembly_of files control events) (Ok assembly))
unfolding assembly_of
assembled None now control events keys headers rows past assembly same wanted read known test is made frame ready = tt
assembled (Some files) now control events keys headers rows past assembly same wanted read known test is made frame ready =
    let here : (first_cause (map (row_fault files control) (keys_at keys rows)) ≡ None)
    × (assembly.field ≡ record { grid = control.frame.grid; roots = roots_for control; rows = map (row_times files control) (keys_at keys rows) }) = rw same at made in
    let times : List GridKey → List ℕ → FieldTimes = λ ks rs. record { grid = control.frame.grid; roots = roots_for control; rows = map (row_times files control) (keys_at ks rs) } in
    let places : places_of_headers headers ≡ places_of files control keys = ap places_of_headers read.1 ∙ places_are files control keys in
    let none : assemble_fault files control events ≡ None = rows_fault files control events keys rows past known test is ∙ here.0 in
    let field = here.1 ∙ ap (times keys) (sym known.rows_are) ∙ ap (λ (ks : List GridKey). times ks (rows_of files control events)) wanted in
    let prepared = ready ∙ made_events files control events keys (places_of_headers headers) rows wanted places known.rows_are in
    let values : assembly_value assembly ≡ values_by files control events = λ j. record { frame = frame j; field = field j; events = prepared j } in
    ap (λ first. unless_fault first (values_by files control events)) none ∙ ap (λ v. Ok v) (sym values)
