-- What the streams of bodies say of the rows of keys.
use Rattle.std.proofs.Common.{◌≡◌, ℕ, ◌≤◌, false, List, [], length, get_or, Option, Some, None, IfSome, Result, Ok, Err, inl, inr, refl, ap, subst, ◌∙◌}
use Rattle.std.specs.Prelude.{⊤, All, IsErrOf, unwrap_or, position}
use Rattle.std.specs.Option.{option_map}
use Rattle.std.proofs.lemmas.Bool.{cases_Bool, le-ltb, ltb-false}
use Rattle.std.proofs.lemmas.List.{get_or_default, length-map}
use Rattle.node_boxes.specs.declared.limits.TheConstants.{GREATEST_TIME}
use Rattle.edt_outside.specs.Shelves.{Files}
use Rattle.grid_header.specs.declared.header.Header.{Header}
use Rattle.node_boxes.specs.Grid.{node_count}
use Rattle.text_terms.proofs.RunLaws.{position-None}
use Rattle.time_grid.specs.declared.faults.Axis.{Axis}
use Rattle.time_grid.specs.declared.faults.GridFault.TheVariants.{TimeLimit as body_limit}
use Rattle.time_grid.specs.declared.faults.StreamFault.{StreamFault}
use Rattle.time_grid.specs.declared.faults.StreamFault.TheVariants.{Absent, Failed, Short, Long, TimeLimit, NotAligned, Memory}
use Rattle.time_grid.specs.declared.numbers.ByteOrder.{ByteOrder}
use Rattle.time_grid.specs.Alignment.{time_grid_size, first_unaligned_axis, search_times}
use Rattle.time_grid.specs.Bodies.{body_fault}
use Rattle.time_grid.specs.Numbers.{body_times, is_over}
use Rattle.time_grid.specs.StreamFaults.{StreamsBody}
use Rattle.control_reader.specs.ControlValues.{ControlValues}
use Rattle.station_table.specs.declared.keys.GridKey.{GridKey}
use Rattle.event_assembly.specs.declared.faults.AssembleFault.{AssembleFault}
use Rattle.event_assembly.specs.declared.faults.AssembleFault.TheVariants.{Body}
use Rattle.event_assembly.specs.Inside.Reads.{IsRefusal}
use Rattle.event_assembly.specs.Names.{body_name}
use Rattle.event_assembly.specs.Inside.Reads.{body_refusal, ReadsTimes}
use Rattle.event_assembly.specs.Rows.{byte_order, body_search_times, converted_time, times_for, fault_of_body, fault_of_row_file}
use Rattle.event_assembly.proofs.PlaceLaws.{position_nowhere}

-- how many nodes the time grid of a header has
abbrev nodes : Header → ℕ
nodes header = node_count (time_grid_size header)

-- what a stream answers for a body
abbrev Streams : ByteOrder → ControlValues → Header → List ℕ → Option (List ℕ) → Result ⊤ StreamFault → Type 0
Streams order control header times file answer =
    StreamsBody order (nodes header) (λ bytes. times ≡ search_times header control.frame (body_times order bytes (nodes header))) file answer

-- the same in the order of the bytes that the control gives, of a file by its name
in_order : (order : ByteOrder) (control : ControlValues) (header : Header) (times : List ℕ) (files : Files) (text name : List ℕ) (answer : Result ⊤ StreamFault)
    → order ≡ byte_order control → text ≡ name → Streams order control header times (files text) answer
    → Streams (byte_order control) control header times (files name) answer
in_order order control header times files text name answer ordered same streams =
    let here : Streams order control header times (files name) answer = subst (λ (t : List ℕ). Streams order control header times (files t) answer) same streams in
    subst (λ (o : ByteOrder). Streams o control header times (files name) answer) ordered here

-- a refused body is refused for its first fault
refused_by : (control : ControlValues) (key : GridKey) (header : Header) (name times : List ℕ) (file : Option (List ℕ)) (fault : StreamFault)
    → Streams (byte_order control) control header times file (Err fault)
    → ((axis : Axis) → IsErrOf {T = ⊤} (Err fault) (NotAligned axis) → first_unaligned_axis header control.frame ≡ Some axis)
    → IsRefusal (fault_of_row_file control key header name file) (body_refusal name fault)
unfolding fault_of_body
refused_by control key header name times None Absent streams unaligned = refl
refused_by control key header name times (Some bytes) Absent streams unaligned = absurd cc
refused_by control key header name times file Failed streams unaligned = tt
refused_by control key header name times None Short streams unaligned = absurd streams
refused_by control key header name times (Some bytes) Short streams unaligned = rw streams refl
refused_by control key header name times None Long streams unaligned = absurd streams
refused_by control key header name times (Some bytes) Long streams unaligned = rw streams refl
refused_by control key header name times None (TimeLimit node) streams unaligned = absurd streams
refused_by control key header name times (Some bytes) (TimeLimit node) streams unaligned = rw streams refl
refused_by control key header name times None (NotAligned axis) streams unaligned = absurd streams
refused_by control key header name times (Some bytes) (NotAligned axis) streams unaligned = rw (streams, unaligned axis refl) refl
refused_by control key header name times file Memory streams unaligned = tt

-- the answer for a body that is refused
pub times_refused : (told : Option Files) (order : ByteOrder) (control : ControlValues) (key : GridKey) (header : Header) (name text times now : List ℕ)
    (fault : StreamFault) (refusal : AssembleFault) → order ≡ byte_order control → name ≡ body_name control key → text ≡ name
    → IfSome told (λ files. Streams order control header times (files text) (Err fault))
    → ((axis : Axis) → IsErrOf {T = ⊤} (Err fault) (NotAligned axis) → first_unaligned_axis header control.frame ≡ Some axis) → refusal ≡ body_refusal name fault
    → IfSome told (λ files. ReadsTimes files control key header now (Err refusal))
times_refused None order control key header name text times now fault refusal ordered named same streams unaligned is = tt
times_refused (Some files) order control key header name text times now fault refusal ordered named same streams unaligned is =
    let here = in_order order control header times files text name (Err fault) ordered same streams in
    let refused : IsRefusal (fault_of_row_file control key header name (files name)) refusal =
    rw is (refused_by control key header name times (files name) fault here unaligned) in
    subst (λ (n : List ℕ). IsRefusal (fault_of_row_file control key header n (files n)) refusal) named refused

-- the fault of a body whose stream was read to its end
fault_behind : (control : ControlValues) (key : GridKey) (header : Header) (name times bytes : List ℕ)
    → body_fault (byte_order control) bytes (nodes header) ≡ None → times ≡ body_search_times control header bytes
    → first_unaligned_axis header control.frame ≡ None
    → fault_of_body control key header name bytes ≡ option_map (λ (k : ℕ). Body name (body_limit k)) (position is_over (times_for control key times))
unfolding fault_of_body
fault_behind control key header name times bytes good is aligned = rw (good, aligned, is) refl

-- times that were all read
read_by : (control : ControlValues) (key : GridKey) (header : Header) (name times now : List ℕ) (file : Option (List ℕ)) (answer : Option ℕ)
    → Streams (byte_order control) control header times file (Ok tt) → first_unaligned_axis header control.frame ≡ None
    → now ≡ times_for control key times → position is_over (times_for control key times) ≡ None
    → (fault_of_row_file control key header name file ≡ None) × (now ≡ times_for control key (body_search_times control header (unwrap_or file [])))
read_by control key header name times now None answer streams aligned is none = absurd streams
read_by control key header name times now (Some bytes) answer (good, made) aligned is none = (
  fault_behind control key header name times bytes good made aligned ∙ rw none refl,
  is ∙ ap (times_for control key) made,
)

-- a time that is past the limit when it is converted
over_by : (control : ControlValues) (key : GridKey) (header : Header) (name times : List ℕ) (file : Option (List ℕ)) (node : ℕ)
    → Streams (byte_order control) control header times file (Ok tt) → first_unaligned_axis header control.frame ≡ None
    → position is_over (times_for control key times) ≡ Some node
    → fault_of_row_file control key header name file ≡ Some (Body name (body_limit node))
over_by control key header name times None node streams aligned over = absurd streams
over_by control key header name times (Some bytes) node (good, made) aligned over =
    fault_behind control key header name times bytes good made aligned ∙ rw over refl

-- the answer for times that were all read
pub times_read : (told : Option Files) (order : ByteOrder) (control : ControlValues) (key : GridKey) (header : Header) (name text times now : List ℕ)
    → order ≡ byte_order control → name ≡ body_name control key → text ≡ name
    → IfSome told (λ files. Streams order control header times (files text) (Ok tt))
    → first_unaligned_axis header control.frame ≡ None → now ≡ times_for control key times → position is_over (times_for control key times) ≡ None
    → IfSome told (λ files. ReadsTimes files control key header now (Ok tt))
times_read None order control key header name text times now ordered named same streams aligned is none = tt
times_read (Some files) order control key header name text times now ordered named same streams aligned is none =
    let P : List ℕ → Type 0 = λ n.
    (fault_of_row_file control key header n (files n) ≡ None) × (now ≡ times_for control key (body_search_times control header (unwrap_or (files n) []))) in
    let here = in_order order control header times files text name (Ok tt) ordered same streams in
    subst P named (read_by control key header name times now (files name) None here aligned is none)

-- the answer for a time that is past the limit when it is converted
pub times_over : (told : Option Files) (order : ByteOrder) (control : ControlValues) (key : GridKey) (header : Header) (name text times now : List ℕ) (node : ℕ)
    → order ≡ byte_order control → name ≡ body_name control key → text ≡ name
    → IfSome told (λ files. Streams order control header times (files text) (Ok tt))
    → first_unaligned_axis header control.frame ≡ None → position is_over (times_for control key times) ≡ Some node
    → IfSome told (λ files. ReadsTimes files control key header now (Err (Body name (body_limit node))))
times_over None order control key header name text times now node ordered named same streams aligned over = tt
times_over (Some files) order control key header name text times now node ordered named same streams aligned over =
    let P : List ℕ → Type 0 = λ n. fault_of_row_file control key header n (files n) ≡ Some (Body name (body_limit node)) in
    let here = in_order order control header times files text name (Ok tt) ordered same streams in
    subst P named (over_by control key header name times (files name) node here aligned over)

-- times of which none is past the limit are within it
pub all_within : (times : List ℕ) → position is_over times ≡ None → All (λ time. time ≤ GREATEST_TIME) times
all_within times none k d below =
    let first : get_or times k d ≡ get_or times k 0 = get_or_default times k d 0 below in
    rw first (ltb-false GREATEST_TIME (get_or times k 0) (position-None is_over times none k below))

-- and the other way round
pub none_over : (times : List ℕ) → All (λ time. time ≤ GREATEST_TIME) times → position is_over times ≡ None
none_over times within = position_nowhere is_over times (λ k below. le-ltb GREATEST_TIME (get_or times k 0) (within k 0 below))

-- the times of a key are as many as were read
pub length-times_for : (control : ControlValues) (key : GridKey) (times : List ℕ) → length (times_for control key times) ≡ length times
unfolding times_for
length-times_for control key times = elim (cases_Bool key.converted) [
  | inl converted ↦ rw (converted, length-map times (converted_time control)) refl
  | inr plain ↦ rw plain refl
]

-- the times of a key whose times aren't converted are those that were read
pub times_for-plain : (control : ControlValues) (key : GridKey) (times : List ℕ) → key.converted ≡ false → times ≡ times_for control key times
unfolding times_for
times_for-plain control key times plain = rw plain refl
