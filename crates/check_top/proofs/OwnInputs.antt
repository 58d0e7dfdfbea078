-- The events of an input that was read have plain lines, and certificates that can be written.
use Rattle.std.proofs.Common.{◌≡◌, ℕ, ◌<◌, ◌≤◌, ◌^◌, ◌*◌, List, [], ◌∷◌, map, Option, Some, None, Result, Ok, Err, All, sym, ◌∙◌, ap, subst, arith}
use Rattle.std.specs.List.{AllByRecursion}
use Rattle.std.proofs.lemmas.List.{length-map}
use Rattle.std.proofs.lemmas.List.Elements.{All-head, All-map, All-tail, All-weaker}
use Rattle.std.proofs.Math.Nat.{mul-le-mul}
use Rattle.edt_outside.specs.Shelves.{Files}
use Rattle.node_boxes.specs.declared.node_box.NodeBox.{NodeBox}
use Rattle.node_boxes.specs.Grid.{GridSize, IsGrid, node_count}
use Rattle.node_boxes.specs.Roots.{AreRoots}
use Rattle.node_boxes.proofs.RootBoxes.{roots_of-are}
use Rattle.control_reader.specs.declared.control.Control.{Control}
use Rattle.control_reader.specs.ControlValues.{ControlValues, values_of}
use Rattle.control_reader.specs.Limits.{IsControl}
use Rattle.phase_reader.specs.declared.phases.Event.{Event}
use Rattle.phase_reader.specs.declared.phases.Pick.{Pick}
use Rattle.phase_reader.specs.Limits.{IsEvent}
use Rattle.phase_reader.specs.PhaseFile.{picks_of_events}
use Rattle.cover_certificate.specs.Blocks.{IsValidBlock}
use Rattle.cover_certificate.specs.BlockLines.{IsTypedBlock}
use Rattle.edt_score.specs.BoxBound.{box_bound}
use Rattle.edt_score.specs.Field.{FieldTimes, time_at}
use Rattle.edt_score.proofs.ScoreBounds.{bound_by-limit}
use Rattle.minmax_pyramid.specs.Spans.{span_over}
use Rattle.node_boxes.specs.BoxNodes.{box_nodes}
use Rattle.station_table.specs.declared.keys.GridKey.{GridKey}
use Rattle.station_table.specs.declared.keys.Place.{Place}
use Rattle.station_table.specs.declared.picks.Skip.{Skip}
use Rattle.station_table.specs.declared.picks.UsedPick.{UsedPick}
use Rattle.station_table.specs.Keys.{wanted_keys}
use Rattle.event_assembly.specs.declared.assembly.Case.{Case}
use Rattle.event_assembly.specs.declared.assembly.Case.TheVariants.{Ready as ready_case, Few as few_case, Many as many_case}
use Rattle.event_assembly.specs.declared.assembly.Prepared.{Prepared}
use Rattle.event_assembly.specs.declared.faults.AssembleFault.{AssembleFault}
use Rattle.event_assembly.specs.Assembled.{IsCaseOf, IsPrepared}
use Rattle.event_assembly.specs.Assembling.{assemble_fault, rows_of}
use Rattle.event_assembly.specs.AssemblyValues.{AssemblyValues, EventValues, assembly_of, case_value, event_of, event_value, events_of, unless_fault, values_by}
use Rattle.event_assembly.specs.Headers.{places_of}
use Rattle.location_report.specs.Blocks.{certificate_value}
use Rattle.location_report.specs.Texts.{outcome_of_case}
use Rattle.run_input.specs.declared.input.RunInput.{RunInput}
use Rattle.run_input.specs.declared.refusals.Refusal.{Refusal}
use Rattle.run_input.specs.FilesUnder.{control_under, events_under, passed_under}
use Rattle.run_input.specs.FirstRefusals.{control_refusal, phases_refusal}
use Rattle.run_input.specs.Inputs.{InputValues, IsInput, input_of, input_value, refused_first, with_assembly}
use Rattle.check_top.specs.OwnReports.{IsPlainInput, IsPlainOwn}
use Rattle.check_top.proofs.OwnCertificates.{outcome_writable}
use Rattle.check_top.proofs.OwnNames.{IsNamed, event_named}

-- so are the events of a phase file
events_named : (files : Files) (control : Control) (events : List Event) → IsControl control → All IsEvent events
    → All IsNamed (events_of files (values_of control) (picks_of_events events))
unfolding events_of
events_named files control events limits all =
    let values : ControlValues = values_of control in
    let keys : List GridKey = wanted_keys values (picks_of_events events) in
    let places : List Place = places_of files values keys in
    let rows : List ℕ = rows_of files values (picks_of_events events) in
    All-map IsNamed (event_of values keys places rows) (picks_of_events events)
    (All-map (λ picks. IsNamed (event_of values keys places rows picks)) (λ (event : Event). event.picks.items) events
    (All-weaker IsEvent (λ (event : Event). IsNamed (event_of values keys places rows event.picks.items))
    (λ event is. event_named control limits keys places rows event.picks.items is.picks is.few) events all))

-- an input that isn't refused has its assembly
after_first : {V : Type 0} (first : Option Refusal) (next : Result V Refusal) (value : V) → refused_first first next ≡ Ok value → next ≡ Ok value
after_first None next value is = is
after_first (Some refusal) next value is = absurd (cc is)

with_assembly_is : (control : ControlValues) (passed : ℕ) (events : List (List Pick)) (made : Result AssemblyValues AssembleFault) (input : InputValues)
    → with_assembly control passed events made ≡ Ok input → (control ≡ input.control) × (events ≡ input.events) × (made ≡ Ok input.assembly)
with_assembly_is control passed events (Err fault) input is = absurd (cc is)
with_assembly_is control passed events (Ok assembly) input is =
    let whole : InputValues = record { control = control; phases_passed = passed; events = events; assembly = assembly } in
    let same : whole ≡ input = cc is in
    (ap (λ (i : InputValues). i.control) same, ap (λ (i : InputValues). i.events) same, ap (λ (i : InputValues). Ok i.assembly) same)

unless_is : (fault : Option AssembleFault) (values assembly : AssemblyValues) → unless_fault fault values ≡ Ok assembly → values ≡ assembly
unless_is None values assembly is = cc is
unless_is (Some fault) values assembly is = absurd (cc is)

values_told : (files : Files) (control : ControlValues) (events : List (List Pick)) (assembly : AssemblyValues) → assembly_of files control events ≡ Ok assembly
    → values_by files control events ≡ assembly
unfolding assembly_of
values_told files control events assembly is = unless_is (assemble_fault files control events) (values_by files control events) assembly is

-- the events of an input are what the files make of its picks
pub events_told : (files : Files) (name : List ℕ) (input : InputValues) → input_of files name ≡ Ok input
    → input.assembly.events ≡ events_of files input.control input.events
unfolding input_of
events_told files name input is =
    let control : ControlValues = control_under files name in
    let events : List (List Pick) = events_under files control.obs_file in
    let made = with_assembly control (passed_under files control.obs_file) events (assembly_of files control events) in
    let second = after_first (control_refusal files name) (refused_first (phases_refusal files control.obs_file) made) input is in
    let last = after_first (phases_refusal files control.obs_file) made input second in
    let parts = with_assembly_is control (passed_under files control.obs_file) events (assembly_of files control events) input last in
    let values = values_told files control events input.assembly parts.2 in
    sym (ap (λ (a : AssemblyValues). a.events) values)
    ∙ ap (λ (c : ControlValues). events_of files c events) parts.0
    ∙ ap (λ (es : List (List Pick)). events_of files input.control es) parts.1

-- a grid has a node
some_node : (g : GridSize) → IsGrid g → 1 ≤ node_count g
some_node g is =
    let plane : 1 * 1 ≤ g.x * g.y = mul-le-mul is.x_from is.y_from in
    let row : 1 ≤ g.x * g.y = omega (arith, plane) in
    let all : 1 * 1 ≤ g.x * g.y * g.z = mul-le-mul row is.z_from in
    omega (arith, all)

-- the certificate of an event can be written
record IsCertified (control : ControlValues) (field : FieldTimes) (event : EventValues) : Type 0 where
  valid : IsValidBlock (certificate_value event.case (outcome_of_case control field event.case))
  typed : IsTypedBlock (certificate_value event.case (outcome_of_case control field event.case))

module _ (control : ControlValues) (field : FieldTimes) (grid : IsGrid field.grid) (are : AreRoots field.grid field.roots) where
  case_certified : (used : List UsedPick) (skipped : List Skip) (case : Case) → IsCaseOf control field used case
      → IsCertified control field (record { used = used; skipped = skipped; case = case_value case })
  case_certified used skipped (ready_case problem) is =
      let small : (a : NodeBox) → box_bound control.shape field problem.picks.items a < 9 * 10 ^ 18 =
      λ a. bound_by-limit control.shape (λ row. span_over (time_at field row) (box_nodes field.grid a)) field problem is.valid in
      let written =
      outcome_writable field.grid grid (box_bound control.shape field problem.picks.items) small field.roots are control.margin control.budget
      (some_node field.grid grid) in
      record { valid = written.valid; typed = written.typed }
  case_certified used skipped few_case is = record { valid = tt; typed = tt }
  case_certified used skipped many_case is = record { valid = tt; typed = tt }

  events_certified : (events : List Prepared) → All (IsPrepared control field) events → All (IsCertified control field) (map event_value events)
  events_certified events all =
      All-map (IsCertified control field) event_value events
      (All-weaker (IsPrepared control field) (λ (event : Prepared). IsCertified control field (event_value event))
      (λ event is. case_certified event.picks.used.items event.picks.skipped.items event.case is.case) events all)

-- events that are named and certified are plain
all_plain : (input : InputValues) (events : List EventValues) → All IsNamed events → All (IsCertified input.control input.assembly.field) events
    → AllByRecursion (IsPlainOwn input) events
all_plain input [] named certified = tt
all_plain input (event ∷ events) named certified =
    let names = All-head IsNamed event events named in
    let fine = All-head (IsCertified input.control input.assembly.field) event events certified in (
      record {
        plain = record { used = names.used; skipped = names.skipped; valid = fine.valid; typed = fine.typed };
        used = names.few_used;
        skipped = names.few_skipped;
      },
      all_plain input events (All-tail IsNamed event events named) (All-tail (IsCertified input.control input.assembly.field) event events certified),
    )

-- the grid of an input that was read, and the roots over it
pub input_grid : (input : RunInput) → IsInput input → IsGrid input.assembly.field.grid
input_grid input is = subst IsGrid (sym is.assembled.grid) is.control.grid

pub input_roots : (input : RunInput) → IsInput input → AreRoots input.assembly.field.grid input.assembly.field.roots
input_roots input is =
    let field = input.assembly.field in
    let grid : GridSize = input.control.frame.grid in
    let cells = input.control.cells in
    rw (is.assembled.grid, is.assembled.roots) (roots_of-are grid cells.0 cells.1 cells.2 is.control.grid)

-- an input that was read is plain
pub input_plain : (files : Files) (name : List ℕ) (input : RunInput) → IsInput input → input_of files name ≡ Ok (input_value input)
    → input.control.passed < 2 ^ 32 → input.phases.passed < 2 ^ 32 → IsPlainInput (input_value input)
input_plain files name input is told control_passed phases_passed =
    let events = input.assembly.events.items in
    let count = is.assembled.count in
    let few = is.few in
    let items = length-map events event_value in
    let named : All IsNamed (map event_value events) =
    subst (All IsNamed) (sym (events_told files name (input_value input) told)) (events_named files input.control input.phases.events.items is.control is.events) in
    let certified = events_certified (values_of input.control) input.assembly.field (input_grid input is) (input_roots input is) events is.assembled.events in
    record {
      few = omega (arith, items, count, few);
      control_passed = control_passed;
      phases_passed = phases_passed;
      events = all_plain (input_value input) (map event_value events) named certified;
    }
