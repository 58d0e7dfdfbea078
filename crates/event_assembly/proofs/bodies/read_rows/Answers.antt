use Rattle.std.proofs.Common.{◌∙◌, ℕ, map, [], ◌∷◌, refl, ap, get_or, arith, length-append}
use Rattle.std.proofs.lemmas.Option.{slice_get-get_or}
use Rattle.edt_score.specs.Field.{FieldTimes}
use Rattle.control_reader.specs.ControlValues.{values_of}
use Rattle.station_table.specs.Limits.{IsKey}
use Rattle.event_assembly.specs.declared.faults.AssembleFault.TheVariants.{Memory}
use Rattle.text_terms.specs.Faults.{first_cause}
use Rattle.event_assembly.specs.Assembling.{keys_at}
use Rattle.event_assembly.specs.Rows.{row_fault, row_times}
use Rattle.event_assembly.specs.Inside.Reads.{IsConvertible, ReadsRows}
use Rattle.event_assembly.proofs.CountLaws.{ended_more, ended_now, ended_any}
use Rattle.event_assembly.proofs.ListLaws.{at_item, item_here}
use Rattle.event_assembly.proofs.ReadLaws.{AreMade-none, AreMade-more, AreMade-refused, memory_refuses, passed_on}
use Rattle.event_assembly.proofs.RowKeyLaws.{row_key, length-keys_at, row_made, row_refused, rows_all}
use Rattle.event_assembly.proofs.bodies.read_rows.Goals as goal

pub header_of_key-header-requires : goal.header_of_key-header-requires
header_of_key-header-requires g c = (c.requires.rows c.loop-row.row-index 0 c.loop-row-test.true).header

pub loop-row-init : goal.loop-row-init
loop-row-init g c =
    let start = ap (λ (f : FieldTimes). f.rows) c.in_ok-field.ensures in
    let control = values_of c.args.control.now in
    record {
      told = AreMade-none (g.S.Shelf.files c.args.shelf.now) (λ files. row_fault files control) (λ files. row_times files control)
          (keys_at c.args.keys.now c.args.rows.now) c.in_ok-field.field.rows start;
      grid = ap (λ (f : FieldTimes). f.grid) c.in_ok-field.ensures;
      roots = ap (λ (f : FieldTimes). f.roots) c.in_ok-field.ensures ∙ c.in_ok-roots.ensures.value;
      long = rw start refl;
      buffer = c.in_ok-buffer.ensures.len;
      ended = ended_now (g.S.Shelf.files c.args.shelf.now) (g.S.Shelf.left c.args.shelf.now);
      same_files = refl;
      faults = refl;
      misses = refl;
      lacks = refl;
      calls = omega arith;
    }

pub read_row-requires-clause-key : goal.read_row-requires-clause-key
read_row-requires-clause-key g c =
    let one = c.requires.rows c.loop-row.row-index 0 c.loop-row-test.true in
    at_item IsKey c.args.keys.now (get_or c.args.rows.now c.loop-row.row-index 0) c.index-keys-row.result one.within c.index-keys-row.is c.requires.keys

pub read_row-requires-clause-ratio : goal.read_row-requires-clause-ratio
read_row-requires-clause-ratio g c =
    let one = c.requires.rows c.loop-row.row-index 0 c.loop-row-test.true in
    at_item (IsConvertible (values_of c.args.control.now)) c.args.keys.now (get_or c.args.rows.now c.loop-row.row-index 0) c.index-keys-row.result
    one.within c.index-keys-row.is c.requires.ratios

pub read_row-requires-clause-room : goal.read_row-requires-clause-room
read_row-requires-clause-room g c = omega (arith, c.loop-row.invariant.buffer, c.deref_mut.ensures.len)

pub returns-in_err-times-clause-told : goal.returns-in_err-times-clause-told
returns-in_err-times-clause-told g c =
    let control = values_of c.args.control.now in
    let keys = c.args.keys.now in
    let rows = c.args.rows.now in
    let i = c.loop-row.row-index in
    let k : ℕ = get_or rows i 0 in
    let one = c.requires.rows i 0 c.loop-row-test.true in
    let here = item_here keys k c.index-keys-row.result one.within c.index-keys-row.is in
    passed_on (g.S.Shelf.files c.args.shelf.now) (λ files. first_cause (map (row_fault files control) (keys_at keys rows))) c.from_residual-in_err-times.result
    c.in_err-times.field-0.0 (λ files answer. ReadsRows files control (keys_at keys rows) answer) (λ files fault refused. refused)
    c.from_residual-in_err-times.ensures.1
    (AreMade-refused (g.S.Shelf.files c.args.shelf.now) (g.S.Shelf.files c.loop-row.shelf) (λ files. row_fault files control) (λ files. row_times files control)
    i (keys_at keys rows) c.index-keys-row.result c.loop-row.field.rows c.in_err-times.field-0.0 c.loop-row.invariant.same_files
    (row_key keys c.args.headers.now rows i k c.index-keys-row.result c.requires.rows (slice_get-get_or rows i 0 c.loop-row-test.true) here)
    c.loop-row.invariant.told
    (row_refused (g.S.Shelf.files c.args.shelf.now) (g.S.Shelf.files c.loop-row.shelf) control keys c.args.headers.now k c.index-keys-row.result
    c.header_of_key-header.result.now c.in_err-times.field-0.0 c.loop-row.invariant.same_files c.requires.headers here c.header_of_key-header.ensures.value
    c.in_err-times.ensures.told))

pub returns-in_err-push_row-clause-told : goal.returns-in_err-push_row-clause-told
returns-in_err-push_row-clause-told g c =
    let control = values_of c.args.control.now in
    let list = keys_at c.args.keys.now c.args.rows.now in
    passed_on (g.S.Shelf.files c.args.shelf.now) (λ files. first_cause (map (row_fault files control) list)) c.from_residual-in_err-push_row.result
    Memory (λ files answer. ReadsRows files control list answer) (λ files fault refused. refused)
    c.from_residual-in_err-push_row.ensures.1
    (memory_refuses (g.S.Shelf.files c.args.shelf.now) (λ files. first_cause (map (row_fault files control) list)))

pub loop-row-preserved : goal.loop-row-preserved
loop-row-preserved g c =
    let control = values_of c.args.control.now in
    let keys = c.args.keys.now in
    let rows = c.args.rows.now in
    let i = c.loop-row.row-index in
    let k : ℕ = get_or rows i 0 in
    let entry = c.requires.rows i 0 c.loop-row-test.true in
    let here = item_here keys k c.index-keys-row.result entry.within c.index-keys-row.is in
    let kept = c.loop-row.invariant in
    let one = c.in_ok-times.ensures in
    let pushed = ap (λ (f : FieldTimes). f.rows) c.in_ok-push_row.ensures.pushed in
    record {
      told = rw pushed (AreMade-more (g.S.Shelf.files c.args.shelf.now) (g.S.Shelf.files c.loop-row.shelf) (λ files. row_fault files control)
          (λ files. row_times files control) i (keys_at keys rows) c.index-keys-row.result c.loop-row.field.rows c.in_ok-times.times.items kept.same_files
          (row_key keys c.args.headers.now rows i k c.index-keys-row.result c.requires.rows (slice_get-get_or rows i 0 c.loop-row-test.true) here) kept.told
          (row_made (g.S.Shelf.files c.args.shelf.now) (g.S.Shelf.files c.loop-row.shelf) control keys c.args.headers.now k c.index-keys-row.result
          c.header_of_key-header.result.now c.in_ok-times.times.items kept.same_files c.requires.headers here c.header_of_key-header.ensures.value one.told));
      grid = ap (λ (f : FieldTimes). f.grid) c.in_ok-push_row.ensures.pushed ∙ kept.grid;
      roots = ap (λ (f : FieldTimes). f.roots) c.in_ok-push_row.ensures.pushed ∙ kept.roots;
      long = rw (pushed, length-append c.loop-row.field.rows (c.in_ok-times.times.items ∷ [])) (omega (arith, kept.long));
      buffer = kept.buffer;
      ended = ended_more (g.S.Shelf.files c.args.shelf.now) (g.S.Shelf.files c.loop-row.shelf) (g.S.Shelf.left c.args.shelf.now) (g.S.Shelf.left c.loop-row.shelf)
          (g.S.Shelf.left c.read_row.new.shelf) kept.same_files kept.ended
          (ended_any (g.S.Shelf.files c.loop-row.shelf) (g.S.Shelf.left c.loop-row.shelf) (g.S.Shelf.left c.read_row.new.shelf) one.ended);
      same_files = one.same_files ∙ kept.same_files;
      faults = one.faults ∙ kept.faults;
      misses = one.misses ∙ kept.misses;
      lacks = one.lacks ∙ kept.lacks;
      calls = omega (arith, one.calls, kept.calls);
    }

pub returns-clause-told : goal.returns-clause-told
returns-clause-told g c =
    let long = length-keys_at c.args.keys.now c.args.headers.now c.args.rows.now c.requires.rows in
    rows_all (g.S.Shelf.files c.args.shelf.now) (values_of c.args.control.now) c.loop-row.row-index (keys_at c.args.keys.now c.args.rows.now) c.loop-row.field
    (omega arith) c.loop-row.invariant.grid c.loop-row.invariant.roots c.loop-row.invariant.told
