use Rattle.std.proofs.Common.{◌≡◌, List, IfSome, Ok, Err, false, ◌∙◌, subst}
use Rattle.std.proofs.lemmas.Result.{err_from_is_err_and}
use Rattle.control_reader.specs.ControlValues.{values_of}
use Rattle.phase_reader.specs.declared.phases.Event.{Event}
use Rattle.phase_reader.specs.PhaseFile.{picks_of_events}
use Rattle.event_assembly.specs.Answers.{IsTold}
use Rattle.event_assembly.specs.AssemblyValues.{assembly_of, assembly_value}
use Rattle.event_assembly.specs.Assembling.{lacks_a_wanted_header}
use Rattle.run_input.proofs.InputSteps.{control_stops, phases_stop, assembly_stops, input_read, lacks_stay, lacks_none}
use Rattle.run_input.proofs.input.read_run.Goals as goal

pub returns-in_err-control-clause-told : goal.returns-in_err-control-clause-told
returns-in_err-control-clause-told g c =
    let out = err_from_is_err_and c.from_residual.result c.from_residual.ensures.1 in
    rw (out.1, out.2) (control_stops (g.S.Shelf.files c.args.shelf.now) c.args.name.now c.in_err-control.field-0.0 c.in_err-control.ensures.told)

pub returns-in_err-phases-clause-told : goal.returns-in_err-phases-clause-told
returns-in_err-phases-clause-told g c =
    let out = err_from_is_err_and c.from_residual-in_err-phases.result c.from_residual-in_err-phases.ensures.1 in
    rw (out.1, out.2) (
    phases_stop (g.S.Shelf.files c.args.shelf.now) (g.S.Shelf.files c.read_control_file.new.shelf) c.args.name.now c.in_ok-control.control c.in_err-phases.field-0.0
    c.in_ok-control.ensures.same_files c.in_ok-control.ensures.told c.in_err-phases.ensures.told)

pub returns-in_err-assembly-clause-told : goal.returns-in_err-assembly-clause-told
returns-in_err-assembly-clause-told g c =
    let out = err_from_is_err_and c.from_residual-in_err-assembly.result c.from_residual-in_err-assembly.ensures.1 in
    let fault = c.in_err-assembly.field-0.0 in
    let control = c.in_ok-control.control in
    let told = subst (λ (es : List Event). IfSome (g.S.Shelf.files c.read_phase_file.new.shelf) (λ files. IsTold (assembly_of files (values_of control) (picks_of_events es)) (Err fault))) c.deref.ensures.value c.in_err-assembly.ensures.told in
    rw (out.1, out.2) (
    assembly_stops (g.S.Shelf.files c.args.shelf.now) (g.S.Shelf.files c.read_control_file.new.shelf) (g.S.Shelf.files c.read_phase_file.new.shelf) c.args.name.now control c.in_ok-phases.phases fault
    c.in_ok-control.ensures.same_files (c.in_ok-phases.ensures.same_files ∙ c.in_ok-control.ensures.same_files)
    c.in_ok-control.ensures.told c.in_ok-phases.ensures.told told)

pub returns-clause-told : goal.returns-clause-told
returns-clause-told g c =
    let control = c.in_ok-control.control in
    let assembly = c.in_ok-assembly.assembly in
    let told = subst (λ (es : List Event). IfSome (g.S.Shelf.files c.read_phase_file.new.shelf) (λ files. assembly_of files (values_of control) (picks_of_events es) ≡ Ok (assembly_value assembly))) c.deref.ensures.value c.in_ok-assembly.ensures.told in
    input_read (g.S.Shelf.files c.args.shelf.now) (g.S.Shelf.files c.read_control_file.new.shelf) (g.S.Shelf.files c.read_phase_file.new.shelf) c.args.name.now control c.in_ok-phases.phases assembly
    c.in_ok-control.ensures.same_files (c.in_ok-phases.ensures.same_files ∙ c.in_ok-control.ensures.same_files)
    c.in_ok-control.ensures.told c.in_ok-phases.ensures.told told

pub returns-in_err-control-clause-told_lacks : goal.returns-in_err-control-clause-told_lacks
returns-in_err-control-clause-told_lacks g c =
    lacks_stay (g.S.Shelf.files c.args.shelf.now) c.args.name.now _ _ c.in_err-control.ensures.lacks

pub returns-in_err-phases-clause-told_lacks : goal.returns-in_err-phases-clause-told_lacks
returns-in_err-phases-clause-told_lacks g c =
    lacks_stay (g.S.Shelf.files c.args.shelf.now) c.args.name.now _ _ (c.in_err-phases.ensures.lacks ∙ c.in_ok-control.ensures.lacks)

pub returns-in_err-assembly-clause-told_lacks : goal.returns-in_err-assembly-clause-told_lacks
returns-in_err-assembly-clause-told_lacks g c =
    let control = c.in_ok-control.control in
    let first = g.S.Shelf.lacks c.read_phase_file.new.shelf in
    let last = g.S.Shelf.lacks c.assemble.new.shelf in
    let told = subst (λ (es : List Event). IfSome (g.S.Shelf.files c.read_phase_file.new.shelf) (λ files. lacks_a_wanted_header files (values_of control) (picks_of_events es) ≡ false → last ≡ first)) c.deref.ensures.value c.in_err-assembly.ensures.no_lacks in
    lacks_none (g.S.Shelf.files c.args.shelf.now) (g.S.Shelf.files c.read_control_file.new.shelf) (g.S.Shelf.files c.read_phase_file.new.shelf) c.args.name.now control c.in_ok-phases.phases
    (g.S.Shelf.lacks c.args.shelf.now) first last c.in_ok-control.ensures.same_files (c.in_ok-phases.ensures.same_files ∙ c.in_ok-control.ensures.same_files)
    c.in_ok-control.ensures.told c.in_ok-phases.ensures.told told (c.in_ok-phases.ensures.lacks ∙ c.in_ok-control.ensures.lacks)

pub returns-clause-told_lacks : goal.returns-clause-told_lacks
returns-clause-told_lacks g c =
    let control = c.in_ok-control.control in
    let first = g.S.Shelf.lacks c.read_phase_file.new.shelf in
    let last = g.S.Shelf.lacks c.assemble.new.shelf in
    let told = subst (λ (es : List Event). IfSome (g.S.Shelf.files c.read_phase_file.new.shelf) (λ files. lacks_a_wanted_header files (values_of control) (picks_of_events es) ≡ false → last ≡ first)) c.deref.ensures.value c.in_ok-assembly.ensures.no_lacks in
    lacks_none (g.S.Shelf.files c.args.shelf.now) (g.S.Shelf.files c.read_control_file.new.shelf) (g.S.Shelf.files c.read_phase_file.new.shelf) c.args.name.now control c.in_ok-phases.phases
    (g.S.Shelf.lacks c.args.shelf.now) first last c.in_ok-control.ensures.same_files (c.in_ok-phases.ensures.same_files ∙ c.in_ok-control.ensures.same_files)
    c.in_ok-control.ensures.told c.in_ok-phases.ensures.told told (c.in_ok-phases.ensures.lacks ∙ c.in_ok-control.ensures.lacks)
