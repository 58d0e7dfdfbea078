use Rattle.std.proofs.Common.{◌≡◌, subst}
use Rattle.std.proofs.lemmas.Result.{err_from_is_err_and}
use Rattle.phase_reader.specs.PhaseFile.{IsReading, IsPhaseFault}
use Rattle.run_input.proofs.PhaseSteps.{phases_stop, phases_read, phases_refused}
use Rattle.run_input.proofs.reading.read_phase_file.Goals as goal

pub returns-in_err-bytes-clause-told : goal.returns-in_err-bytes-clause-told
returns-in_err-bytes-clause-told g c =
    let out = err_from_is_err_and c.from_residual-in_err-bytes.result c.from_residual-in_err-bytes.ensures.1 in
    let named : c.in_ok-name.name ≡ c.args.name.now = c.in_ok-name.ensures in
    let told = c.in_err-bytes.ensures.told in
    rw (out.1, out.2) (phases_stop (g.S.Shelf.files c.args.shelf.now) c.args.name.now c.in_err-bytes.field-0.0 (rw named at told))

pub returns-in-Ok-clause-told : goal.returns-in-Ok-clause-told
returns-in-Ok-clause-told g c =
    let named : c.in_ok-name.name ≡ c.args.name.now = c.in_ok-name.ensures in
    let told = c.in_ok-bytes.ensures.told in
    phases_read (g.S.Shelf.files c.args.shelf.now) c.args.name.now c.in_ok-bytes.bytes c.in-Ok.phases (rw named at told)
    (subst (λ b. IsReading b c.in-Ok.phases) c.deref.ensures.value c.in-Ok.ensures.value)

pub returns-clause-told : goal.returns-clause-told
returns-clause-told g c =
    let named : c.in_ok-name.name ≡ c.args.name.now = c.in_ok-name.ensures in
    let told = c.in_ok-bytes.ensures.told in
    phases_refused (g.S.Shelf.files c.args.shelf.now) c.args.name.now c.in_ok-bytes.bytes c.in-Err.fault c.refusal_of_phases.result (rw named at told)
    (λ other. subst (λ b. IsPhaseFault b c.in-Err.fault) c.deref.ensures.value (c.in-Err.ensures.fault other)) c.refusal_of_phases.ensures.told c.refusal_of_phases.ensures.memory
