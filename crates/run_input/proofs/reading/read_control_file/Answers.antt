use Rattle.std.proofs.Common.{◌≡◌, ℕ, List, map, Vec, Some, IfSome, false, subst}
use Rattle.std.specs.Global.{Global}
use Rattle.std.proofs.lemmas.Result.{err_from_is_err_and}
use Rattle.control_reader.specs.ControlFile.{IsReading, IsControlFault}
use Rattle.control_reader.specs.Includes.{AreIncludes, IsIncludeFault}
use Rattle.text_terms.specs.Faults.{first_cause}
use Rattle.run_input.specs.FirstRefusals.{included_refusals}
use Rattle.run_input.specs.Refusals.{is_untold}
use Rattle.run_input.proofs.IncludedSteps.{AreRead}
use Rattle.run_input.proofs.ControlSteps.{main_stops, include_refused, included_stops, control_refused, control_read}
use Rattle.run_input.proofs.reading.read_control_file.Goals as goal

pub returns-in_err-main-clause-told : goal.returns-in_err-main-clause-told
returns-in_err-main-clause-told g c =
    let out = err_from_is_err_and c.from_residual-in_err-main.result c.from_residual-in_err-main.ensures.1 in
    let named : c.in_ok-main_name.main_name ≡ c.args.name.now = c.in_ok-main_name.ensures in
    let told = c.in_err-main.ensures.told in
    rw (out.1, out.2) (main_stops (g.S.Shelf.files c.args.shelf.now) c.args.name.now c.in_err-main.field-0.0 (rw named at told))

pub returns-in-Err-clause-told : goal.returns-in-Err-clause-told
returns-in-Err-clause-told g c =
    let named : c.in_ok-main_name.main_name ≡ c.args.name.now = c.in_ok-main_name.ensures in
    let told = c.in_ok-main.ensures.told in
    include_refused (g.S.Shelf.files c.args.shelf.now) c.args.name.now c.in_ok-main.main c.in-Err.fault c.refusal_of_control.result (rw named at told)
    (λ other. subst (λ b. IsIncludeFault b c.in-Err.fault) c.deref.ensures.value (c.in-Err.ensures.fault other)) c.refusal_of_control.ensures.told c.refusal_of_control.ensures.memory

pub returns-in_err-included-clause-told : goal.returns-in_err-included-clause-told
returns-in_err-included-clause-told g c =
    let out = err_from_is_err_and c.from_residual-in_err-included.result c.from_residual-in_err-included.ensures.1 in
    let named : c.in_ok-main_name.main_name ≡ c.args.name.now = c.in_ok-main_name.ensures in
    let told = c.in_ok-main.ensures.told in
    let refusal = c.in_err-included.field-0.0 in
    let stops = subst (λ ns. IfSome (g.S.Shelf.files c.read_file.new.shelf) (λ files. is_untold refusal ≡ false → first_cause (included_refusals files ns) ≡ Some refusal)) c.deref-2.ensures.value c.in_err-included.ensures.told in
    rw (out.1, out.2) (
    included_stops (g.S.Shelf.files c.args.shelf.now) c.args.name.now c.in_ok-main.main c.in-Ok.names.items refusal (rw named at told)
    (subst (λ b. AreIncludes b c.in-Ok.names.items) c.deref.ensures.value c.in-Ok.ensures.value)
    (subst (λ F. IfSome F (λ files. is_untold refusal ≡ false → first_cause (included_refusals files c.in-Ok.names.items) ≡ Some refusal)) c.in_ok-main.ensures.same_files stops))

pub returns-in-Ok-read_control-clause-told : goal.returns-in-Ok-read_control-clause-told
returns-in-Ok-read_control-clause-told g c =
    let named : c.in_ok-main_name.main_name ≡ c.args.name.now = c.in_ok-main_name.ensures in
    let told = c.in_ok-main.ensures.told in
    let contents : List (List ℕ) = map (λ (b : Vec ℕ Global). b.items) c.in_ok-included.included.items in
    let read = subst (λ ns. IfSome (g.S.Shelf.files c.read_file.new.shelf) (λ files. AreRead files ns contents)) c.deref-2.ensures.value c.in_ok-included.ensures.told in
    control_read (g.S.Shelf.files c.args.shelf.now) c.args.name.now c.in_ok-main.main c.in-Ok.names.items contents c.in-Ok-read_control.control (rw named at told)
    (subst (λ b. AreIncludes b c.in-Ok.names.items) c.deref.ensures.value c.in-Ok.ensures.value)
    (subst (λ F. IfSome F (λ files. AreRead files c.in-Ok.names.items contents)) c.in_ok-main.ensures.same_files read)
    (subst (λ b. IsReading b contents c.in-Ok-read_control.control) c.deref-3.ensures.value
    (subst (λ bs. IsReading c.deref-3.result.now (map (λ (b : Vec ℕ Global). b.items) bs) c.in-Ok-read_control.control) c.deref-4.ensures.value c.in-Ok-read_control.ensures.value))

pub returns-clause-told : goal.returns-clause-told
returns-clause-told g c =
    let named : c.in_ok-main_name.main_name ≡ c.args.name.now = c.in_ok-main_name.ensures in
    let told = c.in_ok-main.ensures.told in
    let contents : List (List ℕ) = map (λ (b : Vec ℕ Global). b.items) c.in_ok-included.included.items in
    let read = subst (λ ns. IfSome (g.S.Shelf.files c.read_file.new.shelf) (λ files. AreRead files ns contents)) c.deref-2.ensures.value c.in_ok-included.ensures.told in
    control_refused (g.S.Shelf.files c.args.shelf.now) c.args.name.now c.in_ok-main.main c.in-Ok.names.items contents c.in-Err-read_control.fault
    c.refusal_of_control-in-Err-read_control.result (rw named at told)
    (subst (λ b. AreIncludes b c.in-Ok.names.items) c.deref.ensures.value c.in-Ok.ensures.value)
    (subst (λ F. IfSome F (λ files. AreRead files c.in-Ok.names.items contents)) c.in_ok-main.ensures.same_files read)
    (λ other. subst (λ b. IsControlFault b contents c.in-Err-read_control.fault) c.deref-3.ensures.value
    (subst (λ bs. IsControlFault c.deref-3.result.now (map (λ (b : Vec ℕ Global). b.items) bs) c.in-Err-read_control.fault) c.deref-4.ensures.value (c.in-Err-read_control.ensures.fault other)))
    c.refusal_of_control-in-Err-read_control.ensures.told c.refusal_of_control-in-Err-read_control.ensures.memory
