use Rattle.std.proofs.Common.{FitsSigned, w64, rules, refl, sym, ◌∙◌}
use Rattle.std.proofs.lemmas.Int.{to_z-of_z}
use Rattle.std.proofs.lemmas.Result.{err_from_is_err_and}
use Rattle.phase_reader.specs.PickFields.{pick_of_words}
use Rattle.phase_reader.specs.PickFaults.{words_fault}
use Rattle.phase_reader.proofs.draft.read_pick.Goals as goal

pub returns-in_err-station-clause-fault : goal.returns-in_err-station-clause-fault
unfolding words_fault
returns-in_err-station-clause-fault c =
    let out = err_from_is_err_and c.from_residual.result c.from_residual.ensures.1 in
    rw (out.1, out.2) (λ other. let fault = c.in_err-station.ensures.fault other in rw (sym c.at.ensures, fault.1, fault.0) refl)

pub returns-in_err-phase-clause-fault : goal.returns-in_err-phase-clause-fault
unfolding words_fault
returns-in_err-phase-clause-fault c =
    let out = err_from_is_err_and c.from_residual-in_err-phase.result c.from_residual-in_err-phase.ensures.1 in
    rw (out.1, out.2) (λ other. let fault = c.in_err-phase.ensures.fault other in rw (sym c.at.ensures, sym c.at-2.ensures, c.in_ok-station.ensures.good, fault.1, fault.0) refl)

pub returns-in_err-moment-clause-fault : goal.returns-in_err-moment-clause-fault
unfolding words_fault
returns-in_err-moment-clause-fault c =
    let out = err_from_is_err_and c.from_residual-in_err-moment.result c.from_residual-in_err-moment.ensures.1 in
    rw (out.1, out.2) (λ other. rw (sym c.at.ensures, sym c.at-2.ensures, c.in_ok-station.ensures.good, c.in_ok-phase.ensures.good, c.in_err-moment.ensures.fault) refl)

pub returns-then-not-is_gau-clause-fault : goal.returns-then-not-is_gau-clause-fault
unfolding words_fault
returns-then-not-is_gau-clause-fault c =
    λ other. rw (sym c.at.ensures, sym c.at-2.ensures, sym c.at-3.ensures, c.in_ok-station.ensures.good, c.in_ok-phase.ensures.good, c.in_ok-moment.ensures.good, sym c.is_gau.ensures ∙ c.if-not-is_gau.true) refl

pub returns-in_err-error-clause-fault : goal.returns-in_err-error-clause-fault
unfolding words_fault
returns-in_err-error-clause-fault c =
    let out = err_from_is_err_and c.from_residual-in_err-error.result c.from_residual-in_err-error.ensures.1 in
    let gau = sym c.is_gau.ensures ∙ c.if-not-is_gau.false in
    rw (out.1, out.2)
    (λ other. rw (sym c.at.ensures, sym c.at-2.ensures, sym c.at-3.ensures, sym c.at-4.ensures, c.in_ok-station.ensures.good, c.in_ok-phase.ensures.good, c.in_ok-moment.ensures.good, gau, c.in_err-error.ensures.none, c.in_err-error.ensures.fault) refl)

pub returns-in_err-weight-clause-fault : goal.returns-in_err-weight-clause-fault
unfolding words_fault
returns-in_err-weight-clause-fault c =
    let out = err_from_is_err_and c.from_residual-in_err-weight.result c.from_residual-in_err-weight.ensures.1 in
    let gau = sym c.is_gau.ensures ∙ c.if-not-is_gau.false in
    rw (out.1, out.2)
    (λ other. rw (sym c.at.ensures, sym c.at-2.ensures, sym c.at-3.ensures, sym c.at-4.ensures, c.in_ok-station.ensures.good, c.in_ok-phase.ensures.good, c.in_ok-moment.ensures.good, gau, c.in_ok-error.ensures.value, c.in_err-weight.ensures.bad, c.in_err-weight.ensures.fault) refl)

pub returns-clause-good : goal.returns-clause-good
unfolding words_fault
returns-clause-good c =
    let gau = sym c.is_gau.ensures ∙ c.if-not-is_gau.false in
    rw (sym c.at.ensures, sym c.at-2.ensures, sym c.at-3.ensures, sym c.at-4.ensures, c.in_ok-station.ensures.good, c.in_ok-phase.ensures.good, c.in_ok-moment.ensures.good, gau, c.in_ok-error.ensures.value, c.in_ok-weight.ensures.good) refl

pub returns-clause-pick : goal.returns-clause-pick
unfolding pick_of_words
returns-clause-pick c =
    let f1 : FitsSigned w64 c.in_ok-moment.moment.time = search rules in
    let f2 : FitsSigned w64 c.in_ok-error.error = search rules in
    let f3 : FitsSigned w64 c.in_ok-weight.weight = search rules in
    let means = c.in_ok-moment.ensures in
    simp to_z-of_z (
    rw (sym c.at.ensures, sym c.at-2.ensures, sym c.at-4.ensures, c.in_ok-station.ensures.name, c.in_ok-phase.ensures.name, means.day, means.time, c.in_ok-error.ensures.value, c.in_ok-weight.ensures.value)
    refl)
