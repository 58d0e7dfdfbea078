use Rattle.std.proofs.Common.{◌≡◌, ◌++◌, ◌∷◌, [], Some, None, sym, subst, ap, ◌∙◌}
use Rattle.std.specs.Prelude.{is_none}
use Rattle.control_reader.specs.ControlValues.{values_of}
use Rattle.station_table.specs.Inside.Drafts.{Notes}
use Rattle.station_table.specs.Keys.{key_for, key_of, key_place}
use Rattle.station_table.specs.Reasons.{early_reason}
use Rattle.station_table.proofs.DecideLaws.{early_is, late_is}
use Rattle.station_table.proofs.MetLaws.{notes_wanted, notes_unwanted}
use Rattle.station_table.proofs.draft.decide.Goals as goal

pub returns-in-Some-clause-notes : goal.returns-in-Some-clause-notes
returns-in-Some-clause-notes c =
    let rules = c.args.rules.now in
    let pick = c.args.named.now.pick.now in
    let early : early_reason (values_of rules.control.now) pick ≡ Some c.in-Some.reason = sym c.requires.named.reason ∙ c.in-Some.is in
    λ before notes. notes_unwanted rules before pick c.args.met.now (ap is_none early) notes

pub returns-in-Some-clause-reason : goal.returns-in-Some-clause-reason
returns-in-Some-clause-reason c =
    let rules = c.args.rules.now in
    let pick = c.args.named.now.pick.now in
    let early : early_reason (values_of rules.control.now) pick ≡ Some c.in-Some.reason = sym c.requires.named.reason ∙ c.in-Some.is in
    λ before notes count. sym (early_is (values_of rules.control.now) rules.index rules.places.now before pick c.in-Some.reason early)

pub returns-in-Some-late_reason-clause-notes : goal.returns-in-Some-late_reason-clause-notes
returns-in-Some-late_reason-clause-notes c =
    let rules = c.args.rules.now in
    let control = values_of rules.control.now in
    let pick = c.args.named.now.pick.now in
    let place = c.key_place-place.result in
    let early : early_reason control pick ≡ None = sym c.requires.named.reason ∙ c.in-None.is in
    let key = c.for_phase-key.ensures ∙ (λ j. key_for control (c.requires.named.station j) (c.requires.named.phase j)) in
    let at : key_place rules.index (key_of control pick) ≡ Some place = ap (key_place rules.index) (sym key) ∙ c.key_place-place.ensures.place in
    λ before notes.
    subst (Notes rules (before ++ pick ∷ [])) (sym c.meet-is_met.ensures.after)
    (notes_wanted rules before pick c.args.met.now place (ap is_none early) at c.key_place-place.ensures.within notes)

pub returns-in-Some-late_reason-clause-reason : goal.returns-in-Some-late_reason-clause-reason
returns-in-Some-late_reason-clause-reason c =
    let rules = c.args.rules.now in
    let control = values_of rules.control.now in
    let pick = c.args.named.now.pick.now in
    let place = c.key_place-place.result in
    let early : early_reason control pick ≡ None = sym c.requires.named.reason ∙ c.in-None.is in
    let key = c.for_phase-key.ensures ∙ (λ j. key_for control (c.requires.named.station j) (c.requires.named.phase j)) in
    let at : key_place rules.index (key_of control pick) ≡ Some place = ap (key_place rules.index) (sym key) ∙ c.key_place-place.ensures.place in
    λ before notes count.
    sym c.in-Some-late_reason.is ∙ c.late_reason.ensures
    ∙ sym (late_is control rules.index rules.places.now before pick place c.meet-is_met.result c.args.used early at
    (c.meet-is_met.ensures.before ∙ notes.noted place c.key_place-place.ensures.within) count)

pub returns-in-None-late_reason-clause-notes : goal.returns-in-None-late_reason-clause-notes
returns-in-None-late_reason-clause-notes c =
    let rules = c.args.rules.now in
    let control = values_of rules.control.now in
    let pick = c.args.named.now.pick.now in
    let place = c.key_place-place.result in
    let early : early_reason control pick ≡ None = sym c.requires.named.reason ∙ c.in-None.is in
    let key = c.for_phase-key.ensures ∙ (λ j. key_for control (c.requires.named.station j) (c.requires.named.phase j)) in
    let at : key_place rules.index (key_of control pick) ≡ Some place = ap (key_place rules.index) (sym key) ∙ c.key_place-place.ensures.place in
    λ before notes.
    subst (Notes rules (before ++ pick ∷ [])) (sym c.meet-is_met.ensures.after)
    (notes_wanted rules before pick c.args.met.now place (ap is_none early) at c.key_place-place.ensures.within notes)

pub returns-in-None-late_reason-clause-reason : goal.returns-in-None-late_reason-clause-reason
returns-in-None-late_reason-clause-reason c =
    let rules = c.args.rules.now in
    let control = values_of rules.control.now in
    let pick = c.args.named.now.pick.now in
    let place = c.key_place-place.result in
    let early : early_reason control pick ≡ None = sym c.requires.named.reason ∙ c.in-None.is in
    let key = c.for_phase-key.ensures ∙ (λ j. key_for control (c.requires.named.station j) (c.requires.named.phase j)) in
    let at : key_place rules.index (key_of control pick) ≡ Some place = ap (key_place rules.index) (sym key) ∙ c.key_place-place.ensures.place in
    λ before notes count.
    sym c.in-None-late_reason.is ∙ c.late_reason.ensures
    ∙ sym (late_is control rules.index rules.places.now before pick place c.meet-is_met.result c.args.used early at
    (c.meet-is_met.ensures.before ∙ notes.noted place c.key_place-place.ensures.within) count)
