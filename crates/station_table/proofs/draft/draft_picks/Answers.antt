use Rattle.std.proofs.Common.{◌≡◌, ◌≤◌, ◌<◌, All, [], ◌∷◌, ◌++◌, length, get_or, take, sym, subst, ap, ◌∙◌, arith}
use Rattle.std.specs.Prelude.{◌-ℤ◌, unsigned_abs}
use Rattle.std.specs.List.{AllPairs}
use Rattle.std.proofs.lemmas.List.{take_more, take_all}
use Rattle.control_reader.specs.ControlValues.{values_of}
use Rattle.station_table.specs.Inside.Drafts.{Notes, Follows}
use Rattle.station_table.specs.Limits.{IsUsedPick}
use Rattle.station_table.specs.Using.{used_picks}
use Rattle.station_table.proofs.DraftLaws.{follows_none}
use Rattle.station_table.proofs.LimitLaws.{used_within, used_near}
use Rattle.station_table.proofs.MetLaws.{notes_none}
use Rattle.station_table.proofs.draft.draft_picks.Goals as goal

pub loop-pick-init : goal.loop-pick-init
loop-pick-init c =
    let rules = c.args.rules.now in
    follows_none rules _ _ (subst (Notes rules []) (sym c.requires.met) (notes_none rules)) c.in_ok-with_capacity.ensures.items c.new.ensures.items

pub loop-pick-preserved : goal.loop-pick-preserved
loop-pick-preserved c =
    let picks = c.args.event.now.picks.items in
    let i = c.loop-pick.pick-index in
    let within : i < length picks = omega (arith, ap length c.deref-pick-items.ensures.value) in
    let pick = c.pick-item.result in
    let item : pick ≡ get_or picks i pick = c.pick-item.is ∙ ap (λ ps. get_or ps i pick) c.deref-pick-items.ensures.value in
    subst (λ ps. Follows c.args.rules.now ps c.take_pick.new.met c.take_pick.new.picks)
    ((λ j. take i picks ++ item j ∷ []) ∙ sym (take_more picks i pick within)) (c.in_ok-take_pick.ensures.picks (take i picks) c.loop-pick.invariant)

pub returns-clause-near : goal.returns-clause-near
returns-clause-near c =
    let rules = c.args.rules.now in
    let picks = c.args.event.now.picks.items in
    let all : take c.loop-pick.pick-index picks ≡ picks = take_all c.loop-pick.pick-index picks (omega (arith, ap length c.deref-pick-items.ensures.value)) in
    let used = c.loop-pick.invariant.used ∙ ap (used_picks (values_of rules.control.now) rules.index rules.places.now) all in
    subst (AllPairs (λ a b. unsigned_abs (a.time -ℤ b.time) ≤ 2200000000000)) (sym used)
    (used_near rules.control.now c.requires.rules.control rules.index rules.places.now picks c.requires.event.near)

pub returns-clause-limits : goal.returns-clause-limits
returns-clause-limits c =
    let rules = c.args.rules.now in
    let picks = c.args.event.now.picks.items in
    let all : take c.loop-pick.pick-index picks ≡ picks = take_all c.loop-pick.pick-index picks (omega (arith, ap length c.deref-pick-items.ensures.value)) in
    let used = c.loop-pick.invariant.used ∙ ap (used_picks (values_of rules.control.now) rules.index rules.places.now) all in
    subst (All (IsUsedPick (length rules.index))) (sym used)
    (used_within rules.control.now c.requires.rules.control rules.index rules.places.now picks c.requires.event.picks c.requires.holds)
