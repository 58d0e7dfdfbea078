use Rattle.std.proofs.Common.{rules, ◌≡◌, SFits, w64, sym, ◌∙◌, ap, map}
use Rattle.std.specs.Prelude.{All}
use Rattle.std.proofs.lemmas.Int.{to_z-of_z}
use Rattle.origin_time.specs.RootMeanSquare.{rms_of}
use Rattle.origin_time.specs.OriginTime.{IsOriginTime}
use Rattle.origin_time.proofs.Functions.{among_items, rms_is}
use Rattle.location_report.specs.Blocks.{items_at, residual_from, residuals_at}
use Rattle.location_report.specs.Inside.Locating.{IsNearNode}
use Rattle.location_report.proofs.LocatingLaws.{light_items, residual_limits, same_weight, some_weight, within_reach}
use Rattle.location_report.proofs.locating.Origin.of.Goals as goal

pub time_of-requires : goal.time_of-requires
time_of-requires c =
    let items : c.deref-2.result.now ≡ items_at c.args.field.now c.args.node c.args.problem.now.picks.items = search rules in
    rw items (some_weight c.args.field.now c.args.node c.args.problem.now.picks.items c.requires.problem.two c.requires.problem.picks)

pub residuals_from-requires : goal.residuals_from-requires
residuals_from-requires c =
    let fits : SFits w64 c.in_ok-time.time = search rules in
    let given : c.deref-2.result.now ≡ items_at c.args.field.now c.args.node c.args.problem.now.picks.items = search rules in
    let items : c.deref-3.result.now ≡ items_at c.args.field.now c.args.node c.args.problem.now.picks.items = search rules in
    let is : IsOriginTime (items_at c.args.field.now c.args.node c.args.problem.now.picks.items) c.in_ok-time.time = rw given at c.in_ok-time.ensures.is in
    let near : All (IsNearNode c.args.field.now c.args.node) c.args.problem.now.picks.items = rw c.deref.ensures.value at c.in_ok-items.ensures.near in
    simp to_z-of_z (rw items (within_reach c.args.field.now c.args.node c.args.problem.now.picks.items c.in_ok-time.time near c.requires.problem.times
    (among_items (items_at c.args.field.now c.args.node c.args.problem.now.picks.items) c.in_ok-time.time is)))

pub rms-rms-requires-clause-items : goal.rms-rms-requires-clause-items
rms-rms-requires-clause-items c =
    let fits : SFits w64 c.in_ok-time.time = search rules in
    let given : c.deref-2.result.now ≡ items_at c.args.field.now c.args.node c.args.problem.now.picks.items = search rules in
    let is : IsOriginTime (items_at c.args.field.now c.args.node c.args.problem.now.picks.items) c.in_ok-time.time = rw given at c.in_ok-time.ensures.is in
    let near : All (IsNearNode c.args.field.now c.args.node) c.args.problem.now.picks.items = rw c.deref.ensures.value at c.in_ok-items.ensures.near in
    let residuals : c.deref-4.result.now ≡ map (residual_from c.in_ok-time.time) (items_at c.args.field.now c.args.node c.args.problem.now.picks.items) =
    search rules in
    rw residuals (residual_limits (items_at c.args.field.now c.args.node c.args.problem.now.picks.items) c.in_ok-time.time
    (within_reach c.args.field.now c.args.node c.args.problem.now.picks.items c.in_ok-time.time near c.requires.problem.times
    (among_items (items_at c.args.field.now c.args.node c.args.problem.now.picks.items) c.in_ok-time.time is))
    (light_items c.args.field.now c.args.node c.args.problem.now.picks.items c.requires.problem.picks))

pub rms-rms-requires-clause-weight : goal.rms-rms-requires-clause-weight
rms-rms-requires-clause-weight c =
    let fits : SFits w64 c.in_ok-time.time = search rules in
    let residuals : c.deref-4.result.now ≡ map (residual_from c.in_ok-time.time) (items_at c.args.field.now c.args.node c.args.problem.now.picks.items) =
    search rules in
    rw (residuals, same_weight c.in_ok-time.time (items_at c.args.field.now c.args.node c.args.problem.now.picks.items))
    (some_weight c.args.field.now c.args.node c.args.problem.now.picks.items c.requires.problem.two c.requires.problem.picks)

pub returns-clause-rms : goal.returns-clause-rms
returns-clause-rms c =
    let residuals : c.deref-4.result.now ≡ residuals_at c.args.field.now c.args.node c.args.problem.now.picks.items = search rules in
    sym (rms_is c.deref-4.result.now c.rms-rms.result c.rms-rms.ensures) ∙ ap rms_of residuals
