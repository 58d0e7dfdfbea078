use Rattle.std.proofs.Common.{◌≡◌, length, subst, sym}
use Rattle.search_lanes.specs.Lanes.{is_finished}
use Rattle.search_lanes.specs.LaneViews.{LanesView}
use Rattle.search_lanes.proofs.LaneOutcomes.{finished_is}
use Rattle.search_lanes.proofs.lanes.Lanes.is_finished.Goals as goal

pub returns-then-none_held : goal.returns-then-none_held
returns-then-none_held c =
    subst (λ (v : LanesView). c.none_ready.result ≡ is_finished v.margin v.state) c.self.view_is
    (finished_is c.self.inside.margin c.self.inside.upper c.self.inside.waiting.items c.self.inside.slots.items (length c.self.inside.met.items) c.self.inside.over
    c.none_ready.result c.self.invariant.upper_is c.if-self.false (rw (sym c.deref.ensures.value) c.if-none_held.ensures)
    (rw (sym c.deref-then-none_held.ensures.value) c.none_ready.ensures))
