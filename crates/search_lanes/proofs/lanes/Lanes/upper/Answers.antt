use Rattle.std.proofs.Common.{◌≡◌, length, ◌∙◌, sym, subst}
use Rattle.search_lanes.specs.Lanes.{upper_of}
use Rattle.search_lanes.specs.LaneViews.{LanesView}
use Rattle.search_lanes.proofs.LaneFits.{upper_seen}
use Rattle.search_lanes.proofs.lanes.Lanes.upper.Goals as goal

pub returns : goal.returns
returns c =
    let kept = c.self.inside in
    subst (λ (v : LanesView). kept.upper ≡ upper_of v.state) c.self.view_is
    (c.self.invariant.upper_is ∙ sym (upper_seen kept.waiting.items kept.slots.items (length kept.met.items) kept.over))
