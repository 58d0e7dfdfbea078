use Rattle.std.proofs.Common.{◌≡◌, ◌+◌, ◌++◌, ◌∷◌, [], arith, ap, ◌∙◌, subst, length, map, take, get_or}
use Rattle.std.specs.List.Sorted.{IsPermutation}
use Rattle.std.proofs.lemmas.List.{length-append, length-map, length-take-le}
use Rattle.node_boxes.specs.declared.node_box.NodeBox.{NodeBox}
use Rattle.octree_search.specs.declared.arena.Met.{Met}
use Rattle.octree_search.specs.Arena.{fresh}
use Rattle.octree_search.specs.Inside.Meeting.{best_with, wait_of}
use Rattle.octree_search.proofs.Meetings.{met_more, best_more, queue_more}
use Rattle.octree_search.proofs.frontier.Frontier.meet_all.Goals as goal

pub loop-area-preserved : goal.loop-area-preserved
loop-area-preserved g c =
    let kept = c.loop-area.invariant in
    let met = c.in_ok-meet.ensures in
    let i = c.loop-area.area-index in
    let d : NodeBox = record { x0 = 0; x1 = 0; y0 = 0; y1 = 0; z0 = 0; z1 = 0 } in
    let bound = g.J.Judge.bound_of c.args.judge.now in
    let long : length c.loop-area.self.met.items ≡ length c.args.self.now.met.items + i =
    omega (
      arith,
      ap length kept.met,
      length-append {A = Met} c.args.self.now.met.items (map (fresh bound) (take i c.args.areas.now)),
      length-map (take i c.args.areas.now) (fresh bound),
      length-take-le i c.args.areas.now (omega (arith, c.loop-area-test.true)),
    ) in
    record {
      still = met.still;
      same_grid = met.same_grid ∙ kept.same_grid;
      same_roots = met.same_roots ∙ kept.same_roots;
      same_bounds = met.same_bounds ∙ kept.same_bounds;
      asked = omega (arith, met.asked, kept.asked);
      met = met_more c.args.margin bound c.args.self.now.met.items c.loop-area.self.met.items c.meet.new.self.met.items c.args.areas.now i d c.loop-area-test.true
          kept.met (subst (λ b. c.meet.new.self.met.items ≡ c.loop-area.self.met.items ++ fresh b (get_or c.args.areas.now i d) ∷ []) kept.same_bounds met.met);
      best = best_more c.args.margin bound c.args.self.now.best c.loop-area.self.best c.meet.new.self.best c.args.areas.now i d c.loop-area-test.true
          kept.best (subst (λ b. c.meet.new.self.best ≡ best_with b c.loop-area.self.best (get_or c.args.areas.now i d)) kept.same_bounds met.best);
      queue = queue_more c.args.margin bound c.args.self.now.best c.loop-area.self.best (length c.args.self.now.met.items) (length c.loop-area.self.met.items)
          c.args.self.now.queue c.loop-area.self.queue c.meet.new.self.queue c.args.areas.now i d c.loop-area-test.true kept.best long kept.queue
          (subst (λ b. IsPermutation (wait_of c.args.margin b c.loop-area.self.best (length c.loop-area.self.met.items) (get_or c.args.areas.now i d) ++ c.loop-area.self.queue)
          c.meet.new.self.queue) kept.same_bounds met.queue);
    }
