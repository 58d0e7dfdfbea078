use Rattle.std.proofs.Common.{sym, ◌∙◌, subst, length, List, All, true, false, refl}
use Rattle.std.proofs.lemmas.List.Elements.{All-from_recursion}
use Rattle.node_boxes.specs.declared.node_box.NodeBox.{NodeBox}
use Rattle.node_boxes.specs.Octree.{IsOctreeBox}
use Rattle.octree_search.proofs.Goes.{root_trees}
use Rattle.search_lanes.specs.Inside.Slots.{view_of}
use Rattle.search_lanes.proofs.LaneBegin.{boxes_from, copied_from, met_from, upper_from, met_fits, met_view, met_whole, past_fits, past_view, past_whole}
use Rattle.search_lanes.proofs.LaneSteps.{fits_same}
use Rattle.search_lanes.proofs.lanes.Lanes.begin.Goals as goal

pub invariant_of-result : goal.invariant_of-result
invariant_of-result g c =
    let bound = g.J.Judge.bound_of c.args.judge.now in
    let roots = c.args.roots.now in
    let copied = copied_from roots c.extend_from_slice.new.self.items c.in_ok-copied.copied.items c.in_ok-extend_from_slice.ensures.items
    c.in_ok-copied.ensures.items in
    past_whole c.args.grid.now roots c.extend_from_slice.new.self.items c.args.margin c.args.budget c.args.lanes bound c.requires.roots c.requires.margin copied
    c.new.result.items c.new-then-roots-budget.result.items c.in_ok-slots.slots.items c.in_ok-slots.ensures c.if-roots-budget.true
    c.new.ensures.items c.new-then-roots-budget.ensures.items

pub returns-then-roots-budget-clause-value : goal.returns-then-roots-budget-clause-value
returns-then-roots-budget-clause-value g c =
    let bound = g.J.Judge.bound_of c.args.judge.now in
    let roots = c.args.roots.now in
    let copied = copied_from roots c.extend_from_slice.new.self.items c.in_ok-copied.copied.items c.in_ok-extend_from_slice.ensures.items
    c.in_ok-copied.ensures.items in
    past_view c.args.grid.now roots c.extend_from_slice.new.self.items c.args.margin c.args.budget c.args.lanes bound c.requires.roots c.requires.margin copied
    c.new.result.items c.new-then-roots-budget.result.items c.in_ok-slots.slots.items c.in_ok-slots.ensures c.if-roots-budget.true
    c.new.ensures.items c.new-then-roots-budget.ensures.items

pub returns-then-roots-budget-clause-fits : goal.returns-then-roots-budget-clause-fits
returns-then-roots-budget-clause-fits g c =
    let bound = g.J.Judge.bound_of c.args.judge.now in
    let roots = c.args.roots.now in
    let copied = copied_from roots c.extend_from_slice.new.self.items c.in_ok-copied.copied.items c.in_ok-extend_from_slice.ensures.items
    c.in_ok-copied.ensures.items in
    fits_same c.args.grid.now (g.J.Judge.grid c.args.judge.now) roots (g.J.Judge.roots c.args.judge.now) bound bound
    (view_of c.args.grid.now c.extend_from_slice.new.self.items c.args.margin c.args.budget c.new-then-roots-budget.result.items
    c.in_ok-slots.slots.items (length c.new.result.items) true)
    c.requires.grid c.requires.judge_roots refl
    (past_fits c.args.grid.now roots c.extend_from_slice.new.self.items c.args.margin c.args.budget c.args.lanes bound c.requires.roots c.requires.margin copied
    c.new.result.items c.new-then-roots-budget.result.items c.in_ok-slots.slots.items c.in_ok-slots.ensures c.if-roots-budget.true
    c.new.ensures.items c.new-then-roots-budget.ensures.items)

pub meet_all-requires-clause-tree : goal.meet_all-requires-clause-tree
meet_all-requires-clause-tree g c =
    let roots = c.args.roots.now in
    subst (λ (r : List NodeBox). All (IsOctreeBox r) roots) (sym c.requires.judge_roots)
    (All-from_recursion (IsOctreeBox roots) roots (root_trees roots roots (λ b at. at)))

pub invariant_of-result-2 : goal.invariant_of-result-2
invariant_of-result-2 g c =
    let bound = g.J.Judge.bound_of c.args.judge.now in
    let roots = c.args.roots.now in
    let copied = copied_from roots c.extend_from_slice.new.self.items c.in_ok-copied.copied.items c.in_ok-extend_from_slice.ensures.items
    c.in_ok-copied.ensures.items in
    let grid = c.x.ensures.grid in
    let met = met_from bound roots c.meet_all.new.met.items c.in_ok-met.met.items c.meet_all.ensures.met c.in_ok-met.ensures.items in
    let boxes = boxes_from bound roots c.meet_all.new.boxes.items c.in_ok-waiting.waiting.items c.in_ok-met.met.items c.meet_all.ensures.boxes
    c.in_ok-waiting.ensures.items c.in_ok-met.ensures.items in
    let upper = upper_from c.greatest_open-upper.result c.meet_all.new.boxes.items c.deref.result.now c.greatest_open-upper.ensures c.deref.ensures.value in
    met_whole c.args.grid.now roots c.extend_from_slice.new.self.items c.args.margin c.args.budget c.args.lanes bound c.requires.roots c.requires.margin copied
    c.meet_all.new.met.items c.meet_all.new.boxes.items c.in_ok-slots.slots.items c.in_ok-slots.ensures
    c.greatest_open-upper.result grid c.if-roots-budget.false met boxes upper

pub returns-clause-value : goal.returns-clause-value
returns-clause-value g c =
    let bound = g.J.Judge.bound_of c.args.judge.now in
    let roots = c.args.roots.now in
    let copied = copied_from roots c.extend_from_slice.new.self.items c.in_ok-copied.copied.items c.in_ok-extend_from_slice.ensures.items
    c.in_ok-copied.ensures.items in
    let grid = c.x.ensures.grid in
    let met = met_from bound roots c.meet_all.new.met.items c.in_ok-met.met.items c.meet_all.ensures.met c.in_ok-met.ensures.items in
    let boxes = boxes_from bound roots c.meet_all.new.boxes.items c.in_ok-waiting.waiting.items c.in_ok-met.met.items c.meet_all.ensures.boxes
    c.in_ok-waiting.ensures.items c.in_ok-met.ensures.items in
    let upper = upper_from c.greatest_open-upper.result c.meet_all.new.boxes.items c.deref.result.now c.greatest_open-upper.ensures c.deref.ensures.value in
    met_view c.args.grid.now roots c.extend_from_slice.new.self.items c.args.margin c.args.budget c.args.lanes bound c.requires.roots c.requires.margin copied
    c.meet_all.new.met.items c.meet_all.new.boxes.items c.in_ok-slots.slots.items c.in_ok-slots.ensures
    c.greatest_open-upper.result grid c.if-roots-budget.false met boxes upper

pub returns-clause-fits : goal.returns-clause-fits
returns-clause-fits g c =
    let bound = g.J.Judge.bound_of c.args.judge.now in
    let roots = c.args.roots.now in
    let copied = copied_from roots c.extend_from_slice.new.self.items c.in_ok-copied.copied.items c.in_ok-extend_from_slice.ensures.items
    c.in_ok-copied.ensures.items in
    let grid = c.x.ensures.grid in
    let met = met_from bound roots c.meet_all.new.met.items c.in_ok-met.met.items c.meet_all.ensures.met c.in_ok-met.ensures.items in
    let boxes = boxes_from bound roots c.meet_all.new.boxes.items c.in_ok-waiting.waiting.items c.in_ok-met.met.items c.meet_all.ensures.boxes
    c.in_ok-waiting.ensures.items c.in_ok-met.ensures.items in
    let upper = upper_from c.greatest_open-upper.result c.meet_all.new.boxes.items c.deref.result.now c.greatest_open-upper.ensures c.deref.ensures.value in
    let asked = c.meet_all.ensures in
    fits_same c.args.grid.now (g.J.Judge.grid c.meet_all.new.judge) roots (g.J.Judge.roots c.meet_all.new.judge) bound (g.J.Judge.bound_of c.meet_all.new.judge)
    (view_of c.args.grid.now c.extend_from_slice.new.self.items c.args.margin c.args.budget c.meet_all.new.boxes.items
    c.in_ok-slots.slots.items (length c.meet_all.new.met.items) false)
    (asked.same_grid ∙ c.requires.grid) (asked.same_roots ∙ c.requires.judge_roots) asked.same_bounds
    (met_fits c.args.grid.now roots c.extend_from_slice.new.self.items c.args.margin c.args.budget c.args.lanes bound c.requires.roots c.requires.margin copied
    c.meet_all.new.met.items c.meet_all.new.boxes.items c.in_ok-slots.slots.items c.in_ok-slots.ensures
    c.greatest_open-upper.result grid c.if-roots-budget.false met boxes upper)
