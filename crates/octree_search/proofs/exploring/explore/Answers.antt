use Rattle.std.proofs.Common.{◌≡◌, ◌+◌, ◌++◌, List, arith, sym, ap, ◌∙◌, subst, length, map, All}
use Rattle.std.specs.List.Sorted.{IsPermutation}
use Rattle.std.proofs.lemmas.List.{length-append, length-map}
use Rattle.std.proofs.lemmas.List.Elements.{All-from_recursion}
use Rattle.node_boxes.specs.declared.node_box.NodeBox.{NodeBox}
use Rattle.node_boxes.specs.Children.{children_of}
use Rattle.node_boxes.specs.Octree.{IsOctreeBox}
use Rattle.edt_score.specs.Judging.{BoundsFall}
use Rattle.octree_search.specs.declared.arena.Met.{Met}
use Rattle.octree_search.specs.Arena.{fresh, IsOpened}
use Rattle.octree_search.specs.Inside.Meeting.{best_after, waits}
use Rattle.octree_search.proofs.Goes.{root_trees, past_roots, goes_start, goes_opened, work_less, past_budget, top_queued, top_splittable, top_within, ends_low, opens_high, ends_empty}
use Rattle.octree_search.proofs.exploring.explore.Goals as goal

pub returns-then-roots-budget-clause-explored : goal.returns-then-roots-budget-clause-explored
returns-then-roots-budget-clause-explored g c =
    past_roots (g.J.Judge.grid c.args.judge.now) c.args.roots.now (g.J.Judge.bound_of c.args.judge.now) c.args.margin c.args.budget
    (omega (arith, c.if-roots-budget.true))

pub meet_all-requires-clause-tree : goal.meet_all-requires-clause-tree
meet_all-requires-clause-tree g c =
    let roots = c.args.roots.now in
    subst (λ (r : List NodeBox). All (IsOctreeBox r) roots) (sym c.requires.same_roots)
    (All-from_recursion (IsOctreeBox roots) roots (root_trees roots roots (λ b at. at)))

pub loop-top-init : goal.loop-top-init
loop-top-init g c =
    let grid = g.J.Judge.grid c.args.judge.now in
    let roots = c.args.roots.now in
    let bound = g.J.Judge.bound_of c.args.judge.now in
    let falls : BoundsFall grid roots bound = subst (λ (r : List NodeBox). BoundsFall grid r bound) c.requires.same_roots (g.met.J.Judge.falls c.args.judge.now) in
    let empty = c.in_ok-frontier.ensures in
    let met = c.in_ok-meet_all.ensures in
    let met_is : c.meet_all.new.self.met.items ≡ map (fresh bound) roots = met.met ∙ ap (λ (xs : List Met). xs ++ map (fresh bound) roots) empty.met in
    let long : length c.meet_all.new.self.met.items ≡ length roots = ap length met_is ∙ length-map roots (fresh bound) in
    record {
      still = met.still;
      same_grid = met.same_grid;
      same_roots = met.same_roots;
      same_bounds = met.same_bounds;
      asked = omega (arith, met.asked, long);
      few = omega (arith, long, c.if-roots-budget.false);
      goes = goes_start grid roots bound c.args.margin c.requires.roots falls c.meet_all.new.self.met.items c.meet_all.new.self.queue c.meet_all.new.self.best
          met_is (rw (empty.met, empty.best, empty.queue) at met.queue) (rw empty.best at met.best);
    }

pub returns-then-is_low-clause-explored : goal.returns-then-is_low-clause-explored
returns-then-is_low-clause-explored g c =
    let grid = g.J.Judge.grid c.args.judge.now in
    let roots = c.args.roots.now in
    let bound = g.J.Judge.bound_of c.args.judge.now in
    let falls : BoundsFall grid roots bound = subst (λ (r : List NodeBox). BoundsFall grid r bound) c.requires.same_roots (g.met.J.Judge.falls c.args.judge.now) in
    let kept = c.loop-top.invariant in
    let top = c.in-Some.top in
    rw (c.into_explored.ensures.met, c.into_explored.ensures.best)
    (ends_low grid roots bound c.args.margin c.requires.roots falls c.loop-top.frontier.met.items c.loop-top.frontier.queue c.pop.new.self c.loop-top.frontier.best top
    kept.goes c.in-Some.ensures.some c.in-Some.ensures.greatest (sym c.if-is_low.ensures))

pub children-requires : goal.children-requires
children-requires g c =
    let grid = g.J.Judge.grid c.args.judge.now in
    let roots = c.args.roots.now in
    let bound = g.J.Judge.bound_of c.args.judge.now in
    let falls : BoundsFall grid roots bound = subst (λ (r : List NodeBox). BoundsFall grid r bound) c.requires.same_roots (g.met.J.Judge.falls c.args.judge.now) in
    top_splittable grid roots bound c.args.margin c.requires.roots falls c.loop-top.frontier.met.items c.loop-top.frontier.queue c.pop.new.self c.loop-top.frontier.best c.in-Some.top
    c.loop-top.invariant.goes c.in-Some.ensures.some

pub returns-then-len-budget-clause-explored : goal.returns-then-len-budget-clause-explored
returns-then-len-budget-clause-explored g c =
    let grid = g.J.Judge.grid c.args.judge.now in
    let roots = c.args.roots.now in
    let bound = g.J.Judge.bound_of c.args.judge.now in
    let falls : BoundsFall grid roots bound = subst (λ (r : List NodeBox). BoundsFall grid r bound) c.requires.same_roots (g.met.J.Judge.falls c.args.judge.now) in
    let kept = c.loop-top.invariant in
    let top = c.in-Some.top in
    let kids : c.len-in-Some.result ≡ length (children_of top.area) = rw c.children.ensures at c.len-in-Some.ensures.value in
    let open' = opens_high grid roots bound c.args.margin c.requires.roots falls c.loop-top.frontier.met.items c.loop-top.frontier.queue c.pop.new.self c.loop-top.frontier.best top
    kept.goes c.in-Some.ensures.some c.in-Some.ensures.greatest (sym c.if-is_low.ensures) in
    past_budget grid roots bound c.args.margin c.requires.roots falls c.loop-top.frontier.met.items c.loop-top.frontier.queue c.pop.new.self c.loop-top.frontier.best c.args.budget top
    kept.goes c.in-Some.ensures.some open' (omega (arith, kids, c.if-len-budget.true, c.len.ensures))

pub open-requires-clause-several : goal.open-requires-clause-several
open-requires-clause-several g c =
    let grid = g.J.Judge.grid c.args.judge.now in
    let roots = c.args.roots.now in
    let bound = g.J.Judge.bound_of c.args.judge.now in
    let falls : BoundsFall grid roots bound = subst (λ (r : List NodeBox). BoundsFall grid r bound) c.requires.same_roots (g.met.J.Judge.falls c.args.judge.now) in
    top_splittable grid roots bound c.args.margin c.requires.roots falls c.loop-top.frontier.met.items c.loop-top.frontier.queue c.pop.new.self c.loop-top.frontier.best c.in-Some.top
    c.loop-top.invariant.goes c.in-Some.ensures.some

pub open-requires-clause-place : goal.open-requires-clause-place
open-requires-clause-place g c =
    let grid = g.J.Judge.grid c.args.judge.now in
    let roots = c.args.roots.now in
    let bound = g.J.Judge.bound_of c.args.judge.now in
    let falls : BoundsFall grid roots bound = subst (λ (r : List NodeBox). BoundsFall grid r bound) c.requires.same_roots (g.met.J.Judge.falls c.args.judge.now) in
    top_within grid roots bound c.args.margin c.requires.roots falls c.loop-top.frontier.met.items c.loop-top.frontier.queue c.pop.new.self c.loop-top.frontier.best c.in-Some.top
    c.loop-top.invariant.goes c.in-Some.ensures.some

pub open-requires-clause-tree : goal.open-requires-clause-tree
open-requires-clause-tree g c =
    let grid = g.J.Judge.grid c.args.judge.now in
    let roots = c.args.roots.now in
    let bound = g.J.Judge.bound_of c.args.judge.now in
    let falls : BoundsFall grid roots bound = subst (λ (r : List NodeBox). BoundsFall grid r bound) c.requires.same_roots (g.met.J.Judge.falls c.args.judge.now) in
    let is = top_queued grid roots bound c.args.margin c.requires.roots falls c.loop-top.frontier.met.items c.loop-top.frontier.queue c.pop.new.self c.loop-top.frontier.best c.in-Some.top
    c.loop-top.invariant.goes c.in-Some.ensures.some in
    subst (λ (r : List NodeBox). IsOctreeBox r c.in-Some.top.area) (sym (c.loop-top.invariant.same_roots ∙ c.requires.same_roots)) is.tree

pub loop-top-smaller : goal.loop-top-smaller
loop-top-smaller g c =
    let grid = g.J.Judge.grid c.args.judge.now in
    let roots = c.args.roots.now in
    let bound = g.J.Judge.bound_of c.args.judge.now in
    let falls : BoundsFall grid roots bound = subst (λ (r : List NodeBox). BoundsFall grid r bound) c.requires.same_roots (g.met.J.Judge.falls c.args.judge.now) in
    let kept = c.loop-top.invariant in
    let top = c.in-Some.top in
    let open' = opens_high grid roots bound c.args.margin c.requires.roots falls c.loop-top.frontier.met.items c.loop-top.frontier.queue c.pop.new.self c.loop-top.frontier.best top
    kept.goes c.in-Some.ensures.some c.in-Some.ensures.greatest (sym c.if-is_low.ensures) in
    work_less grid roots bound c.args.margin c.requires.roots falls c.loop-top.frontier.met.items c.loop-top.frontier.queue c.pop.new.self c.loop-top.frontier.best top c.open.new.self.queue
    kept.goes c.in-Some.ensures.some open'
    (subst (λ b. IsPermutation (waits c.args.margin b c.loop-top.frontier.best (length c.loop-top.frontier.met.items) (children_of top.area) ++ c.pop.new.self) c.open.new.self.queue)
    kept.same_bounds c.in_ok-open.ensures.queue)

pub loop-top-preserved : goal.loop-top-preserved
loop-top-preserved g c =
    let grid = g.J.Judge.grid c.args.judge.now in
    let roots = c.args.roots.now in
    let bound = g.J.Judge.bound_of c.args.judge.now in
    let falls : BoundsFall grid roots bound = subst (λ (r : List NodeBox). BoundsFall grid r bound) c.requires.same_roots (g.met.J.Judge.falls c.args.judge.now) in
    let kept = c.loop-top.invariant in
    let top = c.in-Some.top in
    let opened = c.in_ok-open.ensures in
    let kids : c.len-in-Some.result ≡ length (children_of top.area) = rw c.children.ensures at c.len-in-Some.ensures.value in
    let open' = opens_high grid roots bound c.args.margin c.requires.roots falls c.loop-top.frontier.met.items c.loop-top.frontier.queue c.pop.new.self c.loop-top.frontier.best top
    kept.goes c.in-Some.ensures.some c.in-Some.ensures.greatest (sym c.if-is_low.ensures) in
    let met = subst (λ b. IsOpened (c.loop-top.frontier.met.items ++ map (fresh b) (children_of top.area)) top.place (length c.loop-top.frontier.met.items) c.open.new.self.met.items)
    kept.same_bounds opened.met in
    let long : length c.open.new.self.met.items ≡ length c.loop-top.frontier.met.items + length (children_of top.area) =
    omega (arith, met.same_length, length-append {A = Met} c.loop-top.frontier.met.items (map (fresh bound) (children_of top.area)), length-map (children_of top.area) (fresh bound)) in
    record {
      still = opened.still;
      same_grid = opened.same_grid ∙ kept.same_grid;
      same_roots = opened.same_roots ∙ kept.same_roots;
      same_bounds = opened.same_bounds ∙ kept.same_bounds;
      asked = omega (arith, opened.asked, kept.asked, long);
      few = omega (arith, long, kids, c.if-len-budget.false, c.len.ensures);
      goes = goes_opened grid roots bound c.args.margin c.requires.roots falls c.loop-top.frontier.met.items c.loop-top.frontier.queue c.pop.new.self c.loop-top.frontier.best top
          c.open.new.self.met.items c.open.new.self.queue c.open.new.self.best kept.goes c.in-Some.ensures.some open' met
          (subst (λ b. IsPermutation (waits c.args.margin b c.loop-top.frontier.best (length c.loop-top.frontier.met.items) (children_of top.area) ++ c.pop.new.self) c.open.new.self.queue)
          kept.same_bounds opened.queue)
          (subst (λ b. c.open.new.self.best ≡ best_after b c.loop-top.frontier.best (children_of top.area)) kept.same_bounds opened.best);
    }

pub returns-clause-explored : goal.returns-clause-explored
returns-clause-explored g c =
    let grid = g.J.Judge.grid c.args.judge.now in
    let roots = c.args.roots.now in
    let bound = g.J.Judge.bound_of c.args.judge.now in
    let falls : BoundsFall grid roots bound = subst (λ (r : List NodeBox). BoundsFall grid r bound) c.requires.same_roots (g.met.J.Judge.falls c.args.judge.now) in
    rw (c.into_explored-2.ensures.met, c.into_explored-2.ensures.best)
    (ends_empty grid roots bound c.args.margin c.requires.roots falls c.loop-top.frontier.met.items c.loop-top.frontier.queue c.loop-top.frontier.best
    c.loop-top.invariant.goes c.in_default.ensures.none)
