use Rattle.std.proofs.Common.{arith, sym, refl, subst, length, All}
use Rattle.node_boxes.specs.declared.node_box.BoxBound.{BoxBound}
use Rattle.node_boxes.specs.Boxes.{IsIn}
use Rattle.octree_search.specs.Outcomes.{event_threshold}
use Rattle.octree_search.proofs.Findings.{cover_is, least_is, near_found, found_none, found_many, hyp_found, found_located}
use Rattle.octree_search.proofs.NearLists.{cover_boxes_inside}
use Rattle.octree_search.proofs.searching.found_from.Goals as goal

pub returns-then-best-eq0 : goal.returns-then-best-eq0
returns-then-best-eq0 c = λ roots bound long are falls explored.
    let boxes = cover_is c.args.grid.now roots bound c.args.margin c.args.met.now c.args.best are falls explored c.in_ok-cover.cover.items c.args.roots long
    (c.in_ok-cover.ensures bound (event_threshold c.args.grid.now bound c.args.margin) explored.settled) in
    found_none c.args.grid.now roots bound c.args.margin c.args.met.now c.args.best are falls explored c.in_ok-cover.cover.items (length c.args.met.now)
    c.if-best-eq0.true boxes refl

pub near_nodes-requires : goal.near_nodes-requires
near_nodes-requires c =
    let ended = c.requires.ended in
    let boxes = cover_is c.args.grid.now ended.roots ended.bound c.args.margin c.args.met.now c.args.best ended.are ended.falls ended.explored c.in_ok-cover.cover.items c.args.roots ended.long
    (c.in_ok-cover.ensures ended.bound (event_threshold c.args.grid.now ended.bound c.args.margin) ended.explored.settled) in
    record {
      inside = subst (All (λ (b : BoxBound). IsIn c.args.grid.now b.area)) (sym c.deref.ensures.value)
          (cover_boxes_inside c.args.grid.now ended.roots ended.bound (event_threshold c.args.grid.now ended.bound c.args.margin) ended.are ended.falls c.in_ok-cover.cover.items boxes);
    }

pub returns-then-len-gt-NEAR_LIMIT : goal.returns-then-len-gt-NEAR_LIMIT
returns-then-len-gt-NEAR_LIMIT c = λ roots bound long are falls explored.
    let boxes = cover_is c.args.grid.now roots bound c.args.margin c.args.met.now c.args.best are falls explored c.in_ok-cover.cover.items c.args.roots long
    (c.in_ok-cover.ensures bound (event_threshold c.args.grid.now bound c.args.margin) explored.settled) in
    let least = least_is c.args.grid.now roots bound c.args.margin c.args.met.now c.args.best are falls explored c.threshold.result c.threshold.ensures in
    let near = near_found c.args.grid.now roots bound c.args.margin c.args.met.now c.args.best are falls explored c.in_ok-cover.cover.items c.threshold.result c.in_ok-near.near.items
    boxes least (rw c.deref.ensures.value at c.in_ok-near.ensures.same) c.in_ok-near.ensures.order in
    found_many c.args.grid.now roots bound c.args.margin c.args.met.now c.args.best are falls explored c.in_ok-near.near.items
    c.if-best-eq0.false near (omega (arith, c.if-len-gt-NEAR_LIMIT.true, c.len.ensures))

pub returns : goal.returns
returns c = λ roots bound long are falls explored.
    let boxes = cover_is c.args.grid.now roots bound c.args.margin c.args.met.now c.args.best are falls explored c.in_ok-cover.cover.items c.args.roots long
    (c.in_ok-cover.ensures bound (event_threshold c.args.grid.now bound c.args.margin) explored.settled) in
    let least = least_is c.args.grid.now roots bound c.args.margin c.args.met.now c.args.best are falls explored c.threshold.result c.threshold.ensures in
    let near = near_found c.args.grid.now roots bound c.args.margin c.args.met.now c.args.best are falls explored c.in_ok-cover.cover.items c.threshold.result c.in_ok-near.near.items
    boxes least (rw c.deref.ensures.value at c.in_ok-near.ensures.same) c.in_ok-near.ensures.order in
    let hyp = hyp_found c.args.grid.now roots bound c.args.margin c.args.met.now c.args.best are falls explored c.first_with.result c.in_ok-near.near.items
    c.if-best-eq0.false near (rw c.deref-2.ensures.value at c.first_with.ensures) in
    found_located c.args.grid.now roots bound c.args.margin c.args.met.now c.args.best are falls explored c.first_with.result c.in_ok-near.near.items c.in_ok-cover.cover.items
    (length c.args.met.now) c.if-best-eq0.false hyp near (omega (arith, c.if-len-gt-NEAR_LIMIT.false, c.len.ensures)) boxes refl
