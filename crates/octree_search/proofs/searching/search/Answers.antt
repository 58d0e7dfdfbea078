use Rattle.std.proofs.Common.{◌≡◌, ◌+◌, ◌≤◌, ◌<◌, List, arith, ◌∙◌, refl, subst, length}
use Rattle.std.proofs.lemmas.Option.{MatchOption-at_some, MatchOption-at_none}
use Rattle.node_boxes.specs.declared.node_box.NodeBox.{NodeBox}
use Rattle.node_boxes.specs.Grid.{GridSize}
use Rattle.edt_score.specs.Judging.{BoundsFall}
use Rattle.octree_search.specs.Fewest.{IsCoverShortest}
use Rattle.octree_search.specs.Outcomes.{event_met, event_threshold, found_of, found_value, outcome_of}
use Rattle.octree_search.specs.Arena.{IsExplored}
use Rattle.octree_search.proofs.Findings.{outcome_within, outcome_past, asks_all, shortest_found, ok_then, asks_result}
use Rattle.octree_search.proofs.searching.search.Goals as goal

pub returns-in_default-clause-value : goal.returns-in_default-clause-value
returns-in_default-clause-value g c =
    let bound = g.J.Judge.bound_of c.args.judge.now in
    let past : c.args.budget < event_met (g.J.Judge.grid c.args.judge.now) c.args.roots.now bound c.args.margin =
    MatchOption-at_none _ _ c.in_default.is c.in_ok-explored.ensures.explored in
    outcome_past c.args.grid.now c.args.roots.now bound c.args.margin c.args.budget
    (subst (λ (size : GridSize). c.args.budget < event_met size c.args.roots.now bound c.args.margin) c.requires.grid past)

pub returns-clause-value : goal.returns-clause-value
returns-clause-value g c =
    let bound = g.J.Judge.bound_of c.args.judge.now in
    let roots = c.args.roots.now in
    let grid = c.args.grid.now in
    let falls : BoundsFall grid roots bound =
    subst (λ (size : GridSize). BoundsFall size roots bound) c.requires.grid
    (subst (λ (r : List NodeBox). BoundsFall (g.J.Judge.grid c.args.judge.now) r bound) c.requires.judge_roots (g.met.J.Judge.falls c.args.judge.now)) in
    let met : IsExplored (g.J.Judge.grid c.args.judge.now) roots bound c.args.margin c.in-Some.explored.met.items c.in-Some.explored.best =
    MatchOption-at_some _ _ c.in-Some.explored c.in-Some.is c.in_ok-explored.ensures.explored in
    let explored : IsExplored grid roots bound c.args.margin c.in-Some.explored.met.items c.in-Some.explored.best =
    subst (λ (size : GridSize). IsExplored size roots bound c.args.margin c.in-Some.explored.met.items c.in-Some.explored.best) c.requires.grid met in
    let few : length c.in-Some.explored.met.items ≤ c.args.budget = MatchOption-at_some _ _ c.in-Some.explored c.in-Some.is c.in_ok-explored.ensures.few in
    let within = outcome_within grid roots bound c.args.margin c.args.budget (omega (arith, few, explored.count)) in
    ok_then (λ f. found_value f ≡ found_of grid roots bound c.args.margin) (λ f. found_value f ≡ outcome_of grid roots bound c.args.margin c.args.budget)
    c.found_from.result (λ f is. is ∙ within)
    (c.found_from.ensures roots bound refl c.requires.roots falls (rw c.deref.ensures.value explored))

pub returns-clause-shortest : goal.returns-clause-shortest
returns-clause-shortest g c =
    let bound = g.J.Judge.bound_of c.args.judge.now in
    let roots = c.args.roots.now in
    let grid = c.args.grid.now in
    let falls : BoundsFall grid roots bound =
    subst (λ (size : GridSize). BoundsFall size roots bound) c.requires.grid
    (subst (λ (r : List NodeBox). BoundsFall (g.J.Judge.grid c.args.judge.now) r bound) c.requires.judge_roots (g.met.J.Judge.falls c.args.judge.now)) in
    let met : IsExplored (g.J.Judge.grid c.args.judge.now) roots bound c.args.margin c.in-Some.explored.met.items c.in-Some.explored.best =
    MatchOption-at_some _ _ c.in-Some.explored c.in-Some.is c.in_ok-explored.ensures.explored in
    let explored : IsExplored grid roots bound c.args.margin c.in-Some.explored.met.items c.in-Some.explored.best =
    subst (λ (size : GridSize). IsExplored size roots bound c.args.margin c.in-Some.explored.met.items c.in-Some.explored.best) c.requires.grid met in
    let few : length c.in-Some.explored.met.items ≤ c.args.budget = MatchOption-at_some _ _ c.in-Some.explored c.in-Some.is c.in_ok-explored.ensures.few in
    let within = outcome_within grid roots bound c.args.margin c.args.budget (omega (arith, few, explored.count)) in
    ok_then (λ f. found_value f ≡ found_of grid roots bound c.args.margin) (IsCoverShortest roots bound (event_threshold grid bound c.args.margin))
    c.found_from.result (λ f is. shortest_found grid roots bound c.args.margin c.args.budget c.requires.roots f (is ∙ within))
    (c.found_from.ensures roots bound refl c.requires.roots falls (rw c.deref.ensures.value explored))

pub returns-clause-asked : goal.returns-clause-asked
returns-clause-asked g c =
    let bound = g.J.Judge.bound_of c.args.judge.now in
    let roots = c.args.roots.now in
    let grid = c.args.grid.now in
    let met : IsExplored (g.J.Judge.grid c.args.judge.now) roots bound c.args.margin c.in-Some.explored.met.items c.in-Some.explored.best =
    MatchOption-at_some _ _ c.in-Some.explored c.in-Some.is c.in_ok-explored.ensures.explored in
    let explored : IsExplored grid roots bound c.args.margin c.in-Some.explored.met.items c.in-Some.explored.best =
    subst (λ (size : GridSize). IsExplored size roots bound c.args.margin c.in-Some.explored.met.items c.in-Some.explored.best) c.requires.grid met in
    let few : length c.in-Some.explored.met.items ≤ c.args.budget = MatchOption-at_some _ _ c.in-Some.explored c.in-Some.is c.in_ok-explored.ensures.few in
    let asked : g.J.Judge.count c.explore.new.judge ≡ g.J.Judge.count c.args.judge.now + length c.in-Some.explored.met.items =
    MatchOption-at_some _ _ c.in-Some.explored c.in-Some.is c.in_ok-explored.ensures.asked in
    asks_result c.found_from.result
    (asks_all (g.J.Judge.count c.args.judge.now) (g.J.Judge.count c.explore.new.judge) c.args.budget (event_met grid roots bound c.args.margin)
    (omega (arith, asked, explored.count)) (omega (arith, few, explored.count)))
