use Rattle.std.proofs.Common.{◌≡◌, arith, length, sym}
use Rattle.edt_score.specs.Judging.{BoundsFall}
use Rattle.octree_search.specs.Arena.{IsExplored}
use Rattle.octree_search.specs.Outcomes.{found_of, found_value}
use Rattle.search_lanes.proofs.LaneOutcomes.{at_ok, falls_here, found_budget, found_outcome, found_shortest, lanes_ended, lanes_explored}
use Rattle.search_lanes.proofs.lanes.Lanes.outcome.Goals as goal

pub returns-then-self-clause-value : goal.returns-then-self-clause-value
returns-then-self-clause-value g c =
    let l = c.self.inside in (
      sym c.if-not-is_finished.ensures,
      found_budget l.grid l.roots.items l.margin l.budget l.met.items l.waiting.items l.slots.items l.upper l.over c.args.self.now c.self.view_is c.self.invariant
          (g.J.Judge.grid c.args.judge.now) (g.J.Judge.roots c.args.judge.now) (g.J.Judge.bound_of c.args.judge.now) c.requires.fits (g.met.J.Judge.falls c.args.judge.now)
          c.if-self.true,
    )

pub found_from-requires-clause-ended : goal.found_from-requires-clause-ended
found_from-requires-clause-ended g c =
    let l = c.self.inside in
    rw c.deref.ensures.value (lanes_ended l.grid l.roots.items l.margin l.budget l.met.items l.waiting.items l.slots.items l.upper l.over c.args.self.now c.self.view_is c.self.invariant
    (g.J.Judge.grid c.args.judge.now) (g.J.Judge.roots c.args.judge.now) (g.J.Judge.bound_of c.args.judge.now) c.requires.fits (g.met.J.Judge.falls c.args.judge.now)
    c.len.result (omega (arith, c.len.ensures, c.self.inside.roots.ok.0)) c.if-self.false (sym c.if-not-is_finished.ensures))

pub returns-clause-value : goal.returns-clause-value
returns-clause-value g c =
    let l = c.self.inside in
    let bound = g.J.Judge.bound_of c.args.judge.now in
    let explored : IsExplored l.grid l.roots.items bound l.margin l.met.items l.upper =
    lanes_explored l.grid l.roots.items l.margin l.budget l.met.items l.waiting.items l.slots.items l.upper l.over c.args.self.now c.self.view_is c.self.invariant
    (g.J.Judge.grid c.args.judge.now) (g.J.Judge.roots c.args.judge.now) bound c.requires.fits (g.met.J.Judge.falls c.args.judge.now)
    c.if-self.false (sym c.if-not-is_finished.ensures) in
    let falls : BoundsFall l.grid l.roots.items bound =
    falls_here l.grid l.roots.items l.margin l.budget l.met.items l.waiting.items l.slots.items l.upper l.over c.args.self.now c.self.view_is c.self.invariant
    (g.J.Judge.grid c.args.judge.now) (g.J.Judge.roots c.args.judge.now) bound c.requires.fits (g.met.J.Judge.falls c.args.judge.now) in
    let long : length l.roots.items ≡ c.len.result = omega (arith, c.len.ensures, l.roots.ok.0) in
    let found : found_value c.in_ok-found.found ≡ found_of l.grid l.roots.items bound l.margin =
    at_ok (λ f. found_value f ≡ found_of l.grid l.roots.items bound l.margin) c.found_from.result c.in_ok-found.found
    (c.found_from.ensures l.roots.items bound long c.self.invariant.are falls (rw c.deref.ensures.value explored)) c.in_ok-found.was in (
      sym c.if-not-is_finished.ensures,
      found_outcome l.grid l.roots.items l.margin l.budget l.met.items l.waiting.items l.slots.items l.upper l.over c.args.self.now c.self.view_is c.self.invariant
          (g.J.Judge.grid c.args.judge.now) (g.J.Judge.roots c.args.judge.now) bound c.requires.fits (g.met.J.Judge.falls c.args.judge.now)
          c.if-self.false (sym c.if-not-is_finished.ensures) c.in_ok-found.found found,
    )

pub returns-clause-shortest : goal.returns-clause-shortest
returns-clause-shortest g c =
    let l = c.self.inside in
    let bound = g.J.Judge.bound_of c.args.judge.now in
    let explored : IsExplored l.grid l.roots.items bound l.margin l.met.items l.upper =
    lanes_explored l.grid l.roots.items l.margin l.budget l.met.items l.waiting.items l.slots.items l.upper l.over c.args.self.now c.self.view_is c.self.invariant
    (g.J.Judge.grid c.args.judge.now) (g.J.Judge.roots c.args.judge.now) bound c.requires.fits (g.met.J.Judge.falls c.args.judge.now)
    c.if-self.false (sym c.if-not-is_finished.ensures) in
    let falls : BoundsFall l.grid l.roots.items bound =
    falls_here l.grid l.roots.items l.margin l.budget l.met.items l.waiting.items l.slots.items l.upper l.over c.args.self.now c.self.view_is c.self.invariant
    (g.J.Judge.grid c.args.judge.now) (g.J.Judge.roots c.args.judge.now) bound c.requires.fits (g.met.J.Judge.falls c.args.judge.now) in
    let long : length l.roots.items ≡ c.len.result = omega (arith, c.len.ensures, l.roots.ok.0) in
    let found : found_value c.in_ok-found.found ≡ found_of l.grid l.roots.items bound l.margin =
    at_ok (λ f. found_value f ≡ found_of l.grid l.roots.items bound l.margin) c.found_from.result c.in_ok-found.found
    (c.found_from.ensures l.roots.items bound long c.self.invariant.are falls (rw c.deref.ensures.value explored)) c.in_ok-found.was in
    found_shortest l.grid l.roots.items l.margin l.budget l.met.items l.waiting.items l.slots.items l.upper l.over c.args.self.now c.self.view_is c.self.invariant
    (g.J.Judge.grid c.args.judge.now) (g.J.Judge.roots c.args.judge.now) bound c.requires.fits (g.met.J.Judge.falls c.args.judge.now)
    c.if-self.false (sym c.if-not-is_finished.ensures) c.in_ok-found.found found
