use Rattle.std.proofs.Common.{◌≡◌, ℕ, map, rules, ◌<◌, ◌≤◌, ◌∙◌, ap, arith, subst, length}
use Rattle.std.proofs.lemmas.List.{get_or_default}
use Rattle.minmax_pyramid.specs.Spans.{span_over}
use Rattle.edt_score.specs.Bound.{IsTimeSpan}
use Rattle.node_boxes.specs.BoxNodes.{box_nodes}
use Rattle.cover_checker.proofs.BoundSteps.{least_most, looks_step, ordered_step, spans_step}
use Rattle.cover_checker.proofs.box_bounds.fill_spans.Goals as goal

pub loop-i-preserved : goal.loop-i-preserved
loop-i-preserved g c =
    let before = c.loop-i.invariant in
    let nodes = box_nodes c.args.grid.now c.args.area.now in
    let i = c.loop-i.i in
    let times = g.L.Look.times c.args.look.now in
    let below : i < length c.loop-i.spans = search rules in
    let is : c.span.result ≡ span_over (times i) nodes =
    c.span.ensures.value ∙ ap (λ f. span_over (f i) nodes) before.times in
    let sound : IsTimeSpan c.span.result = record {
      order = let most = least_most (map (times i) nodes) in omega (arith, ap (λ (s : ℕ × ℕ). s.0) is, ap (λ (s : ℕ × ℕ). s.1) is, most);
      limit = let fits = c.span.type_inv in omega arith;
    } in
    record {
      picks = c.span.ensures.same_picks ∙ before.picks;
      nodes = c.span.ensures.same_nodes ∙ before.nodes;
      times = c.span.ensures.same_times ∙ before.times;
      count = c.span.ensures.looked
          ∙ looks_step (g.L.Look.count c.args.look.now) i (length nodes) (g.L.Look.count c.loop-i.look) before.count;
      room = search rules;
      spans = spans_step times nodes i c.loop-i.spans c.span.result below is before.spans;
      sound = ordered_step i c.loop-i.spans c.span.result below sound before.sound;
    }

pub returns-clause-times : goal.returns-clause-times
returns-clause-times g c =
    let past : length c.loop-i.spans ≤ c.loop-i.i = search rules in
    λ k d below. subst IsTimeSpan (get_or_default c.loop-i.spans k (0, 0) d below) (c.loop-i.invariant.sound k (omega (arith, below, past)))
