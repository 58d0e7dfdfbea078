use Rattle.std.proofs.Common.{◌≡◌, ◌+◌, ◌*◌, length}
use Rattle.node_boxes.specs.BoxNodes.{box_nodes}
use Rattle.cover_checker.specs.Inside.Walks.{AreSpansOf}
use Rattle.cover_checker.proofs.BoundSteps.{AreOrdered}
use Rattle.cover_checker.proofs.box_bounds.fill_spans.Given as goal

abbrev pub invariant-loop-i : goal.invariant-loop-i
invariant-loop-i g l = record {
  picks : g.L.Look.picks l.look ≡ g.L.Look.picks l.initial.look;
  nodes : g.L.Look.nodes l.look ≡ g.L.Look.nodes l.initial.look;
  times : g.L.Look.times l.look ≡ g.L.Look.times l.initial.look;
  count : g.L.Look.count l.look ≡ g.L.Look.count l.initial.look + l.i * length (box_nodes l.grid l.area);
  room : length l.spans ≡ length l.initial.spans;
  spans : AreSpansOf (g.L.Look.times l.initial.look) (box_nodes l.grid l.area) l.i l.spans;
  sound : AreOrdered l.i l.spans;
}
