use Rattle.node_boxes.specs.Boxes.{node_count_of}
use Rattle.minmax_pyramid.proofs.descent.+span_below.Given as goal

abbrev pub decreases-span_below : goal.decreases-span_below
decreases-span_below l = node_count_of l.area.now
