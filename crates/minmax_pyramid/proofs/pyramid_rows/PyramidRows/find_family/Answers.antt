use Rattle.std.proofs.Common.{sym, subst, arith, List}
use Rattle.std.specs.List.{AllByRecursion}
use Rattle.node_boxes.specs.declared.node_box.NodeBox.{NodeBox}
use Rattle.node_boxes.specs.Boxes.{IsIn, IsNonempty}
use Rattle.node_boxes.proofs.Lists.{all-weaker}
use Rattle.node_boxes.proofs.OctreeBoxes.{in_nonempty}
use Rattle.minmax_pyramid.proofs.pyramid_rows.PyramidRows.find_family.Goals as goal

pub find_family-requires-clause-below : goal.find_family-requires-clause-below
find_family-requires-clause-below c =
    omega (arith, c.in_ok-root.ensures.below, c.deref.ensures.len, c.deref-2.ensures.len)

pub find_family-requires-clause-some : goal.find_family-requires-clause-some
find_family-requires-clause-some c =
    let P : List NodeBox → Type 0 = λ xs. AllByRecursion IsNonempty xs in
    subst P (sym c.deref-2.ensures.value)
    (all-weaker (IsIn c.self.inside.grid) IsNonempty (in_nonempty c.self.inside.grid) c.self.inside.roots.items
    c.self.invariant.roots_are.inside)
