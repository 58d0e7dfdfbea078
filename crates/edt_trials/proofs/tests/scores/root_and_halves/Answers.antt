use Rattle.std.proofs.Common.{rules, ◌≡◌, ◌∙◌, ◌<◌, Some, false, sym, ap, subst, get_or, length, slice_get}
use Rattle.std.proofs.lemmas.List.Elements.{Contains-get_or}
use Rattle.node_boxes.specs.declared.node_box.NodeBox.{NodeBox}
use Rattle.node_boxes.specs.Boxes.{is_single}
use Rattle.node_boxes.specs.Children.{children_of}
use Rattle.node_boxes.specs.Octree.{Child, IsOctreeBox, Root}
use Rattle.edt_score.proofs.KeptFamilies.{child_contained}
use Rattle.edt_trials.proofs.tests.scores.root_and_halves.Goals as goal

no_box : NodeBox
no_box = record { x0 = 0; x1 = 0; y0 = 0; y1 = 0; z0 = 0; z1 = 0 }

pub bound-whole-requires-clause-tree : goal.bound-whole-requires-clause-tree
unfolding no_box
bound-whole-requires-clause-tree g c =
    let below : 0 < length c.args.roots.now = search rules in
    let root = get_or c.args.roots.now 0 no_box in
    rw c.requires.roots (Root root (Contains-get_or c.args.roots.now 0 no_box below))

pub bound-first_half-requires-clause-tree : goal.bound-first_half-requires-clause-tree
unfolding no_box
bound-first_half-requires-clause-tree g c =
    let below : 0 < length c.args.roots.now = search rules in
    let root = get_or c.args.roots.now 0 no_box in
    let several : is_single root ≡ false = search rules in
    let at : slice_get (children_of root) 0 ≡ Some c.in-Some.first = ap (λ cs. slice_get cs 0) (sym c.children-children.ensures) ∙ sym c.get.ensures ∙ c.in-Some.is in
    let tree : IsOctreeBox c.args.roots.now root = Root root (Contains-get_or c.args.roots.now 0 no_box below) in
    rw (c.bound-whole.ensures.same_roots, c.requires.roots) (Child root c.in-Some.first tree several (child_contained root c.in-Some.first 0 at))

pub bound-requires-clause-tree : goal.bound-requires-clause-tree
unfolding no_box
bound-requires-clause-tree g c =
    let below : 0 < length c.args.roots.now = search rules in
    let root = get_or c.args.roots.now 0 no_box in
    let several : is_single root ≡ false = search rules in
    let at : slice_get (children_of root) 1 ≡ Some c.in-Some-get.second = ap (λ cs. slice_get cs 1) (sym c.children-children.ensures) ∙ sym c.get-2.ensures ∙ c.in-Some-get.is in
    let tree : IsOctreeBox c.args.roots.now root = Root root (Contains-get_or c.args.roots.now 0 no_box below) in
    rw (c.bound-first_half.ensures.same_roots, c.bound-whole.ensures.same_roots, c.requires.roots)
    (Child root c.in-Some-get.second tree several (child_contained root c.in-Some-get.second 1 at))
