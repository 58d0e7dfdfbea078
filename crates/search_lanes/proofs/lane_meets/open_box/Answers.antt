use Rattle.std.proofs.Common.{sym, subst, All}
use Rattle.std.proofs.lemmas.List.Elements.{All-from_recursion}
use Rattle.node_boxes.specs.Children.{children_of}
use Rattle.node_boxes.specs.Octree.{IsOctreeBox}
use Rattle.octree_search.proofs.Scores.{octree_children}
use Rattle.search_lanes.proofs.lane_meets.open_box.Goals as goal

pub meet_all-requires-clause-tree : goal.meet_all-requires-clause-tree
meet_all-requires-clause-tree g c =
    let roots = g.J.Judge.roots c.args.judge.now in
    let a = c.args.held.now.area in
    let all : All (IsOctreeBox roots) (children_of a) =
    All-from_recursion (IsOctreeBox roots) (children_of a) (octree_children roots a c.requires.tree c.requires.several.several (children_of a) (λ b at. at)) in
    subst (All (IsOctreeBox roots)) (sym (rw c.children.ensures at c.list-count.ensures.value)) all
