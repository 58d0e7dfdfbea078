use Rattle.std.proofs.Common.{◌<◌}
use Rattle.std.proofs.lemmas.List.Elements.{All-from_recursion}
use Rattle.node_boxes.specs.Boxes.{IsPartOf, node_count_of}
use Rattle.node_boxes.specs.Children.{children_of}
use Rattle.node_boxes.proofs.ChildBoxes.{children_count, children_parts, children_smaller, children_once}
use Rattle.node_boxes.proofs.laws.children_law.Goals as goal

pub returns-clause-count : goal.returns-clause-count
returns-clause-count c a split = children_count a split

pub returns-clause-parts : goal.returns-clause-parts
returns-clause-parts c a some = All-from_recursion (IsPartOf a) (children_of a) (children_parts a some)

pub returns-clause-smaller : goal.returns-clause-smaller
returns-clause-smaller c a split =
    All-from_recursion (λ c. node_count_of c < node_count_of a) (children_of a) (children_smaller a split)

pub returns-clause-once : goal.returns-clause-once
returns-clause-once c a ix iy iz some = children_once a ix iy iz some
