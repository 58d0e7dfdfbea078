-- What a family keeps.
use Rattle.std.specs.Prelude.{◌≡◌, ℕ, List, ◌≤◌, length, take}
use Rattle.minmax_pyramid.specs.declared.family.Way.{Way}
use Rattle.minmax_pyramid.specs.Families.{FamilyWay, IsFamilyOf}
use Rattle.node_boxes.specs.declared.node_box.NodeBox.{NodeBox}
use Rattle.node_boxes.specs.Boxes.{IsSplittable}
use Rattle.node_boxes.specs.Children.{children_of}

-- the children of the parent stand first among eight boxes
pub record KeepsChildren (parent : NodeBox) (children : List NodeBox) (count : ℕ) : Type 0 where
  pub split : IsSplittable parent
  pub few : count ≤ 8
  pub room : length children ≡ 8
  pub are : take count children ≡ children_of parent

-- the way as others see it
abbrev pub family_way : Way → FamilyWay
family_way way = record { root = way.root; places = take way.len way.places; parent = way.parent }

-- the way of at most sixteen steps leads down to its parent
pub record IsWayTo (roots : List NodeBox) (way : Way) : Type 0 where
  pub few : way.len ≤ 16
  pub family : IsFamilyOf roots (family_way way)
