use Rattle.std.proofs.Common.{get_or}
use Rattle.std.proofs.lemmas.List.Elements.{Contains-get_or}
use Rattle.node_boxes.specs.Octree.{Root}
use Rattle.minmax_pyramid.proofs.FamilySteps.{no_box, way_octree}
use Rattle.minmax_pyramid.proofs.laws.family_law.Goals as goal

pub returns : goal.returns
returns c roots family is =
    let root = get_or roots family.root no_box in
    way_octree roots root family.places family.parent
    (Root root (Contains-get_or roots family.root no_box is.below)) (is.down no_box)
