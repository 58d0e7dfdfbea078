use Rattle.std.proofs.Common.{◌≡◌, ◌+◌, ◌<◌, arith, sym, length, get_or}
use Rattle.std.proofs.lemmas.List.{append-nil}
use Rattle.node_boxes.specs.Children.{children_of}
use Rattle.octree_search.specs.Arena.{no_box}
use Rattle.octree_search.proofs.Walking.{open_entry, child_entry, leaf_cover, more_cover, open_cover}
use Rattle.octree_search.proofs.covering.+push_cover.Goals as goal

pub returns-in_default : goal.returns-in_default
returns-in_default t c =
    λ bound s settled. leaf_cover c.args.met.now c.args.place c.args.boxes.now.items c.push.new.self.items bound s c.requires.place c.in_default.is settled
    c.in_ok-push.ensures.items

pub loop-child-init : goal.loop-child-init
loop-child-init t c = λ bound s settled. sym (append-nil c.args.boxes.now.items)

pub push_cover-requires : goal.push_cover-requires
push_cover-requires t c =
    let kids : c.len-child-end.result ≡ length (children_of (get_or c.args.met.now c.args.place no_box).area) = rw c.children.ensures at c.len-child-end.ensures.value in
    let entry = open_entry c.args.met.now c.args.place c.in-Some.first_child c.requires.tree c.requires.place c.in-Some.is in
    let child = child_entry c.args.met.now c.args.place c.in-Some.first_child c.loop-child.child entry (omega (arith, kids, c.loop-child-test.true)) in
    (omega (arith, child.smaller, c.decreases), (c.requires.tree, child.within))

pub loop-child-preserved : goal.loop-child-preserved
loop-child-preserved t c = λ bound s settled.
    let kids : c.len-child-end.result ≡ length (children_of (get_or c.args.met.now c.args.place no_box).area) = rw c.children.ensures at c.len-child-end.ensures.value in
    let entry = open_entry c.args.met.now c.args.place c.in-Some.first_child c.requires.tree c.requires.place c.in-Some.is in
    let below : c.loop-child.child < length (children_of (get_or c.args.met.now c.args.place no_box).area) = omega (arith, kids, c.loop-child-test.true) in
    let child = child_entry c.args.met.now c.args.place c.in-Some.first_child c.loop-child.child entry below in
    more_cover c.args.boxes.now.items c.loop-child.boxes.items c.push_cover.new.boxes.items (children_of (get_or c.args.met.now c.args.place no_box).area) c.loop-child.child
    no_box.area (get_or c.args.met.now (c.in-Some.first_child + c.loop-child.child) no_box).area bound s below child.area
    (c.loop-child.invariant bound s settled) (c.in_ok-push_cover.ensures bound s settled)

pub returns : goal.returns
returns t c = λ bound s settled.
    let kids : c.len-child-end.result ≡ length (children_of (get_or c.args.met.now c.args.place no_box).area) = rw c.children.ensures at c.len-child-end.ensures.value in
    let entry = open_entry c.args.met.now c.args.place c.in-Some.first_child c.requires.tree c.requires.place c.in-Some.is in
    open_cover c.args.met.now c.args.place c.in-Some.first_child c.loop-child.child c.args.boxes.now.items c.loop-child.boxes.items bound s c.requires.place c.in-Some.is entry
    (omega (arith, kids, c.loop-child-test.false)) settled (c.loop-child.invariant bound s settled)
