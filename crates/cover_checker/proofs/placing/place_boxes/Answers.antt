use Rattle.std.proofs.Common.{rules, ◌≡◌, ◌+◌, ◌<◌, ◌∙◌, ℕ, List, None, Some, ap, sym, arith, subst, All, AllPairs, drop, get_or, length, take}
use Rattle.std.specs.List.{enumerate_from, find}
use Rattle.std.proofs.lemmas.List.{length-take-le, take_more}
use Rattle.node_boxes.specs.declared.node_box.BoxBound.{BoxBound}
use Rattle.node_boxes.specs.Boxes.{IsIn}
use Rattle.node_boxes.specs.BoxNodes.{box_nodes}
use Rattle.node_boxes.proofs.Nodes.{box_nodes-below, box_nodes-order}
use Rattle.cover_checker.specs.Covers.{first_of, is_held, placing_fault}
use Rattle.cover_checker.specs.Inside.Marking.{IsMarked}
use Rattle.cover_checker.proofs.PlacingSteps.{fault_none, fault_twice, found_held, in_from, is_marked, mark_after, marked_more}
use Rattle.cover_checker.proofs.Searches.{first_of-more, no_box}
use Rattle.cover_checker.proofs.placing.place_boxes.Goals as goal

pub mark_nodes-requires-clause-inside : goal.mark_nodes-requires-clause-inside
mark_nodes-requires-clause-inside c =
    let grid = c.args.grid.now in
    let area = (get_or c.args.boxes.now c.loop-i.i no_box).area in
    let kept = c.loop-i.invariant.kept in
    subst (All (λ node. node < length c.loop-i.marks)) (sym c.new.ensures) (λ k d below. omega (arith, box_nodes-below grid area k d below, kept))

pub mark_nodes-requires-clause-order : goal.mark_nodes-requires-clause-order
mark_nodes-requires-clause-order c =
    subst (AllPairs ◌<◌) (sym c.new.ensures) (box_nodes-order c.args.grid.now (get_or c.args.boxes.now c.loop-i.i no_box).area)

pub returns-in-Some-clause-value : goal.returns-in-Some-clause-value
returns-in-Some-clause-value c =
    let grid = c.args.grid.now in
    let boxes = c.args.boxes.now in
    let i = c.loop-i.i in
    let b = get_or boxes i no_box in
    let below : i < length boxes = search rules in
    let lies : IsIn grid b.area = search rules in
    let found : find (is_held grid (take i boxes)) (box_nodes grid b.area) ≡ Some c.in-Some.node =
    sym (c.in-Some.ensures.first ∙ ap (find (is_marked c.loop-i.marks)) c.new.ensures ∙ found_held grid (take i boxes) b c.loop-i.marks c.loop-i.invariant.marked) in
    let rest = first_of (placing_fault grid boxes) (enumerate_from (i + 1) (drop (i + 1) boxes)) in
    sym (fault_twice grid boxes i b rest c.in-Some.node (in_from grid b.area lies) found)
    ∙ sym (first_of-more (placing_fault grid boxes) boxes i no_box below) ∙ c.loop-i.invariant.left

pub loop-i-preserved : goal.loop-i-preserved
loop-i-preserved c =
    let grid = c.args.grid.now in
    let boxes = c.args.boxes.now in
    let i = c.loop-i.i in
    let b = get_or boxes i no_box in
    let before = c.loop-i.invariant in
    let marks = c.loop-i.marks in
    let below : i < length boxes = search rules in
    let lies : IsIn grid b.area = search rules in
    let none : find (is_held grid (take i boxes)) (box_nodes grid b.area) ≡ None =
    sym (c.in_default.ensures.first ∙ ap (find (is_marked marks)) c.new.ensures ∙ found_held grid (take i boxes) b marks before.marked) in
    let written : (k : ℕ) → k < length marks → get_or c.mark_nodes.new.marks k 0 ≡ mark_after (box_nodes grid b.area) (i + 1) marks k =
    λ k within. c.in_default.ensures.marked k within ∙ ap (λ nodes. mark_after nodes (i + 1) marks k) c.new.ensures in
    let long : i + 1 ≡ length (take i boxes) + 1 = omega (arith, length-take-le i boxes (omega arith)) in
    let rest = first_of (placing_fault grid boxes) (enumerate_from (i + 1) (drop (i + 1) boxes)) in
    record {
      kept = c.mark_nodes.ensures.kept ∙ before.kept;
      marked = subst (λ (bs : List BoxBound). IsMarked grid bs c.mark_nodes.new.marks) (sym (take_more boxes i no_box below))
          (marked_more grid (take i boxes) b marks c.mark_nodes.new.marks (i + 1) before.kept long before.marked none written);
      left = sym (fault_none grid boxes i b rest (in_from grid b.area lies) none)
          ∙ sym (first_of-more (placing_fault grid boxes) boxes i no_box below) ∙ before.left;
    }
