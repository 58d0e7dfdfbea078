-- What holds of every run, in the words of its law.
use Rattle.std.proofs.Common.{◌≡◌, ℕ, ◌≤◌, false, List, map, sym, ◌∙◌}
use Rattle.std.specs.List.{AllByRecursion}
use Rattle.node_boxes.specs.declared.node_box.NodeBox.{NodeBox}
use Rattle.node_boxes.specs.declared.node_box.BoxBound.{BoxBound}
use Rattle.node_boxes.specs.Grid.{GridSize}
use Rattle.node_boxes.specs.Roots.{AreRoots}
use Rattle.node_boxes.proofs.Lists.{sum_by-map}
use Rattle.edt_score.specs.Judging.{BoundsFall}
use Rattle.octree_search.specs.Cover.{stops}
use Rattle.octree_search.specs.Near.{best_of}
use Rattle.octree_search.specs.Outcomes.{bounded, event_threshold}
use Rattle.search_lanes.specs.declared.lane_events.LaneEvent.{LaneEvent}
use Rattle.search_lanes.specs.Lanes.{LaneState, boxes_of, held, start, upper_of}
use Rattle.search_lanes.specs.LaneCuts.{IsDivided}
use Rattle.search_lanes.specs.LaneRuns.{IsEndOf, IsFinishedRun, Run}
use Rattle.search_lanes.proofs.SameElements.{same_boxes}
use Rattle.search_lanes.proofs.LaneRuns.{IsGoing, bag_covers, run_keeps, start_kept}
use Rattle.search_lanes.proofs.RunEnds.{run_ends}

-- what a finished run leads to
pub finished_ends : (g : GridSize) (roots : List NodeBox) (bound : NodeBox → ℕ) (margin budget lanes : ℕ) (events : List LaneEvent)
    → AreRoots g roots → BoundsFall g roots bound → (run : IsFinishedRun bound margin budget lanes roots events)
    → IsEndOf g roots bound margin budget run.end
finished_ends g roots bound margin budget lanes events are falls run =
    run_ends g roots bound margin budget are falls lanes events run.end run.run run.finished

-- what is known of each state that a run comes to
run_going : (g : GridSize) (roots : List NodeBox) (bound : NodeBox → ℕ) (margin budget lanes : ℕ) (events : List LaneEvent) (s : LaneState)
    → (are : AreRoots g roots) (falls : BoundsFall g roots bound) → Run bound margin budget (start bound budget lanes roots) events s
    → s.over ≡ false → IsGoing g roots bound margin s
run_going g roots bound margin budget lanes events s are falls run open' =
    (run_keeps g roots bound margin budget are falls events (start bound budget lanes roots) s run
    (start_kept g roots bound margin budget are falls lanes)).going open'

-- the rule of the cover opens each box that a lane holds
pub holds_opened : (g : GridSize) (roots : List NodeBox) (bound : NodeBox → ℕ) (margin budget lanes : ℕ) (events : List LaneEvent) (s : LaneState)
    → AreRoots g roots → BoundsFall g roots bound → Run bound margin budget (start bound budget lanes roots) events s → s.over ≡ false
    → AllByRecursion (λ (b : BoxBound). stops bound (event_threshold g bound margin) b.area ≡ false) (held s.lanes)
holds_opened g roots bound margin budget lanes events s are falls run open' =
    (run_going g roots bound margin budget lanes events s are falls run open').opens

-- no node scores more than the greatest bound
pub covers_best : (g : GridSize) (roots : List NodeBox) (bound : NodeBox → ℕ) (margin budget lanes : ℕ) (events : List LaneEvent) (s : LaneState)
    → AreRoots g roots → BoundsFall g roots bound → Run bound margin budget (start bound budget lanes roots) events s → s.over ≡ false
    → best_of g bound ≤ upper_of s
covers_best g roots bound margin budget lanes events s are falls run open' =
    bag_covers g roots bound margin budget are falls s.met (boxes_of s) (run_going g roots bound margin budget lanes events s are falls run open').bag

-- no more boxes were met than the budget allows
pub meets_few : (g : GridSize) (roots : List NodeBox) (bound : NodeBox → ℕ) (margin budget lanes : ℕ) (events : List LaneEvent) (s : LaneState)
    → AreRoots g roots → BoundsFall g roots bound → Run bound margin budget (start bound budget lanes roots) events s → s.over ≡ false
    → s.met ≤ budget
meets_few g roots bound margin budget lanes events s are falls run open' =
    (run_keeps g roots bound margin budget are falls events (start bound budget lanes roots) s run
    (start_kept g roots bound margin budget are falls lanes)).within

-- the boxes are the leaves of one cut per root
pub boxes_divide : (g : GridSize) (roots : List NodeBox) (bound : NodeBox → ℕ) (margin budget lanes : ℕ) (events : List LaneEvent) (s : LaneState)
    → AreRoots g roots → BoundsFall g roots bound → Run bound margin budget (start bound budget lanes roots) events s → s.over ≡ false
    → IsDivided g roots bound margin s
boxes_divide g roots bound margin budget lanes events s are falls run open' =
    let into = (run_going g roots bound margin budget lanes events s are falls run open').bag.cut in
    record {
      leaves = into.leaves;
      cut = into.cut;
      boxes = same_boxes (map (bounded bound) into.leaves) (boxes_of s) (λ f. sum_by-map f (bounded bound) into.leaves ∙ sym (into.sums f));
    }
