use Rattle.std.proofs.Common.{◌≡◌, drop, length, take}
use Rattle.std.specs.List.{enumerate_from}
use Rattle.node_boxes.specs.Grid.{node_count}
use Rattle.cover_checker.specs.Covers.{first_of, misplaced, placing_fault}
use Rattle.cover_checker.specs.Inside.Marking.{IsMarked}
use Rattle.cover_checker.proofs.placing.place_boxes.Given as goal

abbrev pub invariant-loop-i : goal.invariant-loop-i
invariant-loop-i l = record {
  kept : length l.marks ≡ node_count l.grid;
  marked : IsMarked l.grid (take l.i l.boxes) l.marks;
  left : first_of (placing_fault l.grid l.boxes) (enumerate_from l.i (drop l.i l.boxes)) ≡ misplaced l.grid l.boxes;
}
