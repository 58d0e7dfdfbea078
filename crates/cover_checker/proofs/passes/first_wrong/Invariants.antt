use Rattle.std.proofs.Common.{◌≡◌, ◌+◌, ◌*◌, ◌≤◌, drop, length}
use Rattle.std.specs.List.{position_from}
use Rattle.cover_checker.specs.Inside.Cases.{case_grid, case_picks, case_scoring}
use Rattle.cover_checker.specs.Inside.Walks.{nodes_in}
use Rattle.cover_checker.proofs.VerdictSteps.{is_wrong}
use Rattle.cover_checker.proofs.passes.first_wrong.Given as goal

abbrev pub invariant-loop-i : goal.invariant-loop-i
invariant-loop-i g l =
    let scoring = case_scoring l.case (g.L.Look.times l.initial.look) in
    record {
      picks : g.L.Look.picks l.look ≡ g.L.Look.picks l.initial.look;
      nodes : g.L.Look.nodes l.look ≡ g.L.Look.nodes l.initial.look;
      times : g.L.Look.times l.look ≡ g.L.Look.times l.initial.look;
      count : g.L.Look.count l.look + length (case_picks l.case) * nodes_in (case_grid l.case) (drop l.i l.boxes)
          ≤ g.L.Look.count l.initial.look + length (case_picks l.case) * nodes_in (case_grid l.case) l.boxes;
      room : l.room ≡ l.initial.room;
      left : position_from (is_wrong scoring) l.i (drop l.i l.boxes) ≡ position_from (is_wrong scoring) 0 l.boxes;
    }
