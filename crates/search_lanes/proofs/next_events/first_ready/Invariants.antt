use Rattle.std.proofs.Common.{◌≡◌, ◌+◌, drop}
use Rattle.search_lanes.specs.Inside.Choosing.{first_from}
use Rattle.search_lanes.proofs.next_events.first_ready.Given as goal

abbrev pub invariant-loop-w : goal.invariant-loop-w
invariant-loop-w l = record {
  place : l.place ≡ l.passed + l.w-index;
  rest : first_from l.least l.place (drop l.w-index (drop l.passed l.boxes)) ≡ first_from l.least l.passed (drop l.passed l.boxes);
}
