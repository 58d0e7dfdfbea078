use Rattle.std.proofs.Common.{◌≡◌, drop}
use Rattle.std.specs.List.{find}
use Rattle.cover_certificate.specs.Blocks.{located_value}
use Rattle.cover_checker.proofs.VerdictSteps.{is_beating}
use Rattle.cover_checker.proofs.hypocentre.first_better.Given as goal

abbrev pub invariant-loop-b : goal.invariant-loop-b
invariant-loop-b l =
    let test = is_beating l.grid (located_value l.event) in
    find test (drop l.b-index l.event.cover.items) ≡ find test l.event.cover.items
