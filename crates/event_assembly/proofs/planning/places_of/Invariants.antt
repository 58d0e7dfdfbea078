use Rattle.std.proofs.Common.{◌≡◌, take}
use Rattle.event_assembly.specs.Inside.Planning.{places_of_headers}
use Rattle.event_assembly.proofs.planning.places_of.Given as goal

abbrev pub invariant-loop-header : goal.invariant-loop-header
invariant-loop-header l = l.places.items ≡ places_of_headers (take l.header-index l.headers)
