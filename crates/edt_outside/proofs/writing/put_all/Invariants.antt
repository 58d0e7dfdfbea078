use Rattle.std.proofs.Common.{length, ◌-◌, ◌≡◌, ◌≤◌, take}
use Rattle.edt_outside.specs.Sinks.{Appends}
use Rattle.edt_outside.proofs.writing.put_all.Given as goal

abbrev pub invariant-loop-taken : goal.invariant-loop-taken
invariant-loop-taken g l = record {
  within : l.taken ≤ length l.bytes;
  front : Appends (g.O.Sink.taken l.initial.sink) (g.O.Sink.taken l.sink) (take l.taken l.bytes);
  faults : g.O.Sink.faults l.sink ≡ g.O.Sink.faults l.initial.sink;
}

abbrev pub decreases-loop-taken : goal.decreases-loop-taken
decreases-loop-taken g l = length l.bytes - l.taken
