use Rattle.std.proofs.Common.{◌≡◌, map}
use Rattle.control_reader.specs.ControlValues.{values_of}
use Rattle.event_assembly.specs.AssemblyValues.{event_value}
use Rattle.event_assembly.specs.Inside.Problems.{event_by}
use Rattle.event_assembly.proofs.problems.prepare.Given as goal

abbrev pub invariant-loop-picks : goal.invariant-loop-picks
invariant-loop-picks l = map event_value l.prepared.items ≡ map (event_by (values_of l.control) l.row_of_key) l.yielded
