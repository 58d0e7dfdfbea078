use Rattle.std.proofs.Common.{◌≡◌, map, take}
use Rattle.std.specs.List.{enumerate_from}
use Rattle.edt_outside.specs.Sinks.{Appends}
use Rattle.control_reader.specs.ControlValues.{values_of}
use Rattle.event_assembly.specs.AssemblyValues.{assembly_value, event_value}
use Rattle.location_report.specs.Texts.{event_block}
use Rattle.edt_top.specs.Runs.{joined}
use Rattle.edt_top.proofs.locate.text.write_blocks.Given as goal

abbrev pub invariant-loop-place : goal.invariant-loop-place
invariant-loop-place g l = record {
  written : Appends (g.O.Sink.taken l.fn.out) (g.O.Sink.taken l.out)
      (joined (map (event_block (values_of l.input.control) (assembly_value l.input.assembly)) (enumerate_from 1 (take l.place (map event_value l.input.assembly.events.items)))));
  faults : g.O.Sink.faults l.out ≡ g.O.Sink.faults l.fn.out;
}
