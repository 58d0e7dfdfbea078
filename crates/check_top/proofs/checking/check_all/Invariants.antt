use Rattle.std.proofs.Common.{◌≡◌, map, take}
use Rattle.std.specs.Prelude.{zip}
use Rattle.kernel_table.specs.Falloff.{shape_of}
use Rattle.node_boxes.specs.Grid.{node_count}
use Rattle.event_assembly.specs.AssemblyValues.{event_value}
use Rattle.cover_certificate.specs.Blocks.{block_value}
use Rattle.run_input.specs.Inputs.{input_value}
use Rattle.check_top.proofs.CheckSteps.{MadeOf}
use Rattle.check_top.proofs.checking.check_all.Given as goal

abbrev pub invariant-loop-event : goal.invariant-loop-event
invariant-loop-event g l = record {
  made : MadeOf (shape_of l.falloff) (input_value l.input)
      (take l.event-index (zip (map event_value l.input.assembly.events.items) (map block_value l.blocks))) l.text.items l.refused;
  number : l.number ≡ l.event-index;
  marks : l.marks ≡ node_count l.input.assembly.field.grid;
}
