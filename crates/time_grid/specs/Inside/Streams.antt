-- The refusal of a stream by that of its body.
use Rattle.time_grid.specs.declared.faults.GridFault.{GridFault}
use Rattle.time_grid.specs.declared.faults.GridFault.TheVariants.{Absent as body_absent, Failed as body_failed, Short as body_short, Long as body_long, TimeLimit as body_limit, Memory as body_memory}
use Rattle.time_grid.specs.declared.faults.StreamFault.{StreamFault}
use Rattle.time_grid.specs.declared.faults.StreamFault.TheVariants.{Absent, Failed, Short, Long, TimeLimit, Memory}

-- the refusal of a stream for a fault of its body
abbrev pub streamed : GridFault → StreamFault
streamed body_absent = Absent
streamed body_failed = Failed
streamed body_short = Short
streamed body_long = Long
streamed (body_limit node) = TimeLimit node
streamed body_memory = Memory
