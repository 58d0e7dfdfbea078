use Rattle.std.proofs.Common.{length}
use Rattle.edt_outside.specs.MemoryShelves.{NamesDiffer}
use Rattle.edt_outside.proofs.memory_shelf.names_differ.Given as goal

abbrev pub invariant-loop-first : goal.invariant-loop-first
invariant-loop-first l = record {
  differ : NamesDiffer l.rest → NamesDiffer l.files;
  part : NamesDiffer l.files → NamesDiffer l.rest;
}

abbrev pub decreases-loop-first : goal.decreases-loop-first
decreases-loop-first l = length l.rest
