use Rattle.std.proofs.Common.{◌≡◌, take}
use Rattle.std.specs.List.{flat_map}
use Rattle.edt_outside.specs.Sinks.{Appends}
use Rattle.run_input.proofs.telling.put_pieces.Given as goal

abbrev pub invariant-loop-piece : goal.invariant-loop-piece
invariant-loop-piece g l = record {
  appended : Appends (g.E.Sink.taken l.fn.err) (g.E.Sink.taken l.err) (flat_map (λ piece. piece.now) (take l.piece-index l.pieces));
  faults : g.E.Sink.faults l.err ≡ g.E.Sink.faults l.fn.err;
}
