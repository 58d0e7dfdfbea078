use Rattle.std.proofs.Common.{arith, ◌∙◌, length-drop}
use Rattle.std.proofs.lemmas.List.{take_rest}
use Rattle.edt_outside.proofs.WriteLemmas.{Appends-take}
use Rattle.edt_outside.proofs.writing.put_all.Goals as goal

pub loop-taken-preserved : goal.loop-taken-preserved
loop-taken-preserved g c = record {
  within = let bound = rw (take_rest c.args.bytes.now c.loop-taken.taken) at c.in-Ok.ensures.bound in omega (arith, bound, length-drop c.loop-taken.taken c.args.bytes.now);
  front = Appends-take (g.O.Sink.taken c.args.sink.now) (g.O.Sink.taken c.loop-taken.sink) (g.O.Sink.taken c.write.new.self) c.loop-taken.taken c.in-Ok.n c.args.bytes.now c.loop-taken.invariant.front c.in-Ok.ensures.took;
  faults = c.in-Ok.ensures.took_some c.if-n-gt0.true ∙ c.loop-taken.invariant.faults;
}
