use Rattle.std.proofs.Common.{◌≡◌, map, sym}
use Rattle.std.specs.String.{string_bytes}
use Rattle.edt_outside.specs.Sinks.{Appends}
use Rattle.run_input.specs.Told.{Told}
use Rattle.edt_top.specs.Commands.{command_of, command_value}
use Rattle.edt_top.proofs.RunLaws.{run_answers, run_covers, run_line_is}
use Rattle.edt_top.proofs.run.locate_run.Goals as goal

pub returns-clause-told : goal.returns-clause-told
returns-clause-told g c =
    run_answers (g.S.Shelf.files c.args.shelf.now) (command_of (map string_bytes c.args.words.now)) (command_value c.in-Some.command) c.run-ended.result c.finish.result
    (Appends (g.O.Sink.taken c.args.out.now) (g.O.Sink.taken c.run-ended.new.out)) (Told g.E.Sink.taken g.E.Sink.faults c.args.err.now c.finish.new.err)
    ((g.E.Sink.taken c.finish.new.err ≡ g.E.Sink.taken c.args.err.now) × (g.E.Sink.faults c.finish.new.err ≡ g.E.Sink.faults c.args.err.now))
    (sym c.in-Some.ensures.value) c.finish.ensures.status c.run-ended.ensures.written c.run-ended.ensures.refused c.finish.ensures.told

pub returns-clause-line : goal.returns-clause-line
returns-clause-line g c =
    run_line_is (command_of (map string_bytes c.args.words.now)) (command_value c.in-Some.command) c.run-ended.result c.finish.result
    (Told g.E.Sink.taken g.E.Sink.faults c.args.err.now c.finish.new.err)
    ((g.E.Sink.taken c.finish.new.err ≡ g.E.Sink.taken c.args.err.now) × (g.E.Sink.faults c.finish.new.err ≡ g.E.Sink.faults c.args.err.now))
    (sym c.in-Some.ensures.value) c.finish.ensures.status c.run-ended.ensures.causes c.finish.ensures.told

pub returns-clause-covers : goal.returns-clause-covers
returns-clause-covers g c =
    run_covers (g.S.Shelf.files c.args.shelf.now) (command_of (map string_bytes c.args.words.now)) (command_value c.in-Some.command) c.run-ended.result c.finish.result
    (sym c.in-Some.ensures.value) c.finish.ensures.status c.run-ended.ensures.covers
