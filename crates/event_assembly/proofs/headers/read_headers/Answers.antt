use Rattle.std.proofs.Common.{◌∙◌, map, [], ◌∷◌, Option, IfSome, length-append, arith}
use Rattle.std.proofs.lemmas.List.Elements.{All-push}
use Rattle.grid_header.specs.declared.header.Header.{Header}
use Rattle.grid_header.specs.Reading.{IsValidHeader}
use Rattle.control_reader.specs.ControlValues.{values_of}
use Rattle.text_terms.specs.Faults.{first_cause}
use Rattle.event_assembly.specs.Headers.{header_fault}
use Rattle.event_assembly.specs.Inside.Reads.{header_in, ReadsHeaders}
use Rattle.event_assembly.proofs.CountLaws.{ended_more, lacks_more}
use Rattle.event_assembly.proofs.HeaderLaws.{lacks_none_more}
use Rattle.event_assembly.proofs.ListLaws.{item_here}
use Rattle.event_assembly.proofs.ReadLaws.{AreMade-more, AreMade-refused, passed_on}
use Rattle.event_assembly.proofs.headers.read_headers.Goals as goal

pub returns-in_err-header-clause-told : goal.returns-in_err-header-clause-told
returns-in_err-header-clause-told g c =
    let control = values_of c.args.control.now in
    passed_on (g.S.Shelf.files c.args.shelf.now) (λ files. first_cause (map (header_fault files control) c.args.keys.now)) c.from_residual-in_err-header.result
    c.in_err-header.field-0.0 (λ files answer. ReadsHeaders files control c.args.keys.now answer) (λ files fault refused. refused)
    c.from_residual-in_err-header.ensures.1
    (AreMade-refused (g.S.Shelf.files c.args.shelf.now) (g.S.Shelf.files c.loop-key.shelf) (λ files. header_fault files control) (λ files. header_in files control)
    c.loop-key.key-index c.args.keys.now c.key-item.result c.loop-key.headers.items c.in_err-header.field-0.0 c.loop-key.invariant.same_files
    (item_here c.args.keys.now c.loop-key.key-index c.key-item.result c.loop-key-test.true c.key-item.is) c.loop-key.invariant.told
    c.in_err-header.ensures.told)

pub loop-key-preserved : goal.loop-key-preserved
loop-key-preserved g c =
    let kept = c.loop-key.invariant in
    let one = c.in_ok-header.ensures in
    let pushed = c.in_ok-push.ensures.items in
    let control = values_of c.args.control.now in
    record {
      told = rw pushed (AreMade-more (g.S.Shelf.files c.args.shelf.now) (g.S.Shelf.files c.loop-key.shelf) (λ files. header_fault files control)
          (λ files. header_in files control) c.loop-key.key-index c.args.keys.now c.key-item.result c.loop-key.headers.items c.in_ok-header.header kept.same_files
          (item_here c.args.keys.now c.loop-key.key-index c.key-item.result c.loop-key-test.true c.key-item.is) kept.told one.told);
      long = rw (pushed, length-append c.loop-key.headers.items (c.in_ok-header.header ∷ [])) (omega (arith, kept.long));
      valid = rw pushed (All-push (λ (header : Option Header). IfSome header IsValidHeader) c.loop-key.headers.items c.in_ok-header.header kept.valid one.valid);
      ended = ended_more (g.S.Shelf.files c.args.shelf.now) (g.S.Shelf.files c.loop-key.shelf) (g.S.Shelf.left c.args.shelf.now) (g.S.Shelf.left c.loop-key.shelf)
          (g.S.Shelf.left c.read_key_header.new.shelf) kept.same_files kept.ended one.ended;
      same_files = one.same_files ∙ kept.same_files;
      faults = one.faults ∙ kept.faults;
      misses = one.misses ∙ kept.misses;
      lacks_stay = omega (arith, one.lacks_stay, kept.lacks_stay);
      lacks = rw pushed (lacks_more c.loop-key.headers.items c.in_ok-header.header (g.S.Shelf.lacks c.args.shelf.now) (g.S.Shelf.lacks c.loop-key.shelf)
          (g.S.Shelf.lacks c.read_key_header.new.shelf) kept.lacks one.lacks);
      no_lacks = lacks_none_more (g.S.Shelf.files c.args.shelf.now) (g.S.Shelf.files c.loop-key.shelf) control c.args.keys.now c.loop-key.key-index c.key-item.result
          (g.S.Shelf.lacks c.args.shelf.now) (g.S.Shelf.lacks c.loop-key.shelf) (g.S.Shelf.lacks c.read_key_header.new.shelf) kept.same_files
          c.loop-key-test.true c.key-item.is kept.no_lacks one.no_lacks;
      calls = omega (arith, one.calls, kept.calls);
    }
