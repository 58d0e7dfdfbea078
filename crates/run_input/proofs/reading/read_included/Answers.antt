use Rattle.std.proofs.Common.{◌≡◌, ℕ, ◌∷◌, [], ◌+◌, Vec, ◌∙◌, rules, arith}
use Rattle.std.specs.Global.{Global}
use Rattle.std.proofs.lemmas.List.{map-append}
use Rattle.std.proofs.lemmas.Result.{err_from_is_err_and}
use Rattle.run_input.proofs.IncludedSteps.{reads_one, reads_stop, reads_all}
use Rattle.run_input.proofs.reading.read_included.Goals as goal

pub returns-in_err-bytes-clause-told : goal.returns-in_err-bytes-clause-told
returns-in_err-bytes-clause-told g c =
    let at : c.loop-name.number + 1 ≡ c.loop-name.name-index + 1 = omega (arith, c.loop-name.invariant.number) in
    let out = err_from_is_err_and c.from_residual-in_err-bytes.result c.from_residual-in_err-bytes.ensures.1 in
    rw (out.1, out.2) (reads_stop (g.S.Shelf.files c.args.shelf.now) (g.S.Shelf.files c.loop-name.shelf) c.args.names.now _ c.loop-name.name-index (c.loop-name.number + 1) _ _ c.in_err-bytes.field-0.0
    c.loop-name.invariant.same_files c.loop-name-test.true (c.in_ok-name.ensures ∙ c.name-item.is) at c.loop-name.invariant.told c.in_err-bytes.ensures.told)

pub loop-name-preserved : goal.loop-name-preserved
loop-name-preserved g c =
    let at : c.loop-name.number + 1 ≡ c.loop-name.name-index + 1 = omega (arith, c.loop-name.invariant.number) in
    let read = reads_one (g.S.Shelf.files c.args.shelf.now) (g.S.Shelf.files c.loop-name.shelf) c.args.names.now _ c.loop-name.name-index (c.loop-name.number + 1) _ c.in_ok-bytes.bytes _
    c.loop-name.invariant.same_files c.loop-name-test.true (c.in_ok-name.ensures ∙ c.name-item.is) at c.loop-name.invariant.told c.in_ok-bytes.ensures.told in
    record {
      number = at;
      told = rw c.in_ok-push.ensures.items (rw (map-append (λ (b : Vec ℕ Global). b.items) c.loop-name.included.items (c.in_ok-bytes.bytes ∷ [])) read);
      one_each = search rules;
      sizes = search rules;
      same_files = search rules;
      faults = search rules;
      misses = search rules;
      lacks = search rules;
      calls = search rules;
    }

pub returns-clause-told : goal.returns-clause-told
returns-clause-told g c = reads_all (g.S.Shelf.files c.args.shelf.now) c.args.names.now _ c.loop-name.name-index (omega (arith, c.loop-name-test.false)) c.loop-name.invariant.told
