use Rattle.std.proofs.Common.{◌≡◌, ◌<◌, length, Some, sym, ◌∙◌, ap, arith}
use Rattle.std.specs.Prelude.{map, slice_get, vec_len}
use Rattle.std.proofs.lemmas.Result.{err_from_is_err_and}
use Rattle.control_reader.proofs.ListLaws.{get_mapped}
use Rattle.control_reader.proofs.ReadSteps.{reads_room, next_place, next_file, reads_none, reads_line, reads_file, reads_fault, reads_file_fault, reads_all, file_within}
use Rattle.control_reader.proofs.reading.read_lines.Goals as goal

pub loop-line-init : goal.loop-line-init
loop-line-init c =
    reads_none c.args.main.now _ c.new-lines.result c.new-draft.result c.new-lines.ensures.lines c.new-lines.ensures.start c.new-draft.ensures.follows
    c.new-draft.ensures.within c.new-draft.ensures.none

pub take_line-requires-clause-room : goal.take_line-requires-clause-room
take_line-requires-clause-room c =
    omega (arith, reads_room c.args.main.now _ c.loop-line.lines c.loop-line.draft c.loop-line.invariant c.requires.main)

pub returns-in_err-take_line-clause-fault : goal.returns-in_err-take_line-clause-fault
returns-in_err-take_line-clause-fault c =
    let place =
    next_place c.args.main.now (map (λ file. file.items) c.args.included.now) c.loop-line.lines c.next.new.self c.in-Some.line c.loop-line.invariant.given
    c.in-Some.ensures.line c.in-Some.ensures.number c.in-Some.ensures.passed in
    let out = err_from_is_err_and c.from_residual.result c.from_residual.ensures.1 in
    rw (out.1, out.2)
    (λ other.
    reads_fault c.args.main.now _ c.loop-line.lines c.next.new.self c.loop-line.draft c.in-Some.line _ c.loop-line.invariant place
    c.in_err-take_line.ensures.place.0 c.in_err-take_line.ensures.place.1 (c.in_err-take_line.ensures.fault other))

pub bounds-included-before : goal.bounds-included-before
bounds-included-before c =
    let place =
    next_place c.args.main.now (map (λ file. file.items) c.args.included.now) c.loop-line.lines c.next.new.self c.in-Some.line c.loop-line.invariant.given
    c.in-Some.ensures.line c.in-Some.ensures.number c.in-Some.ensures.passed in
    let within =
    file_within c.args.main.now _ c.loop-line.lines c.next.new.self c.loop-line.draft c.in-Some.line c.take_line.new.self.includes c.loop-line.invariant place
    c.in_ok-take_line.ensures.includes c.if-file-before.true in
    omega (arith, within, c.requires.files)

pub take_file-requires-clause-size : goal.take_file-requires-clause-size
take_file-requires-clause-size c =
    let place =
    next_place c.args.main.now (map (λ file. file.items) c.args.included.now) c.loop-line.lines c.next.new.self c.in-Some.line c.loop-line.invariant.given
    c.in-Some.ensures.line c.in-Some.ensures.number c.in-Some.ensures.passed in
    let within =
    file_within c.args.main.now _ c.loop-line.lines c.next.new.self c.loop-line.draft c.in-Some.line c.take_line.new.self.includes c.loop-line.invariant place
    c.in_ok-take_line.ensures.includes c.if-file-before.true in
    let less : c.loop-line.draft.includes < length c.args.included.now = omega (arith, within, c.requires.files) in
    let size = c.requires.sizes c.loop-line.draft.includes c.index-included-before.result less in
    let same = ap vec_len c.index-included-before.is in
    omega (arith, size, same, c.deref.ensures.len)

pub take_file-requires-clause-room : goal.take_file-requires-clause-room
take_file-requires-clause-room c =
    let room = reads_room c.args.main.now _ c.loop-line.lines c.loop-line.draft c.loop-line.invariant c.requires.main in
    omega (arith, room, c.in_ok-take_line.ensures.room)

pub loop-line-preserved-in-Continue-branch-2 : goal.loop-line-preserved-in-Continue-branch-2
loop-line-preserved-in-Continue-branch-2 c =
    let place =
    next_place c.args.main.now (map (λ file. file.items) c.args.included.now) c.loop-line.lines c.next.new.self c.in-Some.line c.loop-line.invariant.given
    c.in-Some.ensures.line c.in-Some.ensures.number c.in-Some.ensures.passed in
    let within =
    file_within c.args.main.now _ c.loop-line.lines c.next.new.self c.loop-line.draft c.in-Some.line c.take_line.new.self.includes c.loop-line.invariant place
    c.in_ok-take_line.ensures.includes c.if-file-before.true in
    let less : c.loop-line.draft.includes < length c.args.included.now = omega (arith, within, c.requires.files) in
    let found : slice_get (map (λ file. file.items) c.args.included.now) c.loop-line.draft.includes ≡ Some c.deref.result.now =
    get_mapped (λ file. file.items) c.args.included.now c.loop-line.draft.includes c.index-included-before.result less c.index-included-before.is
    ∙ ap Some (sym c.deref.ensures.value) in
    let file =
    next_file c.args.main.now _ c.loop-line.lines c.next.new.self c.loop-line.draft c.take_line.new.self c.in-Some.line c.deref.result.now c.loop-line.invariant
    place c.in_ok-take_line.ensures.includes c.if-file-before.true found in
    reads_file c.args.main.now _ c.loop-line.lines c.next.new.self c.loop-line.draft c.take_line.new.self c.take_file.new.self c.in-Some.line c.deref.result.now
    c.loop-line.invariant place file c.in_ok-take_line.ensures.follows c.in_ok-take_file.ensures.follows c.in_ok-take_file.ensures.limits
    c.in_ok-take_file.ensures.includes c.in_ok-take_line.ensures.room c.in_ok-take_file.ensures.room

pub returns-in_err-take_file-clause-fault : goal.returns-in_err-take_file-clause-fault
returns-in_err-take_file-clause-fault c =
    let place =
    next_place c.args.main.now (map (λ file. file.items) c.args.included.now) c.loop-line.lines c.next.new.self c.in-Some.line c.loop-line.invariant.given
    c.in-Some.ensures.line c.in-Some.ensures.number c.in-Some.ensures.passed in
    let within =
    file_within c.args.main.now _ c.loop-line.lines c.next.new.self c.loop-line.draft c.in-Some.line c.take_line.new.self.includes c.loop-line.invariant place
    c.in_ok-take_line.ensures.includes c.if-file-before.true in
    let less : c.loop-line.draft.includes < length c.args.included.now = omega (arith, within, c.requires.files) in
    let found : slice_get (map (λ file. file.items) c.args.included.now) c.loop-line.draft.includes ≡ Some c.deref.result.now =
    get_mapped (λ file. file.items) c.args.included.now c.loop-line.draft.includes c.index-included-before.result less c.index-included-before.is
    ∙ ap Some (sym c.deref.ensures.value) in
    let file =
    next_file c.args.main.now _ c.loop-line.lines c.next.new.self c.loop-line.draft c.take_line.new.self c.in-Some.line c.deref.result.now c.loop-line.invariant
    place c.in_ok-take_line.ensures.includes c.if-file-before.true found in
    let out = err_from_is_err_and c.from_residual-in_err-take_file.result c.from_residual-in_err-take_file.ensures.1 in
    rw (out.1, out.2)
    (λ other.
    reads_file_fault c.args.main.now _ c.loop-line.lines c.next.new.self c.loop-line.draft c.take_line.new.self c.in-Some.line c.deref.result.now _
    c.loop-line.invariant place file c.in_ok-take_line.ensures.follows (c.in_err-take_file.ensures.fault other))

pub loop-line-preserved : goal.loop-line-preserved
loop-line-preserved c =
    let place =
    next_place c.args.main.now (map (λ file. file.items) c.args.included.now) c.loop-line.lines c.next.new.self c.in-Some.line c.loop-line.invariant.given
    c.in-Some.ensures.line c.in-Some.ensures.number c.in-Some.ensures.passed in
    reads_line c.args.main.now _ c.loop-line.lines c.next.new.self c.loop-line.draft c.take_line.new.self c.in-Some.line c.loop-line.invariant place
    c.in_ok-take_line.ensures.follows c.in_ok-take_line.ensures.limits c.in_ok-take_line.ensures.includes c.if-file-before.false
    c.in_ok-take_line.ensures.room

pub returns-clause-follows : goal.returns-clause-follows
returns-clause-follows c = reads_all c.args.main.now _ c.loop-line.lines c.loop-line.draft c.loop-line.invariant c.in_default.ensures.end.0
