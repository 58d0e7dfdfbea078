use Rattle.std.proofs.Common.{arith, ◌≡◌, ◌+◌, ◌≤◌, length, ◌∙◌, take, refl}
use Rattle.std.proofs.lemmas.List.{length-take-le}
use Rattle.node_boxes.specs.Grid.{node_count}
use Rattle.time_grid.specs.Inside.Selections.{selection_size}
use Rattle.time_grid.proofs.BodyLaws.{Came-none, Came-more, Came-ends, Came-long, cursor_ends, limit_ends, limit_more}
use Rattle.time_grid.proofs.body.read_open.Goals as goal

pub loop-passed-init : goal.loop-passed-init
loop-passed-init g c =
    let start = c.new-cursor.ensures.done in
    record {
      held = omega arith;
      few = omega arith;
      cursor = c.new-cursor.ensures.cursor c.args.nodes c.requires.selection;
      selection = c.new-cursor.ensures.selection;
      ahead = λ _. omega arith;
      over = tt;
      limit = λ _ k below. absurd (omega arith);
      told = Came-none (g.S.Shelf.left c.args.shelf.now) c.args.order c.args.selection c.new-cursor.result.done c.args.buffer.now c.args.into.now start;
      same_files = refl;
      faults = refl;
      misses = refl;
      lacks = refl;
      calls_stay = omega arith;
      calls = omega arith;
      calls_few = omega arith;
    }

pub overflow_add-passed : goal.overflow_add-passed
overflow_add-passed g c = let few = c.loop-passed.invariant.few in omega arith

pub overflow_mul-passed : goal.overflow_mul-passed
overflow_mul-passed g c = let few = c.loop-passed.invariant.few in omega arith

pub returns-then-n-eq0-clause-told : goal.returns-then-n-eq0-clause-told
returns-then-n-eq0-clause-told g c =
    let kept = c.loop-passed.invariant in
    Came-ends (g.S.Shelf.left c.args.shelf.now) (g.S.Shelf.left c.loop-passed.shelf) (g.S.Shelf.left c.fill.new.shelf) c.args.order c.args.selection c.args.nodes
    c.loop-passed.passed c.loop-passed.held c.loop-passed.cursor.done c.in-Ok.n c.loop-passed.buffer c.fill.new.buffer _ c.loop-passed.over c.judge.result kept.told
    c.in-Ok.ensures.told c.if-n-eq0.true kept.held c.loop-passed-test.true
    (λ all. rw kept.selection at (cursor_ends c.args.nodes c.loop-passed.passed c.loop-passed.cursor kept.cursor kept.ahead all)) c.judge.ensures

pub returns-then-n-eq0-clause-limit : goal.returns-then-n-eq0-clause-limit
returns-then-n-eq0-clause-limit g c =
    let kept = c.loop-passed.invariant in
    limit_ends c.args.nodes c.loop-passed.passed c.loop-passed.cursor.done (node_count (selection_size c.args.selection)) c.loop-passed.into c.loop-passed.over c.judge.result
    kept.limit (λ all. rw kept.selection at (cursor_ends c.args.nodes c.loop-passed.passed c.loop-passed.cursor kept.cursor kept.ahead all))
    (c.loop-passed.auto.into ∙ c.requires.places) c.judge.ensures

pub loop-passed-preserved : goal.loop-passed-preserved
loop-passed-preserved g c =
    let kept = c.loop-passed.invariant in
    let read = c.in-Ok.ensures in
    let passed = c.loop-passed.passed in
    let held = c.loop-passed.held in
    let n = c.in-Ok.n in
    let before = c.loop-passed.cursor.done in
    let mid = c.fill.new.buffer in
    let few = kept.few in
    let within = c.loop-passed-test.true in
    let room : held + n ≤ length mid = omega (arith, read.bound, c.fill.auto.buffer) in
    let long : length (take (held + n) mid) ≡ held + n = length-take-le (held + n) mid room in
    let over = c.later_over-over.ensures in
    let taken = c.take.ensures in
    record {
      held = omega arith;
      few = omega (arith, read.bound, c.fill.auto.buffer, c.keep_rest.auto.buffer);
      cursor = taken.cursor c.args.nodes kept.cursor;
      selection = taken.selection ∙ kept.selection;
      ahead = rw long at taken.ahead;
      over = rw long at (over.bound kept.over);
      limit = limit_more c.args.order c.loop-passed.cursor.selection passed before c.take.new.self.done (take (held + n) mid) c.loop-passed.into c.take.new.into c.loop-passed.over
          c.later_over-over.result kept.limit over.before over.piece taken.kept taken.taken;
      told = Came-more (g.S.Shelf.left c.args.shelf.now) (g.S.Shelf.left c.loop-passed.shelf) (g.S.Shelf.left c.fill.new.shelf) c.args.order c.args.selection
          passed held before n c.take.new.self.done c.loop-passed.buffer mid c.keep_rest.new.buffer c.loop-passed.into c.take.new.into c.loop-passed.over c.later_over-over.result
          kept.told read.told read.kept room over.first taken.kept (λ k from to. rw kept.selection at (taken.taken k from to)) c.keep_rest.ensures;
      same_files = read.same_files ∙ kept.same_files;
      faults = read.faults ∙ kept.faults;
      misses = read.misses ∙ kept.misses;
      lacks = read.lacks ∙ kept.lacks;
      calls_stay = omega (arith, read.calls_stay, kept.calls_stay);
      calls = omega (arith, read.one_call, kept.calls, c.if-n-eq0.false);
      calls_few = omega (arith, read.one_call, kept.calls);
    }

pub returns-clause-told : goal.returns-clause-told
returns-clause-told g c =
    Came-long (g.S.Shelf.left c.args.shelf.now) (g.S.Shelf.left c.loop-passed.shelf) c.args.order c.args.selection c.args.nodes c.loop-passed.passed c.loop-passed.held
    c.loop-passed.cursor.done c.loop-passed.buffer c.loop-passed.into c.loop-passed.into c.loop-passed.over c.loop-passed.invariant.told c.loop-passed-test.false
