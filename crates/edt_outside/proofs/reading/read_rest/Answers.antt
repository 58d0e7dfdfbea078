use Rattle.std.proofs.Common.{arith, take, ap, ◌∙◌, ◌-◌, ◌≤◌, ◌≡◌, length, length-drop, Some, []}
use Rattle.std.proofs.lemmas.List.{take_rest}
use Rattle.edt_outside.proofs.ReadLemmas.{Came-read, Came-all, take-joined, take-front, whole_file, nothing_left}
use Rattle.edt_outside.proofs.reading.read_rest.Goals as goal

pub returns-then-n-eq0-clause-told : goal.returns-then-n-eq0-clause-told
returns-then-n-eq0-clause-told g c =
    let len = c.loop-len.len in
    let d = c.deref_mut.result.now in
    let long = c.deref_mut.ensures.len in
    let room = c.in_ok-make_room.ensures.room in
    let filled : len ≤ length d = omega arith in
    let within : len ≤ c.args.limit = omega arith in
    let same_long : length c.read.new.into ≡ length d - len = rw (take_rest d len, length-drop len d) at c.read.auto.into in
    let whole = Came-all (g.S.Shelf.left c.args.shelf.now) (g.S.Shelf.left c.loop-len.shelf) (g.S.Shelf.left c.read.new.self) len c.in-Ok.n c.loop-len.all.items c.read.new.into c.loop-len.invariant.told c.in-Ok.ensures.told c.if-n-eq0.true (omega arith) in
    whole_file (g.S.Shelf.left c.args.shelf.now) len c.args.limit c.loop-len.all.items c.truncate.new.self.items (g.S.Shelf.left c.read.new.self ≡ Some []) whole
    (c.truncate.ensures.items ∙ take-front _ _ _ _ _ filled (omega arith) ∙ ap (take len) c.deref_mut.ensures.value ∙ c.make_room.ensures.front) within

pub returns-then-n-eq0-clause-ended : goal.returns-then-n-eq0-clause-ended
returns-then-n-eq0-clause-ended g c =
    let len = c.loop-len.len in
    let d = c.deref_mut.result.now in
    let long = c.deref_mut.ensures.len in
    let room = c.in_ok-make_room.ensures.room in
    let same_long : length c.read.new.into ≡ length d - len = rw (take_rest d len, length-drop len d) at c.read.auto.into in
    nothing_left (g.S.Shelf.left c.args.shelf.now) len c.loop-len.all.items (g.S.Shelf.left c.read.new.self ≡ Some [])
    (Came-all (g.S.Shelf.left c.args.shelf.now) (g.S.Shelf.left c.loop-len.shelf) (g.S.Shelf.left c.read.new.self) len c.in-Ok.n c.loop-len.all.items c.read.new.into c.loop-len.invariant.told c.in-Ok.ensures.told c.if-n-eq0.true (omega arith))

pub loop-len-preserved : goal.loop-len-preserved
loop-len-preserved g c =
    let kept = c.loop-len.invariant in
    let read = c.in-Ok.ensures in
    let len = c.loop-len.len in
    let d = c.deref_mut.result.now in
    let long = c.deref_mut.ensures.len in
    let room = c.in_ok-make_room.ensures.room in
    let bound : c.in-Ok.n ≤ length d - len = rw (take_rest d len, length-drop len d) at read.bound in
    let filled : len ≤ length d = omega arith in
    let same_long = c.read.auto.into in
    record {
      filled = omega arith;
      bound = c.make_room.ensures.bound;
      same_files = read.same_files ∙ kept.same_files;
      told = Came-read (g.S.Shelf.left c.args.shelf.now) (g.S.Shelf.left c.loop-len.shelf) (g.S.Shelf.left c.read.new.self) len c.in-Ok.n c.loop-len.all.items d c.read.new.into _ kept.told (ap (take len) c.deref_mut.ensures.value ∙ c.make_room.ensures.front) (take-joined _ _ _ _ _ _ _ filled (omega (arith, read.bound, same_long)) (omega arith)) read.told;
      faults = read.faults ∙ kept.faults;
      misses = read.misses ∙ kept.misses;
      lacks = read.lacks ∙ kept.lacks;
      calls_stay = omega arith;
      calls = omega arith;
    }
