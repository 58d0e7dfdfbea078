use Rattle.std.proofs.Common.{◌<◌, [], arith, length, get_or}
use Rattle.std.proofs.lemmas.List.{length-map}
use Rattle.octree_search.specs.declared.arena.Met.{Met}
use Rattle.octree_search.specs.Arena.{areas_met, no_box}
use Rattle.octree_search.proofs.Walking.{area_at, more_cover}
use Rattle.octree_search.proofs.covering.collect_cover.Goals as goal

pub loop-place-preserved : goal.loop-place-preserved
loop-place-preserved c =
    let met = c.args.met.now in
    let place = c.loop-place.place in
    let below : place < length met = omega (arith, c.loop-place-test.true, c.requires.count) in
    record {
      boxes = λ bound t settled.
          more_cover [] c.loop-place.boxes.items c.push_cover.new.boxes.items (areas_met met) place no_box.area (get_or met place no_box).area bound t
          (omega (arith, below, length-map met (λ (m : Met). m.area))) (area_at met place no_box below)
          (c.loop-place.invariant.boxes bound t settled) (c.in_ok-push_cover.ensures bound t settled);
    }
