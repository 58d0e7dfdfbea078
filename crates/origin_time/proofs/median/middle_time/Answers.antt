use Rattle.std.proofs.Common.{rules, get_or, pos, SFits, w64}
use Rattle.std.proofs.lemmas.Int.{to_z-of_z}
use Rattle.origin_time.proofs.Medians.{middle_is_origin, middle_of_sorted}
use Rattle.origin_time.proofs.median.middle_time.Goals as goal

pub returns : goal.returns
returns c =
    let fits : SFits w64 (get_or c.args.sorted.now c.half_place.result (pos 0, 0)).0 = search rules in
    let place = c.half_place.ensures in
    let half = rw c.requires.all at place.upto in
    let before = rw c.requires.all at place.before in
    simp to_z-of_z (middle_is_origin c.args.sorted.now c.half_place.result (get_or c.args.sorted.now c.half_place.result (pos 0, 0)).0
    (middle_of_sorted c.args.sorted.now c.half_place.result (pos 0, 0) c.requires.sorted place.place before half))
