use Rattle.std.proofs.Common.{arith, unsigned_abs}
use Rattle.std.proofs.lemmas.Int.{ints}
use Rattle.time_grid.proofs.AxisLaws.{IsSeen, not_aligned, place_before, places_of}
use Rattle.time_grid.proofs.axes.AxisPair.places.Goals as goal

pub returns-then-self : goal.returns-then-self
returns-then-self c =
    not_aligned c.args.self.now 0 (omega (arith, c.requires.nodes)) (place_before c.args.self.now (unsigned_abs c.args.self.now.time_spacing)
    (grind (arith, ints, c.if-self.true)) (omega (arith, ints, c.requires.time_spacing)))

pub returns : goal.returns
returns c =
    let a = c.args.self.now in
    let seen : IsSeen a c.abs_diff.result c.unsigned_abs.result c.unsigned_abs-2.result = record {
      origin = omega (arith, ints, c.abs_diff.ensures, c.if-self.false, c.requires.origin, c.requires.time_origin);
      time_spacing = omega (arith, ints, c.unsigned_abs.ensures.value, c.requires.time_spacing);
      spacing = omega (arith, ints, c.unsigned_abs-2.ensures.value, c.requires.spacing);
      some = omega (arith, ints, c.unsigned_abs.ensures.value, c.requires.time_spacing);
    } in
    let found = c.places.ensures in
    places_of a c.abs_diff.result c.unsigned_abs.result c.unsigned_abs-2.result c.places.result seen found.none found.within found.meets found.rises found.stays
