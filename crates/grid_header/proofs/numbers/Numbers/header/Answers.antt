-- The fields are the numbers, which were found within their limits.
use Rattle.std.proofs.Common.{refl, sym, w64, rules}
use Rattle.std.proofs.Math.Facts.{to_z-of_z}
use Rattle.grid_header.proofs.LimitLaws.{header_is}
use Rattle.grid_header.proofs.numbers.Numbers.header.Goals as goal

pub returns-clause-some : goal.returns-clause-some
returns-clause-some c =
    let n = c.args.self.now in
    rw (
      to_z-of_z {w = w64} {z = n.counts.x} (search rules),
      to_z-of_z {w = w64} {z = n.counts.y} (search rules),
      to_z-of_z {w = w64} {z = n.counts.z} (search rules),
      to_z-of_z {w = w64} {z = n.origin.x} (search rules),
      to_z-of_z {w = w64} {z = n.origin.y} (search rules),
      to_z-of_z {w = w64} {z = n.origin.z} (search rules),
      to_z-of_z {w = w64} {z = n.spacing.x} (search rules),
      to_z-of_z {w = w64} {z = n.spacing.y} (search rules),
      to_z-of_z {w = w64} {z = n.spacing.z} (search rules),
      to_z-of_z {w = w64} {z = n.source.x} (search rules),
      to_z-of_z {w = w64} {z = n.source.y} (search rules),
      to_z-of_z {w = w64} {z = n.source.z} (search rules),
    )
    (refl, header_is n (sym c.if-not-are_counts.ensures) (sym c.if-not-are_coordinates.ensures) (sym c.if-not-are_spacings.ensures) (sym c.if-not-are_coordinates-2.ensures))
