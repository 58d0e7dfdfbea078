-- Numbers within their limits.
use Rattle.std.proofs.Common.{◌≡◌, ℕ, ◌*◌, ◌≤◌, Bool, true, false, [], ◌∷◌, Some, ℤ, refl, arith}
use Rattle.std.specs.Prelude.{unsigned_abs, ◌&&◌, nat_le}
use Rattle.std.specs.List.{list_all}
use Rattle.std.proofs.lemmas.Grind.{common_steps}
use Rattle.node_boxes.specs.Frame.{IsOrigin, IsSpacing}
use Rattle.grid_header.specs.declared.numbers.Numbers.{Numbers}
use Rattle.grid_header.specs.Numbers.{is_count, is_spacing, is_coordinate, are_counts}
use Rattle.grid_header.specs.Inside.Fields.{three_numbers, header_with}
use Rattle.grid_header.specs.Reading.{IsCount, IsValidHeader}

-- both parts of a test that holds
pub both : (a b : Bool) → (a && b) ≡ true → (a ≡ true) × (b ≡ true)
both true b e = (refl, e)
both false b e = absurd cc

-- a test that three things pass is passed by each
pub each_passes : {X : Type 0} (p : X → Bool) (a b c : X) → list_all p (a ∷ b ∷ c ∷ []) ≡ true → (p a ≡ true) × (p b ≡ true) × (p c ≡ true)
each_passes p a b c e =
    let one = both (p a) (list_all p (b ∷ c ∷ [])) e in
    let two = both (p b) (list_all p (c ∷ [])) one.1 in
    (one.0, two.0, (both (p c) true two.1).0)

-- a count is a number of nodes
pub count_is : (n : ℤ) → is_count (Some n) ≡ true → IsCount (unsigned_abs n)
count_is n e = (grind (arith, common_steps), grind (arith, common_steps))

-- a limit that is tested is kept
pub few_nodes : (n most : ℕ) → nat_le n most ≡ true → n ≤ most
few_nodes n most e = grind (arith, common_steps)

-- a spacing is within its limits
pub spacing_is : (n : ℤ) → is_spacing (Some n) ≡ true → IsSpacing n
spacing_is n e = (grind (arith, common_steps), grind (arith, common_steps))

-- a coordinate is within its limits
pub coordinate_is : (n : ℤ) → is_coordinate (Some n) ≡ true → IsOrigin n
coordinate_is n e = grind (arith, common_steps)

-- numbers within their limits are those of a valid header
pub header_is : (n : Numbers) → are_counts (three_numbers n.counts) ≡ true
    → list_all is_coordinate (three_numbers n.origin) ≡ true → list_all is_spacing (three_numbers n.spacing) ≡ true
    → list_all is_coordinate (three_numbers n.source) ≡ true → IsValidHeader (header_with n)
header_is n counts origin spacing source =
    let parts = both (list_all is_count (three_numbers n.counts)) (nat_le (unsigned_abs n.counts.x * unsigned_abs n.counts.y * unsigned_abs n.counts.z) 16000000) counts in
    let c = each_passes is_count (Some n.counts.x) (Some n.counts.y) (Some n.counts.z) parts.0 in
    let o = each_passes is_coordinate (Some n.origin.x) (Some n.origin.y) (Some n.origin.z) origin in
    let d = each_passes is_spacing (Some n.spacing.x) (Some n.spacing.y) (Some n.spacing.z) spacing in
    let s = each_passes is_coordinate (Some n.source.x) (Some n.source.y) (Some n.source.z) source in
    record {
      x = count_is n.counts.x c.0;
      y = count_is n.counts.y c.1;
      z = count_is n.counts.z c.2;
      nodes = few_nodes _ _ parts.1;
      ox = coordinate_is n.origin.x o.0;
      oy = coordinate_is n.origin.y o.1;
      oz = coordinate_is n.origin.z o.2;
      dx = spacing_is n.spacing.x d.0;
      dy = spacing_is n.spacing.y d.1;
      dz = spacing_is n.spacing.z d.2;
      sx = coordinate_is n.source.x s.0;
      sy = coordinate_is n.source.y s.1;
      sz = coordinate_is n.source.z s.2;
    }
