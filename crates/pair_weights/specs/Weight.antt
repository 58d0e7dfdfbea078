-- The weight of a pair of picks, by their prior weights and their scale.
use Rattle.std.specs.Prelude.{ℕ, ◌*◌, ◌/◌}

-- the weight of a pair of picks with the prior weights `pa` and `pb` and the scale `s`
unfoldable pub weight_of : ℕ → ℕ → ℕ → ℕ
weight_of pa pb s = pa * pb * 65536 / s
