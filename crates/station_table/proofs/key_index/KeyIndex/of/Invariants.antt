use Rattle.std.proofs.Common.{◌≡◌, take}
use Rattle.station_table.proofs.key_index.KeyIndex.of.Given as goal

abbrev pub invariant-loop-key : goal.invariant-loop-key
invariant-loop-key l = l.index ≡ take l.key-index l.keys
