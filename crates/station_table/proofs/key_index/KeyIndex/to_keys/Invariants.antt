use Rattle.std.proofs.Common.{◌≡◌, take}
use Rattle.station_table.proofs.key_index.KeyIndex.to_keys.Given as goal

abbrev pub invariant-loop-words : goal.invariant-loop-words
invariant-loop-words l = l.keys.items ≡ take l.words-index l.self
