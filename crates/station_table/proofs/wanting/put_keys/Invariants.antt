use Rattle.std.proofs.Common.{◌≡◌, take}
use Rattle.control_reader.specs.ControlValues.{values_of}
use Rattle.indexmap.specs.IndexSet.{insert_all}
use Rattle.station_table.specs.Keys.{same_key, keys_of}
use Rattle.station_table.proofs.wanting.put_keys.Given as goal

abbrev pub invariant-loop-pick : goal.invariant-loop-pick
invariant-loop-pick l = l.index ≡ insert_all same_key l.fn.index (keys_of (values_of l.control) (take l.pick-index l.picks))
