-- The key that words which stand elsewhere mean.
use Rattle.station_table.specs.declared.key_words.KeyWords.{KeyWords}
use Rattle.station_table.specs.declared.keys.GridKey.{GridKey}

-- the key of these words
abbrev pub as_key : KeyWords → GridKey
as_key words = record {
  station = words.station.now;
  phase = words.phase.now;
  grid_phase = words.grid_phase.now;
  converted = words.converted;
}
