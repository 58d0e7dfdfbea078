-- The form of the lines of a block before its certificate.
use Rattle.std.specs.Prelude.{◌≡◌, Bool, true, false, ◌&&◌, take, codes, Option}
use Rattle.std.specs.List.{list_all}
use Rattle.std.specs.Str.{bytes_eq}
use Rattle.text_terms.specs.Lines.{LineText}
use Rattle.text_terms.specs.Names.{is_name}
use Rattle.cover_certificate.specs.Blocks.{IsValidBlock}
use Rattle.cover_certificate.specs.BlockLines.{IsTypedBlock}
use Rattle.octree_search.specs.Outcomes.{Outcome}
use Rattle.station_table.specs.declared.picks.Skip.{Skip}
use Rattle.station_table.specs.declared.picks.UsedPick.{UsedPick}
use Rattle.event_assembly.specs.AssemblyValues.{EventValues}
use Rattle.location_report.specs.Blocks.{certificate_value}

-- the line begins with the first word of a certificate and a blank
abbrev pub begins_certificate : LineText → Bool
begins_certificate line = bytes_eq (take 5 line.bytes) (codes "CERT ")

-- a line feed ends the line, and it isn't the first of a certificate
pub record IsBefore (line : LineText) : Type 0 where
  pub ended : line.ended ≡ true
  pub other : begins_certificate line ≡ false

-- station and phase of a used pick are names
abbrev pub has_names : UsedPick → Bool
has_names pick = is_name 512 pick.station && is_name 512 pick.phase

-- so are those of another pick
abbrev pub skip_has_names : Skip → Bool
skip_has_names skip = is_name 512 skip.station && is_name 512 skip.phase

-- the picks of an event have names, and its certificate is one that can be written
pub record IsPlainEvent (event : EventValues) (outcome : Option Outcome) : Type 0 where
  pub used : list_all has_names event.used ≡ true
  pub skipped : list_all skip_has_names event.skipped ≡ true
  pub valid : IsValidBlock (certificate_value event.case outcome)
  pub typed : IsTypedBlock (certificate_value event.case outcome)
