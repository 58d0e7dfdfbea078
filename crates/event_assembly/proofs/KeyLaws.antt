-- The wanted keys.
use Rattle.std.proofs.Common.{◌≡◌, ℕ, Bool, true, List, [], ◌∷◌, get_or, map, filter, All, pos, arith}
use Rattle.std.specs.Prelude.{not, int_lt, ℤ, ◌<ℤ◌, codes}
use Rattle.std.specs.List.{flat_map}
use Rattle.std.specs.Str.{bytes_eq}
use Rattle.std.proofs.lemmas.Bool.{and_parts}
use Rattle.std.proofs.lemmas.Int.{ints}
use Rattle.std.proofs.lemmas.List.Elements.{All-cons, All-head, All-tail, All-filter, All-map, All-same}
use Rattle.control_reader.specs.ControlValues.{ControlValues}
use Rattle.phase_reader.specs.declared.phases.Pick.{Pick}
use Rattle.station_table.specs.declared.keys.GridKey.{GridKey}
use Rattle.station_table.specs.Keys.{same_key, first_seen, key_for, key_of, is_wanted, wanted_keys}
use Rattle.station_table.specs.Stations.{station_of, phase_of}
use Rattle.event_assembly.specs.Inside.Reads.{IsConvertible}

-- a number that a test finds above 0 is so
above_zero : (z : ℤ) → int_lt (pos 0) z ≡ true → pos 0 <ℤ z
above_zero z test = grind (arith, ints)

-- a key whose times are converted has a ratio
key_convertible : (control : ControlValues) (station phase : List ℕ) → IsConvertible control (key_for control station phase)
unfolding key_for
key_convertible control station phase converted =
    above_zero control.vpvs (and_parts (bytes_eq phase (codes "S")) (int_lt (pos 0) control.vpvs) converted).1

-- what holds of keys holds of those that are first seen
seen_all : (P : GridKey → Type 0) (keys : List GridKey) → All P keys → All P (first_seen keys)
seen_all P [] all = all
seen_all P (key ∷ keys) all =
    let others : GridKey → Bool = λ other. not (same_key key other) in
    All-cons P key (filter others (first_seen keys)) (All-head P key keys all)
    (All-filter others P (first_seen keys) (seen_all P keys (All-tail P key keys all)))

-- so have all wanted keys
pub wanted_convertible : (control : ControlValues) (events : List (List Pick)) (keys : List GridKey) → keys ≡ wanted_keys control events
    → All (IsConvertible control) keys
unfolding wanted_keys
wanted_convertible control events keys is =
    let picks : List Pick = filter (is_wanted control) (flat_map (λ (ps : List Pick). ps) events) in
    All-same (IsConvertible control) keys (wanted_keys control events) is
    (seen_all (IsConvertible control) (map (key_of control) picks)
    (All-map (IsConvertible control) (key_of control) picks
    (λ i d below. key_convertible control (station_of control (get_or picks i d)) (phase_of control (get_or picks i d)))))
