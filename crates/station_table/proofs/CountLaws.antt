-- How many keys events may need.
use Rattle.std.proofs.Common.{◌*◌, ◌≤◌, Bool, List, [], ◌∷◌, All, length, filter, not, arith}
use Rattle.std.specs.List.{flat_map}
use Rattle.std.proofs.lemmas.List.{length-append, length-map}
use Rattle.std.proofs.lemmas.List.Elements.{All-head, All-tail}
use Rattle.std.proofs.lemmas.List.Sums.{length-filter, count_by-le-length}
use Rattle.control_reader.specs.ControlValues.{ControlValues}
use Rattle.phase_reader.specs.Limits.{IsEvent}
use Rattle.phase_reader.specs.PhaseFile.{picks_of_events}
use Rattle.phase_reader.specs.declared.phases.Event.{Event}
use Rattle.phase_reader.specs.declared.phases.Pick.{Pick}
use Rattle.station_table.specs.declared.keys.GridKey.{GridKey}
use Rattle.station_table.specs.Keys.{same_key, first_seen, key_of, keys_of, is_wanted, wanted_keys}

-- no more items pass a test than there are
filter_short : {A : Type 0} (test : A → Bool) (xs : List A) → length (filter test xs) ≤ length xs
filter_short test xs = omega (arith, length-filter test xs, count_by-le-length test xs)

-- no more keys are first seen than there are
seen_short : (keys : List GridKey) → length (first_seen keys) ≤ length keys
seen_short [] = omega arith
seen_short (key ∷ keys) =
    let rest = seen_short keys in
    let kept = filter_short (λ other. not (same_key key other)) (first_seen keys) in
    omega (arith, rest, kept)

-- events have at most 4096 picks each
picks_few : (events : List Event) → All IsEvent events → length (flat_map (λ (picks : List Pick). picks) (picks_of_events events)) ≤ 4096 * length events
picks_few [] all = omega arith
picks_few (event ∷ events) all =
    let few = (All-head IsEvent event events all).few in
    let rest = picks_few events (All-tail IsEvent event events all) in
    let both = length-append event.picks.items (flat_map (λ (picks : List Pick). picks) (picks_of_events events)) in
    omega (arith, few, rest, both)

-- so they need no more keys
pub wanted_few : (control : ControlValues) (events : List Event) → All IsEvent events → length (wanted_keys control (picks_of_events events)) ≤ 4096 * length events
unfolding wanted_keys
wanted_few control events all =
    let picks = flat_map (λ (picks : List Pick). picks) (picks_of_events events) in
    let seen = seen_short (keys_of control picks) in
    let named = length-map (filter (is_wanted control) picks) (key_of control) in
    let kept = filter_short (is_wanted control) picks in
    let few = picks_few events all in
    omega (arith, seen, named, kept, few)
