-- The picks of events that are decided one after the other.
use Rattle.std.proofs.Common.{◌≡◌, ℕ, ◌+◌, ◌<◌, List, [], ◌∷◌, ◌++◌, length, get_or, map, take, sym, ap, ◌∙◌}
use Rattle.std.specs.Prelude.{All}
use Rattle.std.specs.List.{AllPairs}
use Rattle.std.proofs.lemmas.List.Elements.{All-push}
use Rattle.control_reader.specs.ControlValues.{ControlValues}
use Rattle.phase_reader.specs.declared.phases.Event.{Event}
use Rattle.phase_reader.specs.PhaseFile.{picks_of_events}
use Rattle.station_table.specs.declared.keys.GridKey.{GridKey}
use Rattle.station_table.specs.declared.keys.Place.{Place}
use Rattle.station_table.specs.declared.picks.Picks.{Picks}
use Rattle.station_table.specs.Limits.{AreNear, IsUsedPick}
use Rattle.station_table.specs.Using.{ArePicksOf, used_picks, skipped_picks}
use Rattle.event_assembly.specs.Inside.Deciding.{AreDecided, AreUsed}
use Rattle.event_assembly.proofs.ListLaws.{map_push, take_item}

-- one more thing is made of one more item
made_more : {A B C : Type 0} (f : A → C) (g : B → C) (those : List A) (a : A) (bs : List B) (b : B) → map f those ≡ map g bs → f a ≡ g b
    → map f (those ++ a ∷ []) ≡ map g (bs ++ b ∷ [])
made_more f g those a bs b before one = map_push f those a ∙ rw (before, one) (sym (map_push g bs b))

-- one more event
pub AreDecided-more : (control : ControlValues) (keys : List GridKey) (places : List Place) (events : List Event) (i : ℕ) (event : Event)
    (decided : List Picks) (picks : Picks) → i < length events → event ≡ get_or events i event
    → AreDecided control keys places (picks_of_events (take i events)) decided → ArePicksOf control keys places event.picks.items picks
    → AllPairs AreNear picks.used.items → All (IsUsedPick (length keys)) picks.used.items
    → AreDecided control keys places (picks_of_events (take (i + 1) events)) (decided ++ picks ∷ [])
AreDecided-more control keys places events i event decided picks below is before one near limits =
    let behind : picks_of_events (take (i + 1) events) ≡ picks_of_events (take i events) ++ event.picks.items ∷ [] =
    ap picks_of_events (take_item events i event below is) ∙ map_push (λ (e : Event). e.picks.items) (take i events) event in
    record {
      used = rw behind (made_more (λ (p : Picks). p.used.items) (used_picks control keys places) decided picks (picks_of_events (take i events)) event.picks.items before.used one.used);
      skipped = rw behind
          (made_more (λ (p : Picks). p.skipped.items) (skipped_picks control keys places) decided picks (picks_of_events (take i events)) event.picks.items before.skipped one.skipped);
      limits = All-push (AreUsed (length keys)) decided picks before.limits (record { limits = limits; near = near });
    }
