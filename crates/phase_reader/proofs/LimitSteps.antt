-- The limits of a draft, pick by pick.
use Rattle.std.proofs.Common.{◌≡◌, ℕ, ◌+◌, ◌≤◌, false, List, [], ◌∷◌, ◌++◌, length, arith}
use Rattle.std.specs.Prelude.{min, ◌-ℤ◌, unsigned_abs}
use Rattle.std.proofs.lemmas.List.{length-append}
use Rattle.std.proofs.lemmas.List.Elements.{All-append, All-cons, All-nil}
use Rattle.std.proofs.lemmas.Grind.{common_steps}
use Rattle.phase_reader.specs.declared.draft.PhaseDraft.{PhaseDraft}
use Rattle.phase_reader.specs.declared.phases.Pick.{Pick}
use Rattle.phase_reader.specs.PhaseEvents.{passes_limit}
use Rattle.phase_reader.specs.Limits.{IsPick, AreNear, AreNearFirst}
use Rattle.phase_reader.specs.Inside.DraftLimits.{IsDraft}

-- a pick that passes no limit is near the first, and there is room for it
record HasRoom (events : ℕ) (picks : List Pick) (pick : Pick) : Type 0 where
  room : length picks + 1 ≤ 4096
  count : events + 1 ≤ 10000
  near : AreNearFirst (picks ++ pick ∷ [])

has_room : (events : ℕ) (picks : List Pick) (pick : Pick) → length picks ≤ 4096 → events + min 1 (length picks) ≤ 10000 → AreNearFirst picks → passes_limit events picks pick.time ≡ false → HasRoom events picks pick
has_room events [] pick few count near within = record { room = omega arith; count = grind (arith, common_steps); near = All-nil (AreNear pick) }
has_room events (first ∷ more) pick few count near within =
    let room : length (first ∷ more) + 1 ≤ 4096 = grind (arith, common_steps) in
    let far : unsigned_abs (pick.time -ℤ first.time) ≤ 1000000000000 = grind (arith, common_steps) in
    record { room = room; count = omega (arith, count); near = All-append (AreNear first) more (pick ∷ []) near (All-cons (AreNear first) pick [] far (All-nil (AreNear first))) }

-- a draft with one more pick
pub limits_pick : (draft new : PhaseDraft) (pick : Pick) → new.events ≡ draft.events → new.picks.items ≡ draft.picks.items ++ pick ∷ []
    → passes_limit (length draft.events.items) draft.picks.items pick.time ≡ false → IsPick pick → IsDraft draft → IsDraft new
limits_pick draft new pick events picks within good limits =
    let room : HasRoom (length draft.events.items) draft.picks.items pick = has_room (length draft.events.items) draft.picks.items pick limits.few limits.count limits.near within in
    record {
      count = rw (events, picks) (omega (arith, length-append draft.picks.items (pick ∷ []), room.count));
      events = rw events limits.events;
      few = rw picks (omega (arith, length-append draft.picks.items (pick ∷ []), room.room));
      picks = rw picks (All-append IsPick draft.picks.items (pick ∷ []) limits.picks (All-cons IsPick pick [] good (All-nil IsPick)));
      near = rw picks room.near;
    }
