use Rattle.std.proofs.Common.{◌≡◌, ◌++◌, ◌∷◌, [], arith, false, sym, ap, ◌∙◌, refl, subst, length, List}
use Rattle.std.specs.Prelude.{set}
use Rattle.std.proofs.lemmas.List.{append-nil}
use Rattle.std.proofs.lemmas.Option.{slice_get_within}
use Rattle.octree_search.specs.declared.queue.Waiting.{Waiting}
use Rattle.search_lanes.specs.declared.lane_slots.Slot.TheVariants.{Free, Busy, Dead}
use Rattle.search_lanes.specs.LaneViews.{Fits, LanesView}
use Rattle.search_lanes.specs.Inside.Moves.{lost}
use Rattle.search_lanes.specs.Inside.Slots.{state_of, view_of}
use Rattle.search_lanes.proofs.LaneSlots.{held_from, live_from}
use Rattle.search_lanes.proofs.LaneSteps.{lose_fits, lose_whole, lost_free, lost_held, refused, stepped}
use Rattle.search_lanes.proofs.lanes.Lanes.lose.Goals as goal

pub invariant_of-self : goal.invariant_of-self
invariant_of-self c =
    let l = c.self.inside in
    let free = live_from l.slots.items c.deref.result.now c.deref-2.result.now c.args.lane c.deref.ensures.value c.deref-2.ensures.value c.if-not-is_live_at.ensures
    (sym c.held_at.ensures ∙ c.in_default.is) in
    let going : l.over ≡ false = ap (λ (v : LanesView). v.state.over) c.self.view_is ∙ c.requires.going in
    lose_whole l.grid l.roots.items l.margin l.budget l.met.items l.waiting.items l.slots.items l.upper l.over c.self.invariant going
    l.waiting.items c.args.lane Free free (sym (append-nil l.waiting.items))

pub returns-in_default-clause-done : goal.returns-in_default-clause-done
returns-in_default-clause-done c =
    let l = c.self.inside in
    let free = live_from l.slots.items c.deref.result.now c.deref-2.result.now c.args.lane c.deref.ensures.value c.deref-2.ensures.value c.if-not-is_live_at.ensures
    (sym c.held_at.ensures ∙ c.in_default.is) in
    stepped (λ (v : LanesView). lost v.state c.args.lane)
    (view_of l.grid l.roots.items l.margin l.budget l.waiting.items l.slots.items (length l.met.items) l.over) c.args.self.now
    (view_of l.grid l.roots.items l.margin l.budget l.waiting.items (set l.slots.items c.args.lane Dead) (length l.met.items) l.over)
    c.self.view_is (lost_free l.waiting.items l.slots.items (length l.met.items) l.over c.args.lane free) refl

pub returns-in_default-clause-fits : goal.returns-in_default-clause-fits
returns-in_default-clause-fits c = λ g roots bound fits.
    let l = c.self.inside in
    let free = live_from l.slots.items c.deref.result.now c.deref-2.result.now c.args.lane c.deref.ensures.value c.deref-2.ensures.value c.if-not-is_live_at.ensures
    (sym c.held_at.ensures ∙ c.in_default.is) in
    let going : l.over ≡ false = ap (λ (v : LanesView). v.state.over) c.self.view_is ∙ c.requires.going in
    lose_fits l.grid l.roots.items l.margin l.budget l.met.items l.waiting.items l.slots.items l.upper l.over c.self.invariant going
    l.waiting.items c.args.lane Free free (sym (append-nil l.waiting.items)) g roots bound (subst (Fits g roots bound) (sym c.self.view_is) fits)

pub returns-in-Err-clause-done : goal.returns-in-Err-clause-done
returns-in-Err-clause-done c =
    let l = c.self.inside in
    let held = held_from l.slots.items c.deref-2.result.now c.args.lane c.in-Some.held c.deref-2.ensures.value c.in-Some.ensures in
    refused (λ (v : LanesView). lost v.state c.args.lane)
    (view_of l.grid l.roots.items l.margin l.budget l.waiting.items l.slots.items (length l.met.items) l.over) c.args.self.now
    (view_of l.grid l.roots.items l.margin l.budget c.push.new.self.items l.slots.items (length l.met.items) l.over)
    c.self.view_is (state_of (l.waiting.items ++ c.in-Some.held ∷ []) (set l.slots.items c.args.lane Dead) (length l.met.items) l.over)
    (lost_held l.waiting.items l.slots.items (length l.met.items) l.over c.args.lane c.in-Some.held held)
    (ap (λ (ws : List Waiting). view_of l.grid l.roots.items l.margin l.budget ws l.slots.items (length l.met.items) l.over) c.in-Err.ensures.items)

pub index_mut-requires-2 : goal.index_mut-requires-2
index_mut-requires-2 c =
    let l = c.self.inside in
    let held = held_from l.slots.items c.deref-2.result.now c.args.lane c.in-Some.held c.deref-2.ensures.value c.in-Some.ensures in
    let within = slice_get_within l.slots.items c.args.lane (Busy c.in-Some.held) held in
    omega (arith, within, l.slots.ok)

pub invariant_of-self-2 : goal.invariant_of-self-2
invariant_of-self-2 c =
    let l = c.self.inside in
    let held = held_from l.slots.items c.deref-2.result.now c.args.lane c.in-Some.held c.deref-2.ensures.value c.in-Some.ensures in
    let going : l.over ≡ false = ap (λ (v : LanesView). v.state.over) c.self.view_is ∙ c.requires.going in
    lose_whole l.grid l.roots.items l.margin l.budget l.met.items l.waiting.items l.slots.items l.upper l.over c.self.invariant going
    c.push.new.self.items c.args.lane (Busy c.in-Some.held) held c.in_default-push.ensures.items

pub returns-clause-done : goal.returns-clause-done
returns-clause-done c =
    let l = c.self.inside in
    let held = held_from l.slots.items c.deref-2.result.now c.args.lane c.in-Some.held c.deref-2.ensures.value c.in-Some.ensures in
    rw c.in_default-push.ensures.items (stepped (λ (v : LanesView). lost v.state c.args.lane)
    (view_of l.grid l.roots.items l.margin l.budget l.waiting.items l.slots.items (length l.met.items) l.over) c.args.self.now
    (view_of l.grid l.roots.items l.margin l.budget (l.waiting.items ++ c.in-Some.held ∷ []) (set l.slots.items c.args.lane Dead) (length l.met.items) l.over)
    c.self.view_is (lost_held l.waiting.items l.slots.items (length l.met.items) l.over c.args.lane c.in-Some.held held) refl)

pub returns-clause-fits : goal.returns-clause-fits
returns-clause-fits c = λ g roots bound fits.
    let l = c.self.inside in
    let held = held_from l.slots.items c.deref-2.result.now c.args.lane c.in-Some.held c.deref-2.ensures.value c.in-Some.ensures in
    let going : l.over ≡ false = ap (λ (v : LanesView). v.state.over) c.self.view_is ∙ c.requires.going in
    lose_fits l.grid l.roots.items l.margin l.budget l.met.items l.waiting.items l.slots.items l.upper l.over c.self.invariant going
    c.push.new.self.items c.args.lane (Busy c.in-Some.held) held c.in_default-push.ensures.items g roots bound (subst (Fits g roots bound) (sym c.self.view_is) fits)
