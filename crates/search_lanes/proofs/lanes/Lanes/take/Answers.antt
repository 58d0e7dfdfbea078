use Rattle.std.proofs.Common.{◌≡◌, arith, false, sym, ap, ◌∙◌, refl, subst, length, List, None}
use Rattle.std.specs.Prelude.{set}
use Rattle.std.specs.List.{remove}
use Rattle.std.proofs.lemmas.Option.{slice_get_within}
use Rattle.octree_search.specs.declared.queue.Waiting.{Waiting}
use Rattle.search_lanes.specs.declared.lane_slots.Slot.TheVariants.{Free, Busy}
use Rattle.search_lanes.specs.LaneViews.{Fits, LanesView}
use Rattle.search_lanes.specs.Inside.Moves.{taken}
use Rattle.search_lanes.specs.Inside.Slots.{view_of}
use Rattle.search_lanes.specs.Inside.Whole.{IsWhole}
use Rattle.search_lanes.proofs.LaneSlots.{box_from, free_from}
use Rattle.search_lanes.proofs.LaneSteps.{stepped, took, took_none, take_whole, take_fits}
use Rattle.search_lanes.proofs.lanes.Lanes.take.Goals as goal

pub returns-then-is_low-clause-done : goal.returns-then-is_low-clause-done
returns-then-is_low-clause-done c =
    let l = c.self.inside in
    let free = free_from l.slots.items c.deref.result.now c.args.lane c.deref.ensures.value c.if-not-is_free_at.ensures in
    let there = box_from l.waiting.items c.deref-2.result.now c.args.place c.in-Some.top c.deref-2.ensures.value c.in-Some.ensures in
    let none = took_none l.waiting.items l.slots.items (length l.met.items) l.over c.args.lane l.margin l.upper c.args.place c.in-Some.top
    c.self.invariant.upper_is free there (sym c.if-is_low.ensures) in
    (subst (λ (v : LanesView). taken v.margin v.state c.args.lane c.args.place ≡ None) c.self.view_is none, refl)

pub remove-requires : goal.remove-requires
remove-requires c =
    let l = c.self.inside in
    let there = box_from l.waiting.items c.deref-2.result.now c.args.place c.in-Some.top c.deref-2.ensures.value c.in-Some.ensures in
    let within = slice_get_within l.waiting.items c.args.place c.in-Some.top there in
    omega (arith, within, l.waiting.ok)

pub index_mut-requires : goal.index_mut-requires
index_mut-requires c =
    let l = c.self.inside in
    let free = free_from l.slots.items c.deref.result.now c.args.lane c.deref.ensures.value c.if-not-is_free_at.ensures in
    let within = slice_get_within l.slots.items c.args.lane Free free in
    omega (arith, within, l.slots.ok)

pub invariant_of-self : goal.invariant_of-self
invariant_of-self c =
    let l = c.self.inside in
    let free = free_from l.slots.items c.deref.result.now c.args.lane c.deref.ensures.value c.if-not-is_free_at.ensures in
    let there = box_from l.waiting.items c.deref-2.result.now c.args.place c.in-Some.top c.deref-2.ensures.value c.in-Some.ensures in
    let going : l.over ≡ false = ap (λ (v : LanesView). v.state.over) c.self.view_is ∙ c.requires.going in
    subst (λ (ws : List Waiting). IsWhole l.grid l.roots.items l.margin l.budget l.met.items ws (set l.slots.items c.args.lane (Busy c.in-Some.top)) l.upper l.over)
    (sym c.remove.ensures.items)
    (take_whole l.grid l.roots.items l.margin l.budget l.met.items l.waiting.items l.slots.items l.upper l.over c.self.invariant going
    c.args.lane c.args.place c.in-Some.top there free (sym c.if-is_low.ensures))

pub returns-clause-done : goal.returns-clause-done
returns-clause-done c =
    let l = c.self.inside in
    let free = free_from l.slots.items c.deref.result.now c.args.lane c.deref.ensures.value c.if-not-is_free_at.ensures in
    let there = box_from l.waiting.items c.deref-2.result.now c.args.place c.in-Some.top c.deref-2.ensures.value c.in-Some.ensures in
    let some = took l.waiting.items l.slots.items (length l.met.items) l.over c.args.lane l.margin l.upper c.args.place c.in-Some.top
    c.self.invariant.upper_is free there (sym c.if-is_low.ensures) in
    rw c.remove.ensures.items (stepped (λ (v : LanesView). taken v.margin v.state c.args.lane c.args.place)
    (view_of l.grid l.roots.items l.margin l.budget l.waiting.items l.slots.items (length l.met.items) l.over) c.args.self.now
    (view_of l.grid l.roots.items l.margin l.budget (remove l.waiting.items c.args.place) (set l.slots.items c.args.lane (Busy c.in-Some.top)) (length l.met.items) l.over)
    c.self.view_is some refl)

pub returns-clause-fits : goal.returns-clause-fits
returns-clause-fits c = λ g roots bound fits.
    let l = c.self.inside in
    let free = free_from l.slots.items c.deref.result.now c.args.lane c.deref.ensures.value c.if-not-is_free_at.ensures in
    let there = box_from l.waiting.items c.deref-2.result.now c.args.place c.in-Some.top c.deref-2.ensures.value c.in-Some.ensures in
    let going : l.over ≡ false = ap (λ (v : LanesView). v.state.over) c.self.view_is ∙ c.requires.going in
    subst (λ (ws : List Waiting). Fits g roots bound
    (view_of l.grid l.roots.items l.margin l.budget ws (set l.slots.items c.args.lane (Busy c.in-Some.top)) (length l.met.items) l.over))
    (sym c.remove.ensures.items)
    (take_fits l.grid l.roots.items l.margin l.budget l.met.items l.waiting.items l.slots.items l.upper l.over c.self.invariant going
    c.args.lane c.args.place c.in-Some.top there free g roots bound (subst (Fits g roots bound) (sym c.self.view_is) fits))
