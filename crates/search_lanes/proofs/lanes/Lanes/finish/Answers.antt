use Rattle.std.proofs.Common.{◌≡◌, ◌+◌, ◌<◌, ◌≤◌, ◌++◌, arith, true, false, sym, ap, ◌∙◌, refl, subst, length, List}
use Rattle.std.specs.Prelude.{if◌then◌else◌, ◌==◌, set}
use Rattle.std.proofs.lemmas.Option.{slice_get_within}
use Rattle.node_boxes.specs.declared.node_box.NodeBox.{NodeBox}
use Rattle.node_boxes.specs.Children.{children_of}
use Rattle.node_boxes.specs.Octree.{IsOctreeBox}
use Rattle.octree_search.specs.declared.arena.Met.{Met}
use Rattle.octree_search.specs.declared.queue.Waiting.{Waiting}
use Rattle.search_lanes.specs.declared.lane_slots.Slot.{Slot}
use Rattle.search_lanes.specs.declared.lane_slots.Slot.TheVariants.{Free, Busy}
use Rattle.search_lanes.specs.LaneViews.{Fits, LanesView}
use Rattle.search_lanes.specs.Inside.Moves.{finished}
use Rattle.search_lanes.specs.Inside.Slots.{busy, greatest_bound, state_of, view_of, waits_from}
use Rattle.search_lanes.proofs.LaneSlots.{held_from}
use Rattle.search_lanes.proofs.LaneSteps.{falls_there, finish_open, finish_over, fits_same, held_splittable, held_tree, held_within, many, opened_fits, opened_whole, over_whole, refused, stepped}
use Rattle.search_lanes.proofs.lanes.Lanes.finish.Goals as goal

pub children-requires : goal.children-requires
children-requires g c =
    let l = c.self.inside in
    let held = held_from l.slots.items c.deref.result.now c.args.lane c.in-Some.held c.deref.ensures.value c.in-Some.ensures in
    let going : l.over ≡ false = ap (λ (v : LanesView). v.state.over) c.self.view_is ∙ c.requires.going in
    held_splittable l.grid l.roots.items l.margin l.budget l.met.items l.waiting.items l.slots.items l.upper l.over c.self.invariant going
    c.args.lane c.in-Some.held held

pub invariant_of-self : goal.invariant_of-self
invariant_of-self g c =
    let l = c.self.inside in
    let held = held_from l.slots.items c.deref.result.now c.args.lane c.in-Some.held c.deref.ensures.value c.in-Some.ensures in
    let going : l.over ≡ false = ap (λ (v : LanesView). v.state.over) c.self.view_is ∙ c.requires.going in
    let kids : c.len-2.result ≡ length (children_of c.in-Some.held.area) = rw c.children.ensures at c.len-2.ensures.value in
    let past : l.budget < length l.met.items + length (children_of c.in-Some.held.area) = omega (arith, c.if-len-self.true, c.len.ensures, l.met.ok, kids) in
    over_whole l.grid l.roots.items l.margin l.budget l.met.items l.waiting.items l.slots.items l.upper l.over c.self.invariant going
    c.args.lane c.in-Some.held held past

pub returns-then-len-self-clause-done : goal.returns-then-len-self-clause-done
returns-then-len-self-clause-done g c =
    let l = c.self.inside in
    let held = held_from l.slots.items c.deref.result.now c.args.lane c.in-Some.held c.deref.ensures.value c.in-Some.ensures in
    let kids : c.len-2.result ≡ length (children_of c.in-Some.held.area) = rw c.children.ensures at c.len-2.ensures.value in
    let past : l.budget < length l.met.items + length (children_of c.in-Some.held.area) = omega (arith, c.if-len-self.true, c.len.ensures, l.met.ok, kids) in
    let bound = g.J.Judge.bound_of c.args.judge.now in
    stepped (λ (v : LanesView). finished bound v.budget v.state c.args.lane)
    (view_of l.grid l.roots.items l.margin l.budget l.waiting.items l.slots.items (length l.met.items) l.over) c.args.self.now
    (view_of l.grid l.roots.items l.margin l.budget l.waiting.items l.slots.items (length l.met.items) true)
    c.self.view_is (finish_over l.waiting.items l.slots.items (length l.met.items) l.over c.args.lane bound l.budget c.in-Some.held held past) refl

pub open_box-requires-clause-several : goal.open_box-requires-clause-several
open_box-requires-clause-several g c =
    let l = c.self.inside in
    let held = held_from l.slots.items c.deref.result.now c.args.lane c.in-Some.held c.deref.ensures.value c.in-Some.ensures in
    let going : l.over ≡ false = ap (λ (v : LanesView). v.state.over) c.self.view_is ∙ c.requires.going in
    held_splittable l.grid l.roots.items l.margin l.budget l.met.items l.waiting.items l.slots.items l.upper l.over c.self.invariant going
    c.args.lane c.in-Some.held held

pub open_box-requires-clause-place : goal.open_box-requires-clause-place
open_box-requires-clause-place g c =
    let l = c.self.inside in
    let held = held_from l.slots.items c.deref.result.now c.args.lane c.in-Some.held c.deref.ensures.value c.in-Some.ensures in
    let going : l.over ≡ false = ap (λ (v : LanesView). v.state.over) c.self.view_is ∙ c.requires.going in
    held_within l.grid l.roots.items l.margin l.budget l.met.items l.waiting.items l.slots.items l.upper l.over c.self.invariant going
    c.args.lane c.in-Some.held held

pub open_box-requires-clause-tree : goal.open_box-requires-clause-tree
open_box-requires-clause-tree g c =
    let l = c.self.inside in
    let held = held_from l.slots.items c.deref.result.now c.args.lane c.in-Some.held c.deref.ensures.value c.in-Some.ensures in
    let going : l.over ≡ false = ap (λ (v : LanesView). v.state.over) c.self.view_is ∙ c.requires.going in
    let roots : l.roots.items ≡ c.args.self.now.roots = ap (λ (v : LanesView). v.roots) c.self.view_is in
    subst (λ (rs : List NodeBox). IsOctreeBox rs c.in-Some.held.area) (roots ∙ sym c.requires.fits.same_roots)
    (held_tree l.grid l.roots.items l.margin l.budget l.met.items l.waiting.items l.slots.items l.upper l.over c.self.invariant going
    c.args.lane c.in-Some.held held)

pub returns-in-Err-clause-done : goal.returns-in-Err-clause-done
returns-in-Err-clause-done g c =
    let l = c.self.inside in
    let held = held_from l.slots.items c.deref.result.now c.args.lane c.in-Some.held c.deref.ensures.value c.in-Some.ensures in
    let kids : c.len-2.result ≡ length (children_of c.in-Some.held.area) = rw c.children.ensures at c.len-2.ensures.value in
    let few : length l.met.items + length (children_of c.in-Some.held.area) ≤ l.budget = omega (arith, c.if-len-self.false, c.len.ensures, l.met.ok, kids) in
    let bound = g.J.Judge.bound_of c.args.judge.now in
    refused (λ (v : LanesView). finished bound v.budget v.state c.args.lane)
    (view_of l.grid l.roots.items l.margin l.budget l.waiting.items l.slots.items (length l.met.items) l.over) c.args.self.now
    (view_of l.grid l.roots.items l.margin l.budget c.open_box.new.boxes.items l.slots.items (length c.open_box.new.met.items) l.over)
    c.self.view_is
    (state_of (l.waiting.items ++ waits_from bound 0 (children_of c.in-Some.held.area)) (set l.slots.items c.args.lane Free)
    (length l.met.items + length (children_of c.in-Some.held.area)) l.over)
    (finish_open l.waiting.items l.slots.items (length l.met.items) l.over c.args.lane bound l.budget c.in-Some.held held 0
    (length l.met.items + length (children_of c.in-Some.held.area)) few refl)
    (ap (λ (ws : List Waiting). view_of l.grid l.roots.items l.margin l.budget ws l.slots.items (length c.open_box.new.met.items) l.over) c.in-Err.ensures.boxes_refused
    ∙ ap (λ (ms : List Met). view_of l.grid l.roots.items l.margin l.budget l.waiting.items l.slots.items (length ms) l.over) c.in-Err.ensures.met_refused)

pub index_mut-requires : goal.index_mut-requires
index_mut-requires g c =
    let l = c.self.inside in
    let held = held_from l.slots.items c.deref.result.now c.args.lane c.in-Some.held c.deref.ensures.value c.in-Some.ensures in
    let within = slice_get_within l.slots.items c.args.lane (Busy c.in-Some.held) held in
    omega (arith, within, l.slots.ok)

pub invariant_of-self-2 : goal.invariant_of-self-2
invariant_of-self-2 g c =
    let l = c.self.inside in
    let held = held_from l.slots.items c.deref.result.now c.args.lane c.in-Some.held c.deref.ensures.value c.in-Some.ensures in
    let going : l.over ≡ false = ap (λ (v : LanesView). v.state.over) c.self.view_is ∙ c.requires.going in
    let kids : c.len-2.result ≡ length (children_of c.in-Some.held.area) = rw c.children.ensures at c.len-2.ensures.value in
    let few : length l.met.items + length (children_of c.in-Some.held.area) ≤ l.budget = omega (arith, c.if-len-self.false, c.len.ensures, l.met.ok, kids) in
    let bound = g.J.Judge.bound_of c.args.judge.now in
    let fits = subst (Fits (g.J.Judge.grid c.args.judge.now) (g.J.Judge.roots c.args.judge.now) bound) (sym c.self.view_is) c.requires.fits in
    let falls = falls_there (g.J.Judge.grid c.args.judge.now) (g.J.Judge.roots c.args.judge.now) bound
    (view_of l.grid l.roots.items l.margin l.budget l.waiting.items l.slots.items (length l.met.items) l.over) (g.met.J.Judge.falls c.args.judge.now) fits in
    opened_whole l.grid l.roots.items l.margin l.budget l.met.items l.waiting.items l.slots.items l.upper l.over c.self.invariant going
    c.args.lane c.in-Some.held held (g.J.Judge.grid c.args.judge.now) (g.J.Judge.roots c.args.judge.now) bound falls fits
    c.open_box.new.met.items c.open_box.new.boxes.items few c.in_default-open_box.ensures.met c.in_default-open_box.ensures.boxes c.upper_after-self-inside.result
    (subst (λ (bs : List Waiting). c.upper_after-self-inside.result ≡ (if c.in-Some.held.bound == l.upper then greatest_bound (bs ++ busy (set l.slots.items c.args.lane Free)) else l.upper))
    c.deref-2.ensures.value
    (subst (λ (ss : List Slot). c.upper_after-self-inside.result ≡ (if c.in-Some.held.bound == l.upper then greatest_bound (c.deref-2.result.now ++ busy ss) else l.upper))
    c.deref-3.ensures.value c.upper_after-self-inside.ensures))

pub returns-clause-done : goal.returns-clause-done
returns-clause-done g c =
    let l = c.self.inside in
    let held = held_from l.slots.items c.deref.result.now c.args.lane c.in-Some.held c.deref.ensures.value c.in-Some.ensures in
    let going : l.over ≡ false = ap (λ (v : LanesView). v.state.over) c.self.view_is ∙ c.requires.going in
    let kids : c.len-2.result ≡ length (children_of c.in-Some.held.area) = rw c.children.ensures at c.len-2.ensures.value in
    let few : length l.met.items + length (children_of c.in-Some.held.area) ≤ l.budget = omega (arith, c.if-len-self.false, c.len.ensures, l.met.ok, kids) in
    let bound = g.J.Judge.bound_of c.args.judge.now in
    let fits = subst (Fits (g.J.Judge.grid c.args.judge.now) (g.J.Judge.roots c.args.judge.now) bound) (sym c.self.view_is) c.requires.fits in
    let falls = falls_there (g.J.Judge.grid c.args.judge.now) (g.J.Judge.roots c.args.judge.now) bound
    (view_of l.grid l.roots.items l.margin l.budget l.waiting.items l.slots.items (length l.met.items) l.over) (g.met.J.Judge.falls c.args.judge.now) fits in
    let long = many l.grid l.roots.items l.margin l.budget l.met.items l.waiting.items l.slots.items l.upper l.over c.self.invariant going
    c.args.lane c.in-Some.held held (g.J.Judge.grid c.args.judge.now) (g.J.Judge.roots c.args.judge.now) bound falls fits
    c.open_box.new.met.items c.open_box.new.boxes.items few c.in_default-open_box.ensures.met c.in_default-open_box.ensures.boxes in
    rw c.in_default-open_box.ensures.boxes (stepped (λ (v : LanesView). finished bound v.budget v.state c.args.lane)
    (view_of l.grid l.roots.items l.margin l.budget l.waiting.items l.slots.items (length l.met.items) l.over) c.args.self.now
    (view_of l.grid l.roots.items l.margin l.budget (l.waiting.items ++ waits_from bound (length l.met.items) (children_of c.in-Some.held.area))
    (set l.slots.items c.args.lane Free) (length c.open_box.new.met.items) l.over)
    c.self.view_is
    (finish_open l.waiting.items l.slots.items (length l.met.items) l.over c.args.lane bound l.budget c.in-Some.held held (length l.met.items)
    (length c.open_box.new.met.items) few long) refl)

pub returns-clause-fits : goal.returns-clause-fits
returns-clause-fits g c =
    let l = c.self.inside in
    let held = held_from l.slots.items c.deref.result.now c.args.lane c.in-Some.held c.deref.ensures.value c.in-Some.ensures in
    let going : l.over ≡ false = ap (λ (v : LanesView). v.state.over) c.self.view_is ∙ c.requires.going in
    let kids : c.len-2.result ≡ length (children_of c.in-Some.held.area) = rw c.children.ensures at c.len-2.ensures.value in
    let few : length l.met.items + length (children_of c.in-Some.held.area) ≤ l.budget = omega (arith, c.if-len-self.false, c.len.ensures, l.met.ok, kids) in
    let bound = g.J.Judge.bound_of c.args.judge.now in
    let fits = subst (Fits (g.J.Judge.grid c.args.judge.now) (g.J.Judge.roots c.args.judge.now) bound) (sym c.self.view_is) c.requires.fits in
    let falls = falls_there (g.J.Judge.grid c.args.judge.now) (g.J.Judge.roots c.args.judge.now) bound
    (view_of l.grid l.roots.items l.margin l.budget l.waiting.items l.slots.items (length l.met.items) l.over) (g.met.J.Judge.falls c.args.judge.now) fits in
    let ok = c.in_default-open_box.ensures in
    fits_same (g.J.Judge.grid c.args.judge.now) (g.J.Judge.grid c.open_box.new.judge) (g.J.Judge.roots c.args.judge.now) (g.J.Judge.roots c.open_box.new.judge)
    bound (g.J.Judge.bound_of c.open_box.new.judge)
    (view_of l.grid l.roots.items l.margin l.budget c.open_box.new.boxes.items (set l.slots.items c.args.lane Free) (length c.open_box.new.met.items) l.over)
    ok.same_grid ok.same_roots ok.same_bounds
    (opened_fits l.grid l.roots.items l.margin l.budget l.met.items l.waiting.items l.slots.items l.upper l.over c.self.invariant going
    c.args.lane c.in-Some.held held (g.J.Judge.grid c.args.judge.now) (g.J.Judge.roots c.args.judge.now) bound falls fits
    c.open_box.new.met.items c.open_box.new.boxes.items few c.in_default-open_box.ensures.met c.in_default-open_box.ensures.boxes)
