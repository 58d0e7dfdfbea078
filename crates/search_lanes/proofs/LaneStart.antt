-- What holds of lanes at the start.
use Rattle.std.proofs.Common.{◌≡◌, ℕ, zero, suc, ◌*◌, ◌≤◌, ◌<◌, arith, true, false, List, [], ◌∷◌, ◌++◌, length, map, replicate, refl, ap, sym, ◌∙◌, subst, All}
use Rattle.std.specs.Prelude.{nat_lt}
use Rattle.std.proofs.Math.Seq.{take-length}
use Rattle.std.proofs.lemmas.List.{append-nil, length-map}
use Rattle.std.proofs.lemmas.List.Sums.{sum_by-append}
use Rattle.std.proofs.lemmas.Nat.{mul-le}
use Rattle.node_boxes.specs.declared.node_box.NodeBox.{NodeBox}
use Rattle.node_boxes.specs.Grid.{GridSize, IsGrid}
use Rattle.node_boxes.specs.Roots.{AreRoots}
use Rattle.octree_search.specs.Cover.{below}
use Rattle.octree_search.specs.Outcomes.{bounded}
use Rattle.octree_search.specs.Arena.{areas_met, fresh}
use Rattle.octree_search.proofs.Arenas.{areas_fresh}
use Rattle.octree_search.proofs.Goes.{root_trees, sum_ones}
use Rattle.search_lanes.specs.declared.lane_slots.Slot.TheVariants.{Free}
use Rattle.search_lanes.specs.Lanes.{Idle, start}
use Rattle.search_lanes.specs.LaneViews.{Fits}
use Rattle.search_lanes.specs.Inside.Bags.{holds_place, left_below, IsBagOf}
use Rattle.search_lanes.specs.Inside.Slots.{busy, greatest_bound, is_low, lane_of, state_of, view_of, waits_from}
use Rattle.search_lanes.specs.Inside.Whole.{ByRoots, IsWhole}
use Rattle.search_lanes.proofs.LaneArena.{arena_more}
use Rattle.search_lanes.proofs.LaneBags.{waits_held, waits_left}
use Rattle.search_lanes.proofs.LaneSlots.{waits_boxed}
use Rattle.search_lanes.proofs.LaneFits.{judged_fits, judged_none, judged_start, IsJudged}

-- lanes that have no box hold none
pub busy_free : (n : ℕ) → busy (replicate n Free) ≡ []
busy_free zero = refl
busy_free (suc n) = busy_free n

-- a grid has a root
pub roots_some : (g : GridSize) (roots : List NodeBox) → IsGrid g → AreRoots g roots → 1 ≤ length roots
roots_some g [] is are =
    let nodes = are.nodes in
    let plane : 1 ≤ g.x * g.y = mul-le 1 1 g.x g.y is.x_from is.y_from in
    let some : 1 ≤ g.x * g.y * g.z = mul-le 1 1 (g.x * g.y) g.z plane is.z_from in
    absurd (omega (arith, nodes, some))
roots_some g (a ∷ roots) is are = omega arith

module _ (g : GridSize) (roots : List NodeBox) (budget : ℕ) (are : AreRoots g roots) where
  -- the roots were met, and none of them was opened
  pub bag_start : (bound : NodeBox → ℕ) → length roots ≤ budget
      → IsBagOf g roots budget (map (fresh bound) roots) (waits_from bound 0 roots ++ [])
  bag_start bound few =
      let long : length (map (fresh bound) roots) ≡ length roots = length-map roots (fresh bound) in
      record {
        within = omega (arith, long, few);
        arena = arena_more roots bound [] [] roots (root_trees roots roots (λ b at. at)) (record {
          entries = λ i d below'. absurd (omega (arith, below'));
          queued = λ k d below'. absurd (omega (arith, below'));
        });
        once = λ ix iy iz inside _.
            let parted = sum_by-append (holds_place ix iy iz) (waits_from bound 0 roots) [] in
            let held = waits_held bound ix iy iz roots 0 in
            let one = are.once ix iy iz inside in
            omega (arith, parted, held, one);
        first = λ _. let areas : areas_met (map (fresh bound) roots) ≡ roots = areas_fresh bound roots in rw areas (take-length roots);
        count = λ judge t _ _.
            let parted = sum_by-append (left_below judge t) (waits_from bound 0 roots) [] in
            omega (arith, parted, waits_left bound judge t roots 0, long, sum_ones (below judge t) roots);
      }

  -- nothing was met
  pub bag_none : IsBagOf g roots budget [] []
  bag_none = record {
    within = omega arith;
    arena = record {
      entries = λ i d below'. absurd (omega (arith, below'));
      queued = λ k d below'. absurd (omega (arith, below'));
    };
    once = λ ix iy iz inside some. absurd (omega (arith, some));
    first = λ some. absurd (omega (arith, some));
    count = λ judge t some _. absurd (omega (arith, some));
  }

  -- no lane has a box that isn't ready
  ready_free : (margin upper lanes : ℕ) → All (λ w. is_low margin upper w ≡ false) (busy (replicate lanes Free))
  ready_free margin upper lanes k d below' =
      let none : length (busy (replicate lanes Free)) ≡ 0 = ap length (busy_free lanes) in absurd (omega (arith, below', none))

  -- lanes at the start, where the roots are within the budget
  pub whole_start : (bound : NodeBox → ℕ) (margin lanes upper : ℕ) → 1 ≤ length roots → margin ≤ 999 → length roots ≤ budget
      → upper ≡ greatest_bound (waits_from bound 0 roots)
      → IsWhole g roots margin budget (map (fresh bound) roots) (waits_from bound 0 roots) (replicate lanes Free) upper false
  whole_start bound margin lanes upper some margin_is few upper_is =
      let same : waits_from bound 0 roots ++ busy (replicate lanes Free) ≡ waits_from bound 0 roots ++ [] =
      ap (λ held. waits_from bound 0 roots ++ held) (busy_free lanes) in
      record {
        are = are;
        margin_is = margin_is;
        bag = subst (IsBagOf g roots budget (map (fresh bound) roots)) (sym same) (bag_start bound few);
        upper_is = upper_is ∙ ap greatest_bound (sym (append-nil (waits_from bound 0 roots)) ∙ sym same);
        started = λ _. omega (arith, some, length-map roots (fresh bound));
        ready = ready_free margin upper lanes;
        past = λ over. absurd cc;
      }

  -- and where they are more
  pub whole_past : (margin lanes : ℕ) → margin ≤ 999 → budget < length roots
      → IsWhole g roots margin budget [] [] (replicate lanes Free) 0 true
  whole_past margin lanes margin_is past = record {
    are = are;
    margin_is = margin_is;
    bag = subst (IsBagOf g roots budget []) (sym (busy_free lanes)) bag_none;
    upper_is = ap greatest_bound (sym (busy_free lanes));
    started = λ over. absurd cc;
    ready = ready_free margin 0 lanes;
    past = λ _. ByRoots past;
  }

  -- a judge fits lanes at the start
  pub fits_start : (bound : NodeBox → ℕ) (margin lanes upper : ℕ)
      → IsWhole g roots margin budget (map (fresh bound) roots) (waits_from bound 0 roots) (replicate lanes Free) upper false
      → Fits g roots bound (view_of g roots margin budget (waits_from bound 0 roots) (replicate lanes Free) (length (map (fresh bound) roots)) false)
  fits_start bound margin lanes upper whole =
      judged_fits g roots margin budget (map (fresh bound) roots) (waits_from bound 0 roots) (replicate lanes Free) false are whole.bag g roots bound refl refl
      (subst (IsJudged bound margin (map (fresh bound) roots)) (sym (ap (λ held. waits_from bound 0 roots ++ held) (busy_free lanes) ∙ append-nil (waits_from bound 0 roots)))
      (judged_start bound margin roots))

  pub fits_past : (bound : NodeBox → ℕ) (margin lanes : ℕ)
      → IsWhole g roots margin budget [] [] (replicate lanes Free) 0 true
      → Fits g roots bound (view_of g roots margin budget [] (replicate lanes Free) 0 true)
  fits_past bound margin lanes whole =
      judged_fits g roots margin budget [] [] (replicate lanes Free) true are whole.bag g roots bound refl refl
      (subst (IsJudged bound margin []) (sym (busy_free lanes)) (judged_none bound margin))

-- what is seen of lanes that have no box
free_seen : (n : ℕ) → map lane_of (replicate n Free) ≡ replicate n Idle
free_seen zero = refl
free_seen (suc n) = ap (λ rest. Idle ∷ rest) (free_seen n)

-- what is seen of lanes at the start
pub start_seen : (bound : NodeBox → ℕ) (budget lanes : ℕ) (roots : List NodeBox) → nat_lt budget (length roots) ≡ false
    → state_of (waits_from bound 0 roots) (replicate lanes Free) (length (map (fresh bound) roots)) false ≡ start bound budget lanes roots
start_seen bound budget lanes roots few =
    rw few (ap (λ ws. record { waiting = ws; lanes = map lane_of (replicate lanes Free); met = length (map (fresh bound) roots); over = false }) (waits_boxed bound roots 0)
    ∙ ap (λ ls. record { waiting = map (bounded bound) roots; lanes = ls; met = length (map (fresh bound) roots); over = false }) (free_seen lanes)
    ∙ ap (λ n. record { waiting = map (bounded bound) roots; lanes = replicate lanes Idle; met = n; over = false }) (length-map roots (fresh bound)))

pub past_seen : (bound : NodeBox → ℕ) (budget lanes : ℕ) (roots : List NodeBox) → nat_lt budget (length roots) ≡ true
    → state_of [] (replicate lanes Free) 0 true ≡ start bound budget lanes roots
past_seen bound budget lanes roots past =
    rw past (ap (λ ls. record { waiting = []; lanes = ls; met = 0; over = true }) (free_seen lanes))
