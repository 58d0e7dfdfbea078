-- The certificates of what a search finds can be written: they are valid, and their numbers are within their types.
use Rattle.std.proofs.Common.{◌≡◌, inl, inr, ℕ, zero, suc, ◌+◌, ◌<◌, ◌≤◌, ◌*◌, ◌^◌, ◌==◌, Bool, true, false, List, [], ◌∷◌, length, map, filter, refl, sym, subst, arith, nat_lt}
use Rattle.std.specs.Prelude.{◌&&◌, nat_le}
use Rattle.std.specs.List.{AllByRecursion, range_with_len}
use Rattle.std.proofs.lemmas.Bool.Decides.{nat_tests}
use Rattle.text_terms.proofs.Cases.{by_bool}
use Rattle.node_boxes.specs.declared.node_box.NodeBox.{NodeBox}
use Rattle.node_boxes.specs.declared.node_box.BoxBound.{BoxBound}
use Rattle.node_boxes.specs.Boxes.{IsIn, IsPartOf}
use Rattle.node_boxes.specs.Grid.{GridSize, IsGrid, node_count}
use Rattle.node_boxes.specs.Roots.{AreRoots}
use Rattle.node_boxes.proofs.Lists.{all-flat_map, all-weaker}
use Rattle.node_boxes.proofs.OctreeBoxes.{in_nonempty, part_inside}
use Rattle.edt_score.specs.Judging.{judged_score}
use Rattle.octree_search.specs.Cover.{cover, cover_of}
use Rattle.octree_search.specs.Meanings.{Says}
use Rattle.octree_search.specs.Near.{best_of, is_near, near_list, scored}
use Rattle.octree_search.specs.Outcomes.{Outcome, IsLocated, FitsNowhere, PassesBudget, PassesNearLimit, bounded, event_cover, event_met, event_near, event_threshold, found_of, located_value, outcome_of}
use Rattle.octree_search.proofs.FewestBoxes.{cover_parts}
use Rattle.octree_search.proofs.OutcomeMeanings.{outcome_says}
use Rattle.cover_certificate.specs.Blocks.{IsValidBlock}
use Rattle.cover_certificate.specs.BlockLines.{AreTypedBoxes, AreTypedNear, IsTypedBlock}
use Rattle.location_report.specs.Blocks.{certificate_of}

-- the certificate of an outcome is one that can be written
pub record IsWritable (outcome : Outcome) : Type 0 where
  pub valid : IsValidBlock (certificate_of outcome)
  pub typed : IsTypedBlock (certificate_of outcome)

-- what an outcome says is valid in a certificate
valid_of : (g : GridSize) (roots : List NodeBox) (bound : NodeBox → ℕ) (margin budget : ℕ) → node_count g ≤ 2000000 → (found : Outcome)
    → Says g roots bound margin budget found → IsValidBlock (certificate_of found)
valid_of g roots bound margin budget few (IsLocated event) says =
    record { scored = says.some; near = says.near; boxes = omega (arith, says.boxes, few) }
valid_of g roots bound margin budget few (FitsNowhere boxes met) says = omega (arith, says.1, few)
valid_of g roots bound margin budget few PassesBudget says = tt
valid_of g roots bound margin budget few PassesNearLimit says = tt

-- numbers within their types
from_zero : (n : ℕ) → nat_le 0 n ≡ true
from_zero n = grind (arith, nat_tests)

fits_node : (n : ℕ) → n < 2000000 → nat_le n 4294967295 ≡ true
fits_node n few = grind (arith, nat_tests)

fits_score : (n : ℕ) → n < 9 * 10 ^ 18 → nat_le n 18446744073709551615 ≡ true
fits_score n few = grind (arith, nat_tests)

and_then : (a b : Bool) → (a && true) ≡ true → b ≡ true → (a && b) ≡ true
and_then true b first second = second
and_then false b first second = absurd (cc first)

typed_both : (b : BoxBound) (boxes : List BoxBound) → AreTypedBoxes (b ∷ []) → AreTypedBoxes boxes → AreTypedBoxes (b ∷ boxes)
typed_both b boxes first rest = and_then _ _ first rest

-- bounds below 9*10^18 over a grid
module _ (g : GridSize) (grid : IsGrid g) (bound : NodeBox → ℕ) (small : (a : NodeBox) → bound a < 9 * 10 ^ 18) where
  -- nodes and their scores are within their types
  entries_typed : (t start count : ℕ) → start + count ≤ 2000000
      → AreTypedNear (map (scored g bound) (filter (is_near g bound t) (range_with_len start count)))
  entries_typed t start zero few = refl
  entries_typed t start (suc count) few =
      let rest : AreTypedNear (map (scored g bound) (filter (is_near g bound t) (range_with_len (start + 1) count))) =
      entries_typed t (start + 1) count (omega (arith, few)) in
      elim (by_bool (is_near g bound t start)) [
        | inl near ↦ rw (near, from_zero start, from_zero (judged_score g bound start), fits_node start (omega (arith, few)), fits_score (judged_score g bound start) (small _), rest) refl
        | inr far ↦ rw far rest
      ]

  near_typed : (t : ℕ) → AreTypedNear (near_list g bound t)
  unfolding near_list
  near_typed t = let nodes = grid.nodes in entries_typed t 0 (node_count g) (omega (arith, nodes))

  -- so are the numbers of boxes
  box_typed : (a : NodeBox) → IsIn g a → AreTypedBoxes (bounded bound a ∷ [])
  box_typed a inside =
      let x : a.x1 < 2000000 = omega (arith, inside.x_end, grid.x_to) in
      let y : a.y1 < 2000000 = omega (arith, inside.y_end, grid.y_to) in
      let z : a.z1 < 2000000 = omega (arith, inside.z_end, grid.z_to) in
      let x0 : a.x0 < 2000000 = omega (arith, inside.x, x) in
      let y0 : a.y0 < 2000000 = omega (arith, inside.y, y) in
      let z0 : a.z0 < 2000000 = omega (arith, inside.z, z) in
      rw (
        from_zero a.x0,
        from_zero a.x1,
        from_zero a.y0,
        from_zero a.y1,
        from_zero a.z0,
        from_zero a.z1,
        from_zero (bound a),
        fits_node a.x0 x0,
        fits_node a.x1 x,
        fits_node a.y0 y0,
        fits_node a.y1 y,
        fits_node a.z0 z0,
        fits_node a.z1 z,
        fits_score (bound a) (small a),
      ) refl

  boxes_typed : (boxes : List NodeBox) → AllByRecursion (IsIn g) boxes → AreTypedBoxes (map (bounded bound) boxes)
  boxes_typed [] inside = refl
  boxes_typed (a ∷ boxes) inside = typed_both (bounded bound a) (map (bounded bound) boxes) (box_typed a inside.0) (boxes_typed boxes inside.1)

  module _ (roots : List NodeBox) (are : AreRoots g roots) where
    -- the boxes of a cover lie in the grid
    cover_inside : (t : ℕ) → AllByRecursion (IsIn g) (cover_of bound t roots)
    cover_inside t =
        all-flat_map (IsIn g) (IsIn g) (cover bound t)
        (λ root inside. all-weaker (IsPartOf root) (IsIn g) (λ b part. part_inside g root b inside part) (cover bound t root)
        (cover_parts bound t root (in_nonempty g root inside)))
        roots are.inside

    cover_typed : (margin : ℕ) → AreTypedBoxes (event_cover g roots bound margin)
    cover_typed margin = boxes_typed (cover_of bound (event_threshold g bound margin) roots) (cover_inside (event_threshold g bound margin))

    -- so a certificate of an outcome is written within its types
    located_typed : (margin budget : ℕ) → Says g roots bound margin budget (IsLocated (located_value g roots bound margin))
        → IsTypedBlock (certificate_of (IsLocated (located_value g roots bound margin)))
    located_typed margin budget says =
        let inside = says.first.inside in
        let nodes = grid.nodes in
        let score = says.score in
        let least : judged_score g bound (located_value g roots bound margin).hyp < 9 * 10 ^ 18 = small _ in
        record {
          hyp = omega (arith, inside, nodes);
          score = omega (arith, score, least);
          near = near_typed (event_threshold g bound margin);
          boxes = cover_typed margin;
        }

    outcome_typed : (margin budget : ℕ) → 1 ≤ node_count g → IsTypedBlock (certificate_of (outcome_of g roots bound margin budget))
    unfolding outcome_of found_of
    outcome_typed margin budget some =
        let says : Says g roots bound margin budget (outcome_of g roots bound margin budget) = outcome_says g roots bound margin budget are some in
        elim (by_bool (nat_lt budget (event_met g roots bound margin))) [
          | inl past ↦ rw past tt
          | inr within ↦ elim (by_bool (best_of g bound == 0)) [
            | inl none ↦ rw (within, none) (cover_typed margin)
            | inr scores ↦ elim (by_bool (nat_lt 100000 (length (event_near g bound margin)))) [
              | inl many ↦ rw (within, scores, many) tt
              | inr few ↦
                  let located : outcome_of g roots bound margin budget ≡ IsLocated (located_value g roots bound margin) = rw (within, scores, few) refl in
                  subst (λ found. IsTypedBlock (certificate_of found)) (sym located)
                  (located_typed margin budget (subst (Says g roots bound margin budget) located says))
            ]
          ]
        ]

    pub outcome_writable : (margin budget : ℕ) → 1 ≤ node_count g → IsWritable (outcome_of g roots bound margin budget)
    outcome_writable margin budget some = record {
      valid = valid_of g roots bound margin budget grid.nodes (outcome_of g roots bound margin budget) (outcome_says g roots bound margin budget are some);
      typed = outcome_typed margin budget some;
    }
