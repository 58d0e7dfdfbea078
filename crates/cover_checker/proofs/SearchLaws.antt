-- What a search finds is proved by its own cover.
use Rattle.std.proofs.Common.{◌≡◌, inl, inr, ℕ, zero, suc, ◌<◌, ◌≤◌, ◌==◌, arith, refl, ap, sym, subst, ◌∙◌, Bool, true, false, List, get_or, length, map, All, nat_lt, if◌then◌else◌, unwrap_or}
use Rattle.std.specs.List.{AllByRecursion}
use Rattle.std.proofs.lemmas.Bool.{cases_lt, ltb-true}
use Rattle.std.proofs.lemmas.Bool.Decides.{nat_tests}
use Rattle.std.proofs.lemmas.List.Elements.{All-from_recursion}
use Rattle.kernel_table.specs.declared.kernels.Shape.{Shape}
use Rattle.node_boxes.specs.declared.node_box.NodeBox.{NodeBox}
use Rattle.node_boxes.specs.declared.node_box.BoxBound.{BoxBound}
use Rattle.node_boxes.specs.Boxes.{IsIn, IsPartOf, is_single}
use Rattle.node_boxes.specs.Grid.{node_count}
use Rattle.node_boxes.specs.GridOrder.{place_of}
use Rattle.node_boxes.specs.Roots.{AreRoots, holders}
use Rattle.node_boxes.proofs.Lists.{all-flat_map, all-map, all-weaker}
use Rattle.node_boxes.proofs.OctreeBoxes.{cover_once, in_nonempty, part_inside}
use Rattle.node_boxes.proofs.Order.{place_of-inside}
use Rattle.edt_score.specs.declared.problem.ProblemPick.{ProblemPick}
use Rattle.edt_score.specs.Best.{IsFirstBest, best_score, first_best}
use Rattle.edt_score.specs.BoxBound.{box_bound}
use Rattle.edt_score.specs.Field.{FieldTimes, time_at}
use Rattle.edt_score.specs.Judging.{judged_score}
use Rattle.edt_score.proofs.BestNodes.{best_score-is, first_best-is, IsFirstBest-exists}
use Rattle.octree_search.specs.Cover.{cover, cover_of, stops}
use Rattle.octree_search.specs.Near.{best_of, near_list}
use Rattle.octree_search.specs.Outcomes.{IsLocated, FitsNowhere, PassesBudget, PassesNearLimit, bounded, event_cover, event_met, event_near, event_threshold, found_of, located_value, outcome_of}
use Rattle.octree_search.proofs.Choices.{or_cases}
use Rattle.octree_search.proofs.Findings.{areas_bounded}
use Rattle.octree_search.proofs.FewestBoxes.{cover_parts, roots_nonempty}
use Rattle.octree_search.proofs.OctreeCovers.{covers_stop, octree_cover}
use Rattle.octree_search.proofs.OutcomeMeanings.{zero_bounds}
use Rattle.cover_certificate.specs.Blocks.{LocatedValue}
use Rattle.cover_checker.specs.Bounding.{AreBounds}
use Rattle.cover_checker.specs.Findings.{corner, near_of}
use Rattle.cover_checker.specs.Locations.{near_nodes}
use Rattle.cover_checker.specs.Proving.{IsCover, IsNoBetter, ProvesLocated, ProvesNoFit}
use Rattle.cover_checker.specs.Scorings.{Scoring, field_scoring}
use Rattle.cover_checker.specs.Searching.{ProvesOutcome}
use Rattle.cover_checker.proofs.BoundLaws.{bounds_are, corner_below, node_box_score}
use Rattle.cover_checker.proofs.ProofLaws.{near_alone, near_nodes-same}

-- where a score is above 0 there is a node
some_node : (n : ℕ) (score : ℕ → ℕ) → 1 ≤ best_score n score → 0 < n
unfolding best_score
some_node zero score some = absurd (omega (arith, some))
some_node (suc n) score some = omega arith

-- the first best node, as a search tells it
told_best : (n : ℕ) (score : ℕ → ℕ) → 0 < n → IsFirstBest n score (unwrap_or (first_best n score) 0)
told_best n score some =
    let there = IsFirstBest-exists n score some in
    subst (IsFirstBest n score) (sym (ap (λ o. unwrap_or o 0) (first_best-is n score there.0 there.1))) there.1

module _ (s : Scoring) (roots : List NodeBox) (are : AreRoots s.grid roots) (t : ℕ) where
  -- the boxes of the cover at a threshold, with their bounds
  abbrev boxes_at : List BoxBound
  boxes_at = map (bounded s.bound) (cover_of s.bound t roots)

  -- they lie in the grid
  areas_inside : AllByRecursion (IsIn s.grid) (cover_of s.bound t roots)
  areas_inside =
      all-flat_map (IsIn s.grid) (IsIn s.grid) (cover s.bound t)
      (λ root inside. all-weaker (IsPartOf root) (IsIn s.grid) (λ a part. part_inside s.grid root a inside part) (cover s.bound t root)
      (cover_parts s.bound t root (in_nonempty s.grid root inside)))
      roots are.inside

  -- what holds of them without their bounds holds with them
  each_box : (P : NodeBox → Type 0) (Q : BoxBound → Type 0) → ((a : NodeBox) → P a → Q (bounded s.bound a))
      → AllByRecursion P (cover_of s.bound t roots) → All Q boxes_at
  each_box P Q step all = All-from_recursion Q boxes_at (all-map P Q (bounded s.bound) step (cover_of s.bound t roots) all)

  -- so they are a cover
  rule_cover : IsCover s boxes_at
  rule_cover = record {
    inside = each_box (IsIn s.grid) (λ b. IsIn s.grid b.area) (λ a inside. inside) areas_inside;
    once = λ node below.
        let place = place_of s.grid node in
        ap (holders place.0 place.1 place.2) (areas_bounded s.bound (cover_of s.bound t roots))
        ∙ cover_once s.grid roots (cover_of s.bound t roots) place.0 place.1 place.2 are
        (octree_cover s.bound t roots (roots_nonempty s.grid roots are)) (place_of-inside s.grid node below);
    bounds = each_box (IsIn s.grid) (λ b. b.bound ≡ s.bound b.area) (λ a inside. refl) areas_inside;
  }

  -- a box of several nodes at which the search stops is closed
  closed_at : (a : NodeBox) → stops s.bound t a ≡ true → is_single a ≡ false → s.bound a < t
  closed_at a stop several = elim (or_cases (is_single a) (nat_lt (s.bound a) t) stop) [
    | inl single ↦ absurd (let bad : true ≡ false = sym single ∙ several in cc)
    | inr low ↦ ltb-true (s.bound a) t low
  ]

  -- so the boxes of several nodes are
  rule_closed : All (λ b. is_single b.area ≡ false → b.bound < t) boxes_at
  rule_closed =
      each_box (λ a. stops s.bound t a ≡ true) (λ b. is_single b.area ≡ false → b.bound < t) closed_at
      (covers_stop s.bound t roots (roots_nonempty s.grid roots are))

-- the near list of a search is that of all near nodes
list_nodes : (s : Scoring) (t : ℕ) → near_list s.grid s.bound t ≡ near_nodes (node_count s.grid) (judged_score s.grid s.bound) t
unfolding near_list near_nodes
list_nodes s t = refl

-- so it is that of the nodes of the single boxes
near_told : (s : Scoring) → AreBounds s → (t : ℕ) (boxes : List BoxBound) → IsCover s boxes
    → All (λ b. is_single b.area ≡ false → b.bound < t) boxes → near_list s.grid s.bound t ≡ near_of s t boxes
near_told s bounds t boxes cover closed =
    list_nodes s t
    ∙ near_nodes-same (node_count s.grid) (judged_score s.grid s.bound) s.score t (node_box_score s bounds)
    ∙ sym (near_alone s bounds t boxes cover closed)

-- no node of a single box is better than the first best one
not_better : (s : Scoring) → AreBounds s → (event : LocatedValue) → IsFirstBest (node_count s.grid) (judged_score s.grid s.bound) event.hyp
    → s.score event.hyp ≡ event.score → (b : BoxBound) → IsIn s.grid b.area → IsNoBetter s event b
not_better s bounds event best score b inside =
    let node : ℕ = corner s.grid b in
    let below : node < node_count s.grid = corner_below s.grid b inside in
    let here : judged_score s.grid s.bound node ≡ s.score node = node_box_score s bounds node below in
    let there : judged_score s.grid s.bound event.hyp ≡ s.score event.hyp = node_box_score s bounds event.hyp best.inside in
    record {
      at_most = omega (arith, here, there, score, best.best node below);
      later = λ same. elim (cases_lt node event.hyp) [
        | inl before ↦ absurd (omega (arith, same, here, there, score, best.first node before))
        | inr after ↦ after
      ];
    }

module _ (s : Scoring) (roots : List NodeBox) (bounds : AreBounds s) (are : AreRoots s.grid roots) (margin : ℕ) where
  -- the threshold of the event
  abbrev least : ℕ
  least = event_threshold s.grid s.bound margin

  -- the located event
  abbrev told : LocatedValue
  told = record {
    hyp = unwrap_or (first_best (node_count s.grid) (judged_score s.grid s.bound)) 0;
    score = best_of s.grid s.bound;
    near = event_near s.grid s.bound margin;
    boxes = event_cover s.grid roots s.bound margin;
  }

  -- its cover proves it
  told_proved : 1 ≤ best_of s.grid s.bound → ProvesLocated s margin told
  told_proved scores =
      let n : ℕ = node_count s.grid in
      let best : IsFirstBest n (judged_score s.grid s.bound) told.hyp =
      told_best n (judged_score s.grid s.bound) (some_node n (judged_score s.grid s.bound) scores) in
      let score : s.score told.hyp ≡ told.score =
      sym (node_box_score s bounds told.hyp best.inside) ∙ sym (best_score-is n (judged_score s.grid s.bound) told.hyp best) in
      let cover = rule_cover s roots are least in
      let closed = rule_closed s roots are least in
      record {
        cover = cover;
        closed = closed;
        hyp = best.inside;
        score = score;
        first = λ k d below single. not_better s bounds told best score (get_or told.boxes k d) (cover.inside k d below);
        near = near_told s bounds least told.boxes cover closed;
      }

  -- and where no node scores the cover proves that
  no_fit_proved : best_of s.grid s.bound ≡ 0 → ProvesNoFit s (event_cover s.grid roots s.bound margin)
  no_fit_proved none = record { cover = rule_cover s roots are least; zero = zero_bounds s.grid roots s.bound margin are none }

  -- so what is found is proved, whatever the tests of the outcome say
  proved_by : (past none many : Bool) → (none ≡ true → best_of s.grid s.bound ≡ 0) → (none ≡ false → 1 ≤ best_of s.grid s.bound)
      → ProvesOutcome s margin (if past then PassesBudget
      else (if none then FitsNowhere (event_cover s.grid roots s.bound margin) (event_met s.grid roots s.bound margin)
      else if many then PassesNearLimit else IsLocated (located_value s.grid roots s.bound margin)))
  proved_by true none many zero_all some = tt
  proved_by false true many zero_all some = no_fit_proved (zero_all refl)
  proved_by false false true zero_all some = tt
  proved_by false false false zero_all some = told_proved (some refl)

  found_proved : (budget : ℕ) → ProvesOutcome s margin (outcome_of s.grid roots s.bound margin budget)
  unfolding outcome_of found_of
  found_proved budget =
      proved_by (nat_lt budget (event_met s.grid roots s.bound margin)) (best_of s.grid s.bound == 0)
      (nat_lt 100000 (length (event_near s.grid s.bound margin)))
      (λ none. grind (arith, nat_tests)) (λ some. grind (arith, nat_tests))

-- what a search finds is proved by its own cover
pub search_proved : (s : Scoring) (roots : List NodeBox) (margin budget : ℕ) → AreBounds s → AreRoots s.grid roots
    → ProvesOutcome s margin (outcome_of s.grid roots s.bound margin budget)
search_proved s roots margin budget bounds are = found_proved s roots bounds are margin budget

-- and so is what it finds by the times of a field
pub field_search_proved : (shape : Shape) (field : FieldTimes) (picks : List ProblemPick) (roots : List NodeBox) (margin budget : ℕ)
    → AreRoots field.grid roots
    → ProvesOutcome (field_scoring shape field picks) margin (outcome_of field.grid roots (box_bound shape field picks) margin budget)
field_search_proved shape field picks roots margin budget are =
    search_proved (field_scoring shape field picks) roots margin budget (bounds_are shape field.grid (time_at field) picks) are
