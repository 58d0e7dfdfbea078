-- A certificate that proves its event is true of all nodes.
use Rattle.std.proofs.Common.{◌≡◌, inl, inr, ℕ, ◌<◌, ◌≤◌, ◌&&◌, arith, refl, ap, sym, subst, ◌∙◌, Bool, true, false, cond, List, [], ◌∷◌, get_or, filter, map, All, Contains}
use Rattle.std.specs.Prelude.{nat_le}
use Rattle.std.proofs.lemmas.Bool.{and_from, and_right, cases_Bool, cases_lt, leb-true}
use Rattle.std.proofs.lemmas.List.Elements.{All-filter, All-head, All-tail}
use Rattle.std.proofs.lemmas.List.FromFn.{length-range_with_len, get_or-range_with_len}
use Rattle.cover_certificate.specs.Blocks.{BlockValue, IsValidBlock, LocatedValue, IsLocated, FitsNowhere, HasFew, HasMany, PassesBudget, PassesNearLimit}
use Rattle.node_boxes.specs.declared.node_box.BoxBound.{BoxBound}
use Rattle.node_boxes.specs.Boxes.{IsIn, holds, is_single}
use Rattle.node_boxes.specs.Grid.{node_count}
use Rattle.node_boxes.specs.GridOrder.{all_nodes}
use Rattle.edt_score.specs.Best.{IsFirstBest, best_score}
use Rattle.edt_score.proofs.BestNodes.{best_score-is}
use Rattle.octree_search.specs.Cover.{threshold_of}
use Rattle.octree_search.proofs.Thresholds.{threshold_le}
use Rattle.cover_checker.specs.Bounding.{AreBounds}
use Rattle.cover_checker.specs.Findings.{is_alone, near_of, with_score}
use Rattle.cover_checker.specs.Locations.{IsTrueOf, near_nodes}
use Rattle.cover_checker.specs.Proving.{IsCover, IsNoBetter, Proves, ProvesLocated}
use Rattle.cover_checker.specs.Scorings.{Scoring}
use Rattle.cover_checker.proofs.BoundLaws.{corner_only}
use Rattle.cover_checker.proofs.CoverLaws.{all-at, holder, holders_times}
use Rattle.cover_checker.proofs.Searches.{any-contains}

-- the box that holds a node of a cover
pub record IsBoxOf (s : Scoring) (boxes : List BoxBound) (node : ℕ) : Type 0 where
  pub b : BoxBound
  pub at : Contains boxes b
  pub held : holds s.grid b.area node ≡ true
  pub inside : IsIn s.grid b.area
  pub bound : b.bound ≡ s.bound b.area

pub box_of_node : (s : Scoring) (boxes : List BoxBound) → IsCover s boxes → (node : ℕ) → node < node_count s.grid → IsBoxOf s boxes node
box_of_node s boxes cover node below =
    let found = holder s.grid boxes node (omega (arith, holders_times s.grid boxes node, cover.once node below)) in
    record {
      b = found.0;
      at = found.1;
      held = found.2;
      inside = all-at (λ b. IsIn s.grid b.area) boxes found.0 cover.inside found.1;
      bound = all-at (λ b. b.bound ≡ s.bound b.area) boxes found.0 cover.bounds found.1;
    }

-- so no node scores more than the printed bound of its box
under : (s : Scoring) (boxes : List BoxBound) → AreBounds s → (node : ℕ) → node < node_count s.grid → (box : IsBoxOf s boxes node) → s.score node ≤ box.b.bound
under s boxes bounds node below box = omega (arith, bounds.above box.b.area node box.inside below box.held, box.bound)

-- filters whose tests agree
pub filter-same : {X : Type 0} (p q : X → Bool) (xs : List X) → All (λ x. p x ≡ q x) xs → filter p xs ≡ filter q xs
filter-same p q [] same = refl
filter-same p q (x ∷ xs) same =
    ap (λ b. cond b (x ∷ filter p xs) (filter p xs)) (All-head (λ y. p y ≡ q y) x xs same)
    ∙ ap (λ (ys : List _). cond (q x) (x ∷ ys) ys) (filter-same p q xs (All-tail (λ y. p y ≡ q y) x xs same))

-- lists made by functions that agree
map-same : {X Y : Type 0} (f g : X → Y) (xs : List X) → All (λ x. f x ≡ g x) xs → map f xs ≡ map g xs
map-same f g [] same = refl
map-same f g (x ∷ xs) same =
    ap (λ y. y ∷ map f xs) (All-head (λ y. f y ≡ g y) x xs same) ∙ ap (λ ys. g x ∷ ys) (map-same f g xs (All-tail (λ y. f y ≡ g y) x xs same))

-- what holds of each node below the number of nodes holds of all nodes
pub all_nodes-each : (P : ℕ → Type 0) (n : ℕ) → ((node : ℕ) → node < n → P node) → All P (all_nodes n)
all_nodes-each P n each i d within =
    let long : i < n = omega (arith, length-range_with_len 0 n) in
    let is : get_or (all_nodes n) i d ≡ i = get_or-range_with_len 0 n i d long ∙ omega arith in
    subst P (sym is) (each i long)

-- the near nodes of the same scores
pub near_nodes-same : (n : ℕ) (one other : ℕ → ℕ) (least : ℕ) → ((node : ℕ) → node < n → one node ≡ other node)
    → near_nodes n one least ≡ near_nodes n other least
unfolding near_nodes
near_nodes-same n one other least same =
    map-same (with_score one) (with_score other) (filter (λ node. nat_le least (one node)) (all_nodes n))
    (All-filter (λ node. nat_le least (one node)) (λ node. with_score one node ≡ with_score other node) (all_nodes n)
    (all_nodes-each (λ node. with_score one node ≡ with_score other node) n (λ node below. ap (λ (score : ℕ). (node, score)) (same node below))))
    ∙ ap (map (with_score other))
    (filter-same (λ node. nat_le least (one node)) (λ node. nat_le least (other node)) (all_nodes n)
    (all_nodes-each (λ node. nat_le least (one node) ≡ nat_le least (other node)) n (λ node below. ap (nat_le least) (same node below))))

module _ (s : Scoring) (bounds : AreBounds s) (least : ℕ) (boxes : List BoxBound) (cover : IsCover s boxes)
    (closed : All (λ b. is_single b.area ≡ false → b.bound < least) boxes) where
  -- a node that reaches the threshold has a single box
  pub alone_at : (node : ℕ) → node < node_count s.grid → least ≤ s.score node → (box : IsBoxOf s boxes node) → is_single box.b.area ≡ true
  alone_at node below near box = elim (cases_Bool (is_single box.b.area)) [
    | inl single ↦ single
    | inr several ↦
        let shut = all-at (λ b. is_single b.area ≡ false → b.bound < least) boxes box.b closed box.at several in
        absurd (omega (arith, shut, near, under s boxes bounds node below box))
  ]

  -- which is near by the cover where its score is near
  near_test : (node : ℕ) → node < node_count s.grid → (is_alone s.grid boxes node && nat_le least (s.score node)) ≡ nat_le least (s.score node)
  near_test node below = elim (cases_Bool (nat_le least (s.score node))) [
    | inl near ↦
        let box = box_of_node s boxes cover node below in
        let single = alone_at node below (leb-true least (s.score node) near) box in
        let has : is_alone s.grid boxes node ≡ true =
        any-contains (λ b. is_single b.area && holds s.grid b.area node) boxes box.b box.at (and_from (is_single box.b.area) (holds s.grid box.b.area node) single box.held) in
        and_from (is_alone s.grid boxes node) (nat_le least (s.score node)) has near ∙ sym near
    | inr far ↦ and_right (is_alone s.grid boxes node) (nat_le least (s.score node)) far ∙ sym far
  ]

  -- so the near nodes of the single boxes are all near nodes
  pub near_alone : near_of s least boxes ≡ near_nodes (node_count s.grid) s.score least
  unfolding near_of near_nodes
  near_alone =
      ap (map (with_score s.score))
      (filter-same (λ node. is_alone s.grid boxes node && nat_le least (s.score node)) (λ node. nat_le least (s.score node)) (all_nodes (node_count s.grid))
      (all_nodes-each (λ node. (is_alone s.grid boxes node && nat_le least (s.score node)) ≡ nat_le least (s.score node)) (node_count s.grid) near_test))

module _ (s : Scoring) (bounds : AreBounds s) (margin : ℕ) (event : LocatedValue) (scored : 1 ≤ event.score) (p : ProvesLocated s margin event) where
  low : threshold_of margin event.score ≤ event.score
  low = omega (arith, threshold_le margin event.score)

  -- no node beats the printed score, and none before the hypocentre has it
  at_most : (node : ℕ) → node < node_count s.grid → s.score node ≤ event.score
  at_most node below =
      let box = box_of_node s event.boxes p.cover node below in
      elim (cases_Bool (is_single box.b.area)) [
        | inl single ↦
            let better = all-at (λ b. is_single b.area ≡ true → IsNoBetter s event b) event.boxes box.b p.first box.at single in
            omega (arith, better.at_most, ap s.score (corner_only s.grid box.b node single box.held))
        | inr several ↦
            let shut = all-at (λ b. is_single b.area ≡ false → b.bound < threshold_of margin event.score) event.boxes box.b p.closed box.at several in
            omega (arith, shut, low, under s event.boxes bounds node below box)
      ]

  not_before : (node : ℕ) → node < event.hyp → s.score node ≡ event.score → ⊥
  not_before node before same =
      let below : node < node_count s.grid = omega (arith, p.hyp) in
      let box = box_of_node s event.boxes p.cover node below in
      let single = alone_at s bounds (threshold_of margin event.score) event.boxes p.cover p.closed node below (omega (arith, low, same)) box in
      let better = all-at (λ b. is_single b.area ≡ true → IsNoBetter s event b) event.boxes box.b p.first box.at single in
      let is = corner_only s.grid box.b node single box.held in
      let after = better.later (ap s.score (sym is) ∙ same) in
      absurd (omega (arith, after, is))

  pub first_best : IsFirstBest (node_count s.grid) s.score event.hyp
  first_best = record {
    inside = p.hyp;
    best = λ other below. omega (arith, at_most other below, p.score);
    first = λ other before. elim (cases_lt (s.score other) (s.score event.hyp)) [
      | inl less ↦ less
      | inr equal ↦
          let below : other < node_count s.grid = omega (arith, p.hyp) in
          absurd (not_before other before (omega (arith, equal, at_most other below, p.score)))
    ];
  }

  pub near_all : event.near ≡ near_nodes (node_count s.grid) s.score (threshold_of margin (best_score (node_count s.grid) s.score))
  near_all =
      let best : event.score ≡ best_score (node_count s.grid) s.score = sym p.score ∙ sym (best_score-is (node_count s.grid) s.score event.hyp first_best) in
      p.near ∙ near_alone s bounds (threshold_of margin event.score) event.boxes p.cover p.closed
      ∙ ap (λ (best : ℕ). near_nodes (node_count s.grid) s.score (threshold_of margin best)) best

pub true_of : (s : Scoring) (margin : ℕ) (block : BlockValue) → AreBounds s → IsValidBlock block → Proves s margin block → IsTrueOf (node_count s.grid) s.score margin block
true_of s margin (IsLocated event) bounds valid p = record {
  first = first_best s bounds margin event valid.scored p;
  best = sym p.score ∙ sym (best_score-is (node_count s.grid) s.score event.hyp (first_best s bounds margin event valid.scored p));
  near = near_all s bounds margin event valid.scored p;
}
true_of s margin (FitsNowhere boxes) bounds valid p = λ node below.
    let box = box_of_node s boxes p.cover node below in
    let none = all-at (λ b. b.bound ≡ 0) boxes box.b p.zero box.at in
    omega (arith, none, under s boxes bounds node below box)
true_of s margin HasFew bounds valid p = absurd p
true_of s margin HasMany bounds valid p = absurd p
true_of s margin PassesBudget bounds valid p = absurd p
true_of s margin PassesNearLimit bounds valid p = absurd p
