-- Cuts of the roots, with one of their leaves opened.
use Rattle.std.proofs.Common.{◌≡◌, inl, inr, ℕ, ◌+◌, ◌≤◌, arith, false, cond, List, [], ◌∷◌, ◌++◌, length, map, ap, sym, subst, sum_by}
use Rattle.std.proofs.lemmas.List.{length-append}
use Rattle.std.proofs.lemmas.List.Sums.{sum_by-cons, sum_by-append}
use Rattle.node_boxes.specs.declared.node_box.NodeBox.{NodeBox}
use Rattle.node_boxes.specs.declared.node_box.BoxBound.{BoxBound}
use Rattle.node_boxes.specs.Children.{children_of}
use Rattle.node_boxes.proofs.Lists.{sum_by-map}
use Rattle.octree_search.specs.Cover.{stops}
use Rattle.octree_search.specs.Outcomes.{bounded}
use Rattle.octree_search.proofs.Choices.{by_test}
use Rattle.search_lanes.specs.LaneCuts.{IsCutBy, Done, Keep, Open}
use Rattle.search_lanes.proofs.SameElements.{same_box, same_box-true, same_box-itself}

module _ (bound : NodeBox → ℕ) (t : ℕ) where
  -- a cut of boxes, with others before them that stay whole
  pub cut_after : (front boxes leaves : List NodeBox) (count : ℕ) → IsCutBy bound t boxes leaves count
      → IsCutBy bound t (front ++ boxes) (front ++ leaves) (length front + count)
  cut_after [] boxes leaves count cut =
      let none : count ≡ 0 + count = omega arith in
      subst (IsCutBy bound t boxes leaves) none cut
  cut_after (a ∷ front) boxes leaves count cut =
      let more : 1 + (length front + count) ≡ length (a ∷ front) + count = omega arith in
      subst (IsCutBy bound t (a ∷ (front ++ boxes)) (a ∷ (front ++ leaves))) more
      (Keep a (front ++ boxes) (front ++ leaves) (length front + count) (cut_after front boxes leaves count cut))

  -- boxes that all stay whole
  pub cut_none : (boxes : List NodeBox) → IsCutBy bound t boxes boxes (length boxes)
  cut_none [] = Done
  cut_none (a ∷ boxes) =
      let more : 1 + length boxes ≡ length (a ∷ boxes) = omega arith in
      subst (IsCutBy bound t (a ∷ boxes) (a ∷ boxes)) more (Keep a boxes boxes (length boxes) (cut_none boxes))

  -- a leaf that the rule opens is opened
  pub cut_opened : (boxes leaves : List NodeBox) (count : ℕ) (front : List NodeBox) (a : NodeBox) (back : List NodeBox) → stops bound t a ≡ false
      → IsCutBy bound t boxes leaves count → leaves ≡ front ++ a ∷ back
      → IsCutBy bound t boxes (front ++ (children_of a ++ back)) (count + length (children_of a))
  cut_opened _ _ _ front a back opens Done is = absurd (let none : 0 ≡ length (front ++ a ∷ back) = ap length is in omega (arith, none, length-append front (a ∷ back)))
  cut_opened _ _ _ [] a back opens (Keep c boxes leaves count cut) is =
      let here : c ≡ a = cc in
      let rest : leaves ≡ back = cc in
      let more : 1 + (length (children_of a) + count) ≡ 1 + count + length (children_of a) = omega arith in
      subst (λ d. IsCutBy bound t (d ∷ boxes) (children_of a ++ back) (1 + count + length (children_of a))) (sym here)
      (subst (IsCutBy bound t (a ∷ boxes) (children_of a ++ back)) more
      (Open a boxes (children_of a ++ back) (length (children_of a) + count) opens
      (subst (λ ls. IsCutBy bound t (children_of a ++ boxes) (children_of a ++ ls) (length (children_of a) + count)) rest
      (cut_after (children_of a) boxes leaves count cut))))
  cut_opened _ _ _ (b ∷ front) a back opens (Keep c boxes leaves count cut) is =
      let here : c ≡ b = cc in
      let rest : leaves ≡ front ++ a ∷ back = cc in
      let more : 1 + (count + length (children_of a)) ≡ 1 + count + length (children_of a) = omega arith in
      subst (λ d. IsCutBy bound t (c ∷ boxes) (d ∷ (front ++ (children_of a ++ back))) (1 + count + length (children_of a))) here
      (subst (IsCutBy bound t (c ∷ boxes) (c ∷ (front ++ (children_of a ++ back)))) more
      (Keep c boxes (front ++ (children_of a ++ back)) (count + length (children_of a)) (cut_opened boxes leaves count front a back opens cut rest)))
  cut_opened _ _ _ front a back opens (Open c boxes leaves count first cut) is =
      let more : 1 + (count + length (children_of a)) ≡ 1 + count + length (children_of a) = omega arith in
      subst (IsCutBy bound t (c ∷ boxes) (front ++ (children_of a ++ back))) more
      (Open c boxes (front ++ (children_of a ++ back)) (count + length (children_of a)) first
      (cut_opened (children_of c ++ boxes) leaves count front a back opens cut is))

  -- a box stands among leaves in which it counts
  abbrev pub StandsIn : List NodeBox → NodeBox → Type 0
  StandsIn leaves a = (front : List NodeBox) × (back : List NodeBox) × (leaves ≡ front ++ a ∷ back)

  pub leaf_there : (b : BoxBound) (leaves : List NodeBox) → 1 ≤ sum_by (λ a. cond {A = ℕ} (same_box b (bounded bound a)) 1 0) leaves
      → StandsIn leaves b.area
  leaf_there b [] some = absurd (omega (arith, some))
  leaf_there b (a ∷ leaves) some = elim (by_test (same_box b (bounded bound a))) [
    | inl is ↦
        let same : b.area ≡ a = ap (λ (c : BoxBound). c.area) (same_box-true b (bounded bound a) is) in
        ([], leaves, ap (λ d. d ∷ leaves) (sym same))
    | inr other ↦
        let none : cond {A = ℕ} (same_box b (bounded bound a)) 1 0 ≡ 0 = ap (λ q. cond {A = ℕ} q 1 0) other in
        let rest = leaf_there b leaves (omega (arith, some, none, sum_by-cons (λ c. cond {A = ℕ} (same_box b (bounded bound c)) 1 0) a leaves)) in
        (a ∷ rest.0, rest.1, ap (λ ls. a ∷ ls) rest.2)
  ]

  -- sums over boxes are those over the leaves of a cut
  pub record IsCutInto (roots : List NodeBox) (met : ℕ) (boxes : List BoxBound) : Type 0 where
    pub leaves : List NodeBox
    pub cut : IsCutBy bound t roots leaves met
    pub sums : (f : BoxBound → ℕ) → sum_by f boxes ≡ sum_by (λ a. f (bounded bound a)) leaves

  -- a box of them that the rule opens is opened
  pub cut_into_opened : (roots : List NodeBox) (met : ℕ) (b : BoxBound) (rest : List BoxBound) → stops bound t b.area ≡ false
      → b ≡ bounded bound b.area → IsCutInto roots met (b ∷ rest)
      → IsCutInto roots (met + length (children_of b.area)) (map (bounded bound) (children_of b.area) ++ rest)
  cut_into_opened roots met b rest opens same into =
      let children : List NodeBox = children_of b.area in
      let itself : cond {A = ℕ} (same_box b b) 1 0 ≡ 1 = ap (λ q. cond {A = ℕ} q 1 0) (same_box-itself b) in
      let some : 1 ≤ sum_by (λ a. cond {A = ℕ} (same_box b (bounded bound a)) 1 0) into.leaves =
      omega (arith, itself, into.sums (λ c. cond {A = ℕ} (same_box b c) 1 0), sum_by-cons (λ c. cond {A = ℕ} (same_box b c) 1 0) b rest) in
      let there = leaf_there b into.leaves some in
      let front : List NodeBox = there.0 in
      let back : List NodeBox = there.1 in
      record {
        leaves = front ++ (children ++ back);
        cut = cut_opened roots into.leaves met front b.area back opens into.cut there.2;
        sums = λ f. omega (
          arith,
          into.sums f,
          ap (sum_by (λ a. f (bounded bound a))) there.2,
          sum_by-append (λ a. f (bounded bound a)) front (b.area ∷ back),
          sum_by-cons (λ a. f (bounded bound a)) b.area back,
          sum_by-append (λ a. f (bounded bound a)) front (children ++ back),
          sum_by-append (λ a. f (bounded bound a)) children back,
          sum_by-append f (map (bounded bound) children) rest,
          sum_by-map f (bounded bound) children,
          sum_by-cons f b rest,
          ap f same,
        );
      }
