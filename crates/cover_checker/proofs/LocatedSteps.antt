-- How the findings of the passes become the verdict over a certificate.
use Rattle.std.proofs.Common.{◌≡◌, inl, inr, ℕ, suc, ◌+◌, ◌-◌, ◌<◌, ◌==◌, ◌&&◌, arith, refl, ap, sym, subst, ◌∙◌, Bool, true, false, cond, List, [], ◌∷◌, length, get_or, map, filter, Contains, Option, None, Some}
use Rattle.std.specs.List.{cons_option, enumerate_from, filter_map, find, range_with_len}
use Rattle.std.specs.Option.{option_and_then}
use Rattle.std.specs.Prelude.{nat_le, option_map, slice_get}
use Rattle.std.proofs.lemmas.Bool.{and_from, and_right, cases_Bool, cond-false, cond-true, lt-leb}
use Rattle.node_boxes.specs.declared.node_box.BoxBound.{BoxBound}
use Rattle.node_boxes.specs.Boxes.{IsIn, holds, is_single}
use Rattle.node_boxes.specs.Grid.{node_count}
use Rattle.node_boxes.proofs.Lists.{first_or_rest}
use Rattle.cover_certificate.specs.Blocks.{FitsNowhere, IsLocated, LocatedValue}
use Rattle.octree_search.specs.Cover.{threshold_of}
use Rattle.cover_checker.specs.declared.verdict.Verdict.{Verdict}
use Rattle.cover_checker.specs.declared.verdict.Verdict.TheVariants.{NearWrong, NotFirst, Proved}
use Rattle.cover_checker.specs.Bounding.{AreBounds}
use Rattle.cover_checker.specs.Covers.{misplaced, uncovered}
use Rattle.cover_checker.specs.Findings.{corner, first_difference, is_alone, is_better, near_of, near_wrong, not_closed, not_first, not_zero, with_score, wrong_bound, wrong_score}
use Rattle.cover_checker.specs.Scorings.{Scoring}
use Rattle.cover_checker.specs.Verdicts.{first_found, verdict_of}
use Rattle.cover_checker.specs.Inside.Marking.{IsMarked, mark_from}
use Rattle.cover_checker.specs.Inside.Walks.{beats, cover_finding, first_beating, near_box_bound, near_entry, near_walk}
use Rattle.cover_checker.proofs.BoundLaws.{corner_score}
use Rattle.cover_checker.proofs.CoverLaws.{all-at}
use Rattle.cover_checker.proofs.NearSteps.{mark_find}
use Rattle.cover_checker.proofs.PassLaws.{closed_low, cover_is}
use Rattle.cover_checker.proofs.ProofLaws.{box_of_node}
use Rattle.cover_checker.proofs.Searches.{any-contains, find-same}
use Rattle.cover_checker.proofs.VerdictSteps.{finding_none, finding_some, findings_none, findings_some, is_beating}

-- the walk over marks as a filter of all nodes
walk_filter : (f : ℕ × ℕ → Option (ℕ × ℕ)) (test : ℕ → Bool) (entry : ℕ → ℕ × ℕ) (from : ℕ) (marks : List ℕ)
    → ((j : ℕ) → j < length marks → f (from + j, get_or marks j 0) ≡ cond (test (from + j)) (Some (entry (from + j))) None)
    → filter_map f (enumerate_from from marks) ≡ map entry (filter test (range_with_len from (length marks)))
walk_filter f test entry from [] same = refl
walk_filter f test entry from (mark ∷ marks) same =
    let first : from + 0 ≡ from = omega arith in
    let here : f (from, mark) ≡ cond (test from) (Some (entry from)) None =
    ap (λ (n : ℕ). f (n, mark)) (sym first) ∙ same 0 (omega arith) ∙ ap (λ (n : ℕ). cond (test n) (Some (entry n)) None) first in
    let later : (j : ℕ) → j < length marks → f ((from + 1) + j, get_or marks j 0) ≡ cond (test ((from + 1) + j)) (Some (entry ((from + 1) + j))) None =
    λ j below.
    let next : from + suc j ≡ (from + 1) + j = omega arith in
    ap (λ (n : ℕ). f (n, get_or marks j 0)) (sym next) ∙ same (suc j) (omega arith) ∙ ap (λ (n : ℕ). cond (test n) (Some (entry n)) None) next in
    let rest = walk_filter f test entry (from + 1) marks later in
    elim (cases_Bool (test from)) [
      | inl hit ↦
          let is : f (from, mark) ≡ Some (entry from) = here ∙ cond-true (test from) (Some (entry from)) None hit in
          ap (λ (o : Option (ℕ × ℕ)). cons_option o (filter_map f (enumerate_from (from + 1) marks))) is ∙ ap (λ (es : List (ℕ × ℕ)). entry from ∷ es) rest
          ∙ ap (map entry) (sym (cond-true (test from) (from ∷ filter test (range_with_len (from + 1) (length marks))) (filter test (range_with_len (from + 1) (length marks))) hit))
      | inr miss ↦
          let is : f (from, mark) ≡ None = here ∙ cond-false (test from) (Some (entry from)) None miss in
          ap (λ (o : Option (ℕ × ℕ)). cons_option o (filter_map f (enumerate_from (from + 1) marks))) is ∙ rest
          ∙ ap (map entry) (sym (cond-false (test from) (from ∷ filter test (range_with_len (from + 1) (length marks))) (filter test (range_with_len (from + 1) (length marks))) miss))
    ]

-- what is found where some element passes
record Finds {X : Type 0} (test : X → Bool) (xs : List X) : Type 0 where
  item : X
  is : find test xs ≡ Some item
  at : Contains xs item
  passes : test item ≡ true

finds : {X : Type 0} (test : X → Bool) (xs : List X) (x : X) → Contains xs x → test x ≡ true → Finds test xs
finds test [] x (k, below, is) passes = absurd (omega arith)
finds test (y ∷ ys) x at passes = elim (cases_Bool (test y)) [
  | inl hit ↦ record { item = y; is = cond-true (test y) (Some y) (find test ys) hit; at = (0, omega arith, refl); passes = hit }
  | inr miss ↦ elim (first_or_rest y ys x at) [
    | inl same ↦ absurd (let bad : true ≡ false = sym passes ∙ ap test (sym same) ∙ miss in cc)
    | inr after ↦
        let rest = finds test ys x after passes in
        let place = rest.at in
        record { item = rest.item; is = cond-false (test y) (Some y) (find test ys) miss ∙ rest.is; at = (suc place.0, omega (arith, place.1), place.2); passes = rest.passes }
  ]
]

-- a case that hands on
then_after : {A B : Type 0} (f : A → Option B) (t : Bool) (o : Option A) → cond t None (option_and_then f o) ≡ option_and_then f (cond t None o)
then_after f true o = refl
then_after f false o = refl

map_case : {A B : Type 0} (f : A → B) (t : Bool) (x : A) → option_map f (cond t (Some x) None) ≡ cond t (Some (f x)) None
map_case f true x = refl
map_case f false x = refl

-- what is known once the boxes are a closed cover
pub record Passed (s : Scoring) (margin least : ℕ) (event : LocatedValue) : Type 0 where
  pub bounds : AreBounds s
  pub least_is : least ≡ threshold_of margin event.score
  pub cover : None ≡ cover_finding s event.boxes
  pub closed : None ≡ not_closed least event.boxes

module _ (s : Scoring) (margin least : ℕ) (event : LocatedValue) (p : Passed s margin least event) where
  -- the box of a node shows whether it is near
  near_point : (marks : List ℕ) → IsMarked s.grid event.boxes marks → (node : ℕ) → node < node_count s.grid
      → near_entry event.boxes least (node, get_or marks node 0)
      ≡ cond (is_alone s.grid event.boxes node && nat_le least (s.score node)) (Some (with_score s.score node)) None
  near_point marks marked node below =
      let cover = cover_is s event.boxes p.cover in
      let box = box_of_node s event.boxes cover node below in
      let found = finds (λ b. holds s.grid b.area node) event.boxes box.b box.at box.held in
      let b = found.item in
      let inside = all-at (λ c. IsIn s.grid c.area) event.boxes b cover.inside found.at in
      let right = all-at (λ c. c.bound ≡ s.bound c.area) event.boxes b cover.bounds found.at in
      let mark = mark_from 1 s.grid event.boxes node in
      let told : near_entry event.boxes least (node, get_or marks node 0) ≡ option_map (λ bound. (node, bound)) (near_box_bound least b) =
      ap (λ (m : ℕ). near_entry event.boxes least (node, m)) (marked node below)
      ∙ ap (option_map (λ (bound : ℕ). (node, bound)))
      (then_after (near_box_bound least) (mark == 0) (slice_get event.boxes (mark - 1))
      ∙ ap (option_and_then (near_box_bound least)) (mark_find 1 s.grid event.boxes node (omega arith) ∙ found.is)) in
      elim (cases_Bool (is_single b.area)) [
        | inl single ↦
            let value : b.bound ≡ s.score node = right ∙ p.bounds.single b.area node inside below found.passes single in
            let alone : is_alone s.grid event.boxes node ≡ true =
            any-contains (λ c. is_single c.area && holds s.grid c.area node) event.boxes b found.at (and_from (is_single b.area) (holds s.grid b.area node) single found.passes) in
            told ∙ ap (λ (t : Bool). option_map (λ (bound : ℕ). (node, bound)) (cond (t && nat_le least b.bound) (Some b.bound) None)) single
            ∙ ap (λ (n : ℕ). option_map (λ (bound : ℕ). (node, bound)) (cond (nat_le least n) (Some n) None)) value
            ∙ map_case (λ (bound : ℕ). (node, bound)) (nat_le least (s.score node)) (s.score node)
            ∙ ap (λ (t : Bool). cond (t && nat_le least (s.score node)) (Some (with_score s.score node)) None) (sym alone)
        | inr several ↦
            let low = all-at (λ c. is_single c.area ≡ false → c.bound < least) event.boxes b (closed_low least event.boxes (sym p.closed)) found.at several in
            let under = p.bounds.above b.area node inside below found.passes in
            let far : nat_le least (s.score node) ≡ false = lt-leb least (s.score node) (omega (arith, low, under, right)) in
            told ∙ ap (λ (t : Bool). option_map (λ (bound : ℕ). (node, bound)) (cond (t && nat_le least b.bound) (Some b.bound) None)) several
            ∙ sym (cond-false (is_alone s.grid event.boxes node && nat_le least (s.score node)) (Some (with_score s.score node)) None
            (and_right (is_alone s.grid event.boxes node) (nat_le least (s.score node)) far))
      ]

  -- so the walk gives the near nodes of the single boxes
  near_is : (marks : List ℕ) → length marks ≡ node_count s.grid → IsMarked s.grid event.boxes marks → near_walk event.boxes least 0 marks ≡ near_of s least event.boxes
  unfolding near_of
  near_is marks long marked =
      let each : (j : ℕ) → j < length marks → near_entry event.boxes least (0 + j, get_or marks j 0)
      ≡ cond (is_alone s.grid event.boxes (0 + j) && nat_le least (s.score (0 + j))) (Some (with_score s.score (0 + j))) None =
      λ j below.
      let first : j ≡ 0 + j = omega arith in
      subst (λ (n : ℕ). near_entry event.boxes least (n, get_or marks j 0) ≡ cond (is_alone s.grid event.boxes n && nat_le least (s.score n)) (Some (with_score s.score n)) None)
      first (near_point marks marked j (omega (arith, below, long))) in
      walk_filter (near_entry event.boxes least) (λ node. is_alone s.grid event.boxes node && nat_le least (s.score node)) (with_score s.score) 0 marks each
      ∙ ap (λ (n : ℕ). map (with_score s.score) (filter (λ node. is_alone s.grid event.boxes node && nat_le least (s.score node)) (range_with_len 0 n))) long

  -- the printed bounds of single boxes are the scores of their nodes
  better_is : first_beating s.grid event ≡ not_first s event
  unfolding not_first
  better_is =
      let cover = cover_is s event.boxes p.cover in
      ap (option_map (λ b. NotFirst (corner s.grid b)))
      (find-same (is_beating s.grid event) (λ b. is_single b.area && is_better s event (corner s.grid b)) event.boxes
      (λ k d below.
      let b = get_or event.boxes k d in
      elim (cases_Bool (is_single b.area)) [
        | inl single ↦
            ap (λ (n : ℕ). is_single b.area && beats event (corner s.grid b) n) (cover.bounds k d below ∙ corner_score s p.bounds b (cover.inside k d below) single)
        | inr several ↦ rw several refl
      ]))

  -- the rest of the findings
  after_open : verdict_of s margin (IsLocated event)
      ≡ first_found (wrong_score s event ∷ (not_first s event ∷ (near_wrong s (threshold_of margin event.score) event ∷ [])))
  unfolding verdict_of
  after_open =
      let later = wrong_score s event ∷ (not_first s event ∷ (near_wrong s (threshold_of margin event.score) event ∷ [])) in
      findings_none (misplaced s.grid event.boxes) (uncovered s.grid event.boxes) (wrong_bound s event.boxes)
      (not_closed (threshold_of margin event.score) event.boxes ∷ later) p.cover
      ∙ finding_none (not_closed (threshold_of margin event.score) event.boxes) later (p.closed ∙ ap (λ (n : ℕ). not_closed n event.boxes) p.least_is)

  pub located_score : (verdict : Verdict) → Some verdict ≡ wrong_score s event → verdict ≡ verdict_of s margin (IsLocated event)
  located_score verdict is =
      sym (after_open ∙ finding_some (wrong_score s event) (not_first s event ∷ (near_wrong s (threshold_of margin event.score) event ∷ [])) verdict is)

  after_score : None ≡ wrong_score s event → verdict_of s margin (IsLocated event) ≡ first_found (not_first s event ∷ (near_wrong s (threshold_of margin event.score) event ∷ []))
  after_score scored = after_open ∙ finding_none (wrong_score s event) (not_first s event ∷ (near_wrong s (threshold_of margin event.score) event ∷ [])) scored

  pub located_better : None ≡ wrong_score s event → (verdict : Verdict) → Some verdict ≡ first_beating s.grid event → verdict ≡ verdict_of s margin (IsLocated event)
  located_better scored verdict is =
      sym (after_score scored ∙ finding_some (not_first s event) (near_wrong s (threshold_of margin event.score) event ∷ []) verdict (is ∙ better_is))

  module _ (scored : None ≡ wrong_score s event) (first : None ≡ first_beating s.grid event) (marks : List ℕ) (long : length marks ≡ node_count s.grid)
      (marked : IsMarked s.grid event.boxes marks) where
    near_found : option_map NearWrong (first_difference 0 event.near (near_walk event.boxes least 0 marks)) ≡ near_wrong s (threshold_of margin event.score) event
    unfolding near_wrong
    near_found =
        ap (λ (list : List (ℕ × ℕ)). option_map NearWrong (first_difference 0 event.near list)) (near_is marks long marked)
        ∙ ap (λ (n : ℕ). option_map NearWrong (first_difference 0 event.near (near_of s n event.boxes))) p.least_is

    after_first : verdict_of s margin (IsLocated event) ≡ first_found (near_wrong s (threshold_of margin event.score) event ∷ [])
    after_first = after_score scored ∙ finding_none (not_first s event) (near_wrong s (threshold_of margin event.score) event ∷ []) (first ∙ better_is)

    pub located_near : (verdict : Verdict) → Some verdict ≡ option_map NearWrong (first_difference 0 event.near (near_walk event.boxes least 0 marks))
        → verdict ≡ verdict_of s margin (IsLocated event)
    located_near verdict is = sym (after_first ∙ finding_some (near_wrong s (threshold_of margin event.score) event) [] verdict (is ∙ near_found))

    pub located_proved : None ≡ option_map NearWrong (first_difference 0 event.near (near_walk event.boxes least 0 marks)) → Proved ≡ verdict_of s margin (IsLocated event)
    located_proved none = sym (after_first ∙ finding_none (near_wrong s (threshold_of margin event.score) event) [] (none ∙ near_found))

-- the findings of the cover
module _ (s : Scoring) (margin : ℕ) where
  pub located_cover : (event : LocatedValue) (verdict : Verdict) → Some verdict ≡ cover_finding s event.boxes → verdict ≡ verdict_of s margin (IsLocated event)
  unfolding verdict_of
  located_cover event verdict is =
      sym (findings_some (misplaced s.grid event.boxes) (uncovered s.grid event.boxes) (wrong_bound s event.boxes)
      (not_closed (threshold_of margin event.score) event.boxes ∷ (wrong_score s event ∷ (not_first s event ∷ (near_wrong s (threshold_of margin event.score) event ∷ []))))
      verdict is)

  pub located_open : (event : LocatedValue) (least : ℕ) (verdict : Verdict) → least ≡ threshold_of margin event.score → None ≡ cover_finding s event.boxes
      → Some verdict ≡ not_closed least event.boxes → verdict ≡ verdict_of s margin (IsLocated event)
  unfolding verdict_of
  located_open event least verdict least_is cover is =
      let later = wrong_score s event ∷ (not_first s event ∷ (near_wrong s (threshold_of margin event.score) event ∷ [])) in
      sym (findings_none (misplaced s.grid event.boxes) (uncovered s.grid event.boxes) (wrong_bound s event.boxes)
      (not_closed (threshold_of margin event.score) event.boxes ∷ later) cover
      ∙ finding_some (not_closed (threshold_of margin event.score) event.boxes) later verdict (is ∙ ap (λ (n : ℕ). not_closed n event.boxes) least_is))

  pub none_cover : (boxes : List BoxBound) (verdict : Verdict) → Some verdict ≡ cover_finding s boxes → verdict ≡ verdict_of s margin (FitsNowhere boxes)
  unfolding verdict_of
  none_cover boxes verdict is =
      sym (findings_some (misplaced s.grid boxes) (uncovered s.grid boxes) (wrong_bound s boxes) (not_zero boxes ∷ []) verdict is)

  pub none_open : (boxes : List BoxBound) (verdict : Verdict) → None ≡ cover_finding s boxes → Some verdict ≡ not_zero boxes
      → verdict ≡ verdict_of s margin (FitsNowhere boxes)
  unfolding verdict_of
  none_open boxes verdict cover is =
      sym (findings_none (misplaced s.grid boxes) (uncovered s.grid boxes) (wrong_bound s boxes) (not_zero boxes ∷ []) cover
      ∙ finding_some (not_zero boxes) [] verdict is)

  pub none_proved : (boxes : List BoxBound) → None ≡ cover_finding s boxes → None ≡ not_zero boxes → Proved ≡ verdict_of s margin (FitsNowhere boxes)
  unfolding verdict_of
  none_proved boxes cover none =
      sym (findings_none (misplaced s.grid boxes) (uncovered s.grid boxes) (wrong_bound s boxes) (not_zero boxes ∷ []) cover
      ∙ finding_none (not_zero boxes) [] none)
