-- A verdict is `Proved` exactly where the certificate proves its event.
use Rattle.std.proofs.Common.{◌≡◌, inl, inr, ℕ, ◌+◌, ◌<◌, ◌==◌, ◌&&◌, arith, refl, ap, sym, ◌∙◌, Bool, true, false, cond, List, [], ◌∷◌, get_or, take, All, Option, None, Some}
use Rattle.std.specs.List.{enumerate_from, find}
use Rattle.std.specs.Option.{option_or}
use Rattle.std.specs.Prelude.{nat_lt, option_map}
use Rattle.std.proofs.lemmas.Bool.{and_cases, and_from, and_left, and_parts, and_right, cases_Bool, cond-true, eq-eqb, eqb-true, false_from_ne_true, lt-ltb, ltb-false, ltb-true, or_from, or_parts}
use Rattle.std.proofs.lemmas.List.Elements.{Contains-get_or}
use Rattle.cover_certificate.specs.Blocks.{BlockValue, FitsNowhere, HasFew, HasMany, IsLocated, LocatedValue, PassesBudget, PassesNearLimit}
use Rattle.node_boxes.specs.declared.node_box.BoxBound.{BoxBound}
use Rattle.node_boxes.specs.Boxes.{is_single}
use Rattle.node_boxes.specs.BoxNodes.{box_nodes}
use Rattle.node_boxes.specs.Grid.{GridSize, node_count}
use Rattle.octree_search.specs.Cover.{threshold_of}
use Rattle.cover_checker.specs.declared.verdict.Verdict.{Verdict}
use Rattle.cover_checker.specs.declared.verdict.Verdict.TheVariants.{NearWrong, NoClaim, NotClosed, NotFirst, Outside, Proved, Twice, Uncovered, WrongBound, WrongScore}
use Rattle.cover_checker.specs.Covers.{first_of, is_held, is_in, misplaced, placing_fault, uncovered}
use Rattle.cover_checker.specs.Findings.{corner, first_difference, is_better, near_of, near_wrong, not_closed, not_first, not_zero, same_entry, wrong_bound, wrong_score}
use Rattle.cover_checker.specs.Proving.{IsNoBetter, Proves, ProvesLocated, ProvesNoFit}
use Rattle.cover_checker.specs.Scorings.{Scoring}
use Rattle.cover_checker.specs.Verdicts.{first_found, verdict_of}
use Rattle.cover_checker.proofs.CoverLaws.{find-fails, map-none}
use Rattle.cover_checker.proofs.PassLaws.{bounds_right, bounds_zero, closed_low, cover_covered, cover_from, cover_placed, low_closed, zero_bounds}
use Rattle.cover_checker.proofs.Searches.{find-none}

-- a finding that isn't `Proved` is none where the verdict is `Proved`
peel : (finding : Option Verdict) (rest : List (Option Verdict)) → (finding ≡ Some Proved → ⊥) → first_found (finding ∷ rest) ≡ Proved
    → (finding ≡ None) × (first_found rest ≡ Proved)
peel None rest never is = (refl, is)
peel (Some verdict) rest never is = absurd (never (ap Some is))

map-never : {A : Type 0} (make : A → Verdict) (found : Option A) → ((x : A) → make x ≡ Proved → ⊥) → option_map make found ≡ Some Proved → ⊥
map-never make None never is = cc
map-never make (Some x) never is = never x (let same : make x ≡ Proved = cc in same)

or-never : (one other : Option Verdict) → (one ≡ Some Proved → ⊥) → (other ≡ Some Proved → ⊥) → option_or one other ≡ Some Proved → ⊥
or-never None other never later is = later is
or-never (Some x) other never later is = never is

first_of-never : {A : Type 0} (f : A → Option Verdict) (xs : List A) → ((x : A) → f x ≡ Some Proved → ⊥) → first_of f xs ≡ Some Proved → ⊥
first_of-never f [] never is = cc
first_of-never f (x ∷ xs) never is = or-never (f x) (first_of f xs) (never x) (first_of-never f xs never) is

fault-never : (g : GridSize) (boxes : List BoxBound) (at : ℕ × BoxBound) → placing_fault g boxes at ≡ Some Proved → ⊥
fault-never g boxes (place, b) is = elim (cases_Bool (is_in g b.area)) [
  | inl inside ↦
      let found : option_map Twice (find (is_held g (take place boxes)) (box_nodes g b.area)) ≡ Some Proved = rw inside at is in
      map-never Twice (find (is_held g (take place boxes)) (box_nodes g b.area)) (λ n same. absurd (let bad : Twice n ≡ Proved = same in cc)) found
  | inr out ↦ absurd (let bad : Some (Outside place) ≡ Some Proved = rw out at is in cc)
]

module _ (s : Scoring) (boxes : List BoxBound) where
  misplaced-never : misplaced s.grid boxes ≡ Some Proved → ⊥
  unfolding misplaced
  misplaced-never is = first_of-never (placing_fault s.grid boxes) (enumerate_from 0 boxes) (fault-never s.grid boxes) is

  uncovered-never : uncovered s.grid boxes ≡ Some Proved → ⊥
  unfolding uncovered
  uncovered-never is = map-never Uncovered _ (λ n same. absurd (let bad : Uncovered n ≡ Proved = same in cc)) is

  bound-never : wrong_bound s boxes ≡ Some Proved → ⊥
  unfolding wrong_bound
  bound-never is = map-never WrongBound _ (λ n same. absurd (let bad : WrongBound n ≡ Proved = same in cc)) is

  closed-never : (least : ℕ) → not_closed least boxes ≡ Some Proved → ⊥
  unfolding not_closed
  closed-never least is = map-never NotClosed _ (λ n same. absurd (let bad : NotClosed n ≡ Proved = same in cc)) is

  zero-never : not_zero boxes ≡ Some Proved → ⊥
  unfolding not_zero
  zero-never is = map-never NotClosed _ (λ n same. absurd (let bad : NotClosed n ≡ Proved = same in cc)) is

-- the hypocentre has its score
when-none : (t : Bool) (verdict : Verdict) → cond t None (Some verdict) ≡ None → t ≡ true
when-none true verdict is = refl
when-none false verdict is = cc

-- two lists that don't differ, and one that doesn't from itself
entries-same : (one other : ℕ × ℕ) → same_entry one other ≡ true → one ≡ other
entries-same (a, b) (c, d) same =
    let both = and_parts (a == c) (b == d) same in
    ap (λ (x : ℕ). (x, b)) (eqb-true a c both.0) ∙ ap (λ (y : ℕ). (c, y)) (eqb-true b d both.1)

same_lists : (place : ℕ) (ones others : List (ℕ × ℕ)) → first_difference place ones others ≡ None → ones ≡ others
same_lists place [] [] none = refl
same_lists place [] (other ∷ others) none = cc
same_lists place (one ∷ ones) [] none = cc
same_lists place (one ∷ ones) (other ∷ others) none = elim (cases_Bool (same_entry one other)) [
  | inl same ↦
      let rest : first_difference (place + 1) ones others ≡ None = rw same at none in
      ap (λ (e : ℕ × ℕ). e ∷ ones) (entries-same one other same) ∙ ap (λ (es : List (ℕ × ℕ)). other ∷ es) (same_lists (place + 1) ones others rest)
  | inr differ ↦ absurd (let bad : Some place ≡ None = rw differ at none in cc)
]

no_difference : (place : ℕ) (entries : List (ℕ × ℕ)) → first_difference place entries entries ≡ None
no_difference place [] = refl
no_difference place (entry ∷ entries) =
    cond-true (same_entry entry entry) (first_difference (place + 1) entries entries) (Some place)
    (and_from (entry.0 == entry.0) (entry.1 == entry.1) (eq-eqb entry.0 entry.0 refl) (eq-eqb entry.1 entry.1 refl))
    ∙ no_difference (place + 1) entries

module _ (s : Scoring) (event : LocatedValue) where
  score-never : wrong_score s event ≡ Some Proved → ⊥
  unfolding wrong_score
  score-never is = elim (cases_Bool (nat_lt event.hyp (node_count s.grid) && (s.score event.hyp == event.score))) [
    | inl hit ↦ absurd (let bad : None ≡ Some Proved = rw hit at is in cc)
    | inr miss ↦ absurd (let bad : Some (WrongScore event.hyp) ≡ Some Proved = rw miss at is in cc)
  ]

  first-never : not_first s event ≡ Some Proved → ⊥
  unfolding not_first
  first-never is = map-never (λ b. NotFirst (corner s.grid b)) _ (λ b same. absurd (let bad : NotFirst (corner s.grid b) ≡ Proved = same in cc)) is

  near-never : (least : ℕ) → near_wrong s least event ≡ Some Proved → ⊥
  unfolding near_wrong
  near-never least is = map-never NearWrong _ (λ n same. absurd (let bad : NearWrong n ≡ Proved = same in cc)) is

  score_right : wrong_score s event ≡ None → (event.hyp < node_count s.grid) × (s.score event.hyp ≡ event.score)
  unfolding wrong_score
  score_right none =
      let both = and_parts (nat_lt event.hyp (node_count s.grid)) (s.score event.hyp == event.score)
      (when-none (nat_lt event.hyp (node_count s.grid) && (s.score event.hyp == event.score)) (WrongScore event.hyp) none) in
      (ltb-true event.hyp (node_count s.grid) both.0, eqb-true (s.score event.hyp) event.score both.1)

  right_score : event.hyp < node_count s.grid → s.score event.hyp ≡ event.score → wrong_score s event ≡ None
  unfolding wrong_score
  right_score below same =
      cond-true (nat_lt event.hyp (node_count s.grid) && (s.score event.hyp == event.score)) None (Some (WrongScore event.hyp))
      (and_from (nat_lt event.hyp (node_count s.grid)) (s.score event.hyp == event.score) (lt-ltb event.hyp (node_count s.grid) below) (eq-eqb (s.score event.hyp) event.score same))

  -- a node that isn't better
  not_better : (b : BoxBound) → is_better s event (corner s.grid b) ≡ false → IsNoBetter s event b
  not_better b miss =
      let node = corner s.grid b in
      let both = or_parts (nat_lt event.score (s.score node)) ((s.score node == event.score) && nat_lt node event.hyp) miss in
      record {
        at_most = ltb-false event.score (s.score node) both.0;
        later = λ same. elim (and_cases (s.score node == event.score) (nat_lt node event.hyp) both.1) [
          | inl other ↦ absurd (let bad : true ≡ false = sym (eq-eqb (s.score node) event.score same) ∙ other in cc)
          | inr after ↦ ltb-false node event.hyp after
        ];
      }

  better_not : (b : BoxBound) → IsNoBetter s event b → is_better s event (corner s.grid b) ≡ false
  better_not b none =
      let node = corner s.grid b in
      let low : nat_lt event.score (s.score node) ≡ false = false_from_ne_true (nat_lt event.score (s.score node))
      (λ above. absurd (omega (arith, ltb-true event.score (s.score node) above, none.at_most))) in
      let late : ((s.score node == event.score) && nat_lt node event.hyp) ≡ false =
      false_from_ne_true ((s.score node == event.score) && nat_lt node event.hyp)
      (λ hit.
      let both = and_parts (s.score node == event.score) (nat_lt node event.hyp) hit in
      absurd (omega (arith, none.later (eqb-true (s.score node) event.score both.0), ltb-true node event.hyp both.1))) in
      or_from (nat_lt event.score (s.score node)) ((s.score node == event.score) && nat_lt node event.hyp) low late

  first_right : not_first s event ≡ None → All (λ b. is_single b.area ≡ true → IsNoBetter s event b) event.boxes
  unfolding not_first
  first_right none =
      let missed = map-none (λ b. NotFirst (corner s.grid b)) (find (λ b. is_single b.area && is_better s event (corner s.grid b)) event.boxes) none in
      λ k d below single.
      let b = get_or event.boxes k d in
      let fails = find-none (λ c. is_single c.area && is_better s event (corner s.grid c)) event.boxes b missed (Contains-get_or event.boxes k d below) in
      elim (and_cases (is_single b.area) (is_better s event (corner s.grid b)) fails) [
        | inl several ↦ absurd (let bad : true ≡ false = sym single ∙ several in cc)
        | inr miss ↦ not_better b miss
      ]

  right_first : All (λ b. is_single b.area ≡ true → IsNoBetter s event b) event.boxes → not_first s event ≡ None
  unfolding not_first
  right_first each =
      ap (option_map (λ b. NotFirst (corner s.grid b)))
      (find-fails (λ b. is_single b.area && is_better s event (corner s.grid b)) event.boxes
      (λ k d below.
      let b = get_or event.boxes k d in
      elim (cases_Bool (is_single b.area)) [
        | inl single ↦ and_right (is_single b.area) (is_better s event (corner s.grid b)) (better_not b (each k d below single))
        | inr several ↦ and_left (is_single b.area) (is_better s event (corner s.grid b)) several
      ]))

  near_right : (least : ℕ) → near_wrong s least event ≡ None → event.near ≡ near_of s least event.boxes
  unfolding near_wrong
  near_right least none = same_lists 0 event.near (near_of s least event.boxes) (map-none NearWrong (first_difference 0 event.near (near_of s least event.boxes)) none)

  right_near : (least : ℕ) → event.near ≡ near_of s least event.boxes → near_wrong s least event ≡ None
  unfolding near_wrong
  right_near least same =
      ap (λ (list : List (ℕ × ℕ)). option_map NearWrong (first_difference 0 list (near_of s least event.boxes))) same
      ∙ ap (option_map NearWrong) (no_difference 0 (near_of s least event.boxes))

  -- a located event
  located_proves : (margin : ℕ) → verdict_of s margin (IsLocated event) ≡ Proved → ProvesLocated s margin event
  unfolding verdict_of
  located_proves margin is =
      let placed = peel (misplaced s.grid event.boxes) _ (misplaced-never s event.boxes) is in
      let covered = peel (uncovered s.grid event.boxes) _ (uncovered-never s event.boxes) placed.1 in
      let bounds = peel (wrong_bound s event.boxes) _ (bound-never s event.boxes) covered.1 in
      let closed = peel (not_closed (threshold_of margin event.score) event.boxes) _ (closed-never s event.boxes (threshold_of margin event.score)) bounds.1 in
      let scored = peel (wrong_score s event) _ score-never closed.1 in
      let first = peel (not_first s event) _ first-never scored.1 in
      let near = peel (near_wrong s (threshold_of margin event.score) event) _ (near-never (threshold_of margin event.score)) first.1 in
      let score = score_right scored.0 in
      record {
        cover = cover_from s event.boxes placed.0 covered.0 bounds.0;
        closed = closed_low (threshold_of margin event.score) event.boxes closed.0;
        hyp = score.0;
        score = score.1;
        first = first_right first.0;
        near = near_right (threshold_of margin event.score) near.0;
      }

  proves_located : (margin : ℕ) → ProvesLocated s margin event → verdict_of s margin (IsLocated event) ≡ Proved
  unfolding verdict_of
  proves_located margin p =
      rw (
        cover_placed s event.boxes p.cover,
        cover_covered s event.boxes p.cover,
        bounds_right s event.boxes (p.cover).bounds,
        low_closed (threshold_of margin event.score) event.boxes p.closed,
        right_score p.hyp p.score,
        right_first p.first,
        right_near (threshold_of margin event.score) p.near,
      ) refl

module _ (s : Scoring) (margin : ℕ) (boxes : List BoxBound) where
  -- an event that fits nowhere
  none_proves : verdict_of s margin (FitsNowhere boxes) ≡ Proved → ProvesNoFit s boxes
  unfolding verdict_of
  none_proves is =
      let placed = peel (misplaced s.grid boxes) _ (misplaced-never s boxes) is in
      let covered = peel (uncovered s.grid boxes) _ (uncovered-never s boxes) placed.1 in
      let bounds = peel (wrong_bound s boxes) _ (bound-never s boxes) covered.1 in
      let closed = peel (not_zero boxes) _ (zero-never s boxes) bounds.1 in
      record { cover = cover_from s boxes placed.0 covered.0 bounds.0; zero = zero_bounds boxes closed.0 }

  proves_none : ProvesNoFit s boxes → verdict_of s margin (FitsNowhere boxes) ≡ Proved
  unfolding verdict_of
  proves_none p =
      rw (cover_placed s boxes p.cover, cover_covered s boxes p.cover, bounds_right s boxes (p.cover).bounds, bounds_zero boxes p.zero) refl

pub proves_from : (s : Scoring) (margin : ℕ) (block : BlockValue) → verdict_of s margin block ≡ Proved → Proves s margin block
unfolding verdict_of
proves_from s margin (IsLocated event) is = located_proves s event margin is
proves_from s margin (FitsNowhere boxes) is = none_proves s margin boxes is
proves_from s margin HasFew is = absurd (let bad : NoClaim ≡ Proved = is in cc)
proves_from s margin HasMany is = absurd (let bad : NoClaim ≡ Proved = is in cc)
proves_from s margin PassesBudget is = absurd (let bad : NoClaim ≡ Proved = is in cc)
proves_from s margin PassesNearLimit is = absurd (let bad : NoClaim ≡ Proved = is in cc)

pub proved_from : (s : Scoring) (margin : ℕ) (block : BlockValue) → Proves s margin block → verdict_of s margin block ≡ Proved
proved_from s margin (IsLocated event) p = proves_located s event margin p
proved_from s margin (FitsNowhere boxes) p = proves_none s margin boxes p
proved_from s margin HasFew p = absurd p
proved_from s margin HasMany p = absurd p
proved_from s margin PassesBudget p = absurd p
proved_from s margin PassesNearLimit p = absurd p
