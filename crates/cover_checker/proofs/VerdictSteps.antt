-- The steps of the passes over the boxes of a cover, and how their findings become a verdict.
use Rattle.std.proofs.Common.{◌≡◌, ℕ, ◌+◌, ◌*◌, ◌<◌, ◌≤◌, ◌==◌, ◌&&◌, arith, refl, ap, sym, ◌∙◌, Bool, true, false, cond, not, List, ◌∷◌, length, get_or, Option, None, Some, drop, IfSome, IsTrue}
use Rattle.std.specs.List.{position_from}
use Rattle.std.specs.Option.{option_or}
use Rattle.std.specs.Prelude.{option_map, nat_le, nat_lt}
use Rattle.std.proofs.lemmas.Bool.{and_from, and_right, cond-false, cond-true, eq-eqb, lt-ltb}
use Rattle.std.proofs.lemmas.List.{at_drop_more}
use Rattle.node_boxes.specs.declared.node_box.BoxBound.{BoxBound}
use Rattle.node_boxes.specs.Boxes.{is_single}
use Rattle.node_boxes.specs.BoxNodes.{box_nodes}
use Rattle.node_boxes.specs.Grid.{GridSize, node_count}
use Rattle.kernel_table.specs.Falloff.{shape_of}
use Rattle.edt_score.specs.Judging.{node_box}
use Rattle.edt_score.specs.Look.{numbered}
use Rattle.std.proofs.lemmas.List.Sums.{sum_by-drop_more}
use Rattle.cover_certificate.specs.Blocks.{LocatedValue}
use Rattle.cover_checker.specs.declared.verdict.Verdict.{Verdict}
use Rattle.cover_checker.specs.declared.verdict.Verdict.TheVariants.{NotClosed, WrongBound, WrongScore}
use Rattle.cover_checker.specs.declared.case.Case.{Case}
use Rattle.cover_checker.specs.Findings.{corner, not_closed, not_zero, wrong_bound, wrong_score}
use Rattle.cover_checker.specs.Scorings.{Scoring}
use Rattle.cover_checker.specs.Verdicts.{first_found, is_early}
use Rattle.cover_checker.specs.Inside.Cases.{case_falloff, case_grid, case_picks, case_scoring}
use Rattle.cover_checker.specs.Inside.Walks.{beats, nodes_in}
use Rattle.cover_checker.proofs.BoundLaws.{bounds_are, node_box_score}
use Rattle.cover_checker.proofs.Searches.{no_box}

-- the tests of the passes
abbrev pub is_wrong : Scoring → BoxBound → Bool
is_wrong s b = not (b.bound == s.bound b.area)

abbrev pub is_open : ℕ → BoxBound → Bool
is_open least b = not (is_single b.area) && nat_le least b.bound

abbrev pub is_positive : BoxBound → Bool
is_positive b = nat_lt 0 b.bound

abbrev pub is_beating : GridSize → LocatedValue → BoxBound → Bool
is_beating g event b = is_single b.area && beats event (corner g b) b.bound

-- the first place in what is left of a list
module _ {X : Type 0} (test : X → Bool) (xs : List X) (i : ℕ) (d : X) where
  pub place_hit : i < length xs → test (get_or xs i d) ≡ true → position_from test i (drop i xs) ≡ Some i
  place_hit below hit =
      at_drop_more (position_from test i) xs i d below
      ∙ cond-true (test (get_or xs i d)) (Some i) (position_from test (i + 1) (drop (i + 1) xs)) hit

  pub place_miss : i < length xs → test (get_or xs i d) ≡ false
      → position_from test (i + 1) (drop (i + 1) xs) ≡ position_from test i (drop i xs)
  place_miss below miss =
      sym (at_drop_more (position_from test i) xs i d below
      ∙ cond-false (test (get_or xs i d)) (Some i) (position_from test (i + 1) (drop (i + 1) xs)) miss)

-- the first of three findings, put before others
pub findings_some : (a b c : Option Verdict) (rest : List (Option Verdict)) (verdict : Verdict) → Some verdict ≡ option_or a (option_or b c)
    → first_found (a ∷ (b ∷ (c ∷ rest))) ≡ verdict
findings_some (Some a) b c rest verdict is = cc
findings_some None (Some b) c rest verdict is = cc
findings_some None None (Some c) rest verdict is = cc
findings_some None None None rest verdict is = cc

pub findings_none : (a b c : Option Verdict) (rest : List (Option Verdict)) → None ≡ option_or a (option_or b c)
    → first_found (a ∷ (b ∷ (c ∷ rest))) ≡ first_found rest
findings_none (Some a) b c rest is = cc
findings_none None (Some b) c rest is = cc
findings_none None None (Some c) rest is = cc
findings_none None None None rest is = refl

pub finding_some : (a : Option Verdict) (rest : List (Option Verdict)) (verdict : Verdict) → Some verdict ≡ a → first_found (a ∷ rest) ≡ verdict
finding_some (Some a) rest verdict is = cc
finding_some None rest verdict is = cc

pub finding_none : (a : Option Verdict) (rest : List (Option Verdict)) → None ≡ a → first_found (a ∷ rest) ≡ first_found rest
finding_none (Some a) rest is = cc
finding_none None rest is = refl

-- a finding that shows a number is as early as it is
pub late-mapped : (make : ℕ → Verdict) (found : Option ℕ) (verdict : Verdict) → ((n : ℕ) → is_early (make n) ≡ false)
    → Some verdict ≡ option_map make found → is_early verdict ≡ false
late-mapped make None verdict late is = cc
late-mapped make (Some n) verdict late is =
    let same : verdict ≡ make n = cc in
    ap is_early same ∙ late n

-- a box whose printed bound is its bound
pub not_wrong : (s : Scoring) (b : BoxBound) → b.bound ≡ s.bound b.area → is_wrong s b ≡ false
not_wrong s b same = ap not (eq-eqb b.bound (s.bound b.area) same)

-- the looks that are left after one more box
pub looks_left : (g : GridSize) (picks : ℕ) (boxes : List BoxBound) (i count more total : ℕ) → i < length boxes
    → more ≡ count + picks * length (box_nodes g (get_or boxes i no_box).area) → count + picks * nodes_in g (drop i boxes) ≤ total
    → more + picks * nodes_in g (drop (i + 1) boxes) ≤ total
looks_left g picks boxes i count more total below is before =
    let here = length (box_nodes g (get_or boxes i no_box).area) in
    let rest = nodes_in g (drop (i + 1) boxes) in
    let split : nodes_in g (drop i boxes) ≡ here + rest = sum_by-drop_more (λ (b : BoxBound). length (box_nodes g b.area)) boxes i no_box below in
    let parts : picks * nodes_in g (drop i boxes) ≡ picks * here + picks * rest = rw split (grind arith) in
    omega arith

-- the score of the hypocentre, as the bound of its box
module _ {F : Type 0} (case : Case F) (times : ℕ → ℕ → ℕ) (event : LocatedValue) (bound : ℕ) (below : event.hyp < node_count (case_grid case))
    (is : bound ≡ (case_scoring case times).bound (node_box (case_grid case) event.hyp)) where
  score_is : (case_scoring case times).score event.hyp ≡ bound
  score_is = sym (is ∙ node_box_score (case_scoring case times) (bounds_are (shape_of (case_falloff case)) (case_grid case) times (numbered (case_picks case))) event.hyp below)

  pub told_wrong : (bound == event.score) ≡ false → Some (WrongScore event.hyp) ≡ wrong_score (case_scoring case times) event
  unfolding wrong_score
  told_wrong other =
      let miss : (nat_lt event.hyp (node_count (case_grid case)) && ((case_scoring case times).score event.hyp == event.score)) ≡ false =
      and_right (nat_lt event.hyp (node_count (case_grid case))) ((case_scoring case times).score event.hyp == event.score) (ap (λ n. n == event.score) score_is ∙ other) in
      sym (cond-false (nat_lt event.hyp (node_count (case_grid case)) && ((case_scoring case times).score event.hyp == event.score)) None (Some (WrongScore event.hyp)) miss)

  pub told_right : bound ≡ event.score → None ≡ wrong_score (case_scoring case times) event
  unfolding wrong_score
  told_right same =
      let hit : (nat_lt event.hyp (node_count (case_grid case)) && ((case_scoring case times).score event.hyp == event.score)) ≡ true =
      and_from (nat_lt event.hyp (node_count (case_grid case))) ((case_scoring case times).score event.hyp == event.score) (lt-ltb event.hyp (node_count (case_grid case)) below)
      (eq-eqb ((case_scoring case times).score event.hyp) event.score (score_is ∙ same)) in
      sym (cond-true (nat_lt event.hyp (node_count (case_grid case)) && ((case_scoring case times).score event.hyp == event.score)) None (Some (WrongScore event.hyp)) hit)

-- none of these verdicts is early
pub late : {P : Type 0} (verdict : Verdict) → is_early verdict ≡ false → IsTrue (is_early verdict) → P
late verdict is early = absurd (let bad : false ≡ true = sym is ∙ early in cc)

pub wrong_late : (s : Scoring) (boxes : List BoxBound) (verdict : Verdict) → Some verdict ≡ wrong_bound s boxes → is_early verdict ≡ false
unfolding wrong_bound
wrong_late s boxes verdict is = late-mapped WrongBound (position_from (is_wrong s) 0 boxes) verdict (λ n. refl) is

pub open_late : (least : ℕ) (boxes : List BoxBound) (verdict : Verdict) → Some verdict ≡ not_closed least boxes → is_early verdict ≡ false
unfolding not_closed
open_late least boxes verdict is = late-mapped NotClosed (position_from (is_open least) 0 boxes) verdict (λ n. refl) is

pub zero_late : (boxes : List BoxBound) (verdict : Verdict) → Some verdict ≡ not_zero boxes → is_early verdict ≡ false
unfolding not_zero
zero_late boxes verdict is = late-mapped NotClosed (position_from is_positive 0 boxes) verdict (λ n. refl) is

late-cond : (t : Bool) (other verdict : Verdict) → is_early other ≡ false → Some verdict ≡ cond t None (Some other) → is_early verdict ≡ false
late-cond true other verdict is told = cc
late-cond false other verdict is told = let same : verdict ≡ other = cc in ap is_early same ∙ is

pub score_late : (s : Scoring) (event : LocatedValue) (verdict : Verdict) → Some verdict ≡ wrong_score s event → is_early verdict ≡ false
unfolding wrong_score
score_late s event verdict is =
    late-cond (nat_lt event.hyp (node_count s.grid) && (s.score event.hyp == event.score)) (WrongScore event.hyp) verdict refl is

-- so what is said of an early one holds
pub early_none : (P : Type 0) (finding : Option Verdict) → ((verdict : Verdict) → Some verdict ≡ finding → is_early verdict ≡ false)
    → (result : Option Verdict) → result ≡ finding → IfSome result (λ verdict. IsTrue (is_early verdict) → P)
early_none P finding none None is = tt
early_none P finding none (Some verdict) is = late verdict (none verdict is)
