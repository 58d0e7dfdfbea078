-- The cover of the rule is an octree cover, and each of its boxes stops.
use Rattle.std.proofs.Common.{◌≡◌, ℕ, true, List, [], ◌∷◌, ◌++◌, append_assoc, subst, sym}
use Rattle.std.specs.Prelude.{nat_lt}
use Rattle.std.specs.List.{flat_map, AllByRecursion}
use Rattle.node_boxes.specs.declared.node_box.NodeBox.{NodeBox}
use Rattle.node_boxes.specs.Boxes.{IsNonempty, is_single}
use Rattle.node_boxes.specs.Children.{children_of}
use Rattle.node_boxes.specs.Octree.{IsOctreeCover, Done, Keep, Open}
use Rattle.node_boxes.proofs.Lists.{all-flat_map}
use Rattle.octree_search.specs.Cover.{stops, cover}
use Rattle.octree_search.proofs.Choices.{neither}
use Rattle.octree_search.proofs.Covers.{by_cover, cover_open, cover_stop}

module _ (bound : NodeBox → ℕ) (t : ℕ) where
  -- the cover of a box, followed by the leaves of further boxes
  abbrev pub ContinuesCover : NodeBox → Type 0
  ContinuesCover a = (rest leaves : List NodeBox) → IsOctreeCover rest leaves → IsOctreeCover (a ∷ rest) (cover bound t a ++ leaves)

  pub covers_continue : (boxes : List NodeBox) → AllByRecursion ContinuesCover boxes → (rest leaves : List NodeBox)
      → IsOctreeCover rest leaves → IsOctreeCover (boxes ++ rest) (flat_map (cover bound t) boxes ++ leaves)
  covers_continue [] all rest leaves kept = kept
  covers_continue (a ∷ boxes) (here, all) rest leaves kept =
      subst (IsOctreeCover (a ∷ (boxes ++ rest))) (sym (append_assoc (cover bound t a) (flat_map (cover bound t) boxes) leaves))
      (here (boxes ++ rest) (flat_map (cover bound t) boxes ++ leaves) (covers_continue boxes all rest leaves kept))

  pub cover_continues : (a : NodeBox) → IsNonempty a → ContinuesCover a
  cover_continues = by_cover bound t ContinuesCover
      (λ a some stop rest leaves kept. subst (λ front. IsOctreeCover (a ∷ rest) (front ++ leaves)) (sym (cover_stop bound t a stop))
      (Keep a rest leaves kept))
      (λ a some open' all rest leaves kept. subst (λ front. IsOctreeCover (a ∷ rest) (front ++ leaves)) (sym (cover_open bound t a some open'))
      (Open a rest (flat_map (cover bound t) (children_of a) ++ leaves) (neither (is_single a) (nat_lt (bound a) t) open').0
      (covers_continue (children_of a) all rest leaves kept)))

  -- the covers of boxes are an octree cover of them
  pub octree_cover : (boxes : List NodeBox) → AllByRecursion IsNonempty boxes → IsOctreeCover boxes (flat_map (cover bound t) boxes)
  octree_cover [] some = Done
  octree_cover (a ∷ boxes) (here, some) =
      cover_continues a here boxes (flat_map (cover bound t) boxes) (octree_cover boxes some)

  -- each box of a cover stops
  pub cover_stops : (a : NodeBox) → IsNonempty a → AllByRecursion (λ b. stops bound t b ≡ true) (cover bound t a)
  cover_stops = by_cover bound t (λ a. AllByRecursion (λ b. stops bound t b ≡ true) (cover bound t a))
      (λ a some stop. rw (cover_stop bound t a stop) (stop, tt))
      (λ a some open' all. rw (cover_open bound t a some open')
      (all-flat_map (λ c. AllByRecursion (λ b. stops bound t b ≡ true) (cover bound t c)) (λ b. stops bound t b ≡ true) (cover bound t)
      (λ c here. here) (children_of a) all))

  pub covers_stop : (boxes : List NodeBox) → AllByRecursion IsNonempty boxes
      → AllByRecursion (λ b. stops bound t b ≡ true) (flat_map (cover bound t) boxes)
  covers_stop = all-flat_map IsNonempty (λ b. stops bound t b ≡ true) (cover bound t) cover_stops
