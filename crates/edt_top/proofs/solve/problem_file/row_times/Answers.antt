use Rattle.std.proofs.Common.{◌≡◌, ◌∙◌, ℕ, ◌+◌, ◌*◌, ◌<◌, ◌≤◌, ap, sym, subst, arith, All, List, [], ◌∷◌, ◌++◌, map}
use Rattle.std.specs.List.{range_with_len}
use Rattle.std.proofs.Math.Nat.{mul-le-mul_right}
use Rattle.std.proofs.lemmas.List.Elements.{All-push}
use Rattle.std.proofs.lemmas.List.FromFn.{map-range_with_len_more}
use Rattle.node_boxes.specs.declared.limits.TheConstants.{GREATEST_TIME}
use Rattle.edt_top.specs.Solve.ProblemFile.{Words, number_at, picks_in, nodes_in, first_time}
use Rattle.edt_top.specs.Inside.ProblemCursor.{Reading}
use Rattle.edt_top.specs.Solve.ProblemValues.{time_in}
use Rattle.edt_top.proofs.SolveLaws.ProblemSteps.{moved_to}
use Rattle.edt_top.proofs.SolveLaws.ProblemForms.{form_of_time}
use Rattle.edt_top.proofs.solve.problem_file.row_times.Goals as goal

-- a node of a row stands before the end of the rows
within : (picks nodes row node : ℕ) → row < picks → node < nodes → row * nodes + node < picks * nodes
within picks nodes row node r n = let up : (row + 1) * nodes ≤ picks * nodes = mul-le-mul_right nodes (omega arith) in omega arith

-- one more travel time
one_more : (words : Words) (r : Reading) (row node : ℕ) (times more : List ℕ) (time : ℕ) → times ≡ map (time_in words row) (range_with_len 0 node)
    → more ≡ times ++ time ∷ [] → r ≡ record { words = words; place = first_time words + row * nodes_in words + node }
    → time ≡ number_at r.words r.place → more ≡ map (time_in words row) (range_with_len 0 (node + 1))
one_more words r row node times more time all pushed at is =
    let time_is : time ≡ time_in words row node = is ∙ ap (λ (x : Reading). number_at x.words x.place) at in
    pushed ∙ (ap (λ xs. xs ++ time ∷ []) all ∙ (ap (λ t. map (time_in words row) (range_with_len 0 node) ++ t ∷ []) time_is ∙ sym (map-range_with_len_more (time_in words row) 0 node node (omega arith))))

pub whole-requires-clause-room : goal.whole-requires-clause-room
whole-requires-clause-room c =
    let place : c.loop-node.cursor.place ≡ first_time c.args.cursor.now.words + c.args.row * nodes_in c.args.cursor.now.words + c.loop-node._node = ap (λ (r : Reading). r.place) c.loop-node.invariant.moved in
    let inside = within (picks_in c.args.cursor.now.words) (nodes_in c.args.cursor.now.words) c.args.row c.loop-node._node c.requires.within (omega (arith, c.requires.all)) in
    omega (arith, place, inside, c.requires.few)

pub whole-requires-clause-form : goal.whole-requires-clause-form
whole-requires-clause-form c =
    let inside = within (picks_in c.args.cursor.now.words) (nodes_in c.args.cursor.now.words) c.args.row c.loop-node._node c.requires.within (omega (arith, c.requires.all)) in
    rw c.loop-node.invariant.moved (form_of_time c.args.cursor.now.words (first_time c.args.cursor.now.words + c.args.row * nodes_in c.args.cursor.now.words + c.loop-node._node) (omega arith) (omega (arith, inside)))

pub loop-node-preserved : goal.loop-node-preserved
loop-node-preserved c = record {
  times = one_more c.args.cursor.now.words c.loop-node.cursor c.args.row c.loop-node._node c.loop-node.times.items _ _ c.loop-node.invariant.times c.in_ok-push.ensures.items c.loop-node.invariant.moved c.in_ok-time.ensures.value;
  limit = subst (All (λ time. time ≤ GREATEST_TIME)) (sym c.in_ok-push.ensures.items) (All-push (λ time. time ≤ GREATEST_TIME) c.loop-node.times.items c.in_ok-time.time c.loop-node.invariant.limit c.in_ok-time.ensures.greatest);
  moved = moved_to c.loop-node.cursor _ c.args.cursor.now.words _ _ c.loop-node.invariant.moved c.in_ok-time.ensures.moved (omega arith);
  sound = c.in_ok-time.ensures.sound;
}
