use Rattle.std.proofs.Common.{◌≡◌, ◌∙◌, ◌==◌, ℕ, ◌+◌, ap, sym, refl, arith, List, [], ◌∷◌, ◌++◌, map, zero, suc, Some, None, false, if◌then◌else◌}
use Rattle.std.specs.List.{slice_get}
use Rattle.std.proofs.lemmas.Bool.Decides.{nat_tests}
use Rattle.std.specs.List.{range_with_len}
use Rattle.std.specs.Option.{option_map}
use Rattle.std.proofs.lemmas.List.FromFn.{map-range_with_len_more}
use Rattle.edt_score.specs.declared.problem.ProblemPick.{ProblemPick}
use Rattle.edt_top.specs.Solve.ProblemFile.{Words, signed_at, picks_in}
use Rattle.edt_top.specs.Inside.ProblemCursor.{Reading}
use Rattle.edt_top.specs.Solve.ProblemValues.{pick_in}
use Rattle.edt_top.proofs.solve.problem_file.read_picks.Goals as goal

-- the first of the picks before a row has the first observed time
first_is : (words : Words) (row : ℕ) → option_map (λ (pick : ProblemPick). pick.time) (slice_get (map (pick_in words) (range_with_len 0 row)) 0)
    ≡ (if row == 0 then None else Some (signed_at words 6))
first_is words zero = refl
first_is words (suc row) =
    let some : (suc row == 0) ≡ false = grind (arith, nat_tests) in
    sym (ap (λ b. if b then None else Some (signed_at words 6)) some)

-- one more pick
one_more : (words : Words) (r : Reading) (k row : ℕ) (list more : List ProblemPick) (pick : ProblemPick) → list ≡ map (pick_in words) (range_with_len 0 row)
    → more ≡ list ++ pick ∷ [] → r ≡ record { words = words; place = k } → pick ≡ pick_in r.words row → more ≡ map (pick_in words) (range_with_len 0 (row + 1))
one_more words r k row list more pick all pushed at is =
    let pick_is : pick ≡ pick_in words row = is ∙ ap (λ (x : Reading). pick_in x.words row) at in
    pushed ∙ (ap (λ xs. xs ++ pick ∷ []) all ∙ (ap (λ p. map (pick_in words) (range_with_len 0 row) ++ p ∷ []) pick_is ∙ sym (map-range_with_len_more (pick_in words) 0 row row (omega arith))))

pub loop-row-preserved : goal.loop-row-preserved
loop-row-preserved c = record {
  list = one_more c.args.cursor.now.words c.loop-row.cursor _ c.loop-row.row c.loop-row.list.items _ c.in_ok-pick.pick c.loop-row.invariant.list c.in_ok-push.ensures.items c.loop-row.invariant.moved c.in_ok-pick.ensures.pick;
  moved = rw c.loop-row.invariant.moved at c.in_ok-pick.ensures.moved;
  sound = c.in_ok-pick.ensures.sound;
}

pub read_pick-requires-clause-first : goal.read_pick-requires-clause-first
read_pick-requires-clause-first c =
    let words : c.loop-row.cursor.words ≡ c.args.cursor.now.words = ap (λ (r : Reading). r.words) c.loop-row.invariant.moved in
    let list : c.deref.result.now ≡ map (pick_in c.args.cursor.now.words) (range_with_len 0 c.loop-row.row) = c.deref.ensures.value ∙ c.loop-row.invariant.list in
    c.first_time-first.ensures ∙ (ap (λ xs. option_map (λ (pick : ProblemPick). pick.time) (slice_get xs 0)) list
    ∙ (first_is c.args.cursor.now.words c.loop-row.row ∙ ap (λ ws. if c.loop-row.row == 0 then None else Some (signed_at ws 6)) (sym words)))

pub returns-clause-picks : goal.returns-clause-picks
returns-clause-picks c =
    let all : c.loop-row.row ≡ picks_in c.args.cursor.now.words = omega (arith, c.requires.all) in
    c.loop-row.invariant.list ∙ ap (λ n. map (pick_in c.args.cursor.now.words) (range_with_len 0 n)) all
