use Rattle.std.proofs.Common.{◌≡◌, ◌∙◌, ℕ, ◌+◌, ◌*◌, ap, refl, ℤ, rules, w64, arith}
use Rattle.std.proofs.lemmas.Int.{to_z-of_z}
use Rattle.edt_score.specs.declared.problem.ProblemPick.{ProblemPick}
use Rattle.edt_top.specs.Solve.ProblemFile.{signed_at, number_at}
use Rattle.edt_top.specs.Inside.ProblemCursor.{Reading}
use Rattle.edt_top.specs.Solve.ProblemValues.{pick_in}
use Rattle.edt_top.proofs.solve.problem_file.read_pick.Goals as goal

-- the pick that three words in a row make
made : (c0 c1 c2 : Reading) (row : ℕ) (t kept : ℤ) (w v : ℕ) → c0.place ≡ 6 + 3 * row → kept ≡ t → c1 ≡ record c0 { place = c0.place + 1 }
    → c2 ≡ record c1 { place = c1.place + 1 } → t ≡ signed_at c0.words c0.place → w ≡ number_at c1.words c1.place → v ≡ number_at c2.words c2.place
    → ◌≡◌ {A = ProblemPick} (record { time = kept; weight = w; variance = v; row = row }) (pick_in c0.words row)
made c0 c1 c2 row t kept w v at same moved then time weight variance =
    let words1 : c1.words ≡ c0.words = ap (λ (r : Reading). r.words) moved in
    let words2 : c2.words ≡ c0.words = ap (λ (r : Reading). r.words) then ∙ words1 in
    let place1 : c1.place ≡ 6 + 3 * row + 1 = ap (λ (r : Reading). r.place) moved ∙ ap (λ k. k + 1) at in
    let place2 : c2.place ≡ 6 + 3 * row + 2 = omega (arith, ap (λ (r : Reading). r.place) then, place1) in
    let t_is : kept ≡ signed_at c0.words (6 + 3 * row) = same ∙ (time ∙ ap (signed_at c0.words) at) in
    let w_is : w ≡ number_at c0.words (6 + 3 * row + 1) = weight ∙ (ap (λ ws. number_at ws c1.place) words1 ∙ ap (number_at c0.words) place1) in
    let v_is : v ≡ number_at c0.words (6 + 3 * row + 2) = variance ∙ (ap (λ ws. number_at ws c2.place) words2 ∙ ap (number_at c0.words) place2) in
    rw (t_is, w_is, v_is) refl

pub returns-clause-pick : goal.returns-clause-pick
returns-clause-pick c =
    made c.args.cursor.now c.observed.new.self c.whole.new.self c.args.row c.in_ok-time.time _ c.in_ok-weight.field-0 c.in_ok-variance.variance
    c.requires.at (to_z-of_z w64 c.in_ok-time.time (search rules)) c.observed.ensures.moved c.whole.ensures.moved
    c.in_ok-time.ensures.value c.in_ok-weight.ensures.value c.in_ok-variance.ensures.value
