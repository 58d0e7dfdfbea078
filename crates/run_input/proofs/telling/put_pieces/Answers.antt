use Rattle.std.proofs.Common.{◌≡◌, ℕ, ◌<◌, ◌≤◌, ◌∙◌, sym, ap, subst, arith, List, ◌∷◌, ◌++◌, length, take, drop, suc, get_or, drop-cons, append_assoc, Bor, Option}
use Rattle.std.proofs.Math.Seq.{take-length}
use Rattle.std.proofs.lemmas.List.{take-append-drop, take_all}
use Rattle.std.proofs.lemmas.Grind.{flat_map-append}
use Rattle.std.specs.List.{flat_map}
use Rattle.edt_outside.specs.Counts.{Rose}
use Rattle.edt_outside.specs.Sinks.{Appends}
use Rattle.run_input.specs.Told.{Told}
use Rattle.run_input.proofs.SinkFronts.{appends_then, front_of_whole}
use Rattle.run_input.proofs.telling.put_pieces.Goals as goal

-- the pieces up to one, that piece, and the rest
parts : (ps : List (Bor (List ℕ))) (i : ℕ) (d : Bor (List ℕ)) → i < length ps
    → flat_map (λ piece. piece.now) ps ≡ (flat_map (λ piece. piece.now) (take i ps) ++ (get_or ps i d).now) ++ flat_map (λ piece. piece.now) (drop (suc i) ps)
parts ps i d within =
    let f : Bor (List ℕ) → List ℕ = λ piece. piece.now in
    let cut : ps ≡ take i ps ++ (get_or ps i d ∷ drop (suc i) ps) = sym (take-append-drop i ps) ∙ ap (λ rest. take i ps ++ rest) (drop-cons ps i d within) in
    ap (flat_map f) cut ∙ (flat_map-append f (take i ps) (get_or ps i d ∷ drop (suc i) ps) ∙ sym (append_assoc (flat_map f (take i ps)) (f (get_or ps i d)) (flat_map f (drop (suc i) ps))))

-- what is told where a piece is cut short
cut_short : {E : Type 0} (taken : E → Option (List ℕ)) (faults : E → ℕ) (before mid after : E) (xs piece rest line : List ℕ) (k : ℕ)
    → Appends (taken before) (taken mid) xs → Appends (taken mid) (taken after) (take k piece)
    → line ≡ (xs ++ piece) ++ rest → faults mid ≡ faults before → (faults mid ≤ faults after) × Rose (faults mid) (faults after) → Told taken faults before after line
cut_short taken faults before mid after xs piece rest line k first then is same rose =
    record {
      front = (
        length (xs ++ take k piece),
        subst (Appends (taken before) (taken after)) (front_of_whole xs piece rest line k is) (appends_then (taken before) (taken mid) (taken after) xs (take k piece) first then),
      );
      whole = λ none. absurd (none (subst (λ f. Rose f (faults after)) same rose.1));
    }

pub returns-in-Err : goal.returns-in-Err
returns-in-Err g c =
    let i : ℕ = c.loop-piece.piece-index in
    record { told = cut_short g.E.Sink.taken g.E.Sink.faults _ _ _ _ _ _ _ _ c.loop-piece.invariant.appended c.in-Err.ensures.front (parts c.args.pieces.now i _ c.loop-piece-test.true) c.loop-piece.invariant.faults c.in-Err.ensures.faults }

-- what is told where all pieces are taken
all_taken : {E : Type 0} (taken : E → Option (List ℕ)) (faults : E → ℕ) (before after : E) (line : List ℕ) → Appends (taken before) (taken after) line → Told taken faults before after line
all_taken taken faults before after line all = record { front = (length line, subst (Appends (taken before) (taken after)) (sym (take-length line)) all); whole = λ _. all }

pub returns : goal.returns
returns g c =
    let whole : take c.loop-piece.piece-index c.args.pieces.now ≡ c.args.pieces.now = take_all c.loop-piece.piece-index c.args.pieces.now (omega (arith, c.loop-piece-test.false)) in
    let f : Bor (List ℕ) → List ℕ = λ piece. piece.now in
    record { told = all_taken g.E.Sink.taken g.E.Sink.faults _ _ _ (subst (λ ps. Appends (g.E.Sink.taken c.args.err.now) (g.E.Sink.taken c.loop-piece.err) (flat_map f ps)) whole c.loop-piece.invariant.appended) }
