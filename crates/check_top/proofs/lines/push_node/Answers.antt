use Rattle.std.proofs.Common.{◌≡◌, ℕ, List, [], ◌∷◌, ◌++◌, SFits, w64, ◌∙◌, ap, rules}
use Rattle.std.specs.Prelude.{decimal}
use Rattle.std.specs.Fmt.{signed_decimal}
use Rattle.std.proofs.lemmas.Int.{to_z-of_z}
use Rattle.std.proofs.lemmas.Result.{on_ok_weaker}
use Rattle.location_report.specs.Lines.{coordinate}
use Rattle.check_top.specs.CheckLines.{node_words}
use Rattle.check_top.specs.Inside.Lines.{spaced}
use Rattle.check_top.proofs.LineSteps.{no_words, one_more}
use Rattle.check_top.proofs.lines.push_node.Goals as goal

pub returns : goal.returns
unfolding node_words
returns c =
    let out = c.args.out.now.items in
    let frame = c.args.frame.now in
    let node = c.args.node in
    let place = c.place-ix.result in
    let ox : SFits w64 frame.ox = search rules in
    let oy : SFits w64 frame.oy = search rules in
    let oz : SFits w64 frame.oz = search rules in
    let dx : SFits w64 frame.dx = search rules in
    let dy : SFits w64 frame.dy = search rules in
    let dz : SFits w64 frame.dz = search rules in
    let x_fits : SFits w64 c.coordinate.result = search rules in
    let y_fits : SFits w64 c.coordinate-2.result = search rules in
    let z_fits : SFits w64 c.coordinate-3.result = search rules in
    let x : c.coordinate.result ≡ coordinate frame.ox frame.dx place.0 = simp to_z-of_z at c.coordinate.ensures in
    let y : c.coordinate-2.result ≡ coordinate frame.oy frame.dy place.1 = simp to_z-of_z at c.coordinate-2.ensures in
    let z : c.coordinate-3.result ≡ coordinate frame.oz frame.dz place.2 = simp to_z-of_z at c.coordinate-3.ensures in
    let x_way : c.push_length.new.out.items ≡ c.push_count-4.new.out.items ++ 32 ∷ signed_decimal c.coordinate.result = simp to_z-of_z at c.in_ok-push_length.ensures in
    let y_way : c.push_length-2.new.out.items ≡ c.push_length.new.out.items ++ 32 ∷ signed_decimal c.coordinate-2.result = simp to_z-of_z at c.in_ok-push_length-2.ensures in
    let z_way = simp to_z-of_z at c.push_length-3.ensures in
    let one = one_more out out c.push_count.new.out.items [] (decimal node) _ (no_words out) c.in_ok-push_count.ensures (ap decimal c.from.ensures) in
    let two = one_more out _ c.push_count-2.new.out.items (decimal node ∷ []) (decimal place.0) _ one c.in_ok-push_count-2.ensures (ap decimal c.from-2.ensures) in
    let three = one_more out _ c.push_count-3.new.out.items (decimal node ∷ decimal place.0 ∷ []) (decimal place.1) _ two c.in_ok-push_count-3.ensures (ap decimal c.from-3.ensures) in
    let four = one_more out _ c.push_count-4.new.out.items (decimal node ∷ decimal place.0 ∷ decimal place.1 ∷ []) (decimal place.2) _ three c.in_ok-push_count-4.ensures (ap decimal c.from-4.ensures) in
    let five = one_more out _ c.push_length.new.out.items (decimal node ∷ decimal place.0 ∷ decimal place.1 ∷ decimal place.2 ∷ []) (signed_decimal (coordinate frame.ox frame.dx place.0)) _ four x_way (ap signed_decimal x) in
    let six = one_more out _ c.push_length-2.new.out.items (decimal node ∷ decimal place.0 ∷ decimal place.1 ∷ decimal place.2 ∷ signed_decimal (coordinate frame.ox frame.dx place.0) ∷ []) (signed_decimal (coordinate frame.oy frame.dy place.1)) _ five y_way (ap signed_decimal y) in
    let words : ℕ × ℕ × ℕ → List (List ℕ) = λ p.
    decimal node ∷ decimal p.0 ∷ decimal p.1 ∷ decimal p.2 ∷ signed_decimal (coordinate frame.ox frame.dx p.0) ∷ signed_decimal (coordinate frame.oy frame.dy p.1)
    ∷ signed_decimal (coordinate frame.oz frame.dz p.2) ∷ [] in
    on_ok_weaker c.push_length-3.result
    (λ (last : c.push_length-3.new.out.items ≡ c.push_length-2.new.out.items ++ 32 ∷ signed_decimal c.coordinate-3.result).
    one_more out _ c.push_length-3.new.out.items (decimal node ∷ decimal place.0 ∷ decimal place.1 ∷ decimal place.2 ∷ signed_decimal (coordinate frame.ox frame.dx place.0) ∷ signed_decimal (coordinate frame.oy frame.dy place.1) ∷ []) (signed_decimal (coordinate frame.oz frame.dz place.2)) _ six last (ap signed_decimal z)
    ∙ ap (λ p. out ++ spaced (words p)) c.place-ix.ensures.value)
    z_way
