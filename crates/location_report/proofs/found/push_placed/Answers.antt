use Rattle.std.proofs.Common.{◌≡◌, ◌∙◌, ◌++◌, [], ◌∷◌, ap, sym, get_or, length, map, ℤ, ℕ, pos, ◌<◌, ◌≤◌, arith}
use Rattle.std.specs.Prelude.{zip}
use Rattle.std.proofs.lemmas.List.{get_or_default, length-map, take_all}
use Rattle.cover_certificate.specs.BlockLines.{text_of_lines}
use Rattle.location_report.specs.Blocks.{residual_word}
use Rattle.location_report.specs.Lines.{pick_line}
use Rattle.location_report.proofs.ListLaws.{line_more, pair_at, zip_length}
use Rattle.location_report.proofs.found.push_placed.Goals as goal

pub loop-i-preserved : goal.loop-i-preserved
loop-i-preserved c =
    let r : ℤ × ℕ = get_or c.args.residuals.now c.loop-i.i (pos 0, 0) in
    let below = c.loop-i-test.true in
    let within : c.loop-i.i < length c.args.residuals.now = omega (arith, below, c.requires) in
    let count : length (zip c.args.picks.now (map residual_word c.args.residuals.now)) ≡ length c.args.picks.now =
    zip_length c.args.picks.now (map residual_word c.args.residuals.now) (length-map c.args.residuals.now residual_word ∙ c.requires) in
    let pair = pair_at residual_word c.args.picks.now c.args.residuals.now c.loop-i.i c.index-picks-i.result r below c.requires c.index-picks-i.is
    (get_or_default c.args.residuals.now c.loop-i.i (pos 0, 0) r within) in
    record {
      appended = line_more pick_line (zip c.args.picks.now (map residual_word c.args.residuals.now)) c.loop-i.i (c.index-picks-i.result, residual_word r)
          c.args.out.now.items c.loop-i.out.items c.push_placed_pick.new.out.items (omega (arith, below, count)) c.loop-i.invariant.appended
          (c.in_ok-push_placed_pick.ensures ∙ ap (λ p. c.loop-i.out.items ++ text_of_lines (pick_line p ∷ [])) (sym pair));
    }

pub returns : goal.returns
returns c =
    let count : length (zip c.args.picks.now (map residual_word c.args.residuals.now)) ≡ length c.args.picks.now =
    zip_length c.args.picks.now (map residual_word c.args.residuals.now) (length-map c.args.residuals.now residual_word ∙ c.requires) in
    let all : length (zip c.args.picks.now (map residual_word c.args.residuals.now)) ≤ c.loop-i.i = omega (arith, count, c.loop-i-test.false) in
    rw (take_all c.loop-i.i (zip c.args.picks.now (map residual_word c.args.residuals.now)) all) at c.loop-i.invariant.appended
