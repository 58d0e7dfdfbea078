use Rattle.std.proofs.Common.{◌≡◌, ◌∙◌, ℕ, ◌+◌, ◌*◌, ◌-◌, ◌%◌, All, ap, sym, subst, rules, arith, map, pos, w64, SFits, to_z, of_z}
use Rattle.std.specs.List.{range_with_len}
use Rattle.std.proofs.lemmas.Int.{to_z-of_z}
use Rattle.std.proofs.lemmas.List.Elements.{All-push}
use Rattle.edt_score.specs.Demo.{draw, draw_at, next_state, stations}
use Rattle.edt_score.specs.Inside.DemoParts.{IsEarlyPick, pick_from}
use Rattle.edt_score.proofs.DemoDraws.{no_draws, one_draw}
use Rattle.edt_score.proofs.DemoLists.{one_more}
use Rattle.edt_score.proofs.DemoPicks.{pick_early, pick_is}
use Rattle.edt_score.proofs.demo.draw_picks.Goals as goal

pub loop-row-init : goal.loop-row-init
loop-row-init c = record {
  picks = c.in_ok-picks.ensures.items;
  early = subst (All (IsEarlyPick c.args.field.now)) (sym c.in_ok-picks.ensures.items) (λ k d lt. absurd (omega arith));
  state = sym (no_draws c.args.state.now);
}

pub loop-row-preserved : goal.loop-row-preserved
loop-row-preserved c =
    let field = c.args.field.now in
    let state : ℕ = c.args.state.now in
    let row : ℕ = c.loop-row.row in
    let noise : c.draw_below-noise.result ≡ draw_at state row % (1000 * (c.args.side - 1) + 1) =
    c.draw_below-noise.ensures.answer ∙ ap (λ s. draw s % (1000 * (c.args.side - 1) + 1)) c.loop-row.invariant.state in
    let fits : SFits w64 c.from.result = search rules in
    let sum : to_z w64 (of_z w64 c.from.result) ≡ pos (c.time.result + c.draw_below-noise.result) = to_z-of_z w64 c.from.result fits ∙ c.from.ensures in
    record {
      picks = one_more (pick_from field c.args.source c.args.side state) row c.loop-row.picks.items _ _ c.loop-row.invariant.picks c.in_ok-push.ensures.items
          (pick_is field c.args.source c.args.side state row _ c.time.result c.draw_below-noise.result sum c.time.ensures.value noise);
      early = subst (All (IsEarlyPick field)) (sym c.in_ok-push.ensures.items)
          (All-push (IsEarlyPick field) c.loop-row.picks.items _ c.loop-row.invariant.early
          (pick_early field row _ c.time.result c.draw_below-noise.result sum c.time.ensures.limit (omega (arith, c.draw_below-noise.ensures.below, c.requires.few)) (omega (arith, c.requires.rows))));
      state = c.draw_below-noise.ensures.state ∙ (ap next_state c.loop-row.invariant.state ∙ one_draw state row);
    }

pub returns-clause-picks : goal.returns-clause-picks
unfolding stations
returns-clause-picks c =
    let all : c.loop-row.row ≡ 12 = omega arith in
    c.loop-row.invariant.picks ∙ ap (λ n. map (pick_from c.args.field.now c.args.source c.args.side c.args.state.now) (range_with_len 0 n)) all
