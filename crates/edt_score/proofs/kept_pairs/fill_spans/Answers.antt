use Rattle.std.proofs.Common.{rules, ◌≡◌, ◌<◌, ◌≤◌, length, get_or, SFits, w64}
use Rattle.std.proofs.lemmas.Int.{to_z-of_z}
use Rattle.edt_score.specs.Inside.Families.{no_pick}
use Rattle.edt_score.proofs.NumberedPicks.{fill_all, fill_more}
use Rattle.edt_score.proofs.kept_pairs.fill_spans.Goals as goal

pub loop-i-preserved : goal.loop-i-preserved
loop-i-preserved c =
    let start_fits : SFits w64 c.args.start = search rules in
    let time_fits : SFits w64 (get_or c.args.picks.now c.loop-i.i no_pick).time = search rules in
    let within : c.loop-i.i < length c.args.picks.now = search rules in
    let long : length c.loop-i.ends ≡ length c.args.picks.now = search rules in
    simp to_z-of_z (fill_more c.args.start c.args.spans.now c.args.picks.now c.loop-i.ends c.loop-i.i c.ends_within.result no_pick
    within long (simp to_z-of_z at c.ends_within.ensures) (simp to_z-of_z at c.loop-i.invariant))

pub returns : goal.returns
returns c =
    let start_fits : SFits w64 c.args.start = search rules in
    let past_ends : length c.loop-i.ends ≤ c.loop-i.i = search rules in
    let past_picks : length c.args.picks.now ≤ c.loop-i.i = search rules in
    fill_all c.args.start c.args.spans.now c.args.picks.now c.loop-i.ends c.loop-i.i past_ends past_picks (simp to_z-of_z at c.loop-i.invariant)
