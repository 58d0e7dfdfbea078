use Rattle.std.proofs.Common.{rules, ◌≡◌, ◌<◌, length, get_or, SFits, w64}
use Rattle.std.proofs.lemmas.Int.{to_z-of_z}
use Rattle.edt_score.specs.Inside.Families.{no_pick}
use Rattle.edt_score.proofs.FamilyEnds.{ends_more}
use Rattle.edt_score.proofs.family.fill_ends.Goals as goal

pub loop-i-preserved : goal.loop-i-preserved
loop-i-preserved c =
    let start_fits : SFits w64 c.args.start = search rules in
    let time_fits : SFits w64 (get_or c.args.picks.now c.loop-i.i no_pick).time = search rules in
    let room : length c.loop-i.ends ≡ length c.args.picks.now = c.loop-i.invariant.room in
    let within : c.loop-i.i < length c.loop-i.ends = search rules in
    record {
      room = search rules;
      done = simp to_z-of_z (ends_more c.args.start c.args.picks.now c.args.places.now c.args.spans.now c.loop-i.ends c.loop-i.i c.eight_ends.result
          within (simp to_z-of_z at c.eight_ends.ensures) (simp to_z-of_z at c.loop-i.invariant.done));
    }
