use Rattle.std.proofs.Common.{rules, ◌≡◌, ◌<◌, ◌∙◌, ap, sym, length, get_or}
use Rattle.cover_checker.specs.Inside.Cases.{case_grid, case_picks, case_scoring}
use Rattle.cover_checker.proofs.Searches.{no_box}
use Rattle.cover_checker.proofs.VerdictSteps.{is_wrong, looks_left, not_wrong, place_miss}
use Rattle.cover_checker.proofs.passes.first_wrong.Goals as goal

pub loop-i-preserved : goal.loop-i-preserved
loop-i-preserved g c =
    let case = c.args.case.now in
    let before = c.loop-i.invariant in
    let boxes = c.args.boxes.now in
    let i = c.loop-i.i in
    let b = get_or boxes i no_box in
    let scoring = case_scoring case (g.L.Look.times c.args.look.now) in
    let below : i < length boxes = search rules in
    let same : c.box_bound.result ≡ b.bound = search rules in
    let told : c.box_bound.result ≡ scoring.bound b.area = c.box_bound.ensures.value ∙ ap (λ times. (case_scoring case times).bound b.area) before.times in
    record {
      picks = c.box_bound.ensures.same_picks ∙ before.picks;
      nodes = c.box_bound.ensures.same_nodes ∙ before.nodes;
      times = c.box_bound.ensures.same_times ∙ before.times;
      count = looks_left (case_grid case) (length (case_picks case)) boxes i (g.L.Look.count c.loop-i.look) (g.L.Look.count c.box_bound.new.look) _ below
          c.box_bound.ensures.looked before.count;
      room = c.box_bound.ensures.pairs ∙ before.room;
      left = place_miss (is_wrong scoring) boxes i no_box below (not_wrong scoring b (sym same ∙ told)) ∙ before.left;
    }
