use Rattle.std.proofs.Common.{◌∙◌, ap, sym}
use Rattle.cover_certificate.specs.Blocks.{FitsNowhere, block_value}
use Rattle.cover_checker.specs.Inside.Cases.{case_scoring}
use Rattle.cover_checker.specs.Verdicts.{verdict_of}
use Rattle.cover_checker.proofs.look_check.check_block.Goals as goal

pub returns-in-NoFit-clause-value : goal.returns-in-NoFit-clause-value
returns-in-NoFit-clause-value g c =
    let scoring = case_scoring c.args.case.now (g.L.Look.times c.args.look.now) in
    c.check_no_fit.ensures.value c.args.margin
    ∙ ap (λ boxes. verdict_of scoring c.args.margin (FitsNowhere boxes)) c.deref.ensures.value
    ∙ ap (λ block. verdict_of scoring c.args.margin (block_value block)) (sym c.in-NoFit.is)
