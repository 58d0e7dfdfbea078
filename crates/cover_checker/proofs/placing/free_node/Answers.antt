use Rattle.std.proofs.Common.{◌∙◌, ap}
use Rattle.std.specs.Prelude.{option_map}
use Rattle.cover_checker.specs.declared.verdict.Verdict.TheVariants.{Uncovered}
use Rattle.cover_checker.proofs.CoverLaws.{zero_uncovered}
use Rattle.cover_checker.proofs.placing.free_node.Goals as goal

pub returns-in_default : goal.returns-in_default
returns-in_default c =
    ap (option_map Uncovered) c.in_default.ensures
    ∙ zero_uncovered c.args.grid.now c.args.boxes.now c.args.marks.now c.requires.marks c.requires.marked

pub returns : goal.returns
returns c =
    ap (option_map Uncovered) c.in-Some.ensures
    ∙ zero_uncovered c.args.grid.now c.args.boxes.now c.args.marks.now c.requires.marks c.requires.marked
