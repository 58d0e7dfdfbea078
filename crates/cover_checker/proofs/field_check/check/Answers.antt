use Rattle.std.proofs.Common.{◌∙◌, ap, sym}
use Rattle.kernel_table.specs.Falloff.{shape_of}
use Rattle.edt_score.specs.declared.problem.Problem.{Problem}
use Rattle.edt_score.specs.Field.{FieldTimes, time_at}
use Rattle.edt_score.specs.Look.{look_field, look_problem}
use Rattle.edt_score.specs.Scorer.{falloff_of, field_of, problem_of}
use Rattle.cover_certificate.specs.Blocks.{block_value}
use Rattle.cover_checker.specs.Scorings.{field_scoring}
use Rattle.cover_checker.proofs.BoundLaws.{bounds_are}
use Rattle.cover_checker.proofs.ExactLaws.{proves_from}
use Rattle.cover_checker.proofs.FieldSteps.{verdict_told}
use Rattle.cover_checker.proofs.ProofLaws.{true_of}
use Rattle.cover_checker.proofs.field_check.check.Goals as goal

pub returns-clause-value : goal.returns-clause-value
returns-clause-value g c =
    let scorer = c.args.scorer.now in
    verdict_told (shape_of (falloff_of scorer)) (shape_of c.falloff.result.now) (field_of scorer) (look_field c.new-look.result) c.grid-grid.result.now
    (problem_of scorer).picks.items (look_problem c.new-look.result).picks.items c.problem-2.result.now.picks.items c.args.margin (block_value c.args.block.now)
    c.check_look.result
    (ap shape_of c.falloff.ensures) (c.new-look.ensures.field ∙ c.field.ensures)
    (c.grid-grid.ensures.value ∙ ap (λ (f : FieldTimes). f.grid) c.field-2.ensures)
    (ap (λ (p : Problem). p.picks.items) (c.new-look.ensures.problem ∙ c.problem.ensures)) (ap (λ (p : Problem). p.picks.items) c.problem-2.ensures)
    c.check_look.ensures.value

pub returns-clause-proved : goal.returns-clause-proved
returns-clause-proved g c proved =
    let scorer = c.args.scorer.now in
    let shape = shape_of (falloff_of scorer) in
    let field = field_of scorer in
    let picks = (problem_of scorer).picks.items in
    let told = verdict_told (shape_of (falloff_of scorer)) (shape_of c.falloff.result.now) (field_of scorer) (look_field c.new-look.result) c.grid-grid.result.now
    (problem_of scorer).picks.items (look_problem c.new-look.result).picks.items c.problem-2.result.now.picks.items c.args.margin (block_value c.args.block.now)
    c.check_look.result
    (ap shape_of c.falloff.ensures) (c.new-look.ensures.field ∙ c.field.ensures)
    (c.grid-grid.ensures.value ∙ ap (λ (f : FieldTimes). f.grid) c.field-2.ensures)
    (ap (λ (p : Problem). p.picks.items) (c.new-look.ensures.problem ∙ c.problem.ensures)) (ap (λ (p : Problem). p.picks.items) c.problem-2.ensures)
    c.check_look.ensures.value in
    true_of (field_scoring shape field picks) c.args.margin (block_value c.args.block.now) (bounds_are shape field.grid (time_at field) picks) c.requires.block
    (proves_from (field_scoring shape field picks) c.args.margin (block_value c.args.block.now) (sym told ∙ proved))
