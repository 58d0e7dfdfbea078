use Rattle.std.proofs.Common.{rules, arith, ◌≡◌, ◌∙◌, ap, length, get_or, pos, SFits, w64}
use Rattle.std.proofs.lemmas.Int.{to_z-of_z}
use Rattle.std.proofs.lemmas.List.{length-map}
use Rattle.kernel_table.specs.Falloff.{shape_of}
use Rattle.edt_score.specs.declared.problem.ProblemPick.{ProblemPick}
use Rattle.edt_score.specs.Field.{time_at}
use Rattle.edt_score.specs.Inside.Ends.{point}
use Rattle.edt_score.specs.Inside.Domination.{bound_by-times}
use Rattle.edt_score.proofs.EndTotals.{length-pairs_of, table_total-bound}
use Rattle.edt_score.proofs.Readable.{IsNear-points, IsReadable-picks}
use Rattle.edt_score.proofs.RowTotals.{pair_count-le}
use Rattle.edt_score.proofs.scorer.Scorer.score.Goals as goal

none : ProblemPick
none = record { time = pos 0; weight = 0; variance = 0; row = 0 }

pub fill_points-requires-clause-picks : goal.fill_points-requires-clause-picks
unfolding none
fill_points-requires-clause-picks g c =
    let start_fits : SFits w64 (get_or c.as_slice-picks.result.now 0 none).time = search rules in
    simp to_z-of_z (rw c.as_slice-picks.ensures.value (IsReadable-picks c.args.self.now.field.now c.args.self.now.problem.now none c.args.self.now.valid))

pub total-requires-clause-lengths : goal.total-requires-clause-lengths
total-requires-clause-lengths g c =
    rw (c.args.self.now.pairs_kept, c.fill_points.ensures, c.as_slice-picks.ensures.value)
    (simp length-map (length-pairs_of c.args.self.now.problem.now.picks.items))

pub returns-clause-value : goal.returns-clause-value
unfolding none
returns-clause-value g c =
    let field = c.args.self.now.field.now in
    let problem = c.args.self.now.problem.now in
    let shape = shape_of c.args.self.now.falloff.now in
    let start_fits : SFits w64 (get_or c.as_slice-picks.result.now 0 none).time = search rules in
    let ends = rw c.as_slice-picks.ensures.value at simp to_z-of_z at c.fill_points.ensures in
    let start = (get_or problem.picks.items 0 none).time in
    let near = IsNear-points field start c.args.node problem.picks.items c.rows-rows.ensures.field c.requires.node
    (IsReadable-picks field problem none c.args.self.now.valid) in
    c.total.ensures.value ∙ rw (c.args.self.now.pairs_kept, ends)
    (table_total-bound shape start (point (time_at field) c.args.node) problem.picks.items near)
    ∙ bound_by-times shape (time_at field) problem.picks.items c.args.node

pub returns-clause-bound : goal.returns-clause-bound
returns-clause-bound g c =
    let few = pair_count-le (length c.args.self.now.problem.now.picks.items) c.args.self.now.valid.few in
    let pairs : length c.args.self.now.pairs.items ≡ _ = ap length c.args.self.now.pairs_kept ∙ length-pairs_of c.args.self.now.problem.now.picks.items in
    let bound = c.total.ensures.bound in
    omega arith
