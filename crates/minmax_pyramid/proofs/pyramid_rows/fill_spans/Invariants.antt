use Rattle.minmax_pyramid.specs.Spans.{span_of, time_in}
use Rattle.minmax_pyramid.proofs.FamilySteps.{IsFilled}
use Rattle.minmax_pyramid.proofs.pyramid_rows.fill_spans.Given as goal

abbrev pub invariant-loop-place : goal.invariant-loop-place
invariant-loop-place l = IsFilled (span_of l.grid (time_in l.times)) l.children l.spans l.place
