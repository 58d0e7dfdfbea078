use Rattle.std.proofs.Common.{rules, ◌∙◌, ap, sym, map, length, get_or, SFits, w64}
use Rattle.std.proofs.lemmas.Int.{to_z-of_z}
use Rattle.std.proofs.lemmas.List.{length-map}
use Rattle.kernel_table.specs.Falloff.{shape_of}
use Rattle.edt_score.specs.KeptPairs.{span_at}
use Rattle.edt_score.specs.Look.{numbered}
use Rattle.edt_score.specs.Inside.Ends.{ends_of, table_total}
use Rattle.edt_score.specs.Inside.Families.{no_pick}
use Rattle.edt_score.proofs.EndTotals.{pairs-counted, table_total-bound}
use Rattle.edt_score.proofs.NumberedPicks.{IsNear-numbered, length-numbered_from, near-first, pairs_of-numbered}
use Rattle.edt_score.proofs.kept_pairs.spans_total.Goals as goal

pub fill_spans-requires-clause-close : goal.fill_spans-requires-clause-close
fill_spans-requires-clause-close g c =
    let start_fits : SFits w64 (get_or c.args.picks.now 0 no_pick).time = search rules in
    simp to_z-of_z (near-first c.args.picks.now no_pick c.requires.picks.times)

pub falloff_total-requires-clause-lengths : goal.falloff_total-requires-clause-lengths
falloff_total-requires-clause-lengths g c =
    let picks = c.args.picks.now in
    pairs-counted picks c.args.pairs.now c.fill_spans.new.ends c.requires.pairs
    (ap length c.fill_spans.ensures ∙ simp length-map (length-numbered_from 0 picks))

pub returns-clause-value : goal.returns-clause-value
returns-clause-value g c =
    let picks = c.args.picks.now in
    let spans = c.args.spans.now in
    let start = (get_or picks 0 no_pick).time in
    let start_fits : SFits w64 (get_or c.args.picks.now 0 no_pick).time = search rules in
    let shape = shape_of c.args.falloff.now in
    let ends = simp to_z-of_z at c.fill_spans.ensures in
    let near = IsNear-numbered start spans picks (near-first picks no_pick c.requires.picks.times) c.requires.one_a_pick c.requires.spans in
    c.falloff_total.ensures.value
    ∙ ap (λ es. table_total shape es c.args.pairs.now) ends
    ∙ ap (table_total shape (map (ends_of start (span_at spans)) (numbered picks))) (c.requires.pairs ∙ sym (pairs_of-numbered 0 picks))
    ∙ table_total-bound shape start (span_at spans) (numbered picks) near
