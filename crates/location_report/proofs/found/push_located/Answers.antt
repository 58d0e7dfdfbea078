use Rattle.std.proofs.Common.{◌≡◌, ◌++◌, [], ◌∷◌, map}
use Rattle.std.specs.Prelude.{zip}
use Rattle.cover_certificate.specs.BlockLines.{text_of_lines}
use Rattle.origin_time.specs.RootMeanSquare.{rms_of}
use Rattle.location_report.specs.Blocks.{origin_at, residual_words, residuals_at}
use Rattle.location_report.specs.Lines.{hypocentre_line, met_line, origin_line, pick_line, rms_line, skip_line}
use Rattle.location_report.proofs.ListLaws.{four_texts}
use Rattle.location_report.proofs.LocatingLaws.{timed}
use Rattle.location_report.proofs.found.push_located.Goals as goal

pub of-requires-clause-times : goal.of-requires-clause-times
of-requires-clause-times c =
    let ready = rw c.in-Ready.is at c.requires.event.prepared.case in
    timed c.args.event.now.picks.used.items c.in-Ready.problem.picks.items c.requires.event.prepared.times ready.measures

pub returns : goal.returns
returns c =
    let one : c.push_placed.new.out.items ≡ c.args.out.now.items ++ text_of_lines (map pick_line (zip c.args.event.now.picks.used.items
    (residual_words c.args.assembly.now.field c.args.located.now.hyp c.in-Ready.problem.picks.items))) =
    rw (c.deref.ensures.value, c.deref-2.ensures.value, c.in_ok-origin.ensures.residuals) at c.in_ok-push_placed.ensures in
    let two : c.push_skips.new.out.items ≡ c.push_placed.new.out.items ++ text_of_lines (map skip_line c.args.event.now.picks.skipped.items) =
    rw c.deref-3.ensures.value at c.in_ok-push_skips.ensures in
    let three : c.push_place_and_time.new.out.items ≡ c.push_skips.new.out.items ++ text_of_lines (
    hypocentre_line c.args.assembly.now.frame c.args.located.now.hyp
    ∷ origin_line (origin_at c.args.assembly.now.field c.args.located.now.hyp c.in-Ready.problem.picks.items)
    ∷ rms_line (rms_of (residuals_at c.args.assembly.now.field c.args.located.now.hyp c.in-Ready.problem.picks.items))
    ∷ []) =
    rw (c.in_ok-origin.ensures.time, c.in_ok-origin.ensures.rms) at c.in_ok-push_place_and_time.ensures in
    rw c.in-Ready.is (four_texts
    (map pick_line (zip c.args.event.now.picks.used.items
    (residual_words c.args.assembly.now.field c.args.located.now.hyp c.in-Ready.problem.picks.items)))
    (map skip_line c.args.event.now.picks.skipped.items)
    (hypocentre_line c.args.assembly.now.frame c.args.located.now.hyp
    ∷ origin_line (origin_at c.args.assembly.now.field c.args.located.now.hyp c.in-Ready.problem.picks.items)
    ∷ rms_line (rms_of (residuals_at c.args.assembly.now.field c.args.located.now.hyp c.in-Ready.problem.picks.items))
    ∷ [])
    (met_line c.args.located.now.met ∷ []) c.args.out.now.items c.push_placed.new.out.items c.push_skips.new.out.items
    c.push_place_and_time.new.out.items c.push_met.new.out.items one two three c.in_ok-push_met.ensures)
