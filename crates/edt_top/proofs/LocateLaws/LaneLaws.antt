-- What lanes do for an event, as its block tells it.
use Rattle.std.proofs.Common.{◌≡◌, ◌≤◌, ℕ, arith, false, List, None, length, refl, sym, ◌∙◌, ap}
use Rattle.std.specs.Prelude.{count_by, nat_lt}
use Rattle.std.proofs.lemmas.Bool.Decides.{nat_tests}
use Rattle.std.proofs.lemmas.List.Sums.{length-filter}
use Rattle.kernel_table.specs.declared.stored.Falloff.{Falloff}
use Rattle.kernel_table.specs.declared.kernels.Shape.{Shape}
use Rattle.kernel_table.specs.Falloff.{shape_of}
use Rattle.edt_score.specs.BoxBound.{box_bound}
use Rattle.edt_score.specs.Field.{FieldTimes}
use Rattle.edt_score.specs.Scorer.{IsSameScorer, area_bound, falloff_of, field_of, problem_of}
use Rattle.control_reader.specs.ControlValues.{ControlValues}
use Rattle.edt_score.specs.declared.problem.Problem.{Problem}
use Rattle.edt_score.specs.declared.problem.ProblemPick.{ProblemPick}
use Rattle.edt_score.specs.declared.scorer.Scorer.{Scorer}
use Rattle.search_lanes.specs.declared.lane_events.LaneEvent.{LaneEvent}
use Rattle.search_lanes.specs.LaneRuns.{is_loss, losses}
use Rattle.event_assembly.specs.AssemblyValues.{EventCase, Ready}
use Rattle.location_report.specs.Lines.{LaneValues}
use Rattle.location_report.specs.Texts.{lanes_after, lanes_of_case}

-- the bound of a judge that was made from a scorer is that of the scorer's field, problem and kernel
pub judge_bound : {F : Type 0} (judged made : Scorer F) (field : FieldTimes) (problem : Problem) (falloff : Falloff F) (shape : Shape) → IsSameScorer made judged
    → field_of made ≡ field → problem_of made ≡ problem → falloff_of made ≡ falloff → shape_of falloff ≡ shape
    → area_bound judged ≡ box_bound shape field problem.picks.items
judge_bound judged made field problem falloff shape same field_is problem_is falloff_is shape_is =
    let shapes : shape_of (falloff_of judged) ≡ shape = ap shape_of (same.falloff ∙ falloff_is) ∙ shape_is in
    let fields : field_of judged ≡ field = same.field ∙ field_is in
    let problems : problem_of judged ≡ problem = same.problem ∙ problem_is in
    λ i. box_bound (shapes i) (fields i) (ap (λ (p : Problem). p.picks.items) problems i)

-- a count of lanes, of their events, and of those that lose a lane
abbrev pub count_values : ℕ → ℕ → ℕ → LaneValues
count_values lanes events lost = record { lanes = lanes; events = events; lost = lost }

pub events_told : (lanes count lost : ℕ) (events given : List LaneEvent) → count ≡ length events → lost ≡ count_by is_loss events → events ≡ given
    → count_values lanes count lost ≡ lanes_after lanes given
unfolding losses
events_told lanes count lost events given counted lost_is is = λ i. record {
  lanes = lanes;
  events = (counted ∙ ap length is) i;
  lost = (lost_is ∙ ap (count_by is_loss) is ∙ sym (length-filter is_loss given)) i;
}

-- where one lane searches, nothing is told of lanes
pub one_lane : (control : ControlValues) (field : FieldTimes) (case : EventCase) (picks : List ProblemPick) → case ≡ Ready picks
    → control.lanes ≤ 1 → None ≡ lanes_of_case control field case
one_lane control field case picks ready few =
    let one : nat_lt 1 control.lanes ≡ false = grind (arith, nat_tests) in
    sym (ap (lanes_of_case control field) ready ∙ rw one refl)
