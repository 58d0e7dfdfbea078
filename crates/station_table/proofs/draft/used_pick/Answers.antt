use Rattle.std.proofs.Common.{◌≡◌, w64, to_z, of_z, ◌∙◌, arith}
use Rattle.std.specs.Prelude.{◌-ℤ◌}
use Rattle.std.proofs.lemmas.Int.{ints}
use Rattle.control_reader.specs.ControlValues.{values_of}
use Rattle.station_table.specs.Using.{used_pick_at, delay_for}
use Rattle.station_table.proofs.ReasonLaws.{weight_above, error_within}
use Rattle.station_table.proofs.draft.used_pick.Goals as goal

pub weight_of-requires : goal.weight_of-requires
weight_of-requires c = weight_above (values_of c.args.control.now) c.args.named.now.pick.now c.requires.good

pub variance_of-requires-clause-error : goal.variance_of-requires-clause-error
variance_of-requires-clause-error c = error_within (values_of c.args.control.now) c.args.named.now.pick.now c.requires.good

pub returns : goal.returns
unfolding used_pick_at
returns c =
    let control = values_of c.args.control.now in
    let time = c.args.named.now.pick.now.time in
    let delay = c.delay_of.result in
    let fits : to_z w64 (of_z w64 (to_z w64 (of_z w64 time) -ℤ to_z w64 (of_z w64 delay))) ≡ time -ℤ delay =
    omega (arith, ints, c.delay_of.ensures.limit, c.requires.pick.time) in
    let delay_is : delay ≡ delay_for control _ _ = c.delay_of.ensures.value ∙ (λ j. delay_for control (c.requires.named.station j) (c.requires.named.phase j)) in
    λ j. record {
      line = c.args.named.now.pick.now.line;
      station = (c.in_ok-copy.ensures ∙ c.requires.named.station) j;
      phase = (c.in_ok-copy-2.ensures ∙ c.requires.named.phase) j;
      time = (fits ∙ (λ i. time -ℤ delay_is i)) j;
      weight = c.weight_of.ensures j;
      variance = c.variance_of.ensures j;
      key = c.args.place;
    }
