use Rattle.std.proofs.Common.{ap, ◌∙◌}
use Rattle.std.specs.Prelude.{unsigned_abs}
use Rattle.station_table.specs.Using.{usable_count}
use Rattle.station_table.proofs.UsingLaws.{first_ones, used_are_first, beyond_is_full}
use Rattle.station_table.proofs.laws.first_ones_are_used.Goals as goal

pub returns-clause-used : goal.returns-clause-used
returns-clause-used c control keys places picks limited =
    used_are_first control keys places picks ∙ ap (λ b. first_ones b (unsigned_abs control.max_phases) (usable_count control keys places picks)) limited

pub returns-clause-beyond : goal.returns-clause-beyond
returns-clause-beyond c = beyond_is_full
