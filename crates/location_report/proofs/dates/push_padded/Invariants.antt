use Rattle.std.proofs.Common.{◌≡◌, ◌++◌, replicate}
use Rattle.location_report.proofs.dates.push_padded.Given as goal

abbrev pub invariant-loop : goal.invariant-loop
invariant-loop l = record {
  zeros : l.out.items ≡ l.initial.out.items ++ replicate l.counter 48;
}
