use Rattle.std.proofs.Common.{rules, SFits, w64, sym}
use Rattle.std.proofs.lemmas.Int.{to_z-of_z}
use Rattle.origin_time.proofs.Functions.{origin_is}
use Rattle.location_report.proofs.locating.time_of.Goals as goal

pub returns-in-Ok-clause-value : goal.returns-in-Ok-clause-value
returns-in-Ok-clause-value c =
    let fits : SFits w64 c.in-Ok.time = search rules in
    simp to_z-of_z (sym (origin_is c.args.items.now c.in-Ok.time c.in-Ok.ensures.value))

pub returns-in-Ok-clause-is : goal.returns-in-Ok-clause-is
returns-in-Ok-clause-is c =
    let fits : SFits w64 c.in-Ok.time = search rules in
    simp to_z-of_z c.in-Ok.ensures.value
