use Rattle.std.proofs.Common.{◌≡◌, sym, ◌∙◌}
use Rattle.station_table.specs.Keys.{same_key}
use Rattle.station_table.proofs.KeyLaws.{same_key-is, same_key-equal}
use Rattle.station_table.proofs.keys.are_same_keys.Goals as goal

pub returns-clause-equal : goal.returns-clause-equal
returns-clause-equal c =
    let a = c.args.a.now in
    let b = c.args.b.now in
    let is : c.eq.result ≡ same_key a b = c.eq.ensures in
    (λ e. same_key-is a b (sym is ∙ e), λ e. is ∙ same_key-equal a b e)
