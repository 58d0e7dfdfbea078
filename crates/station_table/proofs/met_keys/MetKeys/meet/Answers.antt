use Rattle.std.proofs.Common.{ℕ, Bool, true, map, set, refl, ap, ◌∙◌}
use Rattle.std.specs.Prelude.{◌==◌}
use Rattle.std.proofs.lemmas.Bool.{eq-eqb}
use Rattle.std.proofs.lemmas.List.{map-set}
use Rattle.station_table.proofs.met_keys.MetKeys.meet.Goals as goal

pub returns-clause-after : goal.returns-clause-after
returns-clause-after c =
    let now = c.self.inside.now in
    let stamps = c.self.inside.stamps.items in
    let place = c.args.place in
    let test : ℕ → Bool = λ stamp. stamp == now in
    map-set test stamps place c.replace.new.dest
    ∙ ap (set (map test stamps) place) (ap test c.replace.ensures.after ∙ eq-eqb now now refl)
    ∙ ap (λ met. set met place true) c.self.view_is
