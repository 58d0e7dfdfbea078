use Rattle.std.proofs.Common.{◌≡◌, false, length, map, replicate, ap, ◌∙◌, arith}
use Rattle.std.specs.Prelude.{◌==◌}
use Rattle.std.specs.Vec.{with_items}
use Rattle.std.proofs.lemmas.List.{length-map, with_items_is}
use Rattle.station_table.proofs.StampLaws.{none_now}
use Rattle.station_table.proofs.met_keys.MetKeys.forget.Goals as goal

pub returns : goal.returns
returns c =
    let stamps = c.next_stamp-self-inside.new.stamps in
    let next = c.next_stamp-self-inside.ensures in
    let inside = c.self.inside in
    let before = ap length c.deref_mut.ensures.value in
    let seen = length-map inside.stamps.items (λ stamp. stamp == inside.now) in
    let long : length stamps ≡ length c.args.self.now = omega (arith, next.one_each, before, seen, ap length c.self.view_is) in
    let held : (with_items inside.stamps stamps).items ≡ stamps = with_items_is inside.stamps stamps (omega (arith, next.one_each, c.deref_mut.ensures.len)) in
    ap (map (λ stamp. stamp == c.next_stamp-self-inside.result)) held ∙ none_now c.next_stamp-self-inside.result stamps next.later ∙ ap (λ n. replicate n false) long
