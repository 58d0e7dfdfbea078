use Rattle.std.proofs.Common.{◌≡◌, ◌<◌, false, All, length, replicate, sym, subst, ap, ◌∙◌, arith}
use Rattle.std.proofs.lemmas.List.{length-replicate}
use Rattle.std.proofs.lemmas.List.Elements.{All-replicate}
use Rattle.station_table.proofs.StampLaws.{none_now}
use Rattle.station_table.proofs.met_keys.MetKeys.new.Goals as goal

pub returns : goal.returns
returns c =
    let stamps = c.in_ok-vec.field-0.items in
    let keys = c.args.keys in
    let all : stamps ≡ replicate keys 0 = c.in_ok-vec.ensures.items_if_clones_equal (λ y e. e) in
    let before : All (λ stamp. stamp < 1) stamps = subst (All (λ stamp. stamp < 1)) (sym all) (All-replicate (λ stamp. stamp < 1) keys 0 (omega arith)) in
    none_now 1 stamps before ∙ ap (λ n. replicate n false) (ap length all ∙ length-replicate keys 0)
