use Rattle.std.proofs.Common.{◌≡◌, ◌<◌, ◌∷◌, [], ◌++◌, length, get_or, sym, ◌∙◌, ap, arith}
use Rattle.std.proofs.lemmas.List.{take_more, get_or-map, length-map}
use Rattle.station_table.specs.declared.keys.GridKey.{GridKey}
use Rattle.station_table.specs.Inside.KeyWords.{as_key}
use Rattle.station_table.proofs.key_index.KeyIndex.to_keys.Goals as goal

pub loop-words-preserved : goal.loop-words-preserved
loop-words-preserved c =
    let keys = c.args.self.now in
    let i = c.loop-words.words-index in
    let words = c.self.inside.words.keys in
    let item = c.words-item.result in
    let key : GridKey = c.in_ok-to_key.field-0 in
    let all = c.as_slice-words-items.ensures.keys in
    let below : i < length words = omega (arith, ap length all) in
    let within : i < length keys = omega (arith, ap length c.self.view_is, length-map words as_key) in
    let here : item ≡ get_or words i item = c.words-item.is ∙ ap (λ ws. get_or ws i item) all in
    let at : key ≡ get_or keys i key =
    c.in_ok-to_key.ensures ∙ ap as_key here ∙ sym (get_or-map as_key words i item key below) ∙ ap (λ ks. get_or ks i key) c.self.view_is in
    c.in_ok-push.ensures.items ∙ (λ j. c.loop-words.invariant j ++ at j ∷ []) ∙ sym (take_more keys i key within)
