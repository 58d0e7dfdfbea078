use Rattle.std.proofs.Common.{◌≡◌, Bool, true, false, refl, sym, ◌∙◌, ap, map}
use Rattle.std.specs.List.{list_any, position}
use Rattle.station_table.specs.Keys.{same_key, key_place}
use Rattle.station_table.specs.Inside.KeyWords.{as_key}
use Rattle.station_table.specs.declared.key_words.KeyWords.{KeyWords}
use Rattle.station_table.proofs.KeyLaws.{any_of_map, position_of_map}
use Rattle.station_table.proofs.key_index.KeyIndex.key_place.Goals as goal

pub unreachable-requires : goal.unreachable-requires
unreachable-requires c =
    let key = as_key c.args.words.now in
    let same : KeyWords → Bool = λ other. same_key key (as_key other) in
    let keys = c.self.inside.words.keys in
    let there : list_any (same_key key) (map as_key keys) ≡ true = ap (list_any (same_key key)) c.self.view_is ∙ c.requires in
    let none : false ≡ list_any same keys = c.in-None.ensures.found in
    let both : false ≡ true = none ∙ any_of_map as_key same (same_key key) (λ x. refl) keys ∙ there in
    cc

pub returns-clause-place : goal.returns-clause-place
unfolding key_place
returns-clause-place c =
    let key = as_key c.args.words.now in
    let same : KeyWords → Bool = λ other. same_key key (as_key other) in
    let keys = c.self.inside.words.keys in
    ap (position (same_key key)) (sym c.self.view_is) ∙ sym (position_of_map as_key same (same_key key) (λ x. refl) keys) ∙ sym c.in-Some.ensures.index
