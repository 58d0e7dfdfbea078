use Rattle.std.proofs.Common.{refl, ◌∙◌, ap, map}
use Rattle.indexmap.specs.IndexSet.{insert_key}
use Rattle.station_table.specs.Keys.{same_key}
use Rattle.station_table.specs.Inside.KeyWords.{as_key}
use Rattle.station_table.proofs.KeyLaws.{put_map}
use Rattle.station_table.proofs.key_index.KeyIndex.put.Goals as goal

pub returns : goal.returns
returns c =
    ap (map as_key) c.in_ok-insert.ensures.keys
    ∙ put_map as_key _ (λ x y. refl) c.self.inside.words.keys c.args.words
    ∙ ap (λ keys. insert_key same_key keys (as_key c.args.words)) c.self.view_is
