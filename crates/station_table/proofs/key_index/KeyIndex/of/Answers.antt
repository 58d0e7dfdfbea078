use Rattle.std.proofs.Common.{take, ◌∙◌, ap, arith}
use Rattle.indexmap.specs.IndexSet.{insert_key}
use Rattle.station_table.specs.Keys.{same_key}
use Rattle.station_table.specs.Inside.KeyWords.{as_key}
use Rattle.station_table.proofs.KeyLaws.{put_next}
use Rattle.station_table.proofs.key_index.KeyIndex.of.Goals as goal

pub loop-key-preserved : goal.loop-key-preserved
loop-key-preserved c =
    let keys = c.args.keys.now in
    let i = c.loop-key.key-index in
    c.in_ok-put.ensures
    ∙ ap (λ before. insert_key same_key before (as_key c.of.result)) c.loop-key.invariant
    ∙ ap (insert_key same_key (take i keys)) (c.of.ensures ∙ c.key-item.is)
    ∙ put_next keys i c.key-item.result c.requires (omega arith)
