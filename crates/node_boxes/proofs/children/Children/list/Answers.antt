use Rattle.std.proofs.Common.{◌≡◌, ◌++◌, ◌∷◌, [], arith, sym, ap, ◌∙◌, length, take, get_or, ◌<◌}
use Rattle.std.specs.Prelude.{unwrap_or}
use Rattle.std.proofs.lemmas.List.{length-set, take_more, take_more_set}
use Rattle.std.proofs.lemmas.Option.{unwrap_or-slice_get}
use Rattle.node_boxes.specs.declared.node_box.NodeBox.{NodeBox}
use Rattle.node_boxes.proofs.children.Children.list.Goals as goal

pub loop-place-preserved : goal.loop-place-preserved
loop-place-preserved c =
    let kept = c.loop-place.invariant in
    let i = c.loop-place.place in
    let none : NodeBox = record { x0 = 0; x1 = 0; y0 = 0; y1 = 0; z0 = 0; z1 = 0 } in
    let below : i < length c.args.self.now = omega (arith, c.loop-place-test.true, c.len-count.ensures.value) in
    let room : i < length c.loop-place.room = omega (arith, c.loop-place-test.true, c.len-count.ensures.to, kept.same_length) in
    let child : c.unwrap_or.result ≡ get_or c.args.self.now i none =
    c.unwrap_or.ensures ∙ ap (λ o. unwrap_or o none) c.get.ensures ∙ unwrap_or-slice_get c.args.self.now i none in
    record {
      same_length = length-set c.loop-place.room i c.unwrap_or.result ∙ kept.same_length;
      value = take_more_set c.loop-place.room i c.unwrap_or.result room
          ∙ ap (λ front. front ++ c.unwrap_or.result ∷ []) kept.value
          ∙ ap (λ a. take i c.args.self.now ++ a ∷ []) child
          ∙ sym (take_more c.args.self.now i none below);
    }
