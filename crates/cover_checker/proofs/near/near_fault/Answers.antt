use Rattle.std.proofs.Common.{rules, ◌≡◌, ◌+◌, ◌<◌, ◌≤◌, ◌∙◌, true, false, ap, sym, arith, drop, length}
use Rattle.std.specs.Prelude.{option_map}
use Rattle.std.proofs.lemmas.List.{drop_all}
use Rattle.cover_checker.specs.declared.verdict.Verdict.TheVariants.{NearWrong}
use Rattle.cover_checker.specs.Findings.{first_difference}
use Rattle.cover_checker.specs.Inside.Walks.{has_entry, near_walk}
use Rattle.cover_checker.proofs.NearSteps.{agrees_here, differs_here, entry_within, more_printed, walk_some}
use Rattle.cover_checker.proofs.near.near_fault.Goals as goal

pub returns-then-not-has_entry : goal.returns-then-not-has_entry
returns-then-not-has_entry c =
    let near = c.args.near.now in
    let at = c.loop-node.at in
    let node = c.loop-node.node in
    let below : node < length c.args.marks.now = search rules in
    let other : has_entry near at (node, c.in-Some.bound) ≡ false = search rules in
    let rest = near_walk c.args.boxes.now c.args.least (node + 1) (drop (node + 1) c.args.marks.now) in
    ap (option_map NearWrong)
    (sym (differs_here near at (node, c.in-Some.bound) rest other)
    ∙ ap (first_difference at (drop at near)) (sym (walk_some c.args.boxes.now c.args.least node c.args.marks.now below c.in-Some.bound c.in-Some.ensures))
    ∙ c.loop-node.invariant.left)

pub loop-node-preserved : goal.loop-node-preserved
loop-node-preserved c =
    let near = c.args.near.now in
    let at = c.loop-node.at in
    let node = c.loop-node.node in
    let below : node < length c.args.marks.now = search rules in
    let has : has_entry near at (node, c.in-Some.bound) ≡ true = search rules in
    let rest = near_walk c.args.boxes.now c.args.least (node + 1) (drop (node + 1) c.args.marks.now) in
    let within = entry_within near at (node, c.in-Some.bound) rest has in
    let few = c.loop-node.invariant.few in
    record {
      few = omega arith;
      within = omega arith;
      left = sym (agrees_here near at (node, c.in-Some.bound) rest has)
          ∙ ap (first_difference at (drop at near)) (sym (walk_some c.args.boxes.now c.args.least node c.args.marks.now below c.in-Some.bound c.in-Some.ensures))
          ∙ c.loop-node.invariant.left;
    }

pub returns-then-at-near : goal.returns-then-at-near
returns-then-at-near c =
    let near = c.args.near.now in
    let at = c.loop-node.at in
    let past : length c.args.marks.now ≤ c.loop-node.node = search rules in
    let below : at < length near = search rules in
    ap (option_map NearWrong)
    (sym (more_printed near at below)
    ∙ ap (λ ms. first_difference at (drop at near) (near_walk c.args.boxes.now c.args.least c.loop-node.node ms)) (sym (drop_all c.loop-node.node c.args.marks.now past))
    ∙ c.loop-node.invariant.left)
