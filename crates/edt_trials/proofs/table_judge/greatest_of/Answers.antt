use Rattle.std.proofs.Common.{◌≡◌, ◌<◌, arith, All, List, [], ◌∷◌, length, map, max, ℕ, suc}
use Rattle.minmax_pyramid.specs.Spans.{greatest, time_in}
use Rattle.edt_trials.proofs.table_judge.greatest_of.Goals as goal

-- the greatest of a time and those of further nodes
one_more : (time : ℕ → ℕ) (nodes more : List ℕ) (node known next all : ℕ) → nodes ≡ node ∷ more → next ≡ max known (time node)
    → max known (greatest (map time nodes)) ≡ all → max next (greatest (map time more)) ≡ all
one_more time nodes more node known next all first most is = let whole = rw first at is in omega (arith, whole, most)

pub loop-node-preserved : goal.loop-node-preserved
loop-node-preserved c = record {
  inside = let all = rw c.in-Some.ensures at c.loop-node.invariant.inside in λ k d below. all (suc k) d (omega (arith, below));
  value = one_more (time_in c.args.scores.now) c.loop-node.nodes c.next.new.self c.in-Some.node c.loop-node.greatest c.max-greatest.result
      (greatest (map (time_in c.args.scores.now) c.args.nodes)) c.in-Some.ensures (omega (arith, c.max-greatest.ensures)) c.loop-node.invariant.value;
}
