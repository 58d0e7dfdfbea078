use Rattle.std.proofs.Common.{◌*◌, subst, rules, arith}
use Rattle.pair_weights.specs.LeastRoot.{IsLeastRoot}
use Rattle.edt_score.proofs.DemoRoots.{root_is, time_limit}
use Rattle.edt_score.proofs.demo.time_over.Goals as goal

pub returns-clause-time : goal.returns-clause-time
returns-clause-time c = root_is (28900000000 * c.args.square) c.ceil_root.result (subst (λ n. IsLeastRoot (28900000000 * n) c.ceil_root.result) c.from.ensures c.ceil_root.ensures)

pub returns-clause-limit : goal.returns-clause-limit
returns-clause-limit c = omega (arith, time_limit c.args.square c.ceil_root.result c.requires.few (subst (λ n. IsLeastRoot (28900000000 * n) c.ceil_root.result) c.from.ensures c.ceil_root.ensures))

pub overflow_cast-result : goal.overflow_cast-result
overflow_cast-result c =
    let limit = time_limit c.args.square c.ceil_root.result c.requires.few (subst (λ n. IsLeastRoot (28900000000 * n) c.ceil_root.result) c.from.ensures c.ceil_root.ensures) in
    search rules
