use Rattle.std.proofs.Common.{arith, ◌-◌}
use Rattle.time_grid.proofs.StepLaws.{off_first, off_second, off_last, meets}
use Rattle.time_grid.proofs.axes.Steps.places.Goals as goal

pub returns-then-self-ne0-clause-none : goal.returns-then-self-ne0-clause-none
returns-then-self-ne0-clause-none c =
    (0, omega (arith, c.requires.nodes), off_first c.args.self.now.offset c.args.self.now.time_spacing c.args.self.now.time_nodes c.args.self.now.spacing c.if-self-ne0.true)

pub returns-in_err-stride-clause-none : goal.returns-in_err-stride-clause-none
returns-in_err-stride-clause-none c =
    let s = c.args.self.now in
    rw c.from_residual.ensures (1, c.in_err-stride.ensures.none.0, off_second s.offset s.time_spacing s.time_nodes s.spacing c.if-self-ne0.false c.in_err-stride.ensures.none.1)

pub returns-then-first-self-clause-none : goal.returns-then-first-self-clause-none
returns-then-first-self-clause-none c =
    let s = c.args.self.now in
    (s.nodes - 1, omega (arith, c.requires.nodes), off_last s.offset s.time_spacing s.time_nodes s.spacing s.nodes c.in_ok-stride.stride c.requires.time_spacing c.requires.nodes.0 c.if-self-ne0.false c.in_ok-stride.ensures.one c.in_ok-stride.ensures.many (omega (arith, c.if-first-self.true)))

pub returns-clause-meets : goal.returns-clause-meets
returns-clause-meets c i below =
    let s = c.args.self.now in
    meets s.offset s.time_spacing s.spacing s.nodes c.in_ok-stride.stride i c.if-self-ne0.false c.in_ok-stride.ensures.one c.in_ok-stride.ensures.many below
