use Rattle.search_lanes.proofs.lanes.Lanes.step.Goals as goal

pub returns-in-Take-clause-fits : goal.returns-in-Take-clause-fits
returns-in-Take-clause-fits g c =
    c.take.ensures.fits (g.J.Judge.grid c.args.judge.now) (g.J.Judge.roots c.args.judge.now) (g.J.Judge.bound_of c.args.judge.now) c.requires.fits

pub returns-in-Lost-clause-fits : goal.returns-in-Lost-clause-fits
returns-in-Lost-clause-fits g c =
    c.lose.ensures.fits (g.J.Judge.grid c.args.judge.now) (g.J.Judge.roots c.args.judge.now) (g.J.Judge.bound_of c.args.judge.now) c.requires.fits
