use Rattle.octree_search.proofs.Arenas.{opened}
use Rattle.octree_search.proofs.arena.open_at.Goals as goal

pub returns : goal.returns
returns c = opened c.args.met.now c.args.place c.args.first_child c.requires
