-- What the parts of a made problem's text answer.
use Rattle.octree_search.specs.declared.found.Located.{Located}
use Rattle.octree_search.specs.Outcomes.{LocatedValue}

-- a located event, with lists in place of vectors
abbrev pub event_value : Located → LocatedValue
event_value event = record {
  hyp = event.hyp;
  score = event.score;
  near = event.near.items;
  boxes = event.cover.items;
  met = event.met;
}
