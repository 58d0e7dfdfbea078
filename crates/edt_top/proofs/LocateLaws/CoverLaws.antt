-- The covers of an input.
use Rattle.std.proofs.Common.{List, [], ◌∷◌}
use Rattle.std.specs.List.{AllByRecursion}
use Rattle.node_boxes.specs.Roots.{AreRoots}
use Rattle.control_reader.specs.ControlValues.{ControlValues}
use Rattle.edt_score.specs.BoxBound.{box_bound}
use Rattle.edt_score.specs.Field.{FieldTimes}
use Rattle.octree_search.proofs.OutcomeMeanings.{outcome_shortest}
use Rattle.event_assembly.specs.AssemblyValues.{EventCase, EventValues, Ready, Few, Many}
use Rattle.run_input.specs.Inputs.{InputValues}
use Rattle.edt_top.specs.Locate.Covers.{AreCoversShortest, HasShortest}

has_shortest : (control : ControlValues) (field : FieldTimes) → AreRoots field.grid field.roots → (case : EventCase) → HasShortest control field case
has_shortest control field are (Ready picks) =
    outcome_shortest field.grid field.roots (box_bound control.shape field picks) control.margin control.budget are
has_shortest control field are Few = tt
has_shortest control field are Many = tt

all_shortest : (control : ControlValues) (field : FieldTimes) → AreRoots field.grid field.roots → (events : List EventValues)
    → AllByRecursion (λ (event : EventValues). HasShortest control field event.case) events
all_shortest control field are [] = tt
all_shortest control field are (event ∷ events) = (has_shortest control field are event.case, all_shortest control field are events)

pub covers_shortest : (input : InputValues) → AreRoots input.assembly.field.grid input.assembly.field.roots → AreCoversShortest input
covers_shortest input are = all_shortest input.control input.assembly.field are input.assembly.events
