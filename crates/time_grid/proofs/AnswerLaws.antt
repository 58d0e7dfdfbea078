-- The answers of reads, by the body that stands under the name.
use Rattle.std.proofs.Common.{◌≡◌, List, ℕ, ◌/◌, ◌%◌, ◌<◌, length, get_or, take, drop, ◌++◌, Option, Some, None, IfSome, All, Ok, Err, arith, sym, subst, ap, ◌∙◌, [], ◌∷◌, ◌+◌, inl, inr}
use Rattle.std.specs.Prelude.{⊤}
use Rattle.std.proofs.lemmas.Grind.{get_or_default_zero}
use Rattle.std.proofs.lemmas.Bool.{cases_lt}
use Rattle.std.proofs.lemmas.List.{get_or_append_left, get_or_push, take-append-le, take_all}
use Rattle.std.proofs.lemmas.List.FromFn.{fill_by_all}
use Rattle.edt_outside.specs.Shelves.{Files}
use Rattle.grid_header.specs.declared.header.Header.{Header}
use Rattle.grid_header.specs.Reading.{IsValidHeader}
use Rattle.node_boxes.specs.declared.frame.Frame.{Frame}
use Rattle.node_boxes.specs.Grid.{node_count}
use Rattle.node_boxes.proofs.Order.{place_of-inside}
use Rattle.time_grid.specs.declared.faults.GridFault.{GridFault}
use Rattle.time_grid.specs.declared.faults.GridFault.TheVariants.{Absent, Failed, Short, Long, TimeLimit, Memory}
use Rattle.time_grid.specs.declared.numbers.ByteOrder.{ByteOrder}
use Rattle.time_grid.specs.declared.selections.Selection.{Selection}
use Rattle.time_grid.specs.Alignment.{search_times, time_at, time_grid_size, time_node}
use Rattle.time_grid.specs.GridFaults.{ReadsBody}
use Rattle.time_grid.specs.Numbers.{IsTime, body_times, number_at}
use Rattle.time_grid.specs.Inside.Selections.{AreSelected, AreTaken, IsSelection, selected_node, selection_size}
use Rattle.time_grid.specs.StreamFaults.{StreamsBody}
use Rattle.time_grid.specs.TimeGrids.{IsTimeGrid}
use Rattle.time_grid.proofs.FaultLaws.{body_times-at}

-- a refusal says the same whatever was to be made
pub same_refusal : {S T : Type 0} (files : Option Files) (name : List ℕ) (order : ByteOrder) (n : ℕ) (Good : List ℕ → S → Type 0)
    (Other : List ℕ → T → Type 0) (fault : GridFault) → IfSome files (λ file. ReadsBody order n Good (file name) (Err fault))
    → IfSome files (λ file. ReadsBody order n Other (file name) (Err fault))
same_refusal None name order n Good Other fault told = tt
same_refusal (Some file) name order n Good Other Absent told = told
same_refusal (Some file) name order n Good Other Failed told = told
same_refusal (Some file) name order n Good Other Short told = told
same_refusal (Some file) name order n Good Other Long told = told
same_refusal (Some file) name order n Good Other (TimeLimit node) told = told
same_refusal (Some file) name order n Good Other Memory told = told

-- a body without fault says of one thing what it says of another
pub same_good : {S T : Type 0} (files : Option Files) (name : List ℕ) (order : ByteOrder) (n : ℕ) (Good : List ℕ → S → Type 0)
    (Other : List ℕ → T → Type 0) (s : S) (t : T) → ((bytes : List ℕ) → Good bytes s → Other bytes t)
    → IfSome files (λ file. ReadsBody order n Good (file name) (Ok s)) → IfSome files (λ file. ReadsBody order n Other (file name) (Ok t))
same_good None name order n Good Other s t better told = tt
same_good {S} {T} (Some file) name order n Good Other s t better told = good (file name) told
  where
    good : (bytes : Option (List ℕ)) → ReadsBody order n Good bytes (Ok s) → ReadsBody order n Other bytes (Ok t)
    good None told = absurd told
    good (Some bytes) told = (told.0, better bytes told.1)

-- a body without fault says of a stream what it says of a read
pub stream_good : (files : Option Files) (name : List ℕ) (order : ByteOrder) (n : ℕ) (Good : List ℕ → ⊤ → Type 0) (Other : List ℕ → Type 0)
    (s t : ⊤) → ((bytes : List ℕ) → Good bytes s → Other bytes)
    → IfSome files (λ file. ReadsBody order n Good (file name) (Ok s)) → IfSome files (λ file. StreamsBody order n Other (file name) (Ok t))
stream_good None name order n Good Other s t better told = tt
stream_good (Some file) name order n Good Other s t better told = good (file name) told
  where
    good : (bytes : Option (List ℕ)) → ReadsBody order n Good bytes (Ok s) → StreamsBody order n Other bytes (Ok t)
    good None told = absurd told
    good (Some bytes) told = (told.0, better bytes told.1)

-- a vector whose items were all written
pub whole_items : (n : ℕ) (into rest : List ℕ) → length into ≡ n → take n (into ++ drop (length into) rest) ≡ into
whole_items n into rest long = take-append-le n into (drop (length into) rest) (omega arith) ∙ take_all n into (omega arith)

-- a time grid whose times were all written
pub grid_is_kept : (header : Header) (n : ℕ) (into rest : List ℕ) → IsValidHeader header → length into ≡ n → n ≡ node_count (time_grid_size header)
    → All IsTime into → IsTimeGrid (record { header = header; times = take n (into ++ drop (length into) rest) })
grid_is_kept header n into rest valid long total limit = rw (whole_items n into rest long) (record {
  header = valid;
  one_a_node = long ∙ total;
  limit = limit;
})

-- the selected nodes are nodes of the grid
pub selected_below : (nodes : ℕ) (s : Selection) (k : ℕ) → IsSelection nodes s → k < node_count (selection_size s) → selected_node s k < nodes
unfolding selected_node
selected_below nodes s k selection below =
    let inside = place_of-inside (selection_size s) k below in
    selection.within (k / s.z / s.y) (k / s.z % s.y) (k % s.z) inside

-- the selected times of the search nodes are the times at them
pub selected_search_times : (header : Header) (frame : Frame) (times : List ℕ) (s : Selection) (into : List ℕ) → selection_size s ≡ frame.grid
    → ((k : ℕ) → k < node_count frame.grid → selected_node s k ≡ time_node header frame k)
    → length into ≡ node_count frame.grid → AreSelected times s into → into ≡ search_times header frame times
unfolding search_times time_at
selected_search_times header frame times s into size node long taken =
    fill_by_all (λ k. get_or times (time_node header frame k) 0) into (node_count frame.grid) 0 long (λ k below.
    taken k (subst (λ g. k < node_count g) (sym size) below) ∙ ap (λ m. get_or times m 0) (node k below))

-- the selected times of a body
pub taken_are_selected : (order : ByteOrder) (bytes : List ℕ) (nodes : ℕ) (s : Selection) (into : List ℕ) → IsSelection nodes s
    → AreTaken order s bytes into → AreSelected (body_times order bytes nodes) s into
taken_are_selected order bytes nodes s into selection taken k below =
    taken k below ∙ sym (body_times-at order bytes nodes (selected_node s k) (selected_below nodes s k selection below))

-- one more selected time after those that were taken
pub selected_more : (times : List ℕ) (s : Selection) (items : List ℕ) (n node : ℕ) → length items ≡ n → node ≡ selected_node s n
    → ((k : ℕ) → k < n → get_or items k 0 ≡ get_or times (selected_node s k) 0)
    → (k : ℕ) → k < n + 1 → get_or (items ++ get_or times node 0 ∷ []) k 0 ≡ get_or times (selected_node s k) 0
selected_more times s items n node long at before k below = elim (cases_lt k n) [
  | inl low ↦ get_or_append_left items (get_or times node 0 ∷ []) 0 k (omega arith) ∙ before k low
  | inr high ↦
      let same : k ≡ n = omega arith in
      get_or_push items (get_or times node 0) 0 k (omega arith) ∙ ap (λ m. get_or times m 0) (at ∙ ap (selected_node s) (sym same))
]

-- selected times are within their limit where all times are
pub selected_within : (times : List ℕ) (s : Selection) (into : List ℕ) → IsSelection (length times) s → All IsTime times
    → length into ≡ node_count (selection_size s) → AreSelected times s into → All IsTime into
selected_within times s into selection limit long taken k d below =
    let there : k < node_count (selection_size s) = omega arith in
    rw (get_or_default_zero into k d below, taken k there) (limit (selected_node s k) 0 (selected_below (length times) s k selection there))

-- the taken times of every node are the times of the body
pub are_body_times : (order : ByteOrder) (bytes : List ℕ) (nodes : ℕ) (s : Selection) (into : List ℕ)
    → node_count (selection_size s) ≡ nodes → ((k : ℕ) → k < nodes → selected_node s k ≡ k) → length into ≡ nodes → AreTaken order s bytes into
    → into ≡ body_times order bytes nodes
unfolding body_times
are_body_times order bytes nodes s into count node long taken =
    fill_by_all (number_at order bytes) into nodes 0 long (λ k below. taken k (omega arith) ∙ ap (number_at order bytes) (node k below))
