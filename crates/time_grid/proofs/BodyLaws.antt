-- The numbers of a body that is read piece by piece.
use Rattle.std.proofs.Common.{◌≡◌, List, [], ℕ, ◌+◌, ◌-◌, ◌*◌, ◌/◌, ◌<◌, ◌≤◌, length, get_or, take, drop, Option, Some, None, IfSome, OnOk, All, Result, Ok, Err, arith, refl, sym, ap, ◌∙◌, inl, inr, length-drop}
use Rattle.std.specs.Prelude.{⊤}
use Rattle.std.proofs.lemmas.Grind.{get_or_default_zero}
use Rattle.std.proofs.lemmas.Bool.{cases_lt}
use Rattle.std.proofs.lemmas.List.{get_or-take, get_or-drop, drop-drop, length-take-le}
use Rattle.time_grid.specs.declared.numbers.ByteOrder.{ByteOrder}
use Rattle.time_grid.specs.declared.faults.GridFault.{GridFault}
use Rattle.time_grid.specs.declared.faults.GridFault.TheVariants.{Absent, Failed, Short, Long, TimeLimit, Memory}
use Rattle.time_grid.specs.declared.cursors.Cursor.{Cursor}
use Rattle.node_boxes.specs.Grid.{node_count}
use Rattle.node_boxes.specs.GridOrder.{IsInside}
use Rattle.time_grid.specs.declared.selections.Selection.{Selection}
use Rattle.time_grid.specs.Inside.Judging.{IsAfter, JudgesBody, IsFirstOver}
use Rattle.time_grid.specs.Numbers.{IsTime, number_at}
use Rattle.time_grid.specs.Inside.Cursors.{IsAhead, IsCursor, IsTaken}
use Rattle.time_grid.specs.GridFaults.{ReadsBody}
use Rattle.time_grid.specs.Inside.Selections.{AreTaken, selected_node, selection_size}
use Rattle.time_grid.proofs.NumberLaws.{same_number}
use Rattle.time_grid.proofs.SelectionLaws.{cursor_inside}
use Rattle.time_grid.proofs.FaultLaws.{fault_long, fault_of_times, fault_short}

-- a number is one of those that passed, or one of a piece
pub in_piece : (times piece : ℕ → ℕ) (passed count k : ℕ) → ((j : ℕ) → j < count → times (passed + j) ≡ piece j)
    → passed ≤ k → k < passed + count → times k ≡ piece (k - passed)
in_piece times piece passed count k same from to =
    let split : passed + (k - passed) ≡ k = omega arith in
    ap times (sym split) ∙ same (k - passed) (omega arith)

-- none of the numbers that passed is over the limit, and none of a piece
pub none_over : (times piece : ℕ → ℕ) (passed count : ℕ) → ((j : ℕ) → j < count → times (passed + j) ≡ piece j)
    → IsFirstOver times passed None → IsFirstOver piece count None → IsFirstOver times (passed + count) None
none_over times piece passed count same before none k below = elim (cases_lt k passed) [
  | inl low ↦ before k low
  | inr high ↦ rw (in_piece times piece passed count k same high below) (none (k - passed) (omega arith))
]

-- none of the numbers that passed is over the limit, and one of a piece is
pub one_over : (times piece : ℕ → ℕ) (passed count first : ℕ) → ((j : ℕ) → j < count → times (passed + j) ≡ piece j)
    → IsFirstOver times passed None → IsFirstOver piece count (Some first) → IsFirstOver times (passed + count) (Some (passed + first))
one_over times piece passed count first same before (inside, over, none) = (
  omega arith,
  rw (same first inside) over,
  λ k below. elim (cases_lt k passed) [
    | inl low ↦ before k low
    | inr high ↦ rw (in_piece times piece passed count k same high (omega arith)) (none (k - passed) (omega arith))
  ],
)

-- `passed` numbers and `held` bytes of the next one came, and the other bytes are unread
pub record Came (order : ByteOrder) (bytes : List ℕ) (s : Selection) (passed held done : ℕ) (buffer into : List ℕ) (over : Option ℕ)
    (left : Option (List ℕ)) : Type 0 where
  pub within : 4 * passed + held ≤ length bytes
  pub rest : left ≡ Some (drop (4 * passed + held) bytes)
  pub begun : (i : ℕ) → i < held → get_or buffer i 0 ≡ get_or bytes (4 * passed + i) 0
  pub first : IsFirstOver (number_at order bytes) passed over
  pub taken : (k : ℕ) → k < done → get_or into k 0 ≡ number_at order bytes (selected_node s k)

-- at the start nothing came
pub Came-none : (first : Option (List ℕ)) (order : ByteOrder) (s : Selection) (done : ℕ) (buffer into : List ℕ) → done ≡ 0
    → IfSome first (λ bytes. Came order bytes s 0 0 done buffer into None first)
Came-none None order s done buffer into start = tt
Came-none (Some bytes) order s done buffer into start = record {
  within = omega arith;
  rest = refl;
  begun = λ i below. absurd (omega arith);
  first = λ k below. absurd (omega arith);
  taken = λ k below. absurd (omega arith);
}

-- `total` bytes stand at the front of the buffer, after `passed` numbers
pub record Filled (bytes : List ℕ) (passed total : ℕ) (buffer : List ℕ) (left : Option (List ℕ)) : Type 0 where
  pub within : 4 * passed + total ≤ length bytes
  pub rest : left ≡ Some (drop (4 * passed + total) bytes)
  pub front : (i : ℕ) → i < total → get_or buffer i 0 ≡ get_or bytes (4 * passed + i) 0

-- a read after the bytes that are held
pub Filled-read : (order : ByteOrder) (bytes : List ℕ) (s : Selection) (passed held done n : ℕ) (buffer into mid : List ℕ) (over : Option ℕ)
    (before after : Option (List ℕ)) → Came order bytes s passed held done buffer into over before
    → IfSome before (λ unread. IsAfter unread n held mid after)
    → ((i : ℕ) → i < held → get_or mid i 0 ≡ get_or buffer i 0)
    → Filled bytes passed (held + n) mid after
Filled-read order bytes s passed held done n buffer into mid over before after came gives kept =
    let came_bytes = 4 * passed + held in
    let given : IsAfter (drop came_bytes bytes) n held mid after = rw came.rest at gives in
    let there : n ≤ length bytes - (4 * passed + held) = rw (length-drop came_bytes bytes) at given.there in
    let within = came.within in
    let sum : 4 * passed + held + n ≡ 4 * passed + (held + n) = omega arith in
    record {
      within = omega arith;
      rest = given.removed ∙ ap (λ (rest : List ℕ). Some rest) (drop-drop n came_bytes bytes) ∙ ap (λ k. Some (drop k bytes)) sum;
      front = λ i below. elim (cases_lt i held) [
        | inl low ↦ kept i low ∙ came.begun i low
        | inr high ↦
            let split : held + (i - held) ≡ i = omega arith in
            let place : 4 * passed + held + (i - held) ≡ 4 * passed + i = omega arith in
            ap (λ j. get_or mid j 0) (sym split) ∙ given.given (i - held) (omega arith) ∙ get_or-drop came_bytes bytes (i - held) 0 ∙ ap (λ j. get_or bytes j 0) place
      ];
    }

-- the numbers of a piece are those of the body
piece_number : (order : ByteOrder) (bytes : List ℕ) (passed total : ℕ) (mid : List ℕ) (after : Option (List ℕ)) → Filled bytes passed total mid after
    → (k : ℕ) → 4 * k + 4 ≤ total → number_at order (take total mid) k ≡ number_at order bytes (passed + k)
piece_number order bytes passed total mid after filled k whole =
    same_number order (take total mid) bytes k (passed + k) (λ i four.
    let place : 4 * passed + (4 * k + i) ≡ 4 * (passed + k) + i = omega arith in
    get_or-take total mid (4 * k + i) 0 (omega arith) ∙ filled.front (4 * k + i) (omega arith) ∙ ap (λ j. get_or bytes j 0) place)

-- what the whole numbers of a piece and the bytes after them are after the piece was taken
pub Came-next : (order : ByteOrder) (bytes : List ℕ) (s : Selection) (passed total done next : ℕ) (mid buffer into now : List ℕ)
    (over later : Option ℕ) (after : Option (List ℕ)) → Filled bytes passed total mid after → total ≤ length mid
    → IsFirstOver (number_at order bytes) passed over
    → ((times : ℕ → ℕ) → ((k : ℕ) → k < length (take total mid) / 4 → times (passed + k) ≡ number_at order (take total mid) k)
    → IsFirstOver times passed over → IsFirstOver times (passed + length (take total mid) / 4) later)
    → ((k : ℕ) → k < done → get_or into k 0 ≡ number_at order bytes (selected_node s k))
    → ((k : ℕ) → k < done → get_or now k 0 ≡ get_or into k 0)
    → ((k : ℕ) → done ≤ k → k < next → IsTaken order passed (take total mid) (selected_node s k) (get_or now k 0))
    → ((i : ℕ) → i < total - 4 * (total / 4) → get_or buffer i 0 ≡ get_or mid (4 * (total / 4) + i) 0)
    → Came order bytes s (passed + total / 4) (total - 4 * (total / 4)) next buffer now later after
Came-next order bytes s passed total done next mid buffer into now over later after filled room first more before kept taken rest =
    let long : length (take total mid) ≡ total = length-take-le total mid room in
    let all : 4 * (passed + total / 4) + (total - 4 * (total / 4)) ≡ 4 * passed + total = omega arith in
    let within = filled.within in
    record {
      within = omega arith;
      rest = filled.rest ∙ ap (λ k. Some (drop k bytes)) (sym all);
      begun = λ i below.
          let place : 4 * passed + (4 * (total / 4) + i) ≡ 4 * (passed + total / 4) + i = omega arith in
          rest i below ∙ filled.front (4 * (total / 4) + i) (omega arith) ∙ ap (λ j. get_or bytes j 0) place;
      first = rw long at (more (number_at order bytes) (λ k below. sym (piece_number order bytes passed total mid after filled k (omega arith))) first);
      taken = λ k below. elim (cases_lt k done) [
        | inl low ↦ kept k low ∙ before k low
        | inr high ↦
            let one = taken k high below in
            let node = selected_node s k in
            let from = one.from in
            let to = one.to in
            let place : passed + (node - passed) ≡ node = omega arith in
            one.value ∙ piece_number order bytes passed total mid after filled (node - passed) (omega arith) ∙ ap (number_at order bytes) place
      ];
    }

-- a read gave the bytes of the next piece, and it was taken
pub Came-more : (unread before after : Option (List ℕ)) (order : ByteOrder) (s : Selection) (passed held done n next : ℕ)
    (buffer mid kept into now : List ℕ) (over later : Option ℕ)
    → IfSome unread (λ bytes. Came order bytes s passed held done buffer into over before)
    → IfSome before (λ bytes. IsAfter bytes n held mid after)
    → ((i : ℕ) → i < held → get_or mid i 0 ≡ get_or buffer i 0)
    → (let total = held + n in
    total ≤ length mid
    → ((times : ℕ → ℕ) → ((k : ℕ) → k < length (take total mid) / 4 → times (passed + k) ≡ number_at order (take total mid) k)
    → IsFirstOver times passed over → IsFirstOver times (passed + length (take total mid) / 4) later)
    → ((k : ℕ) → k < done → get_or now k 0 ≡ get_or into k 0)
    → ((k : ℕ) → done ≤ k → k < next → IsTaken order passed (take total mid) (selected_node s k) (get_or now k 0))
    → ((i : ℕ) → i < total - 4 * (total / 4) → get_or kept i 0 ≡ get_or mid (4 * (total / 4) + i) 0)
    → IfSome unread (λ bytes. Came order bytes s (passed + total / 4) (total - 4 * (total / 4)) next kept now later after))
Came-more None before after order s passed held done n next buffer mid kept into now over later came read same room more old new rest = tt
Came-more (Some bytes) before after order s passed held done n next buffer mid kept into now over later came read same room more old new rest =
    let filled = Filled-read order bytes s passed held done n buffer into mid over before after came read same in
    Came-next order bytes s passed (held + n) done next mid kept into now over later after filled room came.first more came.taken old new rest

-- the times that were taken from a piece are within their limit
pub limit_more : (order : ByteOrder) (s : Selection) (passed done next : ℕ) (piece into now : List ℕ) (over later : Option ℕ)
    → (over ≡ None → (k : ℕ) → k < done → IsTime (get_or into k 0)) → (later ≡ None → over ≡ None)
    → (later ≡ None → (k : ℕ) → k < length piece / 4 → IsTime (number_at order piece k))
    → ((k : ℕ) → k < done → get_or now k 0 ≡ get_or into k 0)
    → ((k : ℕ) → done ≤ k → k < next → IsTaken order passed piece (selected_node s k) (get_or now k 0))
    → later ≡ None → (k : ℕ) → k < next → IsTime (get_or now k 0)
limit_more order s passed done next piece into now over later old before within kept taken none k below = elim (cases_lt k done) [
  | inl low ↦ rw (kept k low) (old (before none) k low)
  | inr high ↦
      let one = taken k high below in
      let from = one.from in
      let to = one.to in
      rw one.value (within none (selected_node s k - passed) (omega arith))
]

-- a cursor that no number is left for is after its last place
pub cursor_ends : (nodes passed : ℕ) (c : Cursor) → IsCursor nodes c → IsAhead passed c → nodes ≤ passed → node_count (selection_size c.selection) ≤ c.done
cursor_ends nodes passed c cursor ahead all = elim (cases_lt c.done (node_count (selection_size c.selection))) [
  | inl left ↦
      let inside : IsInside (selection_size c.selection) c.ix c.iy c.iz = record { x = cursor_inside nodes c cursor left; y = cursor.iy; z = cursor.iz } in
      let below = cursor.selection.within c.ix c.iy c.iz inside in
      let from = ahead left in
      let node = cursor.node in
      let row = cursor.row in
      let plane = cursor.plane in
      absurd (omega arith)
  | inr behind ↦ behind
]

-- the answer where all bytes came
pub ends_as : (order : ByteOrder) (bytes : List ℕ) (s : Selection) (nodes passed held done : ℕ) (into : List ℕ) (over : Option ℕ)
    (r : Result ⊤ GridFault) → length bytes ≡ 4 * passed + held → IsFirstOver (number_at order bytes) passed over
    → ((k : ℕ) → k < done → get_or into k 0 ≡ number_at order bytes (selected_node s k)) → held < 4 → 4 * passed + held ≤ 4 * nodes
    → (nodes ≤ passed → node_count (selection_size s) ≤ done) → JudgesBody nodes passed over r
    → ReadsBody order nodes (λ bytes _. AreTaken order s bytes into) (Some bytes) r
ends_as order bytes s nodes passed held done into over (Ok _) long first taken few within all (enough, none) =
    let same : passed ≡ nodes = omega arith in
    let over_none : IsFirstOver (number_at order bytes) nodes None = rw (same, none) at first in
    let every = all enough in
    (fault_of_times order bytes nodes None (omega arith) over_none, λ k below. taken k (omega arith))
ends_as order bytes s nodes passed held done into over (Err Absent) long first taken few within all judged = absurd judged
ends_as order bytes s nodes passed held done into over (Err Failed) long first taken few within all judged = absurd judged
ends_as order bytes s nodes passed held done into over (Err Short) long first taken few within all judged = fault_short order bytes nodes (omega arith)
ends_as order bytes s nodes passed held done into over (Err Long) long first taken few within all judged = absurd judged
ends_as order bytes s nodes passed held done into over (Err (TimeLimit node)) long first taken few within all (enough, found) =
    let same : passed ≡ nodes = omega arith in
    let over_first : IsFirstOver (number_at order bytes) nodes (Some node) = rw (same, found) at first in
    fault_of_times order bytes nodes (Some node) (omega arith) over_first
ends_as order bytes s nodes passed held done into over (Err Memory) long first taken few within all judged = absurd judged

-- the answer where more bytes came than a body has
pub Came-long : (unread before : Option (List ℕ)) (order : ByteOrder) (s : Selection) (nodes passed held done : ℕ) (buffer into now : List ℕ)
    (over : Option ℕ) → IfSome unread (λ bytes. Came order bytes s passed held done buffer into over before) → 4 * nodes < 4 * passed + held
    → IfSome unread (λ bytes. ReadsBody {T = ⊤} order nodes (λ bytes _. AreTaken order s bytes now) (Some bytes) (Err Long))
Came-long None before order s nodes passed held done buffer into now over came more = tt
Came-long (Some bytes) before order s nodes passed held done buffer into now over came more =
    let there = came.within in
    fault_long order bytes nodes (omega arith)

-- the times are within their limit at the file's end
pub limit_ends : (nodes passed done count : ℕ) (into : List ℕ) (over : Option ℕ) (r : Result ⊤ GridFault)
    → (over ≡ None → (k : ℕ) → k < done → IsTime (get_or into k 0)) → (nodes ≤ passed → count ≤ done) → length into ≡ count
    → JudgesBody nodes passed over r → OnOk r (All IsTime into)
limit_ends nodes passed done count into over (Ok _) limit all long (enough, none) =
    let every = all enough in λ k d below. rw (get_or_default_zero into k d below) (limit none k (omega arith))
limit_ends nodes passed done count into over (Err _) limit all long judged = tt

-- the answer at the file's end
pub Came-ends : (unread before after : Option (List ℕ)) (order : ByteOrder) (s : Selection) (nodes passed held done n : ℕ) (buffer mid into : List ℕ)
    (over : Option ℕ) (r : Result ⊤ GridFault) → IfSome unread (λ bytes. Came order bytes s passed held done buffer into over before)
    → IfSome before (λ bytes. IsAfter bytes n held mid after) → n ≡ 0 → held < 4 → 4 * passed + held ≤ 4 * nodes
    → (nodes ≤ passed → node_count (selection_size s) ≤ done) → JudgesBody nodes passed over r
    → IfSome unread (λ bytes. ReadsBody order nodes (λ bytes _. AreTaken order s bytes into) (Some bytes) r)
Came-ends None before after order s nodes passed held done n buffer mid into over r came read none few within all judged = tt
Came-ends (Some bytes) before after order s nodes passed held done n buffer mid into over r came read none few within all judged =
    let came_bytes = 4 * passed + held in
    let given : IsAfter (drop came_bytes bytes) n held mid after = rw came.rest at read in
    let ends : drop came_bytes bytes ≡ [] = given.ends none in
    let past : length bytes - came_bytes ≡ 0 = sym (length-drop came_bytes bytes) ∙ ap length ends in
    let there = came.within in
    let long : length bytes ≡ 4 * passed + held = omega arith in
    ends_as order bytes s nodes passed held done into over r long came.first came.taken few within all judged
