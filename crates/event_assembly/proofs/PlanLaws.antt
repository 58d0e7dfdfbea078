-- What is settled before any body is read.
use Rattle.std.proofs.Common.{◌≡◌, ℕ, zero, suc, ◌+◌, ◌<◌, ◌≤◌, Bool, true, false, List, [], ◌∷◌, length, get_or, map, Option, Some, None, IfSome, inl, inr, refl, sym, ap, subst, ◌∙◌, arith, pos}
use Rattle.std.specs.Prelude.{All, ◌||◌, ◌==◌, nat_lt, int_lt, unwrap_or, is_none, count_by}
use Rattle.std.specs.List.{AllPairs, list_any, slice_get, slice_index, range_with_len}
use Rattle.std.proofs.lemmas.Bool.{cases_Bool, and_parts, or_parts, eqb-true, eq-eqb, ltb-false}
use Rattle.std.proofs.lemmas.List.{get_or-map, length-map}
use Rattle.std.proofs.lemmas.List.Elements.{All-head, All-tail, All-map, All-filter, All-same, filter_agree, filter_passes}
use Rattle.std.proofs.lemmas.List.FromFn.{length-range_with_len, get_or-range_with_len}
use Rattle.std.proofs.lemmas.List.Folds.{Any-from_list_any, list_any_at, list_any_none}
use Rattle.edt_score.specs.declared.problem.ProblemPick.{ProblemPick}
use Rattle.edt_score.specs.Field.{FieldTimes}
use Rattle.edt_score.specs.Problem.{IsValidPick, AreNear as are_near_picks}
use Rattle.grid_header.specs.declared.header.Header.{Header}
use Rattle.grid_header.specs.Reading.{IsValidHeader}
use Rattle.control_reader.specs.ControlValues.{ControlValues}
use Rattle.phase_reader.specs.declared.phases.Pick.{Pick}
use Rattle.station_table.specs.declared.keys.GridKey.{GridKey}
use Rattle.station_table.specs.declared.keys.Place.{Place}
use Rattle.station_table.specs.declared.keys.Place.TheVariants.{Absent}
use Rattle.station_table.specs.declared.picks.Picks.{Picks}
use Rattle.station_table.specs.declared.picks.Skip.{Skip}
use Rattle.station_table.specs.declared.picks.UsedPick.{UsedPick}
use Rattle.station_table.specs.Limits.{HoldsKeysOf, IsPlace}
use Rattle.station_table.specs.Using.{is_absent, used_picks, skipped_picks}
use Rattle.event_assembly.specs.declared.assembly.Case.{Case}
use Rattle.event_assembly.specs.declared.assembly.Case.TheVariants.{Ready, Few, Many}
use Rattle.event_assembly.specs.declared.assembly.Prepared.{Prepared}
use Rattle.event_assembly.specs.declared.rows.Rows.{Rows}
use Rattle.event_assembly.specs.Assembled.{IsPrepared, IsCaseOf, HasTime, problem_measures}
use Rattle.event_assembly.specs.AssemblyValues.{EventValues, case_value, event_value, case_of, event_of, Ready as ready_value, Few as few_value, Many as many_value}
use Rattle.event_assembly.specs.Answers.{has_no_grid, lacks_a_grid}
use Rattle.event_assembly.specs.Cases.{is_s, is_few, is_many, is_ready}
use Rattle.event_assembly.specs.Inside.Deciding.{AreDecided, AreUsed, AreNear}
use Rattle.event_assembly.specs.Inside.Numbering.{needs_key, has_key, marked_keys, AreNumbered}
use Rattle.event_assembly.specs.Inside.Problems.{problem_pick, case_by, event_by}
use Rattle.event_assembly.specs.Inside.Planning.{place_of_header, places_of_headers}
use Rattle.event_assembly.specs.Inside.Reads.{HasHeader, IsRowKey}
use Rattle.event_assembly.specs.Rows.{uses_key, row_keys, row_of_key}
use Rattle.event_assembly.proofs.GridLaws.{HasGrid, used_have_grids, skipped_have_grids}

-- a test of what is made of items, and what is made of what is made
pub any_map : {A B : Type 0} (p : B → Bool) (f : A → B) (xs : List A) → list_any p (map f xs) ≡ list_any (λ x. p (f x)) xs
any_map p f [] = refl
any_map p f (x ∷ xs) = ap (λ b. p (f x) || b) (any_map p f xs)

pub map_map : {A B C : Type 0} (g : B → C) (f : A → B) (xs : List A) → map g (map f xs) ≡ map (λ x. g (f x)) xs
map_map g f [] = refl
map_map g f (x ∷ xs) = ap (λ ys. g (f x) ∷ ys) (map_map g f xs)

-- what is made of items alike
pub map_alike : {A B : Type 0} (f g : A → B) (xs : List A) → All (λ x. f x ≡ g x) xs → map f xs ≡ map g xs
map_alike f g [] alike = refl
map_alike f g (x ∷ xs) alike =
    let first : f x ≡ g x = All-head (λ y. f y ≡ g y) x xs alike in
    rw first (ap (λ ys. g x ∷ ys) (map_alike f g xs (All-tail (λ y. f y ≡ g y) x xs alike)))

-- what is made of two things of items, where both are alike
made_alike : {A B C D E : Type 0} (make : C → D → E) (f : A → C) (g : A → D) (h : B → C) (k : B → D) (xs : List A) (ys : List B)
    → map f xs ≡ map h ys → map g xs ≡ map k ys → map (λ x. make (f x) (g x)) xs ≡ map (λ y. make (h y) (k y)) ys
made_alike make f g h k [] [] one other = refl
made_alike make f g h k [] (y ∷ ys) one other = absurd (cc one)
made_alike make f g h k (x ∷ xs) [] one other = absurd (cc one)
made_alike make f g h k (x ∷ xs) (y ∷ ys) one other =
    let first : f x ≡ h y = cc one in
    let second : g x ≡ k y = cc other in
    let firsts : map f xs ≡ map h ys = cc one in
    let seconds : map g xs ≡ map k ys = cc other in
    rw (first, second) (ap (λ zs. make (h y) (k y) ∷ zs) (made_alike make f g h k xs ys firsts seconds))

-- pairs of what is made of items
pairs_map : {A B : Type 0} (R : A → A → Type 0) (S : B → B → Type 0) (f : A → B) → ((a b : A) → R a b → S (f a) (f b)) → (xs : List A) → AllPairs R xs
    → AllPairs S (map f xs)
pairs_map R S f made [] pairs = λ i j d less within. absurd (omega arith)
pairs_map R S f made (x ∷ xs) pairs = λ i j d less within.
    let long = length-map (x ∷ xs) f in
    let below : j < length (x ∷ xs) = omega arith in
    let first : i < length (x ∷ xs) = omega arith in
    rw (get_or-map f (x ∷ xs) i x d first, get_or-map f (x ∷ xs) j x d below)
    (made (get_or (x ∷ xs) i x) (get_or (x ∷ xs) j x) (pairs i j x less below))

-- numbers of a range are below its end
range_below : (n : ℕ) → All (λ k. k < n) (range_with_len 0 n)
range_below n i d below =
    let long = length-range_with_len 0 n in
    let within : i < n = omega arith in
    let is : get_or (range_with_len 0 n) i d ≡ 0 + i = get_or-range_with_len 0 n i d within in
    omega arith

-- a pick of a problem in a row
abbrev pick_at : ℕ → UsedPick → ProblemPick
pick_at row pick = record { time = pick.time; weight = pick.weight; variance = pick.variance; row = row }

-- by the numbers of the rows
abbrev pick_by : List ℕ → UsedPick → ProblemPick
pick_by rows pick = pick_at (row_of_key rows pick.key) pick

-- picks that are neither few nor many are ready
ready_by : (control : ControlValues) (used : List UsedPick) → is_few control used ≡ false → is_many control used ≡ false → is_ready control used ≡ true
unfolding is_many
ready_by control used enough fits =
    let short : nat_lt 256 (length used) ≡ false = rw enough at fits in
    rw (enough, short) refl

-- there are two to 256 of them
at_least_two : (control : ControlValues) (used : List UsedPick) → is_few control used ≡ false → 2 ≤ length used
unfolding is_few
at_least_two control used enough =
    let first = (or_parts (nat_lt (length used) 2 || int_lt (pos (length used)) control.min_phases) (int_lt (pos (count_by is_s used)) control.min_s) enough).0 in
    ltb-false (length used) 2 (or_parts (nat_lt (length used) 2) (int_lt (pos (length used)) control.min_phases) first).0

at_most : (control : ControlValues) (used : List UsedPick) → is_few control used ≡ false → is_many control used ≡ false → length used ≤ 256
unfolding is_many
at_most control used enough fits =
    let short : nat_lt 256 (length used) ≡ false = rw enough at fits in
    ltb-false 256 (length used) short

-- the used picks of a problem
record ProblemParts (control : ControlValues) (row_of_key : List ℕ) (used : List UsedPick) (picks : List ProblemPick) : Type 0 where
  pub enough : is_few control used ≡ false
  pub fits : is_many control used ≡ false
  pub is : picks ≡ map (problem_pick row_of_key) used
  pub two : 2 ≤ length used
  pub few : length used ≤ 256

problem_parts : (control : ControlValues) (row_of_key : List ℕ) (used : List UsedPick) (picks : List ProblemPick)
    → ready_value picks ≡ case_by control row_of_key used → ProblemParts control row_of_key used picks
problem_parts control row_of_key used picks made = elim (cases_Bool (is_few control used)) [
  | inl few ↦ let other : ready_value picks ≡ few_value = rw few at made in absurd cc
  | inr enough ↦
      elim (cases_Bool (is_many control used)) [
        | inl many ↦ let other : ready_value picks ≡ many_value = rw (enough, many) at made in absurd cc
        | inr fits ↦
            let ready : ready_value picks ≡ ready_value (map (problem_pick row_of_key) used) = rw (enough, fits) at made in
            record {
              enough = enough;
              fits = fits;
              is = cc;
              two = at_least_two control used enough;
              few = at_most control used enough fits;
            }
      ]
]

-- used picks that are few, and used picks that are many
few_case : (control : ControlValues) (row_of_key : List ℕ) (used : List UsedPick) → few_value ≡ case_by control row_of_key used → is_few control used ≡ true
few_case control row_of_key used made = elim (cases_Bool (is_few control used)) [
  | inl few ↦ few
  | inr enough ↦
      elim (cases_Bool (is_many control used)) [
        | inl many ↦ let other : few_value ≡ many_value = rw (enough, many) at made in absurd cc
        | inr fits ↦ let other : few_value ≡ ready_value (map (problem_pick row_of_key) used) = rw (enough, fits) at made in absurd cc
      ]
]

many_case : (control : ControlValues) (row_of_key : List ℕ) (used : List UsedPick) → many_value ≡ case_by control row_of_key used → is_many control used ≡ true
many_case control row_of_key used made = elim (cases_Bool (is_few control used)) [
  | inl few ↦ let other : many_value ≡ few_value = rw few at made in absurd cc
  | inr enough ↦
      elim (cases_Bool (is_many control used)) [
        | inl many ↦ many
        | inr fits ↦ let other : many_value ≡ ready_value (map (problem_pick row_of_key) used) = rw (enough, fits) at made in absurd cc
      ]
]

-- the marks of the keys that used picks of ready events have
abbrev pub AreMarks : ControlValues → List Picks → List Bool → Type 0
AreMarks control decided marks = (k : ℕ) → get_or marks k false ≡ list_any (λ (picks : Picks). needs_key control k picks.used.items) decided

module _ (control : ControlValues) (keys : List GridKey) (places : List Place) (events : List (List Pick)) (decided : List Picks)
    (settled : AreDecided control keys places events decided) (marks : List Bool) (long : length marks ≡ length keys) (marked : AreMarks control decided marks) where
  -- a key is marked where some ready event uses it
  mark_is : (k : ℕ) → get_or marks k false ≡ list_any (uses_key control keys places k) events
  mark_is k =
      let need : List UsedPick → Bool = needs_key control k in
      marked k
      ∙ sym (any_map need (λ (picks : Picks). picks.used.items) decided)
      ∙ ap (list_any need) settled.used
      ∙ any_map need (used_picks control keys places) events

  -- the marked keys are those of the rows
  pub marked_is : marked_keys marks (length marks) ≡ row_keys control keys places events
  unfolding row_keys
  marked_is =
      rw long (filter_agree (λ (k : ℕ). get_or marks k false) (λ (k : ℕ). list_any (uses_key control keys places k) events) mark_is (range_with_len 0 (length keys)))

  -- the keys of the used picks of a ready event are marked
  marked_by : (i : ℕ) (d : Picks) → i < length decided → (j : ℕ) (e : UsedPick) → j < length (get_or decided i d).used.items
      → is_ready control (get_or decided i d).used.items ≡ true → get_or marks (get_or (get_or decided i d).used.items j e).key false ≡ true
  marked_by i d below j e within ready =
      let used : List UsedPick = (get_or decided i d).used.items in
      let k : ℕ = (get_or used j e).key in
      let has : has_key k used ≡ true = list_any_at (λ (pick : UsedPick). pick.key == k) used j e within (eq-eqb k k refl) in
      let needs : needs_key control k used ≡ true = rw (ready, has) refl in
      marked k ∙ list_any_at (λ (picks : Picks). needs_key control k picks.used.items) decided i d below needs

  module _ (rows : Rows) (numbered : AreNumbered marks rows) where
    -- picks by the rows of keys are those by the numbers of the rows
    pick_alike : (i : ℕ) (d : Picks) → i < length decided → is_ready control (get_or decided i d).used.items ≡ true
        → All (λ (pick : UsedPick). problem_pick rows.row_of_key.items pick ≡ pick_by rows.keys.items pick) (get_or decided i d).used.items
    pick_alike i d below ready j e within =
        let pick : UsedPick = get_or (get_or decided i d).used.items j e in
        let row : slice_index rows.row_of_key.items pick.key ≡ row_of_key rows.keys.items pick.key =
        numbered.row_of_key pick.key (marked_by i d below j e within ready) in
        ap (λ (r : ℕ). pick_at r pick) row

    -- so are cases
    case_alike : (i : ℕ) (d : Picks) → i < length decided
        → case_by control rows.row_of_key.items (get_or decided i d).used.items ≡ case_of control rows.keys.items (get_or decided i d).used.items
    case_alike i d below = elim (cases_Bool (is_few control (get_or decided i d).used.items)) [
      | inl few ↦ rw few refl
      | inr enough ↦
          elim (cases_Bool (is_many control (get_or decided i d).used.items)) [
            | inl many ↦ rw (enough, many) refl
            | inr fits ↦
                rw (enough, fits)
                (ap ready_value
                (map_alike (problem_pick rows.row_of_key.items) (pick_by rows.keys.items) (get_or decided i d).used.items
                (pick_alike i d below (ready_by control (get_or decided i d).used.items enough fits))))
          ]
    ]

    -- the events are prepared by the numbers of the rows
    pub prepared_is : (prepared : List Prepared) → map event_value prepared ≡ map (event_by control rows.row_of_key.items) decided
        → map event_value prepared ≡ map (event_of control keys places rows.keys.items) events
    prepared_is prepared by =
        let made : List UsedPick → List Skip → EventValues =
        λ used skipped. record { used = used; skipped = skipped; case = case_of control rows.keys.items used } in
        let by_numbers : Picks → EventValues = λ picks. made picks.used.items picks.skipped.items in
        by
        ∙ map_alike (event_by control rows.row_of_key.items) by_numbers decided
        (λ i d below. λ j. record { used = (get_or decided i d).used.items; skipped = (get_or decided i d).skipped.items; case = case_alike i d below j })
        ∙ made_alike made (λ (picks : Picks). picks.used.items) (λ (picks : Picks). picks.skipped.items) (used_picks control keys places)
        (skipped_picks control keys places) decided events settled.used settled.skipped

    -- a case is that of the picks that it was made of
    case_is : (field : FieldTimes) → length field.rows ≡ length rows.keys.items → (i : ℕ) (d : Picks) → i < length decided → (case : Case)
        → case_value case ≡ case_by control rows.row_of_key.items (get_or decided i d).used.items → IsCaseOf control field (get_or decided i d).used.items case
    case_is field one_each i d below Few made = few_case control rows.row_of_key.items (get_or decided i d).used.items made
    case_is field one_each i d below Many made = many_case control rows.row_of_key.items (get_or decided i d).used.items made
    case_is field one_each i d below (Ready problem) made =
        let used : List UsedPick = (get_or decided i d).used.items in
        let limits = settled.limits i d below in
        let parts = problem_parts control rows.row_of_key.items used problem.picks.items made in
        let ready = ready_by control used parts.enough parts.fits in
        let long : length problem.picks.items ≡ length used = rw parts.is (length-map used (problem_pick rows.row_of_key.items)) in
        let two = parts.two in
        let few = parts.few in
        record {
          ready = ready;
          valid = record {
            two = omega arith;
            few = omega arith;
            picks = All-same (IsValidPick field) problem.picks.items (map (problem_pick rows.row_of_key.items) used) parts.is
                (All-map (IsValidPick field) (problem_pick rows.row_of_key.items) used
                (λ j e within.
                let one = limits.limits j e within in
                let row = numbered.below (get_or used j e).key (marked_by i d below j e within ready) in
                record { some_weight = one.some_weight; weight = one.weight; variance = one.variance; row = omega arith }));
            times = subst (AllPairs are_near_picks) (sym parts.is)
                (pairs_map AreNear are_near_picks (problem_pick rows.row_of_key.items) (λ a b near. near) used limits.near);
          };
          measures = ap (map problem_measures) parts.is ∙ map_map problem_measures (problem_pick rows.row_of_key.items) used;
        }

    -- an event has the times and the case of the picks that it was made of
    event_is : (field : FieldTimes) → length field.rows ≡ length rows.keys.items → (i : ℕ) (d : Picks) → i < length decided → (event : Prepared)
        → event_value event ≡ event_by control rows.row_of_key.items (get_or decided i d) → IsPrepared control field event
    event_is field one_each i d below event made =
        let used : event.picks.used.items ≡ (get_or decided i d).used.items = ap (λ (e : EventValues). e.used) made in
        let case : case_value event.case ≡ case_by control rows.row_of_key.items (get_or decided i d).used.items = ap (λ (e : EventValues). e.case) made in
        record {
          times = All-same HasTime event.picks.used.items (get_or decided i d).used.items used (λ j e within. ((settled.limits i d below).limits j e within).time);
          case = subst (λ us. IsCaseOf control field us event.case) (sym used) (case_is field one_each i d below event.case case);
        }

    -- so have all
    pub prepared_by : (prepared : List Prepared) → map event_value prepared ≡ map (event_by control rows.row_of_key.items) decided → (field : FieldTimes)
        → length field.rows ≡ length rows.keys.items → All (IsPrepared control field) prepared
    prepared_by prepared by field one_each i d below =
        let each : Picks → EventValues = event_by control rows.row_of_key.items in
        let long : length (map event_value prepared) ≡ length (map each decided) = ap length by in
        let first = length-map prepared event_value in
        let second = length-map decided each in
        let within : i < length decided = omega arith in
        let made : event_value (get_or prepared i d) ≡ each (get_or decided i d.picks) =
        sym (get_or-map event_value prepared i d (event_value d) below) ∙ ap (λ es. get_or es i (event_value d)) by
        ∙ get_or-map each decided i d.picks (event_value d) within in
        event_is field one_each i d.picks within (get_or prepared i d) made

-- what holds of what is made of items holds of the items
All-unmap : {A B : Type 0} (P : B → Type 0) (f : A → B) (xs : List A) → All P (map f xs) → All (λ x. P (f x)) xs
All-unmap P f xs all i d below = subst P (get_or-map f xs i d (f d) below) (all i (f d) (rw (length-map xs f) below))

-- a place that is there has a header
header_at : (headers : List (Option Header)) (k : ℕ) → All (λ header. IfSome header IsValidHeader) headers
    → is_absent (unwrap_or (slice_get (places_of_headers headers) k) Absent) ≡ false → HasHeader headers k
header_at [] k valid there = absurd cc
header_at (None ∷ headers) zero valid there = absurd cc
header_at (Some header ∷ headers) zero valid there =
    record { header = header; here = refl; valid = All-head (λ h. IfSome h IsValidHeader) (Some header) headers valid }
header_at (first ∷ headers) (suc k) valid there =
    let more = header_at headers k (All-tail (λ h. IfSome h IsValidHeader) first headers valid) there in
    record { header = more.header; here = more.here; valid = more.valid }

module _ (control : ControlValues) (keys : List GridKey) (headers : List (Option Header)) (events : List (List Pick)) (decided : List Picks)
    (settled : AreDecided control keys (places_of_headers headers) events decided) (marks : List Bool) (long : length marks ≡ length keys)
    (marked : AreMarks control decided marks) (valid : All (λ header. IfSome header IsValidHeader) headers) where
  -- the used picks have grids
  picks_have_grids : All (λ (picks : Picks). All (HasGrid (places_of_headers headers)) picks.used.items) decided
  picks_have_grids =
      let each : List Pick → List UsedPick = used_picks control keys (places_of_headers headers) in
      All-unmap (All (HasGrid (places_of_headers headers))) (λ (picks : Picks). picks.used.items) decided
      (All-same (All (HasGrid (places_of_headers headers))) (map (λ (picks : Picks). picks.used.items) decided) (map each events) settled.used
      (All-map (All (HasGrid (places_of_headers headers))) each events
      (λ i d below. used_have_grids control keys (places_of_headers headers) (get_or events i d))))

  -- so a marked key has a header
  marked_has_header : (k : ℕ) → get_or marks k false ≡ true → HasHeader headers k
  marked_has_header k mark =
      let event = Any-from_list_any (λ (picks : Picks). needs_key control k picks.used.items) decided (sym (marked k) ∙ mark) in
      let i : ℕ = event.0 in
      let picks : Picks = event.1 in
      let has : has_key k picks.used.items ≡ true = (and_parts (is_ready control picks.used.items) (has_key k picks.used.items) event.4).1 in
      let pick = Any-from_list_any (λ (u : UsedPick). u.key == k) picks.used.items has in
      let is : pick.1.key ≡ k = eqb-true pick.1.key k pick.4 in
      let here : get_or decided i picks ≡ picks = event.3 in
      let grids : All (HasGrid (places_of_headers headers)) picks.used.items =
      subst (λ (p : Picks). All (HasGrid (places_of_headers headers)) p.used.items) here (picks_have_grids i picks event.2) in
      let grid : HasGrid (places_of_headers headers) pick.1 = subst (HasGrid (places_of_headers headers)) pick.3 (grids pick.0 pick.1 pick.2) in
      header_at headers k valid (subst (λ (n : ℕ). is_absent (unwrap_or (slice_get (places_of_headers headers) n) Absent) ≡ false) is grid)

  -- and so has each row
  pub rows_have_headers : All (IsRowKey keys headers) (marked_keys marks (length marks))
  rows_have_headers =
      let test : ℕ → Bool = λ k. get_or marks k false in
      let all = range_with_len 0 (length marks) in
      λ i d below.
      let k : ℕ = get_or (marked_keys marks (length marks)) i d in
      let first : k < length marks = All-filter test (λ n. n < length marks) all (range_below (length marks)) i d below in
      record { within = omega arith; header = marked_has_header k (filter_passes test all i d below) }

-- where all headers are there, no place is absent
no_absent : (headers : List (Option Header)) → list_any is_none headers ≡ false → list_any is_absent (places_of_headers headers) ≡ false
no_absent [] none = refl
no_absent (None ∷ headers) none = absurd cc
no_absent (Some header ∷ headers) none = no_absent headers none

module _ (control : ControlValues) (keys : List GridKey) (headers : List (Option Header)) (rows : List ℕ) (events : List (List Pick)) (prepared : List Prepared)
    (one_each : length keys ≡ length headers) (held : All (HoldsKeysOf control keys) events)
    (ready : map event_value prepared ≡ map (event_of control keys (places_of_headers headers) rows) events) where
  -- the picks that aren't used
  skipped_is : map (λ (p : Prepared). p.picks.skipped.items) prepared ≡ map (skipped_picks control keys (places_of_headers headers)) events
  skipped_is =
      let skipped : EventValues → List Skip = λ e. e.skipped in
      sym (map_map skipped event_value prepared) ∙ ap (map skipped) ready ∙ map_map skipped (event_of control keys (places_of_headers headers) rows) events

  -- where all headers are there, no pick lacks a grid
  no_grid_lacks : list_any is_none headers ≡ false → lacks_a_grid prepared ≡ false
  no_grid_lacks there =
      let long : length keys ≡ length (places_of_headers headers) = one_each ∙ sym (length-map headers place_of_header) in
      let test : List Skip → Bool = λ skips. list_any (λ (s : Skip). has_no_grid s.reason) skips in
      let each : List Pick → List Skip = skipped_picks control keys (places_of_headers headers) in
      sym (any_map test (λ (p : Prepared). p.picks.skipped.items) prepared) ∙ ap (list_any test) skipped_is
      ∙ list_any_none test (map each events)
      (All-map (λ (skips : List Skip). test skips ≡ false) each events
      (λ i d below. skipped_have_grids control keys (places_of_headers headers) long (no_absent headers there) (get_or events i d) (held i d below)))

  pub lacks_by : lacks_a_grid prepared ≡ true → list_any is_none headers ≡ true
  lacks_by lacks = elim (cases_Bool (list_any is_none headers)) [
    | inl some ↦ some
    | inr none ↦ let never = no_grid_lacks none in absurd cc
  ]

  -- there are as many prepared events as events
  pub prepared_one_each : length prepared ≡ length events
  prepared_one_each =
      sym (length-map prepared event_value) ∙ ap length ready ∙ length-map events (event_of control keys (places_of_headers headers) rows)

-- the place of the source of a header is within the limits of places
place_near : (header : Option Header) → IfSome header IsValidHeader → IsPlace (place_of_header header)
place_near None valid = tt
place_near (Some header) valid = (valid.sx, valid.sy)

-- so are those of valid headers
pub places_near : (places : List Place) (headers : List (Option Header)) → places ≡ places_of_headers headers
    → All (λ header. IfSome header IsValidHeader) headers → All IsPlace places
places_near places headers is valid =
    All-same IsPlace places (places_of_headers headers) is
    (All-map IsPlace place_of_header headers (λ j e within. place_near (get_or headers j e) (valid j e within)))

-- there is one for each header
pub places_one_each : (places : List Place) (headers : List (Option Header)) → places ≡ places_of_headers headers → length places ≡ length headers
places_one_each places headers is = ap length is ∙ length-map headers place_of_header

-- the keys of used picks have places among the rows of keys
pub keys_below : (keys rows : ℕ) (decided : List Picks) → All (AreUsed keys) decided → keys ≡ rows
    → All (λ (picks : Picks). All (λ (pick : UsedPick). pick.key < rows) picks.used.items) decided
keys_below keys rows decided limits same i d below j e within =
    let one = (limits i d below).limits j e within in
    let key = one.key in
    omega arith
