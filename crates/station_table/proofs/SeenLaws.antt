-- Keys each once, in the order in which they are first seen.
use Rattle.std.proofs.Common.{◌≡◌, Bool, true, false, List, [], ◌∷◌, ◌++◌, All, get_or, filter, map, not, inl, inr, refl, sym, subst, ap, ◌∙◌, arith}
use Rattle.std.specs.Prelude.{◌||◌}
use Rattle.std.specs.List.{list_any, flat_map}
use Rattle.std.proofs.lemmas.Bool.{cases_Bool, false_from_ne_true, not-true, or_left, or_right}
use Rattle.std.proofs.lemmas.List.{append-nil, map-append}
use Rattle.std.proofs.lemmas.List.Folds.{list_any-append}
use Rattle.std.proofs.lemmas.List.Kept.{AllPairs-cons, AllPairs-filter}
use Rattle.std.proofs.lemmas.List.Sums.{fold-append}
use Rattle.std.proofs.lemmas.List.Elements.{filter-append, filter_passes, All-nil, All-head, All-tail, All-cons, All-filter, All-weaker}
use Rattle.indexmap.specs.IndexSet.{insert_key, insert_all}
use Rattle.station_table.specs.declared.keys.GridKey.{GridKey}
use Rattle.control_reader.specs.ControlValues.{ControlValues}
use Rattle.phase_reader.specs.PhaseFile.{picks_of_events}
use Rattle.phase_reader.specs.declared.phases.Event.{Event}
use Rattle.phase_reader.specs.declared.phases.Pick.{Pick}
use Rattle.station_table.specs.Keys.{same_key, first_seen, key_of, keys_of, is_wanted, wanted_keys}
use Rattle.station_table.specs.Limits.{HoldsKeyOf, HoldsKeysOf, KeysDiffer}
use Rattle.station_table.proofs.KeyLaws.{same_key-is, same_key-equal}
use Rattle.text_terms.proofs.ListLaws.{by_push}

-- keys other than one
abbrev others : GridKey → List GridKey → List GridKey
others key keys = filter (λ other. not (same_key key other)) keys

-- a key that differs from one stands among keys exactly where it stands among the others
any_of_others : (key k : GridKey) (keys : List GridKey) → same_key k key ≡ false → list_any (same_key k) (others key keys) ≡ list_any (same_key k) keys
any_of_others key k [] differ = refl
any_of_others key k (x ∷ xs) differ = elim (cases_Bool (same_key key x)) [
  | inl same ↦
      let is : key ≡ x = same_key-is key x same in
      let off : same_key k x ≡ false = rw (← is) differ in
      rw (same, off) (any_of_others key k xs differ)
  | inr other ↦ rw other (ap (λ b. same_key k x || b) (any_of_others key k xs differ))
]

-- a key is put after the others, or was there
others_put : (key k : GridKey) (keys : List GridKey) → key ∷ others key (insert_key same_key keys k) ≡ insert_key same_key (key ∷ others key keys) k
others_put key k keys = elim (cases_Bool (same_key k key)) [
  | inl same ↦
      let is : k ≡ key = same_key-is k key same in
      let back : same_key key k ≡ true = same_key-equal key k (sym is) in
      elim (cases_Bool (list_any (same_key k) keys)) [
        | inl there ↦ rw (same, there) refl
        | inr none ↦
            let ends : others key (keys ++ k ∷ []) ≡ others key keys ++ others key (k ∷ []) = filter-append (λ other. not (same_key key other)) keys (k ∷ []) in
            let none_left : others key (k ∷ []) ≡ [] = rw back refl in
            rw (same, none) (ap (λ ks. key ∷ ks) (ends ∙ ap (λ ks. others key keys ++ ks) none_left ∙ append-nil (others key keys)))
      ]
  | inr differ ↦
      let apart : same_key key k ≡ false = false_from_ne_true (same_key key k) (λ same. let other = same_key-equal k key (sym (same_key-is key k same)) in cc) in
      let any = any_of_others key k keys differ in
      elim (cases_Bool (list_any (same_key k) keys)) [
        | inl there ↦ let too = any ∙ there in rw (differ, there, too) refl
        | inr none ↦
            let too = any ∙ none in
            let ends : others key (keys ++ k ∷ []) ≡ others key keys ++ others key (k ∷ []) = filter-append (λ other. not (same_key key other)) keys (k ∷ []) in
            let one_left : others key (k ∷ []) ≡ k ∷ [] = rw apart refl in
            rw (differ, none, too) (ap (λ ks. key ∷ ks) (ends ∙ ap (λ ks. others key keys ++ ks) one_left))
      ]
]

-- one more key goes last, unless it was seen
pub seen_push : (keys : List GridKey) (k : GridKey) → first_seen (keys ++ k ∷ []) ≡ insert_key same_key (first_seen keys) k
seen_push [] k = refl
seen_push (key ∷ keys) k = ap (λ ks. key ∷ others key ks) (seen_push keys k) ∙ others_put key k (first_seen keys)

-- so keys that are put one after the other are those that are first seen
pub put_all : (keys : List GridKey) → insert_all same_key [] keys ≡ first_seen keys
put_all = by_push (λ keys. insert_all same_key [] keys ≡ first_seen keys) refl
    (λ keys k before. fold-append (insert_key same_key) [] keys (k ∷ []) ∙ ap (λ ks. insert_key same_key ks k) before ∙ sym (seen_push keys k))

-- no two of them are the same
pub seen_differ : (keys : List GridKey) → KeysDiffer (first_seen keys)
seen_differ [] = λ i j d less below. absurd (omega arith)
seen_differ (key ∷ keys) =
    let passes = filter_passes (λ other. not (same_key key other)) (first_seen keys) in
    AllPairs-cons (λ a b. same_key a b ≡ false) key (others key (first_seen keys))
    (λ k d below. not-true (same_key key (get_or (others key (first_seen keys)) k d)) (passes k d below))
    (AllPairs-filter (λ a b. same_key a b ≡ false) (λ other. not (same_key key other)) (first_seen keys) (seen_differ keys))

-- what holds of each key holds of those
pub seen_all : (P : GridKey → Type 0) (keys : List GridKey) → All P keys → All P (first_seen keys)
seen_all P [] all = all
seen_all P (key ∷ keys) all =
    All-cons P key (others key (first_seen keys)) (All-head P key keys all)
    (All-filter (λ other. not (same_key key other)) P (first_seen keys) (seen_all P keys (All-tail P key keys all)))

-- the wanted keys are put one after the other
pub wanted_is : (control : ControlValues) (events : List (List Pick)) (keys : List GridKey)
    → keys ≡ insert_all same_key [] (keys_of control (flat_map (λ picks. picks) events)) → keys ≡ wanted_keys control events
unfolding wanted_keys
wanted_is control events keys put = put ∙ put_all (keys_of control (flat_map (λ picks. picks) events))

-- no two of them are the same
pub wanted_differ : (control : ControlValues) (events : List (List Pick)) → KeysDiffer (wanted_keys control events)
unfolding wanted_keys
wanted_differ control events = seen_differ (keys_of control (flat_map (λ picks. picks) events))

-- a key is seen exactly where it stands among the keys
any_of_seen : (k : GridKey) (keys : List GridKey) → list_any (same_key k) (first_seen keys) ≡ list_any (same_key k) keys
any_of_seen k [] = refl
any_of_seen k (key ∷ keys) = elim (cases_Bool (same_key k key)) [
  | inl same ↦ rw same refl
  | inr differ ↦ rw differ (any_of_others key k (first_seen keys) differ ∙ any_of_seen k keys)
]

module _ (control : ControlValues) where
  -- keys before and after others
  has_in_front : (keys more : List GridKey) (pick : Pick) → HoldsKeyOf control keys pick → HoldsKeyOf control (keys ++ more) pick
  has_in_front keys more pick has wanted =
      let test : GridKey → Bool = same_key (key_of control pick) in
      list_any-append test keys more ∙ or_left (list_any test keys) (list_any test more) (has wanted)

  has_behind : (more keys : List GridKey) (pick : Pick) → HoldsKeyOf control keys pick → HoldsKeyOf control (more ++ keys) pick
  has_behind more keys pick has wanted =
      let test : GridKey → Bool = same_key (key_of control pick) in
      list_any-append test more keys ∙ or_right (list_any test more) (list_any test keys) (has wanted)

  -- the keys of picks and of more picks
  keys_append : (picks more : List Pick) → keys_of control (picks ++ more) ≡ keys_of control picks ++ keys_of control more
  keys_append picks more =
      ap (map (key_of control)) (filter-append (is_wanted control) picks more) ∙ map-append (key_of control) (filter (is_wanted control) picks) (filter (is_wanted control) more)

  -- a pick has its own key
  has_own : (pick : Pick) → HoldsKeyOf control (keys_of control (pick ∷ [])) pick
  has_own pick wanted = rw wanted (or_left (same_key (key_of control pick) (key_of control pick)) false (same_key-equal (key_of control pick) (key_of control pick) refl))

  -- each pick of a list has its key among those of the list
  keys_held : (picks : List Pick) → All (HoldsKeyOf control (keys_of control picks)) picks
  keys_held [] = All-nil (HoldsKeyOf control [])
  keys_held (pick ∷ picks) =
      let own = keys_of control (pick ∷ []) in
      let rest = keys_of control picks in
      subst (λ keys. All (HoldsKeyOf control keys) (pick ∷ picks)) (sym (keys_append (pick ∷ []) picks))
      (All-cons (HoldsKeyOf control (own ++ rest)) pick picks (has_in_front own rest pick (has_own pick))
      (All-weaker (HoldsKeyOf control rest) (HoldsKeyOf control (own ++ rest)) (has_behind own rest) picks (keys_held picks)))

  -- each pick of each event has it among those of all
  flat_held : (events : List Event)
      → All (λ (event : Event). All (HoldsKeyOf control (keys_of control (flat_map (λ ps. ps) (picks_of_events events)))) event.picks.items) events
  flat_held [] = All-nil (λ (event : Event). All (HoldsKeyOf control []) event.picks.items)
  flat_held (event ∷ events) =
      let picks = event.picks.items in
      let own = keys_of control picks in
      let rest = keys_of control (flat_map (λ ps. ps) (picks_of_events events)) in
      subst (λ keys. All (λ (e : Event). All (HoldsKeyOf control keys) e.picks.items) (event ∷ events)) (sym (keys_append picks (flat_map (λ ps. ps) (picks_of_events events))))
      (All-cons (λ (e : Event). All (HoldsKeyOf control (own ++ rest)) e.picks.items) event events
      (All-weaker (HoldsKeyOf control own) (HoldsKeyOf control (own ++ rest)) (has_in_front own rest) picks (keys_held picks))
      (All-weaker (λ (e : Event). All (HoldsKeyOf control rest) e.picks.items) (λ (e : Event). All (HoldsKeyOf control (own ++ rest)) e.picks.items)
      (λ e has. All-weaker (HoldsKeyOf control rest) (HoldsKeyOf control (own ++ rest)) (has_behind own rest) e.picks.items has) events (flat_held events)))

  -- so it has it among the wanted keys
  pub wanted_held : (events : List Event) → All (λ (event : Event). HoldsKeysOf control (wanted_keys control (picks_of_events events)) event.picks.items) events
  unfolding wanted_keys
  wanted_held events =
      let keys = keys_of control (flat_map (λ ps. ps) (picks_of_events events)) in
      All-weaker (λ (e : Event). All (HoldsKeyOf control keys) e.picks.items) (λ (e : Event). HoldsKeysOf control (first_seen keys) e.picks.items)
      (λ e has. All-weaker (HoldsKeyOf control keys) (HoldsKeyOf control (first_seen keys)) (λ pick one wanted. any_of_seen (key_of control pick) keys ∙ one wanted) e.picks.items has)
      events (flat_held events)
