-- Times that are converted in place.
use Rattle.std.proofs.Common.{◌≡◌, ℕ, ◌+◌, ◌<◌, ◌≤◌, List, length, map, get_or, Some, None, inl, inr, refl, ap, ◌∙◌, arith}
use Rattle.std.specs.Prelude.{position}
use Rattle.std.specs.List.{slice_set}
use Rattle.std.proofs.lemmas.Bool.{cases_lt, le-ltb, lt-ltb}
use Rattle.std.proofs.lemmas.List.{ext_get_or, get_or-map, get_or-set_same, get_or-set_other, length-map, length-set}
use Rattle.node_boxes.specs.declared.limits.TheConstants.{GREATEST_TIME}
use Rattle.time_grid.specs.Numbers.{is_over}
use Rattle.event_assembly.specs.Inside.Reads.{Converts}
use Rattle.event_assembly.proofs.PlaceLaws.{position_at, position_nowhere}

-- the times before a place are converted and within their limit, and the others stand as they were
pub record Converted (f : ℕ → ℕ) (before now : List ℕ) (n : ℕ) : Type 0 where
  pub long : length now ≡ length before
  pub done : (k : ℕ) → k < n → get_or now k 0 ≡ f (get_or before k 0)
  pub within : (k : ℕ) → k < n → f (get_or before k 0) ≤ GREATEST_TIME
  pub rest : (k : ℕ) → n ≤ k → get_or now k 0 ≡ get_or before k 0

-- at the start all stand as they were
pub Converted-none : (f : ℕ → ℕ) (times : List ℕ) → Converted f times times 0
Converted-none f times = record {
  long = refl;
  done = λ k below. absurd (omega arith);
  within = λ k below. absurd (omega arith);
  rest = λ k from. refl;
}

-- one more time is converted
pub Converted-more : (f : ℕ → ℕ) (before now after : List ℕ) (n time : ℕ) → Converted f before now n → n < length now
    → time ≡ f (get_or now n 0) → time ≤ GREATEST_TIME → after ≡ slice_set now n time → Converted f before after (n + 1)
Converted-more f before now after n time kept inside is few put =
    let here : get_or now n 0 ≡ get_or before n 0 = kept.rest n (omega arith) in
    let value : time ≡ f (get_or before n 0) = is ∙ ap f here in
    record {
      long = rw put (length-set now n time ∙ kept.long);
      done = λ k below. elim (cases_lt k n) [
        | inl low ↦ rw put (get_or-set_other now n k time 0 (λ same. absurd (omega arith)) ∙ kept.done k low)
        | inr high ↦ let same : k ≡ n = omega arith in rw (same, put) (get_or-set_same now n time 0 inside ∙ value)
      ];
      within = λ k below. elim (cases_lt k n) [
        | inl low ↦ kept.within k low
        | inr high ↦ let same : k ≡ n = omega arith in rw (same, ← value) few
      ];
      rest = λ k from. rw put (get_or-set_other now n k time 0 (λ same. absurd (omega arith)) ∙ kept.rest k (omega arith));
    }

-- the first time past the limit
pub Converted-over : (f : ℕ → ℕ) (before now : List ℕ) (n time : ℕ) → Converted f before now n → n < length now → time ≡ f (get_or now n 0)
    → GREATEST_TIME < time → position is_over (map f before) ≡ Some n
Converted-over f before now n time kept inside is over =
    let here : get_or now n 0 ≡ get_or before n 0 = kept.rest n (omega arith) in
    let value : time ≡ f (get_or before n 0) = is ∙ ap f here in
    let long = kept.long in
    let below : n < length before = omega arith in
    position_at is_over (map f before) n (rw (length-map before f) below)
    (rw (get_or-map f before n 0 0 below, ← value) (lt-ltb GREATEST_TIME time over))
    (λ k less.
    let first : k < length before = omega arith in
    rw (get_or-map f before k 0 0 first) (le-ltb GREATEST_TIME (f (get_or before k 0)) (kept.within k less)))

-- all times are converted
pub Converted-all : (f : ℕ → ℕ) (before now : List ℕ) (n : ℕ) → Converted f before now n → length now ≤ n → Converts (map f before) now None
Converted-all f before now n kept all =
    let long = kept.long in (
      ext_get_or 0 now (map f before) (rw (length-map before f) kept.long)
          (λ k below. let inside : k < length before = omega arith in rw (get_or-map f before k 0 0 inside) (kept.done k (omega arith))),
      position_nowhere is_over (map f before)
          (λ k below.
          let short = length-map before f in
          let inside : k < length before = omega arith in
          rw (get_or-map f before k 0 0 inside) (le-ltb GREATEST_TIME (f (get_or before k 0)) (kept.within k (omega arith)))),
    )
