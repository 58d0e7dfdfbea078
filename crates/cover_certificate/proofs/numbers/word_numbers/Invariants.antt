use Rattle.std.proofs.Common.{◌≡◌, ◌++◌, length, drop, map}
use Rattle.std.specs.Prelude.{◌&&◌}
use Rattle.cover_certificate.specs.LineWords.{is_plain}
use Rattle.cover_certificate.specs.LineFaults.{all_fit, fits_limit, fits_number, number_of}
use Rattle.cover_certificate.proofs.numbers.word_numbers.Given as goal

abbrev pub invariant-loop-slot : goal.invariant-loop-slot
invariant-loop-slot l = record {
  plain : all_fit (λ slot. is_plain) (drop l.slot-index l.slots) l.words ≡ all_fit (λ slot. is_plain) l.slots l.initial.words;
  good : (l.are_numbers && all_fit fits_number (drop l.slot-index l.slots) l.words) ≡ all_fit fits_number l.slots l.initial.words;
  within : (l.are_within && all_fit fits_limit (drop l.slot-index l.slots) l.words) ≡ all_fit fits_limit l.slots l.initial.words;
  values : l.numbers ++ map number_of l.words ≡ map number_of l.initial.words;
  count : length l.numbers ≡ l.slot-index;
}
