-- The lines of a certificate: what each has to be, and the ranges of its numbers.
use Rattle.std.specs.Prelude.{ℕ, Bool, true, false, ◌&&◌, nat_le, List, [], ◌∷◌, codes}
use Rattle.cover_certificate.specs.declared.line_form.LineForm.{LineForm}
use Rattle.cover_certificate.specs.declared.line_form.LineForm.TheVariants.{Best, Near, Entry, Cover, Area}
use Rattle.cover_certificate.specs.declared.line_form.Slot.{Slot}

-- what a line has to be: the first line of a kind, or one of numbers, or the last
pub data Wanted : Type 0 where
  FirstLine : Wanted
  Numbered : LineForm → Wanted
  LastLine : Wanted

-- what stands before the numbers of a line
abbrev pub head_of : LineForm → List ℕ
head_of Best = codes "BEST "
head_of Near = codes "NEAR "
head_of Entry = []
head_of Cover = codes "COVER "
head_of Area = []

-- a number from the least to the most, of 32 or 64 bits
abbrev pub slot_from : ℕ → ℕ → Slot
slot_from least most = record { least = least; most = most; limit = most }

-- a count, which has a limit of its own
abbrev pub count_to : ℕ → Slot
count_to limit = record { least = 0; most = 4294967295; limit = limit }

-- a node or an end of a range
abbrev pub node_slot : Slot
node_slot = slot_from 0 4294967295

-- a score or a bound
abbrev pub score_slot : Slot
score_slot = slot_from 0 18446744073709551615

-- what the numbers of a line may be
abbrev pub slots_of : LineForm → List Slot
slots_of Best = node_slot ∷ slot_from 1 18446744073709551615 ∷ []
slots_of Near = count_to 100000 ∷ []
slots_of Entry = node_slot ∷ score_slot ∷ []
slots_of Cover = count_to 2000000 ∷ []
slots_of Area = node_slot ∷ node_slot ∷ node_slot ∷ node_slot ∷ node_slot ∷ node_slot ∷ score_slot ∷ []

-- a number that a slot allows
abbrev pub is_allowed : Slot → ℕ → Bool
is_allowed slot number = nat_le slot.least number && nat_le number slot.most && nat_le number slot.limit

-- as many numbers as slots, each allowed by its slot
abbrev pub are_allowed : List Slot → List ℕ → Bool
are_allowed [] [] = true
are_allowed [] (number ∷ numbers) = false
are_allowed (slot ∷ slots) [] = false
are_allowed (slot ∷ slots) (number ∷ numbers) = is_allowed slot number && are_allowed slots numbers
