-- Names: the words that may name a file, a station or a phase.
use Rattle.std.specs.Prelude.{ℕ, Bool, ◌&&◌, nat_le, List, length}
use Rattle.std.specs.List.{list_all}

-- a byte of a name: printing ASCII but the blank
abbrev pub is_name_byte : ℕ → Bool
is_name_byte b = nat_le 33 b && nat_le b 126

-- a name of one byte or more, and at most so many
abbrev pub is_name : ℕ → List ℕ → Bool
is_name most word = nat_le 1 (length word) && nat_le (length word) most && list_all is_name_byte word
