-- What single statements say, by the words after their keywords.
use Rattle.std.specs.Prelude.{ℕ, ◌==◌, ◌&&◌, Bool, not, nat_lt, if◌then◌else◌, max, min, List, length, map, drop, ℤ, pos, negsuc, unsigned_abs, codes}
use Rattle.std.specs.Str.{bytes_eq}
use Rattle.kernel_table.specs.declared.kernels.Shape.{Shape}
use Rattle.kernel_table.specs.declared.kernels.Shape.TheVariants.{Gauss, Triangle, Count}
use Rattle.node_boxes.specs.declared.frame.Frame.{Frame}
use Rattle.node_boxes.specs.Grid.{grid_size}
use Rattle.control_reader.specs.declared.control.PhaseId.{PhaseId}
use Rattle.control_reader.specs.declared.control.Exclude.{Exclude}
use Rattle.control_reader.specs.declared.control.Delay.{Delay}
use Rattle.control_reader.specs.declared.control.Alias.{Alias}
use Rattle.control_reader.specs.declared.values.Files.{Files}
use Rattle.control_reader.specs.declared.values.Method.{Method}
use Rattle.text_terms.specs.Words.{word_at}
use Rattle.control_reader.specs.Words.{whole_at, millionths_at, count_at}

-- the statement has a word at the place
abbrev pub has_word : ℕ → List (List ℕ) → Bool
has_word k words = nat_lt k (length words)

-- LOCFILES: obsFiles, obsFileType, travelTimeFileRoot, outputFileRoot and, optional, iSwapBytes
unfoldable pub files_of : List (List ℕ) → Files
files_of words = record {
  obs_file = word_at 0 words;
  time_root = word_at 2 words;
  swap = has_word 4 words && (count_at 4 words == 1);
}

-- LOCGRID: three counts of nodes, the first node's place and the spacings
unfoldable pub frame_of : List (List ℕ) → Frame
frame_of words = record {
  grid = grid_size (count_at 0 words) (count_at 1 words) (count_at 2 words);
  ox = millionths_at 3 words;
  oy = millionths_at 4 words;
  oz = millionths_at 5 words;
  dx = millionths_at 6 words;
  dy = millionths_at 7 words;
  dz = millionths_at 8 words;
}

-- LOCMETH: method, maxDistStaGrid, minNumberPhases, maxNumberPhases, minNumberSphases, VpVs, maxNum3DGridMemory and, optional,
-- minDistStaGrid, by default -1 km, and iRejectDuplicateArrivals, where 0 means keep and all else reject, by default reject
unfoldable pub method_of : List (List ℕ) → Method
method_of words = record {
  max_dist = millionths_at 1 words;
  min_dist = if has_word 7 words then millionths_at 7 words else negsuc 999999;
  min_phases = whole_at 2 words;
  max_phases = whole_at 3 words;
  min_s = whole_at 4 words;
  vpvs = millionths_at 5 words;
  reject_duplicates = not (has_word 8 words && (count_at 8 words == 0));
}

-- LOCGAU: SigmaTime, in microseconds
unfoldable pub sigma_of : List (List ℕ) → ℕ
sigma_of words = unsigned_abs (millionths_at 0 words)

-- a count of cells, brought into the range from 1 to 4096
abbrev pub cells_of_number : ℤ → ℕ
cells_of_number (pos n) = max 1 (min n 4096)
cells_of_number (negsuc n) = 1

-- LOCSEARCH: after OCT the initial cells along x, y and z; one along each axis for other search types
unfoldable pub cells_of : List (List ℕ) → ℕ × ℕ × ℕ
cells_of words =
    if bytes_eq (word_at 0 words) (codes "OCT")
    then (cells_of_number (whole_at 1 words), cells_of_number (whole_at 2 words), cells_of_number (whole_at 3 words))
    else (1, 1, 1)

-- LOCPHASEID: the standard phase, and then the phase words that mean it
unfoldable pub phase_ids_of : List (List ℕ) → List PhaseId
phase_ids_of words = map (λ (code : List ℕ). record { standard = word_at 0 words; code = code }) (drop 1 words)

-- LOCEXCLUDE: station and phase
unfoldable pub exclude_of : List (List ℕ) → Exclude
exclude_of words = record { station = word_at 0 words; phase = word_at 1 words }

-- LOCDELAY: station, phase, numReadings and the delay, in microseconds
unfoldable pub delay_of : List (List ℕ) → Delay
delay_of words = record { station = word_at 0 words; phase = word_at 1 words; delay = millionths_at 3 words }

-- LOCALIAS: station, alias, and year, month and day of the start and of the end
unfoldable pub alias_of : List (List ℕ) → Alias
alias_of words = record {
  station = word_at 0 words;
  alias = word_at 1 words;
  from = (whole_at 2 words, whole_at 3 words, whole_at 4 words);
  to = (whole_at 5 words, whole_at 6 words, whole_at 7 words);
}

-- CONTROL: messageFlag and randomNumberSeed
unfoldable pub seed_of : List (List ℕ) → ℤ
seed_of words = whole_at 1 words

-- INCLUDE: the name of the file
unfoldable pub include_of : List (List ℕ) → List ℕ
include_of words = word_at 0 words

-- EDTNEAR: the margin; EDTBUDGET: the budget; EDTLANES: the number of lanes
unfoldable pub count_of : List (List ℕ) → ℕ
count_of words = count_at 0 words

-- EDTKERNEL: the kernel, after COUNT with its limit, in microseconds
unfoldable pub shape_of : List (List ℕ) → Shape
shape_of words =
    if bytes_eq (word_at 0 words) (codes "COUNT") then Count (unsigned_abs (millionths_at 1 words))
    else if bytes_eq (word_at 0 words) (codes "TRIANGLE") then Triangle
    else Gauss
