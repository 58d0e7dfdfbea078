-- How a body that comes piece by piece is judged.
use Rattle.std.specs.Prelude.{◌≡◌, ⊤, ℕ, ◌+◌, ◌<◌, ◌≤◌, List, [], drop, length, slice_index, Option, Some, None, Result, Ok, Err}
use Rattle.node_boxes.specs.declared.limits.TheConstants.{GREATEST_TIME}
use Rattle.edt_outside.specs.declared.faults.OpenFault.{OpenFault}
use Rattle.edt_outside.specs.declared.faults.OpenFault.TheVariants.{Absent as open_absent, Failed as open_failed, Memory as open_memory}
use Rattle.time_grid.specs.declared.faults.GridFault.{GridFault}
use Rattle.time_grid.specs.declared.faults.GridFault.TheVariants.{Absent, Failed, Short, Long, TimeLimit, Memory}

-- the first of n times that is past the limit, or none
abbrev pub IsFirstOver : (ℕ → ℕ) → ℕ → Option ℕ → Type 0
IsFirstOver times n None = (k : ℕ) → k < n → times k ≤ GREATEST_TIME
IsFirstOver times n (Some first) = (first < n) × (GREATEST_TIME < times first) × ((k : ℕ) → k < first → times k ≤ GREATEST_TIME)

-- the answer for the body of a grid of n nodes that ended after `passed` whole numbers, of which `over` is the first past the limit
abbrev pub JudgesBody : ℕ → ℕ → Option ℕ → Result ⊤ GridFault → Type 0
JudgesBody n passed over (Ok _) = (n ≤ passed) × (over ≡ None)
JudgesBody n passed over (Err Absent) = ⊥
JudgesBody n passed over (Err Failed) = ⊥
JudgesBody n passed over (Err Short) = passed < n
JudgesBody n passed over (Err Long) = ⊥
JudgesBody n passed over (Err (TimeLimit node)) = (n ≤ passed) × (over ≡ Some node)
JudgesBody n passed over (Err Memory) = ⊥

-- the refusal of a body whose file is not opened
abbrev pub opening : OpenFault → GridFault
opening open_absent = Absent
opening open_failed = Failed
opening open_memory = Memory

-- a read that gave n bytes after the first `held` of a buffer: the first n unread ones, which are then removed, and none only at the end
pub record IsAfter (unread : List ℕ) (n held : ℕ) (buffer : List ℕ) (left : Option (List ℕ)) : Type 0 where
  pub there : n ≤ length unread
  pub given : (i : ℕ) → i < n → slice_index buffer (held + i) ≡ slice_index unread i
  pub removed : left ≡ Some (drop n unread)
  pub ends : n ≡ 0 → unread ≡ []
