-- The line that tells of a refusal.
use Rattle.std.specs.Prelude.{ℕ, Bool, true, List, codes}
use Rattle.text_terms.specs.Names.{is_name}
use Rattle.run_input.specs.declared.refusals.Refusal.{Refusal}
use Rattle.run_input.specs.declared.refusals.Refusal.TheVariants.{Control, ControlTooLong, Phases, PhasesTooLong, Header, HeaderLong, Body, Align, Cells, Absent, Read, Memory}
use Rattle.run_input.specs.CauseNames.{header_cause_name, body_cause_name, axis_cause_name}
use Rattle.run_input.specs.Lines.{control_line, control_too_long_line, phases_line, phases_too_long_line, header_line, body_line, cells_line, memory_line, read_line, absent_line}

-- the line of a program that tells of a refusal
abbrev pub refusal_line : List ℕ → Refusal → List ℕ
refusal_line program (Control fault) = control_line program fault
refusal_line program (ControlTooLong file) = control_too_long_line program file
refusal_line program (Phases fault) = phases_line program fault
refusal_line program PhasesTooLong = phases_too_long_line program
refusal_line program (Header name cause) = header_line program name (header_cause_name cause)
refusal_line program (HeaderLong name) = header_line program name (codes "TooLong")
refusal_line program (Body name cause) = body_line program name (body_cause_name cause)
refusal_line program (Align name axis) = body_line program name (axis_cause_name axis)
refusal_line program Cells = cells_line program
refusal_line program Memory = memory_line program
refusal_line program (Read name) = read_line program name
refusal_line program (Absent name) = absent_line program name

-- the file that a refusal names has a name, where it names one
abbrev pub is_named : Refusal → Bool
is_named (Control fault) = true
is_named (ControlTooLong file) = true
is_named (Phases fault) = true
is_named PhasesTooLong = true
is_named (Header name cause) = is_name 512 name
is_named (HeaderLong name) = is_name 512 name
is_named (Body name cause) = is_name 512 name
is_named (Align name axis) = is_name 512 name
is_named Cells = true
is_named Memory = true
is_named (Read name) = is_name 512 name
is_named (Absent name) = is_name 512 name
