-- The names of the files of a time grid.
use Rattle.std.specs.Prelude.{ℕ, List, ◌++◌, codes}
use Rattle.control_reader.specs.ControlValues.{ControlValues}
use Rattle.station_table.specs.declared.keys.GridKey.{GridKey}

-- what the names of both files of a key begin with: root, phase of the grid and station
abbrev pub grid_name : ControlValues → GridKey → List ℕ
grid_name control key = control.time_root ++ codes "." ++ key.grid_phase ++ codes "." ++ key.station

-- the name of the header
unfoldable pub header_name : ControlValues → GridKey → List ℕ
header_name control key = grid_name control key ++ codes ".time.hdr"

-- the name of the body
unfoldable pub body_name : ControlValues → GridKey → List ℕ
body_name control key = grid_name control key ++ codes ".time.usec"
