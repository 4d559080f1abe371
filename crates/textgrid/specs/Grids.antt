-- The grid that the bytes of a file hold, or the first fault.
use Rattle.std.specs.Prelude.{ℕ, List, length, unwrap_or, Result, Ok, Err}
use Rattle.textgrid.specs.declared.fault.GridFault.{GridFault}
use Rattle.textgrid.specs.declared.fault.GridFault.TheVariants.{Expected}
use Rattle.textgrid.specs.declared.values.Placed.{Placed}
use Rattle.textgrid.specs.declared.grid.Grid.{Grid}
use Rattle.textgrid.specs.Encodings.{text_of}
use Rattle.textgrid.specs.Values.{values_of}
use Rattle.textgrid.specs.Reading.{Answer, grid_at}

-- what is answered of a text of so many bytes
abbrev pub grid_answer : ℕ → Answer Grid → Result Grid GridFault
grid_answer len (Ok r) = Ok r.0
grid_answer len (Err e) = Err (Expected (unwrap_or e.0 len) e.1)

-- the grid that the values are, or the fault that came before it
abbrev pub grid_of_values : ℕ → Result (List Placed) GridFault → Result Grid GridFault
grid_of_values len (Ok values) = grid_answer len (grid_at values)
grid_of_values len (Err fault) = Err fault

-- the grid of a text
unfoldable pub grid_of_text : List ℕ → Result Grid GridFault
grid_of_text text = grid_of_values (length text) (values_of text)

-- the grid of a text that may have a fault
abbrev pub grid_of_decoded : Result (List ℕ) GridFault → Result Grid GridFault
grid_of_decoded (Ok text) = grid_of_text text
grid_of_decoded (Err fault) = Err fault

-- the grid of the bytes of a file
unfoldable pub grid_of : List ℕ → Result Grid GridFault
grid_of bytes = grid_of_decoded (text_of bytes)
