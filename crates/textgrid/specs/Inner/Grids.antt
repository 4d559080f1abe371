-- Words of contracts and loops beside `specs/Grids.antt`; no promise of the program rests on them.
use Rattle.std.specs.Prelude.{ℕ, Bool, List, Result}
use Rattle.textgrid.specs.declared.fault.GridFault.{GridFault}
use Rattle.textgrid.specs.declared.grid.Grid.{Grid}
use Rattle.textgrid.specs.Encodings.{utf16_of}
use Rattle.textgrid.specs.Grids.{grid_of_decoded}

-- the grid of a text in UTF-16
abbrev pub grid_of_utf16 : Bool → List ℕ → Result Grid GridFault
grid_of_utf16 big bs = grid_of_decoded (utf16_of big bs)
