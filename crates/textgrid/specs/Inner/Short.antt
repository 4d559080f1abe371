-- Decimals with at most 20 digits, as those that are read.
use Rattle.std.specs.Prelude.{◌^◌, ◌<◌, All}
use Rattle.sample_time.specs.declared.decimal.Decimal.{Decimal}
use Rattle.textgrid.specs.declared.values.Value.{Value}
use Rattle.textgrid.specs.declared.values.Value.TheVariants.{Number, Quoted, Flag}
use Rattle.textgrid.specs.declared.values.Placed.{Placed}
use Rattle.textgrid.specs.declared.scan.Piece.{Piece}
use Rattle.textgrid.specs.declared.scan.Piece.TheVariants.{Found}
use Rattle.textgrid.specs.declared.grid.GridInterval.{GridInterval}
use Rattle.textgrid.specs.declared.grid.GridPoint.{GridPoint}
use Rattle.textgrid.specs.declared.grid.GridEntries.{GridEntries}
use Rattle.textgrid.specs.declared.grid.GridEntries.TheVariants.{Intervals, Points}
use Rattle.textgrid.specs.declared.grid.GridTier.{GridTier}
use Rattle.textgrid.specs.declared.grid.Grid.{Grid}

-- the number has at most 20 digits
abbrev pub IsShort : Decimal → Type 0
IsShort number = number.digits < 10 ^ 20

-- the number that a value is, if it is one
abbrev pub IsShortValue : Value → Type 0
IsShortValue (Number number) = IsShort number
IsShortValue (Quoted text) = Unit {0}
IsShortValue (Flag exists) = Unit {0}

-- the same of a value with its place
abbrev pub IsShortPlaced : Placed → Type 0
IsShortPlaced placed = IsShortValue placed.value

-- the number that was found, if one was
abbrev pub IsShortPiece : Piece → Type 0
IsShortPiece (Found value) = IsShortValue value
IsShortPiece _ = Unit {0}

-- both ends of the interval
abbrev pub IsShortSpan : GridInterval → Type 0
IsShortSpan interval = IsShort interval.xmin × IsShort interval.xmax

-- the time of the point
abbrev pub IsShortPoint : GridPoint → Type 0
IsShortPoint point = IsShort point.time

-- the times of all entries
abbrev pub AreShort : GridEntries → Type 0
AreShort (Intervals list) = All IsShortSpan list
AreShort (Points list) = All IsShortPoint list

-- the times of a tier
abbrev pub IsShortTier : GridTier → Type 0
IsShortTier tier = IsShort tier.xmin × IsShort tier.xmax × AreShort tier.entries

-- the times of a grid
abbrev pub IsShortGrid : Grid → Type 0
IsShortGrid grid = IsShort grid.xmin × IsShort grid.xmax × All IsShortTier grid.tiers
