-- Words of contracts and loops beside `specs/Levels.antt`; no promise of the program rests on them.
use Rattle.std.specs.Prelude.{ℕ, ◌+◌, ◌-◌, List, [], ◌∷◌, ◌++◌, Result, Ok, Err}
use Rattle.level_items.specs.declared.annot.AnnotItem.{AnnotItem}
use Rattle.level_items.specs.declared.annot.AnnotLevel.{AnnotLevel}
use Rattle.textgrid.specs.declared.fault.GridFault.{GridFault}
use Rattle.textgrid.specs.declared.grid.GridTier.{GridTier}
use Rattle.textgrid.specs.Levels.{entry_count}

-- how many entries tiers have together
abbrev pub entry_total : List GridTier → ℕ
entry_total [] = 0
entry_total (t ∷ ts) = entry_count t.entries + entry_total ts

-- items that were made, in front of more
abbrev pub items_before : List AnnotItem → Result (List AnnotItem) GridFault → Result (List AnnotItem) GridFault
items_before made (Ok items) = Ok (made ++ items)
items_before made (Err fault) = Err fault

-- levels that were made, in front of more
abbrev pub levels_before : List AnnotLevel → Result (List AnnotLevel) GridFault → Result (List AnnotLevel) GridFault
levels_before made (Ok levels) = Ok (made ++ levels)
levels_before made (Err fault) = Err fault
