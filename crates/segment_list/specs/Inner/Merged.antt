-- Words of contracts and loops beside `specs/Merged.antt`; no promise of the program rests on them.
use Rattle.std.specs.Prelude.{List}
use Rattle.std.specs.List.{IsDistinct}
use Rattle.std.specs.Ordering.{eq_by_cmp}
use Rattle.emu_names.specs.Order.{key_cmp}
use Rattle.segment_list.specs.declared.parts.Part.{Part}
use Rattle.segment_list.specs.Merged.{keys_of}

-- no bundle has two parts
abbrev pub AreApart : List Part → Type 0
AreApart parts = IsDistinct (eq_by_cmp key_cmp) (keys_of parts)
