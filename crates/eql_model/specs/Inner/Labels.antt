-- Words of contracts and loops beside `specs/Labels.antt`; no promise of the program rests on them.
use Rattle.std.specs.Prelude.{ℕ, Bool, List, map}
use Rattle.level_items.specs.declared.items.Item.{Item}
use Rattle.label_match.specs.Pattern.{matches_label}
use Rattle.level_items.specs.Levels.{label_of}

-- for each item whether a pattern matches its label
abbrev pub matched_row : ℕ → List Item → List ℕ → List Bool
matched_row attribute items pattern = map (λ item. matches_label pattern (label_of attribute item)) items
