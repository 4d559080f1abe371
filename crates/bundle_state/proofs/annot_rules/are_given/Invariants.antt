use Rattle.std.proofs.Common.{◌≡◌, map, drop}
use Rattle.std.specs.List.{list_any}
use Rattle.emu_names.specs.Texts.{same_text}
use Rattle.level_items.specs.declared.annot.AnnotLevel.{AnnotLevel}
use Rattle.bundle_state.proofs.annot_rules.are_given.Given as goal

abbrev pub invariant-loop-level : goal.invariant-loop-level
invariant-loop-level l =
    list_any (same_text l.name) (map (λ (a : AnnotLevel). a.name) (drop l.level-index l.levels))
    ≡ list_any (same_text l.name) (map (λ (a : AnnotLevel). a.name) l.levels)
