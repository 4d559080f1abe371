-- Laws over the definitions.
use Rattle.std.specs.Prelude.{◌≡◌, nat_eq}
use Rattle.std.specs.List.{IsDistinct}
use Rattle.emu_names.specs.declared.kinds.LevelKind.TheVariants as kinds
use Rattle.level_items.specs.Levels.{Level, KeepsLevelRule}
use Rattle.link_builder.specs.Timed.{timed_pairs}

-- segments of one level do not overlap, so that each lower item stands in one pair at most
abbrev pub ItemsHaveOneSegment : Type 0
ItemsHaveOneSegment =
    (upper lower : Level) → KeepsLevelRule upper → KeepsLevelRule lower → upper.kind ≡ kinds.Segment →
    IsDistinct (λ one other. nat_eq one.to.0 other.to.0) (timed_pairs upper.items lower.items)
