-- What a level list keeps beside its items: the marks by which they are found, where there are many.
use Rattle.level_items.specs.declared.marks.Marks.{Marks}
use Rattle.level_items.specs.Levels.{Level, KeepsLevelRule}
use Rattle.level_items.specs.Inner.Marked.{AreMarked, is_id_of}

-- the level rule, with the marks
pub record IsKept (level : Level) (marks : Marks) : Type 0 where
  pub rule : KeepsLevelRule level
  pub marked : AreMarked (is_id_of level.items) marks
