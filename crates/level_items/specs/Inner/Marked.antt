-- Which ids are marked.
use Rattle.std.specs.Prelude.{◌≡◌, ℕ, Bool, List, IfSome, is_some, nat_eq}
use Rattle.std.specs.Arc.{arc_value}
use Rattle.std.specs.HashMap.{HashMap, get}
use Rattle.std.specs.List.{list_any}
use Rattle.level_items.specs.declared.items.Item.{Item}
use Rattle.level_items.specs.declared.marks.Marks.{Marks}
use Rattle.level_items.specs.Levels.{ids_of}

-- whether an id has a mark
abbrev pub is_marked : {S : Type 0} → HashMap ℕ ℕ S → ℕ → Bool
is_marked map q = is_some (get nat_eq map q)

-- whether one of these items has this id
abbrev pub is_id_of : List Item → ℕ → Bool
is_id_of items q = list_any (nat_eq q) (ids_of items)

-- where there is a map, the marked ids are those that pass this test
abbrev pub AreMarked : (ℕ → Bool) → Marks → Type 0
AreMarked test marks = IfSome marks.map (λ map. (q : ℕ) → is_marked (arc_value map) q ≡ test q)

-- whatever ids were marked, now those are that pass the test which is made of theirs
abbrev pub KeepsMarked : ((ℕ → Bool) → ℕ → Bool) → Marks → Marks → Type 0
KeepsMarked change old new = (test : ℕ → Bool) → AreMarked test old → AreMarked (change test) new
