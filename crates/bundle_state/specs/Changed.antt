-- What becomes of a bundle where one of its items or links changes, or the rule that the change breaks
-- first (EMU-SDMS Manual, "The emuDB format": `_annot.json`).
use Rattle.std.specs.Prelude.{ℕ, not, List, [], ◌∷◌, ◌++◌, length, nat_eq, nat_le, insert, Option, Some, None, Result, Ok, if◌then◌else◌, ok_or}
use Rattle.std.specs.List.{list_any, filter}
use Rattle.std.specs.Option.{option_or}
use Rattle.emu_names.specs.declared.kinds.ItemId.{ItemId}
use Rattle.emu_names.specs.declared.rules.Broken.{Broken}
use Rattle.emu_names.specs.declared.rules.Broken.TheVariants as rules
use Rattle.level_items.specs.declared.times.Time.{Time}
use Rattle.level_items.specs.declared.items.Item.{Item}
use Rattle.level_items.specs.Levels.{Level, retimed, relabelled}
use Rattle.link_graph.specs.declared.link.Link.{Link}
use Rattle.link_graph.specs.Link.{joins, names_item, link_of, add_fault}
use Rattle.bundle_state.specs.Bundle.{BundleParts, all_ids, level_of_id, place_of}
use Rattle.bundle_state.specs.Linked.{unless_broken, kind_of, definition_for}
use Rattle.emu_names.specs.Steps.{onward}
pub use Rattle.level_items.specs.Changed.{change_level, with_item, without_item, with_changed, put_fault, new_time_fault}

-- the bundle with other levels
abbrev pub with_levels : BundleParts → List Level → BundleParts
with_levels b levels = record b { levels = levels }

-- the bundle with other links
abbrev pub with_links : BundleParts → List Link → BundleParts
with_links b links = record b { links = links }

-- the level and the position of an item, which has to be there
abbrev pub place_for : ItemId → List Level → Result (ℕ × ℕ) Broken
place_for id levels = ok_or (place_of levels id.0) (rules.NoItem id)

-- the rule that a new item breaks first: its id is on any level, or a rule of its own level
abbrev pub new_item_fault : ℕ → Option ℕ → Item → List Level → Option Broken
new_item_fault number position item levels =
    if list_any (nat_eq item.id.0) (all_ids levels) then Some (rules.IdTaken item.id)
    else put_fault number position item levels

-- a new item on the level of this number, at its place there
abbrev pub item_added : ℕ → Option ℕ → Item → BundleParts → Result BundleParts Broken
item_added number position item b =
    unless_broken (new_item_fault number position item b.levels)
    (with_levels b (change_level (with_item position item) number b.levels))

-- the links that do not name an item
abbrev pub links_without : ItemId → List Link → List Link
links_without id links = filter (λ link. not (names_item id link)) links

-- the bundle without the item at this place, and without the links that name it
abbrev pub without : ItemId → ℕ × ℕ → BundleParts → BundleParts
without id place b =
    with_links (with_levels b (change_level (without_item place.1) place.0 b.levels))
    (links_without id b.links)

-- the item taken from its level, with the links that name it
abbrev pub item_removed : ItemId → BundleParts → Result BundleParts Broken
item_removed id b = onward (place_for id b.levels) (λ place. Ok (without id place b))

-- the bundle with the item at this place changed
abbrev pub with_change : (Item → Item) → ℕ × ℕ → BundleParts → BundleParts
with_change change place b =
    with_levels b (change_level (with_changed change place.1) place.0 b.levels)

-- another label of an item
abbrev pub label_set : ItemId → ℕ → List ℕ → BundleParts → Result BundleParts Broken
label_set id attribute label b =
    onward (place_for id b.levels) (λ place. Ok (with_change (relabelled attribute label) place b))

-- another time of an item, which keeps its place
abbrev pub item_retimed : ItemId → Time → BundleParts → Result BundleParts Broken
item_retimed id time b =
    onward (place_for id b.levels)
    (λ place. unless_broken (new_time_fault place time b.levels)
    (with_change (retimed time) place b))

-- the links but that of a pair of items
abbrev pub links_but : ItemId → ItemId → List Link → List Link
links_but from to links = filter (λ link. not (joins from to link)) links

-- a place of a list of links that has not so many
abbrev pub place_fault : ℕ → List Link → Option Broken
place_fault place links = if nat_le place (length links) then None else Some rules.PositionOut

-- a pair of items that is to be taken out has to be there
abbrev pub missing_fault : ItemId → ItemId → List Link → Option Broken
missing_fault from to links = if list_any (joins from to) links then None else Some rules.NoLink

-- a new link of the definition of this number, put last
abbrev pub link_put : ItemId → ItemId → BundleParts → ℕ → Result BundleParts Broken
link_put from to b number =
    unless_broken (add_fault (kind_of b.definitions number) number from to b.links)
    (with_links b (b.links ++ link_of number from to ∷ []))

-- a new link between two items, of the definition that leads from the level of the one to that of the
-- other
abbrev pub link_added : ItemId → ItemId → BundleParts → Result BundleParts Broken
link_added from to b =
    onward (definition_for b.definitions (record { from = from; to = to })
    (level_of_id b.levels from.0) (level_of_id b.levels to.0)) (link_put from to b)

-- a new link of the definition of this number, put at a place, which is tested last
abbrev pub link_put_at : ℕ → ItemId → ItemId → BundleParts → ℕ → Result BundleParts Broken
link_put_at place from to b number =
    unless_broken (option_or (add_fault (kind_of b.definitions number) number from to b.links) (place_fault place b.links))
    (with_links b (insert b.links place (link_of number from to)))

-- a new link between two items, put at a place
abbrev pub link_inserted : ℕ → ItemId → ItemId → BundleParts → Result BundleParts Broken
link_inserted place from to b =
    onward (definition_for b.definitions (record { from = from; to = to })
    (level_of_id b.levels from.0) (level_of_id b.levels to.0)) (link_put_at place from to b)

-- the link of a pair of items taken out
abbrev pub link_removed : ItemId → ItemId → BundleParts → Result BundleParts Broken
link_removed from to b =
    unless_broken (missing_fault from to b.links) (with_links b (links_but from to b.links))
