-- What a row of a segment list shows of a result (EMU-SDMS Manual, "The EMU Query Language (EQL)": the columns of
-- a segment list).
use Rattle.std.specs.Prelude.{ℕ, List, [], ◌∷◌, map, min, max, codes, Option, Some, None, option_map, unwrap_or}
use Rattle.std.specs.List.{join_by, slice_get}
use Rattle.std.specs.Option.{option_map_or}
use Rattle.emu_names.specs.declared.kinds.ItemId.{ItemId}
use Rattle.emu_names.specs.declared.kinds.LevelKind.{LevelKind}
use Rattle.emu_names.specs.declared.kinds.LevelKind.TheVariants as kinds
use Rattle.sample_time.specs.Micros.{micros_of_start, micros_of_end, micros_of_point}
use Rattle.level_items.specs.declared.items.Item.{Item}
use Rattle.level_items.specs.Levels.{items_at, label_of}
use Rattle.level_items.specs.Times.{first_sample, last_sample}
use Rattle.db_config.specs.declared.parts.ConfigParts.{ConfigParts}
use Rattle.db_config.specs.Lookups.{attribute_at, place_of}
use Rattle.bundle_state.specs.Bundle.{BundleParts}
use Rattle.eql_rows.specs.declared.span.Span.{Span}
use Rattle.eql_rows.specs.declared.row.Row.{Row}
use Rattle.eql_tuples.specs.Tuples.{from_to}

-- ---- what a row shows

-- the items of a result
abbrev pub items_of : BundleParts → Span → List Item
items_of b span = from_to (items_at b.levels span.level) span.first span.last

-- the labels of items, joined by `->`
abbrev pub joined_labels : ℕ → List Item → List ℕ
joined_labels attribute items = join_by (label_of attribute) (codes "->") items

-- the name of a level
abbrev pub level_name : ConfigParts → ℕ → List ℕ
level_name c level = option_map_or (λ d. d.name) (slice_get c.levels level) []

-- the name of an attribute of a level
abbrev pub attribute_name : ConfigParts → ℕ → ℕ → List ℕ
attribute_name c level attribute = option_map_or (λ a. a.name) (attribute_at (place_of level attribute) c.levels) []

-- the type of a level
abbrev pub kind_of : ConfigParts → ℕ → LevelKind
kind_of c level = unwrap_or (option_map (λ d. d.kind) (slice_get c.levels level)) kinds.Item

-- the id of the item at a position of a level
abbrev pub id_at : List Item → ℕ → ItemId
id_at items position = option_map_or (λ i. i.id) (slice_get items position) (record { 0 = 0 })

-- ---- when it is

-- the first sample of the first item and the last one of the last item
abbrev pub end_to_end : List Item → Option (ℕ × ℕ)
end_to_end [] = None
end_to_end (item ∷ []) = Some (first_sample item.time, last_sample item.time)
end_to_end (item ∷ next ∷ items) =
    option_map (λ samples. (first_sample item.time, samples.1)) (end_to_end (next ∷ items))

-- the least of a number and these numbers
abbrev pub least : ℕ → List ℕ → ℕ
least n [] = n
least n (m ∷ ms) = least (min n m) ms

-- the greatest of a number and these numbers
abbrev pub greatest : ℕ → List ℕ → ℕ
greatest n [] = n
greatest n (m ∷ ms) = greatest (max n m) ms

-- the least first sample and the greatest last one of some segments
abbrev pub extent : List Item → Option (ℕ × ℕ)
extent [] = None
extent (s ∷ ss) = Some (
  least (first_sample s.time) (map (λ i. first_sample i.time) ss),
  greatest (last_sample s.time) (map (λ i. last_sample i.time) ss),
)

-- the microseconds at which a result begins
abbrev pub start_of : LevelKind → ℕ → ℕ → ℕ
start_of kinds.Item rate sample = micros_of_start sample rate
start_of kinds.Segment rate sample = micros_of_start sample rate
start_of kinds.Event rate sample = micros_of_point sample rate

-- the microseconds at which a result ends
abbrev pub end_of : LevelKind → ℕ → ℕ → ℕ
end_of kinds.Item rate sample = micros_of_end sample rate
end_of kinds.Segment rate sample = micros_of_end sample rate
end_of kinds.Event rate sample = micros_of_point sample rate

-- ---- rows

-- the row of a result whose first and last samples these are, where it has any
abbrev pub row_between : ConfigParts → BundleParts → Option (ℕ × ℕ) → Span → Row
row_between c b samples span =
    let kind = kind_of c span.level in
    let items = items_at b.levels span.level in
    record {
      session = b.key.session;
      bundle = b.key.bundle;
      level = level_name c span.level;
      attribute = attribute_name c span.level span.attribute;
      labels = joined_labels span.attribute (items_of b span);
      start = option_map (λ s. start_of kind b.rate s.0) samples;
      end = option_map (λ s. end_of kind b.rate s.1) samples;
      sample_start = option_map (λ s. s.0) samples;
      sample_end = option_map (λ s. s.1) samples;
      rate = b.rate;
      start_item = id_at items span.first;
      end_item = id_at items span.last;
      start_pos = span.first;
      end_pos = span.last;
    }
