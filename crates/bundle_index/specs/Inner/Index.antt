-- Words of contracts and loops beside `specs/Index.antt`; no promise of the program rests on them.
use Rattle.std.specs.Prelude.{◌≢◌, ℕ, Bool, true, false, List, [], ◌∷◌, length, if◌then◌else◌, Some}
use Rattle.std.specs.List.{slice_get}
use Rattle.level_items.specs.Levels.{label_of}
use Rattle.std.specs.Option.{option_map, option_map_or}
use Rattle.std.specs.Str.{bytes_eq}
use Rattle.emu_names.specs.declared.kinds.LevelKind.TheVariants as kinds
use Rattle.level_items.specs.declared.times.Time.{Time}
use Rattle.level_items.specs.declared.times.Time.TheVariants.{NoTime, Span, Point}
use Rattle.level_items.specs.declared.items.Item.{Item}
use Rattle.level_items.specs.Times.{first_sample}
use Rattle.lane_bits.specs.Inner.Row.{is_between}
use Rattle.bundle_state.specs.Bundle.{BundleParts}

-- how many attributes that level has
abbrev pub attributes_on : BundleParts → ℕ → ℕ
attributes_on bundle level = option_map_or (λ l. l.attributes) (slice_get bundle.levels level) 0

-- the items of that level have times: it is a SEGMENT or an EVENT level
abbrev pub IsTimed : BundleParts → ℕ → Type 0
IsTimed bundle level = option_map (λ l. l.kind) (slice_get bundle.levels level) ≢ Some kinds.Item

-- whether this is the label of an item for the attribute
abbrev pub has_label : ℕ → List ℕ → Item → Bool
has_label attribute label item = bytes_eq label (label_of attribute item)

-- whether an item starts or lies from `low` to `high`
abbrev pub starts_within : ℕ → ℕ → Item → Bool
starts_within low high item = is_between low high (first_sample item.time)

-- there is a time
abbrev pub has_time : Time → Bool
has_time NoTime = false
has_time (Span start dur) = true
has_time (Point at) = true

-- whether the first item has a time
abbrev pub have_times : List Item → Bool
have_times [] = false
have_times (item ∷ items) = has_time item.time

-- a column of times, or none where the items have no times
abbrev pub if_timed : List Item → List ℕ → List ℕ
if_timed items column = if have_times items then column else []

-- how many labels the first item has, or 0
abbrev pub label_count : List Item → ℕ
label_count [] = 0
label_count (item ∷ items) = length item.labels
