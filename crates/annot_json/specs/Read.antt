-- The annotation of a JSON value (EMU-SDMS Manual, "The emuDB format": `_annot.json`), or its first
-- fault: the members are read in the order below.
use Rattle.std.specs.Prelude.{List, Result, Ok, codes}
use Rattle.json_view.specs.declared.faults.Shape.{Shape}
use Rattle.json_view.specs.Seen.{Seen}
use Rattle.json_view.specs.Parts.{object_of, optional_of}
use Rattle.json_view.specs.Steps.{◌>>=◌}
use Rattle.emu_names.specs.declared.kinds.LevelKind.{LevelKind}
use Rattle.emu_names.specs.declared.kinds.LevelKind.TheVariants as kinds
use Rattle.level_items.specs.declared.times.Time.{Time}
use Rattle.level_items.specs.declared.times.Time.TheVariants.{NoTime, Span, Point}
use Rattle.level_items.specs.declared.annot.AnnotLabel.{AnnotLabel}
use Rattle.level_items.specs.declared.annot.AnnotItem.{AnnotItem}
use Rattle.level_items.specs.declared.annot.AnnotLevel.{AnnotLevel}
use Rattle.level_items.specs.declared.annot.AnnotLink.{AnnotLink}
use Rattle.level_items.specs.declared.annot.Annot.{Annot}
use Rattle.config_json.specs.Forms.{text_member, optional_text, level_kind_at}
use Rattle.emu_names.specs.declared.limits.TheConstants.{TOP_ID, TOP_WHOLE}
use Rattle.annot_json.specs.Forms.{whole_member, each_or_none}

-- a label: the name of its attribute, and its text
unfoldable pub label_in : Seen → Result AnnotLabel Shape
label_in s = do
  _ ← object_of s
  name ← text_member (codes "name") s
  value ← text_member (codes "value") s
  Ok (record { name = name; value = value })

-- the member `labels` of an item
unfoldable pub labels_in : Seen → Result (List AnnotLabel) Shape
labels_in s = optional_of (codes "labels") s >>= each_or_none label_in

-- the time of a segment: its first sample, and how many follow it
unfoldable pub span_in : Seen → Result Time Shape
span_in s = do
  start ← whole_member (codes "sampleStart") TOP_WHOLE s
  dur ← whole_member (codes "sampleDur") TOP_WHOLE s
  Ok (Span start dur)

-- the time of a point
unfoldable pub point_in : Seen → Result Time Shape
point_in s = do
  at ← whole_member (codes "samplePoint") TOP_WHOLE s
  Ok (Point at)

-- the time of an item of a level of this kind; members of another kind's time are passed over
abbrev pub time_in : LevelKind → Seen → Result Time Shape
time_in kinds.Item s = Ok NoTime
time_in kinds.Segment s = span_in s
time_in kinds.Event s = point_in s

-- an item of a level of this kind: its id, its labels, and then its time
unfoldable pub item_in : LevelKind → Seen → Result AnnotItem Shape
item_in kind s = do
  _ ← object_of s
  id ← whole_member (codes "id") TOP_ID s
  labels ← labels_in s
  time ← time_in kind s
  Ok (record { id = record { 0 = id }; time = time; labels = labels })

-- the member `items` of a level of this kind
unfoldable pub items_in : LevelKind → Seen → Result (List AnnotItem) Shape
items_in kind s = optional_of (codes "items") s >>= each_or_none (item_in kind)

-- a level: its name, its type, and then its items
unfoldable pub level_in : Seen → Result AnnotLevel Shape
level_in s = do
  _ ← object_of s
  name ← text_member (codes "name") s
  kind ← level_kind_at s
  items ← items_in kind s
  Ok (record { name = name; kind = kind; items = items })

-- the member `levels`
unfoldable pub levels_in : Seen → Result (List AnnotLevel) Shape
levels_in s = optional_of (codes "levels") s >>= each_or_none level_in

-- a link: the ids of its two items
unfoldable pub link_in : Seen → Result AnnotLink Shape
link_in s = do
  _ ← object_of s
  from ← whole_member (codes "fromID") TOP_ID s
  to ← whole_member (codes "toID") TOP_ID s
  Ok (record { from = record { 0 = from }; to = record { 0 = to } })

-- the member `links`
unfoldable pub links_in : Seen → Result (List AnnotLink) Shape
links_in s = optional_of (codes "links") s >>= each_or_none link_in

-- an annotation; its name, where it is there, has to be a text and is not kept
unfoldable pub annot_of : Seen → Result Annot Shape
annot_of s = do
  _ ← object_of s
  _ ← optional_text (codes "name") s
  annotates ← optional_text (codes "annotates") s
  rate ← whole_member (codes "sampleRate") TOP_WHOLE s
  levels ← levels_in s
  links ← links_in s
  Ok (record { annotates = annotates; rate = rate; levels = levels; links = links })
