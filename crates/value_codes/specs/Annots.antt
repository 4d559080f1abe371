-- The forms of sessions, keys and annotations: sessions, ids and positions have four bytes, samples and rates eight, a
-- kind one, which is its place in the order of its kinds.
use Rattle.std.specs.Prelude.{ℕ, zero, suc, Option, Some, None}
use Rattle.emu_names.specs.declared.kinds.ItemId.{ItemId}
use Rattle.emu_names.specs.declared.kinds.LevelKind.{LevelKind}
use Rattle.emu_names.specs.declared.kinds.LevelKind.TheVariants as level_kinds
use Rattle.emu_names.specs.declared.kinds.SessionNo.{SessionNo}
use Rattle.emu_names.specs.declared.names.BundleKey.{BundleKey}
use Rattle.level_items.specs.declared.annot.Annot.{Annot}
use Rattle.level_items.specs.declared.annot.AnnotItem.{AnnotItem}
use Rattle.level_items.specs.declared.annot.AnnotLabel.{AnnotLabel}
use Rattle.level_items.specs.declared.annot.AnnotLevel.{AnnotLevel}
use Rattle.level_items.specs.declared.annot.AnnotLink.{AnnotLink}
use Rattle.level_items.specs.declared.times.Time.{Time}
use Rattle.level_items.specs.declared.times.Time.TheVariants.{NoTime, Span, Point}
use Rattle.byte_forms.specs.Forms.{Form}
use Rattle.byte_forms.specs.Parts.{pair, shaped, imaged, led, just, byte_below, u32_form, u64_form}
use Rattle.byte_forms.specs.Lists.{list_of}
use Rattle.byte_forms.specs.Utf8.{text_form}

-- a session's number
unfoldable pub session_form : Form SessionNo
session_form = shaped u32_form (λ n. record { 0 = n }) (λ s. s.0)

-- an id
unfoldable pub id_form : Form ItemId
id_form = shaped u32_form (λ n. record { 0 = n }) (λ i. i.0)

-- the key of a bundle: its session and its name
unfoldable pub key_form : Form BundleKey
key_form = shaped (pair text_form text_form) (λ p. record { session = p.0; bundle = p.1 }) (λ k. (k.session, k.bundle))

-- the place of a kind among the kinds of levels
abbrev pub level_place : LevelKind → ℕ
level_place level_kinds.Item = 0
level_place level_kinds.Segment = 1
level_place level_kinds.Event = 2

-- the kind of levels at a place
abbrev pub level_kind_at : ℕ → LevelKind
level_kind_at zero = level_kinds.Item
level_kind_at (suc zero) = level_kinds.Segment
level_kind_at (suc (suc n)) = level_kinds.Event

-- a kind of levels
unfoldable pub level_kind_form : Form LevelKind
level_kind_form = led (byte_below 3) level_place (λ n. just (level_kind_at n))

-- how a time begins: 0 where there is none, 1 for a start and a duration, 2 for a point
abbrev pub time_tag : Time → ℕ
time_tag NoTime = 0
time_tag (Span start dur) = 1
time_tag (Point at) = 2

-- the start and the duration
abbrev pub span_of : Time → Option (ℕ × ℕ)
span_of (Span start dur) = Some (start, dur)
span_of _ = None

-- the point
abbrev pub point_of : Time → Option ℕ
point_of (Point at) = Some at
point_of _ = None

-- a time behind its first byte
abbrev pub time_at : ℕ → Form Time
time_at zero = just NoTime
time_at (suc zero) = imaged (pair u64_form u64_form) (λ p. Span p.0 p.1) span_of
time_at (suc (suc n)) = imaged u64_form Point point_of

-- a time: 0, or 1 with start and duration, or 2 with the point
unfoldable pub time_form : Form Time
time_form = led (byte_below 3) time_tag time_at

-- a label: the name of its attribute, and its text
unfoldable pub label_form : Form AnnotLabel
label_form = shaped (pair text_form text_form) (λ p. record { name = p.0; value = p.1 }) (λ l. (l.name, l.value))

-- an item: its id, its time, its labels
unfoldable pub item_form : Form AnnotItem
item_form = shaped (pair id_form (pair time_form (list_of label_form)))
    (λ p. record { id = p.0; time = p.1.0; labels = p.1.1 }) (λ i. (i.id, (i.time, i.labels)))

-- a level: its name, its kind, its items
unfoldable pub level_form : Form AnnotLevel
level_form = shaped (pair text_form (pair level_kind_form (list_of item_form)))
    (λ p. record { name = p.0; kind = p.1.0; items = p.1.1 }) (λ l. (l.name, (l.kind, l.items)))

-- a link: the ids of its two items, the upper one first
unfoldable pub link_form : Form AnnotLink
link_form = shaped (pair id_form id_form) (λ p. record { from = p.0; to = p.1 }) (λ l. (l.from, l.to))

-- an annotation: what it annotates, its rate, its levels, its links
unfoldable pub annot_form : Form Annot
annot_form = shaped (pair text_form (pair u64_form (pair (list_of level_form) (list_of link_form))))
    (λ p. record { annotates = p.0; rate = p.1.0; levels = p.1.1.0; links = p.1.1.1 })
    (λ a. (a.annotates, (a.rate, (a.levels, a.links))))
