-- The text of an annotation (EMU-SDMS Manual, "The emuDB format": `_annot.json`): one JSON object
-- (RFC 8259), printed compact, with the members of each object in the order of their names' bytes.
use Rattle.std.specs.Prelude.{ℕ, List, map, codes}
use Rattle.serde_json.specs.Data.{Data, number, string, array, object, unsigned, Members, no_members, member}
use Rattle.serde_json.specs.View.{items_of}
use Rattle.serde_json.specs.Written.{compact_text}
use Rattle.emu_names.specs.declared.kinds.LevelKind.{LevelKind}
use Rattle.emu_names.specs.declared.kinds.LevelKind.TheVariants as kinds
use Rattle.level_items.specs.declared.times.Time.{Time}
use Rattle.level_items.specs.declared.times.Time.TheVariants.{NoTime, Span, Point}
use Rattle.level_items.specs.declared.annot.AnnotLabel.{AnnotLabel}
use Rattle.level_items.specs.declared.annot.AnnotItem.{AnnotItem}
use Rattle.level_items.specs.declared.annot.AnnotLevel.{AnnotLevel}
use Rattle.level_items.specs.declared.annot.AnnotLink.{AnnotLink}
use Rattle.level_items.specs.declared.annot.Annot.{Annot}
use Rattle.db_config.specs.declared.parts.ConfigParts.{ConfigParts}
use Rattle.bundle_state.specs.Bundle.{BundleParts}
use Rattle.annot_json.specs.Given.{given}

-- a whole number
abbrev pub whole : ℕ → Data
whole n = number (unsigned n)

-- a list of values
abbrev pub list_data : List Data → Data
list_data ds = array (items_of ds)

-- the word of a level's type
abbrev pub kind_word : LevelKind → List ℕ
kind_word kinds.Item = codes "ITEM"
kind_word kinds.Segment = codes "SEGMENT"
kind_word kinds.Event = codes "EVENT"

-- a label
abbrev pub label_data : AnnotLabel → Data
label_data l = object (member (codes "name") (string l.name)
    (member (codes "value") (string l.value) no_members))

-- the members of a time
abbrev pub time_members : Time → Members
time_members NoTime = no_members
time_members (Span start dur) =
    member (codes "sampleDur") (whole dur) (member (codes "sampleStart") (whole start) no_members)
time_members (Point at) = member (codes "samplePoint") (whole at) no_members

-- an item
abbrev pub item_data : AnnotItem → Data
item_data i = object (member (codes "id") (whole i.id.0)
    (member (codes "labels") (list_data (map label_data i.labels)) (time_members i.time)))

-- a level
abbrev pub level_data : AnnotLevel → Data
level_data l = object (member (codes "items") (list_data (map item_data l.items))
    (member (codes "name") (string l.name)
    (member (codes "type") (string (kind_word l.kind)) no_members)))

-- a link
abbrev pub link_data : AnnotLink → Data
link_data l = object (member (codes "fromID") (whole l.from.0)
    (member (codes "toID") (whole l.to.0) no_members))

-- an annotation of a bundle of this name
abbrev pub annot_data : List ℕ → Annot → Data
annot_data name a = object (member (codes "annotates") (string a.annotates)
    (member (codes "levels") (list_data (map level_data a.levels))
    (member (codes "links") (list_data (map link_data a.links))
    (member (codes "name") (string name)
    (member (codes "sampleRate") (whole a.rate) no_members)))))

-- what a bundle is printed as
abbrev pub bundle_data : ConfigParts → BundleParts → Data
bundle_data config bundle = annot_data bundle.key.bundle (given config bundle)

-- the text of a bundle
unfoldable pub printed : ConfigParts → BundleParts → List ℕ
printed config bundle = compact_text (bundle_data config bundle)
