-- What printing and reading come to: a printed bundle is read as an annotation that makes it again.
use Rattle.std.specs.Prelude.{◌≡◌, ℕ, Bool, true, false, ◌&&◌, List, IsTrue, Ok, nat_le}
use Rattle.std.specs.List.{list_all}
use Rattle.json_view.specs.Seen.{seen}
use Rattle.emu_names.specs.declared.kinds.LevelKind.{LevelKind}
use Rattle.emu_names.specs.declared.kinds.LevelKind.TheVariants as kinds
use Rattle.level_items.specs.declared.times.Time.{Time}
use Rattle.level_items.specs.declared.times.Time.TheVariants.{NoTime, Span, Point}
use Rattle.level_items.specs.declared.annot.AnnotItem.{AnnotItem}
use Rattle.level_items.specs.declared.annot.AnnotLevel.{AnnotLevel}
use Rattle.level_items.specs.declared.annot.AnnotLink.{AnnotLink}
use Rattle.level_items.specs.declared.annot.Annot.{Annot}
use Rattle.level_items.specs.declared.items.Item.{Item}
use Rattle.db_config.specs.declared.parts.ConfigParts.{ConfigParts}
use Rattle.db_config.specs.Valid.{is_valid}
use Rattle.bundle_state.specs.Bundle.{BundleParts}
use Rattle.bundle_state.specs.Built.{built, FitsConfig}
use Rattle.bundle_state.specs.Valid.{KeepsBundleRules}
use Rattle.annot_json.specs.Given.{given}
use Rattle.emu_names.specs.declared.limits.TheConstants.{TOP_ID, TOP_WHOLE}
use Rattle.annot_json.specs.Read.{annot_of}
use Rattle.annot_json.specs.Texts.{annot_data}

-- a time of the form that a level's kind asks, whose numbers may be read
abbrev pub is_read_time : LevelKind → Time → Bool
is_read_time kinds.Item NoTime = true
is_read_time kinds.Item (Span start dur) = false
is_read_time kinds.Item (Point at) = false
is_read_time kinds.Segment (Span start dur) = nat_le start TOP_WHOLE && nat_le dur TOP_WHOLE
is_read_time kinds.Segment NoTime = false
is_read_time kinds.Segment (Point at) = false
is_read_time kinds.Event (Point at) = nat_le at TOP_WHOLE
is_read_time kinds.Event NoTime = false
is_read_time kinds.Event (Span start dur) = false

-- an item whose id may be read, and whose time has the form of the level's kind
abbrev pub is_read_item : LevelKind → AnnotItem → Bool
is_read_item kind item = nat_le item.id.0 TOP_ID && is_read_time kind item.time

-- a level of such items
abbrev pub is_read_level : AnnotLevel → Bool
is_read_level level = list_all (is_read_item level.kind) level.items

-- a link whose ids may be read
abbrev pub is_read_link : AnnotLink → Bool
is_read_link link = nat_le link.from.0 TOP_ID && nat_le link.to.0 TOP_ID

-- an annotation whose numbers may be read, and whose times have the forms of their levels
abbrev pub is_read_annot : Annot → Bool
is_read_annot annot =
    nat_le annot.rate TOP_WHOLE && list_all is_read_level annot.levels
    && list_all is_read_link annot.links

-- the value that such an annotation is printed as is read as that annotation
abbrev pub PrintedIsRead : Type 0
PrintedIsRead =
    (name path : List ℕ) (annot : Annot) → IsTrue (is_read_annot annot) →
    annot_of (seen (annot_data name annot) path) ≡ Ok annot

-- the annotation of a bundle that fits a valid configuration makes the bundle again
abbrev pub GivenMakesAgain : Type 0
GivenMakesAgain =
    (config : ConfigParts) (bundle : BundleParts) →
    IsTrue (is_valid config) → FitsConfig config bundle → KeepsBundleRules bundle →
    built config bundle.key (given config bundle) ≡ Ok bundle
