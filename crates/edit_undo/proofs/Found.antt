-- Where the item stands that an edit names, with the definition of its level.
use Rattle.std.proofs.Common.{◌≡◌, ◌<◌, ℕ, suc, arith, length, Option, Some, None, option_map, refl, sym, ◌∙◌, ap}
use Rattle.std.specs.List.{slice_get}
use Rattle.std.specs.Option.{option_and_then}
use Rattle.std.proofs.lemmas.Option.{slice_get-map, slice_get_within}
use Rattle.emu_names.specs.declared.limits.TheConstants.{BUNDLE_ITEMS}
use Rattle.emu_names.specs.declared.kinds.ItemId.{ItemId}
use Rattle.emu_names.specs.declared.kinds.LevelKind.{LevelKind}
use Rattle.level_items.specs.declared.items.Item.{Item}
use Rattle.level_items.specs.Levels.{Level}
use Rattle.db_config.specs.declared.parts.ConfigParts.{ConfigParts}
use Rattle.db_config.specs.declared.parts.LevelDef.{LevelDef}
use Rattle.bundle_state.specs.Bundle.{BundleParts, place_of}
use Rattle.bundle_state.specs.Built.{form_of, form_asked, FitsConfig}
use Rattle.bundle_state.specs.Valid.{KeepsBundleRules}
use Rattle.bundle_state.proofs.ChangedKept.{IsPlace, place_parts}
use Rattle.bundle_edits.specs.Changes.{item_at}
use Rattle.bundle_edits.proofs.Next.{on_level}
use Rattle.bundle_edits.proofs.Spans.{some_same}
use Rattle.edit_undo.specs.Inverse.{placed_at, item_of, item_behind}
use Rattle.edit_undo.specs.Inner.Items.{placed}

-- the definition of a level of a bundle
pub record HasDef (config : ConfigParts) (k : ℕ) (level : Level) : Type 0 where
  pub def : LevelDef
  pub defined : slice_get config.levels k ≡ Some def
  pub kind : level.kind ≡ def.kind
  pub attributes : level.attributes ≡ length def.attributes

pub def_of : (config : ConfigParts) (b : BundleParts) (k : ℕ) (level : Level) → FitsConfig config b → slice_get b.levels k ≡ Some level → HasDef config k level
def_of config b k level fits there = by (slice_get config.levels k) refl same
  where
    same : option_map form_asked (slice_get config.levels k) ≡ Some (form_of level)
    same =
        sym (slice_get-map form_asked config.levels k) ∙ ap (λ forms. slice_get forms k) (sym fits.levels)
        ∙ slice_get-map form_of b.levels k ∙ ap (option_map form_of) there

    by : (o : Option LevelDef) → slice_get config.levels k ≡ o → option_map form_asked o ≡ Some (form_of level) → HasDef config k level
    by None is e = absurd cc
    by (Some d) is e =
        let forms : form_asked d ≡ form_of level = some_same (form_asked d) (form_of level) e in
        record {
          def = d;
          defined = is;
          kind = sym (ap (λ (f : LevelKind × ℕ). f.0) forms);
          attributes = sym (ap (λ (f : LevelKind × ℕ). f.1) forms);
        }

-- an item stands at one of at most 65,536 positions
pub position_low : (b : BundleParts) (k i : ℕ) (level : Level) → KeepsBundleRules b → slice_get b.levels k ≡ Some level → i < length level.items → i < BUNDLE_ITEMS
position_low b k i level keeps there low =
    let few = on_level b.levels k level there in
    let all = keeps.few_items in
    omega (arith, low, few, all)

pub place_low : (b : BundleParts) (id : ItemId) (place : ℕ × ℕ) → KeepsBundleRules b → place_of b.levels id.0 ≡ Some place → place.1 < BUNDLE_ITEMS
place_low b id place keeps is =
    let p : IsPlace id.0 b.levels place = place_parts id.0 b.levels place is in
    position_low b place.0 place.1 p.level keeps p.there (slice_get_within p.level.items place.1 p.item p.at)

-- an item of a bundle with the definition of its level
pub placed_is : (config : ConfigParts) (b : BundleParts) (k i : ℕ) (level : Level) (item : Item) (def : LevelDef) → slice_get config.levels k ≡ Some def →
    slice_get b.levels k ≡ Some level → slice_get level.items i ≡ Some item → placed_at config b (k, i) ≡ Some (placed def i item)
placed_is config b k i level item def defined there at =
    ap (λ (o : Option LevelDef). option_and_then (λ (d : LevelDef). option_map (placed d i) (item_at b.levels (k, i))) o) defined
    ∙ ap (λ (o : Option Level). option_map (placed def i) (option_and_then (λ (l : Level). slice_get l.items i) o)) there
    ∙ ap (λ (o : Option Item). option_map (placed def i) o) at

pub behind_is : (config : ConfigParts) (b : BundleParts) (id : ItemId) (k i : ℕ) (level : Level) (item : Item) (def : LevelDef) → place_of b.levels id.0 ≡ Some (k, i) →
    slice_get config.levels k ≡ Some def → slice_get b.levels k ≡ Some level → slice_get level.items (suc i) ≡ Some item → item_behind config b id ≡ Some (placed def (suc i) item)
behind_is config b id k i level item def is defined there at =
    ap (λ (o : Option (ℕ × ℕ)). option_and_then (λ (place : ℕ × ℕ). placed_at config b (place.0, suc place.1)) o) is
    ∙ placed_is config b k (suc i) level item def defined there at

-- the item with an id that stands at a place
pub record IsFound (config : ConfigParts) (b : BundleParts) (id : ItemId) (place : ℕ × ℕ) : Type 0 where
  pub level : Level
  pub there : slice_get b.levels place.0 ≡ Some level
  pub item : Item
  pub at : slice_get level.items place.1 ≡ Some item
  pub own : item.id ≡ id
  pub def : LevelDef
  pub defined : slice_get config.levels place.0 ≡ Some def
  pub kind : level.kind ≡ def.kind
  pub attributes : level.attributes ≡ length def.attributes
  pub is : item_of config b id ≡ Some (placed def place.1 item)

pub found_at : (config : ConfigParts) (b : BundleParts) (id : ItemId) (place : ℕ × ℕ) → FitsConfig config b → place_of b.levels id.0 ≡ Some place → IsFound config b id place
found_at config b id place fits is =
    let p : IsPlace id.0 b.levels place = place_parts id.0 b.levels place is in
    let d : HasDef config place.0 p.level = def_of config b place.0 p.level fits p.there in
    record {
      level = p.level;
      there = p.there;
      item = p.item;
      at = p.at;
      own = ap id_of p.own;
      def = d.def;
      defined = d.defined;
      kind = d.kind;
      attributes = d.attributes;
      is =
          ap (λ (o : Option (ℕ × ℕ)). option_and_then (placed_at config b) o) is
          ∙ placed_is config b place.0 place.1 p.level p.item d.def d.defined p.there p.at;
    }
  where
    id_of : ℕ → ItemId
    id_of n = record { 0 = n }
