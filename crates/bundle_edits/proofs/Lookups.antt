-- Names and ids that are looked up, against the walks of the definitions.
use Rattle.std.proofs.Common.{◌≡◌, ℕ, ◌<◌, Bool, cond, List, [], ◌∷◌, length, map, Option, Some, None, is_some, IfSome, ok_or, option_map, Result, Ok, Err, nat_eq, refl, sym, ◌∙◌, ap, subst, arith}
use Rattle.std.specs.List.{list_any, position, slice_get}
use Rattle.std.specs.Option.{option_and_then}
use Rattle.std.proofs.lemmas.List.{length-map}
use Rattle.std.proofs.lemmas.List.Quantifiers.{position-Some}
use Rattle.emu_names.specs.declared.kinds.ItemId.{ItemId}
use Rattle.emu_names.specs.declared.rules.Broken.{Broken}
use Rattle.emu_names.specs.declared.rules.Broken.TheVariants as rules
use Rattle.emu_names.specs.declared.rules.Fault.{Fault}
use Rattle.emu_names.specs.declared.rules.Fault.TheVariants as faults
use Rattle.emu_names.specs.Inner.Gives.{IsFaultOf, broken_in}
use Rattle.level_items.specs.declared.annot.AnnotItem.{AnnotItem}
use Rattle.level_items.specs.Levels.{Level}
use Rattle.db_config.specs.declared.attributes.AttributeDef.{AttributeDef}
use Rattle.db_config.specs.declared.parts.ConfigParts.{ConfigParts}
use Rattle.db_config.specs.declared.parts.LevelDef.{LevelDef}
use Rattle.db_config.specs.Lookups.{level_named, attribute_named}
use Rattle.emu_names.specs.Texts.{same_text}
use Rattle.bundle_state.specs.Bundle.{BundleParts, all_ids, level_of_id, place_of}
use Rattle.bundle_state.specs.Built.{form_of, form_asked, FitsConfig}
use Rattle.emu_names.specs.Steps.{onward}
use Rattle.bundle_state.specs.Inner.Changed.{attributes_with}
use Rattle.bundle_state.proofs.ChangedLevels.{has_level}
use Rattle.bundle_state.proofs.ChangedKept.{place_within}
use Rattle.bundle_state.proofs.IdLevels.{IsAt, place_found, place_none}
use Rattle.bundle_edits.specs.declared.bundle_change.Counts.{Counts}
use Rattle.bundle_edits.specs.Changes.{id_fault, numbered, level_found, NumberedLevel, put_on, item_put, attribute_found, NumberedAttribute, attribute_of, labelled, label_given}
use Rattle.bundle_edits.specs.Inner.Given.{IsRule}
use Rattle.bundle_edits.proofs.Spans.{some_same}
use Rattle.bundle_edits.proofs.Next.{IsLevelFor, level_fitting}

-- A call that ends with a rule, or without memory.

pub breaks : {A : Type 0} {there : Result A Broken} (rule : Broken) (fault : Fault) → IsRule rule fault → there ≡ Err rule → IsFaultOf (broken_in fault) there
breaks {A} rule (faults.Broken r) is stops = stops ∙ ap failed (sym is)
  where
    failed : Broken → Result A Broken
    failed x = Err x
breaks rule faults.Memory is stops = tt

-- Ids.

pub taken_is : (id : ItemId) (levels : List Level) (place : ℕ × ℕ) → place_of levels id.0 ≡ Some place → id_fault id levels ≡ Some (rules.IdTaken id)
taken_is id levels place is = by (level_of_id levels id.0) refl (has_level 0 id.0 levels)
  where
    by : (o : Option ℕ) → level_of_id levels id.0 ≡ o → is_some (level_of_id levels id.0) ≡ list_any (nat_eq id.0) (all_ids levels) → id_fault id levels ≡ Some (rules.IdTaken id)
    by None e any = absurd (none (place_none id.0 0 levels e) is)
      where
        none : place_of levels id.0 ≡ None → place_of levels id.0 ≡ Some place → ⊥
        none a b = cc
    by (Some n) e any = ap (λ (t : Bool). cond t (Some (rules.IdTaken id)) None) (sym any ∙ ap is_some e)

pub free_is : (id : ItemId) (levels : List Level) → place_of levels id.0 ≡ None → id_fault id levels ≡ None
free_is id levels is = by (level_of_id levels id.0) refl (has_level 0 id.0 levels)
  where
    by : (o : Option ℕ) → level_of_id levels id.0 ≡ o → is_some (level_of_id levels id.0) ≡ list_any (nat_eq id.0) (all_ids levels) → id_fault id levels ≡ None
    by None e any = ap (λ (t : Bool). cond t (Some (rules.IdTaken id)) None) (sym any ∙ ap is_some e)
    by (Some n) e any =
        let at : IsAt id.0 0 levels n = place_found id.0 0 levels n e in
        absurd (some at.at at.place_is is)
      where
        some : (p : ℕ) → place_of levels id.0 ≡ Some (n, p) → place_of levels id.0 ≡ None → ⊥
        some p a b = cc

-- Levels by name.

pub level_is : (name : List ℕ) (defs : List LevelDef) (k : ℕ) (d : LevelDef) → level_named name defs ≡ Some k → slice_get defs k ≡ Some d → level_found name defs ≡ Ok (k, d)
level_is name defs k d is at =
    ap (λ (o : Option ℕ). ok_or (option_and_then (numbered defs) o) (rules.NoLevel name)) is
    ∙ ap (λ (o : Option LevelDef). ok_or (option_map (λ (e : LevelDef). (k, e)) o) (rules.NoLevel name)) at

pub no_level_is : (name : List ℕ) (defs : List LevelDef) → level_named name defs ≡ None → level_found name defs ≡ Err (rules.NoLevel name)
no_level_is name defs none = ap (λ (o : Option ℕ). ok_or (option_and_then (numbered defs) o) (rules.NoLevel name)) none

-- a new item on a level that is found by its name
pub put_is : (tested : Bool) (config : ConfigParts) (counts : Counts) (name : List ℕ) (position : Option ℕ) (item : AnnotItem) (b : BundleParts) (k : ℕ) (d : LevelDef) →
    level_named name config.levels ≡ Some k → slice_get config.levels k ≡ Some d → item_put tested config counts name position item b ≡ put_on tested counts position item b (k, d)
put_is tested config counts name position item b k d is at = ap (λ (r : Result NumberedLevel Broken). onward r (put_on tested counts position item b)) (level_is name config.levels k d is at)

pub not_put : (tested : Bool) (config : ConfigParts) (counts : Counts) (name : List ℕ) (position : Option ℕ) (item : AnnotItem) (b : BundleParts) →
    level_named name config.levels ≡ None → item_put tested config counts name position item b ≡ Err (rules.NoLevel name)
not_put tested config counts name position item b none = ap (λ (r : Result NumberedLevel Broken). onward r (put_on tested counts position item b)) (no_level_is name config.levels none)

-- Attributes by name.

abbrev has_name : List ℕ → AttributeDef → Bool
has_name name d = same_text d.name name

attribute_is : (name : List ℕ) (defs : List AttributeDef) (k : ℕ) (d : AttributeDef) → attribute_named name defs ≡ Some k → slice_get defs k ≡ Some d → attribute_found name defs ≡ Ok (k, d)
attribute_is name defs k d is at =
    ap (λ (o : Option ℕ). ok_or (option_and_then (numbered defs) o) (rules.NoAttribute name)) is
    ∙ ap (λ (o : Option AttributeDef). ok_or (option_map (λ (e : AttributeDef). (k, e)) o) (rules.NoAttribute name)) at

no_attribute_is : (name : List ℕ) (defs : List AttributeDef) → attribute_named name defs ≡ None → attribute_found name defs ≡ Err (rules.NoAttribute name)
no_attribute_is name defs none = ap (λ (o : Option ℕ). ok_or (option_and_then (numbered defs) o) (rules.NoAttribute name)) none

pub named_low : (name : List ℕ) (defs : List AttributeDef) (k : ℕ) → attribute_named name defs ≡ Some k → k < length defs
named_low name [] k is = absurd cc
named_low name (d ∷ defs) k is = (position-Some (has_name name) (d ∷ defs) k d is).0

-- A label for an attribute of the level of an item.

module _ (config : ConfigParts) (b : BundleParts) (fits : FitsConfig config b) (id : ItemId) (level position : ℕ) (is : place_of b.levels id.0 ≡ Some (level, position)) where
  pub level_low : level < length config.levels
  level_low =
      let low : level < length b.levels = (place_within id.0 b.levels level position is).0 in
      let one : length (map form_of b.levels) ≡ length b.levels = length-map b.levels form_of in
      let two : length (map form_asked config.levels) ≡ length config.levels = length-map config.levels form_asked in
      let same : length (map form_of b.levels) ≡ length (map form_asked config.levels) = ap length fits.levels in
      omega arith

  given_steps : (tested : Bool) (name label : List ℕ) → label_given tested config id name label b ≡ onward (attribute_of name (slice_get config.levels level)) (labelled tested id label b)
  given_steps tested name label = ap (λ (o : Option (ℕ × ℕ)). onward (ok_or o (rules.NoItem id)) (λ place. onward (attribute_of name (slice_get config.levels place.0)) (labelled tested id label b))) is

  pub given_is : (tested : Bool) (name label : List ℕ) (def : LevelDef) (number : ℕ) (attribute : AttributeDef) → slice_get config.levels level ≡ Some def →
      attribute_named name def.attributes ≡ Some number → slice_get def.attributes number ≡ Some attribute → label_given tested config id name label b ≡ labelled tested id label b (number, attribute)
  given_is tested name label def number attribute there named at =
      given_steps tested name label
      ∙ ap (λ (o : Option LevelDef). onward (attribute_of name o) (labelled tested id label b)) there
      ∙ ap (λ (r : Result NumberedAttribute Broken). onward r (labelled tested id label b)) (attribute_is name def.attributes number attribute named at)

  pub not_given : (tested : Bool) (name label : List ℕ) (def : LevelDef) → slice_get config.levels level ≡ Some def → attribute_named name def.attributes ≡ None →
      label_given tested config id name label b ≡ Err (rules.NoAttribute name)
  not_given tested name label def there none =
      given_steps tested name label
      ∙ ap (λ (o : Option LevelDef). onward (attribute_of name o) (labelled tested id label b)) there
      ∙ ap (λ (r : Result NumberedAttribute Broken). onward r (labelled tested id label b)) (no_attribute_is name def.attributes none)

-- the number of an attribute is below the number of labels of the items of its level
pub attribute_low : (config : ConfigParts) (b : BundleParts) (id : ItemId) (level number : ℕ) (def : LevelDef) → FitsConfig config b →
    option_map (λ (p : ℕ × ℕ). p.0) (place_of b.levels id.0) ≡ Some level → slice_get config.levels level ≡ Some def → number < length def.attributes →
    IfSome (attributes_with id.0 b.levels) (λ count. number < count)
attribute_low config b id level number def fits is there low = by (place_of b.levels id.0) is
  where
    own : IsLevelFor def b.levels level
    own = level_fitting config.levels b.levels level def fits.levels there

    by : (o : Option (ℕ × ℕ)) → option_map (λ (p : ℕ × ℕ). p.0) o ≡ Some level →
        IfSome (option_map (λ (l : Level). l.attributes) (option_and_then (λ (p : ℕ × ℕ). slice_get b.levels p.0) o)) (λ count. number < count)
    by None h = tt
    by (Some p) h =
        let same : p.0 ≡ level = some_same p.0 level h in
        let here : slice_get b.levels p.0 ≡ Some own.level = ap (λ (k : ℕ). slice_get b.levels k) same ∙ own.there in
        let count = own.attributes in
        subst (λ (o : Option Level). IfSome (option_map (λ (l : Level). l.attributes) o) (λ count. number < count)) (sym here) (omega (arith, count, low))
