use Rattle.std.proofs.Common.{◌≡◌, ◌<◌, ℕ, List, length, Option, Some, None, Result, option_map, rules, sym, ◌∙◌, ap, subst}
use Rattle.std.specs.List.{slice_get}
use Rattle.std.specs.Option.{option_and_then}
use Rattle.emu_names.specs.Inner.Gives.{GivesOrBroken}
use Rattle.emu_names.specs.declared.rules.Broken.{Broken}
use Rattle.emu_names.specs.declared.rules.Broken.TheVariants as broken
use Rattle.db_config.specs.declared.parts.ConfigParts.{ConfigParts}
use Rattle.db_config.specs.declared.parts.LevelDef.{LevelDef}
use Rattle.db_config.specs.Lookups.{attribute_named}
use Rattle.bundle_state.specs.Bundle.{BundleParts, place_of}
use Rattle.bundle_edits.proofs.Lookups.{breaks, level_low, named_low, attribute_low, given_is, not_given}
use Rattle.bundle_edits.proofs.item_changes.give_label.Goals as goal

pub get-def-requires : goal.get-def-requires
get-def-requires c =
    let is : place_of c.args.bundle.levels c.args.id.0 ≡ Some (c.in-Some.level, c.in-Some._position) = search rules in
    subst (λ (p : ConfigParts). c.in-Some.level < length p.levels) (sym c.parts.ensures.parts)
    (level_low c.args.config.now c.args.bundle c.requires c.args.id c.in-Some.level c.in-Some._position is)

pub attribute_in-requires : goal.attribute_in-requires
attribute_in-requires c =
    let is : place_of c.args.bundle.levels c.args.id.0 ≡ Some (c.in-Some.level, c.in-Some._position) = search rules in
    level_low c.args.config.now c.args.bundle c.requires c.args.id c.in-Some.level c.in-Some._position is

pub label_item-requires : goal.label_item-requires
label_item-requires c =
    let is : place_of c.args.bundle.levels c.args.id.0 ≡ Some (c.in-Some.level, c.in-Some._position) = search rules in
    let there : slice_get c.args.config.now.levels c.in-Some.level ≡ Some c.get-def.result.now =
    ap (λ (p : ConfigParts). slice_get p.levels c.in-Some.level) (sym c.parts.ensures.parts) ∙ c.get-def.ensures in
    let named : attribute_named c.as_str.result.now c.get-def.result.now.attributes ≡ Some c.in-Some-attribute_in.number =
    sym (c.in-Some-attribute_in.ensures ∙ ap (λ (o : Option LevelDef). option_and_then (λ d. attribute_named c.as_str.result.now d.attributes) o) there) in
    attribute_low c.args.config.now c.args.bundle c.args.id c.in-Some.level c.in-Some-attribute_in.number c.get-def.result.now c.requires
    (ap (option_map (λ (p : ℕ × ℕ). p.0)) is) there (named_low c.as_str.result.now c.get-def.result.now.attributes c.in-Some-attribute_in.number named)

pub returns-in-Some-attribute_in : goal.returns-in-Some-attribute_in
returns-in-Some-attribute_in c =
    let is : place_of c.args.bundle.levels c.args.id.0 ≡ Some (c.in-Some.level, c.in-Some._position) = search rules in
    let there : slice_get c.args.config.now.levels c.in-Some.level ≡ Some c.get-def.result.now =
    ap (λ (p : ConfigParts). slice_get p.levels c.in-Some.level) (sym c.parts.ensures.parts) ∙ c.get-def.ensures in
    let named : attribute_named c.as_str.result.now c.get-def.result.now.attributes ≡ Some c.in-Some-attribute_in.number =
    sym (c.in-Some-attribute_in.ensures ∙ ap (λ (o : Option LevelDef). option_and_then (λ d. attribute_named c.as_str.result.now d.attributes) o) there) in
    subst (λ (r : Result BundleParts Broken). GivesOrBroken c.label_item.result r)
    (sym (given_is c.args.config.now c.args.bundle c.requires c.args.id c.in-Some.level c.in-Some._position is c.args.is_tested c.args.attribute.now c.args.label.now
    c.get-def.result.now c.in-Some-attribute_in.number c.get-own.result.now there
    (ap (λ (n : List ℕ). attribute_named n c.get-def.result.now.attributes) (sym c.as_str.ensures) ∙ named) c.get-own.ensures))
    c.label_item.ensures

pub returns-in-None : goal.returns-in-None
returns-in-None c =
    let is : place_of c.args.bundle.levels c.args.id.0 ≡ Some (c.in-Some.level, c.in-Some._position) = search rules in
    let there : slice_get c.args.config.now.levels c.in-Some.level ≡ Some c.get-def.result.now =
    ap (λ (p : ConfigParts). slice_get p.levels c.in-Some.level) (sym c.parts.ensures.parts) ∙ c.get-def.ensures in
    let none : attribute_named c.as_str.result.now c.get-def.result.now.attributes ≡ None =
    sym (c.in-None.ensures ∙ ap (λ (o : Option LevelDef). option_and_then (λ d. attribute_named c.as_str.result.now d.attributes) o) there) in
    breaks (broken.NoAttribute c.args.attribute.now) c.no_attribute.result c.no_attribute.ensures
    (not_given c.args.config.now c.args.bundle c.requires c.args.id c.in-Some.level c.in-Some._position is c.args.is_tested c.args.attribute.now c.args.label.now c.get-def.result.now there
    (ap (λ (n : List ℕ). attribute_named n c.get-def.result.now.attributes) (sym c.as_str.ensures) ∙ none))
