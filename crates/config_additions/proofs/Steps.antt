-- Calls that add to a configuration, one after another.
use Rattle.std.proofs.Common.{◌≡◌, ℕ, List, Some, None, Result, Ok, Err, sym, ap, subst, ◌∙◌, ok_or}
use Rattle.std.specs.List.{slice_get}
use Rattle.std.specs.Option.{option_and_then, option_map}
use Rattle.emu_names.specs.declared.kinds.LinkKind.{LinkKind}
use Rattle.emu_names.specs.declared.rules.Broken.{Broken}
use Rattle.emu_names.specs.declared.rules.Broken.TheVariants as rules
use Rattle.emu_names.specs.declared.rules.Fault.{Fault}
use Rattle.emu_names.specs.Inner.Gives.{GivesOrBroken}
use Rattle.emu_names.specs.Steps.{onward}
use Rattle.db_config.specs.declared.attributes.AttributeDef.{AttributeDef}
use Rattle.db_config.specs.declared.parts.ConfigParts.{ConfigParts}
use Rattle.db_config.specs.declared.parts.LevelDef.{LevelDef}
use Rattle.db_config.specs.Lookups.{level_named}
use Rattle.config_additions.specs.Added.{level_with, attribute_put, attribute_added, end_named, definition_of, definition_put, definition_between}

abbrev Answer : Type 0
Answer = Result ConfigParts Fault

level_with_is : (name : List ℕ) (levels : List LevelDef) (number : ℕ) (def : LevelDef) → Some number ≡ level_named name levels → slice_get levels number ≡ Some def →
    level_with name levels ≡ Some (number, def)
level_with_is name levels number def named there =
    ap (λ o. option_and_then (λ n. option_map (λ d. (n, d)) (slice_get levels n)) o) (sym named)
    ∙ ap (λ o. option_map (λ (d : LevelDef). (number, d)) o) there

-- the level is there
pub added_at : (name : List ℕ) (attribute : AttributeDef) (parts : ConfigParts) (number : ℕ) (def : LevelDef) (r : Answer) → Some number ≡ level_named name parts.levels →
    slice_get parts.levels number ≡ Some def → GivesOrBroken r (attribute_put attribute parts (number, def)) → GivesOrBroken r (attribute_added name attribute parts)
added_at name attribute parts number def r named there gives =
    subst (GivesOrBroken r)
    (sym (ap (λ o. onward (ok_or o (rules.NoLevel name)) (attribute_put attribute parts)) (level_with_is name parts.levels number def named there))) gives

-- the level is not there
pub added_nowhere : (name : List ℕ) (attribute : AttributeDef) (parts : ConfigParts) → None ≡ level_named name parts.levels → attribute_added name attribute parts ≡ Err (rules.NoLevel name)
added_nowhere name attribute parts none =
    ap (λ o. onward (ok_or (option_and_then (λ n. option_map (λ d. (n, d)) (slice_get parts.levels n)) o) (rules.NoLevel name)) (attribute_put attribute parts)) (sym none)

-- both levels are there
pub between_gives : (kind : LinkKind) (upper lower : List ℕ) (parts : ConfigParts) (from to : ℕ) (r : Answer) → end_named upper parts ≡ Ok from → end_named lower parts ≡ Ok to →
    GivesOrBroken r (definition_put parts (definition_of kind from to)) → GivesOrBroken r (definition_between kind upper lower parts)
between_gives kind upper lower parts from to r first second gives =
    subst (GivesOrBroken r)
    (sym (ap (λ s. onward s (λ f. onward (end_named lower parts) (λ t. definition_put parts (definition_of kind f t)))) first
    ∙ ap (λ s. onward s (λ t. definition_put parts (definition_of kind from t))) second)) gives

-- the upper level is not there
pub no_upper : (kind : LinkKind) (upper lower : List ℕ) (parts : ConfigParts) (rule : Broken) → end_named upper parts ≡ Err rule → definition_between kind upper lower parts ≡ Err rule
no_upper kind upper lower parts rule first =
    ap (λ s. onward s (λ f. onward (end_named lower parts) (λ t. definition_put parts (definition_of kind f t)))) first

-- the lower level is not there
pub no_lower : (kind : LinkKind) (upper lower : List ℕ) (parts : ConfigParts) (from : ℕ) (rule : Broken) → end_named upper parts ≡ Ok from → end_named lower parts ≡ Err rule →
    definition_between kind upper lower parts ≡ Err rule
no_lower kind upper lower parts from rule first second =
    ap (λ s. onward s (λ f. onward (end_named lower parts) (λ t. definition_put parts (definition_of kind f t)))) first
    ∙ ap (λ s. onward s (λ t. definition_put parts (definition_of kind from t))) second
