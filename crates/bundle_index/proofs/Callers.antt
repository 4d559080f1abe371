-- What a caller cites, whose bundle has the levels of a configuration: a level's attributes and times.
use Rattle.std.proofs.Common.{◌≡◌, ◌≢◌, ℕ, List, length, slice_get, Option, Some, None, sym, ap, ◌∙◌}
use Rattle.std.proofs.lemmas.Option.{slice_get-map, same_Some}
use Rattle.std.specs.Option.{option_map, option_map_or}
use Rattle.emu_names.specs.declared.kinds.LevelKind.{LevelKind}
use Rattle.emu_names.specs.declared.kinds.LevelKind.TheVariants as kinds
use Rattle.level_items.specs.Levels.{Level}
use Rattle.db_config.specs.declared.parts.ConfigParts.{ConfigParts}
use Rattle.db_config.specs.declared.parts.LevelDef.{LevelDef}
use Rattle.bundle_state.specs.Bundle.{BundleParts}
use Rattle.bundle_state.specs.Built.{FitsConfig, form_of, form_asked}
use Rattle.bundle_index.specs.Inner.Index.{IsTimed, attributes_on}

form_there : (config : ConfigParts) (bundle : BundleParts) (level : ℕ) (def : LevelDef) → FitsConfig config bundle →
    slice_get config.levels level ≡ Some def → option_map form_of (slice_get bundle.levels level) ≡ Some (form_asked def)
form_there config bundle level def fits at =
    sym (slice_get-map form_of bundle.levels level)
    ∙ ap (λ (forms : List (LevelKind × ℕ)). slice_get forms level) fits.levels
    ∙ slice_get-map form_asked config.levels level ∙ ap (option_map form_asked) at

-- a level has the attributes of the configuration
pub attributes_asked : (config : ConfigParts) (bundle : BundleParts) (level : ℕ) (def : LevelDef) → FitsConfig config bundle →
    slice_get config.levels level ≡ Some def → attributes_on bundle level ≡ length def.attributes
attributes_asked config bundle level def fits at =
    by (slice_get bundle.levels level) (form_there config bundle level def fits at)
  where
    by : (o : Option Level) → option_map form_of o ≡ Some (form_asked def) →
        option_map_or (λ (l : Level). l.attributes) o 0 ≡ length def.attributes
    by None is = absurd cc
    by (Some l) is = ap (λ (form : LevelKind × ℕ). form.1) (same_Some (form_of l) (form_asked def) is)

-- a level that is no ITEM level of the configuration has times
pub timed_as_asked : (config : ConfigParts) (bundle : BundleParts) (level : ℕ) (def : LevelDef) → FitsConfig config bundle →
    slice_get config.levels level ≡ Some def → def.kind ≢ kinds.Item → IsTimed bundle level
timed_as_asked config bundle level def fits at other =
    by (slice_get bundle.levels level) (form_there config bundle level def fits at)
  where
    by : (o : Option Level) → option_map form_of o ≡ Some (form_asked def) →
        option_map (λ (l : Level). l.kind) o ≡ Some kinds.Item → ⊥
    by None is same = absurd cc
    by (Some l) is same =
        other (sym (ap (λ (form : LevelKind × ℕ). form.0) (same_Some (form_of l) (form_asked def) is))
        ∙ same_Some l.kind kinds.Item same)
