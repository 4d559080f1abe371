-- The bundle that an annotation makes, or the rule that it breaks first (EMU-SDMS Manual, "The emuDB
-- format": `_annot.json`; that gaps between segments are allowed is this project's choice).
use Rattle.std.specs.Prelude.{◌≡◌, ℕ, List, [], length, map, Result, Ok}
use Rattle.emu_names.specs.declared.kinds.LevelKind.{LevelKind}
use Rattle.emu_names.specs.declared.names.BundleKey.{BundleKey}
use Rattle.emu_names.specs.declared.rules.Broken.{Broken}
use Rattle.level_items.specs.declared.annot.Annot.{Annot}
use Rattle.level_items.specs.Levels.{Level}
use Rattle.link_graph.specs.declared.link.Link.{Link}
use Rattle.db_config.specs.declared.parts.LevelDef.{LevelDef}
use Rattle.db_config.specs.declared.parts.ConfigParts.{ConfigParts}
use Rattle.bundle_state.specs.Bundle.{BundleParts, level_of_id}
use Rattle.bundle_state.specs.Faults.{annot_fault}
use Rattle.bundle_state.specs.Made.{made_levels}
use Rattle.bundle_state.specs.Linked.{unless_broken, put_links}
use Rattle.emu_names.specs.Steps.{onward}

-- the bundle of a key with these levels and links
abbrev pub bundle_of : ConfigParts → BundleKey → Annot → List Level → List Link → BundleParts
bundle_of config key annot levels links = record {
  key = key;
  annotates = annot.annotates;
  rate = annot.rate;
  levels = levels;
  definitions = config.links;
  links = links;
}

-- the bundle of an annotation with these levels, or the rule that its links break first
abbrev pub linked : ConfigParts → BundleKey → Annot → List Level → Result BundleParts Broken
linked config key annot levels =
    onward (put_links config.links (level_of_id levels) annot.links [])
    (λ links. Ok (bundle_of config key annot levels links))

-- the bundle of an annotation, or the rule that it breaks first: the levels come before the links
abbrev pub built : ConfigParts → BundleKey → Annot → Result BundleParts Broken
built config key annot =
    onward (unless_broken (annot_fault config.levels annot) (made_levels config.levels annot.levels))
    (linked config key annot)

-- the kind and the number of attributes of a level
abbrev pub form_of : Level → LevelKind × ℕ
form_of level = (level.kind, level.attributes)

-- the same of a level of a configuration
abbrev pub form_asked : LevelDef → LevelKind × ℕ
form_asked def = (def.kind, length def.attributes)

-- a bundle has the levels and the link definitions of a configuration
pub record FitsConfig (config : ConfigParts) (bundle : BundleParts) : Type 0 where
  pub levels : map form_of bundle.levels ≡ map form_asked config.levels
  pub definitions : bundle.definitions ≡ config.links
