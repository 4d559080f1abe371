-- What building a bundle comes to, each said by itself.
use Rattle.std.specs.Prelude.{◌≡◌, ℕ, List, [], map, Option, IsTrue, IsOk, Ok, ◌↔◌}
use Rattle.std.specs.Option.{is_none}
use Rattle.emu_names.specs.declared.names.BundleKey.{BundleKey}
use Rattle.level_items.specs.declared.annot.Annot.{Annot}
use Rattle.level_items.specs.declared.annot.AnnotLink.{AnnotLink}
use Rattle.link_graph.specs.declared.link.Link.{Link}
use Rattle.db_config.specs.declared.parts.LinkDef.{LinkDef}
use Rattle.db_config.specs.declared.parts.LevelDef.{LevelDef}
use Rattle.db_config.specs.declared.parts.ConfigParts.{ConfigParts}
use Rattle.db_config.specs.Valid.{is_valid}
use Rattle.bundle_state.specs.Bundle.{BundleParts}
use Rattle.bundle_state.specs.Faults.{annot_fault}
use Rattle.bundle_state.specs.Linked.{put_links, KeepLinkRule, first_places, pair_of}
use Rattle.bundle_state.specs.Built.{built, FitsConfig}
use Rattle.bundle_state.specs.Valid.{KeepsBundleRules}
use Rattle.bundle_state.specs.Rules.{keeps_rules, KeepsAllRules}

-- a bundle that is built under a valid configuration keeps the rules of bundles
abbrev pub BuiltKeepsRules : Type 0
BuiltKeepsRules =
    (config : ConfigParts) (key : BundleKey) (annot : Annot) (bundle : BundleParts) →
    IsTrue (is_valid config) → built config key annot ≡ Ok bundle → KeepsBundleRules bundle

-- and has the configuration's levels and link definitions
abbrev pub BuiltFitsConfig : Type 0
BuiltFitsConfig =
    (config : ConfigParts) (key : BundleKey) (annot : Annot) (bundle : BundleParts) →
    built config key annot ≡ Ok bundle → FitsConfig config bundle

-- links that are put one after another keep the link rule
abbrev pub BuiltKeepLinkRule : Type 0
BuiltKeepLinkRule =
    (defs : List LinkDef) (level : ℕ → Option ℕ) (given : List AnnotLink) (links : List Link) →
    put_links defs level given [] ≡ Ok links → KeepLinkRule defs level links

-- they are the pairs that are given, each at its first place
abbrev pub BuiltLinksAreGiven : Type 0
BuiltLinksAreGiven =
    (defs : List LinkDef) (level : ℕ → Option ℕ) (given : List AnnotLink) (links : List Link) →
    put_links defs level given [] ≡ Ok links → map pair_of links ≡ first_places given

-- the walk over the levels that looks for the first broken rule finds none exactly where the levels
-- keep them all
abbrev pub LevelsRefuseExactly : Type 0
LevelsRefuseExactly =
    (defs : List LevelDef) (annot : Annot) → is_none (annot_fault defs annot) ≡ keeps_rules defs annot

-- an annotation makes a bundle exactly where it keeps all rules
abbrev pub BuildingRefusesExactly : Type 0
BuildingRefusesExactly =
    (config : ConfigParts) (key : BundleKey) (annot : Annot) →
    IsOk (built config key annot) ↔ KeepsAllRules config annot
