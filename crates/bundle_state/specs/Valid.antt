-- What every bundle keeps (EMU-SDMS Manual, "The emuDB format").
use Rattle.std.specs.Prelude.{◌≤◌, length, All, IsTrue}
use Rattle.emu_names.specs.declared.limits.TheConstants.{BUNDLE_ITEMS, BUNDLE_LINKS}
use Rattle.level_items.specs.Levels.{KeepsLevelRule, are_different}
use Rattle.link_graph.specs.Link.{ArePairsApart}
use Rattle.bundle_state.specs.Bundle.{BundleParts, all_ids, item_count, level_of_id}
use Rattle.bundle_state.specs.Faults.{is_rate}
use Rattle.bundle_state.specs.Linked.{KeepLinkRule}

-- the rate is a rate; there are at most 65,536 items, whose ids differ over all levels, and each level
-- keeps the level rule; there are at most 262,144 links, no pair of ids stands twice, and they keep the
-- link rule
pub record KeepsBundleRules (bundle : BundleParts) : Type 0 where
  pub rate : IsTrue (is_rate bundle.rate)
  pub few_items : item_count bundle.levels ≤ BUNDLE_ITEMS
  pub apart : IsTrue (are_different (all_ids bundle.levels))
  pub levels : All KeepsLevelRule bundle.levels
  pub few_links : length bundle.links ≤ BUNDLE_LINKS
  pub pairs : ArePairsApart bundle.links
  pub linked : KeepLinkRule bundle.definitions (level_of_id bundle.levels) bundle.links
