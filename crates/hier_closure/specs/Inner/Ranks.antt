-- In which order the rows of levels are made, and which of them are there.
use Rattle.std.specs.Prelude.{◌≡◌, ℕ, ◌<◌, ◌≤◌, ◌&&◌, Bool, true, List, [], count_by, get_or, length, IsTrue, Some}
use Rattle.std.specs.List.{list_any, range_with_len}
use Rattle.db_config.specs.declared.parts.LinkDef.{LinkDef}
use Rattle.db_config.specs.declared.parts.ConfigParts.{ConfigParts}
use Rattle.db_config.specs.Above.{is_above}
use Rattle.db_config.specs.Valid.{is_valid}
use Rattle.bundle_state.specs.Bundle.{BundleParts, level_of_id}
use Rattle.bundle_state.specs.Built.{FitsConfig}
use Rattle.bundle_state.specs.Valid.{KeepsBundleRules}
use Rattle.hier_closure.specs.Dominance.{closure_of}

-- the bundle keeps the rules of bundles, under a valid configuration whose levels and link definitions
-- it has
pub record IsUnder (config : ConfigParts) (bundle : BundleParts) : Type 0 where
  pub fits : FitsConfig config bundle
  pub valid : IsTrue (is_valid config)
  pub rules : KeepsBundleRules bundle

-- how many levels, of those below `count`, are below a level
abbrev pub rank_of : List LinkDef → ℕ → ℕ → ℕ
rank_of defs count level = count_by (is_above defs level) (range_with_len 0 count)

-- whether a level is below the one of two levels and above the other
abbrev pub is_between : List LinkDef → ℕ → ℕ → ℕ → Bool
is_between defs upper lower level = is_above defs upper level && is_above defs level lower

-- whether some level is, of those below `count`
abbrev pub any_between : List LinkDef → ℕ → ℕ → ℕ → Bool
any_between defs count upper lower = list_any (is_between defs upper lower) (range_with_len 0 count)

-- the rows of a level are those of dominance
abbrev pub IsMade : BundleParts → ℕ → List (List (List Bool)) → ℕ → Type 0
IsMade bundle lower table level = get_or table level [] ≡ closure_of bundle lower level

-- the rows are there of each level between this one and the lower one
abbrev pub AreMadeBelow : BundleParts → ℕ → List (List (List Bool)) → ℕ → Type 0
AreMadeBelow bundle lower table level =
    (n : ℕ) → n < length bundle.levels → is_above bundle.definitions level n ≡ true
    → is_above bundle.definitions n lower ≡ true → IsMade bundle lower table n

-- the same of the level of an item
abbrev pub AreMadeBelowItem : BundleParts → ℕ → List (List (List Bool)) → ℕ → Type 0
AreMadeBelowItem bundle lower table id =
    (level : ℕ) → level_of_id bundle.levels id ≡ Some level
    → AreMadeBelow bundle lower table level

-- the rows are there of the level of an item, where it is above the lower one
abbrev pub AreMadeAtItem : BundleParts → ℕ → List (List (List Bool)) → ℕ → Type 0
AreMadeAtItem bundle lower table id =
    (level : ℕ) → level_of_id bundle.levels id ≡ Some level
    → is_above bundle.definitions level lower ≡ true → IsMade bundle lower table level

-- the rows are there of each level between the two that has a lower rank, or the same rank and a number
-- below `number`
abbrev pub AreMadeTo : BundleParts → ℕ → ℕ → ℕ → ℕ → List (List (List Bool)) → Type 0
AreMadeTo bundle upper lower rank number table =
    (n : ℕ) → n < length bundle.levels
    → is_above bundle.definitions upper n ≡ true
    → is_above bundle.definitions n lower ≡ true
    → rank_of bundle.definitions (length bundle.levels) n ≤ rank
    → (rank_of bundle.definitions (length bundle.levels) n ≡ rank → n < number)
    → IsMade bundle lower table n
