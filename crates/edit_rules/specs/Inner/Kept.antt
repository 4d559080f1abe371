-- What a database keeps beside its bundles: how many items they have together.
use Rattle.std.specs.Prelude.{◌≡◌, ℕ}
use Rattle.edit_rules.specs.Database.{DatabaseParts, KeepsDatabaseRules, all_items}

-- the database keeps the rules, and its items are counted
pub record IsKept (database : DatabaseParts) (items : ℕ) : Type 0 where
  pub rules : KeepsDatabaseRules database
  pub count : items ≡ all_items database.bundles
