-- The names that are made once for the rows of results on a level.
use Rattle.std.specs.Prelude.{◌≡◌, ℕ}
use Rattle.db_config.specs.declared.parts.ConfigParts.{ConfigParts}
use Rattle.bundle_state.specs.Bundle.{BundleParts}
use Rattle.eql_rows.specs.declared.names.RowNames.{RowNames}
use Rattle.eql_rows.specs.Rows.{attribute_name, level_name}

-- the names are those of a bundle, of a level and of the attribute of it with the number
pub record AreNames (c : ConfigParts) (b : BundleParts) (place : ℕ) (names : RowNames) : Type 0 where
  pub session : names.session ≡ b.key.session
  pub bundle : names.bundle ≡ b.key.bundle
  pub level : names.level ≡ level_name c place
  pub attribute : names.attribute ≡ attribute_name c place names.number
