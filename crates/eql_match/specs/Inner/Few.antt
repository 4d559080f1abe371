-- Queries that cannot have too many tuples, whatever the bundle.
use Rattle.std.specs.Prelude.{◌≡◌, Bool, false, List}
use Rattle.db_config.specs.declared.parts.ConfigParts.{ConfigParts}
use Rattle.bundle_state.specs.Bundle.{BundleParts}
use Rattle.bundle_state.specs.Valid.{KeepsBundleRules}
use Rattle.eql_resolve.specs.Asked.{AskedQuery}
use Rattle.eql_model.specs.Meaning.{has_too_many}
use Rattle.eql_match.specs.declared.found.Found.TheVariants.{Items}
use Rattle.eql_match.specs.Inner.Found.{AreFoundFor}

-- no bundle has too many tuples of a query, or of a part of it
abbrev pub AreFewAlways : AskedQuery → Type 0
AreFewAlways q = (c : ConfigParts) (b : BundleParts) → KeepsBundleRules b → has_too_many c b q ≡ false

-- in each bundle a row of items is what a query finds
abbrev pub IsRowAlways : AskedQuery → Type 0
IsRowAlways q = (c : ConfigParts) (b : BundleParts) → KeepsBundleRules b → (row : List Bool) × AreFoundFor (Items row) c b q
