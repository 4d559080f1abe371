-- What a configuration keeps: its parts are one, and beside them stands which level is above which.
use Rattle.std.specs.Prelude.{◌≡◌, Bool, List, length, IsTrue}
use Rattle.db_config.specs.declared.parts.ConfigParts.{ConfigParts}
use Rattle.db_config.specs.Inner.Above.{above_rows}
use Rattle.db_config.specs.Made.{is_made}
use Rattle.db_config.specs.Valid.{is_valid}

-- the parts are a configuration, and the rows are those of their link definitions
pub record IsKept (parts : ConfigParts) (rows : List (List Bool)) : Type 0 where
  pub made : IsTrue (is_made parts)
  pub valid : IsTrue (is_valid parts)
  pub rows_are : rows ≡ above_rows parts.links (length parts.levels)
