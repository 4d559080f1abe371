-- What additions come to: the rules are kept, and what was there stays.
use Rattle.std.specs.Prelude.{◌≡◌, IsTrue, Result, Ok}
use Rattle.emu_names.specs.declared.rules.Broken.{Broken}
use Rattle.db_config.specs.declared.parts.ConfigParts.{ConfigParts}
use Rattle.db_config.specs.Extends.{Extends}
use Rattle.db_config.specs.Valid.{is_valid}

-- a configuration that keeps the rules keeps them also where something is added to it
abbrev pub AdditionsKeepRules : (ConfigParts → Result ConfigParts Broken) → Type 0
AdditionsKeepRules change =
    (before after : ConfigParts) →
    IsTrue (is_valid before) → change before ≡ Ok after → IsTrue (is_valid after)

-- what is added leaves all that was there as it was
abbrev pub AdditionsExtend : (ConfigParts → Result ConfigParts Broken) → Type 0
AdditionsExtend change = (before after : ConfigParts) → change before ≡ Ok after → Extends before after
