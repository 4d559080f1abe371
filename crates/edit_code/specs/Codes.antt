-- The one code of an entry and of a configuration, and how it is read.
use Rattle.std.specs.Prelude.{◌≡◌, ℕ, true, List}
use Rattle.db_config.specs.declared.parts.ConfigParts.{ConfigParts}
use Rattle.edit_rules.specs.declared.acts.Entry.{Entry}
use Rattle.byte_forms.specs.Forms.{IsCode}
use Rattle.edit_code.specs.Edits.{entry_form}
use Rattle.value_codes.specs.Heads.{head_form}
use Rattle.db_config.specs.Valid.{is_config}
use Rattle.edit_code.specs.Names.{is_entry}

-- the code of an entry
unfoldable pub entry_code : Entry → List ℕ
entry_code e = entry_form.code e

-- the code of a configuration
unfoldable pub head_code : ConfigParts → List ℕ
head_code c = head_form.code c

-- the bytes are the code of this entry
abbrev pub IsEntryCode : List ℕ → Entry → Type 0
IsEntryCode bytes e = IsCode entry_form bytes e × (is_entry e ≡ true)

-- the bytes are the code of this configuration
abbrev pub IsHeadCode : List ℕ → ConfigParts → Type 0
IsHeadCode bytes c = IsCode head_form bytes c × (is_config c ≡ true)
