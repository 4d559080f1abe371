-- How many bytes a store takes. What stands in it are the codes of `edit_code`, each in a frame, so a size is the
-- length of the code itself.
use Rattle.std.specs.Prelude.{ℕ, ◌+◌, List, length, sum_by}
use Rattle.db_config.specs.declared.parts.ConfigParts.{ConfigParts}
use Rattle.edit_undo.specs.edit_rules.declared.acts.Entry.{Entry}
use Rattle.edit_code.specs.Codes.{entry_code, head_code}

-- how many bytes the code of a configuration takes
abbrev pub head_size : ConfigParts → ℕ
head_size c = length (head_code c)

-- how many bytes the code of an entry takes
abbrev pub entry_size : Entry → ℕ
entry_size e = length (entry_code e)

-- a body stands behind a gate byte and its length
abbrev pub frame_size : ℕ → ℕ
frame_size body = 5 + body

-- the place of the last gate of the store of a configuration and its entries: eight bytes open it
abbrev pub store_size : ConfigParts → List Entry → ℕ
store_size c history = 8 + frame_size (head_size c) + sum_by (λ e. frame_size (entry_size e)) history
