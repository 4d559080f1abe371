-- What the code of an entry says of it.
use Rattle.std.proofs.Common.{◌≡◌, ℕ, ◌<◌, List, length, subst, arith}
use Rattle.version_steps.specs.edit_rules.declared.acts.Entry.{Entry}
use Rattle.byte_forms.specs.Parts.{led}
use Rattle.edit_code.specs.Codes.{entry_code, IsEntryCode}
use Rattle.edit_code.specs.Edits.{entry_form}
use Rattle.edit_code.specs.Tags.{tag_form}

-- a code has a byte
pub entry_some : (e : Entry) → 0 < length (entry_code e)
unfolding entry_code entry_form led tag_form
entry_some e = omega arith

-- an entry whose code was written has a code of its own
pub own_entry : (text : List ℕ) (e : Entry) → text ≡ entry_code e → IsEntryCode text e → IsEntryCode (entry_code e) e
own_entry text e is code = subst (λ (l : List ℕ). IsEntryCode l e) is code
