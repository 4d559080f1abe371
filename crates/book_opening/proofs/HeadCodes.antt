-- What a code says of its value: of a configuration, and which one is an entry's.
use Rattle.std.proofs.Common.{◌≡◌, true, false, Bool, ℕ, ◌<◌, List, ◌∷◌, length, IsTrue, refl, ap, subst, arith}
use Rattle.std.specs.Prelude.{◌&&◌}
use Rattle.db_config.specs.declared.parts.ConfigParts.{ConfigParts}
use Rattle.db_config.specs.Valid.{is_valid}
use Rattle.version_tree.specs.edit_rules.declared.acts.Entry.{Entry}
use Rattle.byte_forms.specs.Parts.{led, byte_in}
use Rattle.live_book.specs.edit_code.Codes.{entry_code, head_code, IsEntryCode, IsHeadCode}
use Rattle.value_codes.specs.Heads.{head_form, parts_form}
use Rattle.db_config.specs.Made.{is_made}

-- the code of an entry is its own
pub entry_is : (text : List ℕ) (e : Entry) → IsEntryCode text e → text ≡ entry_code e
unfolding entry_code
entry_is text e is = is.0.1

-- the code of a configuration is its own
pub head_is : (text : List ℕ) (c : ConfigParts) → IsHeadCode text c → text ≡ head_code c
unfolding head_code
head_is text c is = is.0.1

-- a configuration's code begins with its form
head_begins : (c : ConfigParts) → head_code c ≡ 0 ∷ parts_form.code c
unfolding head_code head_form led byte_in
head_begins c = refl

-- so it has a byte
pub head_some : (c : ConfigParts) → 0 < length (head_code c)
head_some c = omega (arith, ap length (head_begins c))

both_true : (a b : Bool) → (a && b) ≡ true → b ≡ true
both_true true b is = is
both_true false b is = absurd cc

-- a configuration that was read is valid
pub valid_of : (text : List ℕ) (c : ConfigParts) → IsHeadCode text c → IsTrue (is_valid c)
valid_of text c is = both_true (is_made c) (is_valid c) is.1

-- a configuration whose code was written has a code of its own
pub own_head : (text : List ℕ) (c : ConfigParts) → text ≡ head_code c → IsHeadCode text c → IsHeadCode (head_code c) c
own_head text c is code = subst (λ (l : List ℕ). IsHeadCode l c) is code
