-- The JSON value of bytes: they have to be UTF-8, and then the text has to be JSON.
use Rattle.std.proofs.Common.{◌≡◌, ℕ, List, refl}
use Rattle.std.specs.Prelude.{Bool, true, false, Option, None, if◌then◌else◌}
use Rattle.std.specs.Str.{IsUtf8, is_utf8}
use Rattle.std.proofs.lemmas.Str.{is_utf8-from_IsUtf8, IsUtf8-from_is_utf8}
use Rattle.serde_json.specs.Data.{Data}
use Rattle.serde_json.specs.Read.{read}
use Rattle.emudb_files.specs.Files.{json_of}

pub json_text : (bytes : List ℕ) (o : Option Data) → IsUtf8 bytes → read bytes ≡ o → json_of bytes ≡ o
unfolding json_of
json_text bytes o text is = rw (is_utf8-from_IsUtf8 bytes text) is

no_text_at : (b : Bool) (o : Option Data) → (b ≡ true → ⊥) → (if b then o else None) ≡ None
no_text_at true o not_so = absurd (not_so refl)
no_text_at false o not_so = refl

pub no_text : (bytes : List ℕ) → ¬ (IsUtf8 bytes) → json_of bytes ≡ None
unfolding json_of
no_text bytes not_so = no_text_at (is_utf8 bytes) (read bytes) (λ h. not_so (IsUtf8-from_is_utf8 bytes h))
