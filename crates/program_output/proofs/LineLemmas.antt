-- The texts of last lines.
use Rattle.std.proofs.Common.{◌≡◌, ◌∷◌, ℕ, List, false, codes, refl, ap, ◌∙◌}
use Rattle.serde_json.specs.Data.{Data}
use Rattle.serde_json.specs.Written.{has_float}
use Rattle.store_texts.specs.reply_texts.Members.{line_text}
use Rattle.store_texts.specs.reply_texts.Refusals.{number_at, plain}
use Rattle.store_texts.proofs.of_reply_texts.Plain.{any_float, object_plain}
use Rattle.store_texts.proofs.of_reply_texts.Printed.{config_plain}
use Rattle.script_lines.specs.declared.faults.LineFault.{LineFault}
use Rattle.script_lines.specs.declared.faults.LineFault.TheVariants as faults
use Rattle.program_output.specs.Texts.{fault_data, fault_members, fault_text, last_data, last_text}

fault_plain : (fault : LineFault) → any_float (fault_members fault) ≡ false
fault_plain faults.NotJson = refl
fault_plain (faults.Config fault) = config_plain (codes "cause") fault
fault_plain _ = refl

-- the line of a value
abbrev IsLineOf : List ℕ → Data → Type 0
IsLineOf text d = has_float d ≡ false → text ≡ line_text d

line_of : (text : List ℕ) (d e : Data) → d ≡ e → has_float e ≡ false → IsLineOf text d → text ≡ line_text e
line_of text d e same plain is = is (ap has_float same ∙ plain) ∙ ap line_text same

pub fault_line : (text : List ℕ) (d : Data) (line : ℕ) (fault : LineFault) → d ≡ fault_data line fault →
    (has_float d ≡ false → text ≡ line_text d) → text ≡ fault_text line fault
unfolding fault_text
fault_line text d line fault same is =
    line_of text d (fault_data line fault) same
    (object_plain (number_at (codes "line") line ∷ number_at (codes "status") 3 ∷ fault_members fault) (fault_plain fault)) is

pub last_line : (text : List ℕ) (d : Data) (cause : List ℕ) (status : ℕ) → d ≡ last_data cause status →
    (has_float d ≡ false → text ≡ line_text d) → text ≡ last_text cause status
unfolding last_text
last_line text d cause status same is =
    line_of text d (last_data cause status) same
    (object_plain (number_at (codes "status") status ∷ plain (codes "cause") cause) refl) is
