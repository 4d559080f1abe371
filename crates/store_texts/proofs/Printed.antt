-- The text of a value that has no float, on a line of its own.
use Rattle.std.proofs.Common.{◌≡◌, ◌∷◌, ℕ, List, false, codes, refl, ap, ◌∙◌}
use Rattle.serde_json.specs.Data.{Data}
use Rattle.serde_json.specs.Written.{has_float}
use Rattle.edit_rules.specs.declared.acts.Entry.{Entry}
use Rattle.reply_texts.specs.Members.{line_text}
use Rattle.reply_texts.specs.Refusals.{number_at}
use Rattle.reply_texts.proofs.Plain.{any_float, object_plain}
use Rattle.reply_texts.proofs.Printed.{config_plain, grid_plain, refusal_plain}
use Rattle.store_texts.specs.declared.faults.FileFault.{FileFault}
use Rattle.store_texts.specs.declared.faults.FileFault.TheVariants as files
use Rattle.store_texts.specs.declared.faults.Refused.{Refused}
use Rattle.store_texts.specs.declared.faults.Refused.TheVariants as refused
use Rattle.store_texts.specs.Causes.{fault_members, refused_data, refused_members, refused_text}
use Rattle.store_texts.specs.Texts.{damaged_data, damaged_text, done_data, done_text, from_data, from_text, mark_data, mark_text, entry_data}

fault_plain : (fault : FileFault) → any_float (fault_members fault) ≡ false
fault_plain files.Absent = refl
fault_plain (files.Config fault) = config_plain (codes "cause") fault
fault_plain (files.Grid fault) = grid_plain (codes "cause") fault
fault_plain _ = refl

refused_plain : (r : Refused) → any_float (refused_members r) ≡ false
refused_plain refused.NoConfiguration = refl
refused_plain (refused.Request refusal) = refusal_plain (codes "cause") refusal
refused_plain (refused.File file fault) = fault_plain fault
refused_plain _ = refl

-- the line of a value
abbrev IsLineOf : List ℕ → Data → Type 0
IsLineOf text d = has_float d ≡ false → text ≡ line_text d

line_of : (text : List ℕ) (d e : Data) → d ≡ e → has_float e ≡ false → IsLineOf text d → text ≡ line_text e
line_of text d e same plain is = is (ap has_float same ∙ plain) ∙ ap line_text same

pub refused_line : (text : List ℕ) (d : Data) (r : Refused) → d ≡ refused_data r → (has_float d ≡ false
    → text ≡ line_text d) → text ≡ refused_text r
unfolding refused_text
refused_line text d r same is =
    line_of text d (refused_data r) same
    (object_plain (number_at (codes "status") 10 ∷ refused_members r) (refused_plain r)) is

pub damaged_line : (text : List ℕ) (d : Data) (at : ℕ) → d ≡ damaged_data at → (has_float d ≡ false
    → text ≡ line_text d) → text ≡ damaged_text at
unfolding damaged_text
damaged_line text d at same is = line_of text d (damaged_data at) same refl is

pub done_line : (text : List ℕ) (d : Data) (n : ℕ) (command : List ℕ) → d ≡ done_data n command
    → (has_float d ≡ false → text ≡ line_text d) → text ≡ done_text n command
unfolding done_text
done_line text d n command same is = line_of text d (done_data n command) same refl is

pub from_line : (text : List ℕ) (d : Data) (n : ℕ) → d ≡ from_data n → (has_float d ≡ false → text ≡ line_text d)
    → text ≡ from_text n
unfolding from_text
from_line text d n same is = line_of text d (from_data n) same refl is

pub mark_line : (text : List ℕ) (d : Data) (at line session : ℕ) → d ≡ mark_data at line session
    → (has_float d ≡ false → text ≡ line_text d) → text ≡ mark_text at line session
unfolding mark_text
mark_line text d at line session same is = line_of text d (mark_data at line session) same refl is

pub entry_line : (text : List ℕ) (d : Data) (at : ℕ) (e : Entry) → d ≡ entry_data at e → (has_float d ≡ false
    → text ≡ line_text d) → text ≡ line_text (entry_data at e)
entry_line text d at e same is = line_of text d (entry_data at e) same refl is
