-- What was read and what is still to be read are all that is there, and all that was read are edits of the key.
use Rattle.std.proofs.Common.{◌≡◌, ◌-◌, true, length}
use Rattle.std.specs.List.{list_all}
use Rattle.byte_forms.specs.Lists.{items_at}
use Rattle.edit_rules.specs.Inner.Acts.{is_edit_of}
use Rattle.value_codes.proofs.Loops.{put_front}
use Rattle.edit_code.specs.Edits.{inner_form}
use Rattle.edit_code.proofs.lists.read_edits.Given as goal

abbrev pub invariant-loop-place : goal.invariant-loop-place
invariant-loop-place l =
    (put_front l.edits (items_at (inner_form l.fn.key) (l.count - l._place) l.from) ≡ items_at (inner_form l.fn.key) l.fn.count l.fn.from)
    × (list_all (is_edit_of l.fn.key) l.edits ≡ true) × (length l.edits ≡ l._place)
