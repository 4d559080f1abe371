-- What was read and what is still to be read are all that is there.
use Rattle.std.proofs.Common.{◌≡◌, ◌-◌}
use Rattle.byte_forms.specs.Lists.{items_at}
use Rattle.value_codes.proofs.Loops.{put_front}
use Rattle.value_codes.proofs.lists.read_items.Given as goal

abbrev pub invariant-loop-place : goal.invariant-loop-place
invariant-loop-place g l =
    put_front l.items (items_at g.T.Readable.form (l.count - l._place) l.from) ≡ items_at g.T.Readable.form l.fn.count l.fn.from
