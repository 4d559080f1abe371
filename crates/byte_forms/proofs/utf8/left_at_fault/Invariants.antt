-- What is left is read from where the walk stands.
use Rattle.std.proofs.Common.{◌-◌, drop}
use Rattle.byte_forms.specs.Utf8.{utf8_form, walk}
use Rattle.byte_forms.proofs.TextLaws.{Ends}
use Rattle.byte_forms.proofs.utf8.left_at_fault.Given as goal

abbrev pub invariant-loop-place : goal.invariant-loop-place
invariant-loop-place l =
    Ends ((utf8_form l.len).read l.bytes) ((walk (l.len - l.place) l.ranges).read (drop l.place l.bytes))
