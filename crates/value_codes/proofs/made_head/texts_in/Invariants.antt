-- The first texts are there.
use Rattle.std.proofs.Common.{◌≡◌, take}
use Rattle.value_codes.proofs.made_head.texts_in.Given as goal

abbrev pub invariant-loop-text : goal.invariant-loop-text
invariant-loop-text l = l.values ≡ take l.text-index l.raw
