use Rattle.std.proofs.Common.{◌-◌, drop, arith, take_all, length-drop}
use Rattle.std.proofs.lemmas.Str.{IsUtf8-from_ascii}
use Rattle.segment_list.proofs.digits.Backwards.as_str.Goals as goal

pub from_utf8_unchecked-requires : goal.from_utf8_unchecked-requires
from_utf8_unchecked-requires c =
    let s = c.self.inside in
    IsUtf8-from_ascii _ (rw (take_all (96 - s.at) (drop s.at s.bytes) (omega (arith, length-drop s.at s.bytes)))
    c.self.invariant.ascii)
