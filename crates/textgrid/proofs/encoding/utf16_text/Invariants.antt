use Rattle.std.proofs.Common.{◌≡◌, ◌+◌, ◌*◌, ◌≤◌, length}
use Rattle.std.specs.Prelude.{string_bytes}
use Rattle.textgrid.specs.Encodings.{utf16_from, utf16_of}
use Rattle.textgrid.specs.Inner.Encodings.{with_text}
use Rattle.textgrid.proofs.encoding.utf16_text.Given as goal

abbrev pub invariant-loop-rest : goal.invariant-loop-rest
invariant-loop-rest l = record {
  room : l.at + length l.rest ≡ 2 + length l.bytes;
  size : 2 * length (string_bytes l.text) + 3 * length l.rest ≤ 3 * length l.bytes;
  same : with_text (string_bytes l.text) (utf16_from l.big l.rest 0 l.at) ≡ utf16_of l.big l.bytes;
}

abbrev pub decreases-loop-rest : goal.decreases-loop-rest
decreases-loop-rest l = length l.rest
