use Rattle.std.proofs.Common.{arith, refl}
use Rattle.std.specs.Prelude.{string_bytes, encode_utf8}
use Rattle.textgrid.specs.Encodings.{utf16_of, utf16_from}
use Rattle.textgrid.proofs.Sizes.{text_grows}
use Rattle.textgrid.proofs.Skips.{none_before, char_rest}
use Rattle.textgrid.proofs.encoding.utf16_text.Goals as goal

pub loop-rest-init : goal.loop-rest-init
unfolding utf16_of
loop-rest-init c = record {
  room = refl;
  size = rw c.new-text.ensures.bytes (omega arith);
  same = rw c.new-text.ensures.bytes (none_before (utf16_from c.args.big c.args.bytes.now 0 2));
}

pub loop-rest-preserved : goal.loop-rest-preserved
loop-rest-preserved c = record {
  room = omega (arith, c.split_at.ensures.back_len);
  size = text_grows (string_bytes c.loop-rest.text) (string_bytes c.push.new.self) (encode_utf8 c.in-Some.found) c.loop-rest.rest.now c.split_at.result.1.now c.args.bytes.now c.in-Some.len c.in_default-push.ensures.bytes c.in-Some.ensures.size (omega (arith, c.split_at.ensures.back_len, c.in-Some.ensures.within)) c.loop-rest.invariant.size;
  same = char_rest c.args.big (string_bytes c.loop-rest.text) (string_bytes c.push.new.self) c.loop-rest.rest.now c.split_at.result.1.now c.in-Some.found c.in-Some.len c.loop-rest.at (utf16_of c.args.big c.args.bytes.now) c.in-Some.ensures.value c.in-Some.ensures.some c.in-Some.ensures.within c.in_default-push.ensures.bytes c.split_at.ensures.back c.loop-rest.invariant.same;
}
