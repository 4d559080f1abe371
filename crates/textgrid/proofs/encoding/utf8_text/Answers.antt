use Rattle.std.proofs.Common.{◌≡◌, ℕ, List, length, Ok, arith}
use Rattle.std.proofs.lemmas.Bool.Decides.{nat_tests}
use Rattle.std.proofs.lemmas.Str.{utf8_valid_len_le, utf8_valid_len-IsUtf8}
use Rattle.std.specs.Str.Lossy.{utf8_valid_len}
use Rattle.textgrid.specs.Encodings.{utf8_of}
use Rattle.textgrid.proofs.encoding.utf8_text.Goals as goal

all_valid : (bs text : List ℕ) (mark : ℕ) → utf8_valid_len bs ≡ length bs → text ≡ bs → utf8_of bs mark ≡ Ok text
all_valid bs text mark valid same = grind (arith, nat_tests)

pub overflow_add-result : goal.overflow_add-result
overflow_add-result c = omega (arith, utf8_valid_len_le c.args.bytes.now, c.in-Err.ensures.valid_len, c.valid_up_to.ensures)

pub returns-in-Ok-clause-ok : goal.returns-in-Ok-clause-ok
returns-in-Ok-clause-ok c =
    all_valid c.args.bytes.now c.in-Ok.text.now c.args.mark (utf8_valid_len-IsUtf8 c.args.bytes.now c.in-Ok.ensures.cases.1) c.in-Ok.ensures.cases.0
