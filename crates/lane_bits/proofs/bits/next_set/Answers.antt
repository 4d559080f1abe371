use Rattle.std.proofs.Common.{◌/◌, ◌≡◌, ◌%◌, ◌^◌, get_or, arith}
use Rattle.lane_bits.specs.Inner.Words.{bits_of}
use Rattle.lane_bits.proofs.Next.{here_found, behind_found, past_found}
use Rattle.lane_bits.proofs.bits.next_set.Goals as goal

pub overflow_add-result : goal.overflow_add-result
overflow_add-result c =
    let found = here_found c.args.words.now c.args.len c.args.from c.requires c.if-word-gt0.true (c.type_inv.words (c.args.from / 64)).fits in
    let within = found.0 in omega arith

pub returns-then-word-gt0 : goal.returns-then-word-gt0
returns-then-word-gt0 c =
    (here_found c.args.words.now c.args.len c.args.from c.requires c.if-word-gt0.true (c.type_inv.words (c.args.from / 64)).fits).1

pub returns-then-at-words : goal.returns-then-at-words
returns-then-at-words c = past_found c.args.words.now c.args.len c.args.from c.requires c.if-at-words.true

pub returns : goal.returns
returns c =
    let zero_rest : get_or c.args.words.now (c.args.from / 64) 0 / 2 ^ (c.args.from % 64) ≡ 0 = omega arith in
    behind_found c.args.words.now (bits_of c.args.len c.args.words.now) c.args.from c.next_from_word.result c.requires zero_rest c.next_from_word.ensures
