use Rattle.std.proofs.Common.{length, inl, inr, arith}
use Rattle.std.proofs.lemmas.Bool.{cases_lt}
use Rattle.std.proofs.lemmas.List.{get_or_past}
use Rattle.lane_bits.proofs.Places.{place_fits}
use Rattle.lane_bits.proofs.Next.{word_found, no_word_found}
use Rattle.lane_bits.proofs.bits.next_from_word.Goals as goal

pub overflow_mul-result : goal.overflow_mul-result
overflow_mul-result c =
    let fits = place_fits c.args.words.now c.args.len c.loop-k.k c.requires c.ranges.len.fits c.loop-k-test.true in omega arith

pub overflow_add-result : goal.overflow_add-result
overflow_add-result c =
    let found = word_found c.args.words.now c.args.len c.args.from c.loop-k.k c.requires (omega arith) c.loop-k.invariant c.if-word-gt0.true (c.type_inv.words c.loop-k.k).fits in
    let within = found.0 in omega arith

pub returns-then-word-gt0 : goal.returns-then-word-gt0
returns-then-word-gt0 c =
    (word_found c.args.words.now c.args.len c.args.from c.loop-k.k c.requires (omega arith) c.loop-k.invariant c.if-word-gt0.true (c.type_inv.words c.loop-k.k).fits).1

pub returns : goal.returns
returns c =
    no_word_found c.args.words.now c.args.len c.args.from c.requires (λ j from. elim (cases_lt j (length c.args.words.now)) [
      | inl within ↦ c.loop-k.invariant j from (omega arith)
      | inr past ↦ get_or_past c.args.words.now j 0 past
    ])
