use Rattle.std.proofs.Common.{◌≡◌, ◌*◌, ◌+◌, ◌/◌, ℕ, length, take, ap, ◌∙◌, arith}
use Rattle.lane_bits.proofs.Counted.{ones, ones_split, ones_more, counted}
use Rattle.lane_bits.proofs.bits.count_words.Goals as goal

pub overflow_add-count : goal.overflow_add-count
overflow_add-count c =
    let words = c.args.words.now in
    let n : ℕ = 8 * c.loop-block.block in
    let few = (counted words c.args.len c.type_inv.words c.requires).1 in
    let more = ones_more n 8 words in
    let split = ones_split (n + 8) words in
    omega (arith, c.loop-block.invariant, c.count_eight-count.ensures)

pub loop-block-preserved : goal.loop-block-preserved
loop-block-preserved c =
    let words = c.args.words.now in
    let n : ℕ = 8 * c.loop-block.block in
    let count : n + 8 ≡ 8 * (c.loop-block.block + 1) = omega arith in
    let more = ones_more n 8 words in
    let sum : c.loop-block.count + c.count_eight-count.result ≡ ones (take (n + 8) words) =
    omega (arith, c.loop-block.invariant, c.count_eight-count.ensures) in
    sum ∙ ap (λ m. ones (take m words)) count

pub overflow_add-result : goal.overflow_add-result
overflow_add-result c =
    let words = c.args.words.now in
    let blocks : c.loop-block.block ≡ length words / 8 = omega arith in
    let n : ℕ = 8 * (length words / 8) in
    let done : c.loop-block.count ≡ ones (take n words) = c.loop-block.invariant ∙ ap (λ b. ones (take (8 * b) words)) blocks in
    let few = (counted words c.args.len c.type_inv.words c.requires).1 in
    let split = ones_split n words in
    omega (arith, c.count_rest.ensures)

pub returns : goal.returns
returns c =
    let words = c.args.words.now in
    let blocks : c.loop-block.block ≡ length words / 8 = omega arith in
    let n : ℕ = 8 * (length words / 8) in
    let done : c.loop-block.count ≡ ones (take n words) = c.loop-block.invariant ∙ ap (λ b. ones (take (8 * b) words)) blocks in
    let split = ones_split n words in
    let all : c.loop-block.count + c.count_rest.result ≡ ones words = omega (arith, c.count_rest.ensures) in
    all ∙ (counted words c.args.len c.type_inv.words c.requires).0
