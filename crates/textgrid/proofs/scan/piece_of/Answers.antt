use Rattle.std.proofs.Common.{◌≡◌, ◌-◌, ◌<◌, ℕ, List, length, take, drop, arith, ap, ◌∙◌, sym}
use Rattle.std.proofs.lemmas.Slice.{between_to_end}
use Rattle.textgrid.specs.Values.{front}
use Rattle.textgrid.proofs.Quotes.{cut_at_quote, piece_at_quote}
use Rattle.textgrid.proofs.scan.piece_of.Goals as goal

-- the byte that was looked at is the one at the place
first_is : (text bytes : List ℕ) (at first : ℕ) → bytes ≡ text → at < length text → first ≡ front (take (length bytes - at) (drop at bytes)) → first ≡ 34 → front (drop at text) ≡ 34
first_is text bytes at first same within is quote =
    let size = ap length same in
    sym (is ∙ ap front (between_to_end bytes at (length bytes) (omega arith) ∙ ap (λ (x : List ℕ). drop at x) same)) ∙ quote

pub range_from-requires : goal.range_from-requires
range_from-requires c =
    λ _. cut_at_quote c.args.text.now c.args.at c.utf8.text c.requires
    (first_is c.args.text.now c.as_bytes.result.now c.args.at c.front-first.result c.as_bytes.ensures.value c.requires c.front-first.ensures c.if-first-eq34.true)

pub returns-then-first-eq34-clause-value : goal.returns-then-first-eq34-clause-value
returns-then-first-eq34-clause-value c =
    piece_at_quote c.args.text.now c.range_from.result.now c.args.at c.quoted_piece.result
    (first_is c.args.text.now c.as_bytes.result.now c.args.at c.front-first.result c.as_bytes.ensures.value c.requires c.front-first.ensures c.if-first-eq34.true)
    c.range_from.ensures.value c.quoted_piece.ensures.value
