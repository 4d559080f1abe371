use Rattle.std.proofs.Common.{◌≡◌, ◌+◌, ◌-◌, ◌<◌, List, length, take, drop, arith, ap, ◌∙◌, sym, subst, ℕ, refl}
use Rattle.std.specs.Str.{IsCharBoundary}
use Rattle.std.proofs.lemmas.Slice.{between_to_end}
use Rattle.eql_tokens.specs.Tokens.{word_len}
use Rattle.eql_tokens.proofs.Cuts.{word_cut}
use Rattle.eql_tokens.proofs.lexer.bare_word.Goals as goal

cut : (text bytes : List ℕ) (n : ℕ) → 0 < length text → bytes ≡ text → n ≡ word_len (take (length bytes - 1) (drop 1 bytes)) → IsCharBoundary text (n + 1)
cut text bytes n some same is =
    let whole : n ≡ word_len (drop 1 text) = is ∙ ap word_len (between_to_end bytes 1 (length bytes) (omega arith) ∙ ap (λ x. drop 1 x) same) in
    subst (λ (k : ℕ). IsCharBoundary text (k + 1)) (sym whole) (word_cut text (drop 1 text) some refl)

pub range-requires-clause-end_boundary : goal.range-requires-clause-end_boundary
range-requires-clause-end_boundary c =
    cut c.args.text.now c.as_bytes.result.now c.word_len-len.result c.requires c.as_bytes.ensures.value c.word_len-len.ensures.value

pub returns-clause-cut : goal.returns-clause-cut
returns-clause-cut c =
    cut c.args.text.now c.as_bytes.result.now c.word_len-len.result c.requires c.as_bytes.ensures.value c.word_len-len.ensures.value
