use Rattle.std.proofs.Common.{◌≡◌, ◌<◌, ◌+◌, length, drop, arith, ap, ◌∙◌, sym, subst, ℕ}
use Rattle.std.specs.Str.{IsCharBoundary}
use Rattle.eql_tokens.specs.Tokens.{quoted_len}
use Rattle.eql_tokens.proofs.Cuts.{closing_cut, front_some}
use Rattle.eql_tokens.proofs.lexer.quoted_word.Goals as goal

pub returns-clause-cut : goal.returns-clause-cut
returns-clause-cut c =
    let inner = c.as_bytes.result.now in
    let is : inner ≡ drop 1 c.args.text.now = c.as_bytes.ensures.value ∙ c.range_from-inner.ensures.value in
    let count = c.quoted_len-len.ensures.value in
    let within : quoted_len inner < length inner = omega (arith, c.quoted_len-len.ensures.within, count, ap length c.as_bytes.ensures.value, c.if-len-inner.false) in
    let cut = closing_cut c.args.text.now inner c.utf8.text (front_some c.args.text.now c.requires) is within in
    subst (λ (n : ℕ). IsCharBoundary c.args.text.now (n + 2)) (sym count) cut
