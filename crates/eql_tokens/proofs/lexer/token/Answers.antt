use Rattle.std.proofs.Common.{◌≡◌, length, drop, arith, ap, ◌∙◌, subst, ℕ, Some}
use Rattle.std.proofs.lemmas.Slice.{between_to_end}
use Rattle.eql_tokens.specs.Tokens.{front, symbol}
use Rattle.eql_tokens.proofs.Cuts.{symbol_cut}
use Rattle.eql_tokens.proofs.lexer.token.Goals as goal

pub returns-in-Some-clause-cut : goal.returns-in-Some-clause-cut
returns-in-Some-clause-cut c =
    let bytes = c.as_bytes-bytes.result.now in
    let same = c.as_bytes-bytes.ensures.value in
    let next : c.front.result ≡ front (drop 1 c.args.text.now) = c.front.ensures ∙ ap front (between_to_end bytes 1 (length bytes) (omega arith) ∙ ap (λ x. drop 1 x) same) in
    let first : c.front-first.result ≡ front c.args.text.now = c.front-first.ensures ∙ ap front same in
    let found = subst (λ (x : ℕ). symbol x c.front.result ≡ Some (c.in-Some.found.0, c.in-Some.found.1)) first c.in-Some.ensures in
    symbol_cut c.args.text.now c.front.result c.in-Some.found.0 c.in-Some.found.1 c.utf8.text c.requires next found
