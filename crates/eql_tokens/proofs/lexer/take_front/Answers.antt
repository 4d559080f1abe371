use Rattle.std.proofs.Common.{◌≡◌, ◌++◌, ℕ, Bool, List, drop, true, false, arith, ap, ◌∙◌, sym}
use Rattle.eql_tokens.specs.Tokens.{front, is_space}
use Rattle.eql_tokens.proofs.Cuts.{space_cut}
use Rattle.eql_tokens.proofs.Behind.{token_len, token_next, space_step}
use Rattle.eql_tokens.proofs.lexer.take_front.Goals as goal

-- whether the text begins with white space
space_is : (text bytes : List ℕ) (b : ℕ) (result space : Bool) → bytes ≡ text → b ≡ front bytes → result ≡ is_space b → result ≡ space → is_space (front text) ≡ space
space_is text bytes b result space same first is was =
    sym (is ∙ ap is_space (first ∙ ap front same)) ∙ was

pub returns-then-is_space-clause-next : goal.returns-then-is_space-clause-next
returns-then-is_space-clause-next c =
    let space = space_is c.args.text.now c.as_bytes.result.now c.front.result c.is_space.result true c.as_bytes.ensures.value c.front.ensures c.is_space.ensures c.if-is_space.true in
    ap (λ x. c.args.tokens.now ++ x) (space_step c.args.text.now c.args.at c.requires space)

pub returns-then-is_space-clause-cut : goal.returns-then-is_space-clause-cut
returns-then-is_space-clause-cut c =
    space_cut c.args.text.now c.utf8.text c.requires
    (space_is c.args.text.now c.as_bytes.result.now c.front.result c.is_space.result true c.as_bytes.ensures.value c.front.ensures c.is_space.ensures c.if-is_space.true)

pub returns-clause-next : goal.returns-clause-next
returns-clause-next c =
    let word = space_is c.args.text.now c.as_bytes.result.now c.front.result c.is_space.result false c.as_bytes.ensures.value c.front.ensures c.is_space.ensures c.if-is_space.false in
    token_next c.args.tokens.now c.push.new.self c.args.text.now c.args.at c.in_ok-token.token c.in_ok-token.len c.requires word c.in_ok-token.ensures.value c.in_ok-token.ensures.cut.0 c.in_ok-push.ensures.ok

pub returns-clause-some : goal.returns-clause-some
returns-clause-some c =
    let long = token_len (front c.args.text.now) (drop 1 c.args.text.now) in
    let size = ap (λ x. x.1) c.in_ok-token.ensures.value in omega arith
