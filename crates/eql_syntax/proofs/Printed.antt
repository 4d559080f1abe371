-- The print of a query that some text spells within the limits is a text of that query.
use Rattle.std.proofs.Common.{◌≡◌, ℕ, ◌≤◌, true, false, List, [], length, Result, Ok, Err, IfOk, refl, sym, subst}
use Rattle.eql_tokens.specs.declared.token.Token.{Token}
use Rattle.eql_syntax.specs.Tree.{Tree}
use Rattle.eql_tokens.specs.Tokens.{tokens_of}
use Rattle.eql_syntax.specs.Grammar.{Spells}
use Rattle.eql_syntax.specs.Fault.{kinds, is_within}
use Rattle.eql_syntax.specs.Answer.{IsQuery}
use Rattle.eql_syntax.specs.Inner.Print.{query_text}
use Rattle.eql_syntax.proofs.Shapes.{read_shape}
use Rattle.eql_syntax.proofs.PrintTokens.{print_kinds}
use Rattle.eql_syntax.proofs.Respells.{query_again}
use Rattle.eql_syntax.proofs.Limits.{query_within, query_prints}

print_spells : (text : List ℕ) (q : Tree) → IsQuery text q → Spells (kinds (tokens_of (query_text q))) q
print_spells text q query =
    let shape = read_shape text q query.spells in
    subst (λ (ts : List Token). Spells ts q) (sym (print_kinds q shape)) (query_again q [] shape)

print_within : (text : List ℕ) (q : Tree) → IsQuery text q → is_within 0 false (kinds (tokens_of (query_text q))) ≡ true
print_within text q query =
    let shape = read_shape text q query.spells in
    let fit = query_within query.spells 0 false query.within in
    subst (λ (ts : List Token). is_within 0 false ts ≡ true) (sym (print_kinds q shape)) (query_prints q [] 0 false fit.0 refl)

pub spells_again : (print : List ℕ) (q : Tree) → print ≡ query_text q → (text : List ℕ) → IsQuery text q → Spells (kinds (tokens_of print)) q
spells_again print q is text query =
    subst (λ (x : List ℕ). Spells (kinds (tokens_of x)) q) (sym is) (print_spells text q query)

pub reads_again : (print : List ℕ) (q : Tree) → print ≡ query_text q → (text : List ℕ) → IsQuery text q → length print ≤ 4096 → IsQuery print q
reads_again print q is text query short = record {
  short = short;
  spells = subst (λ (x : List ℕ). Spells (kinds (tokens_of x)) q) (sym is) (print_spells text q query);
  within = subst (λ (x : List ℕ). is_within 0 false (kinds (tokens_of x)) ≡ true) (sym is) (print_within text q query);
}

pub spells_found : {E : Type 0} (answer : Result (List ℕ) E) (q : Tree) → IfOk answer (λ print. print ≡ query_text q) → (text : List ℕ) → IsQuery text q → IfOk answer (λ print. Spells (kinds (tokens_of print)) q)
spells_found (Ok print) q is text query = spells_again print q is text query
spells_found (Err e) q is text query = tt

pub reads_found : {E : Type 0} (answer : Result (List ℕ) E) (q : Tree) → IfOk answer (λ print. print ≡ query_text q) → (text : List ℕ) → IsQuery text q → IfOk answer (λ print. length print ≤ 4096 → IsQuery print q)
reads_found (Ok print) q is text query = λ short. reads_again print q is text query short
reads_found (Err e) q is text query = tt
