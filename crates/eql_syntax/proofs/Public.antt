-- What the reader answers of a short text is what the grammar says of it.
use Rattle.std.proofs.Common.{◌≡◌, ◌≢◌, ℕ, suc, ◌+◌, ◌≤◌, inr, List, [], ◌∷◌, length, drop, get_or, Result, Ok, Err, IfOk, IfErr, refl, ap, ◌∙◌, subst}
use Rattle.std.proofs.lemmas.List.{at_drop_more}
use Rattle.eql_syntax.specs.declared.query.Query.{Query}
use Rattle.eql_syntax.specs.declared.query.QueryFault.{QueryFault}
use Rattle.eql_syntax.specs.declared.query.QueryFault.TheVariants as faults
use Rattle.eql_tokens.specs.declared.token.Placed.{Placed}
use Rattle.eql_syntax.specs.Tree.{Tree}
use Rattle.eql_syntax.specs.Inner.Tree.{tree_of}
use Rattle.eql_tokens.specs.Tokens.{tokens_of}
use Rattle.eql_syntax.specs.Inner.Reading.{Reading, read, reads, taken, at_start}
use Rattle.eql_syntax.specs.Inner.View.{Gives}
use Rattle.eql_syntax.specs.Answer.{IsQuery, IsFault}
use Rattle.eql_syntax.proofs.Exact.{Says, read_says, read_finds}

pub query_found : (text : List ℕ) (answer : Result Query QueryFault) → length text ≤ 4096 → Gives answer (read (tokens_of text) (length text)) → IfOk answer (λ q. IsQuery text (tree_of q))
query_found text (Ok q) short is =
    let says = subst (Says [] at_start (tokens_of text) (length text)) is (read_says (tokens_of text) (length text)) in
    record { short = short; spells = says.0; within = says.1 }
query_found text (Err fault) short is = tt

pub query_only : (text : List ℕ) (answer : Result Query QueryFault) → Gives answer (read (tokens_of text) (length text)) → (q : Tree) → IsQuery text q → Gives answer (Ok q)
query_only text answer is q query =
    subst (Gives answer) (read_finds (tokens_of text) (length text) q query.spells query.within) is

pub fault_found : (text : List ℕ) (answer : Result Query QueryFault) → length text ≤ 4096 → Gives answer (read (tokens_of text) (length text)) → IfErr answer (λ fault. fault ≢ faults.Memory → IsFault text fault)
fault_found text (Ok q) short is = tt
fault_found text (Err fault) short is =
    λ named. inr (short, subst (Says [] at_start (tokens_of text) (length text)) (is named) (read_says (tokens_of text) (length text)))

-- one token of the list
pub reads_more : (r : Reading) (xs : List Placed) (i n : ℕ) (d : Placed) → suc i ≤ length xs → reads (Ok r) (drop i xs) n ≡ reads (taken r (get_or xs i d).token (get_or xs i d).at) (drop (i + 1) xs) n
reads_more r xs i n d within = at_drop_more (λ ys. reads (Ok r) ys n) xs i d within

pub reads_err : (fault : QueryFault) (xs : List Placed) (n : ℕ) → reads (Err fault) xs n ≡ Err fault
reads_err fault [] n = refl
reads_err fault (x ∷ xs) n = reads_err fault xs n

-- the reading stops at a fault
pub reads_stop : (r : Reading) (xs : List Placed) (i n : ℕ) (d : Placed) (fault : QueryFault) → suc i ≤ length xs → d ≡ get_or xs i d → taken r d.token d.at ≡ Err fault → reads (Ok r) (drop i xs) n ≡ Err fault
reads_stop r xs i n d fault within is stops =
    let here : taken r (get_or xs i d).token (get_or xs i d).at ≡ Err fault = subst (λ (x : Placed). taken r x.token x.at ≡ Err fault) is stops in
    reads_more r xs i n d within ∙ (ap (λ x. reads x (drop (i + 1) xs) n) here ∙ reads_err fault (drop (i + 1) xs) n)
