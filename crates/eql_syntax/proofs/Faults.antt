-- A text has one first fault at most, and a text that is a query has none.
use Rattle.std.proofs.Common.{◌≡◌, ◌≢◌, ℕ, ◌≤◌, inl, inr, Bool, true, false, ltb, not, List, [], ◌∷◌, ◌++◌, length, Result, Ok, Err, refl, sym, ap, ◌∙◌, subst, append_assoc, arith}
use Rattle.std.proofs.lemmas.List.{append-nil}
use Rattle.std.proofs.lemmas.Bool.{ltb-true, and_parts}
use Rattle.eql_syntax.specs.declared.query.Query.{Query}
use Rattle.eql_syntax.specs.declared.query.QueryFault.{QueryFault}
use Rattle.eql_syntax.specs.declared.query.QueryFault.TheVariants as faults
use Rattle.eql_tokens.specs.declared.token.Placed.{Placed}
use Rattle.eql_tokens.specs.declared.token.Token.{Token}
use Rattle.eql_tokens.specs.declared.token.Token.TheVariants.{Open, Hash}
use Rattle.eql_syntax.specs.Tree.{Tree}
use Rattle.eql_syntax.specs.Inner.Tree.{tree_of}
use Rattle.eql_tokens.specs.Tokens.{tokens_of}
use Rattle.eql_syntax.specs.Grammar.{Spells}
use Rattle.eql_syntax.specs.Fault.{kinds, depth_step, open_from, mark_step, marked_from, fits, is_within, FaultHere, no_query, too_deep, two_marks, FirstFault}
use Rattle.eql_syntax.specs.Inner.View.{Gives}
use Rattle.eql_syntax.specs.Answer.{IsQuery, IsFault}
use Rattle.eql_syntax.specs.Inner.Reading.{read}
use Rattle.eql_syntax.proofs.Exact.{open-append, marked-append}
use Rattle.eql_syntax.proofs.Public.{query_found, fault_found}

open_hash : (t : Token) → t ≡ Open → t ≡ Hash → ⊥
open_hash t is_open is_hash = let same : Open ≡ Hash = sym is_open ∙ is_hash in cc

one_here : (done : List Token) (x : Placed) (f g : QueryFault) → FaultHere done x f → FaultHere done x g → f ≡ g
one_here done x f g (no_query none) (no_query other) = refl
one_here done x f g (no_query none) (too_deep begins opens deep) = absurd (none begins)
one_here done x f g (no_query none) (two_marks begins hash stands) = absurd (none begins)
one_here done x f g (too_deep begins opens deep) (no_query none) = absurd (none begins)
one_here done x f g (too_deep begins opens deep) (too_deep b o d) = refl
one_here done x f g (too_deep begins opens deep) (two_marks b hash stands) = absurd (open_hash x.token opens hash)
one_here done x f g (two_marks begins hash stands) (no_query none) = absurd (none begins)
one_here done x f g (two_marks begins hash stands) (too_deep b opens deep) = absurd (open_hash x.token opens hash)
one_here done x f g (two_marks begins hash stands) (two_marks b h s) = refl

one_first : (xs : List Placed) (done : List Token) (size : ℕ) (f g : QueryFault) → FirstFault done xs size f → FirstFault done xs size g → f ≡ g
one_first [] done size f g first other = first.0 ∙ sym other.0
one_first (x ∷ xs) done size f g (inl here) (inl other) = one_here done x f g here other
one_first (x ∷ xs) done size f g (inl here) (inr later) = absurd (later.0 f here)
one_first (x ∷ xs) done size f g (inr later) (inl here) = absurd (later.0 g here)
one_first (x ∷ xs) done size f g (inr later) (inr other) = one_first xs (done ++ x.token ∷ []) size f g later.1 other.1

-- a token of a query within the limits is at no fault
none_here : (done : List Token) (x : Placed) (rest : List Token) (q : Tree) (f : QueryFault) → Spells (done ++ (x.token ∷ rest)) q → fits (open_from 0 done) (marked_from false done) x.token ≡ true → FaultHere done x f → ⊥
none_here done x rest q f spells fit (no_query none) =
    none (rest, (q, subst (λ (ts : List Token). Spells ts q) (sym (append_assoc done (x.token ∷ []) rest)) spells))
none_here done x rest q f spells fit (too_deep begins opens deep) =
    let below : ltb (open_from 0 done) 32 ≡ true = subst (λ (t : Token). fits (open_from 0 done) (marked_from false done) t ≡ true) opens fit in
    let less = ltb-true _ _ below in
    omega (arith, less, deep)
none_here done x rest q f spells fit (two_marks begins hash stands) =
    let free : not (marked_from false done) ≡ true = subst (λ (t : Token). fits (open_from 0 done) (marked_from false done) t ≡ true) hash fit in
    let no : not true ≡ true = subst (λ (m : Bool). not m ≡ true) stands free in
    cc

none_first : (xs : List Placed) (done : List Token) (size : ℕ) (q : Tree) (f : QueryFault) → Spells (done ++ kinds xs) q → is_within (open_from 0 done) (marked_from false done) (kinds xs) ≡ true → FirstFault done xs size f → ⊥
none_first [] done size q f spells within first =
    first.1 q (subst (λ (ts : List Token). Spells ts q) (append-nil done) spells)
none_first (x ∷ xs) done size q f spells within (inl here) =
    let parts = and_parts (fits (open_from 0 done) (marked_from false done) x.token) (is_within (depth_step (open_from 0 done) x.token) (mark_step (marked_from false done) x.token) (kinds xs)) within in
    none_here done x (kinds xs) q f spells parts.0 here
none_first (x ∷ xs) done size q f spells within (inr later) =
    let parts = and_parts (fits (open_from 0 done) (marked_from false done) x.token) (is_within (depth_step (open_from 0 done) x.token) (mark_step (marked_from false done) x.token) (kinds xs)) within in
    let depth : is_within (open_from 0 (done ++ x.token ∷ [])) (mark_step (marked_from false done) x.token) (kinds xs) ≡ true = subst (λ (n : ℕ). is_within n (mark_step (marked_from false done) x.token) (kinds xs) ≡ true) (sym (open-append 0 done x.token)) parts.1 in
    let mark : is_within (open_from 0 (done ++ x.token ∷ [])) (marked_from false (done ++ x.token ∷ [])) (kinds xs) ≡ true = subst (λ (m : Bool). is_within (open_from 0 (done ++ x.token ∷ [])) m (kinds xs) ≡ true) (sym (marked-append false done x.token)) depth in
    none_first xs (done ++ x.token ∷ []) size q f (subst (λ (ts : List Token). Spells ts q) (sym (append_assoc done (x.token ∷ []) (kinds xs))) spells) mark later.1

one_fault : (text : List ℕ) (f g : QueryFault) → IsFault text f → IsFault text g → f ≡ g
one_fault text f g (inl long) (inl other) = long.1 ∙ sym other.1
one_fault text f g (inl long) (inr short) = absurd (omega (arith, long.0, short.0))
one_fault text f g (inr short) (inl long) = absurd (omega (arith, long.0, short.0))
one_fault text f g (inr first) (inr other) = one_first (tokens_of text) [] (length text) f g first.1 other.1

no_fault : (text : List ℕ) (q : Tree) (f : QueryFault) → IsQuery text q → IsFault text f → ⊥
no_fault text q f query (inl long) = let short = query.short in omega (arith, long.0, short)
no_fault text q f query (inr first) = none_first (tokens_of text) [] (length text) q f query.spells query.within first.1

-- the fault of a text is the one that is answered
abbrev Found : Result Query QueryFault → List ℕ → Type 0
Found (Ok q) text = IsQuery text (tree_of q)
Found (Err f) text = f ≢ faults.Memory → IsFault text f

pub fault_told : (text : List ℕ) (answer : Result Query QueryFault) (found : Found answer text) (fault : QueryFault) → IsFault text fault → Gives answer (Err fault)
fault_told text (Ok q) found fault is = absurd (no_fault text (tree_of q) fault found is)
fault_told text (Err f) found fault is =
    λ named. ap (λ (e : QueryFault). Err e) (one_fault text fault f is (found named))

pub short_told : (text : List ℕ) (answer : Result Query QueryFault) → length text ≤ 4096 → Gives answer (read (tokens_of text) (length text)) → (fault : QueryFault) → IsFault text fault → Gives answer (Err fault)
short_told text (Ok q) short is fault told =
    fault_told text (Ok q) (query_found text (Ok q) short is) fault told
short_told text (Err f) short is fault told =
    fault_told text (Err f) (fault_found text (Err f) short is) fault told
