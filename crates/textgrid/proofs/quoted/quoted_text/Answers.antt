use Rattle.std.proofs.Common.{◌≡◌, ◌+◌, ◌++◌, ◌∷◌, [], take, drop, arith, ap, ◌∙◌, sym, subst, List, ℕ, false}
use Rattle.std.specs.Prelude.{string_bytes}
use Rattle.std.specs.Str.{IsCharBoundary, IsUtf8}
use Rattle.std.proofs.lemmas.Str.{IsUtf8-drop}
use Rattle.textgrid.specs.Quoted.{quoted}
use Rattle.textgrid.specs.Inner.Quoted.{quoted_len}
use Rattle.textgrid.specs.Values.{front}
use Rattle.textgrid.proofs.Quotes.{unfinished, finished, goes_on, is_at_quote, first_cut, quote_bytes}
use Rattle.textgrid.proofs.quoted.quoted_text.Goals as goal

pub returns-then-len-rest-clause-value : goal.returns-then-len-rest-clause-value
returns-then-len-rest-clause-value c =
    unfinished (string_bytes c.loop-rest.made) c.loop-rest.rest.now c.loop-rest.at c.quoted_len-len.result _ (c.quoted_len-len.ensures.value ∙ ap quoted_len c.as_bytes.ensures.value) c.if-len-rest.true c.loop-rest.invariant.same

pub split_at-requires : goal.split_at-requires
split_at-requires c =
    (is_at_quote c.loop-rest.rest.now c.as_bytes.result.now c.quoted_len-len.result c.loop-rest.invariant.utf8 c.as_bytes.ensures.value c.quoted_len-len.ensures.value c.quoted_len-len.ensures.within c.if-len-rest.false).cut

pub split_at-requires-in-loop-rest : goal.split_at-requires-in-loop-rest
split_at-requires-in-loop-rest c =
    let here = is_at_quote c.loop-rest.rest.now c.as_bytes.result.now c.quoted_len-len.result c.loop-rest.invariant.utf8 c.as_bytes.ensures.value c.quoted_len-len.ensures.value c.quoted_len-len.ensures.within c.if-len-rest.false in
    let P : List ℕ → Type 0 = λ bs. IsCharBoundary bs 1 in
    subst P (sym c.split_at.ensures.back) here.second

pub returns-then-front-ne34-clause-value : goal.returns-then-front-ne34-clause-value
returns-then-front-ne34-clause-value c =
    let here = is_at_quote c.loop-rest.rest.now c.as_bytes.result.now c.quoted_len-len.result c.loop-rest.invariant.utf8 c.as_bytes.ensures.value c.quoted_len-len.ensures.value c.quoted_len-len.ensures.within c.if-len-rest.false in
    let after = c.split_at-in-loop-rest.result.1.now in
    let left : after ≡ drop (c.quoted_len-len.result + 1) c.loop-rest.rest.now = c.split_at-in-loop-rest.ensures.back ∙ ap (λ (bs : List ℕ). drop 1 bs) c.split_at.ensures.back ∙ here.left in
    let first : c.front.result ≡ front after = c.front.ensures ∙ ap front c.as_bytes-in-loop-rest.ensures.value in
    finished (string_bytes c.loop-rest.made) (string_bytes c.push_str.new.self) c.loop-rest.rest.now after c.loop-rest.at c.quoted_len-len.result _ here.is here.within left (c.in_ok-push_str.ensures.bytes ∙ ap (λ (bs : List ℕ). string_bytes c.loop-rest.made ++ bs) c.split_at.ensures.front) (λ quote. c.if-front-ne34.true (first ∙ quote)) c.loop-rest.invariant.same

pub split_at-requires-in-loop-rest-2 : goal.split_at-requires-in-loop-rest-2
split_at-requires-in-loop-rest-2 c =
    let here = is_at_quote c.loop-rest.rest.now c.as_bytes.result.now c.quoted_len-len.result c.loop-rest.invariant.utf8 c.as_bytes.ensures.value c.quoted_len-len.ensures.value c.quoted_len-len.ensures.within c.if-len-rest.false in
    let after = c.split_at-in-loop-rest.result.1.now in
    let utf8 : IsUtf8 after = subst IsUtf8 (sym (c.split_at-in-loop-rest.ensures.back ∙ ap (λ (bs : List ℕ). drop 1 bs) c.split_at.ensures.back)) here.behind in
    let first : c.front.result ≡ front after = c.front.ensures ∙ ap front c.as_bytes-in-loop-rest.ensures.value in
    first_cut after utf8 (sym first ∙ c.if-front-ne34.false)

pub loop-rest-preserved : goal.loop-rest-preserved
loop-rest-preserved c =
    let here = is_at_quote c.loop-rest.rest.now c.as_bytes.result.now c.quoted_len-len.result c.loop-rest.invariant.utf8 c.as_bytes.ensures.value c.quoted_len-len.ensures.value c.quoted_len-len.ensures.within c.if-len-rest.false in
    let after = c.split_at-in-loop-rest.result.1.now in
    let next = c.split_at-in-loop-rest-2.result.1.now in
    let shift : after ≡ drop 1 (drop c.quoted_len-len.result c.loop-rest.rest.now) = c.split_at-in-loop-rest.ensures.back ∙ ap (λ (bs : List ℕ). drop 1 bs) c.split_at.ensures.back in
    let utf8 : IsUtf8 after = subst IsUtf8 (sym shift) here.behind in
    let first : c.front.result ≡ front after = c.front.ensures ∙ ap front c.as_bytes-in-loop-rest.ensures.value in
    let quote : front after ≡ 34 = sym first ∙ c.if-front-ne34.false in
    let behind : IsUtf8 next = subst IsUtf8 (sym c.split_at-in-loop-rest-2.ensures.back) (IsUtf8-drop after 1 utf8 (first_cut after utf8 quote)) in
    let text : string_bytes c.push.new.self ≡ (string_bytes c.loop-rest.made ++ take c.quoted_len-len.result c.loop-rest.rest.now) ++ 34 ∷ [] =
    c.in_ok-push.ensures.bytes ∙ ap (λ (bs : List ℕ). string_bytes c.push_str.new.self ++ bs) quote_bytes ∙ ap (λ (bs : List ℕ). bs ++ 34 ∷ []) (c.in_ok-push_str.ensures.bytes ∙ ap (λ (bs : List ℕ). string_bytes c.loop-rest.made ++ bs) c.split_at.ensures.front) in
    record {
      utf8 = behind;
      room = omega (arith, c.split_at.ensures.back_len, c.split_at-in-loop-rest.ensures.back_len, c.split_at-in-loop-rest-2.ensures.back_len);
      same = goes_on (string_bytes c.loop-rest.made) (string_bytes c.push.new.self) c.loop-rest.rest.now after next c.loop-rest.at c.quoted_len-len.result (quoted c.args.behind.now false) here.is here.within (shift ∙ here.left) c.split_at-in-loop-rest-2.ensures.back text quote c.loop-rest.invariant.same;
    }
