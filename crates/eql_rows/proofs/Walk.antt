-- A walk over the set places of a row, from one to the next.
use Rattle.std.proofs.Common.{◌≡◌, ℕ, zero, suc, ◌+◌, ◌-◌, ◌<◌, ◌≤◌, Bool, true, false, cond, List, [], ◌∷◌, ◌++◌, length, map, Some, None, refl, sym, ap, ◌∙◌, arith}
use Rattle.std.specs.Prelude.{unwrap_or}
use Rattle.std.specs.List.{filter, range_with_len, slice_get}
use Rattle.std.proofs.lemmas.List.{append-nil}
use Rattle.std.proofs.lemmas.List.Elements.{filter-append}
use Rattle.std.proofs.lemmas.Option.{slice_get_within}
use Rattle.db_config.specs.declared.parts.AttributePlace.{AttributePlace}
use Rattle.lane_bits.specs.Inner.Row.{IsNext}
use Rattle.eql_rows.specs.Inner.Flags.{flag_at}
use Rattle.eql_tuples.specs.Shown.{bare}
use Rattle.eql_rows.specs.Spans.{span_at}
use Rattle.eql_rows.specs.Inner.Spans.{row_spans}
use Rattle.eql_rows.specs.declared.span.Span.{Span}

pub none_among : (q : ℕ → Bool) (a n : ℕ) → ((i : ℕ) → a ≤ i → i < a + n → q i ≡ false) → filter q (range_with_len a n) ≡ []
none_among q a zero none = refl
none_among q a (suc n) none =
    ap (λ b. cond b (a ∷ filter q (range_with_len (a + 1) n)) (filter q (range_with_len (a + 1) n))) (none a (omega arith) (omega arith))
    ∙ none_among q (a + 1) n (λ i from to. none i (omega arith) (omega arith))

pub range_split : (a m n : ℕ) → range_with_len a (m + n) ≡ range_with_len a m ++ range_with_len (a + m) n
range_split a zero n =
    let none : 0 + n ≡ n = omega arith in let from : a ≡ a + 0 = omega arith in
    ap (range_with_len a) none ∙ ap (λ b. range_with_len b n) from
range_split a (suc m) n =
    let more : suc m + n ≡ suc (m + n) = omega arith in let from : a + 1 + m ≡ a + suc m = omega arith in
    ap (range_with_len a) more
    ∙ ap (λ ks. a ∷ ks) (range_split (a + 1) m n ∙ ap (λ b. range_with_len (a + 1) m ++ range_with_len b n) from)

-- no place from one to another passes the test
abbrev pub NoneFrom : (ℕ → Bool) → ℕ → ℕ → Type 0
NoneFrom q from to = (i : ℕ) → from ≤ i → i < to → q i ≡ false

pub same_places : (q : ℕ → Bool) (from to : ℕ) → from ≤ to → NoneFrom q from to →
    filter q (range_with_len 0 to) ≡ filter q (range_with_len 0 from)
same_places q from to order none =
    let e : to ≡ from + (to - from) = omega arith in
    ap (λ j. filter q (range_with_len 0 j)) e ∙ ap (filter q) (range_split 0 from (to - from))
    ∙ filter-append q (range_with_len 0 from) (range_with_len (0 + from) (to - from))
    ∙ ap (λ ks. filter q (range_with_len 0 from) ++ ks) (none_among q (0 + from) (to - from) (λ i low high. none i (omega arith) (omega arith)))
    ∙ append-nil (filter q (range_with_len 0 from))

pub one_place_more : (q : ℕ → Bool) (from at : ℕ) → from ≤ at → NoneFrom q from at →
    filter q (range_with_len 0 (at + 1)) ≡ filter q (range_with_len 0 from) ++ filter q (at ∷ [])
one_place_more q from at order none =
    ap (filter q) (range_split 0 at 1) ∙ filter-append q (range_with_len 0 at) (range_with_len (0 + at) 1)
    ∙ (λ i. same_places q from at order none i ++ filter q (place i ∷ []))
  where
    place : 0 + at ≡ at
    place = omega arith

pub flag_is : (row : List Bool) (k : ℕ) (bit : Bool) → slice_get row k ≡ Some bit → flag_at k row ≡ bit
flag_is row k bit is = ap (λ o. unwrap_or o false) is

-- the next place of a row, by its flags
pub record NextFlag (row : List Bool) (from at : ℕ) : Type 0 where
  pub order : from ≤ at
  pub within : at < length row
  pub set : flag_at at row ≡ true
  pub clear : NoneFrom (λ k. flag_at k row) from at

pub next_flag : (row : List Bool) (from at : ℕ) → IsNext from row (Some at) → NextFlag row from at
next_flag row from at next =
    let here : at < length row = slice_get_within row at true next.1 in
    record {
      order = next.0;
      within = here;
      set = flag_is row at true next.1;
      clear = λ i low high. flag_is row i false (next.2 i (omega arith) (low, high));
    }

pub no_flag : (row : List Bool) (from : ℕ) → IsNext from row None → NoneFrom (λ k. flag_at k row) from (length row)
no_flag row from next i low high = flag_is row i false (next i high low)

-- ---- the stretches of single items

map_parts : (f : ℕ → Span) (xs ys : List ℕ) → map f (xs ++ ys) ≡ map f xs ++ map f ys
map_parts f [] ys = refl
map_parts f (x ∷ xs) ys = ap (λ zs. f x ∷ zs) (map_parts f xs ys)

pub span_step : (place : AttributePlace) (row : List Bool) (from at : ℕ) (made more : List Span) (span : Span) → NextFlag row from at →
    made ≡ map (λ k. span_at place (bare k k)) (filter (λ k. flag_at k row) (range_with_len 0 from)) →
    span ≡ span_at place (bare at at) → more ≡ made ++ span ∷ [] →
    more ≡ map (λ k. span_at place (bare k k)) (filter (λ k. flag_at k row) (range_with_len 0 (at + 1)))
span_step place row from at made more span next so_far is put =
    put ∙ (λ i. so_far i ++ is i ∷ [])
    ∙ ap (λ b. map f (filter q (range_with_len 0 from)) ++ map f (cond b (at ∷ []) [])) (sym next.set)
    ∙ sym (map_parts f (filter q (range_with_len 0 from)) (filter q (at ∷ [])))
    ∙ ap (map f) (sym (one_place_more q from at next.order next.clear))
  where
    q : ℕ → Bool
    q = λ k. flag_at k row

    f : ℕ → Span
    f = λ k. span_at place (bare k k)

pub span_end : (place : AttributePlace) (row : List Bool) (from : ℕ) (made : List Span) → IsNext from row None → from ≤ length row →
    made ≡ map (λ k. span_at place (bare k k)) (filter (λ k. flag_at k row) (range_with_len 0 from)) → made ≡ row_spans place row
span_end place row from made none order so_far =
    so_far
    ∙ ap (map (λ k. span_at place (bare k k)))
    (sym (same_places (λ k. flag_at k row) from (length row) order (no_flag row from none)))
