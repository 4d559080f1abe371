-- A tuple that is put in behind a list in order.
use Rattle.std.proofs.Common.{◌≡◌, suc, ◌-◌, List, [], ◌∷◌, ◌++◌, length, Some, Result, Ok, Err, refl, sym, ap, ◌∙◌, subst, arith}
use Rattle.std.specs.Prelude.{OnOk, OnErr}
use Rattle.std.specs.List.{slice_get}
use Rattle.std.specs.List.Sorted.{IsStrictlySortedBy}
use Rattle.std.specs.declared.cmp.Ordering.{Ordering}
use Rattle.std.specs.declared.cmp.Ordering.TheVariants.{Less, Equal, Greater}
use Rattle.std.specs.Ordering.{match_ordering, ordering_reverse}
use Rattle.std.specs.BTreeSet.{insert_key}
use Rattle.emu_names.specs.declared.shortage.Memory.{Memory}
use Rattle.eql_tuples.specs.declared.tuple.Tuple.{Tuple}
use Rattle.eql_tuples.specs.declared.kept.Kept.{Kept}
use Rattle.eql_tuples.specs.declared.kept.Kept.TheVariants.{Rising}
use Rattle.eql_tuples.specs.Sets.{tuple_cmp, each_once}
use Rattle.eql_tuples.specs.Inner.Kept.{kept_tuples, order_behind, IsInOrder}
use Rattle.eql_tuples.proofs.Members.{tuples_total, same_tuple, sorted_insert, once_is}

-- ---- the order behind the last tuple

pub order_of_last : (t : Tuple) (o : Ordering) (xs : List Tuple) (last : Tuple) → slice_get xs (length xs - 1) ≡ Some last →
    tuple_cmp t last ≡ order_behind t o xs
order_of_last t o [] last is = absurd cc
order_of_last t o (x ∷ []) last is = let same : x ≡ last = cc in ap (tuple_cmp t) (sym same)
order_of_last t o (x ∷ y ∷ ys) last is =
    let at : length (x ∷ y ∷ ys) - 1 ≡ suc (length (y ∷ ys) - 1) = omega arith in
    order_of_last t (tuple_cmp t x) (y ∷ ys) last (ap (slice_get (x ∷ y ∷ ys)) (sym at) ∙ is)

-- a tuple that is not before a later one is behind an earlier one
behind_earlier : (o : Ordering) (t x y : Tuple) → tuple_cmp x y ≡ Less → tuple_cmp t y ≡ o → (o ≡ Less → ⊥) → tuple_cmp t x ≡ Greater
behind_earlier Less t x y less is not_less = absurd (not_less refl)
behind_earlier Equal t x y less is not_less =
    tuples_total.antisymm t x ∙ ap ordering_reverse (subst (λ (u : Tuple). tuple_cmp x u ≡ Less) (sym (same_tuple t y is)) less)
behind_earlier Greater t x y less is not_less =
    tuples_total.antisymm t x
    ∙ ap ordering_reverse (tuples_total.trans x y t less (tuples_total.antisymm y t ∙ ap ordering_reverse is))

greater_not_less : Greater ≡ Less → ⊥
greater_not_less e = absurd cc

equal_not_less : Equal ≡ Less → ⊥
equal_not_less e = absurd cc

-- a tuple that is not before the last one is behind the first one, where that is not the last
behind_first : (t x y : Tuple) (ys : List Tuple) (o : Ordering) → IsStrictlySortedBy tuple_cmp (x ∷ y ∷ ys) →
    order_behind t (tuple_cmp t y) ys ≡ o → (o ≡ Less → ⊥) → tuple_cmp t x ≡ Greater
unfolding IsStrictlySortedBy
behind_first t x y [] o sorted is not_less = behind_earlier o t x y sorted.0.0 is not_less
behind_first t x y (z ∷ zs) o sorted is not_less =
    behind_earlier Greater t x y sorted.0.0 (behind_first t y z zs o sorted.1 is not_less) greater_not_less

-- ---- what is put in

-- a tuple behind the last one comes last
insert_last : (t : Tuple) (xs : List Tuple) → IsStrictlySortedBy tuple_cmp xs → order_behind t Greater xs ≡ Greater →
    insert_key tuple_cmp xs t ≡ xs ++ t ∷ []
unfolding IsStrictlySortedBy
insert_last t [] sorted is = refl
insert_last t (x ∷ []) sorted is = ap (λ o. match_ordering o (t ∷ x ∷ []) (x ∷ []) (x ∷ t ∷ [])) is
insert_last t (x ∷ y ∷ ys) sorted is =
    ap (λ o. match_ordering o (t ∷ x ∷ y ∷ ys) (x ∷ y ∷ ys) (x ∷ insert_key tuple_cmp (y ∷ ys) t))
    (behind_first t x y ys Greater sorted is greater_not_less)
    ∙ ap (λ zs. x ∷ zs) (insert_last t (y ∷ ys) sorted.1 is)

-- the last tuple is there
insert_again : (t : Tuple) (xs : List Tuple) → IsStrictlySortedBy tuple_cmp xs → order_behind t Greater xs ≡ Equal →
    insert_key tuple_cmp xs t ≡ xs
unfolding IsStrictlySortedBy
insert_again t [] sorted is = absurd cc
insert_again t (x ∷ []) sorted is = ap (λ o. match_ordering o (t ∷ x ∷ []) (x ∷ []) (x ∷ t ∷ [])) is
insert_again t (x ∷ y ∷ ys) sorted is =
    ap (λ o. match_ordering o (t ∷ x ∷ y ∷ ys) (x ∷ y ∷ ys) (x ∷ insert_key tuple_cmp (y ∷ ys) t))
    (behind_first t x y ys Equal sorted is equal_not_less)
    ∙ ap (λ zs. x ∷ zs) (insert_again t (y ∷ ys) sorted.1 is)

-- ---- a set that is kept

list_sorted : (kept : Kept) (list : List Tuple) → kept ≡ Rising list → IsInOrder kept → IsStrictlySortedBy tuple_cmp list
list_sorted kept list is order = subst IsInOrder is order

pub pushed_ok : (r : Result Unit Memory) (kept : Kept) (list made : List Tuple) (t : Tuple) → kept ≡ Rising list → IsInOrder kept →
    order_behind t Greater list ≡ Greater → OnOk r (made ≡ list ++ t ∷ []) → OnOk r (made ≡ insert_key tuple_cmp (kept_tuples kept) t)
pushed_ok (Err e) kept list made t is order behind put = tt
pushed_ok (Ok done) kept list made t is order behind put =
    put ∙ sym (insert_last t list (list_sorted kept list is order) behind)
    ∙ ap (λ (k : Kept). insert_key tuple_cmp (kept_tuples k) t) (sym is)

pub pushed_order : (r : Result Unit Memory) (kept : Kept) (list made : List Tuple) (t : Tuple) → kept ≡ Rising list → IsInOrder kept →
    order_behind t Greater list ≡ Greater → OnOk r (made ≡ list ++ t ∷ []) → OnErr r (made ≡ list) → IsStrictlySortedBy tuple_cmp made
pushed_order (Err e) kept list made t is order behind put same = subst (IsStrictlySortedBy tuple_cmp) (sym same) (list_sorted kept list is order)
pushed_order (Ok done) kept list made t is order behind put same =
    subst (IsStrictlySortedBy tuple_cmp) (insert_last t list (list_sorted kept list is order) behind ∙ sym put)
    (sorted_insert list t (list_sorted kept list is order))

pub there_already : (kept : Kept) (list : List Tuple) (t : Tuple) → kept ≡ Rising list → IsInOrder kept →
    order_behind t Greater list ≡ Equal → list ≡ insert_key tuple_cmp (kept_tuples kept) t
there_already kept list t is order behind =
    sym (insert_again t list (list_sorted kept list is order) behind) ∙ ap (λ (k : Kept). insert_key tuple_cmp (kept_tuples k) t) (sym is)

pub put_between : (kept : Kept) (list set made : List Tuple) (t : Tuple) → kept ≡ Rising list → IsInOrder kept → set ≡ each_once list →
    made ≡ insert_key tuple_cmp set t → made ≡ insert_key tuple_cmp (kept_tuples kept) t
put_between kept list set made t is order whole put =
    put ∙ ap (λ ts. insert_key tuple_cmp ts t) (whole ∙ once_is list (list_sorted kept list is order))
    ∙ ap (λ (k : Kept). insert_key tuple_cmp (kept_tuples k) t) (sym is)
