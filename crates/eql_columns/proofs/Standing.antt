-- Positions and numbers by the first bit, the last bit and the bits of rows.
use Rattle.std.proofs.Common.{◌≡◌, ◌⊎◌, inl, inr, ℕ, zero, suc, ◌+◌, ◌<◌, Bool, true, false, not, ◌||◌, ◌&&◌, List, [], ◌∷◌, ◌++◌, length, map, take, get_or, nat_eq, Some, Ok, refl, sym, ap, subst, ◌∙◌, arith}
use Rattle.std.specs.Prelude.{All, replicate, slice_set}
use Rattle.std.specs.List.{items_where_true, list_any, range_with_len, slice_get}
use Rattle.std.specs.Simd.Lanes.{zip2}
use Rattle.std.proofs.lemmas.Bool.{and_parts, cases_Bool, cases_eq, eqb-true, not-true}
use Rattle.std.proofs.lemmas.Bool.Decides.{nat_tests}
use Rattle.std.proofs.lemmas.List.{get_or-map, get_or-replicate, get_or-set_other, get_or-set_same, length-map, length-replicate, length-set, take_more}
use Rattle.std.proofs.lemmas.List.Elements.{All-get_or}
use Rattle.std.proofs.lemmas.List.Folds.{list_any-append}
use Rattle.std.proofs.lemmas.List.FromFn.{fill_by_all, get_or-map-range_with_len, length-map-range_with_len}
use Rattle.std.proofs.lemmas.Option.{get_or_from_slice_get, slice_get_within, unwrap_or-slice_get}
use Rattle.std.proofs.lemmas.Simd.{get_or-zip2, length-zip2, zip2-map}
use Rattle.lane_bits.specs.Inner.Row.{NoneWhere, IsFirst, IsLast}
use Rattle.level_items.specs.declared.items.Item.{Item}
use Rattle.level_items.specs.Levels.{are_different, ids_of, items_at}
use Rattle.bundle_state.specs.Bundle.{BundleParts, all_ids}
use Rattle.hier_closure.specs.Dominance.{closure_of, ids_at}
use Rattle.hier_closure.proofs.Ids.{ids_different}
use Rattle.eql_syntax.specs.declared.query.Compare.{Compare}
use Rattle.eql_syntax.specs.declared.query.Place.{Place}
use Rattle.eql_syntax.specs.declared.query.Place.TheVariants.{Start, Medial, End}
use Rattle.eql_rows.specs.Inner.Flags.{flag_at}
use Rattle.eql_model.specs.Positions.{has_place, is_first, is_last, stands}
use Rattle.eql_model.specs.Inner.Bits.{row_counts, row_stands, rows_place}
use Rattle.eql_model.proofs.Between.{ids_are, position_exit, rows_wide}
use Rattle.eql_model.proofs.Places.{first_is, last_is}
use Rattle.eql_columns.specs.Inner.Rows.{any_bits}
use Rattle.eql_columns.specs.Inner.Places.{AddsPlaced, ArePlaced, PassPlace}
use Rattle.eql_columns.proofs.Bits.{IsFilled, any_long, filled_all, filled_more, unset_wide}

-- ---- ids that differ

or_parts_false : (a b : Bool) → (a || b) ≡ false → (a ≡ false) × (b ≡ false)
or_parts_false true b h = absurd cc
or_parts_false false b h = (refl, h)

not_among : (x : ℕ) (ids : List ℕ) (k : ℕ) → list_any (nat_eq x) ids ≡ false → k < length ids → nat_eq x (get_or ids k 0) ≡ false
not_among x [] k out h = absurd (omega arith)
not_among x (y ∷ ids) zero out h = (or_parts_false (nat_eq x y) (list_any (nat_eq x) ids) out).0
not_among x (y ∷ ids) (suc k) out h =
    not_among x ids k (or_parts_false (nat_eq x y) (list_any (nat_eq x) ids) out).1 (omega arith)

eq_swap : (x y : ℕ) → nat_eq x y ≡ nat_eq y x
eq_swap x y = grind (arith, nat_tests)

eq_same : (x : ℕ) → nat_eq x x ≡ true
eq_same x = grind (arith, nat_tests)

eq_zero_suc : (k : ℕ) → nat_eq zero (suc k) ≡ false
eq_zero_suc k = grind (arith, nat_tests)

eq_suc_zero : (k : ℕ) → nat_eq (suc k) zero ≡ false
eq_suc_zero k = grind (arith, nat_tests)

eq_suc : (p k : ℕ) → nat_eq (suc p) (suc k) ≡ nat_eq p k
eq_suc p k = grind (arith, nat_tests)

-- ids at two positions are the same where the positions are
same_place : (ids : List ℕ) (p k : ℕ) → are_different ids ≡ true → p < length ids → k < length ids →
    nat_eq (get_or ids p 0) (get_or ids k 0) ≡ nat_eq p k
same_place [] p k apart hp hk = absurd (omega arith)
same_place (x ∷ ids) zero zero apart hp hk = eq_same x ∙ sym (eq_same zero)
same_place (x ∷ ids) zero (suc k) apart hp hk =
    let parts = and_parts (not (list_any (nat_eq x) ids)) (are_different ids) apart in
    not_among x ids k (not-true (list_any (nat_eq x) ids) parts.0) (omega arith) ∙ sym (eq_zero_suc k)
same_place (x ∷ ids) (suc p) zero apart hp hk =
    let parts = and_parts (not (list_any (nat_eq x) ids)) (are_different ids) apart in
    eq_swap (get_or ids p 0) x ∙ not_among x ids p (not-true (list_any (nat_eq x) ids) parts.0) (omega arith) ∙ sym (eq_suc_zero p)
same_place (x ∷ ids) (suc p) (suc k) apart hp hk =
    let parts = and_parts (not (list_any (nat_eq x) ids)) (are_different ids) apart in
    same_place ids p k parts.1 (omega arith) (omega arith) ∙ sym (eq_suc p k)

-- ---- bits that are set

or_false : (b : Bool) → (b || false) ≡ b
or_false true = refl
or_false false = refl

or_true : (b : Bool) → (b || true) ≡ true
or_true true = refl
or_true false = refl

and_false : (b : Bool) → (b && false) ≡ false
and_false true = refl
and_false false = refl

and_true : (b : Bool) → (b && true) ≡ b
and_true true = refl
and_true false = refl

and_both : (a b c : Bool) → ((a && b) && c) ≡ (a && (b && c))
and_both true b c = refl
and_both false b c = refl

eq_other_by : (p k : ℕ) → (k ≡ p → ⊥) → (nat_eq p k ≡ true) ⊎ (nat_eq p k ≡ false) → nat_eq p k ≡ false
eq_other_by p k other (inl same) = absurd (other (sym (eqb-true p k same)))
eq_other_by p k other (inr apart) = apart

eq_other : (p k : ℕ) → (k ≡ p → ⊥) → nat_eq p k ≡ false
eq_other p k other = eq_other_by p k other (cases_Bool (nat_eq p k))

set_by : (row : List Bool) (p k : ℕ) → p < length row → (k ≡ p) ⊎ (k ≡ p → ⊥) →
    get_or (slice_set row p true) k false ≡ (get_or row k false || nat_eq p k)
set_by row p k h (inl same) =
    ap (λ j. get_or (slice_set row p true) j false) same ∙ get_or-set_same row p true false h
    ∙ sym (ap (λ b. get_or row k false || b) (ap (nat_eq p) same ∙ eq_same p) ∙ or_true (get_or row k false))
set_by row p k h (inr other) =
    get_or-set_other row p k true false other
    ∙ sym (ap (λ b. get_or row k false || b) (eq_other p k other) ∙ or_false (get_or row k false))

set_bit : (row : List Bool) (p k : ℕ) → p < length row → get_or (slice_set row p true) k false ≡ (get_or row k false || nat_eq p k)
set_bit row p k h = set_by row p k h (cases_eq k p)

clear_by : (row : List Bool) (p k : ℕ) → p < length row → (k ≡ p) ⊎ (k ≡ p → ⊥) →
    get_or (slice_set row p false) k false ≡ (get_or row k false && not (nat_eq p k))
clear_by row p k h (inl same) =
    ap (λ j. get_or (slice_set row p false) j false) same ∙ get_or-set_same row p false false h
    ∙ sym (ap (λ b. get_or row k false && not b) (ap (nat_eq p) same ∙ eq_same p) ∙ and_false (get_or row k false))
clear_by row p k h (inr other) =
    get_or-set_other row p k false false other
    ∙ sym (ap (λ b. get_or row k false && not b) (eq_other p k other) ∙ and_true (get_or row k false))

clear_bit : (row : List Bool) (p k : ℕ) → p < length row → get_or (slice_set row p false) k false ≡ (get_or row k false && not (nat_eq p k))
clear_bit row p k h = clear_by row p k h (cases_eq k p)

-- ---- where an item stands

flag_is : (row : List Bool) (k : ℕ) → get_or row k false ≡ flag_at k row
flag_is row k = sym (unwrap_or-slice_get row k false)

own_by : (f : ℕ → Bool) (p k : ℕ) → f p ≡ true → (b : Bool) → nat_eq p k ≡ b → (f k && b) ≡ b
own_by f p k set true same = and_true (f k) ∙ ap f (sym (eqb-true p k same)) ∙ set
own_by f p k set false same = and_false (f k)

own : (f : ℕ → Bool) (p k : ℕ) → f p ≡ true → (f k && nat_eq p k) ≡ nat_eq p k
own f p k set = own_by f p k set (nat_eq p k) refl

set_there : (row : List Bool) (p : ℕ) → slice_get row p ≡ Some true → flag_at p row ≡ true
set_there row p there = sym (flag_is row p) ∙ get_or_from_slice_get row p true false there

module _ (row : List Bool) (ids : List ℕ) (apart : are_different ids ≡ true) (wide : length ids ≡ length row) where
  first_at : (p k : ℕ) → IsFirst row (Some p) → k < length row →
      is_first (items_where_true row ids) (get_or ids k 0) ≡ nat_eq p k
  first_at p k first h =
      let within = slice_get_within row p true first.0 in
      first_is row ids (get_or ids k 0) p (sym wide) first ∙ same_place ids p k apart (omega arith) (omega arith)

  last_at : (p k : ℕ) → IsLast row (Some p) → k < length row →
      is_last (items_where_true row ids) (get_or ids k 0) ≡ nat_eq p k
  last_at p k last h =
      let within = slice_get_within row p true last.0 in
      last_is row ids (get_or ids k 0) p (sym wide) last ∙ same_place ids p k apart (omega arith) (omega arith)

  starts_at : (p k : ℕ) → IsFirst row (Some p) → k < length row → nat_eq p k ≡ row_stands ids Start k row
  starts_at p k first h =
      sym (ap (λ b. flag_at k row && b) (first_at p k first h) ∙ own (λ j. flag_at j row) p k (set_there row p first.0))

  ends_at : (p k : ℕ) → IsLast row (Some p) → k < length row → nat_eq p k ≡ row_stands ids End k row
  ends_at p k last h =
      sym (ap (λ b. flag_at k row && b) (last_at p k last h) ∙ own (λ j. flag_at j row) p k (set_there row p last.0))

  inner_at : (p q k : ℕ) → IsFirst row (Some p) → IsLast row (Some q) → k < length row →
      get_or (slice_set (slice_set row p false) q false) k false ≡ row_stands ids Medial k row
  inner_at p q k first last h =
      let within = slice_get_within row p true first.0 in
      let there = slice_get_within row q true last.0 in
      clear_bit (slice_set row p false) q k (omega (arith, length-set row p false))
      ∙ ap (λ b. b && not (nat_eq q k)) (clear_bit row p k within)
      ∙ and_both (get_or row k false) (not (nat_eq p k)) (not (nat_eq q k))
      ∙ (λ i. flag_is row k i && (not (sym (first_at p k first h) i) && not (sym (last_at q k last h) i)))

-- ---- bits that are added

added_by : (row old new : List Bool) (place : Place) → length old ≡ length row → length new ≡ length row →
    ((ids : List ℕ) → are_different ids ≡ true → length ids ≡ length row → (k : ℕ) → k < length row →
    get_or new k false ≡ (flag_at k old || row_stands ids place k row)) → AddsPlaced place row old new
added_by row old new place same long each = record {
  long = long;
  is = λ ids apart wide.
      fill_by_all (λ k. flag_at k old || row_stands ids place k row) new (length row) false long (λ k h. each ids apart wide k h);
}

stands_nowhere : (row : List Bool) (ids : List ℕ) (place : Place) (k : ℕ) → NoneWhere row (λ i. Unit {0}) → k < length row →
    row_stands ids place k row ≡ false
stands_nowhere row ids place k none h =
    ap (λ b. b && stands place (items_where_true row ids) (get_or ids k 0))
    (sym (flag_is row k) ∙ get_or_from_slice_get row k false false (none k h tt))

pub adds_none : (row old : List Bool) (place : Place) → length old ≡ length row → NoneWhere row (λ i. Unit {0}) → AddsPlaced place row old old
adds_none row old place same none =
    added_by row old old place same same
    (λ ids apart wide k h.
    flag_is old k ∙ sym (ap (λ b. flag_at k old || b) (stands_nowhere row ids place k none h) ∙ or_false (flag_at k old)))

pub adds_start : (row old new : List Bool) (p : ℕ) → length old ≡ length row → IsFirst row (Some p) → new ≡ slice_set old p true →
    AddsPlaced Start row old new
adds_start row old new p same first put =
    let within = slice_get_within row p true first.0 in
    added_by row old new Start same (ap length put ∙ length-set old p true ∙ same)
    (λ ids apart wide k h.
    ap (λ r. get_or r k false) put ∙ set_bit old p k (omega arith)
    ∙ (λ i. flag_is old k i || starts_at row ids apart wide p k first h i))

pub adds_end : (row old new : List Bool) (p : ℕ) → length old ≡ length row → IsLast row (Some p) → new ≡ slice_set old p true →
    AddsPlaced End row old new
adds_end row old new p same last put =
    let within = slice_get_within row p true last.0 in
    added_by row old new End same (ap length put ∙ length-set old p true ∙ same)
    (λ ids apart wide k h.
    ap (λ r. get_or r k false) put ∙ set_bit old p k (omega arith)
    ∙ (λ i. flag_is old k i || ends_at row ids apart wide p k last h i))

inner_long : (row : List Bool) (p q : ℕ) → length (slice_set (slice_set row p false) q false) ≡ length row
inner_long row p q = length-set (slice_set row p false) q false ∙ length-set row p false

pub inner_wide : (row old inner : List Bool) (p q : ℕ) → length old ≡ length row → inner ≡ slice_set (slice_set row p false) q false →
    length old ≡ length inner
inner_wide row old inner p q same is = same ∙ sym (ap length is ∙ inner_long row p q)

pub adds_medial : (row old new inner : List Bool) (p q : ℕ) → length old ≡ length row → IsFirst row (Some p) → IsLast row (Some q) →
    inner ≡ slice_set (slice_set row p false) q false → new ≡ zip2 (λ a b. a || b) old inner → AddsPlaced Medial row old new
adds_medial row old new inner p q same first last is put =
    let wide_inner : length old ≡ length inner = inner_wide row old inner p q same is in
    added_by row old new Medial same (ap length put ∙ length-zip2 (λ a b. a || b) old inner wide_inner ∙ same)
    (λ ids apart wide k h.
    ap (λ r. get_or r k false) put
    ∙ get_or-zip2 (λ a b. a || b) old inner k false false false (omega arith) (omega arith)
    ∙ (λ i. flag_is old k i || (ap (λ r. get_or r k false) is ∙ inner_at row ids apart wide p q k first last h) i))

-- ---- rows, one after another

same_range : (f g : ℕ → Bool) (n : ℕ) → ((k : ℕ) → k < n → f k ≡ g k) → map f (range_with_len 0 n) ≡ map g (range_with_len 0 n)
same_range f g n same =
    fill_by_all g (map f (range_with_len 0 n)) n false (length-map-range_with_len f 0 n)
    (λ k h. get_or-map-range_with_len f 0 n k k false h (omega arith) ∙ same k h)

pub flag_in : (f : ℕ → Bool) (row : List Bool) (n k : ℕ) → row ≡ map f (range_with_len 0 n) → k < n → flag_at k row ≡ f k
flag_in f row n k is h = sym (flag_is row k) ∙ ap (λ r. get_or r k false) is ∙ get_or-map-range_with_len f 0 n k k false h (omega arith)

any_push : (p : List Bool → Bool) (rows : List (List Bool)) (i : ℕ) (row : List Bool) → slice_get rows i ≡ Some row →
    (list_any p (take i rows) || p row) ≡ list_any p (take (i + 1) rows)
any_push p rows i row here =
    sym (ap (list_any p) (take_more rows i row (slice_get_within rows i row here)
    ∙ ap (λ r. take i rows ++ r ∷ []) (get_or_from_slice_get rows i row row here))
    ∙ list_any-append p (take i rows) (row ∷ []) ∙ ap (λ b. list_any p (take i rows) || b) (or_false (p row)))

pub placed_none : (place : Place) (rows : List (List Bool)) (n : ℕ) (placed : List Bool) → placed ≡ replicate n false →
    ArePlaced place (take 0 rows) n placed
placed_none place rows n placed is = record {
  long = ap length is ∙ length-replicate n false;
  is = λ ids apart wide.
      is ∙ fill_by_all (λ k. false) (replicate n false) n false (length-replicate n false) (λ k h. get_or-replicate n k false false h);
}

pub placed_more : (place : Place) (rows : List (List Bool)) (n i : ℕ) (row old new : List Bool) → ArePlaced place (take i rows) n old →
    slice_get rows i ≡ Some row → length row ≡ n → AddsPlaced place row old new → ArePlaced place (take (i + 1) rows) n new
placed_more place rows n i row old new so_far here wide adds = record {
  long = adds.long ∙ wide;
  is = λ ids apart many.
      adds.is ids apart (many ∙ sym wide) ∙ ap (λ m. map (λ k. flag_at k old || row_stands ids place k row) (range_with_len 0 m)) wide
      ∙ same_range (λ k. flag_at k old || row_stands ids place k row) (λ k. list_any (row_stands ids place k) (take (i + 1) rows)) n
      (λ k h.
      ap (λ b. b || row_stands ids place k row)
      (flag_in (λ j. list_any (row_stands ids place j) (take i rows)) old n k (so_far.is ids apart many) h)
      ∙ any_push (row_stands ids place k) rows i row here);
}

pub row_wide : (rows : List (List Bool)) (n i : ℕ) (row : List Bool) → All (λ r. length r ≡ n) rows → slice_get rows i ≡ Some row →
    length row ≡ n
row_wide rows n i row wide here =
    ap length (sym (get_or_from_slice_get rows i row row here))
    ∙ All-get_or (λ r. length r ≡ n) rows i row (slice_get_within rows i row here) wide

map_not : (f : ℕ → Bool) (ks : List ℕ) → map not (map f ks) ≡ map (λ k. not (f k)) ks
map_not f [] = refl
map_not f (k ∷ ks) = ap (λ rest. not (f k) ∷ rest) (map_not f ks)

and_swap : (a b : Bool) → (a && b) ≡ (b && a)
and_swap true true = refl
and_swap true false = refl
and_swap false true = refl
and_swap false false = refl

pub others_long : (place : Place) (rows : List (List Bool)) (n : ℕ) (placed others : List Bool) → ArePlaced place rows n placed →
    others ≡ map not placed → length others ≡ n
others_long place rows n placed others are turn = ap length turn ∙ length-map placed not ∙ are.long

pub place_false : (place : Place) (rows : List (List Bool)) (n : ℕ) (placed others below new : List Bool) → ArePlaced place rows n placed →
    others ≡ map not placed → below ≡ any_bits n rows → new ≡ zip2 (λ a b. a && b) others below → PassPlace place false rows n new
place_false place rows n placed others below new are turn any put = record {
  long =
      ap length put ∙ length-zip2 (λ a b. a && b) others below (long ∙ sym (ap length any ∙ any_long n rows)) ∙ long;
  is = λ ids apart many.
      put ∙ (λ i. zip2 (λ a b. a && b)
      ((turn ∙ ap (map not) (are.is ids apart many) ∙ map_not (λ k. list_any (row_stands ids place k) rows) (range_with_len 0 n)) i) (any i))
      ∙ zip2-map (λ a b. a && b) (λ k. not (list_any (row_stands ids place k) rows)) (λ k. list_any (flag_at k) rows) (range_with_len 0 n)
      ∙ (λ i. map (λ k. and_swap (not (list_any (row_stands ids place k) rows)) (list_any (flag_at k) rows) i) (range_with_len 0 n));
}
  where
    long : length others ≡ n
    long = others_long place rows n placed others are turn

-- ---- the items of a level

level_ids : (b : BundleParts) (level : ℕ) → are_different (all_ids b.levels) ≡ true → are_different (ids_of (items_at b.levels level)) ≡ true
level_ids b level apart = ap are_different (sym (ids_are b.levels level)) ∙ ids_different b.levels level apart

pub by_items : (b : BundleParts) (level : ℕ) (items : List Item) (n : ℕ) (rows : List (List Bool)) (place : Place) (wanted : Bool)
    (row : List Bool) → are_different (all_ids b.levels) ≡ true → items ≡ items_at b.levels level → n ≡ length items →
    PassPlace place wanted rows n row → row ≡ map (rows_place rows (ids_of items) place wanted) (range_with_len 0 (length items))
by_items b level items n rows place wanted row apart are long told =
    told.is (ids_of items) (ap (λ is. are_different (ids_of is)) are ∙ level_ids b level apart)
    (length-map items (λ (i : Item). i.id.0) ∙ sym long)
    ∙ ap (λ m. map (rows_place rows (ids_of items) place wanted) (range_with_len 0 m)) long

pub passed_row : (b : BundleParts) (upper lower n : ℕ) (rows : List (List Bool)) (place : Place) (wanted : Bool) (old new : List Bool) →
    are_different (all_ids b.levels) ≡ true → rows ≡ closure_of b lower upper → old ≡ replicate n false → n ≡ length (items_at b.levels lower) →
    PassPlace place wanted rows (length old) new →
    new ≡ map (λ item. has_place b.links (ids_at b.levels upper) (ids_at b.levels lower) place wanted item.id.0) (items_at b.levels lower)
passed_row b upper lower n rows place wanted old new apart made unset long told =
    position_exit b upper lower rows (items_at b.levels lower) place wanted (Ok new) made refl
    (by_items b lower (items_at b.levels lower) (length old) rows place wanted new apart refl
    (unset_wide n (length (items_at b.levels lower)) old unset long) told)

-- ---- numbers

pub counts_all : (compare : Compare) (number : ℕ) (rows : List (List Bool)) (made : List Bool) (n at : ℕ) →
    IsFilled (λ k. row_counts compare number (get_or rows k [])) made n at → n ≡ length rows → n ≡ at →
    made ≡ map (row_counts compare number) rows
counts_all compare number rows made n at so_far long end =
    filled_all (λ k. row_counts compare number (get_or rows k [])) made n at so_far end
    ∙ sym (fill_by_all (λ k. row_counts compare number (get_or rows k [])) (map (row_counts compare number) rows) n false
    (length-map rows (row_counts compare number) ∙ sym long)
    (λ k h. get_or-map (row_counts compare number) rows k [] false (omega arith)))

pub counts_more : (compare : Compare) (number : ℕ) (rows : List (List Bool)) (made more : List Bool) (n at : ℕ) (row : List Bool) (bit : Bool) →
    IsFilled (λ k. row_counts compare number (get_or rows k [])) made n at → at < n → slice_get rows at ≡ Some row →
    bit ≡ row_counts compare number row → more ≡ slice_set made at bit →
    IsFilled (λ k. row_counts compare number (get_or rows k [])) more n (at + 1)
counts_more compare number rows made more n at row bit so_far h here is put =
    filled_more (λ k. row_counts compare number (get_or rows k [])) made more n at bit so_far h
    (is ∙ ap (row_counts compare number) (sym (get_or_from_slice_get rows at row [] here))) put

pub width_at : (b : BundleParts) (upper lower : ℕ) (rows : List (List Bool)) (n : ℕ) → rows ≡ closure_of b lower upper →
    n ≡ length (items_at b.levels lower) → All (λ row. length row ≡ n) rows
width_at b upper lower rows n made long =
    subst (λ (rs : List (List Bool)). All (λ row. length row ≡ n) rs) (sym made)
    (subst (λ (m : ℕ). All (λ row. length row ≡ m) (closure_of b lower upper)) (sym long) (rows_wide b lower upper))
