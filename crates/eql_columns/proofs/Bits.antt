-- Rows of bits that are turned and joined.
use Rattle.std.proofs.Common.{◌≡◌, ℕ, ◌+◌, ◌<◌, ◌≤◌, Bool, true, false, ◌||◌, ◌&&◌, List, [], ◌∷◌, ◌++◌, length, map, take, get_or, Some, inl, inr, refl, sym, ap, ◌∙◌, arith}
use Rattle.std.specs.Prelude.{All, not, replicate, slice_set}
use Rattle.std.specs.List.{slice_get, list_all, list_any, range_with_len}
use Rattle.std.specs.Simd.Lanes.{zip2}
use Rattle.std.proofs.lemmas.Bool.{cases_eq}
use Rattle.std.proofs.lemmas.List.{ext_get_or, get_or-map, get_or-replicate, get_or-set_other, get_or-set_same, length-map, length-replicate, length-set, map-id, take_more}
use Rattle.std.proofs.lemmas.List.Edits.{fill_by_more}
use Rattle.std.proofs.lemmas.List.Elements.{All-get_or, All-nil, All-cons}
use Rattle.std.proofs.lemmas.List.Folds.{list_any-append, list_all-append}
use Rattle.std.proofs.lemmas.List.FromFn.{fill_by_all, length-map-range_with_len}
use Rattle.std.proofs.lemmas.Option.{get_or_from_slice_get, slice_get_within, unwrap_or-slice_get}
use Rattle.std.proofs.lemmas.Simd.{zip2-map}
use Rattle.eql_rows.specs.Inner.Flags.{flag_at}
use Rattle.eql_model.specs.Labels.{is_as}
use Rattle.eql_model.proofs.MadeRows.{any_of_maps}
use Rattle.eql_columns.specs.Inner.Rows.{any_bits, all_bits}

-- ---- a row that is filled place by place

-- the first places of a row are those of a function
pub record IsFilled (f : ℕ → Bool) (made : List Bool) (n at : ℕ) : Type 0 where
  pub count : length made ≡ n
  pub each : (k : ℕ) → k < at → get_or made k false ≡ f k

pub filled_first : (f : ℕ → Bool) (made : List Bool) (n : ℕ) → length made ≡ n → IsFilled f made n 0
filled_first f made n long = record {
  count = long;
  each = λ k below. absurd (omega arith);
}

pub filled_none : (f : ℕ → Bool) (made : List Bool) (n m : ℕ) → made ≡ replicate n false → n ≡ m → IsFilled f made m 0
filled_none f made n m is same = record {
  count = ap length is ∙ length-replicate n false ∙ same;
  each = λ k below. absurd (omega arith);
}

pub filled_more : (f : ℕ → Bool) (made more : List Bool) (n at : ℕ) (bit : Bool) → IsFilled f made n at → at < n → bit ≡ f at →
    more ≡ slice_set made at bit → IsFilled f more n (at + 1)
filled_more f made more n at bit so_far h is put = record {
  count = ap length put ∙ length-set made at bit ∙ so_far.count;
  each = λ k below.
      ap (λ row. get_or row k false) (put ∙ ap (slice_set made at) is)
      ∙ fill_by_more f made at false (omega (arith, so_far.count)) so_far.each k below;
}

pub filled_all : (f : ℕ → Bool) (made : List Bool) (n at : ℕ) → IsFilled f made n at → n ≡ at → made ≡ map f (range_with_len 0 n)
filled_all f made n at so_far end =
    fill_by_all f made n false so_far.count (λ k below. so_far.each k (omega arith))

-- ---- no bit is set

pub unset_wide : (n m : ℕ) (row : List Bool) → row ≡ replicate n false → n ≡ m → length row ≡ m
unset_wide n m row is same = ap length is ∙ length-replicate n false ∙ same

pub unset_own : (n : ℕ) (row : List Bool) → row ≡ replicate n false → row ≡ replicate (length row) false
unset_own n row is = is ∙ ap (λ m. replicate m false) (sym (unset_wide n n row is refl))

-- ---- turned

by_turn : (row made : List Bool) → made ≡ map (λ k. not (get_or row k false)) (range_with_len 0 (length row)) → made ≡ map not row
by_turn row made is =
    is ∙ sym (fill_by_all (λ k. not (get_or row k false)) (map not row) (length row) true (length-map row not)
    (λ k below. get_or-map not row k false true below))

-- the bits before a place are turned, all others are as they were
pub record TurnedTo (row made : List Bool) (at : ℕ) : Type 0 where
  pub count : length made ≡ length row
  pub before : (k : ℕ) → k < at → get_or made k false ≡ not (get_or row k false)
  pub behind : (k : ℕ) → at ≤ k → get_or made k false ≡ get_or row k false

pub turned_first : (row : List Bool) → TurnedTo row row 0
turned_first row = record {
  count = refl;
  before = λ k below. absurd (omega arith);
  behind = λ k from. refl;
}

turned_at : (row made : List Bool) (at : ℕ) (bit : Bool) → TurnedTo row made at → slice_get made at ≡ Some bit → (k : ℕ) → k < at + 1 →
    get_or (slice_set made at (not bit)) k false ≡ not (get_or row k false)
turned_at row made at bit so_far here k below = elim (cases_eq k at) [
  | inl same ↦
      ap (λ i. get_or (slice_set made at (not bit)) i false) same
      ∙ get_or-set_same made at (not bit) false (slice_get_within made at bit here)
      ∙ ap not (sym (get_or_from_slice_get made at bit false here) ∙ so_far.behind at (omega arith) ∙ ap (λ i. get_or row i false) (sym same))
  | inr other ↦ get_or-set_other made at k (not bit) false other ∙ so_far.before k (omega arith)
]

pub turned_more : (row made more : List Bool) (at : ℕ) (bit : Bool) → TurnedTo row made at → slice_get made at ≡ Some bit →
    more ≡ slice_set made at (not bit) → TurnedTo row more (at + 1)
turned_more row made more at bit so_far here put = record {
  count = ap length put ∙ length-set made at (not bit) ∙ so_far.count;
  before = λ k below. ap (λ r. get_or r k false) put ∙ turned_at row made at bit so_far here k below;
  behind = λ k past.
      ap (λ r. get_or r k false) put ∙ get_or-set_other made at k (not bit) false (λ e. omega arith)
      ∙ so_far.behind k (omega arith);
}

pub turned_all : (row made : List Bool) (at : ℕ) → TurnedTo row made at → length row ≡ at → made ≡ map not row
turned_all row made at so_far end =
    by_turn row made (fill_by_all (λ k. not (get_or row k false)) made (length row) false so_far.count (λ k below. so_far.before k (omega arith)))

pub turned_none : (n : ℕ) → map not (replicate n false) ≡ replicate n true
turned_none n =
    ext_get_or true (map not (replicate n false)) (replicate n true)
    (long ∙ sym (length-replicate n true))
    (λ k below.
    get_or-map not (replicate n false) k false true (omega (arith, length-replicate n false, long))
    ∙ ap not (get_or-replicate n k false false (omega (arith, long)))
    ∙ sym (get_or-replicate n k true true (omega (arith, long))))
  where
    long : length (map not (replicate n false)) ≡ n
    long = length-map (replicate n false) not ∙ length-replicate n false

pub found_exit : (found : Bool) (row : List Bool) → found ≡ true → row ≡ map (is_as found) row
found_exit found row is = sym (ap (λ b. map (is_as b) row) is ∙ map-id row)

pub turned_exit : (found : Bool) (row made : List Bool) → found ≡ false → made ≡ map not row → made ≡ map (is_as found) row
turned_exit found row made is told = told ∙ sym (ap (λ b. map (is_as b) row) is)

-- ---- the bits of several rows

pub or_false : (b : Bool) → (b || false) ≡ b
or_false true = refl
or_false false = refl

and_true : (b : Bool) → (b && true) ≡ b
and_true true = refl
and_true false = refl

-- a row by the flags at its places
pub flags_are : (row : List Bool) (n : ℕ) → length row ≡ n → row ≡ map (λ k. flag_at k row) (range_with_len 0 n)
flags_are row n long =
    fill_by_all (λ k. flag_at k row) row n false long (λ k below. sym (unwrap_or-slice_get row k false))

any_more : (rows : List (List Bool)) (i : ℕ) (row : List Bool) (k : ℕ) → i < length rows → row ≡ get_or rows i row →
    list_any (flag_at k) (take (i + 1) rows) ≡ (list_any (flag_at k) (take i rows) || flag_at k row)
any_more rows i row k h here =
    ap (list_any (flag_at k)) (take_more rows i row h ∙ ap (λ r. take i rows ++ r ∷ []) (sym here))
    ∙ list_any-append (flag_at k) (take i rows) (row ∷ [])
    ∙ ap (λ b. list_any (flag_at k) (take i rows) || b) (or_false (flag_at k row))

all_more : (rows : List (List Bool)) (i : ℕ) (row : List Bool) (k : ℕ) → i < length rows → row ≡ get_or rows i row →
    list_all (flag_at k) (take (i + 1) rows) ≡ (list_all (flag_at k) (take i rows) && flag_at k row)
all_more rows i row k h here =
    ap (list_all (flag_at k)) (take_more rows i row h ∙ ap (λ r. take i rows ++ r ∷ []) (sym here))
    ∙ list_all-append (flag_at k) (take i rows) (row ∷ [])
    ∙ ap (λ b. list_all (flag_at k) (take i rows) && b) (and_true (flag_at k row))

pub any_step : (n : ℕ) (rows : List (List Bool)) (i : ℕ) (row any more : List Bool) → any ≡ any_bits n (take i rows) →
    i < length rows → row ≡ get_or rows i row → length row ≡ n → more ≡ zip2 (λ a b. a || b) any row →
    more ≡ any_bits n (take (i + 1) rows)
any_step n rows i row any more so_far h here wide put =
    put ∙ (λ j. zip2 (λ a b. a || b) (so_far j) (flags_are row n wide j))
    ∙ zip2-map (λ a b. a || b) (λ k. list_any (flag_at k) (take i rows)) (λ k. flag_at k row) (range_with_len 0 n)
    ∙ (λ j. map (λ k. sym (any_more rows i row k h here) j) (range_with_len 0 n))

pub all_step : (n : ℕ) (rows : List (List Bool)) (i : ℕ) (row all more : List Bool) → all ≡ all_bits n (take i rows) →
    i < length rows → row ≡ get_or rows i row → length row ≡ n → more ≡ zip2 (λ a b. a && b) all row →
    more ≡ all_bits n (take (i + 1) rows)
all_step n rows i row all more so_far h here wide put =
    put ∙ (λ j. zip2 (λ a b. a && b) (so_far j) (flags_are row n wide j))
    ∙ zip2-map (λ a b. a && b) (λ k. list_all (flag_at k) (take i rows)) (λ k. flag_at k row) (range_with_len 0 n)
    ∙ (λ j. map (λ k. sym (all_more rows i row k h here) j) (range_with_len 0 n))

replicated : (n : ℕ) (b : Bool) → replicate n b ≡ map (λ k. b) (range_with_len 0 n)
replicated n b =
    fill_by_all (λ k. b) (replicate n b) n b (length-replicate n b) (λ k below. get_or-replicate n k b b below)

-- the first of some rows that are joined
pub all_first : (n : ℕ) (rows : List (List Bool)) (row : List Bool) → 0 < length rows → row ≡ get_or rows 0 row → length row ≡ n →
    row ≡ all_bits n (take 1 rows)
all_first n rows row h here wide =
    flags_are row n wide ∙ (λ j. map (λ k. sym (all_more rows 0 row k h here) j) (range_with_len 0 n))

-- a row that is put into one of which no bit is set
pub or_unset : (n : ℕ) (old made new : List Bool) → old ≡ replicate n false → length made ≡ n → new ≡ zip2 (λ a b. a || b) old made → new ≡ made
or_unset n old made new unset long put =
    put ∙ (λ i. zip2 (λ a b. a || b) ((unset ∙ replicated n false) i) (flags_are made n long i))
    ∙ zip2-map (λ a b. a || b) (λ k. false) (λ k. flag_at k made) (range_with_len 0 n) ∙ sym (flags_are made n long)

pub any_none : (n : ℕ) (any : List Bool) (rows : List (List Bool)) → any ≡ replicate n false → any ≡ any_bits n (take 0 rows)
any_none n any rows is = is ∙ replicated n false

pub all_none : (n : ℕ) (all : List Bool) (rows : List (List Bool)) → all ≡ replicate n true → all ≡ all_bits n (take 0 rows)
all_none n all rows is = is ∙ replicated n true

-- the rows that are joined are as long
pub any_long : (n : ℕ) (rows : List (List Bool)) → length (any_bits n rows) ≡ n
any_long n rows = length-map-range_with_len (λ k. list_any (flag_at k) rows) 0 n

pub all_long : (n : ℕ) (rows : List (List Bool)) → length (all_bits n rows) ≡ n
all_long n rows = length-map-range_with_len (λ k. list_all (flag_at k) rows) 0 n

pub as_wide : (n : ℕ) (rows : List (List Bool)) (i : ℕ) (row : List Bool) → All (λ r. length r ≡ n) rows → i < length rows →
    row ≡ get_or rows i row → length row ≡ n
as_wide n rows i row wide h here =
    ap length here ∙ All-get_or (λ r. length r ≡ n) rows i row h wide

pub any_wide : (n : ℕ) (rows done : List (List Bool)) (i : ℕ) (row any : List Bool) → any ≡ any_bits n done →
    All (λ r. length r ≡ n) rows → i < length rows → row ≡ get_or rows i row → length any ≡ length row
any_wide n rows done i row any is wide h here = ap length is ∙ any_long n done ∙ sym (as_wide n rows i row wide h here)

-- ---- rows that are made by tests

pub rows_wide : {X Y : Type 0} (p : Y → X → Bool) (xs : List X) (n : ℕ) → n ≡ length xs → (ys : List Y) →
    All (λ row. length row ≡ n) (map (λ y. map (p y) xs) ys)
rows_wide p xs n long [] = All-nil (λ row. length row ≡ n)
rows_wide p xs n long (y ∷ ys) =
    All-cons (λ row. length row ≡ n) (map (p y) xs) (map (λ z. map (p z) xs) ys) (length-map xs (p y) ∙ sym long)
    (rows_wide p xs n long ys)

pub any_rows_are : {X Y : Type 0} (p : Y → X → Bool) (xs : List X) (d : X) (n : ℕ) (ys : List Y) → n ≡ length xs →
    any_bits n (map (λ y. map (p y) xs) ys) ≡ map (λ x. list_any (λ y. p y x) ys) xs
any_rows_are p xs d n ys long =
    sym (fill_by_all (λ k. list_any (flag_at k) (map (λ y. map (p y) xs) ys)) (map (λ x. list_any (λ y. p y x) ys) xs) n false
    (length-map xs (λ x. list_any (λ y. p y x) ys) ∙ sym long)
    (λ k below.
    get_or-map (λ x. list_any (λ y. p y x) ys) xs k d false (omega arith)
    ∙ sym (any_of_maps p xs k d ys (omega arith))))
