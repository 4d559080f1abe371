-- Rows of bits of which only a stretch is held.
use Rattle.std.proofs.Common.{◌≡◌, ◌≢◌, ◌+◌, ◌-◌, ◌<◌, ◌≤◌, ◌||◌, ◌&&◌, ◌++◌, ◌⊎◌, inl, inr, ℕ, Bool, true, false, List, length, get_or, set, replicate, nat_le, count_by, slice_get, Option, None, Some, refl, ap, sym, ◌∙◌, subst, arith}
use Rattle.std.proofs.Math.Bool.{or-false, or-true, and-false}
use Rattle.std.proofs.lemmas.Bool.{cases_eq, cases_lt, lt-leb, le-leb}
use Rattle.std.proofs.lemmas.List.{ext_get_or, get_or_past, get_or-append-add, get_or_append_left, get_or-append_right, length-append, length-set, get_or-set_same, get_or-set_other}
use Rattle.std.proofs.lemmas.List.Elements.{All-from_get_or}
use Rattle.std.proofs.lemmas.List.FromFn.{length-map-range_with_len, get_or-map-range_with_len}
use Rattle.std.proofs.lemmas.List.Folds.{list_any_at, list_any_none}
use Rattle.std.proofs.lemmas.Option.{slice_get-get_or, slice_get_within, get_or_from_slice_get}
use Rattle.std.proofs.lemmas.Simd.{length-replicate, get_or-replicate, length-zip2, get_or-zip2}
use Rattle.std.specs.List.{list_any}
use lib.Lanes.{zip2}
use Rattle.lane_bits.specs.Inner.Row.{IsFirst, IsLast, IsNext, NoneWhere}
use Rattle.lane_bits.specs.Inner.Span.{span_bit, span_of, Fits}
use Rattle.lane_bits.proofs.Counted.{counted_cat, counted_none}
use Rattle.lane_bits.proofs.Rows.{clear_replicate}

-- ---- one bit

pub bit_before : (s : ℕ) (bs : List Bool) (i : ℕ) → i < s → span_bit s bs i ≡ false
bit_before s bs i low = ap (λ t. t && get_or bs (i - s) false) (lt-leb s i low)

pub bit_from : (s : ℕ) (bs : List Bool) (i : ℕ) → s ≤ i → span_bit s bs i ≡ get_or bs (i - s) false
bit_from s bs i high = ap (λ t. t && get_or bs (i - s) false) (le-leb s i high)

pub bit_here : (s : ℕ) (bs : List Bool) (k : ℕ) → span_bit s bs (s + k) ≡ get_or bs k false
bit_here s bs k =
    let same : s + k - s ≡ k = omega arith in
    bit_from s bs (s + k) (omega arith) ∙ ap (λ j. get_or bs j false) same

pub bit_behind : (s : ℕ) (bs : List Bool) (i : ℕ) → s + length bs ≤ i → span_bit s bs i ≡ false
bit_behind s bs i high = bit_from s bs i (omega arith) ∙ get_or_past bs (i - s) false (omega arith)

pub bit_clear : (s : ℕ) (bs : List Bool) (i : ℕ) → ((k : ℕ) → get_or bs k false ≡ false) → span_bit s bs i ≡ false
bit_clear s bs i clear = elim (cases_lt i s) [
  | inl low ↦ bit_before s bs i low
  | inr high ↦ bit_from s bs i high ∙ clear (i - s)
]

-- ---- the row

pub length-span : (s : ℕ) (bs : List Bool) (n : ℕ) → length (span_of s bs n) ≡ n
length-span s bs n = length-map-range_with_len (span_bit s bs) 0 n

-- a row that is seen so is as long
pub seen_long : (s : ℕ) (bs : List Bool) (n : ℕ) (row : List Bool) → span_of s bs n ≡ row → length row ≡ n
seen_long s bs n row seen = ap length (sym seen) ∙ length-span s bs n

pub span_at : (s : ℕ) (bs : List Bool) (n i : ℕ) → i < n → get_or (span_of s bs n) i false ≡ span_bit s bs i
span_at s bs n i within = get_or-map-range_with_len (span_bit s bs) 0 n i i false (omega arith) (omega arith)

pub span_get : (s : ℕ) (bs : List Bool) (n i : ℕ) → i < length (span_of s bs n) → slice_get (span_of s bs n) i ≡ Some (span_bit s bs i)
span_get s bs n i within =
    slice_get-get_or (span_of s bs n) i false within
    ∙ ap (λ b. Some b) (span_at s bs n i (let long = length-span s bs n in omega arith))

-- a list with the same bits
pub span_is : (s : ℕ) (bs : List Bool) (n : ℕ) (xs : List Bool) → length xs ≡ n →
    ((i : ℕ) → i < n → get_or xs i false ≡ span_bit s bs i) → xs ≡ span_of s bs n
span_is s bs n xs long each =
    ext_get_or false xs (span_of s bs n) (long ∙ sym (length-span s bs n)) (λ i within.
    each i (omega arith) ∙ sym (span_at s bs n i (omega arith)))

-- a stretch of which no bit is set
pub span_none : (s : ℕ) (bs : List Bool) (n : ℕ) → ((k : ℕ) → get_or bs k false ≡ false) → span_of s bs n ≡ replicate n false
span_none s bs n clear =
    sym (span_is s bs n (replicate n false) (length-replicate n false) (λ i within.
    get_or-replicate n i false false within ∙ sym (bit_clear s bs i clear)))

pub span_new : (s : ℕ) (bs : List Bool) (k n : ℕ) → bs ≡ replicate k false → span_of s bs n ≡ replicate n false
span_new s bs k n new = span_none s bs n (λ i. ap (λ xs. get_or xs i false) new ∙ clear_replicate k i)

-- a stretch that is the whole row
pub span_whole : (s : ℕ) (bs : List Bool) (n : ℕ) → s ≡ 0 → length bs ≡ n → span_of s bs n ≡ bs
span_whole s bs n first long =
    sym (span_is s bs n bs long (λ i within.
    let same : i - s ≡ i = omega arith in
    ap (λ k. get_or bs k false) (sym same) ∙ sym (bit_from s bs i (omega arith))))

-- ---- one bit set or cleared

pub span_set : (s : ℕ) (bs : List Bool) (n at k : ℕ) (bit : Bool) → s + length bs ≤ n → at ≡ s + k → k < length bs →
    span_of s (set bs k bit) n ≡ set (span_of s bs n) at bit
span_set s bs n at k bit fits place within =
    sym (span_is s (set bs k bit) n (set (span_of s bs n) at bit) (length-set (span_of s bs n) at bit ∙ length-span s bs n) each)
  where
    each : (i : ℕ) → i < n → get_or (set (span_of s bs n) at bit) i false ≡ span_bit s (set bs k bit) i
    each i low = elim (cases_eq i at) [
      | inl here ↦
          let spot : i ≡ s + k = here ∙ place in
          let long = length-span s bs n in
          ap (λ j. get_or (set (span_of s bs n) at bit) j false) here
          ∙ get_or-set_same (span_of s bs n) at bit false (omega arith)
          ∙ sym (get_or-set_same bs k bit false within)
          ∙ sym (bit_here s (set bs k bit) k)
          ∙ ap (span_bit s (set bs k bit)) (sym spot)
      | inr other ↦
          get_or-set_other (span_of s bs n) at i bit false other ∙ span_at s bs n i low
          ∙ elim (cases_lt i s) [
            | inl before ↦ bit_before s bs i before ∙ sym (bit_before s (set bs k bit) i before)
            | inr from ↦
                let apart : i - s ≢ k = λ e. other (omega arith) in
                bit_from s bs i from ∙ sym (get_or-set_other bs k (i - s) bit false apart) ∙ sym (bit_from s (set bs k bit) i from)
          ]
    ]

-- a place outside of the stretch has its bit clear already
pub span_cleared : (s : ℕ) (bs : List Bool) (n at : ℕ) → span_bit s bs at ≡ false → span_of s bs n ≡ set (span_of s bs n) at false
span_cleared s bs n at clear =
    sym (span_is s bs n (set (span_of s bs n) at false) (length-set (span_of s bs n) at false ∙ length-span s bs n) each)
  where
    each : (i : ℕ) → i < n → get_or (set (span_of s bs n) at false) i false ≡ span_bit s bs i
    each i low = elim (cases_eq i at) [
      | inl here ↦
          let long = length-span s bs n in
          ap (λ j. get_or (set (span_of s bs n) at false) j false) here
          ∙ get_or-set_same (span_of s bs n) at false false (omega arith) ∙ sym clear ∙ ap (span_bit s bs) (sym here)
      | inr other ↦ get_or-set_other (span_of s bs n) at i false false other ∙ span_at s bs n i low
    ]

-- ---- rows joined

pub or_clear : (n : ℕ) (xs : List Bool) → length xs ≡ n → zip2 (λ a b. a || b) (replicate n false) xs ≡ xs
or_clear n xs long =
    let none = length-replicate n false in
    let all : length (zip2 (λ a b. a || b) (replicate n false) xs) ≡ length (replicate n false) =
    length-zip2 (λ a b. a || b) (replicate n false) xs (none ∙ sym long) in
    ext_get_or false (zip2 (λ a b. a || b) (replicate n false) xs) xs (all ∙ none ∙ sym long) (λ i within.
    get_or-zip2 (λ a b. a || b) (replicate n false) xs i false false false (omega arith) (omega arith)
    ∙ ap (λ a. a || get_or xs i false) (get_or-replicate n i false false (omega arith)))

-- a row joined with one of which no bit is set
pub or_nothing : (xs ys : List Bool) → length xs ≡ length ys → ((i : ℕ) → i < length ys → get_or ys i false ≡ false) → xs ≡ zip2 (λ a b. a || b) xs ys
or_nothing xs ys long clear =
    let all : length (zip2 (λ a b. a || b) xs ys) ≡ length xs = length-zip2 (λ a b. a || b) xs ys long in
    ext_get_or false xs (zip2 (λ a b. a || b) xs ys) (sym all) (λ i within.
    sym (get_or-zip2 (λ a b. a || b) xs ys i false false false within (omega arith)
    ∙ ap (λ b. get_or xs i false || b) (clear i (omega arith)) ∙ or-false (get_or xs i false)))

-- bits were added to a row from a place on, those of the places below `from`
pub record AddedTo (by : ℕ) (bits old now : List Bool) (from : ℕ) : Type 0 where
  pub long : length now ≡ length old
  pub within : from ≤ length bits
  pub before : (i : ℕ) → i < length old → i < by + from → get_or now i false ≡ (get_or old i false || span_bit by bits i)
  pub behind : (i : ℕ) → by + from ≤ i → get_or now i false ≡ get_or old i false

pub added_none : (by : ℕ) (bits old : List Bool) → AddedTo by bits old old 0
added_none by bits old = record {
  long = refl;
  within = omega arith;
  before = λ i within low.
      sym (ap (λ b. get_or old i false || b) (bit_before by bits i (omega arith)) ∙ or-false (get_or old i false));
  behind = λ i high. refl;
}

pub added_more : (by : ℕ) (bits old now more : List Bool) (from at : ℕ) → AddedTo by bits old now from →
    (from ≤ at) × (slice_get bits at ≡ Some true) × NoneWhere bits (λ i. (from ≤ i) × (i < at)) → by + length bits ≤ length old →
    more ≡ set now (by + at) true → AddedTo by bits old more (at + 1)
added_more by bits old now more from at so next fits put = record {
  long = ap length put ∙ length-set now (by + at) true ∙ so.long;
  within = let inside = here in omega arith;
  before = λ i within low. by_before i within low (cases_lt i (by + from)) (cases_eq i (by + at));
  behind = λ i high.
      let first = order in
      ap (λ xs. get_or xs i false) put
      ∙ get_or-set_other now (by + at) i true false (λ e. absurd (omega arith))
      ∙ so.behind i (omega arith);
}
  where
    order : from ≤ at
    order = next.0

    here : at < length bits
    here = slice_get_within bits at true next.1

    other : (i : ℕ) → i ≢ by + at → get_or more i false ≡ get_or now i false
    other i apart = ap (λ xs. get_or xs i false) put ∙ get_or-set_other now (by + at) i true false apart

    by_before : (i : ℕ) → i < length old → i < by + (at + 1) → (i < by + from) ⊎ (by + from ≤ i) → (i ≡ by + at) ⊎ (i ≢ by + at) →
        get_or more i false ≡ (get_or old i false || span_bit by bits i)
    by_before i within low (inl done) (inl e) = let first = order in absurd (omega arith)
    by_before i within low (inl done) (inr apart) = other i apart ∙ so.before i within done
    by_before i within low (inr left) (inl e) =
        let long = so.long in
        let inside = here in
        ap (λ xs. get_or xs i false) put ∙ ap (λ j. get_or (set now (by + at) true) j false) e
        ∙ get_or-set_same now (by + at) true false (omega arith)
        ∙ sym (or-true (get_or old i false))
        ∙ ap (λ b. get_or old i false || b)
        (sym (ap (span_bit by bits) e ∙ bit_here by bits at ∙ get_or_from_slice_get bits at true false next.1))
    by_before i within low (inr left) (inr apart) =
        let order = next.0 in
        let inside = here in
        let high : by ≤ i = omega arith in
        let clear : get_or bits (i - by) false ≡ false =
        get_or_from_slice_get bits (i - by) false false (next.2 (i - by) (omega arith) (omega arith, omega arith)) in
        other i apart ∙ so.behind i left
        ∙ sym (ap (λ b. get_or old i false || b) (bit_from by bits i high ∙ clear) ∙ or-false (get_or old i false))

pub added_all : (by : ℕ) (bits old now : List Bool) (from : ℕ) → AddedTo by bits old now from → NoneWhere bits (λ i. from ≤ i) →
    now ≡ zip2 (λ a b. a || b) old (span_of by bits (length old))
added_all by bits old now from so none =
    let long = so.long in
    let span : length (span_of by bits (length old)) ≡ length old = length-span by bits (length old) in
    let all : length (zip2 (λ a b. a || b) old (span_of by bits (length old))) ≡ length old =
    length-zip2 (λ a b. a || b) old (span_of by bits (length old)) (sym span) in
    ext_get_or false now (zip2 (λ a b. a || b) old (span_of by bits (length old))) (long ∙ sym all) (λ i within.
    each i (omega arith) (cases_lt i (by + from))
    ∙ ap (λ b. get_or old i false || b) (sym (span_at by bits (length old) i (omega arith)))
    ∙ sym (get_or-zip2 (λ a b. a || b) old (span_of by bits (length old)) i false false false (omega arith) (omega arith)))
  where
    each : (i : ℕ) → i < length old → (i < by + from) ⊎ (by + from ≤ i) → get_or now i false ≡ (get_or old i false || span_bit by bits i)
    each i within (inl low) = so.before i within low
    each i within (inr high) =
        so.behind i high
        ∙ sym (ap (λ b. get_or old i false || b) (clear i high (cases_lt (i - by) (length bits))) ∙ or-false (get_or old i false))
      where
        clear : (k : ℕ) → by + from ≤ k → (k - by < length bits) ⊎ (length bits ≤ k - by) → span_bit by bits k ≡ false
        clear k from_there (inl inside) =
            bit_from by bits k (omega arith)
            ∙ get_or_from_slice_get bits (k - by) false false (none (k - by) inside (omega arith))
        clear k from_there (inr outside) = bit_behind by bits k (omega arith)

-- the bits of one stretch in another that has its places
pub span_joined : (s : ℕ) (bs new : List Bool) (t : ℕ) (cs : List Bool) (n : ℕ) → s + length bs ≤ n → s ≤ t → t + length cs ≤ s + length bs →
    new ≡ zip2 (λ a b. a || b) bs (span_of (t - s) cs (length bs)) →
    span_of s new n ≡ zip2 (λ a b. a || b) (span_of s bs n) (span_of t cs n)
span_joined s bs new t cs n fits low high joined =
    let left = one in let right = two in let both = all in
    sym (span_is s new n (zip2 (λ a b. a || b) (span_of s bs n) (span_of t cs n)) (all ∙ one) (λ i within.
    get_or-zip2 (λ a b. a || b) (span_of s bs n) (span_of t cs n) i false false false (omega arith) (omega arith)
    ∙ ap (λ b. b || get_or (span_of t cs n) i false) (span_at s bs n i within)
    ∙ ap (λ b. span_bit s bs i || b) (span_at t cs n i within)
    ∙ each i (cases_lt i s)))
  where
    one : length (span_of s bs n) ≡ n
    one = length-span s bs n

    two : length (span_of t cs n) ≡ n
    two = length-span t cs n

    all : length (zip2 (λ a b. a || b) (span_of s bs n) (span_of t cs n)) ≡ length (span_of s bs n)
    all = length-zip2 (λ a b. a || b) (span_of s bs n) (span_of t cs n) (one ∙ sym two)

    part : length (span_of (t - s) cs (length bs)) ≡ length bs
    part = length-span (t - s) cs (length bs)

    long : length new ≡ length bs
    long = ap length joined ∙ length-zip2 (λ a b. a || b) bs (span_of (t - s) cs (length bs)) (sym part)

    shifted : (i : ℕ) → s ≤ i → span_bit (t - s) cs (i - s) ≡ span_bit t cs i
    shifted i from = elim (cases_lt i t) [
      | inl before ↦ bit_before (t - s) cs (i - s) (omega arith) ∙ sym (bit_before t cs i before)
      | inr there ↦
          let same : i - s - (t - s) ≡ i - t = omega arith in
          bit_from (t - s) cs (i - s) (omega arith) ∙ ap (λ k. get_or cs k false) same ∙ sym (bit_from t cs i there)
    ]

    each : (i : ℕ) → (i < s) ⊎ (s ≤ i) → (span_bit s bs i || span_bit t cs i) ≡ span_bit s new i
    each i (inl before) =
        ap (λ b. b || span_bit t cs i) (bit_before s bs i before) ∙ bit_before t cs i (omega arith) ∙ sym (bit_before s new i before)
    each i (inr from) = elim (cases_lt (i - s) (length bs)) [
      | inl inside ↦
          let count = part in
          ap (λ b. b || span_bit t cs i) (bit_from s bs i from)
          ∙ ap (λ b. get_or bs (i - s) false || b) (sym (shifted i from) ∙ sym (span_at (t - s) cs (length bs) (i - s) inside))
          ∙ sym (get_or-zip2 (λ a b. a || b) bs (span_of (t - s) cs (length bs)) (i - s) false false false inside (omega arith))
          ∙ ap (λ xs. get_or xs (i - s) false) (sym joined)
          ∙ sym (bit_from s new i from)
      | inr outside ↦
          let count = long in
          ap (λ b. b || span_bit t cs i) (bit_behind s bs i (omega arith)) ∙ bit_behind t cs i (omega arith)
          ∙ sym (bit_behind s new i (omega arith))
    ]

-- ---- a stretch with more places

-- one without places may begin anywhere
pub span_start : (s t : ℕ) (bs : List Bool) (n : ℕ) → (0 < length bs → t ≡ s) → span_of t bs n ≡ span_of s bs n
span_start s t bs n same = elim (cases_lt 0 (length bs)) [
  | inl some ↦ ap (λ k. span_of k bs n) (same some)
  | inr none ↦
      let clear : (k : ℕ) → get_or bs k false ≡ false = λ k. get_or_past bs k false (omega arith) in
      span_none t bs n clear ∙ sym (span_none s bs n clear)
]

pub span_wider : (s : ℕ) (bs : List Bool) (low : ℕ) (new : List Bool) (n m : ℕ) → low ≤ s → new ≡ span_of (s - low) bs m →
    s + length bs ≤ low + m → span_of low new n ≡ span_of s bs n
span_wider s bs low new n m order made fits =
    sym (span_is low new n (span_of s bs n) (length-span s bs n) (λ i within. span_at s bs n i within ∙ each i (cases_lt i low)))
  where
    long : length new ≡ m
    long = ap length made ∙ length-span (s - low) bs m

    each : (i : ℕ) → (i < low) ⊎ (low ≤ i) → span_bit s bs i ≡ span_bit low new i
    each i (inl before) = bit_before s bs i (omega arith) ∙ sym (bit_before low new i before)
    each i (inr from) = elim (cases_lt (i - low) m) [
      | inl inside ↦
          moved i from (cases_lt i s)
          ∙ sym (span_at (s - low) bs m (i - low) inside) ∙ ap (λ xs. get_or xs (i - low) false) (sym made)
          ∙ sym (bit_from low new i from)
      | inr outside ↦
          let count = long in
          bit_behind s bs i (omega arith) ∙ sym (bit_behind low new i (omega arith))
    ]
      where
        moved : (k : ℕ) → low ≤ k → (k < s) ⊎ (s ≤ k) → span_bit s bs k ≡ span_bit (s - low) bs (k - low)
        moved k there (inl before) = bit_before s bs k before ∙ sym (bit_before (s - low) bs (k - low) (omega arith))
        moved k there (inr behind) =
            let same : k - low - (s - low) ≡ k - s = omega arith in
            bit_from s bs k behind ∙ ap (λ j. get_or bs j false) (sym same) ∙ sym (bit_from (s - low) bs (k - low) (omega arith))

-- ---- which bits are set

pub none_span : (s : ℕ) (bs : List Bool) (n : ℕ) (P Q : ℕ → Type 0) → ((i : ℕ) → s ≤ i → P i → Q (i - s)) → NoneWhere bs Q →
    NoneWhere (span_of s bs n) P
none_span s bs n P Q asks none i within asked =
    span_get s bs n i within ∙ ap (λ b. Some b) (clear (cases_lt i s) (cases_lt (i - s) (length bs)))
  where
    clear : (i < s) ⊎ (s ≤ i) → (i - s < length bs) ⊎ (length bs ≤ i - s) → span_bit s bs i ≡ false
    clear (inl before) where_it_is = bit_before s bs i before
    clear (inr from) (inl inside) =
        bit_from s bs i from ∙ get_or_from_slice_get bs (i - s) false false (none (i - s) inside (asks i from asked))
    clear (inr from) (inr outside) = bit_behind s bs i (omega arith)

pub set_span : (s : ℕ) (bs : List Bool) (n at : ℕ) → s + length bs ≤ n → slice_get bs at ≡ Some true → slice_get (span_of s bs n) (s + at) ≡ Some true
set_span s bs n at fits is =
    let within = slice_get_within bs at true is in
    let long = length-span s bs n in
    span_get s bs n (s + at) (omega arith) ∙ ap (λ b. Some b) (bit_here s bs at ∙ get_or_from_slice_get bs at true false is)

-- how many are
pub count_span : (s : ℕ) (bs : List Bool) (n : ℕ) → s + length bs ≤ n → count_by (λ b. b) (span_of s bs n) ≡ count_by (λ b. b) bs
count_span s bs n fits =
    let as_parts : count_by (λ b. b) (span_of s bs n) ≡ count_by (λ b. b) (replicate s false ++ (bs ++ replicate rest false)) =
    ap (count_by (λ b. b)) (sym parts) in
    let one = counted_cat (replicate s false) (bs ++ replicate rest false) in
    let two = counted_none s in
    let three = counted_cat bs (replicate rest false) in
    let four = counted_none rest in
    omega arith
  where
    rest : ℕ
    rest = n - (s + length bs)

    first : length (replicate s false) ≡ s
    first = length-replicate s false

    last : length (replicate rest false) ≡ rest
    last = length-replicate rest false

    tail : length (bs ++ replicate rest false) ≡ length bs + length (replicate rest false)
    tail = length-append bs (replicate rest false)

    whole : length (replicate s false ++ (bs ++ replicate rest false)) ≡ length (replicate s false) + length (bs ++ replicate rest false)
    whole = length-append (replicate s false) (bs ++ replicate rest false)

    parts : replicate s false ++ (bs ++ replicate rest false) ≡ span_of s bs n
    parts =
        let a = first in let b = last in let c = tail in let d = whole in
        span_is s bs n (replicate s false ++ (bs ++ replicate rest false)) (omega arith) (λ i within. elim (cases_lt i s) [
          | inl before ↦
              get_or_append_left (replicate s false) (bs ++ replicate rest false) false i (omega arith)
              ∙ get_or-replicate s i false false before ∙ sym (bit_before s bs i before)
          | inr from ↦
              get_or-append_right (replicate s false) (bs ++ replicate rest false) s i false first from
              ∙ elim (cases_lt (i - s) (length bs)) [
                | inl inside ↦ get_or_append_left bs (replicate rest false) false (i - s) inside ∙ sym (bit_from s bs i from)
                | inr outside ↦
                    get_or-append_right bs (replicate rest false) (length bs) (i - s) false refl outside
                    ∙ clear_replicate rest (i - s - length bs) ∙ sym (bit_behind s bs i (omega arith))
              ]
        ])

-- ---- whether two rows meet

-- no bit of the places below `from` is set in both
abbrev pub MeetsNone : ℕ → List Bool → List Bool → ℕ → Type 0
MeetsNone by bits other from = (i : ℕ) → i < by + from → (span_bit by bits i && get_or other i false) ≡ false

pub meets_first : (by : ℕ) (bits other : List Bool) → MeetsNone by bits other 0
meets_first by bits other i low = ap (λ b. b && get_or other i false) (bit_before by bits i (omega arith))

pub meets_more : (by : ℕ) (bits other : List Bool) (from at : ℕ) → MeetsNone by bits other from →
    (from ≤ at) × (slice_get bits at ≡ Some true) × NoneWhere bits (λ i. (from ≤ i) × (i < at)) →
    slice_get other (by + at) ≡ Some false → MeetsNone by bits other (at + 1)
meets_more by bits other from at so next clear i low = each (cases_lt i (by + from)) (cases_eq i (by + at))
  where
    here : at < length bits
    here = slice_get_within bits at true next.1

    each : (i < by + from) ⊎ (by + from ≤ i) → (i ≡ by + at) ⊎ (i ≢ by + at) → (span_bit by bits i && get_or other i false) ≡ false
    each (inl done) spot = so i done
    each (inr left) (inl e) =
        ap (λ b. span_bit by bits i && b) (ap (λ k. get_or other k false) e ∙ get_or_from_slice_get other (by + at) false false clear)
        ∙ and-false (span_bit by bits i)
    each (inr left) (inr apart) =
        let order = next.0 in
        let inside = here in
        ap (λ b. b && get_or other i false)
        (bit_from by bits i (omega arith)
        ∙ get_or_from_slice_get bits (i - by) false false (next.2 (i - by) (omega arith) (omega arith, omega arith)))

module _ (by : ℕ) (bits other : List Bool) (fits : by + length bits ≤ length other) where
  abbrev row : List Bool
  row = span_of by bits (length other)

  row_long : length row ≡ length other
  row_long = length-span by bits (length other)

  abbrev both : List Bool
  both = zip2 (λ a b. a && b) row other

  both_long : length both ≡ length row
  both_long = length-zip2 (λ a b. a && b) row other row_long

  both_at : (i : ℕ) → i < length other → get_or both i false ≡ (span_bit by bits i && get_or other i false)
  both_at i within =
      get_or-zip2 (λ a b. a && b) row other i false false false (omega (arith, row_long)) within
      ∙ ap (λ b. b && get_or other i false) (span_at by bits (length other) i within)

  pub meets_here : (at : ℕ) → slice_get bits at ≡ Some true → slice_get other (by + at) ≡ Some true →
      list_any (λ bit. bit) (zip2 (λ a b. a && b) (span_of by bits (length other)) other) ≡ true
  meets_here at one two =
      let within = slice_get_within other (by + at) true two in
      list_any_at (λ bit. bit) both (by + at) false (omega (arith, both_long, row_long))
      (both_at (by + at) within
      ∙ ap (λ b. b && get_or other (by + at) false) (bit_here by bits at ∙ get_or_from_slice_get bits at true false one)
      ∙ get_or_from_slice_get other (by + at) true false two)

  pub meets_nowhere : (from : ℕ) → MeetsNone by bits other from → NoneWhere bits (λ i. from ≤ i) →
      list_any (λ bit. bit) (zip2 (λ a b. a && b) (span_of by bits (length other)) other) ≡ false
  meets_nowhere from so none =
      list_any_none (λ bit. bit) both (All-from_get_or (λ bit. bit ≡ false) both false (λ i within.
      both_at i (omega (arith, both_long, row_long)) ∙ clear i (cases_lt i (by + from)) (cases_lt (i - by) (length bits))))
    where
      clear : (i : ℕ) → (i < by + from) ⊎ (by + from ≤ i) → (i - by < length bits) ⊎ (length bits ≤ i - by) →
          (span_bit by bits i && get_or other i false) ≡ false
      clear i (inl low) where_it_is = so i low
      clear i (inr high) (inl inside) =
          ap (λ b. b && get_or other i false)
          (bit_from by bits i (omega arith) ∙ get_or_from_slice_get bits (i - by) false false (none (i - by) inside (omega arith)))
      clear i (inr high) (inr outside) = ap (λ b. b && get_or other i false) (bit_behind by bits i (omega arith))
