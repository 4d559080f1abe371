-- A dominance by rows of bits is one by links.
use Rattle.std.proofs.Common.{◌≡◌, ℕ, zero, suc, ◌+◌, ◌-◌, ◌<◌, ◌≤◌, Bool, true, false, cond, ◌||◌, ◌&&◌, List, [], ◌∷◌, ◌++◌, length, map, get_or, refl, sym, ap, ◌∙◌, arith, nat_lt, nat_le}
use Rattle.std.specs.Prelude.{All}
use Rattle.std.specs.List.{filter, flat_map, list_all, list_any, range_with_len}
use Rattle.std.proofs.lemmas.Bool.{and_parts, leb-true, ltb-true}
use Rattle.std.proofs.lemmas.List.{get_or-map}
use Rattle.std.proofs.lemmas.List.Concat.{flat_map-cons}
use Rattle.std.proofs.lemmas.List.Elements.{All-head, All-tail}
use Rattle.link_graph.specs.declared.link.Link.{Link}
use Rattle.bundle_state.specs.Bundle.{BundleParts}
use Rattle.hier_closure.specs.Dominance.{dominates, ids_at, closure_row, closure_rows}
use Rattle.eql_tuples.specs.declared.tuple.Tuple.{Tuple}
use Rattle.eql_tuples.specs.Sets.{each_once}
use Rattle.eql_tuples.specs.Tuples.{stretch, fits_in, left_with, pairs_with, joined}
use Rattle.eql_tuples.specs.Inner.Stretches.{positions}
use Rattle.eql_tuples.proofs.Stretches.{stretch_is}
use Rattle.eql_model.specs.Covers.{covers, one_covers}
use Rattle.eql_model.specs.Inner.Joins.{bit_at, is_under, bits_cover, goes_with, makes, both_ways}

-- ---- a stretch by its positions

all_map : {X : Type 0} (p : X → Bool) (f : ℕ → X) (ks : List ℕ) → list_all p (map f ks) ≡ list_all (λ k. p (f k)) ks
all_map p f [] = refl
all_map p f (k ∷ ks) = ap (λ b. p (f k) && b) (all_map p f ks)

any_map : {X : Type 0} (p : X → Bool) (f : ℕ → X) (ks : List ℕ) → list_any p (map f ks) ≡ list_any (λ k. p (f k)) ks
any_map p f [] = refl
any_map p f (k ∷ ks) = ap (λ b. p (f k) || b) (any_map p f ks)

all_in : (p q : ℕ → Bool) (n k m : ℕ) → k + m ≤ n → ((i : ℕ) → i < n → p i ≡ q i) →
    list_all p (range_with_len k m) ≡ list_all q (range_with_len k m)
all_in p q n k zero h same = refl
all_in p q n k (suc m) h same = λ i. same k (omega arith) i && all_in p q n (k + 1) m (omega arith) same i

any_in : (p q : ℕ → Bool) (n k m : ℕ) → k + m ≤ n → ((i : ℕ) → i < n → p i ≡ q i) →
    list_any p (range_with_len k m) ≡ list_any q (range_with_len k m)
any_in p q n k zero h same = refl
any_in p q n k (suc m) h same = λ i. same k (omega arith) i || any_in p q n (k + 1) m (omega arith) same i

ends_in : (n : ℕ) (t : Tuple) → fits_in n t ≡ true → t.first + (t.last + 1 - t.first) ≤ n
ends_in n t fits =
    let parts = and_parts (nat_le t.first t.last) (nat_lt t.last n) fits in
    let rises : t.first ≤ t.last = leb-true t.first t.last parts.0 in
    let within : t.last < n = ltb-true t.last n parts.1 in
    omega arith

-- ---- one bit

pub bit_is : (links : List Link) (uppers lowers : List ℕ) (i j : ℕ) → i < length uppers → j < length lowers →
    bit_at (closure_rows links lowers uppers) i j ≡ dominates links (get_or uppers i 0) (get_or lowers j 0)
bit_is links uppers lowers i j there here =
    ap (λ row. get_or row j false) (get_or-map (closure_row links lowers) uppers i 0 [] there)
    ∙ get_or-map (dominates links (get_or uppers i 0)) lowers j 0 false here

-- some item of an upper stretch dominates the item at a position
pub under_is : (links : List Link) (uppers lowers : List ℕ) (t : Tuple) (j : ℕ) → fits_in (length uppers) t ≡ true → j < length lowers →
    is_under (closure_rows links lowers uppers) t j ≡ list_any (λ a. dominates links a (get_or lowers j 0)) (stretch uppers t)
under_is links uppers lowers t j fits here =
    any_in (λ i. bit_at (closure_rows links lowers uppers) i j) (λ i. dominates links (get_or uppers i 0) (get_or lowers j 0))
    (length uppers) t.first (t.last + 1 - t.first) (ends_in (length uppers) t fits) (λ i there. bit_is links uppers lowers i j there here)
    ∙ sym (any_map (λ a. dominates links a (get_or lowers j 0)) (λ i. get_or uppers i 0) (positions t))
    ∙ sym (ap (list_any (λ a. dominates links a (get_or lowers j 0))) (stretch_is uppers 0 t fits))

pub bits_are : (links : List Link) (uppers lowers : List ℕ) (t u : Tuple) → fits_in (length uppers) t ≡ true →
    fits_in (length lowers) u ≡ true →
    bits_cover (closure_rows links lowers uppers) t u ≡ covers links (stretch uppers t) (stretch lowers u)
bits_are links uppers lowers t u upper lower =
    all_in (is_under (closure_rows links lowers uppers) t)
    (λ j. list_any (λ a. dominates links a (get_or lowers j 0)) (stretch uppers t)) (length lowers) u.first (u.last + 1 - u.first)
    (ends_in (length lowers) u lower) (λ j here. under_is links uppers lowers t j upper here)
    ∙ sym (all_map (λ x. list_any (λ a. dominates links a x) (stretch uppers t)) (λ j. get_or lowers j 0) (positions u))
    ∙ sym (ap (list_all (λ x. list_any (λ a. dominates links a x) (stretch uppers t))) (stretch_is lowers 0 u lower))

-- ---- joins by tests that agree

kept_same : (a b : Bool) (t : Tuple) (f : Tuple → Tuple) (ts us : List Tuple) → a ≡ b → map f ts ≡ map f us →
    map f (cond a (t ∷ ts) ts) ≡ map f (cond b (t ∷ us) us)
kept_same a true t f ts us e rest = ap (λ c. map f (cond c (t ∷ ts) ts)) e ∙ ap (λ xs. f t ∷ xs) rest
kept_same a false t f ts us e rest = ap (λ c. map f (cond c (t ∷ ts) ts)) e ∙ rest

pairs_same : (p q : Tuple → Tuple → Bool) (make : Tuple → Tuple → Tuple) (R : Tuple → Type 0) (l : Tuple) →
    ((r : Tuple) → R r → p l r ≡ q l r) → (rs : List Tuple) → All R rs → pairs_with p make rs l ≡ pairs_with q make rs l
pairs_same p q make R l same [] all = refl
pairs_same p q make R l same (r ∷ rs) all =
    kept_same (p l r) (q l r) r (make l) (filter (p l) rs) (filter (q l) rs) (same r (All-head R r rs all))
    (pairs_same p q make R l same rs (All-tail R r rs all))

all_pairs_same : (p q : Tuple → Tuple → Bool) (make : Tuple → Tuple → Tuple) (L R : Tuple → Type 0) →
    ((l r : Tuple) → L l → R r → p l r ≡ q l r) → (ls rs : List Tuple) → All L ls → All R rs →
    flat_map (pairs_with p make rs) ls ≡ flat_map (pairs_with q make rs) ls
all_pairs_same p q make L R same [] rs left right = refl
all_pairs_same p q make L R same (l ∷ ls) rs left right =
    flat_map-cons (pairs_with p make rs) l ls
    ∙ (λ i. pairs_same p q make R l (λ r fits. same l r (All-head L l ls left) fits) rs right i
    ++ all_pairs_same p q make L R same ls rs (All-tail L l ls left) right i)
    ∙ sym (flat_map-cons (pairs_with q make rs) l ls)

pub joined_same : (p q : Tuple → Tuple → Bool) (make : Tuple → Tuple → Tuple) (L R : Tuple → Type 0) →
    ((l r : Tuple) → L l → R r → p l r ≡ q l r) → (ls rs : List Tuple) → All L ls → All R rs →
    joined p make ls rs ≡ joined q make ls rs
joined_same p q make L R same ls rs left right = ap each_once (all_pairs_same p q make L R same ls rs left right)

pub dominance_is : (b : BundleParts) (left right : ℕ) (ls rs : List Tuple) →
    All (λ t. fits_in (length (ids_at b.levels left)) t ≡ true) ls → All (λ t. fits_in (length (ids_at b.levels right)) t ≡ true) rs →
    joined (goes_with (both_ways b left right)) (makes (both_ways b left right)) ls rs
    ≡ joined (one_covers b.links (ids_at b.levels left) (ids_at b.levels right)) left_with ls rs
dominance_is b left right ls rs =
    joined_same (goes_with (both_ways b left right)) (one_covers b.links (ids_at b.levels left) (ids_at b.levels right)) left_with
    (λ t. fits_in (length (ids_at b.levels left)) t ≡ true) (λ t. fits_in (length (ids_at b.levels right)) t ≡ true)
    (λ l r on_left on_right i.
    bits_are b.links (ids_at b.levels left) (ids_at b.levels right) l r on_left on_right i
    || bits_are b.links (ids_at b.levels right) (ids_at b.levels left) r l on_right on_left i)
    ls rs
