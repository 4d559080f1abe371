-- Texts in the order of their bytes, and one more that is put into its place.
use Rattle.std.proofs.Common.{◌≡◌, ℕ, Bool, true, false, cond, List, [], ◌∷◌, Contains, is_lt, nat_cmp, Ordering, Less, Equal, Greater, refl, ap, subst, ◌∙◌}
use Rattle.std.specs.List.{AllByRecursion}
use Rattle.std.specs.List.Sorted.{IsStrictlySortedBy}
use Rattle.std.specs.Ordering.{ordering_reverse, is_eq}
use Rattle.std.specs.Cmp.Lexicographic.{slice_cmp, texts_ties, nat_list_cmp_total, bytes_decides}
use Rattle.emudb_files.specs.Names.{with_name, in_order}
use Rattle.folder_laws.specs.Laws.{Rise}
use Rattle.folder_laws.proofs.Members.{none_here, here, there, first, parted}

-- ---- the order

tied : (x y : List ℕ) → slice_cmp nat_cmp x y ≡ Equal → x ≡ y
tied x y same = (bytes_decides x y).0 (texts_ties x y ∙ ap is_eq same)

turned : (r s : Ordering) → s ≡ ordering_reverse r → is_lt r ≡ false → (r ≡ Equal → ⊥) → s ≡ Less
turned Less s is later apart = absurd cc
turned Equal s is later apart = absurd (apart refl)
turned Greater s is later apart = is

-- of two texts that differ, the one that does not come before the other comes behind it
pub behind_of : (x y : List ℕ) → is_lt (slice_cmp nat_cmp x y) ≡ false → (x ≡ y → ⊥) → slice_cmp nat_cmp y x ≡ Less
behind_of x y later apart =
    turned (slice_cmp nat_cmp x y) (slice_cmp nat_cmp y x) (nat_list_cmp_total.antisymm y x) later (λ same. apart (tied x y same))

less_of : (r : Ordering) → is_lt r ≡ true → r ≡ Less
less_of Less is = refl
less_of Equal is = absurd cc
less_of Greater is = absurd cc

pub before_of : (x y : List ℕ) → is_lt (slice_cmp nat_cmp x y) ≡ true → slice_cmp nat_cmp x y ≡ Less
before_of x y is = less_of (slice_cmp nat_cmp x y) is

self_by : (r : Ordering) → r ≡ ordering_reverse r → r ≡ Less → ⊥
self_by Less same less = absurd cc
self_by Equal same less = absurd cc
self_by Greater same less = absurd cc

-- no text comes before itself
pub not_self : (x y : List ℕ) → x ≡ y → slice_cmp nat_cmp x y ≡ Less → ⊥
not_self x y same less =
    self_by (slice_cmp nat_cmp x x) (nat_list_cmp_total.antisymm x x) (ap (slice_cmp nat_cmp x) same ∙ less)

pub all_behind : (x y : List ℕ) (texts : List (List ℕ)) → slice_cmp nat_cmp x y ≡ Less →
    AllByRecursion (λ z. slice_cmp nat_cmp y z ≡ Less) texts → AllByRecursion (λ z. slice_cmp nat_cmp x z ≡ Less) texts
all_behind x y [] less all = tt
all_behind x y (z ∷ texts) less all = (nat_list_cmp_total.trans x y z less all.0, all_behind x y texts less all.1)

-- ---- a text that is put into its place

-- what holds of the text and of all others holds of all
all_with_by : (P : List ℕ → Type 0) (n f : List ℕ) (texts more : List (List ℕ)) (b : Bool) → P n → P f → AllByRecursion P texts →
    AllByRecursion P more → AllByRecursion P (cond b (f ∷ more) (n ∷ f ∷ texts))
all_with_by P n f texts more true own at all more_all = (at, more_all)
all_with_by P n f texts more false own at all more_all = (own, (at, all))

all_with : (P : List ℕ → Type 0) (n : List ℕ) (texts : List (List ℕ)) → P n → AllByRecursion P texts → AllByRecursion P (with_name n texts)
all_with P n [] own all = (own, tt)
all_with P n (f ∷ texts) own all =
    all_with_by P n f texts (with_name n texts) (is_lt (slice_cmp nat_cmp f n)) own all.0 all.1 (all_with P n texts own all.1)

rise_by : (n f : List ℕ) (texts : List (List ℕ)) (b : Bool) → is_lt (slice_cmp nat_cmp f n) ≡ b → Rise (f ∷ texts) →
    (f ≡ n → ⊥) → Rise (with_name n texts) → Rise (cond b (f ∷ with_name n texts) (n ∷ f ∷ texts))
unfolding IsStrictlySortedBy
rise_by n f texts true is up apart more =
    (all_with (λ z. slice_cmp nat_cmp f z ≡ Less) n texts (before_of f n is) up.0, more)
rise_by n f texts false is up apart more =
    let less = behind_of f n is apart in
    ((less, all_behind n f texts less up.0), up)

-- texts that rise, with one that is not there yet, rise
pub rise_with : (n : List ℕ) (texts : List (List ℕ)) → Rise texts → (Contains texts n → ⊥) → Rise (with_name n texts)
unfolding IsStrictlySortedBy
rise_with n [] up new = (tt, tt)
rise_with n (f ∷ texts) up new =
    rise_by n f texts (is_lt (slice_cmp nat_cmp f n)) refl up (λ same. new (first f texts n same))
    (rise_with n texts up.1 (λ at. new (there f texts n at)))

-- ---- its members

-- a member is the text that was put, or was there
pub with_parted : {R : Type 0} (n : List ℕ) (texts : List (List ℕ)) (m : List ℕ) → Contains (with_name n texts) m →
    (n ≡ m → R) → (Contains texts m → R) → R
with_parted n [] m at one more = parted n [] m at one more
with_parted {R = R} n (f ∷ texts) m at one more =
    by_test (is_lt (slice_cmp nat_cmp f n)) at (λ behind. with_parted n texts m behind one (λ old. more (there f texts m old)))
  where
    by_test : (b : Bool) → Contains (cond b (f ∷ with_name n texts) (n ∷ f ∷ texts)) m → (Contains (with_name n texts) m → R) → R
    by_test true at rest =
        parted f (with_name n texts) m at
        (λ same. more (first f texts m same))
        rest
    by_test false at rest = parted n (f ∷ texts) m at one more

new_by : (n f : List ℕ) (texts more : List (List ℕ)) (b : Bool) → Contains more n → Contains (cond b (f ∷ more) (n ∷ f ∷ texts)) n
new_by n f texts more true at = there f more n at
new_by n f texts more false at = here n (f ∷ texts)

pub with_new : (n : List ℕ) (texts : List (List ℕ)) → Contains (with_name n texts) n
with_new n [] = here n []
with_new n (f ∷ texts) = new_by n f texts (with_name n texts) (is_lt (slice_cmp nat_cmp f n)) (with_new n texts)

old_by : (n f m : List ℕ) (texts more : List (List ℕ)) (b : Bool) → Contains (f ∷ more) m → Contains (f ∷ texts) m →
    Contains (cond b (f ∷ more) (n ∷ f ∷ texts)) m
old_by n f m texts more true longer at = longer
old_by n f m texts more false longer at = there n (f ∷ texts) m at

pub with_old : (n : List ℕ) (texts : List (List ℕ)) (m : List ℕ) → Contains texts m → Contains (with_name n texts) m
with_old n [] m at = none_here m at
with_old n (f ∷ texts) m at =
    old_by n f m texts (with_name n texts) (is_lt (slice_cmp nat_cmp f n))
    (parted f texts m at
    (λ same. first f (with_name n texts) m same)
    (λ behind. there f (with_name n texts) m (with_old n texts m behind)))
    at

-- ---- all texts in order

pub in_order_old : (texts : List (List ℕ)) (m : List ℕ) → Contains texts m → Contains (in_order texts) m
in_order_old [] m at = none_here m at
in_order_old (t ∷ texts) m at =
    parted t texts m at
    (λ same. subst (λ z. Contains (with_name t (in_order texts)) z) same (with_new t (in_order texts)))
    (λ behind. with_old t (in_order texts) m (in_order_old texts m behind))

pub in_order_from : (texts : List (List ℕ)) (m : List ℕ) → Contains (in_order texts) m → Contains texts m
in_order_from [] m at = none_here m at
in_order_from (t ∷ texts) m at =
    with_parted t (in_order texts) m at
    (λ same. first t texts m same)
    (λ old. there t texts m (in_order_from texts m old))
