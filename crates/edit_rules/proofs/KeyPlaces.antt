-- A key's place in a list of bundles whose keys rise.
use Rattle.std.proofs.Common.{◌≡◌, ℕ, zero, suc, ◌<◌, ◌≤◌, Bool, true, false, cond, not, List, [], ◌∷◌, length, Some, None, refl, sym, ◌∙◌, ap, subst, arith, is_lt, Ordering}
use Rattle.std.specs.Prelude.{slice_index_or}
use Rattle.std.specs.declared.cmp.Ordering.TheVariants.{Less, Equal, Greater}
use Rattle.std.specs.List.{AllWithin}
use Rattle.std.specs.List.Sorted.{IsPartitionPoint, IsPartitionedBy}
use Rattle.std.specs.Ordering.{ordering_reverse}
use Rattle.std.proofs.lemmas.Bool.{true≢false, and_parts, and_from}
use Rattle.emu_names.specs.declared.names.BundleKey.{BundleKey}
use Rattle.emu_names.specs.Order.{key_cmp}
use Rattle.emu_names.proofs.KeyOrder.{exact_keys, keys_total}
use Rattle.emu_names.specs.Texts.{same_text}
use Rattle.bundle_state.specs.Bundle.{BundleParts}
use Rattle.bundle_state.proofs.Tests.{Each, text_true, text_same}
use Rattle.edit_rules.specs.Database.{same_key, is_before, bundle_with, without, put_in_order, are_keys_rising}
use Rattle.edit_rules.specs.Inner.KeyPlaces.{IsAt, IsFree, has_key_at}

-- The order of keys.

pub same_itself : (a : BundleKey) → same_key a a ≡ true
same_itself a = and_from (same_text a.session a.session) (same_text a.bundle a.bundle) (text_same a.session) (text_same a.bundle)

apart_keys : (a b : BundleKey) → same_key a b ≡ false → key_cmp a b ≡ Equal → ⊥
apart_keys a b apart alike =
    true≢false (sym (same_itself a) ∙ ap (λ (k : BundleKey). same_key a k) (exact_keys a b alike) ∙ apart)

before_back : (o p : Ordering) → o ≡ ordering_reverse p → is_lt o ≡ false → (p ≡ Equal → ⊥) → is_lt p ≡ true
before_back o Less flip later apart = refl
before_back o Equal flip later apart = absurd (apart refl)
before_back o Greater flip later apart = absurd (true≢false (sym (ap is_lt flip) ∙ later))

-- of two different keys one stands before the other
pub before_or : (a b : BundleKey) → is_before a b ≡ false → same_key b a ≡ false → is_before b a ≡ true
before_or a b later apart = before_back (key_cmp a b) (key_cmp b a) (keys_total.antisymm a b) later (apart_keys b a apart)

less_of : (o : Ordering) → is_lt o ≡ true → o ≡ Less
less_of Less is = refl
less_of Equal is = absurd (true≢false (sym is))
less_of Greater is = absurd (true≢false (sym is))

pub before_trans : (a b c : BundleKey) → is_before a b ≡ true → is_before b c ≡ true → is_before a c ≡ true
before_trans a b c first second = ap is_lt (keys_total.trans a b c (less_of (key_cmp a b) first) (less_of (key_cmp b c) second))

not_both : (o p : Ordering) → o ≡ ordering_reverse p → is_lt p ≡ true → is_lt o ≡ false
not_both o Less flip is = ap is_lt flip
not_both o Equal flip is = absurd (true≢false (sym is))
not_both o Greater flip is = absurd (true≢false (sym is))

pub not_back : (a b : BundleKey) → is_before b a ≡ true → is_before a b ≡ false
not_back a b is = not_both (key_cmp a b) (key_cmp b a) (keys_total.antisymm a b) is

not_itself : (a : BundleKey) → is_before a a ≡ true → ⊥
not_itself a is = true≢false (sym is ∙ not_back a a is)

pub key_same : (a b : BundleKey) → same_key a b ≡ true → a ≡ b
key_same a b same =
    let parts : (same_text a.session b.session ≡ true) × (same_text a.bundle b.bundle ≡ true) = and_parts (same_text a.session b.session) (same_text a.bundle b.bundle) same in
    ap (λ (s : List ℕ). record { session = s; bundle = a.bundle }) (text_true a.session b.session parts.0)
    ∙ ap (λ (n : List ℕ). record { session = b.session; bundle = n }) (text_true a.bundle b.bundle parts.1)

-- of two keys one of which stands before the other, each is another one
apart_from : (a b : BundleKey) (same : Bool) → same_key a b ≡ same → is_before a b ≡ true → same ≡ false
apart_from a b true same is = absurd (not_itself b (subst (λ (k : BundleKey). is_before k b ≡ true) (key_same a b same) is))
apart_from a b false same is = refl

pub apart_before : (a b : BundleKey) → is_before a b ≡ true → same_key a b ≡ false
apart_before a b is = apart_from a b (same_key a b) refl is

apart_to : (a b : BundleKey) (same : Bool) → same_key a b ≡ same → is_before b a ≡ true → same ≡ false
apart_to a b true same is = absurd (not_itself b (subst (λ (k : BundleKey). is_before b k ≡ true) (key_same a b same) is))
apart_to a b false same is = refl

pub apart_after : (a b : BundleKey) → is_before b a ≡ true → same_key a b ≡ false
apart_after a b is = apart_to a b (same_key a b) refl is

-- Lists whose keys rise.

pub rising_tail : (b : BundleParts) (bs : List BundleParts) → are_keys_rising (b ∷ bs) ≡ true → are_keys_rising bs ≡ true
rising_tail b [] up = refl
rising_tail b (a ∷ bs) up = (and_parts (is_before b.key a.key) (are_keys_rising (a ∷ bs)) up).1

rising_head : (b a : BundleParts) (bs : List BundleParts) → are_keys_rising (b ∷ a ∷ bs) ≡ true → is_before b.key a.key ≡ true
rising_head b a bs up = (and_parts (is_before b.key a.key) (are_keys_rising (a ∷ bs)) up).0

-- the key stands before the first of these
abbrev pub Above : BundleKey → List BundleParts → Type 0
Above key [] = Unit {0}
Above key (b ∷ bs) = is_before key b.key ≡ true

pub above_own : (b : BundleParts) (bs : List BundleParts) → are_keys_rising (b ∷ bs) ≡ true → Above b.key bs
above_own b [] up = tt
above_own b (a ∷ bs) up = rising_head b a bs up

pub above_next : (key : BundleKey) (b : BundleParts) (bs : List BundleParts) → is_before key b.key ≡ true → are_keys_rising (b ∷ bs) ≡ true → Above key bs
above_next key b [] is up = tt
above_next key b (a ∷ bs) is up = before_trans key b.key a.key is (rising_head b a bs up)

-- no bundle has the key
abbrev pub Apart : BundleKey → List BundleParts → Type 0
Apart key bs = Each (λ b. same_key b.key key ≡ false) bs

pub apart_all : (key : BundleKey) (bs : List BundleParts) → are_keys_rising bs ≡ true → Above key bs → Apart key bs
apart_all key [] up above = tt
apart_all key (b ∷ bs) up above =
    (apart_after b.key key above, apart_all key bs (rising_tail b bs up) (above_next key b bs above up))

-- One step of a search, and of a filter.

find_other : (key : BundleKey) (b : BundleParts) (bs : List BundleParts) → same_key b.key key ≡ false → bundle_with key (b ∷ bs) ≡ bundle_with key bs
find_other key b bs apart = ap (λ (t : Bool). cond t (Some b) (bundle_with key bs)) apart

find_own : (key : BundleKey) (b : BundleParts) (bs : List BundleParts) → same_key b.key key ≡ true → bundle_with key (b ∷ bs) ≡ Some b
find_own key b bs same = ap (λ (t : Bool). cond t (Some b) (bundle_with key bs)) same

keep_other : (key : BundleKey) (b : BundleParts) (bs : List BundleParts) → same_key b.key key ≡ false → without key (b ∷ bs) ≡ b ∷ without key bs
keep_other key b bs apart = ap (λ (t : Bool). cond (not t) (b ∷ without key bs) (without key bs)) apart

drop_own : (key : BundleKey) (b : BundleParts) (bs : List BundleParts) → same_key b.key key ≡ true → without key (b ∷ bs) ≡ without key bs
drop_own key b bs same = ap (λ (t : Bool). cond (not t) (b ∷ without key bs) (without key bs)) same

pub apart_find : (key : BundleKey) (bs : List BundleParts) → Apart key bs → bundle_with key bs ≡ None
apart_find key [] apart = refl
apart_find key (b ∷ bs) apart = find_other key b bs apart.0 ∙ apart_find key bs apart.1

pub apart_without : (key : BundleKey) (bs : List BundleParts) → Apart key bs → without key bs ≡ bs
apart_without key [] apart = refl
apart_without key (b ∷ bs) apart = keep_other key b bs apart.0 ∙ ap (λ (rest : List BundleParts). b ∷ rest) (apart_without key bs apart.1)

put_here : (new b : BundleParts) (bs : List BundleParts) → is_before new.key b.key ≡ true → put_in_order new (b ∷ bs) ≡ new ∷ b ∷ bs
put_here new b bs is = ap (λ (t : Bool). cond t (new ∷ b ∷ bs) (b ∷ put_in_order new bs)) is

put_later : (new b : BundleParts) (bs : List BundleParts) → is_before new.key b.key ≡ false → put_in_order new (b ∷ bs) ≡ b ∷ put_in_order new bs
put_later new b bs is = ap (λ (t : Bool). cond t (new ∷ b ∷ bs) (b ∷ put_in_order new bs)) is

put_front : (new : BundleParts) (bs : List BundleParts) → Above new.key bs → put_in_order new bs ≡ new ∷ bs
put_front new [] above = refl
put_front new (b ∷ bs) above = put_here new b bs above

-- The place of a bundle that is there.

at_here : (key : BundleKey) (b : BundleParts) (bs : List BundleParts) → are_keys_rising (b ∷ bs) ≡ true → same_key b.key key ≡ true → IsAt key (b ∷ bs) zero
at_here key b bs up is =
    let same : b.key ≡ key = key_same b.key key is in
    let above : Above key bs = subst (λ (k : BundleKey). Above k bs) same (above_own b bs up) in
    let left : without key (b ∷ bs) ≡ bs = drop_own key b bs is ∙ apart_without key bs (apart_all key bs (rising_tail b bs up) above) in
    record {
      bundle = b;
      there = refl;
      own = same;
      found = find_own key b bs is;
      within = omega arith;
      put = λ new own. ap (put_in_order new) left ∙ put_front new bs (subst (λ (k : BundleKey). Above k bs) (sym own) above);
      taken = left;
    }

at_later : (key : BundleKey) (b : BundleParts) (bs : List BundleParts) (place : ℕ) → is_before b.key key ≡ true → IsAt key bs place → IsAt key (b ∷ bs) (suc place)
at_later key b bs place is rest =
    let apart : same_key b.key key ≡ false = apart_before b.key key is in
    record {
      bundle = rest.bundle;
      there = rest.there;
      own = rest.own;
      found = find_other key b bs apart ∙ rest.found;
      within = (let low = rest.within in omega arith);
      put = λ new own.
          ap (put_in_order new) (keep_other key b bs apart)
          ∙ put_later new b (without key bs) (not_back new.key b.key (subst (λ (k : BundleKey). is_before b.key k ≡ true) (sym own) is))
          ∙ ap (λ (xs : List BundleParts). b ∷ xs) (rest.put new own);
      taken = keep_other key b bs apart ∙ ap (λ (xs : List BundleParts). b ∷ xs) rest.taken;
    }

free_here : (key : BundleKey) (bs : List BundleParts) → are_keys_rising bs ≡ true → Above key bs → IsFree key bs zero
free_here key bs up above =
    let apart : Apart key bs = apart_all key bs up above in
    record {
      absent = apart_find key bs apart;
      within = omega arith;
      put = λ new own. ap (put_in_order new) (apart_without key bs apart) ∙ put_front new bs (subst (λ (k : BundleKey). Above k bs) (sym own) above);
      same = apart_without key bs apart;
    }

free_later : (key : BundleKey) (b : BundleParts) (bs : List BundleParts) (place : ℕ) → is_before b.key key ≡ true → IsFree key bs place → IsFree key (b ∷ bs) (suc place)
free_later key b bs place is rest =
    let apart : same_key b.key key ≡ false = apart_before b.key key is in
    record {
      absent = find_other key b bs apart ∙ rest.absent;
      within = (let low = rest.within in omega arith);
      put = λ new own.
          ap (put_in_order new) (keep_other key b bs apart)
          ∙ put_later new b (without key bs) (not_back new.key b.key (subst (λ (k : BundleKey). is_before b.key k ≡ true) (sym own) is))
          ∙ ap (λ (xs : List BundleParts). b ∷ xs) (rest.put new own);
      same = keep_other key b bs apart ∙ ap (λ (xs : List BundleParts). b ∷ xs) rest.same;
    }

-- all keys below the place are before the key, and no key from there on is
abbrev Low : BundleKey → List BundleParts → ℕ → Type 0
Low key bs place = AllWithin (λ b. is_before b.key key ≡ true) bs 0 place

abbrev High : BundleKey → List BundleParts → ℕ → Type 0
High key bs place = AllWithin (λ b. is_before b.key key ≡ false) bs place (length bs)

low_rest : (key : BundleKey) (b : BundleParts) (bs : List BundleParts) (place : ℕ) → Low key (b ∷ bs) (suc place) → Low key bs place
low_rest key b bs place low k d le lt = low (suc k) d (omega arith) (omega (arith, lt))

high_rest : (key : BundleKey) (b : BundleParts) (bs : List BundleParts) (place : ℕ) → High key (b ∷ bs) (suc place) → High key bs place
high_rest key b bs place high k d le lt = high (suc k) d (omega (arith, le)) (omega (arith, lt))

pub taken_at : (key : BundleKey) (bs : List BundleParts) (place : ℕ) → are_keys_rising bs ≡ true → Low key bs place → has_key_at key bs place ≡ true → IsAt key bs place
taken_at key [] place up low is = absurd (true≢false (sym is))
taken_at key (b ∷ bs) zero up low is = at_here key b bs up is
taken_at key (b ∷ bs) (suc place) up low is =
    at_later key b bs place (low 0 b (omega arith) (omega arith)) (taken_at key bs place (rising_tail b bs up) (low_rest key b bs place low) is)

apart_flip : (a b : BundleKey) (same : Bool) → same_key b a ≡ same → same_key a b ≡ false → same ≡ false
apart_flip a b true same apart = absurd (true≢false (sym (same_itself a) ∙ ap (λ (k : BundleKey). same_key a k) (sym (key_same b a same)) ∙ apart))
apart_flip a b false same apart = refl

pub free_at : (key : BundleKey) (bs : List BundleParts) (place : ℕ) → are_keys_rising bs ≡ true → place ≤ length bs → Low key bs place → High key bs place →
    has_key_at key bs place ≡ false → IsFree key bs place
free_at key [] zero up le low high is = free_here key [] up tt
free_at key [] (suc place) up le low high is = absurd (omega (arith, le))
free_at key (b ∷ bs) zero up le low high is =
    free_here key (b ∷ bs) up (before_or b.key key (high 0 b (omega arith) (omega arith)) (apart_flip b.key key (same_key key b.key) refl is))
free_at key (b ∷ bs) (suc place) up le low high is =
    free_later key b bs place (low 0 b (omega arith) (omega arith))
    (free_at key bs place (rising_tail b bs up) (omega (arith, le)) (low_rest key b bs place low) (high_rest key b bs place high) is)

-- A list whose keys rise is split by its keys.

before_all : (b : BundleParts) (bs : List BundleParts) → are_keys_rising (b ∷ bs) ≡ true → (k : ℕ) (d : BundleParts) → k < length bs → is_before b.key (slice_index_or bs k d).key ≡ true
before_all b [] up k d lt = absurd (omega (arith, lt))
before_all b (a ∷ bs) up zero d lt = rising_head b a bs up
before_all b (a ∷ bs) up (suc k) d lt =
    before_trans b.key a.key (slice_index_or bs k d).key (rising_head b a bs up) (before_all a bs (rising_tail b (a ∷ bs) up) k d (omega (arith, lt)))

pub halved : (key : BundleKey) (bs : List BundleParts) → are_keys_rising bs ≡ true → IsPartitionedBy (λ b. is_before b.key key) bs
halved key [] up i j d le lt is = absurd (omega (arith, lt))
halved key (b ∷ bs) up zero zero d le lt is = is
halved key (b ∷ bs) up zero (suc j) d le lt is = before_trans b.key (slice_index_or bs j d).key key (before_all b bs up j d (omega (arith, lt))) is
halved key (b ∷ bs) up (suc i) zero d le lt is = absurd (omega (arith, le))
halved key (b ∷ bs) up (suc i) (suc j) d le lt is = halved key bs (rising_tail b bs up) i j d (omega (arith, le)) (omega (arith, lt)) is

-- The same list by another name.

pub split_of : (key : BundleKey) (xs ys : List BundleParts) (place : ℕ) → xs ≡ ys →
    IsPartitionPoint (λ b. is_before b.key key ≡ true) (λ b. is_before b.key key ≡ false) xs place → IsPartitionPoint (λ b. is_before b.key key ≡ true) (λ b. is_before b.key key ≡ false) ys place
split_of key xs ys place same = subst (λ (bs : List BundleParts). Low key bs place × High key bs place) same

pub halved_as : (key : BundleKey) (bs xs : List BundleParts) → xs ≡ bs → are_keys_rising bs ≡ true → IsPartitionedBy (λ b. is_before b.key key) xs
halved_as key bs xs same up = halved key xs (subst (λ (ys : List BundleParts). are_keys_rising ys ≡ true) (sym same) up)
