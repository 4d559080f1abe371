-- Lists of indexed bundles in the order of their keys.
use Rattle.std.proofs.Common.{◌≡◌, ℕ, zero, suc, Bool, true, false, cond, not, List, [], ◌∷◌, ◌++◌, filter, find, Option, Some, None, refl, sym, ◌∙◌, ap, subst}
use Rattle.std.proofs.lemmas.Bool.{true≢false}
use Rattle.emu_names.specs.declared.names.BundleKey.{BundleKey}
use Rattle.bundle_index.specs.Index.{IndexParts}
use Rattle.edit_rules.specs.Database.{same_key, is_before}
use Rattle.edit_rules.proofs.KeyPlaces.{same_itself, before_or, before_trans, not_back, key_same, apart_before, apart_after}
use Rattle.version_tree.specs.Inner.Version.{has_key, indexed_with, others, placed, put_indexed}
use Rattle.version_tree.specs.Inner.Pages.{Each, AreBefore, AreBehind, AreRising}
use Rattle.version_tree.proofs.Elements.{each_append, each_parts, each_map, each_filter}

-- Keys.

pub not_same : (a b : BundleKey) (same : Bool) → same_key b a ≡ same → same_key a b ≡ false → same ≡ false
not_same a b true same apart = absurd (true≢false (sym (same_itself a) ∙ ap (λ (k : BundleKey). same_key a k) (sym (key_same b a same)) ∙ apart))
not_same a b false same apart = refl

-- what stands before a key that this one does not stand before, stands before this one
pub below : (x y key : BundleKey) → is_before x y ≡ true → is_before key y ≡ false → is_before x key ≡ true
below x y key is later = by (is_before key x) refl (same_key x key) refl
  where
    by : (b : Bool) → is_before key x ≡ b → (same : Bool) → same_key x key ≡ same → is_before x key ≡ true
    by true back same e = absurd (true≢false (sym (before_trans key x y back is) ∙ later))
    by false back true e = absurd (true≢false (sym is ∙ ap (λ (k : BundleKey). is_before k y) (key_same x key e) ∙ later))
    by false back false e = before_or key x back e

-- No bundle has the key.

abbrev pub Apart : BundleKey → List IndexParts → Type 0
Apart key xs = Each (λ x. has_key key x ≡ false) xs

pub apart_front : (key : BundleKey) (xs : List IndexParts) → AreBefore key xs → Apart key xs
apart_front key xs each =
    each_map (λ (x : IndexParts). is_before x.bundle.key key ≡ true) (λ (x : IndexParts). has_key key x ≡ false)
    (λ x is. apart_before x.bundle.key key is) xs each

pub apart_back : (key : BundleKey) (xs : List IndexParts) → AreBehind key xs → Apart key xs
apart_back key xs each =
    each_map (λ (x : IndexParts). is_before key x.bundle.key ≡ true) (λ (x : IndexParts). has_key key x ≡ false)
    (λ x is. apart_after x.bundle.key key is) xs each

pub apart_others : (key : BundleKey) (xs : List IndexParts) → Apart key (others key xs)
apart_others key [] = tt
apart_others key (x ∷ xs) = by (has_key key x) refl (apart_others key xs)
  where
    by : (b : Bool) → has_key key x ≡ b → Apart key (others key xs) → Apart key (cond (not b) (x ∷ others key xs) (others key xs))
    by true is rest = rest
    by false is rest = (is, rest)

-- Keys that rise.

pub behind_of : (key : BundleKey) (x : IndexParts) (xs : List IndexParts) → is_before key x.bundle.key ≡ true → AreBehind x.bundle.key xs → AreBehind key xs
behind_of key x xs is each =
    each_map (λ (y : IndexParts). is_before x.bundle.key y.bundle.key ≡ true) (λ (y : IndexParts). is_before key y.bundle.key ≡ true)
    (λ y later. before_trans key x.bundle.key y.bundle.key is later) xs each

-- the parts of a list whose keys rise
pub record AreParts (xs ys : List IndexParts) : Type 0 where
  pub first : AreRising xs
  pub second : AreRising ys
  pub across : Each (λ x. AreBehind x.bundle.key ys) xs

pub rising_parts : (xs ys : List IndexParts) → AreRising (xs ++ ys) → AreParts xs ys
rising_parts [] ys up = record { first = tt; second = up; across = tt }
rising_parts (x ∷ xs) ys up =
    let head : AreBehind x.bundle.key xs × AreBehind x.bundle.key ys = each_parts (λ (y : IndexParts). is_before x.bundle.key y.bundle.key ≡ true) xs ys up.0 in
    let rest = rising_parts xs ys up.1 in
    record { first = (head.0, rest.first); second = rest.second; across = (head.1, rest.across) }

each_placed : (P : IndexParts → Type 0) (new : IndexParts) (xs : List IndexParts) → P new → Each P xs → Each P (placed new xs)
each_placed P new [] own each = (own, tt)
each_placed P new (x ∷ xs) own each = by (is_before new.bundle.key x.bundle.key) (each_placed P new xs own each.1)
  where
    by : (b : Bool) → Each P (placed new xs) → Each P (cond b (new ∷ x ∷ xs) (x ∷ placed new xs))
    by true rest = (own, each)
    by false rest = (each.0, rest)

-- what holds of the new bundle and of each other one holds of all
pub each_put : (P : IndexParts → Type 0) (new : IndexParts) (xs : List IndexParts) → P new → Each P xs → Each P (put_indexed new xs)
each_put P new xs own each =
    each_placed P new (others new.bundle.key xs) own (each_filter P (λ (x : IndexParts). not (has_key new.bundle.key x)) xs each)

rising_placed : (new : IndexParts) (xs : List IndexParts) → AreRising xs → Apart new.bundle.key xs → AreRising (placed new xs)
rising_placed new [] up apart = (tt, tt)
rising_placed new (x ∷ xs) up apart = by (is_before new.bundle.key x.bundle.key) refl (rising_placed new xs up.1 apart.1)
  where
    by : (b : Bool) → is_before new.bundle.key x.bundle.key ≡ b → AreRising (placed new xs) → AreRising (cond b (new ∷ x ∷ xs) (x ∷ placed new xs))
    by true is rest = ((is, behind_of new.bundle.key x xs is up.0), up)
    by false is rest =
        (each_placed (λ (y : IndexParts). is_before x.bundle.key y.bundle.key ≡ true) new xs (before_or new.bundle.key x.bundle.key is apart.0) up.0, rest)

pub rising_others : (key : BundleKey) (xs : List IndexParts) → AreRising xs → AreRising (others key xs)
rising_others key [] up = tt
rising_others key (x ∷ xs) up = by (has_key key x) (rising_others key xs up.1)
  where
    by : (b : Bool) → AreRising (others key xs) → AreRising (cond (not b) (x ∷ others key xs) (others key xs))
    by true rest = rest
    by false rest =
        (each_filter (λ (y : IndexParts). is_before x.bundle.key y.bundle.key ≡ true) (λ (y : IndexParts). not (has_key key y)) xs up.0, rest)

pub rising_put : (new : IndexParts) (xs : List IndexParts) → AreRising xs → AreRising (put_indexed new xs)
rising_put new xs up =
    rising_placed new (others new.bundle.key xs) (rising_others new.bundle.key xs up) (apart_others new.bundle.key xs)

-- A list in three parts: the first has keys before the one that is asked for, and the last has keys behind it.

others_append : (key : BundleKey) (xs ys : List IndexParts) → others key (xs ++ ys) ≡ others key xs ++ others key ys
others_append key [] ys = refl
others_append key (x ∷ xs) ys = by (has_key key x) (others_append key xs ys)
  where
    by : (b : Bool) → others key (xs ++ ys) ≡ others key xs ++ others key ys →
        cond (not b) (x ∷ others key (xs ++ ys)) (others key (xs ++ ys)) ≡ cond (not b) (x ∷ others key xs) (others key xs) ++ others key ys
    by true rest = rest
    by false rest = ap (λ (zs : List IndexParts). x ∷ zs) rest

pub others_apart : (key : BundleKey) (xs : List IndexParts) → Apart key xs → others key xs ≡ xs
others_apart key [] apart = refl
others_apart key (x ∷ xs) apart =
    ap (λ (b : Bool). cond (not b) (x ∷ others key xs) (others key xs)) apart.0
    ∙ ap (λ (zs : List IndexParts). x ∷ zs) (others_apart key xs apart.1)

placed_passes : (new : IndexParts) (xs ys : List IndexParts) → AreBefore new.bundle.key xs → placed new (xs ++ ys) ≡ xs ++ placed new ys
placed_passes new [] ys before = refl
placed_passes new (x ∷ xs) ys before =
    ap (λ (b : Bool). cond b (new ∷ x ∷ (xs ++ ys)) (x ∷ placed new (xs ++ ys))) (not_back new.bundle.key x.bundle.key before.0)
    ∙ ap (λ (zs : List IndexParts). x ∷ zs) (placed_passes new xs ys before.1)

placed_front : (new : IndexParts) (ys : List IndexParts) → AreBehind new.bundle.key ys → placed new ys ≡ new ∷ ys
placed_front new [] behind = refl
placed_front new (y ∷ ys) behind = ap (λ (b : Bool). cond b (new ∷ y ∷ ys) (y ∷ placed new ys)) behind.0

placed_stops : (new : IndexParts) (xs ys : List IndexParts) → AreBehind new.bundle.key ys → placed new (xs ++ ys) ≡ placed new xs ++ ys
placed_stops new [] ys behind = placed_front new ys behind
placed_stops new (x ∷ xs) ys behind = by (is_before new.bundle.key x.bundle.key) (placed_stops new xs ys behind)
  where
    by : (b : Bool) → placed new (xs ++ ys) ≡ placed new xs ++ ys →
        cond b (new ∷ x ∷ (xs ++ ys)) (x ∷ placed new (xs ++ ys)) ≡ cond b (new ∷ x ∷ xs) (x ∷ placed new xs) ++ ys
    by true rest = refl
    by false rest = ap (λ (zs : List IndexParts). x ∷ zs) rest

pub others_between : (key : BundleKey) (front mid back : List IndexParts) → AreBefore key front → AreBehind key back →
    others key (front ++ (mid ++ back)) ≡ front ++ (others key mid ++ back)
others_between key front mid back before behind =
    others_append key front (mid ++ back)
    ∙ ap (λ (zs : List IndexParts). zs ++ others key (mid ++ back)) (others_apart key front (apart_front key front before))
    ∙ ap (λ (zs : List IndexParts). front ++ zs) (others_append key mid back)
    ∙ ap (λ (zs : List IndexParts). front ++ (others key mid ++ zs)) (others_apart key back (apart_back key back behind))

pub put_between : (new : IndexParts) (front mid back : List IndexParts) → AreBefore new.bundle.key front → AreBehind new.bundle.key back →
    put_indexed new (front ++ (mid ++ back)) ≡ front ++ (put_indexed new mid ++ back)
put_between new front mid back before behind =
    ap (placed new) (others_between new.bundle.key front mid back before behind)
    ∙ placed_passes new front (others new.bundle.key mid ++ back) before
    ∙ ap (λ (zs : List IndexParts). front ++ zs) (placed_stops new (others new.bundle.key mid) back behind)

pub found_apart : (key : BundleKey) (xs : List IndexParts) → Apart key xs → indexed_with key xs ≡ None
found_apart key [] apart = refl
found_apart key (x ∷ xs) apart =
    ap (λ (b : Bool). cond b (Some x) (indexed_with key xs)) apart.0 ∙ found_apart key xs apart.1

found_passes : (key : BundleKey) (xs ys : List IndexParts) → Apart key xs → indexed_with key (xs ++ ys) ≡ indexed_with key ys
found_passes key [] ys apart = refl
found_passes key (x ∷ xs) ys apart =
    ap (λ (b : Bool). cond b (Some x) (indexed_with key (xs ++ ys))) apart.0 ∙ found_passes key xs ys apart.1

found_stops : (key : BundleKey) (xs ys : List IndexParts) → Apart key ys → indexed_with key (xs ++ ys) ≡ indexed_with key xs
found_stops key [] ys apart = found_apart key ys apart
found_stops key (x ∷ xs) ys apart = ap (λ (o : Option IndexParts). cond (has_key key x) (Some x) o) (found_stops key xs ys apart)

pub found_between : (key : BundleKey) (front mid back : List IndexParts) → AreBefore key front → AreBehind key back →
    indexed_with key (front ++ (mid ++ back)) ≡ indexed_with key mid
found_between key front mid back before behind =
    found_passes key front (mid ++ back) (apart_front key front before) ∙ found_stops key mid back (apart_back key back behind)
