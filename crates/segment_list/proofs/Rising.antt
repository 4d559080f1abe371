-- Parts in the order of their keys: a sort makes them rise, and only one arrangement of them rises.
use Rattle.std.proofs.Common.{◌≡◌, ◌<◌, ◌+◌, ℕ, zero, suc, List, [], ◌∷◌, Bool, true, false, ◌⊎◌, inl, inr, length, get_or, refl, ap, sym, ◌∙◌, subst, arith}
use Rattle.std.specs.List.{AllByRecursion}
use Rattle.std.specs.List.Sorted.{IsPermutation, IsSortedByKey, IsSortedBy, IsStrictlySortedBy}
use Rattle.std.specs.Cmp.{IsStrictWeakOrder}
use Rattle.std.specs.Fn.{Called, ComparesAs}
use Rattle.std.specs.declared.cmp.Ordering.{Ordering}
use Rattle.std.specs.declared.cmp.Ordering.TheVariants.{Less, Equal, Greater}
use Rattle.std.specs.Ordering.{eq_by_cmp, is_eq, is_lt, ordering_reverse}
use Rattle.std.proofs.Math.ListN.{get_or-map}
use Rattle.std.proofs.lemmas.Fn.{always_returns_same}
use Rattle.std.proofs.lemmas.List.{length-map}
use Rattle.std.proofs.lemmas.List.Elements.{recursion_from_All}
use Rattle.std.proofs.lemmas.List.MinMax.{ranks_by}
use Rattle.std.proofs.lemmas.List.Sorted.{All-permutation, IsPermutation-map, IsPermutation-sym}
use Rattle.std.proofs.lemmas.Map.Keys.{IsDistinct-IsPermutation, apart_from_distinct, sorted_from_all_adjacent, sorted_head, sorted_tail}
use denote.Param.Members.{Mut}
use denote.Ref.{Bor}
use Rattle.emu_names.specs.declared.names.BundleKey.{BundleKey}
use Rattle.emu_names.specs.Order.{key_cmp}
use Rattle.emu_names.proofs.KeyOrder.{keys_total}
use Rattle.segment_list.specs.declared.parts.Part.{Part}
use Rattle.segment_list.specs.Merged.{RiseByKey, keys_of, rows_in_turn}
use Rattle.segment_list.specs.Inner.Merged.{AreApart}
use Rattle.segment_list.specs.Laws.{MergesAreOne}

abbrev key_of : Part → BundleKey
key_of p = p.key

-- ---- keys

turned : (o p : Ordering) → o ≡ ordering_reverse p → is_lt p ≡ false → is_eq o ≡ false → o ≡ Less
turned o Less e up apart = absurd cc
turned o Equal e up apart = let same : is_eq o ≡ true = ap is_eq e in absurd cc
turned o Greater e up apart = e

alike : (o p : Ordering) → o ≡ ordering_reverse p → is_eq o ≡ is_eq p
alike o Less e = ap is_eq e
alike o Equal e = ap is_eq e
alike o Greater e = ap is_eq e

not_both : (o p : Ordering) → o ≡ ordering_reverse p → o ≡ Less → p ≡ Less → ⊥
not_both o p e less less' = let greater : ordering_reverse p ≡ Greater = ap ordering_reverse less' in absurd cc

in_turn : (a b : BundleKey) → key_cmp a b ≡ Less → key_cmp b a ≡ Less → ⊥
in_turn a b = not_both (key_cmp a b) (key_cmp b a) (keys_total.antisymm a b)

-- ---- a sort

-- what the clause of a sort by a closure says, where the closure compares keys
pub by_keys : {F : Type 0} {g : Mut F (Bor Part × (Bor Part × Unit {0})) Ordering} {f : F} (parts : List Part)
    → ((lt : Part → Part → Bool) → IsStrictWeakOrder lt → ComparesAs g lt f → IsSortedBy lt parts)
    → ((a : Bor Part × (Bor Part × Unit {0})) (r : Ordering) (f' : F) → Called g f a r f' →
    (r ≡ key_cmp a.0.now.key a.1.0.now.key) × (f' ≡ f))
    → IsSortedByKey key_of key_cmp parts
by_keys {g = g} {f = f} parts up calls =
    up (λ x y. is_lt (key_cmp x.key y.key)) (ranks_by keys_total key_of)
    (always_returns_same g (λ a r. is_lt r ≡ is_lt (key_cmp a.0.now.key a.1.0.now.key)) f
    (λ a r f' called. (ap is_lt (calls a r f' called).0, (calls a r f' called).1)))

step : (a b : BundleKey) → is_lt (key_cmp b a) ≡ false → eq_by_cmp key_cmp a b ≡ false → key_cmp a b ≡ Less
step a b = turned (key_cmp a b) (key_cmp b a) (keys_total.antisymm a b)

-- parts that do not fall and have keys of their own rise
pub rising : (parts : List Part) → IsSortedByKey key_of key_cmp parts → AreApart parts → RiseByKey parts
unfolding IsStrictlySortedBy
rising [] up apart = tt
rising (p ∷ ps) up apart =
    sorted_from_all_adjacent keys_total (keys_of (p ∷ ps)) p.key (λ k lt.
    let short : k + 1 < length (p ∷ ps) = subst (λ (n : ℕ). k + 1 < n) (length-map (p ∷ ps) key_of) lt in
    let here = get_or-map key_of (p ∷ ps) k p in
    let next = get_or-map key_of (p ∷ ps) (k + 1) p in
    step (get_or (keys_of (p ∷ ps)) k p.key) (get_or (keys_of (p ∷ ps)) (k + 1) p.key)
    (rw (here, next) (up k p (omega arith) short))
    (apart_from_distinct (eq_by_cmp key_cmp) (keys_of (p ∷ ps)) k (k + 1) p.key apart (omega arith) lt))

-- parts that change places keep keys of their own
pub still_apart : (parts ordered : List Part) → IsPermutation parts ordered → AreApart parts → AreApart ordered
still_apart parts ordered same apart =
    IsDistinct-IsPermutation (eq_by_cmp key_cmp) (λ a b. alike (key_cmp a b) (key_cmp b a) (keys_total.antisymm a b))
    (keys_of parts) (keys_of ordered) (IsPermutation-map key_of parts ordered same) apart

-- ---- one arrangement

-- a part is among these
abbrev In : Part → List Part → Type 0
In p [] = ⊥
In p (q ∷ qs) = (p ≡ q) ⊎ In p qs

there : (parts : List Part) (k : ℕ) (d : Part) → k < length parts → In (get_or parts k d) parts
there [] k d lt = absurd (omega arith)
there (p ∷ ps) zero d lt = inl refl
there (p ∷ ps) (suc k) d lt = inr (there ps k d (omega arith))

pick : (P : Part → Type 0) (parts : List Part) → AllByRecursion P parts → (p : Part) → In p parts → P p
pick P [] all p among = absurd among
pick P (q ∷ qs) all p (inl e) = subst P (sym e) all.0
pick P (q ∷ qs) all p (inr among) = pick P qs all.1 p among

moved : (parts ordered : List Part) → IsPermutation parts ordered → (p : Part) → In p parts → In p ordered
moved parts ordered same =
    let P : Part → Type 0 = λ p. In p ordered in
    pick P parts (recursion_from_All P parts (All-permutation P ordered parts
    (IsPermutation-sym parts ordered same) (there ordered)))

below : (k : BundleKey) (parts : List Part) → AllByRecursion (λ q. key_cmp k q ≡ Less) (keys_of parts) →
    (p : Part) → In p parts → key_cmp k p.key ≡ Less
below k [] all p among = absurd among
below k (q ∷ qs) all p (inl e) = ap (λ (x : Part). key_cmp k x.key) e ∙ all.0
below k (q ∷ qs) all p (inr among) = below k qs all.1 p among

-- each part behind the first of rising ones has a higher key
above_first : (p : Part) (ps : List Part) → RiseByKey (p ∷ ps) → (q : Part) → In q ps → key_cmp p.key q.key ≡ Less
above_first p ps rises = below p.key ps (sorted_head key_cmp p.key (keys_of ps) rises)

first_same : (p q : Part) (ps qs : List Part) → RiseByKey (p ∷ ps) → RiseByKey (q ∷ qs) → In p (q ∷ qs) → In q
    (p ∷ ps) → p ≡ q
first_same p q ps qs rises rises' (inl e) among = e
first_same p q ps qs rises rises' (inr there') (inl e) = sym e
first_same p q ps qs rises rises' (inr there') (inr there'') =
    absurd (in_turn p.key q.key (above_first p ps rises q there'') (above_first q qs rises' p there'))

others : (p q : Part) (ps qs : List Part) → p ≡ q → RiseByKey (p ∷ ps) → (r : Part) → In r ps → In r (q ∷ qs) →
    In r qs
others p q ps qs e rises r among (inr behind) = behind
others p q ps qs e rises r among (inl first) =
    let less = above_first p ps rises r among in
    let again : key_cmp r.key p.key ≡ Less = ap (λ (x : Part). key_cmp x.key p.key) (first ∙ sym e) ∙ ap (λ
    (x : Part). key_cmp p.key x.key) (e ∙ sym first) ∙ less in
    absurd (in_turn p.key r.key less again)

one_rising : (xs ys : List Part) → RiseByKey xs → RiseByKey ys → ((p : Part) → In p xs → In p ys) → ((p : Part) →
    In p ys → In p xs) → xs ≡ ys
one_rising [] [] rises rises' to back = refl
one_rising [] (y ∷ ys) rises rises' to back = absurd (back y (inl refl))
one_rising (x ∷ xs) [] rises rises' to back = absurd (to x (inl refl))
one_rising (x ∷ xs) (y ∷ ys) rises rises' to back =
    let first = first_same x y xs ys rises rises' (to x (inl refl)) (back y (inl refl)) in
    let rest = one_rising xs ys (sorted_tail key_cmp x.key (keys_of xs) rises) (sorted_tail key_cmp y.key
    (keys_of ys) rises')
    (λ p among. others x y xs ys first rises p among (to p (inr among)))
    (λ p among. others y x ys xs (sym first) rises' p among (back p (inr among))) in
    ap (λ (p : Part). p ∷ xs) first ∙ ap (λ (ps : List Part). y ∷ ps) rest

-- what parts merge to is their rows in any arrangement by rising keys
pub merged_once : MergesAreOne
merged_once parts ordered list merge same rises =
    merge.rows ∙ ap rows_in_turn (one_rising merge.ordered ordered merge.rises rises
    (λ p among. moved parts ordered same p (moved merge.ordered parts
    (IsPermutation-sym parts merge.ordered merge.same) p among))
    (λ p among. moved parts merge.ordered merge.same p (moved ordered parts
    (IsPermutation-sym parts ordered same) p among)))
