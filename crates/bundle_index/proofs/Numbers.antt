-- Labels that are numbered by the places of the keys of a set.
use Rattle.std.proofs.Common.{◌≡◌, ◌<◌, ◌+◌, ◌^◌, ℕ, Bool, true, false, not, cond, nat_lt, List, [], ◌∷◌, ◌++◌, if◌then◌else◌, length, map, get_or, slice_get, Option, Some, None, refl, sym, ap, subst, ◌∙◌, true≢false, arith}
use Rattle.std.proofs.lemmas.List.{length-append, length-map, map-append, get_or-map, get_or_append_left}
use Rattle.std.proofs.lemmas.Map.Keys.{apart_from_distinct}
use Rattle.std.proofs.lemmas.List.Quantifiers.{position-Some}
use Rattle.std.proofs.lemmas.Slice.Eq.{bytes_eq-Decides}
use Rattle.std.proofs.lemmas.Option.{slice_get_within, slice_get-map, get_or_from_slice_get, slice_get-get_or}
use Rattle.std.specs.List.{AllZip, IsDistinct, list_any, position, position_or_len}
use Rattle.std.specs.Option.{option_map}
use Rattle.std.specs.Str.{bytes_eq}
use Rattle.indexmap.specs.IndexSet.{insert_key}
use Rattle.bundle_index.specs.Inner.Numbered.{HasGrown}

module _ {K : Type 0} (v : K → List ℕ) where
  seen_at : (ks : List K) (i : ℕ) (l : List ℕ) (d : K) → slice_get (map v ks) i ≡ Some l → v (get_or ks i d) ≡ l
  seen_at ks i l d at =
      let within : i < length (map v ks) = slice_get_within (map v ks) i l at in
      sym (get_or-map v ks i d (v d) (omega (arith, length-map ks v))) ∙ get_or_from_slice_get (map v ks) i l (v d) at

  module _ (eq : K → K → Bool) (same : (x y : K) → v x ≡ v y → eq x y ≡ true) where
    no_pair : (ks : List K) (i j : ℕ) (l : List ℕ) → IsDistinct eq ks → i < j →
        slice_get (map v ks) i ≡ Some l → slice_get (map v ks) j ≡ Some l → ⊥
    no_pair [] i j l distinct below first second = absurd (omega (arith, slice_get_within [] i l first))
    no_pair (k ∷ ks) i j l distinct below first second =
        let within : j < length (map v (k ∷ ks)) = slice_get_within (map v (k ∷ ks)) j l second in
        let both : v (get_or (k ∷ ks) i k) ≡ v (get_or (k ∷ ks) j k) =
        seen_at (k ∷ ks) i l k first ∙ sym (seen_at (k ∷ ks) j l k second) in
        true≢false (sym (same _ _ both)
        ∙ apart_from_distinct eq (k ∷ ks) i j k distinct below (omega (arith, length-map (k ∷ ks) v)))

    -- distinct keys have distinct labels
    pub apart_seen : (ks : List K) (i j : ℕ) (l : List ℕ) → IsDistinct eq ks →
        slice_get (map v ks) i ≡ Some l → slice_get (map v ks) j ≡ Some l → i ≡ j
    apart_seen ks i j l distinct first second =
        let one : i < j → ⊥ = λ (below : i < j). no_pair ks i j l distinct below first second in
        let other : j < i → ⊥ = λ (below : j < i). no_pair ks j i l distinct below second first in
        omega (arith, one, other)

-- a list that is put behind keeps all places
pub grown_by : (old more : List (List ℕ)) → HasGrown old (old ++ more)
grown_by old more = record {
  kept = λ i l at.
      let within : i < length old = slice_get_within old i l at in
      slice_get-get_or (old ++ more) i l (omega (arith, length-append old more))
      ∙ ap Some (get_or_append_left old more l i within ∙ get_or_from_slice_get old i l l at);
}

module _ {K : Type 0} (v : K → List ℕ) where
  first_seen : (p : List ℕ → Bool) (ks : List K) → position_or_len p (map v ks) ≡ position_or_len (λ k. p (v k)) ks
  first_seen p [] = refl
  first_seen p (k ∷ ks) = ap (λ n. cond (not (p (v k))) (1 + n) 0) (first_seen p ks)

  -- the place of a label is that of its key
  pub place_seen : (ks : List K) (seen : List (List ℕ)) (l : List ℕ) (r : Option ℕ) →
      map v ks ≡ seen → r ≡ position (λ k. bytes_eq l (v k)) ks → r ≡ position (bytes_eq l) seen
  place_seen ks seen l r shown at =
      at ∙ sym (ap (λ (n : ℕ). cond (nat_lt n (length ks)) (Some n) None) (first_seen (bytes_eq l) ks))
      ∙ sym (ap (λ (n : ℕ). cond (nat_lt (position_or_len (bytes_eq l) (map v ks)) n)
      (Some (position_or_len (bytes_eq l) (map v ks))) None) (length-map ks v))
      ∙ ap (position (bytes_eq l)) shown

  pub place_kept : (ks : List K) (seen : List (List ℕ)) (i : ℕ) → map v ks ≡ seen → i < length seen → i < length ks
  place_kept ks seen i shown within = omega (arith, length-map ks v, ap length shown, within)

  -- the label at the place of its key
  pub label_kept : (ks : List K) (seen : List (List ℕ)) (i : ℕ) (k : K) → map v ks ≡ seen → slice_get ks i ≡ Some k →
      slice_get seen i ≡ Some (v k)
  label_kept ks seen i k shown at =
      sym (ap (λ (ls : List (List ℕ)). slice_get ls i) shown) ∙ slice_get-map v ks i ∙ ap (option_map v) at

  -- where a key is put, its label is
  pub label_put : (ks : List K) (i : ℕ) (k text : K) (l : List ℕ) → slice_get ks i ≡ Some k →
      bytes_eq (v text) (v k) ≡ true → v text ≡ l → slice_get (map v ks) i ≡ Some l
  label_put ks i k text l at same is =
      slice_get-map v ks i ∙ ap (option_map v) at ∙ ap Some (sym ((bytes_eq-Decides (v text) (v k)).0 same) ∙ is)

  -- a key that is put keeps all places
  pub grown_put : (eq : K → K → Bool) (ks new : List K) (k : K) (seen : List (List ℕ)) → map v ks ≡ seen →
      new ≡ insert_key eq ks k → HasGrown seen (map v new)
  grown_put eq ks new k seen shown is =
      subst (λ (all : List K). HasGrown seen (map v all)) (sym is)
      (subst (λ (s : List (List ℕ)). HasGrown s (map v (insert_key eq ks k))) shown (by (list_any (eq k) ks)))
    where
      by : (b : Bool) → HasGrown (map v ks) (map v (if b then ks else ks ++ k ∷ []))
      by true = record { kept = λ i l at. at }
      by false = subst (HasGrown (map v ks)) (sym (map-append v ks (k ∷ []))) (grown_by (map v ks) (v k ∷ []))

  pub few_more : (old new : List K) (b : Bool) → length new ≡ length old + (if b then 1 else 0) →
      length old < 4294967295 → length (map v new) < 2 ^ 32
  few_more old new true more few = omega (arith, length-map new v)
  few_more old new false more few = omega (arith, length-map new v)

-- the label at the place at which it is found
pub label_found : (seen : List (List ℕ)) (l : List ℕ) (i : ℕ) → Some i ≡ position (bytes_eq l) seen →
    slice_get seen i ≡ Some l
label_found seen l i at =
    let there = position-Some (bytes_eq l) seen i [] (sym at) in
    slice_get-get_or seen i [] there.0 ∙ ap Some (sym ((bytes_eq-Decides l (get_or seen i [])).0 there.1))

-- clones have the same labels
pub clones_seen : {K : Type 0} (v : K → List ℕ) (old new : List K) → AllZip (λ x y. v y ≡ v x) old new →
    map v new ≡ map v old
clones_seen v [] [] zip = refl
clones_seen v [] (y ∷ ys) zip = absurd zip
clones_seen v (x ∷ xs) [] zip = absurd zip
clones_seen v (x ∷ xs) (y ∷ ys) zip =
    let rest : map v ys ≡ map v xs = clones_seen v xs ys zip.1 in
    let first : v y ≡ v x = zip.0 in
    cc
