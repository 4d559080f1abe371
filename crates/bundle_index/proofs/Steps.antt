-- Columns that grow by one number, while the list of labels grows.
use Rattle.std.proofs.Common.{◌≡◌, ◌<◌, ℕ, List, [], ◌∷◌, ◌++◌, length, map, take, get_or, slice_get, Option, Some, ◌+◌, ◌≤◌, ◌⊎◌, inl, inr, sym, ap, subst, ◌∙◌, arith, unwrap_or}
use Rattle.std.proofs.lemmas.List.{map-append, length-append, get_or_at, get_or_append_left, take_more}
use Rattle.std.proofs.lemmas.Bool.{cases_lt}
use Rattle.level_items.specs.Levels.{label_of}
use Rattle.level_items.specs.declared.items.Item.{Item}
use Rattle.bundle_index.specs.Inner.Numbered.{HasGrown, IsColumnOf}
use Rattle.bundle_index.specs.Inner.Columns.{AreLabelColumns}

-- a column of these labels, and the labels that it was begun with
pub record IsColumnSoFar (first now : List (List ℕ)) (column : List ℕ) (labels : List (List ℕ)) : Type 0 where
  pub grown : HasGrown first now
  pub made : IsColumnOf now column labels

-- the columns of so many attributes, and the labels that they were begun with
pub record AreColumnsSoFar (first now : List (List ℕ)) (items : List Item) (n : ℕ) (columns : List (List ℕ)) : Type 0 where
  pub grown : HasGrown first now
  pub made : AreLabelColumns now items n columns

pub grown_twice : (a b c : List (List ℕ)) → HasGrown a b → HasGrown b c → HasGrown a c
grown_twice a b c one two = record { kept = λ i l at. two.kept i l (one.kept i l at) }

-- a column stays one when the list of labels grows
pub column_stays : (now new : List (List ℕ)) (column : List ℕ) (labels : List (List ℕ)) → HasGrown now new →
    IsColumnOf now column labels → IsColumnOf new column labels
column_stays now new [] labels grown is = is
column_stays now new (n ∷ column) [] grown is = absurd cc
column_stays now new (n ∷ column) (l ∷ labels) grown is =
    let first : slice_get now n ≡ Some l = cc in
    let rest : IsColumnOf now column labels = cc in
    let first-new : slice_get new n ≡ Some l = grown.kept n l first in
    let rest-new : IsColumnOf new column labels = column_stays now new column labels grown rest in
    cc

-- one number more
column_push : (now : List (List ℕ)) (column : List ℕ) (labels : List (List ℕ)) (n : ℕ) (l : List ℕ) →
    IsColumnOf now column labels → slice_get now n ≡ Some l → IsColumnOf now (column ++ n ∷ []) (labels ++ l ∷ [])
column_push now column labels n l is at =
    let one : map (slice_get now) (column ++ n ∷ []) ≡ map (slice_get now) column ++ slice_get now n ∷ [] =
    map-append (slice_get now) column (n ∷ []) in
    let other : map (λ (t : List ℕ). Some t) (labels ++ l ∷ []) ≡ map (λ (t : List ℕ). Some t) labels ++ Some l ∷ [] =
    map-append (λ (t : List ℕ). Some t) labels (l ∷ []) in
    one ∙ ap (λ (ends : List (Option (List ℕ))). ends ++ slice_get now n ∷ []) is
    ∙ ap (λ (o : Option (List ℕ)). map (λ (t : List ℕ). Some t) labels ++ o ∷ []) at ∙ sym other

-- the column with the number of the next item's label
pub column_more : (first now new : List (List ℕ)) (column : List ℕ) (items : List Item) (i attribute n : ℕ)
    (item : Item) (text : List ℕ) → IsColumnSoFar first now column (map (label_of attribute) (take i items)) →
    HasGrown now new → i < length items → item ≡ get_or items i item → slice_get item.labels attribute ≡ Some text →
    slice_get new n ≡ Some text →
    IsColumnSoFar first new (column ++ n ∷ []) (map (label_of attribute) (take (i + 1) items))
column_more first now new column items i attribute n item text so grown within is label at =
    let said : label_of attribute item ≡ text = ap (λ (o : Option (List ℕ)). unwrap_or o []) label in
    let one : take (i + 1) items ≡ take i items ++ item ∷ [] =
    take_more items i item within ∙ ap (λ (x : Item). take i items ++ x ∷ []) (sym is) in
    let shown : map (label_of attribute) (take (i + 1) items) ≡ map (label_of attribute) (take i items) ++ text ∷ [] =
    ap (map (label_of attribute)) one ∙ map-append (label_of attribute) (take i items) (item ∷ [])
    ∙ ap (λ (t : List ℕ). map (label_of attribute) (take i items) ++ t ∷ []) said in
    record {
      grown = grown_twice first now new so.grown grown;
      made = subst (IsColumnOf new (column ++ n ∷ [])) (sym shown)
          (column_push new column (map (label_of attribute) (take i items)) n text
          (column_stays now new column (map (label_of attribute) (take i items)) grown so.made) at);
    }

-- the columns with the column of the next attribute
pub columns_more : (first now new : List (List ℕ)) (items : List Item) (n : ℕ) (columns : List (List ℕ)) (column : List ℕ) →
    AreColumnsSoFar first now items n columns → HasGrown now new →
    IsColumnOf new column (map (label_of n) items) → AreColumnsSoFar first new items (n + 1) (columns ++ column ∷ [])
columns_more first now new items n columns column so grown is = record {
  grown = grown_twice first now new so.grown grown;
  made = record {
    count = omega (arith, length-append columns (column ∷ []), so.made.count);
    each = λ attribute below. by attribute below (cases_lt attribute n);
  };
}
  where
    here : get_or (columns ++ column ∷ []) n [] ≡ column
    here = get_or_at columns column [] [] n so.made.count

    by : (attribute : ℕ) → attribute < n + 1 → (attribute < n) ⊎ (n ≤ attribute) →
        IsColumnOf new (get_or (columns ++ column ∷ []) attribute []) (map (label_of attribute) items)
    by attribute below (inl under) =
        subst (λ (c : List ℕ). IsColumnOf new c (map (label_of attribute) items))
        (sym (get_or_append_left columns (column ∷ []) [] attribute (omega (arith, so.made.count))))
        (column_stays now new (get_or columns attribute []) (map (label_of attribute) items) grown (so.made.each attribute under))
    by attribute below (inr over) =
        let same : n ≡ attribute = omega arith in
        subst (λ (a : ℕ). IsColumnOf new (get_or (columns ++ column ∷ []) a []) (map (label_of a) items)) same
        (subst (λ (c : List ℕ). IsColumnOf new c (map (label_of n) items)) (sym here) is)
