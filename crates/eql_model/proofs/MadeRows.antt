-- Rows of flags that are made by tests.
use Rattle.std.proofs.Common.{◌≡◌, ℕ, ◌+◌, ◌<◌, Bool, false, ◌||◌, ◌&&◌, List, [], ◌∷◌, ◌++◌, length, map, take, get_or, refl, sym, ap, ◌∙◌}
use Rattle.std.specs.List.{list_all, list_any}
use Rattle.std.proofs.lemmas.List.{get_or-map, map_more}
use Rattle.std.proofs.lemmas.Option.{unwrap_or-slice_get}
use Rattle.level_items.specs.declared.items.Item.{Item}
use Rattle.level_items.specs.declared.times.Time.TheVariants.{NoTime}
use Rattle.label_match.specs.Pattern.{matches_label}
use Rattle.eql_rows.specs.Inner.Flags.{flag_at}
use Rattle.eql_model.specs.Labels.{is_as, is_matched}
use Rattle.level_items.specs.Levels.{label_of}
use Rattle.eql_model.specs.Inner.Labels.{matched_row}

-- an item to take where there is none
abbrev pub no_item : Item
no_item = record { id = record { 0 = 0 }; time = NoTime; labels = [] }

pub flag_of_map : {X : Type 0} (p : X → Bool) (xs : List X) (at : ℕ) (d : X) → at < length xs →
    flag_at at (map p xs) ≡ p (get_or xs at d)
flag_of_map p xs at d h = unwrap_or-slice_get (map p xs) at false ∙ get_or-map p xs at d false h

-- some row has the flag, where each row is made by a test of its own
pub any_of_maps : {X Y : Type 0} (p : Y → X → Bool) (xs : List X) (at : ℕ) (d : X) (ys : List Y) → at < length xs →
    list_any (flag_at at) (map (λ y. map (p y) xs) ys) ≡ list_any (λ y. p y (get_or xs at d)) ys
any_of_maps p xs at d [] h = refl
any_of_maps p xs at d (y ∷ ys) h =
    λ i. flag_of_map (p y) xs at d h i || any_of_maps p xs at d ys h i

-- all rows have the flag
pub all_of_maps : {X Y : Type 0} (p : Y → X → Bool) (xs : List X) (at : ℕ) (d : X) (ys : List Y) → at < length xs →
    list_all (flag_at at) (map (λ y. map (p y) xs) ys) ≡ list_all (λ y. p y (get_or xs at d)) ys
all_of_maps p xs at d [] h = refl
all_of_maps p xs at d (y ∷ ys) h =
    λ i. flag_of_map (p y) xs at d h i && all_of_maps p xs at d ys h i

-- one flag more, where some row has it or none has
pub match_step : (found : Bool) (attribute : ℕ) (patterns : List (List ℕ)) (items : List Item) (rows : List (List Bool))
    (flags more : List Bool) (at : ℕ) (flag : Bool) → at < length items →
    flags ≡ map (λ item. is_as found (is_matched patterns (label_of attribute item))) (take at items) →
    rows ≡ map (matched_row attribute items) patterns → flag ≡ is_as found (list_any (flag_at at) rows) →
    more ≡ flags ++ flag ∷ [] →
    more ≡ map (λ item. is_as found (is_matched patterns (label_of attribute item))) (take (at + 1) items)
match_step found attribute patterns items rows flags more at flag h so_far made is put =
    put
    ∙ (λ i. so_far i ++ flag_is i ∷ [])
    ∙ sym (map_more (λ item. is_as found (is_matched patterns (label_of attribute item))) items at no_item h)
  where
    flag_is : flag ≡ is_as found (is_matched patterns (label_of attribute (get_or items at no_item)))
    flag_is =
        is ∙ ap (λ rs. is_as found (list_any (flag_at at) rs)) made
        ∙ ap (is_as found) (any_of_maps (λ pattern item. matches_label pattern (label_of attribute item)) items at no_item patterns h)

-- one element more of a list that is made of another
pub made_step : {X Y : Type 0} (f : X → Y) (xs : List X) (i : ℕ) (x : X) (made more : List Y) (y : Y) → i < length xs →
    x ≡ get_or xs i x → made ≡ map f (take i xs) → y ≡ f x → more ≡ made ++ y ∷ [] → more ≡ map f (take (i + 1) xs)
made_step f xs i x made more y h here so_far is put =
    put ∙ (λ k. so_far k ++ (is ∙ ap f here) k ∷ []) ∙ sym (map_more f xs i x h)
