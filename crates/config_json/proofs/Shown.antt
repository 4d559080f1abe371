-- What the values of the parts of a configuration are.
use Rattle.std.proofs.Common.{◌≡◌, ◌≤◌, ◌<◌, ℕ, zero, suc, ◌+◌, List, [], ◌∷◌, ◌++◌, map, take, length, get_or, codes, refl, ap, sym, ◌∙◌, add-one}
use Rattle.std.specs.Prelude.{Option, Some, None}
use Rattle.std.specs.List.{slice_get}
use Rattle.std.proofs.lemmas.List.{map-append, take_all}
use Rattle.std.proofs.lemmas.Option.{slice_get_read}
use Rattle.serde_json.specs.Data.{Data, array, string, Members, no_members, member, put}
use Rattle.serde_json.specs.declared.value.Value.{Value}
use Rattle.serde_json.specs.View.{view, items_of}
use Rattle.db_config.specs.declared.attributes.AttributeDef.{AttributeDef}
use Rattle.db_config.specs.declared.groups.GroupDef.{GroupDef}
use Rattle.db_config.specs.declared.parts.LevelDef.{LevelDef}
use Rattle.db_config.specs.declared.parts.LinkDef.{LinkDef}
use Rattle.config_json.specs.Texts.{list_data, texts_data, group_data, groups_data, legal_before, attribute_data, level_data, link_data, track_data}
use Rattle.config_json.specs.Inner.Texts.{with_legal}

-- ---- lists of values

-- one element more of those that stand before a place
take_one : {A : Type 0} (xs : List A) (place : ℕ) (x : A) → slice_get xs place ≡ Some x → take (suc place) xs ≡ take place xs ++ x ∷ []
take_one [] place x here = cc
take_one (y ∷ ys) zero x here = cc
take_one (y ∷ ys) (suc place) x here = ap (λ zs. y ∷ zs) (take_one ys place x here)

module _ {A : Type 0} (f : A → Data) where
  more_of : (xs : List A) (place : ℕ) (x : A) (old new : List Value) (v : Value) → map view old ≡ map f (take place xs) →
      place < length xs → x ≡ get_or xs place x → view v ≡ f x → new ≡ old ++ v ∷ [] → map view new ≡ map f (take (place + 1) xs)
  more_of xs place x old new v before within here is put =
      let at = slice_get_read xs (length xs) place x refl within here in
      ap (map view) put ∙ map-append view old (v ∷ []) ∙ ap (λ ys. ys ++ view v ∷ []) before ∙ ap (λ y. map f (take place xs) ++ y ∷ []) is
      ∙ sym (map-append f (take place xs) (x ∷ [])) ∙ ap (map f) (sym (take_one xs place x at)) ∙ ap (λ n. map f (take n xs)) (sym (add-one place))

  shown_of : (d : Data) (values : List Value) (xs : List A) (n : ℕ) → d ≡ array (items_of (map view values)) → map view values ≡ map f (take n xs) → length xs ≤ n →
      d ≡ list_data (map f xs)
  shown_of d values xs n is before past = is ∙ ap (λ ds. array (items_of ds)) (before ∙ ap (map f) (take_all n xs past))

pub texts_more : (texts : List (List ℕ)) (place : ℕ) (x : List ℕ) (old new : List Value) (v : Value) → map view old ≡ map string (take place texts) →
    place < length texts → x ≡ get_or texts place x → view v ≡ string x → new ≡ old ++ v ∷ [] → map view new ≡ map string (take (place + 1) texts)
texts_more = more_of string

pub texts_shown : (d : Data) (values : List Value) (texts : List (List ℕ)) (n : ℕ) → d ≡ array (items_of (map view values)) → map view values ≡ map string (take n texts) → length texts ≤ n →
    d ≡ texts_data texts
texts_shown = shown_of string

pub groups_more : (groups : List GroupDef) (place : ℕ) (x : GroupDef) (old new : List Value) (v : Value) → map view old ≡ map group_data (take place groups) →
    place < length groups → x ≡ get_or groups place x → view v ≡ group_data x → new ≡ old ++ v ∷ [] → map view new ≡ map group_data (take (place + 1) groups)
groups_more = more_of group_data

pub groups_shown : (d : Data) (values : List Value) (groups : List GroupDef) (n : ℕ) → d ≡ array (items_of (map view values)) → map view values ≡ map group_data (take n groups) → length groups ≤ n →
    d ≡ groups_data groups
groups_shown = shown_of group_data

pub attributes_more : (attributes : List AttributeDef) (place : ℕ) (x : AttributeDef) (old new : List Value) (v : Value) → map view old ≡ map attribute_data (take place attributes) →
    place < length attributes → x ≡ get_or attributes place x → view v ≡ attribute_data x → new ≡ old ++ v ∷ [] → map view new ≡ map attribute_data (take (place + 1) attributes)
attributes_more = more_of attribute_data

pub attributes_shown : (d : Data) (values : List Value) (attributes : List AttributeDef) (n : ℕ) → d ≡ array (items_of (map view values)) → map view values ≡ map attribute_data (take n attributes) → length attributes ≤ n →
    d ≡ list_data (map attribute_data attributes)
attributes_shown = shown_of attribute_data

pub levels_more : (levels : List LevelDef) (place : ℕ) (x : LevelDef) (old new : List Value) (v : Value) → map view old ≡ map level_data (take place levels) →
    place < length levels → x ≡ get_or levels place x → view v ≡ level_data x → new ≡ old ++ v ∷ [] → map view new ≡ map level_data (take (place + 1) levels)
levels_more = more_of level_data

pub levels_shown : (d : Data) (values : List Value) (levels : List LevelDef) (n : ℕ) → d ≡ array (items_of (map view values)) → map view values ≡ map level_data (take n levels) → length levels ≤ n →
    d ≡ list_data (map level_data levels)
levels_shown = shown_of level_data

pub tracks_more : (tracks : List (List ℕ)) (place : ℕ) (x : List ℕ) (old new : List Value) (v : Value) → map view old ≡ map track_data (take place tracks) →
    place < length tracks → x ≡ get_or tracks place x → view v ≡ track_data x → new ≡ old ++ v ∷ [] → map view new ≡ map track_data (take (place + 1) tracks)
tracks_more = more_of track_data

pub tracks_shown : (d : Data) (values : List Value) (tracks : List (List ℕ)) (n : ℕ) → d ≡ array (items_of (map view values)) → map view values ≡ map track_data (take n tracks) → length tracks ≤ n →
    d ≡ list_data (map track_data tracks)
tracks_shown = shown_of track_data

pub links_more : (levels : List LevelDef) (links : List LinkDef) (place : ℕ) (x : LinkDef) (old new : List Value) (v : Value) → map view old ≡ map (link_data levels) (take place links) →
    place < length links → x ≡ get_or links place x → view v ≡ link_data levels x → new ≡ old ++ v ∷ [] → map view new ≡ map (link_data levels) (take (place + 1) links)
links_more levels = more_of (link_data levels)

pub links_shown : (levels : List LevelDef) (d : Data) (values : List Value) (links : List LinkDef) (n : ℕ) → d ≡ array (items_of (map view values)) →
    map view values ≡ map (link_data levels) (take n links) → length links ≤ n → d ≡ list_data (map (link_data levels) links)
links_shown levels = shown_of (link_data levels)

-- ---- legal labels among the members

pub legal_put : (legal : Option (List (List ℕ))) (groups : Data) →
    with_legal legal (member (codes "labelGroups") groups no_members) ≡ member (codes "labelGroups") groups (legal_before legal no_members)
legal_put None groups = refl
legal_put (Some labels) groups = refl

pub labels_put : (legal : Option (List (List ℕ))) (labels slice : List (List ℕ)) (value : Data) (old new : Members) → legal ≡ Some labels → slice ≡ labels → value ≡ texts_data slice →
    new ≡ put (codes "legalLabels") value old → new ≡ with_legal legal old
labels_put legal labels slice value old new is same shown done = rw (is, done, shown, same) refl
