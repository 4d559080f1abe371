-- The elements of a list, as `serde_json` keeps them.
use Rattle.std.proofs.Common.{◌≡◌, ℕ, ◌<◌, List, [], ◌∷◌, length, get_or, map, refl, ap, ◌∙◌, sym}
use Rattle.std.specs.Prelude.{Some, None}
use Rattle.std.proofs.lemmas.List.{length-map}
use Rattle.std.proofs.lemmas.Option.{slice_get-map, slice_get_read}
use Rattle.serde_json.specs.Data.{Data, null, boolean, number, string, array, object}
use Rattle.serde_json.specs.Find.{as_array}
use Rattle.serde_json.specs.View.{view, items_of, items_view}
use Rattle.serde_json.specs.declared.value.Value.{Value}
use Rattle.json_view.specs.Inner.Lists.{element_of}
use Rattle.json_view.specs.Parts.{elements, list_in}
use Rattle.json_view.specs.Paths.{element_path}
use Rattle.json_view.specs.Seen.{Seen, seen}

-- the elements that a list is seen as are its elements
pub elements_items_of : (ds : List Data) → elements (items_of ds) ≡ ds
elements_items_of [] = refl
elements_items_of (d ∷ ds) = ap (λ xs. d ∷ xs) (elements_items_of ds)

-- what a list shows is the list of its values
pub listed_array : (d : Data) (vs : List Value) → Some (items_view vs) ≡ as_array d → map view vs ≡ list_in d
listed_array null vs h = cc
listed_array (boolean b) vs h = cc
listed_array (number n) vs h = cc
listed_array (string s) vs h = cc
listed_array (array ds) vs h =
    let e : items_view vs ≡ ds = cc in
    sym (elements_items_of (map view vs)) ∙ ap elements e
listed_array (object ms) vs h = cc

-- no other value has elements
pub listed_other : (d : Data) → None ≡ as_array d → [] ≡ list_in d
listed_other null h = refl
listed_other (boolean b) h = refl
listed_other (number n) h = refl
listed_other (string s) h = refl
listed_other (array ds) h = cc
listed_other (object ms) h = refl

-- the element of a list that is known by its values
pub element_listed : (place : ℕ) (s : Seen) (vs : List Value) (v : Value) → map view vs ≡ list_in s.value
    → place < length (list_in s.value) → v ≡ get_or vs place v
    → element_of place s ≡ Some (seen (view v) (element_path s.path place))
unfolding element_of
element_listed place s vs v all within is =
    let inside : place < length vs = rw (← all, length-map) at within in
    let here = slice_get_read vs (length vs) place v refl inside is in
    rw (← all, slice_get-map view vs place, here) refl
