-- What the reading of a list of texts comes to.
use Rattle.std.proofs.Common.{◌≡◌, ℕ, ◌+◌, List, [], ◌∷◌, ◌++◌, length, map, refl, arith, suc}
use Rattle.std.specs.Prelude.{None, Ok, Err}
use Rattle.serde_json.specs.Data.{Data, string}
use Rattle.serde_json.specs.Find.{as_str}
use Rattle.json_view.specs.declared.wants.Wanted.TheVariants as wanted
use Rattle.json_view.specs.Laws.{LoneTextIsOne, TextsAreAll, FirstOtherIsFault, OtherIsNoList}
use Rattle.json_view.specs.Lists.{each_from, each_of, readings, texts_at}
use Rattle.json_view.specs.Parts.{elements_at, shape, text_at}
use Rattle.json_view.specs.Paths.{element_path}

-- texts are read as they are
readings_of_texts : (path : List ℕ) (place : ℕ) (ts : List (List ℕ)) → readings text_at path place (map string ts) ≡ Ok ts
unfolding text_at
readings_of_texts path place [] = refl
readings_of_texts path place (t ∷ ts) = rw (readings_of_texts path (place + 1) ts) refl

-- behind texts, what is no text is the fault
readings_at_other : (path : List ℕ) (place : ℕ) (ts : List (List ℕ)) (d : Data) (rest : List Data) → as_str d ≡ None
    → readings text_at path place (map string ts ++ d ∷ rest) ≡ Err (shape (element_path path (place + length ts)) wanted.Text)
unfolding text_at
readings_at_other path place [] d rest other =
    let same : place + 0 ≡ place = omega arith in
    rw (other, same) refl
readings_at_other path place (t ∷ ts) d rest other =
    let same : place + suc (length ts) ≡ place + 1 + length ts = omega arith in
    rw (readings_at_other path (place + 1) ts d rest other, same) refl

pub lone_text_is_one : LoneTextIsOne
unfolding texts_at
lone_text_is_one t path = refl

pub texts_are_all : TextsAreAll
unfolding texts_at each_of elements_at each_from
texts_are_all items path ts all = rw (all, readings_of_texts path 0 ts) refl

pub first_other_is_fault : FirstOtherIsFault
unfolding texts_at each_of elements_at each_from
first_other_is_fault items path ts d rest all other =
    let same : 0 + length ts ≡ length ts = omega arith in
    rw (all, readings_at_other path 0 ts d rest other, same) refl

pub other_is_no_list : OtherIsNoList
unfolding texts_at each_of elements_at
other_is_no_list s no_text no_list = rw (no_text, no_list) refl
