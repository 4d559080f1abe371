-- Rows to which the items of further labels are added.
use Rattle.std.proofs.Common.{◌≡◌, ℕ, ◌+◌, ◌<◌, ◌≤◌, Bool, false, ◌||◌, List, [], ◌∷◌, ◌++◌, length, map, take, get_or, Result, Ok, Err, refl, sym, ap, ◌∙◌, arith}
use Rattle.std.specs.Prelude.{OnOk, replicate}
use Rattle.std.specs.List.{flat_map, list_any}
use Rattle.std.specs.Simd.Lanes.{zip2}
use Rattle.std.proofs.lemmas.Grind.{flat_map-append}
use Rattle.std.proofs.lemmas.List.{append-nil, take_all, take_more}
use Rattle.std.proofs.lemmas.List.Concat.{flat_map-cons}
use Rattle.std.proofs.lemmas.List.Folds.{list_any-append}
use Rattle.std.proofs.lemmas.Simd.{length-zip2, zip2-map}
use mathlib.Core.List.{append_assoc}
use Rattle.emu_names.specs.declared.shortage.Memory.{Memory}
use Rattle.level_items.specs.Levels.{items_at, label_of}
use Rattle.db_config.specs.declared.parts.AttributePlace.{AttributePlace}
use Rattle.db_config.specs.declared.parts.ConfigParts.{ConfigParts}
use Rattle.emu_names.specs.Texts.{same_text}
use Rattle.bundle_state.specs.Bundle.{BundleParts}
use Rattle.eql_model.specs.Labels.{is_wanted, stands_for, wanted_labels}
use Rattle.eql_columns.specs.Inner.Labels.{label_row, labels_row, AddsLabels, AreLong}
use Rattle.eql_columns.specs.Inner.Rows.{IsUnsetFor}
use Rattle.eql_columns.proofs.Bits.{or_false, unset_wide}

none_in : {X : Type 0} (xs : List X) → replicate (length xs) false ≡ map (λ x. false) xs
none_in [] = refl
none_in (x ∷ xs) = ap (λ bits. false ∷ bits) (none_in xs)

-- ---- rows of labels

pub row_of_none : (b : BundleParts) (place : AttributePlace) (row : List Bool) → IsUnsetFor b place.level row → row ≡ labels_row b place []
row_of_none b place row unset = unset ∙ none_in (items_at b.levels place.level)

one_more : (p : List ℕ → Bool) (labels : List (List ℕ)) (label : List ℕ) → list_any p (labels ++ label ∷ []) ≡ (list_any p labels || p label)
one_more p labels label = list_any-append p labels (label ∷ []) ∙ ap (λ bit. list_any p labels || bit) (or_false (p label))

row_of_more : (b : BundleParts) (place : AttributePlace) (labels : List (List ℕ)) (label : List ℕ) →
    zip2 (λ x y. x || y) (labels_row b place labels) (label_row b place label) ≡ labels_row b place (labels ++ label ∷ [])
row_of_more b place labels label =
    zip2-map (λ x y. x || y) (λ item. list_any (same_text (label_of place.attribute item)) labels)
    (λ item. same_text (label_of place.attribute item) label) (items_at b.levels place.level)
    ∙ (λ i. map (λ item. sym (one_more (same_text (label_of place.attribute item)) labels label) i) (items_at b.levels place.level))

or_none : {X : Type 0} (p : X → Bool) (xs : List X) → zip2 (λ x y. x || y) (map p xs) (map (λ x. false) xs) ≡ map p xs
or_none p xs = zip2-map (λ x y. x || y) p (λ x. false) xs ∙ (λ i. map (λ x. or_false (p x) i) xs)

-- ---- labels are added

pub adds_found : (b : BundleParts) (place : AttributePlace) (label : List ℕ) (spare old new : List Bool) →
    spare ≡ label_row b place label → new ≡ zip2 (λ x y. x || y) old spare → AddsLabels b place (label ∷ []) old new
adds_found b place label spare old new is put = record {
  adds = λ labels so_far. put ∙ (λ i. zip2 (λ x y. x || y) (so_far i) (is i)) ∙ row_of_more b place labels label;
}

pub adds_missing : (b : BundleParts) (place : AttributePlace) (label : List ℕ) (row : List Bool) →
    replicate (length (items_at b.levels place.level)) false ≡ label_row b place label → AddsLabels b place (label ∷ []) row row
adds_missing b place label row none = record {
  adds = λ labels so_far.
      so_far
      ∙ sym (or_none (λ item. list_any (same_text (label_of place.attribute item)) labels) (items_at b.levels place.level))
      ∙ ap (zip2 (λ x y. x || y) (labels_row b place labels)) (sym (none_in (items_at b.levels place.level)) ∙ none)
      ∙ row_of_more b place labels label;
}

pub adds_none : (b : BundleParts) (place : AttributePlace) (row : List Bool) → AddsLabels b place [] row row
adds_none b place row = record {
  adds = λ labels so_far. so_far ∙ ap (labels_row b place) (sym (append-nil labels));
}

adds_both : (b : BundleParts) (place : AttributePlace) (some more : List (List ℕ)) (old between new : List Bool) →
    AddsLabels b place some old between → AddsLabels b place more between new → AddsLabels b place (some ++ more) old new
adds_both b place some more old between new first second = record {
  adds = λ labels so_far.
      second.adds (labels ++ some) (first.adds labels so_far) ∙ ap (labels_row b place) (append_assoc labels some more);
}

pub adds_same : (b : BundleParts) (place : AttributePlace) (some more : List (List ℕ)) (old new : List Bool) → some ≡ more →
    AddsLabels b place some old new → AddsLabels b place more old new
adds_same b place some more old new same added = record {
  adds = λ labels so_far. added.adds labels so_far ∙ ap (λ ls. labels_row b place (labels ++ ls)) same;
}

-- one label after another
pub adds_next : (b : BundleParts) (place : AttributePlace) (labels : List (List ℕ)) (i : ℕ) (label text : List ℕ)
    (old between new : List Bool) → AddsLabels b place (take i labels) old between → i < length labels → label ≡ get_or labels i label →
    text ≡ label → AddsLabels b place (text ∷ []) between new → AddsLabels b place (take (i + 1) labels) old new
adds_next b place labels i label text old between new so_far h here is added =
    adds_same b place (take i labels ++ label ∷ []) (take (i + 1) labels) old new
    (sym (take_more labels i label h ∙ ap (λ l. take i labels ++ l ∷ []) (sym here)))
    (adds_both b place (take i labels) (label ∷ []) old between new so_far
    (adds_same b place (text ∷ []) (label ∷ []) between new (ap (λ l. l ∷ []) is) added))

pub adds_all : (b : BundleParts) (place : AttributePlace) (labels : List (List ℕ)) (i : ℕ) (old new : List Bool) → length labels ≤ i →
    AddsLabels b place (take i labels) old new → AddsLabels b place labels old new
adds_all b place labels i old new end added = adds_same b place (take i labels) labels old new (take_all i labels end) added

-- what one written label after another stands for
pub adds_written : (c : ConfigParts) (b : BundleParts) (place : AttributePlace) (written : List (List ℕ)) (i : ℕ) (one : List ℕ)
    (old between new : List Bool) → AddsLabels b place (wanted_labels c place (take i written)) old between → i < length written →
    one ≡ get_or written i one → AddsLabels b place (stands_for c place one) between new →
    AddsLabels b place (wanted_labels c place (take (i + 1) written)) old new
adds_written c b place written i one old between new so_far h here added =
    adds_same b place (wanted_labels c place (take i written) ++ stands_for c place one) (wanted_labels c place (take (i + 1) written)) old new
    (sym (ap (wanted_labels c place) (take_more written i one h ∙ ap (λ l. take i written ++ l ∷ []) (sym here))
    ∙ flat_map-append (stands_for c place) (take i written) (one ∷ [])
    ∙ ap (λ ls. wanted_labels c place (take i written) ++ ls) (flat_map-cons (stands_for c place) one [] ∙ append-nil (stands_for c place one))))
    (adds_both b place (wanted_labels c place (take i written)) (stands_for c place one) old between new so_far added)

pub wanted_all : (c : ConfigParts) (b : BundleParts) (place : AttributePlace) (written : List (List ℕ)) (i : ℕ) (old new : List Bool) →
    length written ≤ i → AddsLabels b place (wanted_labels c place (take i written)) old new →
    AddsLabels b place (wanted_labels c place written) old new
wanted_all c b place written i old new end added =
    adds_same b place (wanted_labels c place (take i written)) (wanted_labels c place written) old new
    (ap (wanted_labels c place) (take_all i written end)) added

-- added to a row of which no bit is set
pub added_to_none : (b : BundleParts) (place : AttributePlace) (labels : List (List ℕ)) (old new : List Bool) → IsUnsetFor b place.level old →
    AddsLabels b place labels old new → new ≡ labels_row b place labels
added_to_none b place labels old new unset added = added.adds [] (row_of_none b place old unset)

-- ---- rows that are long enough

pub still_long : (b : BundleParts) (level : ℕ) (spare row made new : List Bool) → AreLong b level spare row → length made ≡ length spare →
    new ≡ zip2 (λ x y. x || y) row made → AreLong b level made new
still_long b level spare row made new long same put = record {
  first = same ∙ long.first;
  second =
      let count = long.second in
      let other = same ∙ long.first in
      ap length put ∙ length-zip2 (λ x y. x || y) row made (count ∙ sym other) ∙ count;
}

pub both_long : (b : BundleParts) (level n : ℕ) (spare row : List Bool) → spare ≡ replicate n false → n ≡ length row → IsUnsetFor b level row →
    AreLong b level spare row
both_long b level n spare row is same unset = record {
  first = unset_wide n (length row) spare is same ∙ unset_wide _ _ row unset refl;
  second = unset_wide _ _ row unset refl;
}

-- ---- one label is written

one_text : (written : List (List ℕ)) (w : List ℕ) → length written ≡ 1 → w ≡ get_or written 0 w → written ≡ w ∷ []
one_text [] w one is = absurd (omega arith)
one_text (x ∷ []) w one is = ap (λ y. y ∷ []) (sym is)
one_text (x ∷ y ∷ ws) w one is = absurd (omega arith)

only_labels : (c : ConfigParts) (place : AttributePlace) (written : List (List ℕ)) (w : List ℕ) → length written ≡ 1 →
    w ≡ get_or written 0 w → stands_for c place w ≡ wanted_labels c place written
only_labels c place written w one is =
    sym (ap (wanted_labels c place) (one_text written w one is) ∙ flat_map-cons (stands_for c place) w [] ∙ append-nil (stands_for c place w))

pub only_written : (c : ConfigParts) (b : BundleParts) (place : AttributePlace) (written : List (List ℕ)) (w : List ℕ) (row : List Bool)
    (r : Result Unit Memory) → length written ≡ 1 → w ≡ get_or written 0 w → OnOk r (row ≡ labels_row b place (stands_for c place w)) →
    OnOk r (row ≡ labels_row b place (wanted_labels c place written))
only_written c b place written w row (Err e) one is told = tt
only_written c b place written w row (Ok done) one is told = told ∙ ap (labels_row b place) (only_labels c place written w one is)
