-- Steps of loops that put lists together.
use Rattle.std.proofs.Common.{◌≡◌, ◌≤◌, ◌<◌, ℕ, zero, suc, ◌+◌, Bool, true, false, cond, not, List, [], ◌∷◌, ◌++◌, map, take, drop, remove, reverse, length, get_or, Some, refl, ap, sym, ◌∙◌, append_assoc, add-one, arith}
use Rattle.std.specs.List.{enumerate_from, filter, slice_get}
use Rattle.std.proofs.lemmas.List.{append-nil, map-append, take_all, reverse-append}
use Rattle.std.proofs.lemmas.List.Elements.{filter-append}
use Rattle.std.proofs.lemmas.Option.{slice_get_read}
use Rattle.emu_names.specs.declared.names.BundleKey.{BundleKey}
use Rattle.emu_names.specs.declared.kinds.ItemId.{ItemId}
use Rattle.level_items.specs.declared.annot.AnnotLabel.{AnnotLabel}
use Rattle.level_items.specs.declared.annot.AnnotLevel.{AnnotLevel}
use Rattle.level_items.specs.declared.annot.AnnotLink.{AnnotLink}
use Rattle.level_items.specs.Levels.{Level}
use Rattle.link_graph.specs.declared.link.Link.{Link}
use Rattle.db_config.specs.declared.parts.LevelDef.{LevelDef}
use Rattle.db_config.specs.declared.parts.ConfigParts.{ConfigParts}
use Rattle.bundle_state.specs.Bundle.{BundleParts}
use Rattle.bundle_state.specs.Built.{FitsConfig}
use Rattle.bundle_state.specs.Linked.{pair_of}
use Rattle.bundle_state.proofs.Walks.{take_at}
use Rattle.bundle_edits.specs.declared.edit.Edit.{Edit}
use Rattle.bundle_edits.specs.Changes.{is_linked}
use Rattle.annot_json.specs.Given.{given_level, given_levels}
use Rattle.annot_json.proofs.Shown.{take_one, level_there as has_level}
use Rattle.edit_undo.specs.Inverse.{link_again, links_again, pair_out, put_label, is_labelled}
use Rattle.edit_undo.specs.Inner.Links.{again_from, if_new, pairs_from, new_out}
use Rattle.edit_undo.specs.Inner.Items.{if_labelled, labels_from}

-- one element is put last, and then others
pub put_before : {A : Type 0} (old mid new rest : List A) (x : A) → mid ≡ old ++ x ∷ [] → new ≡ mid ++ rest → new ≡ old ++ x ∷ rest
put_before old mid new rest x put is = is ∙ ap (λ ys. ys ++ rest) put ∙ append_assoc old (x ∷ []) rest

-- What is made of each element.

pub map_more : {A B : Type 0} (g : A → B) (xs : List A) (place : ℕ) (x : A) (old new : List B) (v : B) → old ≡ map g (take place xs) → place < length xs → x ≡ get_or xs place x →
    v ≡ g x → new ≡ old ++ v ∷ [] → new ≡ map g (take (place + 1) xs)
map_more g xs place x old new v before within here is put =
    put ∙ ap (λ ys. ys ++ v ∷ []) before ∙ ap (λ y. map g (take place xs) ++ y ∷ []) is
    ∙ sym (map-append g (take place xs) (x ∷ [])) ∙ ap (map g) (sym (take_at xs place x within here))

pub map_end : {A B : Type 0} (g : A → B) (xs : List A) (place : ℕ) (made : List B) → made ≡ map g (take place xs) → length xs ≤ place → made ≡ map g xs
map_end g xs place made is past = is ∙ ap (map g) (take_all place xs past)

pub pair_more : (links : List Link) (place : ℕ) (link : Link) (old new : List AnnotLink) → old ≡ map pair_of (take place links) → slice_get links place ≡ Some link →
    new ≡ old ++ pair_of link ∷ [] → new ≡ map pair_of (take (place + 1) links)
pair_more links place link old new before here put =
    put ∙ ap (λ ys. ys ++ pair_of link ∷ []) before ∙ sym (map-append pair_of (take place links) (link ∷ []))
    ∙ ap (map pair_of) (sym (take_one links place link here)) ∙ ap (λ n. map pair_of (take n links)) (sym (add-one place))

-- The levels of a bundle.

-- a bundle has as many levels as its configuration
pub level_there : (config : ConfigParts) (bundle : BundleParts) (place : ℕ) → FitsConfig config bundle → place < length config.levels → place < length bundle.levels
level_there config bundle place fits within = has_level config bundle place fits within

levels_at : (defs : List LevelDef) (levels : List Level) (place : ℕ) (def : LevelDef) (level : Level) → slice_get defs place ≡ Some def → slice_get levels place ≡ Some level →
    given_levels (take (suc place) defs) levels ≡ given_levels (take place defs) levels ++ given_level def level ∷ []
levels_at [] levels place def level d l = cc
levels_at (e ∷ defs) [] place def level d l = cc
levels_at (e ∷ defs) (m ∷ levels) zero def level d l = cc
levels_at (e ∷ defs) (m ∷ levels) (suc place) def level d l = ap (λ ys. given_level e m ∷ ys) (levels_at defs levels place def level d l)

pub level_more : (defs : List LevelDef) (levels : List Level) (place : ℕ) (def : LevelDef) (level : Level) (old new : List AnnotLevel) (v : AnnotLevel) →
    old ≡ given_levels (take place defs) levels → place < length defs → def ≡ get_or defs place def → slice_get levels place ≡ Some level → v ≡ given_level def level →
    new ≡ old ++ v ∷ [] → new ≡ given_levels (take (place + 1) defs) levels
level_more defs levels place def level old new v before within d l is put =
    let here = slice_get_read defs (length defs) place def refl within d in
    put ∙ ap (λ ys. ys ++ v ∷ []) before ∙ ap (λ y. given_levels (take place defs) levels ++ y ∷ []) is
    ∙ sym (levels_at defs levels place def level here l) ∙ ap (λ n. given_levels (take n defs) levels) (sym (add-one place))

pub levels_end : (defs : List LevelDef) (levels : List Level) (place : ℕ) (made : List AnnotLevel) → made ≡ given_levels (take place defs) levels → length defs ≤ place →
    made ≡ given_levels defs levels
levels_end defs levels place made is past = is ∙ ap (λ ds. given_levels ds levels) (take_all place defs past)

-- Links at their places.

drop_past : {A : Type 0} (n : ℕ) (xs : List A) → length xs ≤ n → drop n xs ≡ []
drop_past zero [] past = refl
drop_past (suc n) [] past = refl
drop_past zero (x ∷ xs) past = let no : ⊥ = omega (arith, past) in absurd no
drop_past (suc n) (x ∷ xs) past = drop_past n xs (omega (arith, past))

drop_one : {A : Type 0} (xs : List A) (place : ℕ) (x : A) → slice_get xs place ≡ Some x → drop place xs ≡ x ∷ drop (suc place) xs
drop_one [] place x here = cc
drop_one (y ∷ ys) zero x here = cc
drop_one (y ∷ ys) (suc place) x here = drop_one ys place x here

-- a link put back at its place, where it passes the test
abbrev pub if_passing : BundleKey → Bool → ℕ × Link → List Edit
if_passing key passes placed = cond passes (link_again key placed ∷ []) []

pub first_again : (key : BundleKey) (test : Link → Bool) (place : ℕ) (link : Link) (links : List Link) →
    again_from key test place (link ∷ links) ≡ if_passing key (test link) (place, link) ++ again_from key test (place + 1) links
first_again key test place link links = by (test link)
  where
    by : (passes : Bool) →
        map (link_again key) (cond passes ((place, link) ∷ filter (λ placed. test placed.1) (enumerate_from (place + 1) links)) (filter (λ placed. test placed.1) (enumerate_from (place + 1) links)))
        ≡ if_passing key passes (place, link) ++ again_from key test (place + 1) links
    by true = refl
    by false = refl

pub link_step : (key : BundleKey) (test : Link → Bool) (links : List Link) (place : ℕ) (link : Link) (old new whole : List Edit) →
    old ++ again_from key test place (drop place links) ≡ whole → slice_get links place ≡ Some link → new ≡ old ++ if_passing key (test link) (place, link) →
    new ++ again_from key test (place + 1) (drop (place + 1) links) ≡ whole
link_step key test links place link old new whole before here put =
    ap (λ ys. ys ++ again_from key test (place + 1) (drop (place + 1) links)) put
    ∙ append_assoc old (if_passing key (test link) (place, link)) (again_from key test (place + 1) (drop (place + 1) links))
    ∙ ap (λ ys. old ++ ys) (sym (first_again key test place link (drop (place + 1) links)))
    ∙ ap (λ n. old ++ again_from key test place (link ∷ drop n links)) (add-one place)
    ∙ ap (λ ls. old ++ again_from key test place ls) (sym (drop_one links place link here))
    ∙ before

pub links_end : (key : BundleKey) (test : Link → Bool) (links : List Link) (place : ℕ) (made : List Edit) →
    made ++ again_from key test place (drop place links) ≡ again_from key test 0 links → length links ≤ place → made ≡ links_again key test links
links_end key test links place made is past =
    sym (append-nil made) ∙ ap (λ ls. made ++ again_from key test place ls) (sym (drop_past place links past)) ∙ is

-- Pairs that are taken out.

pub pair_step : (key : BundleKey) (links : List Link) (pairs : List AnnotLink) (place : ℕ) (pair : AnnotLink) (old new : List Edit) →
    old ≡ pairs_from key links (take place pairs) → place < length pairs → pair ≡ get_or pairs place pair → new ≡ old ++ if_new key links pair →
    new ≡ pairs_from key links (take (place + 1) pairs)
pair_step key links pairs place pair old new before within here put =
    put ∙ ap (λ ys. ys ++ if_new key links pair) before
    ∙ ap (λ ys. pairs_from key links (take place pairs) ++ ys) (by (is_linked links pair))
    ∙ sym (map-append (pair_out key) (filter is_new (take place pairs)) (filter is_new (pair ∷ [])))
    ∙ ap (map (pair_out key)) (sym (filter-append is_new (take place pairs) (pair ∷ [])))
    ∙ ap (pairs_from key links) (sym (take_at pairs place pair within here))
  where
    is_new : AnnotLink → Bool
    is_new p = not (is_linked links p)

    by : (linked : Bool) → cond linked [] (pair_out key pair ∷ []) ≡ map (pair_out key) (cond (not linked) (pair ∷ []) [])
    by true = refl
    by false = refl

map_reverse : {A B : Type 0} (f : A → B) (xs : List A) → map f (reverse xs) ≡ reverse (map f xs)
map_reverse f [] = refl
map_reverse f (x ∷ xs) =
    ap (map f) (reverse-append (x ∷ []) xs) ∙ map-append f (reverse xs) (x ∷ []) ∙ ap (λ ys. ys ++ f x ∷ []) (map_reverse f xs)
    ∙ sym (reverse-append (f x ∷ []) (map f xs))

pub pairs_end : (key : BundleKey) (links : List Link) (pairs : List AnnotLink) (place : ℕ) (first made : List Edit) →
    first ≡ pairs_from key links (take place pairs) → length pairs ≤ place → made ≡ reverse first → made ≡ new_out key links pairs
pairs_end key links pairs place first made is past back =
    back ∙ ap reverse (is ∙ ap (pairs_from key links) (take_all place pairs past)) ∙ sym (map_reverse (pair_out key) (filter (λ pair. not (is_linked links pair)) pairs))

-- Labels that are not empty.

pub label_step : (key : BundleKey) (id : ItemId) (labels : List AnnotLabel) (place : ℕ) (label : AnnotLabel) (old new : List Edit) →
    old ≡ labels_from key id (take place labels) → place < length labels → label ≡ get_or labels place label → new ≡ old ++ if_labelled key id label →
    new ≡ labels_from key id (take (place + 1) labels)
label_step key id labels place label old new before within here put =
    put ∙ ap (λ ys. ys ++ if_labelled key id label) before
    ∙ ap (λ ys. labels_from key id (take place labels) ++ ys) (by (is_labelled label))
    ∙ sym (map-append (put_label key id) (filter is_labelled (take place labels)) (filter is_labelled (label ∷ [])))
    ∙ ap (map (put_label key id)) (sym (filter-append is_labelled (take place labels) (label ∷ [])))
    ∙ ap (labels_from key id) (sym (take_at labels place label within here))
  where
    by : (labelled : Bool) → cond labelled (put_label key id label ∷ []) [] ≡ map (put_label key id) (cond labelled (label ∷ []) [])
    by true = refl
    by false = refl

pub labels_end : (key : BundleKey) (id : ItemId) (labels : List AnnotLabel) (place : ℕ) (made : List Edit) → made ≡ labels_from key id (take place labels) → length labels ≤ place →
    made ≡ labels_from key id labels
labels_end key id labels place made is past = is ∙ ap (labels_from key id) (take_all place labels past)

-- Edits in the reverse order.

pub last_split : {A : Type 0} (n : ℕ) (xs : List A) (x : A) → length xs ≡ suc n → slice_get xs n ≡ Some x → xs ≡ remove xs n ++ x ∷ []
last_split n [] x long here = cc
last_split zero (y ∷ []) x long here = cc
last_split zero (y ∷ z ∷ zs) x long here = let no : ⊥ = omega (arith, long) in absurd no
last_split (suc n) (y ∷ []) x long here = let no : ⊥ = omega (arith, long) in absurd no
last_split (suc n) (y ∷ z ∷ zs) x long here = ap (λ ys. y ∷ ys) (last_split n (z ∷ zs) x (omega (arith, long)) here)

pub shorter : {A : Type 0} (n : ℕ) (xs : List A) (x : A) → length xs ≡ suc n → slice_get xs n ≡ Some x → length (remove xs n) ≡ n
shorter n [] x long here = cc
shorter zero (y ∷ []) x long here = refl
shorter zero (y ∷ z ∷ zs) x long here = let no : ⊥ = omega (arith, long) in absurd no
shorter (suc n) (y ∷ []) x long here = let no : ⊥ = omega (arith, long) in absurd no
shorter (suc n) (y ∷ z ∷ zs) x long here = ap suc (shorter n (z ∷ zs) x (omega (arith, long)) here)

pub last_first : {A : Type 0} (made more rest whole : List A) (n : ℕ) (x : A) → made ++ reverse rest ≡ whole → length rest ≡ suc n → slice_get rest n ≡ Some x → more ≡ made ++ x ∷ [] →
    more ++ reverse (remove rest n) ≡ whole
last_first made more rest whole n x is long here put =
    ap (λ ys. ys ++ reverse (remove rest n)) put ∙ append_assoc made (x ∷ []) (reverse (remove rest n))
    ∙ ap (λ ys. made ++ ys) (sym (reverse-append (remove rest n) (x ∷ [])))
    ∙ ap (λ ys. made ++ reverse ys) (sym (last_split n rest x long here)) ∙ is

pub none_left : {A : Type 0} (made rest whole : List A) → made ++ reverse rest ≡ whole → length rest ≡ 0 → made ≡ whole
none_left made [] whole is none = sym (append-nil made) ∙ is
none_left made (x ∷ xs) whole is none = let no : ⊥ = omega (arith, none) in absurd no
