-- The annotation of a bundle breaks no rule of levels.
use Rattle.std.proofs.Common.{◌≡◌, ℕ, ◌+◌, Bool, true, false, not, ◌&&◌, ◌||◌, List, [], ◌∷◌, ◌++◌, map, length, refl, ap, sym, ◌∙◌, Some}
use Rattle.std.specs.List.{list_all, list_any}
use Rattle.std.proofs.lemmas.Bool.{and_parts, and_from, not_from_false}
use Rattle.std.proofs.lemmas.List.{length-map}
use Rattle.std.proofs.lemmas.List.Sums.{sum_by-cons}
use Rattle.emu_names.specs.declared.kinds.LevelKind.{LevelKind}
use Rattle.emu_names.specs.declared.kinds.LevelKind.TheVariants as kinds
use Rattle.level_items.specs.declared.annot.AnnotLevel.{AnnotLevel}
use Rattle.level_items.specs.declared.items.Item.{Item}
use Rattle.level_items.specs.Levels.{Level, fits_level, are_labels_for, is_short, ids_of}
use Rattle.level_items.specs.Times.{fits_kind, ends_in_time}
use Rattle.db_config.specs.declared.attributes.AttributeDef.{AttributeDef}
use Rattle.db_config.specs.declared.parts.LevelDef.{LevelDef}
use Rattle.db_config.specs.Names.{are_distinct}
use Rattle.emu_names.specs.Texts.{same_text}
use Rattle.bundle_state.specs.Bundle.{all_ids, item_count}
use Rattle.bundle_state.specs.Lookups.{level_for, has_attribute}
use Rattle.bundle_state.specs.Faults.{same_kind, given_ids, given_count}
use Rattle.bundle_state.specs.Rules.{label_names, is_label_of, are_labels_of, is_item_of, are_given_in_order, is_level_of, is_level_in, level_names, all_given_ids}
use Rattle.bundle_state.proofs.LevelsKept.{Apart}
use Rattle.bundle_state.proofs.Tests.{Each, each_map, any_none, text_same}
use Rattle.annot_json.specs.Given.{given_label, given_labels, given_item, given_level, given_levels}
use Rattle.annot_json.proofs.Fits.{AreNamed, IsAs, AreAs}
use Rattle.annot_json.proofs.Again.{items_again}

-- ---- labels

-- each attribute is found by its name
found_self : (defs : List AttributeDef) → Each (λ (d : AttributeDef). has_attribute defs d.name ≡ true) defs
found_self [] = tt
found_self (d ∷ ds) = (rw (text_same d.name) refl, each_map (λ (o : AttributeDef). has_attribute ds o.name ≡ true) (λ (o : AttributeDef). has_attribute (d ∷ ds) o.name ≡ true) (λ o h. later (same_text d.name o.name) (has_attribute ds o.name) h) ds (found_self ds))
  where
    later : (a b : Bool) → b ≡ true → (a || b) ≡ true
    later true b h = refl
    later false b h = h

labels_hold : (def : LevelDef) (defs : List AttributeDef) (labels : List (List ℕ)) → Each (λ (d : AttributeDef). has_attribute def.attributes d.name ≡ true) defs →
    list_all is_short labels ≡ true → list_all (is_label_of def) (given_labels defs labels) ≡ true
labels_hold def [] labels found short = refl
labels_hold def (d ∷ ds) [] found short = refl
labels_hold def (d ∷ ds) (t ∷ ts) found short =
    let both = and_parts (is_short t) (list_all is_short ts) short in
    and_from (is_label_of def (given_label d t)) (list_all (is_label_of def) (given_labels ds ts))
    (and_from (has_attribute def.attributes d.name) (is_short t) found.0 both.0) (labels_hold def ds ts found.1 both.1)

not_among : (name : List ℕ) (defs : List AttributeDef) (labels : List (List ℕ)) → Each (λ (o : AttributeDef). same_text name o.name ≡ false) defs →
    Each (λ (n : List ℕ). same_text name n ≡ false) (label_names (given_labels defs labels))
not_among name [] labels away = tt
not_among name (d ∷ ds) [] away = tt
not_among name (d ∷ ds) (t ∷ ts) away = (away.0, not_among name ds ts away.1)

labels_apart : (defs : List AttributeDef) (labels : List (List ℕ)) → AreNamed defs → are_distinct (label_names (given_labels defs labels)) ≡ true
labels_apart [] labels named = refl
labels_apart (d ∷ ds) [] named = refl
labels_apart (d ∷ ds) (t ∷ ts) named =
    let names = label_names (given_labels ds ts) in
    and_from (not (list_any (same_text d.name) names)) (are_distinct names)
    (not_from_false (list_any (same_text d.name) names) (any_none (same_text d.name) names (not_among d.name ds ts named.0)))
    (labels_apart ds ts named.1)

-- ---- items

item_holds : (def : LevelDef) (item : Item) → AreNamed def.attributes → fits_level def.kind (length def.attributes) item ≡ true →
    is_item_of def (given_item def.attributes item) ≡ true
item_holds def item named fits =
    let both = and_parts (fits_kind def.kind item.time && ends_in_time item.time) (are_labels_for (length def.attributes) item.labels) fits in
    let short = and_parts _ (list_all is_short item.labels) both.1 in
    and_from (fits_kind def.kind item.time && ends_in_time item.time) (are_labels_of def (given_labels def.attributes item.labels)) both.0
    (and_from (list_all (is_label_of def) (given_labels def.attributes item.labels)) (are_distinct (label_names (given_labels def.attributes item.labels)))
    (labels_hold def def.attributes item.labels (found_self def.attributes) short.1)
    (labels_apart def.attributes item.labels named))

items_hold : (def : LevelDef) (items : List Item) → AreNamed def.attributes → list_all (fits_level def.kind (length def.attributes)) items ≡ true →
    list_all (is_item_of def) (map (given_item def.attributes) items) ≡ true
items_hold def [] named fits = refl
items_hold def (i ∷ is) named fits =
    let both = and_parts (fits_level def.kind (length def.attributes) i) (list_all (fits_level def.kind (length def.attributes)) is) fits in
    and_from (is_item_of def (given_item def.attributes i)) (list_all (is_item_of def) (map (given_item def.attributes) is))
    (item_holds def i named both.0) (items_hold def is named both.1)

-- ---- levels

kind_self : (kind : LevelKind) → same_kind kind kind ≡ true
kind_self kinds.Item = refl
kind_self kinds.Segment = refl
kind_self kinds.Event = refl

-- each level is found by its name
pub levels_found : (defs : List LevelDef) → Apart defs → Each (λ (d : LevelDef). level_for d.name defs ≡ Some d) defs
levels_found [] apart = tt
levels_found (d ∷ ds) apart = (
  rw (text_same d.name) refl,
  both ds (λ o away h. rw away h) apart.0 (levels_found ds apart.1),
)
  where
    both : (os : List LevelDef) → ((o : LevelDef) → same_text d.name o.name ≡ false → level_for o.name ds ≡ Some o → level_for o.name (d ∷ ds) ≡ Some o) →
        Each (λ (o : LevelDef). same_text d.name o.name ≡ false) os → Each (λ (o : LevelDef). level_for o.name ds ≡ Some o) os →
        Each (λ (o : LevelDef). level_for o.name (d ∷ ds) ≡ Some o) os
    both [] f away h = tt
    both (o ∷ os) f away h = (f o away.0 h.0, both os f away.1 h.1)

level_holds : (defs : List LevelDef) (d : LevelDef) (l : Level) → level_for d.name defs ≡ Some d → IsAs d l → is_level_in defs (given_level d l) ≡ true
level_holds defs d l found like =
    let ordered : are_given_in_order d (map (given_item d.attributes) l.items) ≡ true =
    rw (items_again d.attributes l.items like.named like.labels) like.ordered in
    let items = items_hold d l.items like.named like.fitting in
    ap (is_level_of (given_level d l)) found
    ∙ and_from (same_kind d.kind d.kind && list_all (is_item_of d) (map (given_item d.attributes) l.items)) (are_given_in_order d (map (given_item d.attributes) l.items))
    (and_from (same_kind d.kind d.kind) (list_all (is_item_of d) (map (given_item d.attributes) l.items)) (kind_self d.kind) items) ordered

pub levels_hold : (all defs : List LevelDef) (levels : List Level) → Each (λ (d : LevelDef). level_for d.name all ≡ Some d) defs → AreAs defs levels →
    list_all (is_level_in all) (given_levels defs levels) ≡ true
levels_hold all [] [] found like = refl
levels_hold all [] (l ∷ ls) found like = absurd like
levels_hold all (d ∷ ds) [] found like = absurd like
levels_hold all (d ∷ ds) (l ∷ ls) found like =
    and_from (is_level_in all (given_level d l)) (list_all (is_level_in all) (given_levels ds ls)) (level_holds all d l found.0 like.0) (levels_hold all ds ls found.1 like.1)

not_named : (name : List ℕ) (defs : List LevelDef) (levels : List Level) → Each (λ (o : LevelDef). same_text name o.name ≡ false) defs →
    Each (λ (n : List ℕ). same_text name n ≡ false) (level_names (given_levels defs levels))
not_named name [] levels away = tt
not_named name (d ∷ ds) [] away = tt
not_named name (d ∷ ds) (l ∷ ls) away = (away.0, not_named name ds ls away.1)

pub names_differ : (defs : List LevelDef) (levels : List Level) → Apart defs → are_distinct (level_names (given_levels defs levels)) ≡ true
names_differ [] levels apart = refl
names_differ (d ∷ ds) [] apart = refl
names_differ (d ∷ ds) (l ∷ ls) apart =
    let names = level_names (given_levels ds ls) in
    and_from (not (list_any (same_text d.name) names)) (are_distinct names)
    (not_from_false (list_any (same_text d.name) names) (any_none (same_text d.name) names (not_named d.name ds ls apart.0)))
    (names_differ ds ls apart.1)

ids_same : (defs : List AttributeDef) (items : List Item) → given_ids (map (given_item defs) items) ≡ ids_of items
ids_same defs [] = refl
ids_same defs (i ∷ is) = ap (λ ns. i.id.0 ∷ ns) (ids_same defs is)

pub all_ids_same : (defs : List LevelDef) (levels : List Level) → AreAs defs levels → all_given_ids (given_levels defs levels) ≡ all_ids levels
all_ids_same [] [] like = refl
all_ids_same [] (l ∷ ls) like = absurd like
all_ids_same (d ∷ ds) [] like = absurd like
all_ids_same (d ∷ ds) (l ∷ ls) like =
    ap (λ ns. ns ++ all_given_ids (given_levels ds ls)) (ids_same d.attributes l.items) ∙ ap (λ ns. ids_of l.items ++ ns) (all_ids_same ds ls like.1)

pub count_same : (defs : List LevelDef) (levels : List Level) → AreAs defs levels → given_count (given_levels defs levels) ≡ item_count levels
count_same [] [] like = refl
count_same [] (l ∷ ls) like = absurd like
count_same (d ∷ ds) [] like = absurd like
count_same (d ∷ ds) (l ∷ ls) like =
    sum_by-cons (λ (g : AnnotLevel). length g.items) (given_level d l) (given_levels ds ls)
    ∙ ap (λ n. n + given_count (given_levels ds ls)) (length-map l.items (given_item d.attributes))
    ∙ ap (λ n. length l.items + n) (count_same ds ls like.1)
    ∙ sym (sum_by-cons (λ (k : Level). length k.items) l ls)
