-- The levels that the annotation of a bundle makes are the bundle's.
use Rattle.std.proofs.Common.{◌≡◌, ℕ, false, List, [], ◌∷◌, map, length, refl, ap, sym, ◌∙◌, arith}
use Rattle.level_items.specs.declared.items.Item.{Item}
use Rattle.level_items.specs.Levels.{Level, level_of}
use Rattle.db_config.specs.declared.attributes.AttributeDef.{AttributeDef}
use Rattle.db_config.specs.declared.parts.LevelDef.{LevelDef}
use Rattle.emu_names.specs.Texts.{same_text}
use Rattle.bundle_state.specs.Made.{label_named, made_labels, made_item, items_named, made_level, made_levels}
use Rattle.bundle_state.proofs.LevelsKept.{Apart}
use Rattle.bundle_state.proofs.Tests.{Each, each_map, text_same}
use Rattle.annot_json.specs.Given.{given_labels, given_item, given_levels}
use Rattle.annot_json.proofs.Fits.{AreNamed, IsAs, AreAs}

map_each : {A B : Type 0} (f g : A → B) (xs : List A) → Each (λ x. f x ≡ g x) xs → map f xs ≡ map g xs
map_each f g [] each = refl
map_each f g (x ∷ xs) each = ap (λ y. y ∷ map f xs) each.0 ∙ ap (λ ys. g x ∷ ys) (map_each f g xs each.1)

-- ---- labels

pub labels_again : (defs : List AttributeDef) (labels : List (List ℕ)) → AreNamed defs → length labels ≡ length defs →
    made_labels defs (given_labels defs labels) ≡ labels
labels_again [] [] named same = refl
labels_again [] (t ∷ ts) named same = let no : ⊥ = omega (arith, same) in absurd no
labels_again (d ∷ ds) [] named same = let no : ⊥ = omega (arith, same) in absurd no
labels_again (d ∷ ds) (t ∷ ts) named same =
    let first : label_named d.name (given_labels (d ∷ ds) (t ∷ ts)) ≡ t = rw (text_same d.name) refl in
    let others = each_map (λ (o : AttributeDef). same_text d.name o.name ≡ false)
    (λ (o : AttributeDef). label_named o.name (given_labels (d ∷ ds) (t ∷ ts)) ≡ label_named o.name (given_labels ds ts))
    (λ o apart. rw apart refl) ds named.0 in
    ap (λ y. y ∷ map (λ (o : AttributeDef). label_named o.name (given_labels (d ∷ ds) (t ∷ ts))) ds) first
    ∙ ap (λ ys. t ∷ ys) (map_each (λ (o : AttributeDef). label_named o.name (given_labels (d ∷ ds) (t ∷ ts))) (λ (o : AttributeDef). label_named o.name (given_labels ds ts)) ds others
    ∙ labels_again ds ts named.1 (omega (arith, same)))

-- ---- items

item_again : (defs : List AttributeDef) (i : Item) → AreNamed defs → length i.labels ≡ length defs → made_item defs (given_item defs i) ≡ i
item_again defs i named same = ap (λ ls. record { id = i.id; time = i.time; labels = ls }) (labels_again defs i.labels named same)

pub items_again : (defs : List AttributeDef) (items : List Item) → AreNamed defs → Each (λ (i : Item). length i.labels ≡ length defs) items →
    map (made_item defs) (map (given_item defs) items) ≡ items
items_again defs [] named each = refl
items_again defs (i ∷ is) named each =
    ap (λ y. y ∷ map (made_item defs) (map (given_item defs) is)) (item_again defs i named each.0)
    ∙ ap (λ ys. i ∷ ys) (items_again defs is named each.1)

-- ---- levels

level_again : (d : LevelDef) (l : Level) → IsAs d l → level_of d.kind (length d.attributes) (map (made_item d.attributes) (map (given_item d.attributes) l.items)) ≡ l
level_again d l like =
    ap (λ is. level_of d.kind (length d.attributes) is) (items_again d.attributes l.items like.named like.labels)
    ∙ ap (λ k. level_of k (length d.attributes) l.items) (sym like.kind)
    ∙ ap (λ n. level_of l.kind n l.items) (sym like.attributes)

pub levels_again : (defs : List LevelDef) (levels : List Level) → Apart defs → AreAs defs levels → made_levels defs (given_levels defs levels) ≡ levels
levels_again [] [] apart like = refl
levels_again [] (l ∷ ls) apart like = absurd like
levels_again (d ∷ ds) [] apart like = absurd like
levels_again (d ∷ ds) (l ∷ ls) apart like =
    let named : items_named d.name (given_levels (d ∷ ds) (l ∷ ls)) ≡ map (given_item d.attributes) l.items = rw (text_same d.name) refl in
    let first : made_level (given_levels (d ∷ ds) (l ∷ ls)) d ≡ l =
    ap (λ is. level_of d.kind (length d.attributes) (map (made_item d.attributes) is)) named ∙ level_again d l like.0 in
    let others = each_map (λ (o : LevelDef). same_text d.name o.name ≡ false)
    (λ (o : LevelDef). made_level (given_levels (d ∷ ds) (l ∷ ls)) o ≡ made_level (given_levels ds ls) o)
    (λ o away. rw away refl) ds apart.0 in
    ap (λ y. y ∷ map (made_level (given_levels (d ∷ ds) (l ∷ ls))) ds) first
    ∙ ap (λ ys. l ∷ ys) (map_each (made_level (given_levels (d ∷ ds) (l ∷ ls))) (made_level (given_levels ds ls)) ds others
    ∙ levels_again ds ls apart.1 like.1)
