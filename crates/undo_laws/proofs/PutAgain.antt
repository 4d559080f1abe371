-- An item that was removed is put back by names.
use Rattle.std.proofs.Common.{◌≡◌, ℕ, zero, suc, ◌+◌, ◌<◌, ◌≤◌, Bool, true, false, cond, ◌||◌, ◌&&◌, List, [], ◌∷◌, ◌++◌, length, map, take, drop, Option, Some, None, nat_le, refl, sym, ap, subst, ◌∙◌, append_assoc, leb-true, arith}
use Rattle.std.specs.List.{list_any, list_all, find, slice_get, position}
use Rattle.std.proofs.lemmas.Bool.{true≢false, and_parts, or_parts, or_from, cond-true, cond-false, lt-leb, le-ltb}
use Rattle.std.proofs.lemmas.List.{map-append}
use Rattle.emu_names.specs.declared.limits.TheConstants.{ALL_ITEMS, BUNDLE_ITEMS, LABEL_BYTES}
use Rattle.emu_names.specs.declared.kinds.LevelKind.{LevelKind}
use Rattle.emu_names.specs.declared.rules.Broken.TheVariants as rules
use Rattle.emu_names.specs.declared.rules.What.TheVariants as counted
use Rattle.level_items.specs.declared.items.Item.{Item}
use Rattle.level_items.specs.Faults.{time_fault, insert_fault}
use Rattle.std.specs.Option.{option_or}
use Rattle.level_items.specs.Levels.{Level, is_short, KeepsLevelRule}
use Rattle.level_items.proofs.Lists.{position_is}
use Rattle.level_items.proofs.Changes.{fit_at}
use Rattle.db_config.specs.declared.attributes.AttributeDef.{AttributeDef}
use Rattle.db_config.specs.declared.parts.LevelDef.{LevelDef}
use Rattle.emu_names.specs.Texts.{same_text}
use Rattle.db_config.specs.Lookups.{level_named}
use Rattle.bundle_state.specs.Bundle.{item_count, place_of}
use Rattle.bundle_state.specs.Built.{form_of, form_asked}
use Rattle.bundle_state.specs.Linked.{unless_broken}
use Rattle.emu_names.specs.Steps.{onward}
use Rattle.bundle_state.specs.Made.{made_item}
use Rattle.bundle_state.specs.Changed.{item_added, without}
use Rattle.bundle_state.proofs.Tests.{Each, text_same, text_true, cond_none, or_none}
use Rattle.bundle_state.proofs.LevelsKept.{Apart, config_apart}
use Rattle.bundle_state.proofs.ChangedLevels.{rule_at}
use Rattle.bundle_edits.specs.Changes.{room_fault, id_fault, label_fault, given_label_fault, new_labels_fault, put_on}
use Rattle.bundle_edits.proofs.Lookups.{level_is}
use Rattle.bundle_edits.proofs.Spans.{some_same}
use Rattle.edit_undo.specs.Inverse.{position_again}
use Rattle.undo_laws.proofs.ItemPlaces.{free_again}
use Rattle.bundle_edits.proofs.Places.{placed_at}
use Rattle.undo_laws.proofs.Items.{fresh, item_again}
use Rattle.undo_laws.proofs.Segments.{one_less}
use Rattle.undo_laws.proofs.Back.{ItemsAreBack}
use Rattle.annot_json.specs.Given.{given_labels, given_item}
use Rattle.annot_json.proofs.Fits.{AreNamed}
use Rattle.annot_json.proofs.Again.{labels_again}

flip : (a b : List ℕ) → same_text a b ≡ false → same_text b a ≡ false
flip a b apart = by (same_text b a) refl
  where
    by : (t : Bool) → same_text b a ≡ t → t ≡ false
    by true e = absurd (true≢false (sym (text_same a) ∙ ap (λ (c : List ℕ). same_text a c) (sym (text_true b a e)) ∙ apart))
    by false e = refl

pub each_at : {A : Type 0} (P : A → Type 0) (xs : List A) (k : ℕ) (x : A) → Each P xs → slice_get xs k ≡ Some x → P x
each_at P [] k x each at = absurd cc
each_at P (y ∷ ys) zero x each at = subst P (some_same y x at) each.0
each_at P (y ∷ ys) (suc k) x each at = each_at P ys k x each.1 at

each_middle : {A : Type 0} (P : A → Type 0) (front : List A) (x : A) (back : List A) → Each P (front ++ x ∷ back) → P x
each_middle P [] x back each = each.0
each_middle P (y ∷ front) x back each = each_middle P front x back each.1

level_first : (defs : List LevelDef) (k : ℕ) (def : LevelDef) → Apart defs → slice_get defs k ≡ Some def → list_any (λ (d : LevelDef). same_text d.name def.name) (take k defs) ≡ false
level_first [] k def apart at = absurd cc
level_first (d ∷ ds) zero def apart at = refl
level_first (d ∷ ds) (suc k) def apart at =
    or_from (same_text d.name def.name) (list_any (λ (e : LevelDef). same_text e.name def.name) (take k ds))
    (each_at (λ (other : LevelDef). same_text d.name other.name ≡ false) ds k def apart.0 at) (level_first ds k def apart.1 at)

pub named_is : (defs : List LevelDef) (k : ℕ) (def : LevelDef) → Apart defs → slice_get defs k ≡ Some def → level_named def.name defs ≡ Some k
named_is defs k def apart at = position_is (λ (d : LevelDef). same_text d.name def.name) defs k def at (text_same def.name) (level_first defs k def apart at)

-- ---- labels

abbrev names : List AttributeDef → List (List ℕ)
names defs = map (λ (d : AttributeDef). d.name) defs

pub before_apart : (front : List AttributeDef) (d : AttributeDef) (back : List AttributeDef) → AreNamed (front ++ d ∷ back) → list_any (λ (e : AttributeDef). same_text e.name d.name) front ≡ false
before_apart [] d back named = refl
before_apart (x ∷ front) d back named =
    or_from (same_text x.name d.name) (list_any (λ (e : AttributeDef). same_text e.name d.name) front)
    (each_middle (λ (other : AttributeDef). same_text x.name other.name ≡ false) front d back named.0) (before_apart front d back named.1)

not_named : (front : List AttributeDef) (d : AttributeDef) (back : List AttributeDef) → AreNamed (front ++ d ∷ back) → list_any (same_text d.name) (names front) ≡ false
not_named [] d back named = refl
not_named (x ∷ front) d back named =
    or_from (same_text d.name x.name) (list_any (same_text d.name) (names front))
    (flip x.name d.name (each_middle (λ (other : AttributeDef). same_text x.name other.name ≡ false) front d back named.0)) (not_named front d back named.1)

find_middle : {A : Type 0} (p : A → Bool) (front : List A) (x : A) (back : List A) → list_any p front ≡ false → p x ≡ true → find p (front ++ x ∷ back) ≡ Some x
find_middle p [] x back none passes = cond-true (p x) (Some x) (find p back) passes
find_middle p (y ∷ front) x back none passes =
    let parts = or_parts (p y) (list_any p front) none in
    cond-false (p y) (Some y) (find p (front ++ x ∷ back)) parts.0 ∙ find_middle p front x back parts.1 passes

module _ (all : List AttributeDef) (named : AreNamed all) where
  labels_free : (done rest : List AttributeDef) (labels : List (List ℕ)) → all ≡ done ++ rest → list_all is_short labels ≡ true → new_labels_fault false all (names done) (given_labels rest labels) ≡ None
  labels_free done [] labels e short = refl
  labels_free done (d ∷ rest) [] e short = refl
  labels_free done (d ∷ rest) (t ∷ labels) e short =
      let whole : AreNamed (done ++ d ∷ rest) = subst AreNamed e named in
      let parts = and_parts (is_short t) (list_all is_short labels) short in
      let low = leb-true (length t) LABEL_BYTES parts.0 in
      let found : find (λ (o : AttributeDef). same_text o.name d.name) all ≡ Some d =
      ap (find (λ (o : AttributeDef). same_text o.name d.name)) e ∙ find_middle (λ (o : AttributeDef). same_text o.name d.name) done d rest (before_apart done d rest whole) (text_same d.name) in
      let more = new_labels_fault false all (names done ++ d.name ∷ []) (given_labels rest labels) in
      ap (λ o. option_or (given_label_fault false (names done) (record { name = d.name; value = t }) o) more) found
      ∙ ap (λ (b : Bool). option_or (cond b (Some (rules.TwoLabels d.name)) (label_fault false d t)) more) (not_named done d rest whole)
      ∙ ap (λ (b : Bool). option_or (cond b (Some rules.LabelTooLong) None) more) (le-ltb LABEL_BYTES (length t) low)
      ∙ ap (λ ns. new_labels_fault false all ns (given_labels rest labels)) (sym (map-append (λ (o : AttributeDef). o.name) done (d ∷ [])))
      ∙ labels_free (done ++ d ∷ []) rest labels (e ∙ sym (append_assoc done (d ∷ []) rest)) parts.1

-- ---- the level and its definition

pub same_form : (defs : List LevelDef) (levels : List Level) (k : ℕ) (def : LevelDef) (level : Level) → map form_of levels ≡ map form_asked defs → slice_get levels k ≡ Some level → slice_get defs k ≡ Some def → form_of level ≡ form_asked def
same_form [] [] k def level same there at = absurd cc
same_form [] (l ∷ ls) k def level same there at = absurd cc
same_form (d ∷ ds) [] k def level same there at = absurd cc
same_form (d ∷ ds) (l ∷ ls) zero def level same there at =
    let first : form_of l ≡ form_asked d = some_same (form_of l) (form_asked d) (ap (λ (xs : List (LevelKind × ℕ)). slice_get xs 0) same) in
    ap form_of (sym (some_same l level there)) ∙ first ∙ ap form_asked (some_same d def at)
same_form (d ∷ ds) (l ∷ ls) (suc k) def level same there at =
    same_form ds ls k def level (ap (λ (xs : List (LevelKind × ℕ)). drop 1 xs) same) there at

time_first : (kind : LevelKind) (items : List Item) (position : Option ℕ) (item : Item) → insert_fault kind items position item ≡ None → time_fault kind item.time ≡ None
time_first kind items position item free = (or_none (time_fault kind item.time) _ (cond_none _ (rules.IdTaken item.id) _ free).1).0

pub items_back : ItemsAreBack
items_back config counts b place level def item valid keeps fits named room there at has =
    let rest = without item.id place b in
    let position = position_again level.kind place.1 in
    let is : place_of b.levels item.id.0 ≡ Some place = placed_at b.levels place.0 place.1 level item keeps.apart there has in
    let rule : KeepsLevelRule level = rule_at place.0 b.levels level there keeps.levels in
    let form = same_form config.levels b.levels place.0 def level fits.levels there at in
    let kind : level.kind ≡ def.kind = ap (λ (p : LevelKind × ℕ). p.0) form in
    let attributes : level.attributes ≡ length def.attributes = ap (λ (p : LevelKind × ℕ). p.1) form in
    let fit = fit_at level.kind level.attributes level.items place.1 item rule has in
    let count : length item.labels ≡ length def.attributes = fit.count ∙ attributes in
    let made : made_item def.attributes (given_item def.attributes item) ≡ item =
    ap (λ ls. record { id = item.id; time = item.time; labels = ls }) (labels_again def.attributes item.labels named count) in
    let fewer = one_less b.levels place.0 place.1 level item there has in
    let most = keeps.few_items in
    let room_free : room_fault counts rest.levels ≡ None =
    cond-false (nat_le BUNDLE_ITEMS (item_count rest.levels)) (Some (rules.TooMany counted.BundleItems)) (cond (nat_le ALL_ITEMS counts.items) (Some (rules.TooMany counted.AllItems)) None)
    (lt-leb BUNDLE_ITEMS (item_count rest.levels) (omega (arith, fewer, most)))
    ∙ cond-false (nat_le ALL_ITEMS counts.items) (Some (rules.TooMany counted.AllItems)) None (lt-leb ALL_ITEMS counts.items room) in
    let id_free : id_fault item.id rest.levels ≡ None =
    ap (λ (t : Bool). cond t (Some (rules.IdTaken item.id)) None) (fresh b item.id place is keeps level there item has refl) in
    let time_free : time_fault def.kind item.time ≡ None =
    ap (λ (k : LevelKind). time_fault k item.time) (sym kind) ∙ time_first level.kind _ position item (free_again level.kind level.attributes level.items place.1 item rule has) in
    let labels = new_labels_fault false def.attributes [] (given_labels def.attributes item.labels) in
    let next = item_added place.0 position (made_item def.attributes (given_item def.attributes item)) in
    ap (λ r. onward r (put_on false counts position (given_item def.attributes item) rest)) (level_is def.name config.levels place.0 def (named_is config.levels place.0 def (config_apart config valid) at) at)
    ∙ ap (λ o. onward (unless_broken (option_or o (option_or (id_fault item.id rest.levels) (option_or (time_fault def.kind item.time) labels))) rest) next) room_free
    ∙ ap (λ o. onward (unless_broken (option_or o (option_or (time_fault def.kind item.time) labels)) rest) next) id_free
    ∙ ap (λ o. onward (unless_broken (option_or o labels) rest) next) time_free
    ∙ ap (λ o. onward (unless_broken o rest) next) (labels_free def.attributes named [] def.attributes item.labels refl fit.short)
    ∙ ap (λ (i : Item). item_added place.0 position i rest) made
    ∙ item_again b item.id place is keeps level there item has refl
