-- A bundle that is changed keeps the rules of bundles, with the kept levels, and the form of its levels.
use Rattle.std.proofs.Common.{◌≡◌, ℕ, zero, suc, ◌+◌, ◌<◌, Bool, true, false, cond, not, List, [], ◌∷◌, ◌++◌, length, map, get_or, Option, Some, None, is_some, IfSome, IsTrue, Result, Ok, Err, OnOk, OnErr, nat_eq, refl, sym, ◌∙◌, ap, subst, arith, ok_or, option_map}
use Rattle.std.specs.List.{list_any, filter, position, slice_get}
use Rattle.std.specs.Option.{option_and_then, option_map_or, option_or}
use Rattle.std.proofs.lemmas.Bool.{eqb-true}
use Rattle.std.proofs.lemmas.List.Quantifiers.{position-Some}
use Rattle.std.proofs.lemmas.Option.{slice_get-get_or, slice_get_within}
use Rattle.emu_names.specs.declared.kinds.LinkKind.{LinkKind}
use Rattle.emu_names.specs.declared.kinds.LinkKind.TheVariants.{ManyToMany}
use Rattle.emu_names.specs.declared.kinds.ItemId.{ItemId}
use Rattle.emu_names.specs.declared.limits.TheConstants.{BUNDLE_ITEMS}
use Rattle.emu_names.specs.declared.rules.Broken.{Broken}
use Rattle.emu_names.specs.declared.rules.Fault.{Fault}
use Rattle.emu_names.specs.declared.rules.Fault.TheVariants as faults
use Rattle.emu_names.specs.Inner.Gives.{FindsFault}
use Rattle.emu_names.specs.declared.rules.Broken.TheVariants as rules
use Rattle.level_items.specs.declared.times.Time.{Time}
use Rattle.level_items.specs.declared.times.Time.TheVariants.{NoTime}
use Rattle.level_items.specs.declared.items.Item.{Item}
use Rattle.level_items.specs.Levels.{Level, KeepsLevelRule, are_labels_for, is_short, relabelled, retimed}
use Rattle.level_items.specs.Faults.{insert_fault, retime_fault}
use Rattle.level_items.proofs.Changes.{retime_rule}
use Rattle.link_graph.specs.declared.link.Link.{Link}
use Rattle.link_graph.specs.Link.{names_item, joins, link_of, add_fault}
use Rattle.db_config.specs.declared.parts.ConfigParts.{ConfigParts}
use Rattle.db_config.specs.declared.parts.LinkDef.{LinkDef}
use Rattle.bundle_state.specs.declared.places.Places.{Places}
use Rattle.bundle_state.specs.Bundle.{BundleParts, all_ids, item_count, level_of_id, position_on, place_from, place_of}
use Rattle.bundle_state.specs.Built.{form_of, FitsConfig}
use Rattle.bundle_state.specs.Linked.{unless_broken, kind_of, definition_for}
use Rattle.bundle_state.specs.Inner.Placed.{ArePlaced}
use Rattle.bundle_state.specs.Valid.{KeepsBundleRules}
use Rattle.bundle_state.specs.Inner.Kept.{IsKept}
use Rattle.bundle_state.specs.Changed.{with_levels, with_links, change_level, with_item, without_item, with_changed, with_change, without, place_for, new_item_fault, new_time_fault, item_added, item_removed, label_set, item_retimed, link_put, link_added, missing_fault, link_removed}
use Rattle.bundle_state.specs.ChangedLaws.{KeepsForm, KeepsRules, HasRoomFor}
use Rattle.bundle_state.proofs.Tests.{cond_none}
use Rattle.bundle_state.proofs.LevelsKept.{AreFine}
use Rattle.bundle_state.proofs.LinksKept.{AreFineLinks, goes_on, ok_same, fine_value, level_parts, grown}
use Rattle.bundle_state.proofs.BuiltKept.{unbroken}
use Rattle.bundle_state.proofs.ChangedLevels.{rule_at, has_level, no_level, inserted_level, inserted_fine, removed_level, removed_fine, changed_level, changed_fine, label_rule}
use Rattle.bundle_state.proofs.ChangedLinks.{fewer_fine, same_fine, between_more, between_less, between_alike}

-- Where an item stands.

pub record IsPlace (q : ℕ) (levels : List Level) (place : ℕ × ℕ) : Type 0 where
  pub level : Level
  pub there : slice_get levels place.0 ≡ Some level
  pub item : Item
  pub at : slice_get level.items place.1 ≡ Some item
  pub own : item.id.0 ≡ q

record IsPlaceFrom (n q : ℕ) (levels : List Level) (number at_ : ℕ) : Type 0 where
  offset : ℕ
  is : number ≡ n + offset
  level : Level
  there : slice_get levels offset ≡ Some level
  item : Item
  at : slice_get level.items at_ ≡ Some item
  own : item.id.0 ≡ q

some_item : Item
some_item = record { id = record { 0 = 0 }; time = NoTime; labels = [] }

pair_same : (a b : ℕ) (place : ℕ × ℕ) → Some (a, b) ≡ Some place → (a ≡ place.0) × (b ≡ place.1)
pair_same a b place e = (number (λ p. p.0), number (λ p. p.1))
  where
    number : (f : ℕ × ℕ → ℕ) → f (a, b) ≡ f place
    number f = ap f cc

place_parts_from : (n q : ℕ) (levels : List Level) (place : ℕ × ℕ) → place_from n q levels ≡ Some place → IsPlaceFrom n q levels place.0 place.1
place_parts_from n q [] place is = absurd cc
place_parts_from n q (level ∷ levels) place is = by (position_on q level) refl (λ h. place_parts_from (suc n) q levels place h) is
  where
    by : (o : Option ℕ) → position_on q level ≡ o → (place_from (suc n) q levels ≡ Some place → IsPlaceFrom (suc n) q levels place.0 place.1) →
        option_or (option_map (λ at. (n, at)) o) (place_from (suc n) q levels) ≡ Some place → IsPlaceFrom n q (level ∷ levels) place.0 place.1
    by None none more is =
        let rest : IsPlaceFrom (suc n) q levels place.0 place.1 = more is in
        let number : place.0 ≡ suc n + rest.offset = rest.is in
        record { offset = suc rest.offset; is = omega arith; level = rest.level; there = rest.there; item = rest.item; at = rest.at; own = rest.own }
    by (Some k) found more is =
        let same : (n ≡ place.0) × (k ≡ place.1) = pair_same n k place is in
        let at = position-Some (λ (i : Item). nat_eq i.id.0 q) level.items k some_item found in
        let here : slice_get level.items k ≡ Some (get_or level.items k some_item) = slice_get-get_or level.items k some_item at.0 in
        let number : n ≡ place.0 = same.0 in
        record {
          offset = 0;
          is = omega arith;
          level = level;
          there = refl;
          item = get_or level.items k some_item;
          at = ap (λ (j : ℕ). slice_get level.items j) (sym same.1) ∙ here;
          own = eqb-true (get_or level.items k some_item).id.0 q at.1;
        }

pub place_parts : (q : ℕ) (levels : List Level) (place : ℕ × ℕ) → place_of levels q ≡ Some place → IsPlace q levels place
place_parts q levels place is =
    let p : IsPlaceFrom 0 q levels place.0 place.1 = place_parts_from 0 q levels place is in
    let number : place.0 ≡ 0 + p.offset = p.is in
    let same : place.0 ≡ p.offset = omega arith in
    record {
      level = p.level;
      there = ap (λ (k : ℕ). slice_get levels k) same ∙ p.there;
      item = p.item;
      at = p.at;
      own = p.own;
    }

-- the place of an item that has to be there
pub place_there : (id : ItemId) (levels : List Level) (place : ℕ × ℕ) → place_for id levels ≡ Ok place → place_of levels id.0 ≡ Some place
place_there id levels place is = by (place_of levels id.0) is
  where
    by : (o : Option (ℕ × ℕ)) → ok_or o (rules.NoItem id) ≡ Ok place → o ≡ Some place
    by (Some p) h = ap Some (ok_same p place h)
    by None h = absurd cc

-- The parts of the rules.

pub levels_of : (b : BundleParts) → KeepsBundleRules b → AreFine b.levels
levels_of b keeps = record { few = keeps.few_items; apart = keeps.apart; rules = keeps.levels }

pub links_of : (b : BundleParts) → KeepsBundleRules b → AreFineLinks b.definitions (level_of_id b.levels) b.links
links_of b keeps = record { few = keeps.few_links; pairs = keeps.pairs; linked = keeps.linked }

whole : (b : BundleParts) (levels : List Level) (links : List Link) → KeepsBundleRules b → AreFine levels → AreFineLinks b.definitions (level_of_id levels) links →
    KeepsBundleRules (with_links (with_levels b levels) links)
whole b levels links keeps fine own = record {
  rate = keeps.rate;
  few_items = fine.few;
  apart = fine.apart;
  levels = fine.rules;
  few_links = own.few;
  pairs = own.pairs;
  linked = own.linked;
}

-- An item more.

pub record IsFree (number : ℕ) (position : Option ℕ) (item : Item) (levels : List Level) (level : Level) : Type 0 where
  pub fresh : list_any (nat_eq item.id.0) (all_ids levels) ≡ false
  pub free : insert_fault level.kind level.items position item ≡ None

pub free_parts : (number : ℕ) (position : Option ℕ) (item : Item) (levels : List Level) (level : Level) → slice_get levels number ≡ Some level →
    new_item_fault number position item levels ≡ None → IsFree number position item levels level
free_parts number position item levels level there free =
    let fault = λ (l : Level). insert_fault l.kind l.items position item in
    let parts = cond_none (list_any (nat_eq item.id.0) (all_ids levels)) (rules.IdTaken item.id) (option_and_then fault (slice_get levels number)) free in
    record { fresh = parts.0; free = sym (ap (option_and_then fault) there) ∙ parts.1 }

module _ (b : BundleParts) (number : ℕ) (position : Option ℕ) (item : Item) (level : Level) (there : slice_get b.levels number ≡ Some level)
    (free : new_item_fault number position item b.levels ≡ None) where
  pub added_level : (q : ℕ) → level_of_id (change_level (with_item position item) number b.levels) q ≡ cond (nat_eq q item.id.0) (Some number) (level_of_id b.levels q)
  added_level = inserted_level number position item b.levels level there (free_parts number position item b.levels level there free).fresh

  pub added_rules : are_labels_for level.attributes item.labels ≡ true → item_count b.levels < BUNDLE_ITEMS → KeepsBundleRules b →
      KeepsBundleRules (with_levels b (change_level (with_item position item) number b.levels))
  added_rules labels room keeps =
      let f = free_parts number position item b.levels level there free in
      let new = change_level (with_item position item) number b.levels in
      whole b new b.links keeps
      (inserted_fine number position item b.levels level there (levels_of b keeps) room labels f.fresh f.free)
      (same_fine b.definitions (level_of_id b.levels) (level_of_id new) b.links
      (between_more b.definitions (level_of_id b.levels) (level_of_id new) item.id.0 number (no_level item.id.0 b.levels f.fresh) added_level)
      (links_of b keeps))

-- An item less.

module _ (b : BundleParts) (id : ItemId) (place : ℕ × ℕ) (is : place_of b.levels id.0 ≡ Some place) (keeps : KeepsBundleRules b) where
  pub taken_level : (q : ℕ) → level_of_id (change_level (without_item place.1) place.0 b.levels) q ≡ cond (nat_eq q id.0) None (level_of_id b.levels q)
  taken_level q =
      let p = place_parts id.0 b.levels place is in
      removed_level place.0 place.1 p.item b.levels p.level p.there p.at keeps.apart q
      ∙ ap (λ (n : ℕ). cond (nat_eq q n) None (level_of_id b.levels q)) p.own

  pub taken_rules : KeepsBundleRules (without id place b)
  taken_rules =
      let p = place_parts id.0 b.levels place is in
      let new = change_level (without_item place.1) place.0 b.levels in
      whole b new (filter (λ link. not (names_item id link)) b.links) keeps
      (removed_fine place.0 place.1 p.item b.levels p.level p.there p.at (levels_of b keeps))
      (fewer_fine b.definitions (level_of_id b.levels) (level_of_id new) (λ link. not (names_item id link))
      (between_less b.definitions (level_of_id b.levels) (level_of_id new) id taken_level) b.links (links_of b keeps))

-- An item changed.

module _ (b : BundleParts) (f : Item → Item) (same : (i : Item) → (f i).id.0 ≡ i.id.0) (place : ℕ × ℕ) where
  pub altered_level : (q : ℕ) → level_of_id (change_level (with_changed f place.1) place.0 b.levels) q ≡ level_of_id b.levels q
  altered_level q = changed_level f same place.1 place.0 b.levels q

  pub altered_rules : (level : Level) → slice_get b.levels place.0 ≡ Some level → KeepsLevelRule (with_changed f place.1 level) → KeepsBundleRules b → KeepsBundleRules (with_change f place b)
  altered_rules level there rule keeps =
      let new = change_level (with_changed f place.1) place.0 b.levels in
      whole b new b.links keeps (changed_fine f same place.1 place.0 b.levels level there (levels_of b keeps) rule)
      (same_fine b.definitions (level_of_id b.levels) (level_of_id new) b.links
      (between_alike b.definitions (level_of_id b.levels) (level_of_id new) altered_level) (links_of b keeps))

pub label_keeps_id : (attribute : ℕ) (label : List ℕ) (i : Item) → (relabelled attribute label i).id.0 ≡ i.id.0
label_keeps_id attribute label i = refl

pub time_keeps_id : (time : Time) (i : Item) → (retimed time i).id.0 ≡ i.id.0
time_keeps_id time i = refl

pub labelled_rules : (b : BundleParts) (id : ItemId) (place : ℕ × ℕ) (attribute : ℕ) (label : List ℕ) → place_of b.levels id.0 ≡ Some place → is_short label ≡ true →
    KeepsBundleRules b → KeepsBundleRules (with_change (relabelled attribute label) place b)
labelled_rules b id place attribute label is short keeps =
    let p = place_parts id.0 b.levels place is in
    altered_rules b (relabelled attribute label) (label_keeps_id attribute label) place p.level p.there
    (label_rule p.level.kind p.level.attributes p.level.items place.1 p.item attribute label (rule_at place.0 b.levels p.level p.there keeps.levels) p.at short) keeps

pub retimed_rules : (b : BundleParts) (id : ItemId) (place : ℕ × ℕ) (time : Time) → place_of b.levels id.0 ≡ Some place → new_time_fault place time b.levels ≡ None →
    KeepsBundleRules b → KeepsBundleRules (with_change (retimed time) place b)
retimed_rules b id place time is free keeps =
    let p = place_parts id.0 b.levels place is in
    let fault = λ (l : Level). retime_fault l.kind l.items place.1 time in
    let own : retime_fault p.level.kind p.level.items place.1 time ≡ None = sym (ap (option_and_then fault) p.there) ∙ free in
    altered_rules b (retimed time) (time_keeps_id time) place p.level p.there
    (retime_rule p.level.kind p.level.attributes p.level.items place.1 p.item time (rule_at place.0 b.levels p.level p.there keeps.levels) p.at own) keeps

-- A link more, and links less.

pub linked_rules : (b : BundleParts) (from to : ItemId) (number : ℕ) →
    definition_for b.definitions (record { from = from; to = to }) (level_of_id b.levels from.0) (level_of_id b.levels to.0) ≡ Ok number →
    add_fault (kind_of b.definitions number) number from to b.links ≡ None → KeepsBundleRules b → KeepsBundleRules (with_links b (b.links ++ link_of number from to ∷ []))
linked_rules b from to number found free keeps =
    let apart : list_any (joins from to) b.links ≡ false = (cond_none (list_any (joins from to) b.links) rules.LinkExists _ free).0 in
    let between = level_parts b.definitions (level_of_id b.levels) (record { from = from; to = to }) (level_of_id b.levels from.0) (level_of_id b.levels to.0) number refl refl found in
    whole b b.levels (b.links ++ link_of number from to ∷ []) keeps (levels_of b keeps)
    (grown b.definitions (level_of_id b.levels) (link_of number from to) b.links apart free between (links_of b keeps))

pub unlinked_rules : (b : BundleParts) (test : Link → Bool) → KeepsBundleRules b → KeepsBundleRules (with_links b (filter test b.links))
unlinked_rules b test keeps =
    whole b b.levels (filter test b.links) keeps (levels_of b keeps)
    (fewer_fine b.definitions (level_of_id b.levels) (level_of_id b.levels) test (λ link passes between. between) b.links (links_of b keeps))

-- The laws.

pub added_item_rules : (number : ℕ) (position : Option ℕ) (item : Item) (b after : BundleParts) → HasRoomFor number item b → KeepsBundleRules b →
    item_added number position item b ≡ Ok after → KeepsBundleRules after
added_item_rules number position item b after room keeps is =
    let new : BundleParts = with_levels b (change_level (with_item position item) number b.levels) in
    let parts : (new_item_fault number position item b.levels ≡ None) × (new ≡ after) = unbroken (new_item_fault number position item b.levels) new after is in
    subst KeepsBundleRules parts.1 (added_rules b number position item room.level room.there parts.0 room.labels room.room keeps)

pub removed_item_rules : (id : ItemId) → KeepsRules (item_removed id)
removed_item_rules id b after keeps is =
    let on = goes_on (place_for id b.levels) (λ place. fine_value (without id place b)) after is in
    subst KeepsBundleRules (ok_same (without id on.middle b) after on.second) (taken_rules b id on.middle (place_there id b.levels on.middle on.first) keeps)

pub label_rules : (id : ItemId) (attribute : ℕ) (label : List ℕ) → is_short label ≡ true → KeepsRules (label_set id attribute label)
label_rules id attribute label short b after keeps is =
    let on = goes_on (place_for id b.levels) (λ place. fine_value (with_change (relabelled attribute label) place b)) after is in
    subst KeepsBundleRules (ok_same (with_change (relabelled attribute label) on.middle b) after on.second)
    (labelled_rules b id on.middle attribute label (place_there id b.levels on.middle on.first) short keeps)

pub time_rules : (id : ItemId) (time : Time) → KeepsRules (item_retimed id time)
time_rules id time b after keeps is =
    let on = goes_on (place_for id b.levels) (λ place. unless_broken (new_time_fault place time b.levels) (with_change (retimed time) place b)) after is in
    let new : BundleParts = with_change (retimed time) on.middle b in
    let parts : (new_time_fault on.middle time b.levels ≡ None) × (new ≡ after) = unbroken (new_time_fault on.middle time b.levels) new after on.second in
    subst KeepsBundleRules parts.1 (retimed_rules b id on.middle time (place_there id b.levels on.middle on.first) parts.0 keeps)

pub added_link_rules : (from to : ItemId) → KeepsRules (link_added from to)
added_link_rules from to b after keeps is =
    let on = goes_on (definition_for b.definitions (record { from = from; to = to }) (level_of_id b.levels from.0) (level_of_id b.levels to.0)) (link_put from to b) after is in
    let fault : Option Broken = add_fault (kind_of b.definitions on.middle) on.middle from to b.links in
    let new : BundleParts = with_links b (b.links ++ link_of on.middle from to ∷ []) in
    let parts : (fault ≡ None) × (new ≡ after) = unbroken fault new after on.second in
    subst KeepsBundleRules parts.1 (linked_rules b from to on.middle on.first parts.0 keeps)

pub removed_link_rules : (from to : ItemId) → KeepsRules (link_removed from to)
removed_link_rules from to b after keeps is =
    let new : BundleParts = with_links b (filter (λ link. not (joins from to link)) b.links) in
    let parts : (missing_fault from to b.links ≡ None) × (new ≡ after) = unbroken (missing_fault from to b.links) new after is in
    subst KeepsBundleRules parts.1 (unlinked_rules b (λ link. not (joins from to link)) keeps)

-- The form of the levels.

forms_same : (f : Level → Level) → ((l : Level) → form_of (f l) ≡ form_of l) → (k : ℕ) (levels : List Level) → map form_of (change_level f k levels) ≡ map form_of levels
forms_same f same k [] = refl
forms_same f same zero (x ∷ levels) = ap (λ form. form ∷ map form_of levels) (same x)
forms_same f same (suc k) (x ∷ levels) = ap (λ forms. form_of x ∷ forms) (forms_same f same k levels)

fits_changed : (config : ConfigParts) (b : BundleParts) (links : List Link) (f : Level → Level) (k : ℕ) → ((l : Level) → form_of (f l) ≡ form_of l) → FitsConfig config b →
    FitsConfig config (with_links (with_levels b (change_level f k b.levels)) links)
fits_changed config b links f k same fits = record {
  levels = forms_same f same k b.levels ∙ fits.levels;
  definitions = fits.definitions;
}

fits_linked : (config : ConfigParts) (b : BundleParts) (links : List Link) → FitsConfig config b → FitsConfig config (with_links b links)
fits_linked config b links fits = record { levels = fits.levels; definitions = fits.definitions }

pub added_item_fits : (number : ℕ) (position : Option ℕ) (item : Item) → KeepsForm (item_added number position item)
added_item_fits number position item config b after fits is =
    let new : BundleParts = with_levels b (change_level (with_item position item) number b.levels) in
    subst (FitsConfig config) (unbroken (new_item_fault number position item b.levels) new after is).1
    (fits_changed config b b.links (with_item position item) number (λ l. refl) fits)

pub removed_item_fits : (id : ItemId) → KeepsForm (item_removed id)
removed_item_fits id config b after fits is =
    let on = goes_on (place_for id b.levels) (λ place. fine_value (without id place b)) after is in
    subst (FitsConfig config) (ok_same (without id on.middle b) after on.second)
    (fits_changed config b (filter (λ link. not (names_item id link)) b.links) (without_item on.middle.1) on.middle.0 (λ l. refl) fits)

pub label_fits : (id : ItemId) (attribute : ℕ) (label : List ℕ) → KeepsForm (label_set id attribute label)
label_fits id attribute label config b after fits is =
    let on = goes_on (place_for id b.levels) (λ place. fine_value (with_change (relabelled attribute label) place b)) after is in
    subst (FitsConfig config) (ok_same (with_change (relabelled attribute label) on.middle b) after on.second)
    (fits_changed config b b.links (with_changed (relabelled attribute label) on.middle.1) on.middle.0 (λ l. refl) fits)

pub time_fits : (id : ItemId) (time : Time) → KeepsForm (item_retimed id time)
time_fits id time config b after fits is =
    let on = goes_on (place_for id b.levels) (λ place. unless_broken (new_time_fault place time b.levels) (with_change (retimed time) place b)) after is in
    subst (FitsConfig config) (unbroken (new_time_fault on.middle time b.levels) (with_change (retimed time) on.middle b) after on.second).1
    (fits_changed config b b.links (with_changed (retimed time) on.middle.1) on.middle.0 (λ l. refl) fits)

pub added_link_fits : (from to : ItemId) → KeepsForm (link_added from to)
added_link_fits from to config b after fits is =
    let on = goes_on (definition_for b.definitions (record { from = from; to = to }) (level_of_id b.levels from.0) (level_of_id b.levels to.0)) (link_put from to b) after is in
    let fault : Option Broken = add_fault (kind_of b.definitions on.middle) on.middle from to b.links in
    let links = b.links ++ link_of on.middle from to ∷ [] in
    subst (FitsConfig config) (unbroken fault (with_links b links) after on.second).1 (fits_linked config b links fits)

pub removed_link_fits : (from to : ItemId) → KeepsForm (link_removed from to)
removed_link_fits from to config b after fits is =
    let links = filter (λ link. not (joins from to link)) b.links in
    subst (FitsConfig config) (unbroken (missing_fault from to b.links) (with_links b links) after is).1 (fits_linked config b links fits)

-- The bundle with its kept levels.

-- the kept levels, told otherwise
pub carried : (f g : ℕ → Option ℕ) (places : Places) → ((q : ℕ) → f q ≡ g q) → ArePlaced f places → ArePlaced g places
carried f g places same placed = subst (λ h. ArePlaced h places) (λ i q. same q i) placed

pub kept_added : (b : BundleParts) (number : ℕ) (position : Option ℕ) (item : Item) (level : Level) (new : Places) → slice_get b.levels number ≡ Some level →
    new_item_fault number position item b.levels ≡ None → are_labels_for level.attributes item.labels ≡ true → item_count b.levels < BUNDLE_ITEMS → KeepsBundleRules b →
    ArePlaced (λ q. cond (nat_eq q item.id.0) (Some number) (level_of_id b.levels q)) new →
    IsKept (with_levels b (change_level (with_item position item) number b.levels)) new
kept_added b number position item level new there free labels room keeps more = record {
  rules = added_rules b number position item level there free labels room keeps;
  placed = carried (λ q. cond (nat_eq q item.id.0) (Some number) (level_of_id b.levels q)) (level_of_id (change_level (with_item position item) number b.levels)) new
      (λ q. sym (added_level b number position item level there free q)) more;
}

pub kept_removed : (b : BundleParts) (id : ItemId) (place : ℕ × ℕ) (new : Places) → place_of b.levels id.0 ≡ Some place → KeepsBundleRules b →
    ArePlaced (λ q. cond (nat_eq q id.0) None (level_of_id b.levels q)) new → IsKept (without id place b) new
kept_removed b id place new is keeps less = record {
  rules = taken_rules b id place is keeps;
  placed = carried (λ q. cond (nat_eq q id.0) None (level_of_id b.levels q)) (level_of_id (change_level (without_item place.1) place.0 b.levels)) new
      (λ q. sym (taken_level b id place is keeps q)) less;
}

pub kept_labelled : (b : BundleParts) (id : ItemId) (place : ℕ × ℕ) (attribute : ℕ) (label : List ℕ) (places : Places) → place_of b.levels id.0 ≡ Some place → is_short label ≡ true →
    IsKept b places → IsKept (with_change (relabelled attribute label) place b) places
kept_labelled b id place attribute label places is short kept = record {
  rules = labelled_rules b id place attribute label is short kept.rules;
  placed = carried (level_of_id b.levels) (level_of_id (change_level (with_changed (relabelled attribute label) place.1) place.0 b.levels)) places
      (λ q. sym (altered_level b (relabelled attribute label) (label_keeps_id attribute label) place q)) kept.placed;
}

pub kept_retimed : (b : BundleParts) (id : ItemId) (place : ℕ × ℕ) (time : Time) (places : Places) → place_of b.levels id.0 ≡ Some place → new_time_fault place time b.levels ≡ None →
    IsKept b places → IsKept (with_change (retimed time) place b) places
kept_retimed b id place time places is free kept = record {
  rules = retimed_rules b id place time is free kept.rules;
  placed = carried (level_of_id b.levels) (level_of_id (change_level (with_changed (retimed time) place.1) place.0 b.levels)) places
      (λ q. sym (altered_level b (retimed time) (time_keeps_id time) place q)) kept.placed;
}

pub kept_linked : (b : BundleParts) (from to : ItemId) (number : ℕ) (places : Places) →
    definition_for b.definitions (record { from = from; to = to }) (level_of_id b.levels from.0) (level_of_id b.levels to.0) ≡ Ok number →
    add_fault (kind_of b.definitions number) number from to b.links ≡ None → IsKept b places → IsKept (with_links b (b.links ++ link_of number from to ∷ [])) places
kept_linked b from to number places found free kept = record { rules = linked_rules b from to number found free kept.rules; placed = kept.placed }

pub kept_unlinked : (b : BundleParts) (from to : ItemId) (places : Places) → IsKept b places → IsKept (with_links b (filter (λ link. not (joins from to link)) b.links)) places
kept_unlinked b from to places kept = record { rules = unlinked_rules b (λ link. not (joins from to link)) kept.rules; placed = kept.placed }

-- What the calls answer.

pub place_within : (q : ℕ) (levels : List Level) (k at : ℕ) → place_of levels q ≡ Some (k, at) → (k < length levels) × IfSome (slice_get levels k) (λ l. at < length l.items)
place_within q levels k at is =
    let p = place_parts q levels (k, at) is in
    let low : at < length p.level.items = slice_get_within p.level.items at p.item p.at in
    (slice_get_within levels k p.level p.there, subst (λ (o : Option Level). IfSome o (λ l. at < length l.items)) (sym p.there) low)

-- what follows from a call that went well, and from one that changed nothing
pub either_way : {T E : Type 0} (P Q G : Type 0) (r : Result T E) → (P → G) → (Q → G) → OnOk r P → OnErr r Q → G
either_way P Q G (Ok x) f g ok err = f ok
either_way P Q G (Err e) f g ok err = g err

-- the answer of a call
abbrev pub Answer : Type 0
Answer = Result (Unit {0}) Fault

abbrev broken_answer : Broken → Answer
broken_answer rule = Err (faults.Broken rule)

answer_same : (a b : Broken) → broken_answer a ≡ broken_answer b → a ≡ b
answer_same a b e = cc

-- an id that is taken
pub taken_breaks : (number : ℕ) (position : Option ℕ) (item : Item) (b : BundleParts) (found : Option ℕ) → found ≡ level_of_id b.levels item.id.0 → is_some found ≡ true →
    (rule : Broken) → broken_answer (rules.IdTaken item.id) ≡ broken_answer rule → item_added number position item b ≡ Err rule
taken_breaks number position item b found is there rule same =
    let taken : list_any (nat_eq item.id.0) (all_ids b.levels) ≡ true = sym (has_level 0 item.id.0 b.levels) ∙ ap is_some (sym is) ∙ there in
    let new : BundleParts = with_levels b (change_level (with_item position item) number b.levels) in
    let rest : Option Broken = option_and_then (λ (l : Level). insert_fault l.kind l.items position item) (slice_get b.levels number) in
    ap (λ (t : Bool). unless_broken (cond t (Some (rules.IdTaken item.id)) rest) new) taken ∙ ap (λ (r : Broken). broken_of r) (answer_same (rules.IdTaken item.id) rule same)
  where
    broken_of : Broken → Result BundleParts Broken
    broken_of r = Err r

pub id_free : (q : ℕ) (levels : List Level) (found : Option ℕ) → found ≡ level_of_id levels q → is_some found ≡ false → list_any (nat_eq q) (all_ids levels) ≡ false
id_free q levels found is none = sym (has_level 0 q levels) ∙ ap is_some (sym is) ∙ none

module _ (number : ℕ) (position : Option ℕ) (item : Item) (b : BundleParts) (fresh : list_any (nat_eq item.id.0) (all_ids b.levels) ≡ false) where
  -- the rules of the level alone
  abbrev level_fault : Option Broken
  level_fault = option_and_then (λ (l : Level). insert_fault l.kind l.items position item) (slice_get b.levels number)

  abbrev with_new : BundleParts
  with_new = with_levels b (change_level (with_item position item) number b.levels)

  fault_is : new_item_fault number position item b.levels ≡ level_fault
  fault_is = ap (λ (t : Bool). cond t (Some (rules.IdTaken item.id)) level_fault) fresh

  pub add_gives : (r : Answer) (levels : List Level) → FindsFault r level_fault → OnOk r (levels ≡ change_level (with_item position item) number b.levels) →
      OnOk r (item_added number position item b ≡ Ok (with_levels b levels))
  add_gives (Ok x) levels finds is = ap (λ o. unless_broken o with_new) (fault_is ∙ finds) ∙ ap (λ ls. fine_value (with_levels b ls)) (sym is)
  add_gives (Err e) levels finds is = tt

  pub add_breaks : (r : Answer) → FindsFault r level_fault → (rule : Broken) → r ≡ broken_answer rule → item_added number position item b ≡ Err rule
  add_breaks r finds rule is =
      let found : FindsFault (broken_answer rule) level_fault = subst (λ a. FindsFault a level_fault) is finds in
      ap (λ o. unless_broken o with_new) (fault_is ∙ found)

  pub add_kept : (r : Answer) (levels : List Level) (new : Places) → KeepsBundleRules b → number < length b.levels →
      IfSome (slice_get b.levels number) (λ l. IsTrue (are_labels_for l.attributes item.labels)) → item_count b.levels < BUNDLE_ITEMS →
      FindsFault r level_fault → OnOk r (levels ≡ change_level (with_item position item) number b.levels) →
      OnOk r (ArePlaced (λ q. cond (nat_eq q item.id.0) (Some number) (level_of_id b.levels q)) new) →
      OnErr r (levels ≡ b.levels) → OnErr r (ArePlaced (level_of_id b.levels) new) → IsKept (with_levels b levels) new
  add_kept (Err e) levels new keeps low labels room finds is more same alike = subst (λ ls. IsKept (with_levels b ls) new) (sym same) (record { rules = keeps; placed = alike })
  add_kept (Ok x) levels new keeps low labels room finds is more same alike = by (slice_get b.levels number) refl labels
    where
      in_range : (xs : List Level) (k : ℕ) → k < length xs → slice_get xs k ≡ None → ⊥
      in_range [] k low none = absurd (omega arith)
      in_range (x ∷ xs) zero low none = cc
      in_range (x ∷ xs) (suc k) low none = in_range xs k (omega arith) none

      by : (o : Option Level) → slice_get b.levels number ≡ o → IfSome o (λ l. IsTrue (are_labels_for l.attributes item.labels)) → IsKept (with_levels b levels) new
      by (Some level) there whole =
          subst (λ ls. IsKept (with_levels b ls) new) (sym is)
          (kept_added b number position item level new there (fault_is ∙ finds) whole room keeps more)
      by None missing whole = absurd (in_range b.levels number low missing)

pub take_kept : (b : BundleParts) (id : ItemId) (level at : ℕ) (levels : List Level) (links : List Link) (new : Places) → place_of b.levels id.0 ≡ Some (level, at) → KeepsBundleRules b →
    levels ≡ change_level (without_item at) level b.levels → links ≡ filter (λ link. not (names_item id link)) b.links →
    ArePlaced (λ q. cond (nat_eq q id.0) None (level_of_id b.levels q)) new → IsKept (with_links (with_levels b levels) links) new
take_kept b id level at levels links new is keeps levels_is links_is less =
    subst (λ ls. IsKept (with_links (with_levels b ls) links) new) (sym levels_is)
    (subst (λ ls. IsKept (with_links (with_levels b (change_level (without_item at) level b.levels)) ls) new) (sym links_is)
    (kept_removed b id (level, at) new is keeps less))

pub label_kept : (b : BundleParts) (id : ItemId) (level at attribute : ℕ) (label : List ℕ) (levels : List Level) (places : Places) → place_of b.levels id.0 ≡ Some (level, at) →
    is_short label ≡ true → IsKept b places → levels ≡ change_level (with_changed (relabelled attribute label) at) level b.levels → IsKept (with_levels b levels) places
label_kept b id level at attribute label levels places is short kept levels_is =
    subst (λ ls. IsKept (with_levels b ls) places) (sym levels_is) (kept_labelled b id (level, at) attribute label places is short kept)

pub time_kept : (b : BundleParts) (id : ItemId) (level at : ℕ) (time : Time) (levels : List Level) (places : Places) (r : Answer) → place_of b.levels id.0 ≡ Some (level, at) →
    IsKept b places → FindsFault r (new_time_fault (level, at) time b.levels) → OnOk r (levels ≡ change_level (with_changed (retimed time) at) level b.levels) →
    OnErr r (levels ≡ b.levels) → IsKept (with_levels b levels) places
time_kept b id level at time levels places (Ok x) is kept finds levels_is same =
    subst (λ ls. IsKept (with_levels b ls) places) (sym levels_is) (kept_retimed b id (level, at) time places is finds kept)
time_kept b id level at time levels places (Err e) is kept finds levels_is same = subst (λ ls. IsKept (with_levels b ls) places) (sym same) kept

pub link_kept : (b : BundleParts) (from to : ItemId) (number : ℕ) (links : List Link) (places : Places) (r : Answer) →
    definition_for b.definitions (record { from = from; to = to }) (level_of_id b.levels from.0) (level_of_id b.levels to.0) ≡ Ok number → IsKept b places →
    FindsFault r (add_fault (kind_of b.definitions number) number from to b.links) → OnOk r (links ≡ b.links ++ link_of number from to ∷ []) → OnErr r (links ≡ b.links) →
    IsKept (with_links b links) places
link_kept b from to number links places (Ok x) found kept finds links_is same =
    subst (λ ls. IsKept (with_links b ls) places) (sym links_is) (kept_linked b from to number places found finds kept)
link_kept b from to number links places (Err e) found kept finds links_is same = subst (λ ls. IsKept (with_links b ls) places) (sym same) kept

pub unlink_kept : (b : BundleParts) (from to : ItemId) (links : List Link) (places : Places) (r : Answer) → IsKept b places →
    OnOk r (links ≡ filter (λ link. not (joins from to link)) b.links) → OnErr r (links ≡ b.links) → IsKept (with_links b links) places
unlink_kept b from to links places (Ok x) kept links_is same = subst (λ ls. IsKept (with_links b ls) places) (sym links_is) (kept_unlinked b from to places kept)
unlink_kept b from to links places (Err e) kept links_is same = subst (λ ls. IsKept (with_links b ls) places) (sym same) kept

-- the kind of a definition that is there
pub kind_is : (defs : List LinkDef) (number : ℕ) (kind : LinkKind) → option_map (λ d. d.kind) (slice_get defs number) ≡ Some kind → kind_of defs number ≡ kind
kind_is defs number kind is = by (slice_get defs number) is
  where
    by : (o : Option LinkDef) → option_map (λ d. d.kind) o ≡ Some kind → option_map_or (λ d. d.kind) o ManyToMany ≡ kind
    by None e = absurd cc
    by (Some d) e = cc
