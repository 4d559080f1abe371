-- Items are put back, and changes of items are taken back.
use Rattle.std.proofs.Common.{◌≡◌, ℕ, ◌≤◌, true, false, ◌&&◌, ◌||◌, ◌==◌, cond, List, ◌∷◌, ◌++◌, nat_eq, refl, sym, ap, subst, ◌∙◌, Option, Some, None, is_some, Ok, ok_or, eq-eqb}
use Rattle.std.specs.List.{list_any, slice_get}
use Rattle.std.specs.Option.{option_and_then}
use Rattle.std.proofs.lemmas.Bool.{cond-true}
use Rattle.emu_names.specs.declared.kinds.ItemId.{ItemId}
use Rattle.emu_names.specs.declared.kinds.LevelKind.TheVariants as kinds
use Rattle.emu_names.specs.declared.rules.Broken.TheVariants as rules
use Rattle.level_items.specs.declared.items.Item.{Item}
use Rattle.level_items.specs.Levels.{Level, level_of, with_items, KeepsLevelRule, are_different, change_at, retimed, relabelled}
use Rattle.level_items.specs.Faults.{insert_fault, retime_fault}
use Rattle.level_items.proofs.Exact.{retime_exact}
use Rattle.bundle_state.specs.Bundle.{BundleParts, all_ids, level_of_id, place_of}
use Rattle.bundle_state.specs.Linked.{unless_broken}
use Rattle.emu_names.specs.Steps.{onward}
use Rattle.bundle_state.specs.Valid.{KeepsBundleRules}
use Rattle.bundle_state.specs.Changed.{with_levels, with_links, change_level, with_item, without_item, with_changed, with_change, without, links_without, place_for, put_fault, new_time_fault, item_added, label_set, item_retimed}
use Rattle.bundle_state.proofs.LinksKept.{ok_same, fine_value}
use Rattle.bundle_state.proofs.ChangedLevels.{rule_at, has_level, changed_ids}
use Rattle.bundle_state.proofs.ChangedKept.{taken_level, label_keeps_id, time_keeps_id}
use Rattle.edit_undo.specs.Inverse.{position_again}
use Rattle.undo_laws.proofs.ItemPlaces.{free_again, items_again}
use Rattle.undo_laws.proofs.Back.{RetimedIsBack, RelabelledIsBack}
use Rattle.undo_laws.proofs.Alike.{changed_here, item_turned, level_turned, level_here, unset}
use Rattle.bundle_edits.proofs.Places.{placed_at, retime_goes}
use Rattle.undo_laws.proofs.Links.{passed}

module _ (b : BundleParts) (id : ItemId) (place : ℕ × ℕ) (is : place_of b.levels id.0 ≡ Some place) (keeps : KeepsBundleRules b)
    (level : Level) (there : slice_get b.levels place.0 ≡ Some level) (item : Item) (at : slice_get level.items place.1 ≡ Some item) (own : item.id.0 ≡ id.0) where
  abbrev rest : BundleParts
  rest = without id place b

  abbrev position : Option ℕ
  position = position_again level.kind place.1

  pub fresh : list_any (nat_eq item.id.0) (all_ids rest.levels) ≡ false
  fresh =
      sym (has_level 0 item.id.0 rest.levels)
      ∙ ap is_some (taken_level b id place is keeps item.id.0 ∙ cond-true (nat_eq item.id.0 id.0) None (level_of_id b.levels item.id.0) (eq-eqb item.id.0 id.0 own))

  abbrev new : BundleParts
  new = with_levels rest (change_level (with_item position item) place.0 rest.levels)

  pub item_again : item_added place.0 position item rest ≡ Ok (with_links b (links_without id b.links))
  item_again =
      let rule : KeepsLevelRule level = rule_at place.0 b.levels level there keeps.levels in
      let here : slice_get rest.levels place.0 ≡ Some (without_item place.1 level) = level_here (without_item place.1) place.0 b.levels level there in
      ap (λ t. unless_broken (cond t (Some (rules.IdTaken item.id)) (put_fault place.0 position item rest.levels)) new) fresh
      ∙ ap (λ o. unless_broken (option_and_then (λ (l : Level). insert_fault l.kind l.items position item) o) new) here
      ∙ ap (λ o. unless_broken o new) (free_again level.kind level.attributes level.items place.1 item rule at)
      ∙ ap (λ ls. fine_value (with_levels rest ls))
      (level_turned (without_item place.1) (with_item position item) place.0 b.levels level there
      (ap (with_items level) (items_again level.kind level.attributes level.items place.1 item rule at)))

-- ---- an item changed and changed back

module _ (b : BundleParts) (place : ℕ × ℕ) (level : Level) (item : Item) (apart : are_different (all_ids b.levels) ≡ true)
    (there : slice_get b.levels place.0 ≡ Some level) (at : slice_get level.items place.1 ≡ Some item) where
  pub turned : (f g : Item → Item) → g (f item) ≡ item → with_change g place (with_change f place b) ≡ b
  turned f g same =
      ap (with_levels b)
      (level_turned (with_changed f place.1) (with_changed g place.1) place.0 b.levels level there
      (ap (with_items level) (item_turned f g place.1 level.items item at same)))

  pub found_at : (id : ItemId) → item.id ≡ id → place_for id b.levels ≡ Ok place
  found_at id own =
      ap (λ o. ok_or o (rules.NoItem id)) (ap (λ (q : ItemId). place_of b.levels q.0) (sym own) ∙ placed_at b.levels place.0 place.1 level item apart there at)

  pub found_changed : (f : Item → Item) → ((i : Item) → (f i).id.0 ≡ i.id.0) → (id : ItemId) → item.id ≡ id → (f item).id ≡ item.id → place_for id (with_change f place b).levels ≡ Ok place
  found_changed f same id own kept =
      let levels = change_level (with_changed f place.1) place.0 b.levels in
      ap (λ o. ok_or o (rules.NoItem id))
      (ap (λ (q : ItemId). place_of levels q.0) (sym (kept ∙ own))
      ∙ placed_at levels place.0 place.1 (with_changed f place.1 level) (f item) (ap are_different (changed_ids f same place.1 place.0 b.levels) ∙ apart)
      (level_here (with_changed f place.1) place.0 b.levels level there) (changed_here f place.1 level.items item at))

pub relabelled_back : RelabelledIsBack
relabelled_back b c id place level item attribute old label keeps there at own was is =
    let f = relabelled attribute label in
    let g = relabelled attribute old in
    let set = λ (a : ℕ) (t : List ℕ) (z : BundleParts) (p : ℕ × ℕ). fine_value (with_change (relabelled a t) p z) in
    let first : fine_value (with_change f place b) ≡ Ok c = sym (ap (λ r. onward r (set attribute label b)) (found_at b place level item keeps.apart there at id own)) ∙ is in
    let back : g (f item) ≡ item = ap (λ ls. record { id = item.id; time = item.time; labels = ls }) (unset item.labels attribute old label was) in
    ap (label_set id attribute old) (sym (ok_same (with_change f place b) c first))
    ∙ ap (λ r. onward r (set attribute old (with_change f place b))) (found_changed b place level item keeps.apart there at f (label_keeps_id attribute label) id own refl)
    ∙ ap fine_value (turned b place level item keeps.apart there at f g back)

pub retimed_back : RetimedIsBack
retimed_back b c id place level item time keeps there at own is =
    let f = retimed time in
    let g = retimed item.time in
    let mid = with_change f place b in
    let first : unless_broken (retime_fault level.kind level.items place.1 time) mid ≡ Ok c =
    sym (ap (λ r. onward r (λ p. unless_broken (new_time_fault p time b.levels) (with_change f p b))) (found_at b place level item keeps.apart there at id own)
    ∙ ap (λ o. unless_broken (option_and_then (λ (l : Level). retime_fault l.kind l.items place.1 time) o) mid) there) ∙ is in
    let p = passed (retime_fault level.kind level.items place.1 time) mid c first in
    let rule : KeepsLevelRule level = rule_at place.0 b.levels level there keeps.levels in
    let changed : KeepsLevelRule (with_changed f place.1 level) = (retime_exact level.kind level.attributes level.items place.1 item time rule at).0 p.free in
    let here : slice_get mid.levels place.0 ≡ Some (with_changed f place.1 level) = level_here (with_changed f place.1) place.0 b.levels level there in
    let now : slice_get (change_at f place.1 level.items) place.1 ≡ Some (f item) = changed_here f place.1 level.items item at in
    let items : change_at g place.1 (change_at f place.1 level.items) ≡ level.items = item_turned f g place.1 level.items item at refl in
    let free : retime_fault level.kind (change_at f place.1 level.items) place.1 item.time ≡ None =
    (retime_exact level.kind level.attributes (change_at f place.1 level.items) place.1 (f item) item.time changed now).1
    (subst (λ zs. KeepsLevelRule (level_of level.kind level.attributes zs)) (sym items) rule) in
    ap (item_retimed id item.time) (sym p.same)
    ∙ retime_goes mid place.0 place.1 (with_changed f place.1 level) (f item) (ap are_different (changed_ids f (time_keeps_id time) place.1 place.0 b.levels) ∙ keeps.apart) here now id item.time own free
    ∙ ap fine_value (turned b place level item keeps.apart there at f g refl)
