-- Additions of bundles, in any order.
use Rattle.std.proofs.Common.{◌≡◌, ◌⊎◌, inl, inr, Bool, true, false, cond, List, [], ◌∷◌, Option, Some, None, Ok, nat_le, nat_lt, ◌+◌, refl, sym, ◌∙◌, ap, subst}
use Rattle.emu_names.specs.declared.limits.TheConstants.{ALL_ITEMS, BUNDLES}
use Rattle.emu_names.specs.declared.names.BundleKey.{BundleKey}
use Rattle.emu_names.specs.declared.rules.Broken.TheVariants as rules
use Rattle.emu_names.specs.declared.rules.What.TheVariants as counted
use Rattle.emu_names.specs.Steps.{onward}
use Rattle.level_items.specs.declared.annot.Annot.{Annot}
use Rattle.db_config.specs.declared.parts.ConfigParts.{ConfigParts}
use Rattle.db_config.specs.Valid.{is_valid}
use Rattle.bundle_state.specs.Bundle.{BundleParts, item_count}
use Rattle.bundle_state.specs.Built.{built}
use Rattle.bundle_state.proofs.LinksKept.{fine_value, ok_same}
use Rattle.bundle_edits.specs.declared.bundle_change.Counts.{Counts}
use Rattle.bundle_edits.specs.declared.edit.Edit.{Edit}
use Rattle.bundle_edits.specs.declared.edit.Edit.TheVariants.{AddBundle}
use Rattle.bundle_edits.specs.Changes.{changed, unless_too_many}
use Rattle.edit_rules.specs.declared.acts.Act.TheVariants as acts
use Rattle.edit_rules.specs.declared.acts.Entry.{Entry}
use Rattle.edit_rules.specs.Database.{DatabaseParts, empty_database, same_key, bundle_with, counts_of, KeepsDatabaseRules}
use Rattle.edit_rules.specs.Effects.{after, at_place, edit_effect, effect, found_or, in_turn, replayed}
use Rattle.edit_rules.proofs.KeyPlaces.{key_same, same_itself}
use Rattle.edit_rules.proofs.Orders.{Goes, found_for, goes, lists_same}
use Rattle.edit_rules.proofs.Replay.{empty_keeps, legal_keeps}
use Rattle.edit_rules.proofs.Stays.{limit_before, limit_passed}
use Rattle.edit_rules.proofs.Turns.{acts_keep_rules, at_ok, goes_on, told_same}
use Rattle.work_script.specs.States.{Adds, AreAdditions, HaveSameAdditions, AdditionsInAnyOrder, addition}

-- One addition.

-- an act of one edit does what the edit does
one_edit : (d next : DatabaseParts) (edit : Edit) → effect d (acts.Edits (edit ∷ [])) ≡ Ok next → edit_effect d edit ≡ Ok next
one_edit d next edit is =
    let on = goes_on (at_place 1 (edit_effect d edit)) (λ last. in_turn 2 last []) next is in
    at_ok 1 (edit_effect d edit) on.middle on.first ∙ ap fine_value (told_same on.middle next on.second)

-- the bundle of an annotation came to a database in which none had its key
record IsAdded (d next : DatabaseParts) (key : BundleKey) (annot : Annot) : Type 0 where
  bundle : BundleParts
  made : built d.config key annot ≡ Ok bundle
  free : bundle_with key d.bundles ≡ None
  found : (k : BundleKey) → bundle_with k next.bundles ≡ cond (same_key key k) (Some bundle) (bundle_with k d.bundles)
  config : next.config ≡ d.config

added : (d next : DatabaseParts) (key : BundleKey) (annot : Annot) → KeepsDatabaseRules d → effect d (addition key annot) ≡ Ok next → IsAdded d next key annot
added d next key annot keeps is = by (bundle_with key d.bundles) refl on.made
  where
    counts : Counts
    counts = counts_of d.bundles

    on : Goes d next (AddBundle key annot)
    on = goes d next (AddBundle key annot) keeps (one_edit d next (AddBundle key annot) is)

    by : (old : Option BundleParts) → bundle_with key d.bundles ≡ old → changed d.config counts old (AddBundle key annot) ≡ Ok on.new → IsAdded d next key annot
    by (Some b) was made = absurd cc
    by None was made =
        let room = limit_before (nat_le BUNDLES counts.bundles) (rules.TooMany counted.Bundles) (onward (built d.config key annot) (unless_too_many counts)) on.new made in
        let inner = goes_on (built d.config key annot) (unless_too_many counts) on.new room.1 in
        let last = limit_passed (nat_lt ALL_ITEMS (counts.items + item_count inner.middle.levels)) (rules.TooMany counted.AllItems) (Some inner.middle) on.new inner.second in
        record {
          bundle = inner.middle;
          made = inner.first;
          free = was;
          found = λ k. ap (λ (e : DatabaseParts). bundle_with k e.bundles) (sym on.is) ∙ found_for k key on.new d.bundles on.own
              ∙ ap (λ (o : Option BundleParts). cond (same_key key k) o (bundle_with k d.bundles)) (sym last.1);
          config = ap (λ (e : DatabaseParts). e.config) (sym on.is);
        }

-- the first of some additions, and those behind it
record Begins (d last : DatabaseParts) (e : Entry) (es : List Entry) (key : BundleKey) (annot : Annot) : Type 0 where
  next : DatabaseParts
  one : IsAdded d next key annot
  keeps : KeepsDatabaseRules next
  rest : replayed next es ≡ Ok last

begins : (d last : DatabaseParts) (e : Entry) (es : List Entry) (key : BundleKey) (annot : Annot) → e.act ≡ addition key annot → KeepsDatabaseRules d
    → replayed d (e ∷ es) ≡ Ok last → Begins d last e es key annot
begins d last e es key annot same keeps is =
    let on = goes_on (effect d e.act) (λ next. replayed next es) last is in
    record {
      next = on.middle;
      one = added d on.middle key annot keeps (sym (ap (effect d) same) ∙ on.first);
      keeps = acts_keep_rules d on.middle e.act keeps on.first;
      rest = on.second;
    }

none_some : {A : Type 0} (x : A) → None ≡ Some x → ⊥
none_some x e = cc

-- All additions of a history.

-- a bundle that is there stays
pub stays : (es : List Entry) (d last : DatabaseParts) (k : BundleKey) (b : BundleParts) → AreAdditions es → KeepsDatabaseRules d → replayed d es ≡ Ok last
    → bundle_with k d.bundles ≡ Some b → bundle_with k last.bundles ≡ Some b
stays [] d last k b additions keeps is there = ap (λ (e : DatabaseParts). bundle_with k e.bundles) (sym (told_same d last is)) ∙ there
stays (e ∷ es) d last k b additions keeps is there =
    let key : BundleKey = additions.0.0 in
    let on = begins d last e es key additions.0.1 additions.0.2 keeps is in
    stays es on.next last k b additions.1 on.keeps on.rest (by key on.next on.one (same_key key k) refl)
  where
    by : (key : BundleKey) {annot : Annot} (next : DatabaseParts) (one : IsAdded d next key annot) (t : Bool) → same_key key k ≡ t → bundle_with k next.bundles ≡ Some b
    by key next one true same =
        absurd (none_some b (sym one.free ∙ ap (λ (q : BundleKey). bundle_with q d.bundles) (key_same key k same) ∙ there))
    by key next one false apart = one.found k ∙ ap (λ (t : Bool). cond t (Some one.bundle) (bundle_with k d.bundles)) apart ∙ there

-- a bundle that is added is found, as its annotation makes it
pub record IsFound (config : ConfigParts) (last : DatabaseParts) (key : BundleKey) (annot : Annot) : Type 0 where
  pub bundle : BundleParts
  pub made : built config key annot ≡ Ok bundle
  pub found : bundle_with key last.bundles ≡ Some bundle

pub adds_found : (es : List Entry) (d last : DatabaseParts) (key : BundleKey) (annot : Annot) → AreAdditions es → KeepsDatabaseRules d → replayed d es ≡ Ok last
    → Adds es key annot → IsFound d.config last key annot
adds_found [] d last key annot additions keeps is adds = absurd adds
adds_found (e ∷ es) d last key annot additions keeps is (inl same) =
    let on = begins d last e es key annot same keeps is in
    record {
      bundle = on.one.bundle;
      made = on.one.made;
      found = stays es on.next last key on.one.bundle additions.1 on.keeps on.rest
          (on.one.found key ∙ ap (λ (t : Bool). cond t (Some on.one.bundle) (bundle_with key d.bundles)) (same_itself key));
    }
adds_found (e ∷ es) d last key annot additions keeps is (inr more) =
    let on = begins d last e es additions.0.0 additions.0.1 additions.0.2 keeps is in
    subst (λ (c : ConfigParts). IsFound c last key annot) on.one.config (adds_found es on.next last key annot additions.1 on.keeps on.rest more)

-- where no addition has a key, nothing is found under it
pub nowhere : (es : List Entry) (d last : DatabaseParts) (k : BundleKey) → AreAdditions es → KeepsDatabaseRules d → replayed d es ≡ Ok last
    → bundle_with k d.bundles ≡ None → ((key : BundleKey) (annot : Annot) → Adds es key annot → same_key key k ≡ false) → bundle_with k last.bundles ≡ None
nowhere [] d last k additions keeps is free apart = ap (λ (e : DatabaseParts). bundle_with k e.bundles) (sym (told_same d last is)) ∙ free
nowhere (e ∷ es) d last k additions keeps is free apart =
    let key : BundleKey = additions.0.0 in
    let annot : Annot = additions.0.1 in
    let on = begins d last e es key annot additions.0.2 keeps is in
    nowhere es on.next last k additions.1 on.keeps on.rest
    (on.one.found k ∙ ap (λ (t : Bool). cond t (Some on.one.bundle) (bundle_with k d.bundles)) (apart key annot (inl additions.0.2)) ∙ free)
    (λ other more adds. apart other more (inr adds))

-- the configuration stays
pub config_stays : (es : List Entry) (d last : DatabaseParts) → AreAdditions es → KeepsDatabaseRules d → replayed d es ≡ Ok last → last.config ≡ d.config
config_stays [] d last additions keeps is = ap (λ (e : DatabaseParts). e.config) (sym (told_same d last is))
config_stays (e ∷ es) d last additions keeps is =
    let on = begins d last e es additions.0.0 additions.0.1 additions.0.2 keeps is in
    config_stays es on.next last additions.1 on.keeps on.rest ∙ on.one.config

-- Two histories.

-- an addition of a key, or that there is none
record HasKey (es : List Entry) (k : BundleKey) : Type 0 where
  key : BundleKey
  annot : Annot
  adds : Adds es key annot
  same : same_key key k ≡ true

abbrev LacksKey : List Entry → BundleKey → Type 0
LacksKey es k = (key : BundleKey) (annot : Annot) → Adds es key annot → same_key key k ≡ false

pub addition_same : (one other : BundleKey) (first second : Annot) → addition one first ≡ addition other second → one ≡ other
addition_same one other first second e = cc

either_key : (es : List Entry) (k : BundleKey) → AreAdditions es → HasKey es k ⊎ LacksKey es k
either_key [] k additions = inr (λ key annot adds. absurd adds)
either_key (e ∷ es) k additions = by (same_key additions.0.0 k) refl (either_key es k additions.1)
  where
    own : (key : BundleKey) (annot : Annot) → e.act ≡ addition key annot → key ≡ additions.0.0
    own key annot same = sym (addition_same additions.0.0 key additions.0.1 annot (sym additions.0.2 ∙ same))

    by : (t : Bool) → same_key additions.0.0 k ≡ t → HasKey es k ⊎ LacksKey es k → HasKey (e ∷ es) k ⊎ LacksKey (e ∷ es) k
    by true same rest = inl (record { key = additions.0.0; annot = additions.0.1; adds = inl additions.0.2; same = same })
    by false apart (inl has) = inl (record { key = has.key; annot = has.annot; adds = inr has.adds; same = has.same })
    by false apart (inr lacks) = inr (λ key annot adds. lacking key annot adds lacks apart)
      where
        lacking : (key : BundleKey) (annot : Annot) → Adds (e ∷ es) key annot → LacksKey es k → same_key additions.0.0 k ≡ false → same_key key k ≡ false
        lacking key annot (inl same) lacks apart = ap (λ (q : BundleKey). same_key q k) (own key annot same) ∙ apart
        lacking key annot (inr adds) lacks apart = lacks key annot adds

module _ (config : ConfigParts) (one other : List Entry) (first second : DatabaseParts) (valid : is_valid config ≡ true) (these : AreAdditions one) (those : AreAdditions other)
    (same : HaveSameAdditions one other) (first_is : after config one ≡ Ok first) (second_is : after config other ≡ Ok second) where
  start : KeepsDatabaseRules (empty_database config)
  start = empty_keeps config valid

  alike : (k : BundleKey) → bundle_with k first.bundles ≡ bundle_with k second.bundles
  alike k = by (either_key one k these)
    where
      by : HasKey one k ⊎ LacksKey one k → bundle_with k first.bundles ≡ bundle_with k second.bundles
      by (inl has) =
          let a = adds_found one (empty_database config) first has.key has.annot these start first_is has.adds in
          let b = adds_found other (empty_database config) second has.key has.annot those start second_is ((same has.key has.annot).0 has.adds) in
          let bundle : a.bundle ≡ b.bundle = ok_same a.bundle b.bundle (sym a.made ∙ b.made) in
          let at_key : bundle_with has.key first.bundles ≡ bundle_with has.key second.bundles = a.found ∙ ap Some bundle ∙ sym b.found in
          subst (λ (q : BundleKey). bundle_with q first.bundles ≡ bundle_with q second.bundles) (key_same has.key k has.same) at_key
      by (inr lacks) =
          nowhere one (empty_database config) first k these start first_is refl lacks
          ∙ sym (nowhere other (empty_database config) second k those start second_is refl (λ key annot adds. lacks key annot ((same key annot).1 adds)))

  -- a legal history of it keeps the rules
  kept : (es : List Entry) (last : DatabaseParts) → after config es ≡ Ok last → KeepsDatabaseRules last
  kept es last is = subst KeepsDatabaseRules (ap (found_or (empty_database config)) is) (legal_keeps config es valid (last, is))

  abbrev pub parts_as : ConfigParts → List BundleParts → DatabaseParts
  parts_as c bundles = record { config = c; bundles = bundles }

  in_any_order : first ≡ second
  in_any_order =
      let bundles : first.bundles ≡ second.bundles =
      lists_same first.bundles second.bundles (kept one first first_is).rising (kept other second second_is).rising alike in
      let configs : first.config ≡ second.config =
      config_stays one (empty_database config) first these start first_is ∙ sym (config_stays other (empty_database config) second those start second_is) in
      ap (λ (c : ConfigParts). parts_as c first.bundles) configs ∙ ap (λ (bs : List BundleParts). parts_as second.config bs) bundles

pub additions_in_any_order : AdditionsInAnyOrder
additions_in_any_order config one other first second valid these those same first_is second_is =
    in_any_order config one other first second valid these those same first_is second_is
