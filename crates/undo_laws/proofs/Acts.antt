-- What takes an act back leads to the database before it.
use Rattle.std.proofs.Common.{◌≡◌, ◌≤◌, ℕ, suc, ◌+◌, Bool, true, false, cond, List, [], ◌∷◌, ◌++◌, length, All, Option, Some, None, Result, Ok, Err, nat_le, nat_lt, refl, sym, ◌∙◌, ap, arith}
use Rattle.std.specs.List.{list_all}
use Rattle.std.proofs.lemmas.Bool.{true≢false, and_parts, cond-false, le-ltb, ltb-false}
use Rattle.std.proofs.lemmas.List.Elements.{All-weaker}
use Rattle.emu_names.specs.declared.limits.TheConstants.{ALL_ITEMS, BUNDLES, LIST_EDITS}
use Rattle.emu_names.specs.declared.names.BundleKey.{BundleKey}
use Rattle.emu_names.specs.declared.rules.Broken.{Broken}
use Rattle.emu_names.specs.declared.rules.Broken.TheVariants as rules
use Rattle.emu_names.specs.declared.rules.What.TheVariants as counted
use Rattle.emu_names.specs.Steps.{onward}
use Rattle.level_items.specs.declared.annot.Annot.{Annot}
use Rattle.db_config.specs.declared.parts.ConfigParts.{ConfigParts}
use Rattle.bundle_state.specs.Bundle.{BundleParts, item_count}
use Rattle.bundle_state.specs.Built.{built}
use Rattle.bundle_state.proofs.LinksKept.{ok_same, fine_value}
use Rattle.bundle_edits.specs.declared.bundle_change.Counts.{Counts}
use Rattle.bundle_edits.specs.declared.edit.Edit.{Edit}
use Rattle.bundle_edits.specs.declared.edit.Edit.TheVariants as edits
use Rattle.bundle_edits.specs.Edits.{key_of}
use Rattle.bundle_edits.specs.Changes.{unless_too_many, bundle_added, bundle_changed, if_kept, is_kept_by, missing_changed, changed}
use Rattle.edit_rules.specs.declared.acts.Act.{Act}
use Rattle.edit_rules.specs.declared.acts.Act.TheVariants as acts
use Rattle.edit_rules.specs.declared.acts.Breach.{Breach}
use Rattle.edit_rules.specs.Acts.{has_key}
use Rattle.edit_rules.specs.Database.{DatabaseParts, bundle_with, counts_of, KeepsDatabaseRules}
use Rattle.edit_rules.specs.Effects.{put_back, edit_effect, at_place, in_turn as placed_turn, effect}
use Rattle.edit_rules.proofs.KeyPlaces.{key_same}
use Rattle.edit_rules.proofs.Orders.{Goes, goes, found_for}
use Rattle.edit_rules.proofs.Stays.{limit_passed, limit_before, old_is, edits_keep_rules}
use Rattle.edit_rules.proofs.Turns.{goes_on, at_ok, told_same}
use Rattle.annot_json.specs.Given.{given}
use Rattle.annot_json.proofs.Built.{given_builds}
use Rattle.edit_undo.specs.declared.faults.NoUndo.{NoUndo}
use Rattle.edit_undo.specs.declared.faults.NoUndo.TheVariants as missing
use Rattle.edit_undo.specs.Inverse.{own_inverse, edit_inverse, uncounted, from_next, edits_inverse, bundle_for, if_few}
use Rattle.edit_undo.specs.Inner.Turns.{IsOwnEdit}
use Rattle.edit_undo.proofs.InTurn.{inner_stays, passes_alone}
use Rattle.edit_undo.proofs.Own.{own_all}
use Rattle.undo_laws.specs.Laws.{ActsAreTakenBack}
use Rattle.undo_laws.proofs.Steps.{in_turn, in_turn-append}
use Rattle.undo_laws.proofs.Walk.{IsEditOf, bundles_enough, found_own}
use Rattle.undo_laws.proofs.Bundles.{added_bundle_back, dropped_bundle_back}
use Rattle.undo_laws.proofs.Edits.{edit_back}

-- one edit of a database
abbrev step : Edit → DatabaseParts → Result DatabaseParts Broken
step e d = edit_effect d e

-- Places do not matter.

to_plain : (place : ℕ) (es : List Edit) (d next : DatabaseParts) → placed_turn place d es ≡ Ok next → in_turn step es d ≡ Ok next
to_plain place [] d next is = ap fine_value (told_same d next is)
to_plain place (e ∷ es) d next is =
    let on = goes_on (at_place place (edit_effect d e)) (λ m. placed_turn (suc place) m es) next is in
    ap (λ (r : Result DatabaseParts Broken). onward r (λ m. in_turn step es m)) (at_ok place (edit_effect d e) on.middle on.first)
    ∙ to_plain (suc place) es on.middle next on.second

abbrev told_value : DatabaseParts → Result DatabaseParts Breach
told_value d = Ok d

to_placed : (place : ℕ) (es : List Edit) (d next : DatabaseParts) → in_turn step es d ≡ Ok next → placed_turn place d es ≡ Ok next
to_placed place [] d next is = ap told_value (ok_same d next is)
to_placed place (e ∷ es) d next is =
    let on = goes_on (edit_effect d e) (λ m. in_turn step es m) next is in
    ap (λ (r : Result DatabaseParts Broken). onward (at_place place r) (λ m. placed_turn (suc place) m es)) on.first
    ∙ to_placed (suc place) es on.middle next on.second

-- An edit that breaks no rule breaks none where nothing else is counted.

added_alone : (config : ConfigParts) (counts : Counts) (key : BundleKey) (annot : Annot) (o : Option BundleParts) → bundle_added config counts key annot ≡ Ok o →
    bundle_added config uncounted key annot ≡ Ok o
added_alone config counts key annot o is =
    let first = limit_before (nat_le BUNDLES counts.bundles) (rules.TooMany counted.Bundles) (onward (built config key annot) (unless_too_many counts)) o is in
    let on = goes_on (built config key annot) (unless_too_many counts) o first.1 in
    let c = on.middle in
    let last = limit_passed (nat_lt ALL_ITEMS (counts.items + item_count c.levels)) (rules.TooMany counted.AllItems) (Some c) o on.second in
    let low = ltb-false ALL_ITEMS (counts.items + item_count c.levels) last.0 in
    ap (λ (r : Result BundleParts Broken). onward r (unless_too_many uncounted)) on.first
    ∙ cond-false (nat_lt ALL_ITEMS (0 + item_count c.levels)) (Err (rules.TooMany counted.AllItems)) (Ok (Some c)) (le-ltb ALL_ITEMS (0 + item_count c.levels) (omega (arith, low)))
    ∙ ap fine_value last.1

changed_alone : (config : ConfigParts) (counts : Counts) (old : Option BundleParts) (e : Edit) (o : Option BundleParts) → changed config counts old e ≡ Ok o → changed config uncounted old e ≡ Ok o
changed_alone config counts None (edits.AddBundle key annot) o is = added_alone config counts key annot o is
changed_alone config counts None (edits.DropBundle key) o is = is
changed_alone config counts None (edits.AddItem key level position item) o is = is
changed_alone config counts None (edits.RemoveItem key id) o is = is
changed_alone config counts None (edits.SetLabel key id attribute label) o is = is
changed_alone config counts None (edits.SetSegment key id start dur) o is = is
changed_alone config counts None (edits.MoveBoundary key id start) o is = is
changed_alone config counts None (edits.SetPoint key id at) o is = is
changed_alone config counts None (edits.Split key id new_id start) o is = is
changed_alone config counts None (edits.Merge key id) o is = is
changed_alone config counts None (edits.AddLink key from to) o is = is
changed_alone config counts None (edits.RemoveLink key from to) o is = is
changed_alone config counts None (edits.LinkTimes key upper lower) o is = is
changed_alone config counts None (edits.PutItem key level position item) o is = is
changed_alone config counts None (edits.PutLabel key id attribute label) o is = is
changed_alone config counts None (edits.PutLink key from to place) o is = is
changed_alone config counts (Some b) e o is =
    let on = goes_on (bundle_changed config counts e b) (if_kept e) o is in
    ap (λ (r : Result BundleParts Broken). onward r (if_kept e)) (passes_alone config counts e b on.middle on.first) ∙ on.second

-- One edit.

alone : (r : Result DatabaseParts Broken) (d : DatabaseParts) → r ≡ Ok d → onward r (λ t. fine_value t) ≡ Ok d
alone r d is = ap (λ (x : Result DatabaseParts Broken). onward x (λ t. fine_value t)) is

-- an edit of a bundle that is not there adds it
missing_back : (d m : DatabaseParts) (e : Edit) → KeepsDatabaseRules d → bundle_with (key_of e) d.bundles ≡ None → edit_effect d e ≡ Ok m →
    in_turn step (edit_inverse d.config None e) m ≡ Ok d
missing_back d m e keeps none is = by e none (sym (ap (λ o. onward (changed d.config (counts_of d.bundles) o e) (put_back d e)) none) ∙ is) is
  where
    by : (f : Edit) → bundle_with (key_of f) d.bundles ≡ None → onward (missing_changed d.config (counts_of d.bundles) f) (put_back d f) ≡ Ok m → edit_effect d f ≡ Ok m →
        in_turn step (edit_inverse d.config None f) m ≡ Ok d
    by (edits.AddBundle key annot) gone h whole =
        alone (edit_effect m (edits.DropBundle key)) d (added_bundle_back d m key annot keeps.config gone keeps.rising whole)
    by (edits.DropBundle key) gone h whole = absurd cc
    by (edits.AddItem key level position item) gone h whole = absurd cc
    by (edits.RemoveItem key id) gone h whole = absurd cc
    by (edits.SetLabel key id attribute label) gone h whole = absurd cc
    by (edits.SetSegment key id start dur) gone h whole = absurd cc
    by (edits.MoveBoundary key id start) gone h whole = absurd cc
    by (edits.SetPoint key id at) gone h whole = absurd cc
    by (edits.Split key id new_id start) gone h whole = absurd cc
    by (edits.Merge key id) gone h whole = absurd cc
    by (edits.AddLink key from to) gone h whole = absurd cc
    by (edits.RemoveLink key from to) gone h whole = absurd cc
    by (edits.LinkTimes key upper lower) gone h whole = absurd cc
    by (edits.PutItem key level position item) gone h whole = absurd cc
    by (edits.PutLabel key id attribute label) gone h whole = absurd cc
    by (edits.PutLink key from to place) gone h whole = absurd cc

-- an edit of a bundle that is there
own_back : (d m : DatabaseParts) (e : Edit) (b : BundleParts) → KeepsDatabaseRules d → bundle_with (key_of e) d.bundles ≡ Some b → edit_effect d e ≡ Ok m →
    in_turn step (own_inverse d.config b e) m ≡ Ok d
own_back d m e b keeps there is = by (is_kept_by e) refl
  where
    dropped : (f : Edit) → is_kept_by f ≡ false → bundle_with (key_of f) d.bundles ≡ Some b → edit_effect d f ≡ Ok m → in_turn step (own_inverse d.config b f) m ≡ Ok d
    dropped (edits.DropBundle key) kept here h =
        let own = old_is d key (Some b) keeps here in
        let made : built d.config key (given d.config b) ≡ Ok b =
        ap (λ (k : BundleKey). built d.config k (given d.config b)) (sym (found_own key b d.bundles here)) ∙ given_builds d.config b keeps.config own.0.fits own.0.rules in
        alone (edit_effect m (edits.AddBundle key (given d.config b))) d (dropped_bundle_back d m key (given d.config b) b keeps here made h)
    dropped (edits.AddBundle key annot) kept here h = absurd (true≢false kept)
    dropped (edits.AddItem key level position item) kept here h = absurd (true≢false kept)
    dropped (edits.RemoveItem key id) kept here h = absurd (true≢false kept)
    dropped (edits.SetLabel key id attribute label) kept here h = absurd (true≢false kept)
    dropped (edits.SetSegment key id start dur) kept here h = absurd (true≢false kept)
    dropped (edits.MoveBoundary key id start) kept here h = absurd (true≢false kept)
    dropped (edits.SetPoint key id at) kept here h = absurd (true≢false kept)
    dropped (edits.Split key id new_id start) kept here h = absurd (true≢false kept)
    dropped (edits.Merge key id) kept here h = absurd (true≢false kept)
    dropped (edits.AddLink key from to) kept here h = absurd (true≢false kept)
    dropped (edits.RemoveLink key from to) kept here h = absurd (true≢false kept)
    dropped (edits.LinkTimes key upper lower) kept here h = absurd (true≢false kept)
    dropped (edits.PutItem key level position item) kept here h = absurd (true≢false kept)
    dropped (edits.PutLabel key id attribute label) kept here h = absurd (true≢false kept)
    dropped (edits.PutLink key from to place) kept here h = absurd (true≢false kept)

    by : (t : Bool) → is_kept_by e ≡ t → in_turn step (own_inverse d.config b e) m ≡ Ok d
    by true kept =
        bundles_enough d m e (own_inverse d.config b e) b keeps there kept
        (All-weaker (IsOwnEdit (key_of e)) (IsEditOf (key_of e)) (λ f of. record { own = of.own; keeps = inner_stays f of.inner }) (own_inverse d.config b e) (own_all d.config b e kept))
        (λ c fine whole made. edit_back d e (counts_of d.bundles) b c keeps there kept fine whole made) is
    by false kept = dropped e kept there is

one_back : (d m : DatabaseParts) (e : Edit) → KeepsDatabaseRules d → edit_effect d e ≡ Ok m → in_turn step (edit_inverse d.config (bundle_with (key_of e) d.bundles) e) m ≡ Ok d
one_back d m e keeps is = by (bundle_with (key_of e) d.bundles) refl
  where
    by : (o : Option BundleParts) → bundle_with (key_of e) d.bundles ≡ o → in_turn step (edit_inverse d.config o e) m ≡ Ok d
    by None there = missing_back d m e keeps there is
    by (Some b) there = own_back d m e b keeps there is

-- Edits one after another.

all_back : (key : BundleKey) (es : List Edit) (d next : DatabaseParts) → KeepsDatabaseRules d → list_all (has_key key) es ≡ true → in_turn step es d ≡ Ok next →
    in_turn step (edits_inverse d.config (bundle_with key d.bundles) es) next ≡ Ok d
all_back key [] d next keeps all is = sym is
all_back key (e ∷ es) d next keeps all is =
    let parts = and_parts (has_key key e) (list_all (has_key key) es) all in
    let own : key_of e ≡ key = key_same (key_of e) key parts.0 in
    let on = goes_on (edit_effect d e) (λ m. in_turn step es m) next is in
    let m = on.middle in
    let g : Goes d m e = goes d m e keeps on.first in
    let old = bundle_with key d.bundles in
    let same_old : bundle_with (key_of e) d.bundles ≡ old = ap (λ (k : BundleKey). bundle_with k d.bundles) own in
    let config : m.config ≡ d.config = sym (ap (λ (z : DatabaseParts). z.config) g.is) in
    let there : bundle_with key m.bundles ≡ g.new =
    ap (λ (z : DatabaseParts). bundle_with key z.bundles) (sym g.is)
    ∙ found_for key (key_of e) g.new d.bundles g.own
    ∙ ap (λ (t : Bool). cond t g.new old) parts.0 in
    let free : changed d.config uncounted old e ≡ Ok g.new = changed_alone d.config (counts_of d.bundles) old e g.new (ap (λ o. changed d.config (counts_of d.bundles) o e) (sym same_old) ∙ g.made) in
    let later : in_turn step (edits_inverse d.config g.new es) next ≡ Ok m =
    ap (λ o. in_turn step (edits_inverse d.config o es) next) (sym there)
    ∙ ap (λ (z : ConfigParts). in_turn step (edits_inverse z (bundle_with key m.bundles) es) next) (sym config)
    ∙ all_back key es m next (edits_keep_rules d m e keeps on.first) parts.1 on.second in
    ap (λ r. in_turn step (from_next (λ o. edits_inverse d.config o es) r ++ edit_inverse d.config old e) next) free
    ∙ in_turn-append step (edits_inverse d.config g.new es) (edit_inverse d.config old e) next
    ∙ ap (λ (r : Result DatabaseParts Broken). onward r (λ z. in_turn step (edit_inverse d.config old e) z)) later
    ∙ ap (λ o. in_turn step (edit_inverse d.config o e) m) (sym same_old)
    ∙ one_back d m e keeps on.first

-- Acts.

abbrev act_value : Act → Result Act NoUndo
act_value act = Ok act

act_same : (one other : Act) → act_value one ≡ Ok other → one ≡ other
act_same one other is = cc

few_is : (es : List Edit) (back : Act) → if_few es ≡ Ok back → acts.Edits es ≡ back
few_is es back is = by (nat_le (length es) LIST_EDITS) is
  where
    by : (t : Bool) → cond t (act_value (acts.Edits es)) (Err missing.TooManyEdits) ≡ Ok back → acts.Edits es ≡ back
    by true h = act_same (acts.Edits es) back h
    by false h = absurd cc

list_back : (key : BundleKey) (es : List Edit) (d next : DatabaseParts) → KeepsDatabaseRules d → list_all (has_key key) es ≡ true → placed_turn 1 d es ≡ Ok next →
    placed_turn 1 next (edits_inverse d.config (bundle_for (acts.Edits es) d.bundles) es) ≡ Ok d
list_back key [] d next keeps all is = sym is
list_back key (e ∷ es) d next keeps all is =
    let own : key_of e ≡ key = key_same (key_of e) key (and_parts (has_key key e) (list_all (has_key key) es) all).0 in
    ap (λ (k : BundleKey). placed_turn 1 next (edits_inverse d.config (bundle_with k d.bundles) (e ∷ es))) own
    ∙ to_placed 1 (edits_inverse d.config (bundle_with key d.bundles) (e ∷ es)) next d (all_back key (e ∷ es) d next keeps all (to_plain 1 (e ∷ es) d next is))

pub acts_taken_back : ActsAreTakenBack
acts_taken_back d next (acts.Edits es) back keeps one is inverse =
    ap (λ (act : Act). effect next act) (sym (few_is (edits_inverse d.config (bundle_for (acts.Edits es) d.bundles) es) back inverse))
    ∙ list_back one.0 es d next keeps one.1 is
acts_taken_back d next (acts.Config edit) back keeps one is inverse = absurd cc
