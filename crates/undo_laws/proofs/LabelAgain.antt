-- A label is taken back.
use Rattle.std.proofs.Common.{◌≡◌, ℕ, zero, suc, true, false, cond, List, [], ◌∷◌, length, Some, None, Ok, refl, sym, ap, ◌∙◌, leb-true}
use Rattle.std.specs.List.{list_all, slice_get}
use Rattle.std.proofs.lemmas.Bool.{and_parts, le-ltb}
use Rattle.emu_names.specs.declared.limits.TheConstants.{LABEL_BYTES}
use Rattle.emu_names.specs.declared.rules.Broken.TheVariants as rules
use Rattle.level_items.specs.Levels.{is_short, relabelled}
use Rattle.level_items.proofs.Changes.{fit_at}
use Rattle.bundle_state.specs.Linked.{unless_broken}
use Rattle.emu_names.specs.Steps.{onward}
use Rattle.bundle_state.specs.Changed.{with_change, place_for, label_set}
use Rattle.bundle_state.proofs.LinksKept.{goes_on, ok_same, fine_value}
use Rattle.bundle_state.proofs.BuiltKept.{unbroken}
use Rattle.bundle_state.proofs.ChangedLevels.{rule_at}
use Rattle.bundle_state.proofs.ChangedKept.{label_keeps_id}
use Rattle.bundle_edits.specs.Changes.{attribute_of, label_fault, labelled}
use Rattle.bundle_edits.proofs.Spans.{some_same}
use Rattle.undo_laws.proofs.Items.{found_at, found_changed, relabelled_back}
use Rattle.undo_laws.proofs.Back.{LabelsAreBack}

short_at : (labels : List (List ℕ)) (n : ℕ) (t : List ℕ) → list_all is_short labels ≡ true → slice_get labels n ≡ Some t → is_short t ≡ true
short_at [] n t all at = absurd cc
short_at (x ∷ xs) zero t all at = ap is_short (sym (some_same x t at)) ∙ (and_parts (is_short x) (list_all is_short xs) all).0
short_at (x ∷ xs) (suc n) t all at = short_at xs n t (and_parts (is_short x) (list_all is_short xs) all).1 at

pub labels_back : LabelsAreBack
labels_back legal config b c id place level item name label old number def keeps there at own named was is =
    let first : labelled legal id label b (number, def) ≡ Ok c =
    sym (ap (λ r. onward r (λ place. onward (attribute_of name (slice_get config.levels place.0)) (labelled legal id label b))) (found_at b place level item keeps.apart there at id own)
    ∙ ap (λ r. onward r (labelled legal id label b)) named) ∙ is in
    let on = goes_on (unless_broken (label_fault legal def label) b) (label_set id number label) c first in
    let set : label_set id number label b ≡ Ok c = ap (label_set id number label) (unbroken (label_fault legal def label) b on.middle on.first).1 ∙ on.second in
    let f = relabelled number label in
    let made : with_change f place b ≡ c =
    ok_same (with_change f place b) c (sym (ap (λ r. onward r (λ p. fine_value (with_change f p b))) (found_at b place level item keeps.apart there at id own)) ∙ set) in
    let again : place_for id c.levels ≡ Ok place = ap (λ z. place_for id z.levels) (sym made) ∙ found_changed b place level item keeps.apart there at f (label_keeps_id number label) id own refl in
    let fit = fit_at level.kind level.attributes level.items place.1 item (rule_at place.0 b.levels level there keeps.levels) at in
    let low = leb-true (length old) LABEL_BYTES (short_at item.labels number old fit.short was) in
    ap (λ r. onward r (λ place. onward (attribute_of name (slice_get config.levels place.0)) (labelled false id old c))) again
    ∙ ap (λ r. onward r (labelled false id old c)) named
    ∙ ap (λ t. onward (unless_broken (cond t (Some rules.LabelTooLong) None) c) (label_set id number old)) (le-ltb LABEL_BYTES (length old) low)
    ∙ relabelled_back b c id place level item number old label keeps there at own was set
