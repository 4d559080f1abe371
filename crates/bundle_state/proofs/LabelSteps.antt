-- The rule that the labels of a new item break first, a label at a time.
use Rattle.std.proofs.Common.{◌≡◌, ℕ, ◌+◌, ◌<◌, List, [], ◌∷◌, ◌++◌, length, get_or, take, drop, sym, ap, ◌∙◌, Option, Some, None, Bool}
use Rattle.std.specs.List.{find}
use Rattle.std.proofs.lemmas.List.{map-append}
use Rattle.emu_names.specs.declared.rules.Broken.{Broken}
use Rattle.level_items.specs.declared.annot.AnnotLabel.{AnnotLabel}
use Rattle.db_config.specs.declared.attributes.AttributeDef.{AttributeDef}
use Rattle.emu_names.specs.Texts.{same_text}
use Rattle.bundle_state.proofs.Walks.{drop_at, take_at}
use Rattle.bundle_state.proofs.FaultSteps.{first_fault, no_fault}
use Rattle.bundle_state.specs.Labels.{given_label_fault, new_labels_fault}
use Rattle.bundle_state.specs.Rules.{label_names}

-- the rule that one label breaks
abbrev pub one : Bool → List AttributeDef → List (List ℕ) → AnnotLabel → Option Broken
one tested defs named l = given_label_fault tested named l (find (λ d. same_text d.name l.name) defs)

pub labels_walk : (tested : Bool) (defs : List AttributeDef) (labels : List AnnotLabel) (i : ℕ) (l : AnnotLabel) → i < length labels → l ≡ get_or labels i l →
    one tested defs (label_names (take i labels)) l ≡ None →
    new_labels_fault tested defs (label_names (take (i + 1) labels)) (drop (i + 1) labels) ≡ new_labels_fault tested defs (label_names (take i labels)) (drop i labels)
labels_walk tested defs labels i l low is good =
    let named : List (List ℕ) = label_names (take i labels) in
    let rest = drop (i + 1) labels in
    ap (λ front. new_labels_fault tested defs front rest) (ap label_names (take_at labels i l low is) ∙ map-append (λ (a : AnnotLabel). a.name) (take i labels) (l ∷ []))
    ∙ sym (no_fault (one tested defs named l) (new_labels_fault tested defs (named ++ l.name ∷ []) rest) good)
    ∙ ap (λ back. new_labels_fault tested defs named back) (sym (drop_at labels i l low is))

pub labels_stop : (tested : Bool) (defs : List AttributeDef) (labels : List AnnotLabel) (i : ℕ) (l : AnnotLabel) (r : Broken) → i < length labels → l ≡ get_or labels i l →
    one tested defs (label_names (take i labels)) l ≡ Some r → new_labels_fault tested defs (label_names (take i labels)) (drop i labels) ≡ Some r
labels_stop tested defs labels i l r low is bad =
    let named : List (List ℕ) = label_names (take i labels) in
    ap (λ back. new_labels_fault tested defs named back) (drop_at labels i l low is)
    ∙ first_fault (one tested defs named l) (new_labels_fault tested defs (named ++ l.name ∷ []) (drop (i + 1) labels)) r bad
