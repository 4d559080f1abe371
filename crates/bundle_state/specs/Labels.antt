-- The labels that an item of a bundle is given, and the rule that they break first (EMU-SDMS Manual, "The emuDB
-- format": `legalLabels`).
use Rattle.std.specs.Prelude.{ℕ, Bool, not, ◌||◌, List, [], ◌∷◌, ◌++◌, length, Option, Some, None, nat_lt, if◌then◌else◌}
use Rattle.std.specs.List.{list_any, find}
use Rattle.std.specs.Option.{option_or}
use Rattle.emu_names.specs.declared.limits.TheConstants.{LABEL_BYTES}
use Rattle.emu_names.specs.declared.rules.Broken.{Broken}
use Rattle.emu_names.specs.declared.rules.Broken.TheVariants as rules
use Rattle.emu_names.specs.Texts.{same_text}
use Rattle.level_items.specs.declared.annot.AnnotLabel.{AnnotLabel}
use Rattle.db_config.specs.declared.attributes.AttributeDef.{AttributeDef}
use Rattle.db_config.specs.Lookups.{is_legal_for}

-- a label that is too long, or, where that is tested, that the attribute does not allow
abbrev pub label_fault : Bool → AttributeDef → List ℕ → Option Broken
label_fault tested def label =
    if nat_lt LABEL_BYTES (length label) then Some rules.LabelTooLong
    else if not tested || is_legal_for label def then None
    else Some rules.IllegalLabel

-- a label for an attribute, behind labels for attributes of these names
abbrev pub given_label_fault : Bool → List (List ℕ) → AnnotLabel → Option AttributeDef → Option Broken
given_label_fault tested named l None = Some (rules.NoAttribute l.name)
given_label_fault tested named l (Some def) =
    if list_any (same_text l.name) named then Some (rules.TwoLabels l.name) else label_fault tested def l.value

-- the labels of a new item, behind labels for attributes of these names: for each an unknown attribute,
-- one that is named twice, a label that is too long or not allowed
abbrev pub new_labels_fault : Bool → List AttributeDef → List (List ℕ) → List AnnotLabel → Option Broken
new_labels_fault tested defs named [] = None
new_labels_fault tested defs named (l ∷ ls) =
    option_or (given_label_fault tested named l (find (λ d. same_text d.name l.name) defs))
    (new_labels_fault tested defs (named ++ l.name ∷ []) ls)
