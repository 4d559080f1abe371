-- The names of lists of edits, by how many there are.
use Rattle.std.proofs.Common.{◌≡◌, ◌≢◌, ℕ, List, [], ◌∷◌, length, refl, ap, sym, ◌∙◌, arith, codes}
use Rattle.std.specs.Prelude.{Option, Some}
use Rattle.std.specs.List.{slice_get}
use Rattle.bundle_edits.specs.declared.edit.Edit.{Edit}
use Rattle.edit_rules.specs.Words.{edit_word, edits_word}

abbrev some_edit : Edit → Option Edit
some_edit e = Some e

same_edit : {x y : Edit} → some_edit x ≡ some_edit y → x ≡ y
same_edit h = cc

pub word_of_one : (es : List Edit) (e : Edit) (word : List ℕ) → length es ≡ 1 → slice_get es 0 ≡ Some e → word ≡ edit_word e
    → word ≡ edits_word es
word_of_one [] e word one at is = absurd (omega arith)
word_of_one (x ∷ []) e word one at is = is ∙ ap edit_word (sym (same_edit at))
word_of_one (x ∷ y ∷ es) e word one at is = let no : ⊥ = omega arith in absurd no

pub word_of_more : (es : List Edit) → length es ≢ 1 → codes "edits" ≡ edits_word es
word_of_more [] more = refl
word_of_more (x ∷ []) more = absurd (more refl)
word_of_more (x ∷ y ∷ es) more = refl
