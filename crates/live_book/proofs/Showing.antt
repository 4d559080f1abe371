-- One version more in the published list.
use Rattle.std.proofs.Common.{◌≡◌, List, [], ◌∷◌, ◌++◌, Some, refl, sym, ap, subst, append_assoc}
use Rattle.db_config.specs.declared.parts.ConfigParts.{ConfigParts}
use Rattle.version_steps.specs.edit_rules.declared.acts.Entry.{Entry}
use Rattle.version_gate.specs.declared.entry.Entry.{Entry as Numbered}
use Rattle.live_book.specs.declared.published.Published.{Published}
use Rattle.live_book.specs.Published.{IsShown, AreShownBehind, AreShown}

behind-push : (config : ConfigParts) (history later : List Entry) (next : Entry) (list : List (Numbered Published)) (shown : Numbered Published) → AreShownBehind config history later list → IsShown config ((history ++ later) ++ next ∷ []) (Some next) shown →
    AreShownBehind config history (later ++ next ∷ []) (list ++ shown ∷ [])
behind-push config history [] next [] shown all is = (subst (λ (h : List Entry). IsShown config (h ++ next ∷ []) (Some next) shown) (append_nil history) is, refl)
  where
    append_nil : (xs : List Entry) → xs ++ [] ≡ xs
    append_nil [] = refl
    append_nil (x ∷ xs) = ap (λ (l : List Entry). x ∷ l) (append_nil xs)
behind-push config history [] next (s ∷ list) shown all is = absurd cc
behind-push config history (e ∷ later) next [] shown all is = absurd all
behind-push config history (e ∷ later) next (s ∷ list) shown all is =
    (all.0, behind-push config (history ++ e ∷ []) later next list shown all.1 (subst (λ (h : List Entry). IsShown config (h ++ next ∷ []) (Some next) shown) (sym (append_assoc history (e ∷ []) later)) is))

pub shown-push : (config : ConfigParts) (opening later : List Entry) (next : Entry) (list : List (Numbered Published)) (shown : Numbered Published) → AreShown config opening later list → IsShown config ((opening ++ later) ++ next ∷ []) (Some next) shown →
    AreShown config opening (later ++ next ∷ []) (list ++ shown ∷ [])
shown-push config opening later next [] shown all is = absurd all
shown-push config opening later next (first ∷ list) shown all is = (all.0, behind-push config opening later next list shown all.1 is)
