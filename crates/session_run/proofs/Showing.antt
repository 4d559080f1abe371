-- The last version of a book's published list is that after all entries.
use Rattle.std.proofs.Common.{◌≡◌, ℕ, List, [], ◌∷◌, ◌++◌, length, take, drop, Option, Some, IfSome, sym, ap, ◌∙◌, subst, append_assoc, append-nil, take-append-drop}
use Rattle.db_config.specs.declared.parts.ConfigParts.{ConfigParts}
use Rattle.edit_rules.specs.declared.acts.Entry.{Entry}
use Rattle.version_gate.specs.declared.entry.Entry.{Entry as Numbered}
use mathlib.Core.List.{IsPrefix}
use Rattle.version_gate.specs.Lists.{EndsIn, entry}
use Rattle.version_gate.specs.Lists.{Numbered as IsNumbered}
use Rattle.version_gate.proofs.Numbers.{same_number}
use Rattle.live_book.specs.declared.published.Published.{Published}
use Rattle.live_book.specs.Published.{AreShown, AreShownBehind, IsStateAfter}

behind_last : (c : ConfigParts) (h later : List Entry) (first : Numbered Published) (list before : List (Numbered Published)) (last : Numbered Published)
    → IsStateAfter c h first.version.version → AreShownBehind c h later list → first ∷ list ≡ before ++ last ∷ []
    → IsStateAfter c (h ++ later) last.version.version
behind_last c h [] first list [] last state shown ends =
    let same : first ≡ last = cc ends in
    subst (λ H. IsStateAfter c H last.version.version) (sym (append-nil h)) (subst (λ e. IsStateAfter c h e.version.version) same state)
behind_last c h [] first [] (x ∷ []) last state shown ends = absurd cc
behind_last c h [] first [] (x ∷ y ∷ before) last state shown ends = absurd cc
behind_last c h [] first (s ∷ list) (x ∷ before) last state shown ends = absurd cc
behind_last c h (e ∷ more) first [] before last state shown ends = absurd shown
behind_last c h (e ∷ more) first (s ∷ list) [] last state shown ends = absurd cc
behind_last c h (e ∷ more) first (s ∷ list) (x ∷ before) last state shown ends =
    subst (λ H. IsStateAfter c H last.version.version) (append_assoc h (e ∷ []) more)
    (behind_last c (h ++ e ∷ []) more s list before last shown.0.version shown.1 (cc ends))

last_state : (c : ConfigParts) (opening later : List Entry) (list : List (Numbered Published)) (last : Numbered Published) → AreShown c opening later list → EndsIn list last
    → IsStateAfter c (opening ++ later) last.version.version
last_state c opening later [] last shown ends = absurd shown
last_state c opening later (first ∷ list) last shown ends = behind_last c opening later first list ends.0 last shown.0.version shown.1 ends.1

pub last_shown : (c : ConfigParts) (history : List Entry) (opened : ℕ) (list : List (Numbered Published)) (last : Numbered Published) → AreShown c (take opened history) (drop opened history) list → EndsIn list last
    → IsStateAfter c history last.version.version
last_shown c history opened list last shown ends =
    subst (λ H. IsStateAfter c H last.version.version) (take-append-drop opened history)
    (last_state c (take opened history) (drop opened history) list last shown ends)

-- What a pass finds.

begins_too : (xs ys zs : List (Numbered Published)) → IsPrefix xs ys → IsPrefix ys zs → IsPrefix xs zs
begins_too xs ys zs p q = (p.0 ++ q.0, sym (append_assoc xs p.0 q.0) ∙ ap (λ l. l ++ q.0) p.1 ∙ q.1)

-- a look that has a list's number gives its last version
pub seen_last : (seen number : ℕ) (list old now : List (Numbered Published)) (version : Published) → seen ≡ number → IsPrefix list old → IsPrefix old now
    → IsNumbered number list → IsNumbered seen now → EndsIn now (entry seen version) → EndsIn list (entry number version)
seen_last seen number list old now version is p q here there ends =
    let whole : list ≡ now = same_number number list now here (subst (λ (k : ℕ). IsNumbered k now) is there) (begins_too list old now p q) in
    subst (λ (l : List (Numbered Published)). EndsIn l (entry number version)) (sym whole)
    (subst (λ (k : ℕ). EndsIn now (entry k version)) is ends)

-- and it is that after all entries, where the list is the book's
pub found_state : {A : Type 0} (value : A → Published) (c : ConfigParts) (history : List Entry) (opened number : ℕ) (list now : List (Numbered Published)) (found : Option A) (shown : A)
    → number ≡ length history → AreShown c (take opened history) (drop opened history) list → IsNumbered (length history) list → IsPrefix list now
    → ((l : List (Numbered Published)) → IsPrefix l now → IsNumbered number l → IfSome found (λ v. EndsIn l (entry number (value v))))
    → found ≡ Some shown → IsStateAfter c history (value shown).version
found_state value c history opened number list now found shown count are here p finds is =
    let ends : IfSome found (λ v. EndsIn list (entry number (value v))) = finds list p (subst (λ (k : ℕ). IsNumbered k list) (sym count) here) in
    last_shown c history opened list (entry number (value shown)) are
    (subst (λ o. IfSome o (λ v. EndsIn list (entry number (value v)))) is ends)
