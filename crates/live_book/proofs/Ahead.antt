-- An edit behind a look of its pass.
use Rattle.std.proofs.Common.{◌≡◌, ℕ, ◌≤◌, ◌<◌, List, [], ◌∷◌, ◌++◌, length, Result, refl, sym, ◌∙◌, ap, subst, arith, append_assoc}
use mathlib.Core.List.{IsPrefix}
use Rattle.version_steps.specs.edit_rules.declared.acts.Entry.{Entry}
use Rattle.version_gate.specs.declared.entry.Entry.{Entry as Numbered}
use Rattle.version_gate.specs.Lists.{Numbered as IsNumbered}
use Rattle.version_gate.proofs.Beginnings.{prefix_self}
use Rattle.version_gate.proofs.Numbers.{same_start}
use Rattle.version_steps.specs.edit_rules.declared.commit_fault.EditFault.{EditFault}
use Rattle.live_book.specs.declared.kept.Kept.{Kept}
use Rattle.live_book.specs.declared.published.Published.{Published}
use Rattle.live_book.specs.Live.{Opened}
use Rattle.live_book.specs.Inner.Live.{EditsKept}
use Rattle.live_book.proofs.Lists.{prefix_length}

pub begins_on : {A : Type 0} (xs ys zs : List A) → IsPrefix xs ys → IsPrefix ys zs → IsPrefix xs zs
begins_on {A = A} xs ys zs p q =
    (p.0 ++ q.0, sym (append_assoc xs p.0 q.0) ∙ (ap (λ (l : List A). l ++ q.0) p.1 ∙ q.1))

-- a beginning has no higher number
pub begins_low : {T : Type 0} (k m : ℕ) (xs ys : List (Numbered T)) → IsNumbered k xs → IsNumbered m ys → IsPrefix xs ys → k ≤ m
begins_low k m xs ys a b p =
    let start : a.0 ≡ b.0 = same_start a.0 b.0 xs ys ys a.3 b.3 p (prefix_self ys) a.1 b.1 in
    omega (arith, start, a.2, b.2, prefix_length xs ys p)

-- what an edit promises of a pass, it promises of the pass before a look too
pub kept_from : (o : Opened) (next : Entry) (old mid new : List (Numbered Published)) (result : Result Kept EditFault) (m : ℕ) → IsNumbered m mid → IsPrefix old mid → EditsKept o next mid new result → EditsKept o next old new result
kept_from o next old mid new result m numbered p is = record {
  edits = record {
    history = is.edits.history;
    right = is.edits.right;
    goes_on = is.edits.goes_on;
    seen = λ k low. let first = begins_low k m old mid low numbered p in let second = is.edits.seen m numbered in omega (arith, first, second);
    learnt = begins_on old mid new p is.edits.learnt;
    shown = is.edits.shown;
  };
  inverse = is.inverse;
}
