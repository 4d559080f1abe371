-- What is kept of a run's entries, behind a commit.
use Rattle.std.proofs.Common.{◌≡◌, ℕ, ◌≤◌, List, [], ◌∷◌, ◌++◌, length, take, drop, Option, None, Some, Result, Ok, Err, sym, ap, ◌∙◌, subst, arith, length-append}
use Rattle.db_config.specs.declared.parts.ConfigParts.{ConfigParts}
use Rattle.edit_rules.specs.declared.acts.Act.{Act}
use Rattle.edit_rules.specs.declared.acts.Entry.{Entry}
use Rattle.live_book.specs.edit_undo.declared.faults.NoUndo.{NoUndo}
use Rattle.query_workers.specs.session_core.declared.kept_acts.KeptAct.{KeptAct}
use Rattle.query_workers.specs.session_core.declared.head.Head.{Head}
use Rattle.query_workers.specs.session_core.Inner.Kept.{head_entry}
use Rattle.query_workers.specs.session_core.Undos.{kept_act, kept_behind, kept_of}
use Rattle.query_workers.proofs.of_session_core.Undoing.{kept_none, kept_push}
use Rattle.edit_rules.specs.declared.commit_fault.EditFault.{EditFault}
use Rattle.live_book.specs.declared.kept.Kept.{Kept}
use Rattle.live_book.specs.Commits.{history_behind}
use Rattle.live_book.specs.Inner.Inverses.{KeepsInverse, numbered}
use Rattle.session_run.specs.Inner.Taken.{KeepsActs, acts_behind, base_of}

-- with one entry more, of which is kept what takes it back, the beginning is the same
base_same : (H : List Entry) (e : Entry) (acts : List KeptAct) (k : KeptAct) → base_of (H ++ e ∷ []) (acts ++ k ∷ []) ≡ base_of H acts
base_same H e acts k = omega (arith, length-append H (e ∷ []), length-append acts (k ∷ []))

acts_push : (c : ConfigParts) (H : List Entry) (acts : List KeptAct) (e : Entry) → KeepsActs c H acts → KeepsActs c (H ++ e ∷ []) (acts ++ kept_of c H e ∷ [])
acts_push c H acts e keeps =
    let low : base_of H acts ≤ length H = omega arith in
    subst (λ (n : ℕ). acts ++ kept_of c H e ∷ [] ≡ kept_behind c (take n (H ++ e ∷ [])) (drop n (H ++ e ∷ []))) (sym (base_same H e acts (kept_of c H e)))
    (ap (λ (ks : List KeptAct). ks ++ kept_of c H e ∷ []) keeps ∙ sym (kept_push c H (base_of H acts) e low))

-- a run begins with all entries, of which nothing is kept
whole_base : (H : List Entry) → base_of H [] ≡ length H
whole_base H = omega arith

pub base_first : (H : List Entry) (acts : List KeptAct) → acts ≡ [] → base_of H acts ≡ length H
base_first H acts none = ap (λ (ks : List KeptAct). base_of H ks) none ∙ whole_base H

pub keeps_none : (c : ConfigParts) (H : List Entry) (acts : List KeptAct) → acts ≡ [] → KeepsActs c H acts
keeps_none c H acts none =
    subst (λ (ks : List KeptAct). KeepsActs c H ks) (sym none)
    (subst (λ (n : ℕ). [] ≡ kept_behind c (take n H) (drop n H)) (sym (whole_base H)) (sym (kept_none c H)))

module _ (head : Head) (act : Act) (H H2 : List Entry) (acts acts2 : List KeptAct) where
  -- the beginning behind a commit
  pub base_now : (made : Result Kept EditFault) → H2 ≡ history_behind H (head_entry head act) (numbered made) → acts2 ≡ acts_behind acts head made → base_of H2 acts2 ≡ base_of H acts
  base_now (Ok kept) history behind =
      ap (λ (xs : List Entry). base_of xs acts2) history
      ∙ ap (λ (ks : List KeptAct). base_of (H ++ head_entry head act ∷ []) ks) behind
      ∙ base_same H (head_entry head act) acts (kept_act head.session head.line kept.inverse)
  base_now (Err fault) history behind = ap (λ (xs : List Entry). base_of xs acts2) history ∙ ap (λ (ks : List KeptAct). base_of H ks) behind

  keeps_behind : (c : ConfigParts) (made : Result Kept EditFault) → KeepsInverse c H act made → KeepsActs c H acts → KeepsActs c (history_behind H (head_entry head act) (numbered made)) (acts_behind acts head made)
  keeps_behind c (Ok kept) inverse keeps =
      subst (λ (i : Result Act NoUndo). KeepsActs c (H ++ head_entry head act ∷ []) (acts ++ kept_act head.session head.line i ∷ [])) (sym inverse)
      (acts_push c H acts (head_entry head act) keeps)
  keeps_behind c (Err fault) inverse keeps = keeps

  -- what is kept behind a commit takes back each entry that came
  pub acts_now : (c c2 : ConfigParts) (made : Result Kept EditFault) → c2 ≡ c → H2 ≡ history_behind H (head_entry head act) (numbered made) → acts2 ≡ acts_behind acts head made → KeepsInverse c H act made → KeepsActs c H acts → KeepsActs c2 H2 acts2
  acts_now c c2 made same history behind inverse keeps =
      subst (λ (k : ConfigParts). KeepsActs k H2 acts2) (sym same)
      (subst (λ (xs : List Entry). KeepsActs c xs acts2) (sym history)
      (subst (λ (ks : List KeptAct). KeepsActs c (history_behind H (head_entry head act) (numbered made)) ks) (sym behind)
      (keeps_behind c made inverse keeps)))
