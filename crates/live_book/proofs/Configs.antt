-- The configuration in force, since how many entries it has been so, and drafts that are made over a version.
use Rattle.std.proofs.Common.{◌≡◌, ◌⊎◌, inl, inr, ℕ, suc, ◌+◌, ◌<◌, ◌≤◌, Bool, true, false, cond, nat_le, List, [], ◌∷◌, ◌++◌, length, take, drop, Option, None, Some, Result, Ok, Err, IfSome, refl, sym, ◌∙◌, ap, subst, arith, leb-true, length-append, take-append-drop}
use Rattle.std.proofs.lemmas.Bool.{cases_lt}
use Rattle.std.proofs.lemmas.List.{take_all, take-append-le}
use mathlib.Core.List.{IsPrefix}
use Rattle.emu_names.specs.Steps.{onward}
use Rattle.emu_names.specs.declared.rules.Fault.{Fault}
use Rattle.db_config.specs.declared.parts.ConfigParts.{ConfigParts}
use Rattle.bundle_state.specs.Bundle.{BundleParts}
use Rattle.bundle_state.proofs.LinksKept.{ok_same}
use Rattle.version_steps.specs.bundle_index.Index.{IndexParts}
use Rattle.bundle_edits.specs.declared.edit.Edit.{Edit}
use Rattle.bundle_edits.specs.Changes.{changed}
use Rattle.bundle_edits.specs.Edits.{key_of}
use Rattle.version_steps.specs.edit_rules.declared.acts.Act.{Act}
use Rattle.version_steps.specs.edit_rules.declared.acts.Act.TheVariants as acts
use Rattle.version_steps.specs.edit_rules.declared.acts.Breach.{Breach}
use Rattle.version_steps.specs.edit_rules.declared.acts.Entry.{Entry}
use Rattle.version_steps.specs.edit_rules.Database.{DatabaseParts, bundle_with, counts_of, put_for, with_bundles}
use Rattle.version_steps.specs.edit_rules.Effects.{after, at_place, edit_effect, edited, effect, in_turn, put_back}
use Rattle.version_steps.proofs.of_edit_rules.Replay.{replay_goes_on}
use Rattle.version_steps.proofs.of_edit_rules.Turns.{at_ok, goes_on, told_same}
use Rattle.version_gate.specs.declared.entry.Entry.{Entry as Numbered}
use Rattle.version_gate.specs.Lists.{EndsIn, entry}
use Rattle.version_steps.specs.version_tree.Version.{VersionParts, state_of}
use Rattle.version_steps.specs.declared.draft.Draft.{Draft}
use Rattle.version_steps.specs.Inner.Drafts.{IsAddedBy, IsDraftOf, MayServe}
use Rattle.version_steps.specs.edit_rules.declared.commit_fault.EditFault.{EditFault}
use Rattle.live_book.specs.declared.parts.Parts.{Parts}
use Rattle.live_book.specs.declared.published.Published.{Published}
use Rattle.live_book.specs.Published.{IsStateAfter, IsShown, AreShown, AreShownBehind}
use Rattle.live_book.specs.Kept.{BookParts}
use Rattle.live_book.specs.Commits.{Commits}
use Rattle.live_book.specs.Inner.Drafts.{IsDraftAt, IsDraftIn, serving}
use Rattle.live_book.specs.Inner.Kept.{HasConfigSince, IsBook, book_of, present_in, since_behind}
use Rattle.live_book.proofs.Lists.{begun_take, front_begins, prefix_length, shown_cut, shown_ends}

-- Edits of a bundle keep the configuration.

config_same : (d next : DatabaseParts) → d ≡ next → next.config ≡ d.config
config_same d next same = ap (λ (x : DatabaseParts). x.config) (sym same)

one_config : (d next : DatabaseParts) (e : Edit) → edit_effect d e ≡ Ok next → next.config ≡ d.config
one_config d next e is =
    let on = goes_on (changed d.config (counts_of d.bundles) (bundle_with (key_of e) d.bundles) e) (put_back d e) next is in
    let made : DatabaseParts = with_bundles d (put_for (key_of e) on.middle d.bundles) in
    config_same made next (ok_same made next on.second)

turn_config : (es : List Edit) (place : ℕ) (d next : DatabaseParts) → in_turn place d es ≡ Ok next → next.config ≡ d.config
turn_config [] place d next is = config_same d next (told_same d next is)
turn_config (e ∷ es) place d next is =
    let on = goes_on (at_place place (edit_effect d e)) (λ mid. in_turn (suc place) mid es) next is in
    turn_config es (suc place) on.middle next on.second
    ∙ one_config d on.middle e (at_ok place (edit_effect d e) on.middle on.first)

-- The configuration in force behind one entry more.

module _ (own : ConfigParts) (entries : List Entry) (e : Entry) (since : ℕ) (current next : VersionParts)
    (before : IsStateAfter own entries current) (behind : IsStateAfter own (entries ++ e ∷ []) next) where
  -- that of the state after all entries
  whole_config : (n : ℕ) (database : DatabaseParts) → length (entries ++ e ∷ []) ≤ n → after own (take n (entries ++ e ∷ [])) ≡ Ok database → database.config ≡ next.config
  whole_config n database low is =
      let all : take n (entries ++ e ∷ []) ≡ entries ++ e ∷ [] = take_all n (entries ++ e ∷ []) low in
      sym (config_same database (state_of next) (told_same database (state_of next) (sym is ∙ ap (after own) all ∙ behind.state)))

  edits_config : (es : List Edit) → e.act ≡ acts.Edits es → next.config ≡ current.config
  edits_config es is =
      let run : effect (state_of current) e.act ≡ Ok (state_of next) =
      sym (ap (λ (r : Result DatabaseParts Breach). onward r (λ d. effect d e.act)) before.state) ∙ sym (replay_goes_on own entries e) ∙ behind.state in
      turn_config es 1 (state_of current) (state_of next) (ap (effect (state_of current)) (sym is) ∙ run)

  settled_by : (act : Act) → e.act ≡ act → HasConfigSince own entries since current.config → HasConfigSince own (entries ++ e ∷ []) (since_behind act since (length entries)) next.config
  settled_by (acts.Edits es) is settled n database low high made = by (cases_lt (length entries) n)
    where
      by : (length entries < n) ⊎ (n ≤ length entries) → database.config ≡ next.config
      by (inl over) = whole_config n database (omega (arith, over, length-append entries (e ∷ []))) made
      by (inr under) =
          let front : take n (entries ++ e ∷ []) ≡ take n entries = take-append-le n entries (e ∷ []) under in
          settled n database low under (sym (ap (after own) front) ∙ made) ∙ sym (edits_config es is)
  settled_by (acts.Config edit) is settled n database low high made =
      whole_config n database (omega (arith, low, length-append entries (e ∷ []))) made

  pub settled_behind : HasConfigSince own entries since current.config → HasConfigSince own (entries ++ e ∷ []) (since_behind e.act since (length entries)) next.config
  settled_behind settled = settled_by e.act refl settled

-- where a book begins, with all its entries
pub settled_first : (own : ConfigParts) (entries : List Entry) (current : VersionParts) → IsStateAfter own entries current → HasConfigSince own entries (length entries) current.config
settled_first own entries current state n database low high made =
    let all : take n entries ≡ entries = take_all n entries low in
    sym (config_same database (state_of current) (told_same database (state_of current) (sym made ∙ ap (after own) all ∙ state.state)))

-- Drafts.

-- a draft over a version, of the entry that it has
own_draft : (version : VersionParts) (next : Entry) (draft : Draft) → IsDraftOf version next draft → IsDraftOf version draft.entry draft
own_draft version next draft is = record {
  entry = refl;
  number = is.number;
  added = subst (λ (e : Entry). IsAddedBy version.config e.act draft.added) (sym is.entry) is.added;
}

module _ {D : Type 0} (book : BookParts D) (next : Entry) (draft : Draft) (shown : AreShown book.config (take book.opened book.history) (drop book.opened book.history) book.list) where
  -- a draft over the last version of a beginning of the book's list
  draft_over : (list : List (Numbered Published)) → IsPrefix list book.list → IsDraftAt list next draft → IsDraftIn book draft.entry draft
  draft_over [] p is =
      let long : 0 ≡ length (is.last.0 ++ entry is.number is.shown ∷ []) = ap (λ (l : List (Numbered Published)). length l) is.last.1 in
      absurd (omega (arith, long, length-append is.last.0 (entry is.number is.shown ∷ [])))
  draft_over (s ∷ list) p is =
      let front : List Entry = take book.opened book.history in
      let later : List Entry = drop book.opened book.history in
      let found = shown_cut book.config front later s list book.list p.0 shown p.1 in
      let cut : List Entry = found.1.cut in
      let ends = shown_ends book.config front cut (s ∷ list) is.last.0 (entry is.number is.shown) (found.0, found.1.shown) is.last.1 in
      record {
        beginning = front ++ cut;
        begins = subst (λ (l : List Entry). IsPrefix (front ++ cut) l) (take-append-drop book.opened book.history) (front_begins front cut later found.1.begins);
        version = is.shown.version;
        state = ends.1;
        is_draft = own_draft is.shown.version next draft is.is_draft;
      }

pub draft_in : {D : Type 0} (old new : BookParts D) (list : List (Numbered Published)) (next : Entry) (draft : Draft) → new ≡ old → AreShown old.config (take old.opened old.history) (drop old.opened old.history) old.list
    → IsPrefix list old.list → IsDraftAt list next draft → IsDraftIn new draft.entry draft
draft_in {D = D} old new list next draft same shown p is =
    subst (λ (b : BookParts D). IsDraftIn b draft.entry draft) (sym same) (draft_over old next draft shown list p is)

pub drafts_at : (list : List (Numbered Published)) (next : Entry) (o : Option Draft) (n : ℕ) (shown : Published) → EndsIn list (entry n shown) → IfSome o (IsDraftOf shown.version next) → IfSome o (IsDraftAt list next)
drafts_at list next None n shown ends is = tt
drafts_at list next (Some draft) n shown ends is = record { number = n; shown = shown; last = ends; is_draft = is }

serves : (config : ConfigParts) (act : Act) (added : Option (Result IndexParts Fault)) → IsAddedBy config act added → MayServe config act added
serves config act None is = tt
serves config act (Some made) is = is

-- what a draft has serves where the configuration has been in force since its version
pub may_serve : {D : Type 0} (may_leave : D → List ℕ → Type 0) (parts : Parts D) (draft : Draft) → IsBook may_leave parts → IsDraftIn (book_of parts) draft.entry draft
    → MayServe (present_in parts) draft.entry.act (serving parts.since draft.number draft.added)
may_serve {D = D} may_leave parts draft book is = by (nat_le parts.since draft.number) refl
  where
    n : ℕ
    n = length is.beginning

    by : (t : Bool) → nat_le parts.since draft.number ≡ t → MayServe (present_in parts) draft.entry.act (cond t draft.added None)
    by false over = tt
    by true under =
        let low : parts.since ≤ draft.number = leb-true parts.since draft.number under in
        let number : draft.number ≡ n = is.is_draft.number ∙ is.state.number in
        let within : n ≤ length parts.entries = prefix_length is.beginning parts.entries is.begins in
        let front : take n parts.entries ≡ is.beginning =
        begun_take n is.beginning parts.entries is.begins (omega arith) ∙ take_all n is.beginning (omega arith) in
        let same : is.version.config ≡ present_in parts =
        book.settled n (state_of is.version) (omega (arith, low, number)) within (ap (after parts.opening) front ∙ is.state.state) in
        subst (λ (c : ConfigParts). MayServe c draft.entry.act draft.added) same (serves is.version.config draft.entry.act draft.added is.is_draft.added)

-- a commit of an entry that is this one, in a book that is this one
pub commits_as : {D : Type 0} (may_leave : D → List ℕ → Type 0) (moment : D → ℕ) (left_since : D → ℕ → List ℕ → Type 0) (faults : D → ℕ) (old one : BookParts D) (e next : Entry) (result : Result ℕ EditFault) (new : BookParts D)
    → one ≡ old → e ≡ next → Commits may_leave moment left_since faults one e result new → Commits may_leave moment left_since faults old next result new
commits_as {D = D} may_leave moment left_since faults old one e next result new same own is =
    subst (λ (b : BookParts D). Commits may_leave moment left_since faults b next result new) same
    (subst (λ (x : Entry). Commits may_leave moment left_since faults one x result new) own is)
