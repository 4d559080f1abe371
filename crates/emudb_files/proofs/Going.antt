-- A `load` under way: one commit, one step behind another, and a loop of steps.
use Rattle.std.proofs.Common.{◌≡◌, ◌⊎◌, inl, inr, ℕ, suc, ◌+◌, ◌≤◌, ◌<◌, Bool, true, List, [], ◌∷◌, ◌++◌, map, length, take, drop, get_or, Option, None, Some, Result, Ok, Err, flat_map, refl, sym, ap, subst, subst₂, ◌∙◌, append_assoc, append-nil, length-append, arith}
use mathlib.Core.List.{IsPrefix}
use Rattle.std.proofs.lemmas.List.{map-append, take_more, take-append-drop, take-append-le}
use Rattle.std.proofs.lemmas.Grind.{flat_map-append}
use Rattle.std.proofs.Math.Seq.{take-length, drop-cons}
use Rattle.emu_io.specs.declared.tree.Stored.{Stored}
use Rattle.db_config.specs.declared.parts.ConfigParts.{ConfigParts}
use Rattle.store_texts.specs.edit_rules.declared.acts.Act.{Act}
use Rattle.store_texts.specs.edit_rules.declared.acts.Entry.{Entry}
use Rattle.emu_disk.proofs.Moments.{joined, weaker}
use Rattle.edit_journal.specs.declared.journal.Journal.{Journal}
use Rattle.edit_journal.specs.Held.{disk_of}
use Rattle.store_texts.specs.edit_rules.declared.commit_fault.EditFault.{EditFault}
use Rattle.store_texts.specs.edit_rules.declared.commit_fault.EditFault.TheVariants as edit_faults
use Rattle.book_opening.specs.live_book.Histories.{Stands}
use Rattle.book_opening.specs.live_book.Kept.{BookParts, CrashLeaves, KeepsIn}
use Rattle.book_opening.specs.live_book.Commits.{Commits, DuringCommit, IsAnswer, IsWelcome, has_journal}
use Rattle.store_texts.specs.session_core.declared.line.Refusal.TheVariants as requests
use Rattle.store_texts.specs.session_core.declared.line.Command.TheVariants as commands
use Rattle.store_texts.specs.session_core.Answers.{rule_refusal}
use Rattle.store_texts.specs.declared.faults.Refused.{Refused}
use Rattle.store_texts.specs.declared.faults.Refused.TheVariants as refusals
use Rattle.store_texts.specs.declared.faults.CommandFault.{CommandFault}
use Rattle.store_texts.specs.declared.faults.CommandFault.TheVariants as faults
use Rattle.emudb_files.specs.Answers.{Told, Gives, Reads, edit_fault, edit_answer}
use Rattle.emudb_files.specs.Wanted.{behind}
use Rattle.emudb_files.specs.Stored.{own_entry, AddsBundle, AddBundles, IsAdded, IsPart, IsStop, LeavesAlong}
use Rattle.emudb_files.specs.Inner.Running.{IsKept, IsBehind, Advances, DuringStop, Stops, Goes}

gives_refused : {A : Type 0} (wanted : Result A Refused) (e : CommandFault) (refused : Refused)
    → e ≡ faults.Refused refused → Gives wanted (Err e) → wanted ≡ Err refused
gives_refused wanted e refused is h = subst (λ v. Gives wanted (Err v)) is h

-- What a crash leaves along a run.

module _ {D : Type 0} (moment : D → ℕ) (left_since : D → ℕ → List ℕ → Type 0) where
  crash_weaker : (old new : Option (Journal D)) (P Q : List ℕ → Type 0) → ((c : List ℕ) → P c → Q c)
      → CrashLeaves moment left_since old new P → CrashLeaves moment left_since old new Q
  crash_weaker None None P Q change h = tt
  crash_weaker (Some old) (Some new) P Q change h = weaker moment left_since (disk_of old) (disk_of new) P Q change h
  crash_weaker None (Some new) P Q change h = absurd h
  crash_weaker (Some old) None P Q change h = absurd h

  crash_joined : (old mid new : Option (Journal D)) (P : List ℕ → Type 0) → CrashLeaves moment left_since old mid P
      → CrashLeaves moment left_since mid new P → CrashLeaves moment left_since old new P
  crash_joined None None None P h h' = tt
  crash_joined (Some old) (Some mid) (Some new) P h h' =
      joined moment left_since (disk_of old) (disk_of mid) (disk_of new) P h h'
  crash_joined None None (Some new) P h h' = absurd h'
  crash_joined (Some old) (Some mid) None P h h' = absurd h'
  crash_joined None (Some mid) new P h h' = absurd h
  crash_joined (Some old) None new P h h' = absurd h

  pub along_weaker : (old new : Option (Journal D)) (P Q : List ℕ → Type 0) → ((c : List ℕ) → P c → Q c)
      → LeavesAlong moment left_since old new P → LeavesAlong moment left_since old new Q
  along_weaker old new P Q change (inl same) = inl same
  along_weaker old new P Q change (inr h) = inr (crash_weaker old new P Q change h)

  pub along_joined : (old mid new : Option (Journal D)) (P R Q : List ℕ → Type 0) → ((c : List ℕ) → P c → Q c)
      → ((c : List ℕ) → R c → Q c) → LeavesAlong moment left_since old mid P → LeavesAlong moment left_since mid new R
      → LeavesAlong moment left_since old new Q
  along_joined old mid new P R Q one two (inl same) (inl same') = inl (same' ∙ same)
  along_joined old mid new P R Q one two (inl same) (inr h') =
      inr (subst (λ j. CrashLeaves moment left_since j new Q) same (crash_weaker mid new R Q two h'))
  along_joined old mid new P R Q one two (inr h) (inl same') =
      inr (subst (λ j. CrashLeaves moment left_since old j Q) (sym same') (crash_weaker old mid P Q one h))
  along_joined old mid new P R Q one two (inr h) (inr h') =
      inr (crash_joined old mid new Q (crash_weaker old mid P Q one h) (crash_weaker mid new R Q two h'))

-- the whole of a history is a part of it
pub whole_part : (config : ConfigParts) (history : List Entry) (c : List ℕ) → Stands config history c
    → IsPart config history c
whole_part config history c h = record {
  count = length history;
  within = omega arith;
  stands = subst (λ l. Stands config l c) (sym (take-length history)) h;
}

same_part : {D : Type 0} (old new : BookParts D) (c : List ℕ) → new.config ≡ old.config → new.history ≡ old.history
    → Stands old.config old.history c → IsPart new.config new.history c
same_part old new c same same' h =
    whole_part new.config new.history c (subst₂ (λ d l. Stands d l c) (sym same) (sym same') h)

-- a part of a history is a part of a longer one
part_behind : {D : Type 0} (old new : BookParts D) (more : List Act) (c : List ℕ) → IsBehind old more new
    → IsPart old.config old.history c → IsPart new.config new.history c
part_behind old new more c b part =
    let long : length new.history ≡ length old.history + length (map own_entry more) =
    ap length b.history ∙ length-append old.history (map own_entry more) in
    let front : take part.count new.history ≡ take part.count old.history =
    ap (λ l. take part.count l) b.history ∙ take-append-le part.count old.history (map own_entry more) part.within in
    record {
      count = part.count;
      within = omega (arith, long, part.within);
      stands = subst₂ (λ d l. Stands d l c) (sym b.config) (sym front) part.stands;
    }

not_reached : (A B : Type 0) → A ⊎ (⊥ × B) → A
not_reached A B (inl h) = h
not_reached A B (inr h) = absurd h.0

module _ {D : Type 0} (may_leave : D → List ℕ → Type 0) (moment : D → ℕ) (left_since : D → ℕ → List ℕ → Type 0) where
  -- ---- one commit

  keeps_along : (config config' : ConfigParts) (history history' : List Entry) (lost : Option Entry)
      (journal : Option (Journal D)) → config' ≡ config → history' ≡ history
      → KeepsIn may_leave config history lost journal → KeepsIn may_leave config' history' lost journal
  keeps_along config config' history history' lost journal same same' h =
      subst₂ (λ c l. KeepsIn may_leave c l lost journal) (sym same) (sym same') h

  answer_along : (stored : Bool) (config config' : ConfigParts) (history history' : List Entry) (entry : Entry)
      (answer : Result ℕ EditFault) → stored ≡ true → config' ≡ config → history' ≡ history
      → IsAnswer stored config history entry answer → IsAnswer true config' history' entry answer
  answer_along stored config config' history history' entry answer is same same' h =
      subst (λ b. IsAnswer b config' history' entry answer) is
      (subst₂ (λ c l. IsAnswer stored c l entry answer) (sym same) (sym same') h)

  module _ (count : D → ℕ) where
    done_behind : (old new : BookParts D) (act : Act) (n : ℕ)
        → Commits may_leave moment left_since count old (own_entry act) (Ok n) new → AddsBundle act
        → IsBehind old (act ∷ []) new
    done_behind old new act n commits adds =
        record { config = commits.same.config; history = commits.history; add = (adds, tt) }

    during_done : (old new : BookParts D) (act : Act) (n : ℕ)
        → Commits may_leave moment left_since count old (own_entry act) (Ok n) new → AddsBundle act → (c : List ℕ)
        → DuringCommit (Ok n) old.config old.history None (own_entry act) c → IsPart new.config new.history c
    during_done old new act n commits adds c (inl h) =
        part_behind old new (act ∷ []) c (done_behind old new act n commits adds)
        (whole_part old.config old.history c h)
    during_done old new act n commits adds c (inr h) =
        whole_part new.config new.history c
        (subst₂ (λ d l. Stands d l c) (sym commits.same.config) (sym commits.history) h.1)

    one_done : (told : Option (List Stored)) (wanted : List Stored → Result Act Refused) (old new : BookParts D)
        (act : Act) (n : ℕ) → IsKept may_leave None old
        → Commits may_leave moment left_since count old (own_entry act) (Ok n) new → AddsBundle act
        → Told told (λ c. wanted c ≡ Ok act) → Advances may_leave moment left_since told (λ c. wanted c ∷ []) old new
    one_done told wanted old new act n kept commits adds is_wanted = record {
      more = act ∷ [];
      is_behind = done_behind old new act n commits adds;
      kept = record {
        stored = commits.same.stored ∙ kept.stored;
        keeps = keeps_along old.config new.config (old.history ++ own_entry act ∷ []) new.history None new.journal
            commits.same.config commits.history (commits.kept None kept.keeps);
      };
      all = λ c is. ap (λ r. r ∷ []) (is_wanted c is);
      moments = inr (crash_weaker moment left_since old.journal new.journal
          (DuringCommit (Ok n) old.config old.history None (own_entry act)) (IsPart new.config new.history)
          (during_done old new act n commits adds) (commits.any_moment None kept.keeps));
    }

    -- a commit that was refused, and what is in doubt behind it
    one_stop : (told : Option (List Stored)) (wanted : List Stored → Result Act Refused) (old new : BookParts D)
        (act : Act) (fault : EditFault) (lost : Option Entry) (next : List (Result Act Refused)) (e : CommandFault)
        → IsKept may_leave None old → Commits may_leave moment left_since count old (own_entry act) (Err fault) new
        → KeepsIn may_leave old.config old.history lost new.journal → IsStop new.config new.history next lost e
        → Told told (λ c. IsPrefix next (wanted c ∷ []))
        → ((c : List ℕ) → DuringCommit {T = ℕ} (Err fault) old.config old.history None (own_entry act) c
        → DuringStop new next e c)
        → Stops may_leave moment left_since told (λ c. wanted c ∷ []) old e new
    one_stop told wanted old new act fault lost next e kept commits keeps why front during = record {
      more = [];
      next = next;
      lost = lost;
      is_behind = record {
        config = commits.same.config;
        history = commits.history ∙ sym (append-nil old.history);
        add = tt;
      };
      kept = record {
        stored = commits.same.stored ∙ kept.stored;
        keeps = keeps_along old.config new.config old.history new.history lost new.journal commits.same.config
            commits.history keeps;
      };
      why = why;
      front = front;
      moments = inr (crash_weaker moment left_since old.journal new.journal
          (DuringCommit {T = ℕ} (Err fault) old.config old.history None (own_entry act)) (DuringStop new next e) during
          (commits.any_moment None kept.keeps));
    }

    -- a commit that did not call the disk
    unreached : (old new : BookParts D) (act : Act) (fault : EditFault) (next : List (Result Act Refused))
        (e : CommandFault) → new.config ≡ old.config → new.history ≡ old.history
        → ((c : List ℕ) → DuringCommit {T = ℕ} (Err fault) old.config old.history None (own_entry act) c
        → Stands old.config old.history c)
        → (c : List ℕ) → DuringCommit {T = ℕ} (Err fault) old.config old.history None (own_entry act) c
        → DuringStop new next e c
    unreached old new act fault next e same same' only c h = inl (same_part old new c same same' (only c h))

    taken : (told : Option (List Stored)) (wanted : List Stored → Result Act Refused) (act : Act)
        → Told told (λ c. wanted c ≡ Ok act) → Told told (λ c. IsPrefix (Ok act ∷ []) (wanted c ∷ []))
    taken told wanted act is_wanted c is = ([], ap (λ r. r ∷ []) (sym (is_wanted c is)))

    refused_stop : (told : Option (List Stored)) (wanted : List Stored → Result Act Refused) (old new : BookParts D)
        (act : Act) (fault : EditFault) (refused : Refused) → IsKept may_leave None old
        → Commits may_leave moment left_since count old (own_entry act) (Err fault) new
        → Told told (λ c. wanted c ≡ Ok act) → edit_fault fault ≡ faults.Refused refused
        → KeepsIn may_leave old.config old.history None new.journal
        → ((c : List ℕ) → DuringCommit {T = ℕ} (Err fault) old.config old.history None (own_entry act) c
        → Stands old.config old.history c)
        → Stops may_leave moment left_since told (λ c. wanted c ∷ []) old (faults.Refused refused) new
    refused_stop told wanted old new act fault refused kept commits is_wanted is keeps only =
        one_stop told wanted old new act fault None (Ok act ∷ []) (faults.Refused refused) kept commits keeps (
          refl,
          (
            fault,
            answer_along (has_journal old.journal) old.config new.config old.history new.history
                (own_entry act) (Err fault) kept.stored commits.same.config commits.history commits.right,
            is,
          ),
        )
        (taken told wanted act is_wanted)
        (unreached old new act fault (Ok act ∷ []) (faults.Refused refused) commits.same.config commits.history only)

    doubt : (a : Option Entry) (entry : Entry) → (a ≡ None) ⊎ (a ≡ None) ⊎ (a ≡ Some entry)
        → (a ≡ None) ⊎ (a ≡ Some entry)
    doubt a entry (inl none) = inl none
    doubt a entry (inr (inl none)) = inl none
    doubt a entry (inr (inr some)) = inr some

    -- while the disk failed at an edit
    during_failed : (old new : BookParts D) (act : Act) → new.config ≡ old.config → new.history ≡ old.history
        → (c : List ℕ) → DuringCommit {T = ℕ} (Err edit_faults.Disk) old.config old.history None (own_entry act) c
        → DuringStop new (Ok act ∷ []) faults.Disk c
    during_failed old new act same same' c (inl h) = inl (same_part old new c same same' h)
    during_failed old new act same same' c (inr h) =
        inr (subst₂ (λ d l. Stands d (l ++ own_entry act ∷ []) c) (sym same) (sym same') h.1)

    welcome_along : (stored : Bool) (config config' : ConfigParts) (history history' : List Entry) (entry : Entry)
        → stored ≡ true → config' ≡ config → history' ≡ history → IsWelcome stored config history entry
        → IsWelcome true config' history' entry
    welcome_along stored config config' history history' entry is same same' h =
        subst (λ b. IsWelcome b config' history' entry) is
        (subst₂ (λ c l. IsWelcome stored c l entry) (sym same) (sym same') h)

    one_refused : (told : Option (List Stored)) (wanted : List Stored → Result Act Refused) (old new : BookParts D)
        (act : Act) (fault : EditFault) → IsKept may_leave None old
        → Commits may_leave moment left_since count old (own_entry act) (Err fault) new
        → Told told (λ c. wanted c ≡ Ok act) → Stops may_leave moment left_since told (λ c. wanted c ∷ []) old (edit_fault fault) new
    one_refused told wanted old new act (edit_faults.HistoryFull n) kept commits is_wanted =
        refused_stop told wanted old new act (edit_faults.HistoryFull n) (refusals.Request requests.HistoryFull) kept commits
        is_wanted refl (commits.kept None kept.keeps) (λ c h. not_reached (Stands old.config old.history c)
        (Stands old.config (old.history ++ own_entry act ∷ []) c) h)
    one_refused told wanted old new act (edit_faults.Broken breach n) kept commits is_wanted =
        refused_stop told wanted old new act (edit_faults.Broken breach n) (refusals.Request (rule_refusal commands.AddBundle breach)) kept commits
        is_wanted refl (commits.kept None kept.keeps) (λ c h. not_reached (Stands old.config old.history c)
        (Stands old.config (old.history ++ own_entry act ∷ []) c) h)
    one_refused told wanted old new act (edit_faults.StoreFull n) kept commits is_wanted =
        refused_stop told wanted old new act (edit_faults.StoreFull n) (refusals.Request requests.StoreFull) kept commits
        is_wanted refl (commits.kept None kept.keeps) (λ c h. not_reached (Stands old.config old.history c)
        (Stands old.config (old.history ++ own_entry act ∷ []) c) h)
    one_refused told wanted old new act edit_faults.Disk kept commits is_wanted =
        let left = commits.kept None kept.keeps in
        one_stop told wanted old new act edit_faults.Disk left.left (Ok act ∷ []) faults.Disk kept commits left.keeps (
          act,
          refl,
          welcome_along (has_journal old.journal) old.config new.config old.history new.history
              (own_entry act) kept.stored commits.same.config commits.history commits.right.1,
          doubt left.left (own_entry act) left.which,
        )
        (taken told wanted act is_wanted) (during_failed old new act commits.same.config commits.history)
    one_refused told wanted old new act edit_faults.Memory kept commits is_wanted =
        one_stop told wanted old new act edit_faults.Memory None [] faults.Memory kept commits (commits.kept None kept.keeps)
        (refl, refl) (λ c is. (wanted c ∷ [], refl))
        (unreached old new act edit_faults.Memory [] faults.Memory commits.same.config commits.history
        (λ c h. not_reached (Stands old.config old.history c) (Stands old.config (old.history ++ own_entry act ∷ []) c) h))

    answered_ok : (n : ℕ) (answer : Result ℕ EditFault) → (let r : Result ℕ CommandFault = Ok n in r ≡ edit_answer answer)
        → answer ≡ Ok n
    answered_ok n (Ok m) is = let same : n ≡ m = cc in ap (λ k. Ok k) (sym same)
    answered_ok n (Err fault) is = absurd cc

    answered_err : (e : CommandFault) (answer : Result ℕ EditFault)
        → (let r : Result ℕ CommandFault = Err e in r ≡ edit_answer answer)
        → (fault : EditFault) × (answer ≡ Err fault) × (edit_fault fault ≡ e)
    answered_err e (Ok m) is = absurd cc
    answered_err e (Err fault) is = (fault, refl, cc)

    -- what an edit of the program that was tried does to a book under way
    pub added_ok : (told : Option (List Stored)) (wanted : List Stored → Result Act Refused) (old new : BookParts D)
        (act : Act) (n : ℕ) → IsKept may_leave None old
        → IsAdded may_leave moment left_since count old act (Ok n) new → AddsBundle act
        → Told told (λ c. wanted c ≡ Ok act) → Advances may_leave moment left_since told (λ c. wanted c ∷ []) old new
    added_ok told wanted old new act n kept added adds is_wanted =
        one_done told wanted old new act n kept
        (subst (λ a. Commits may_leave moment left_since count old (own_entry act) a new)
        (answered_ok n added.answer added.answered) added.commits)
        adds is_wanted

    pub added_err : (told : Option (List Stored)) (wanted : List Stored → Result Act Refused) (old new : BookParts D)
        (act : Act) (e : CommandFault) → IsKept may_leave None old
        → IsAdded may_leave moment left_since count old act (Err e) new
        → Told told (λ c. wanted c ≡ Ok act) → Stops may_leave moment left_since told (λ c. wanted c ∷ []) old e new
    added_err told wanted old new act e kept added is_wanted =
        let (fault, is, same) = answered_err e added.answer added.answered in
        subst (λ v. Stops may_leave moment left_since told (λ c. wanted c ∷ []) old v new) same
        (one_refused told wanted old new act fault kept
        (subst (λ a. Commits may_leave moment left_since count old (own_entry act) a new) is added.commits) is_wanted)

  -- ---- one step behind another

  pub same_wanted : (told : Option (List Stored)) (wanted wanted' : List Stored → List (Result Act Refused))
      (old new : BookParts D) → Told told (λ c. wanted' c ≡ wanted c) → Advances may_leave moment left_since told wanted old new
      → Advances may_leave moment left_since told wanted' old new
  same_wanted told wanted wanted' old new same h = record {
    more = h.more;
    is_behind = h.is_behind;
    kept = h.kept;
    all = λ c is. same c is ∙ h.all c is;
    moments = h.moments;
  }

  pub stop_wanted : (told : Option (List Stored)) (wanted wanted' : List Stored → List (Result Act Refused))
      (old : BookParts D) (e : CommandFault) (new : BookParts D) → Told told (λ c. wanted' c ≡ wanted c)
      → Stops may_leave moment left_since told wanted old e new → Stops may_leave moment left_since told wanted' old e new
  stop_wanted told wanted wanted' old e new same h = record {
    more = h.more;
    next = h.next;
    lost = h.lost;
    is_behind = h.is_behind;
    kept = h.kept;
    why = h.why;
    front = λ c is. subst (IsPrefix (map Ok h.more ++ h.next)) (sym (same c is)) (h.front c is);
    moments = h.moments;
  }

  adds_append : (acts more : List Act) → AddBundles acts → AddBundles more → AddBundles (acts ++ more)
  adds_append [] more h h' = h'
  adds_append (act ∷ acts) more h h' = (h.0, adds_append acts more h.1 h')

  behind_on : (old mid new : BookParts D) (more more' : List Act) → IsBehind old more mid → IsBehind mid more' new
      → IsBehind old (more ++ more') new
  behind_on old mid new more more' h h' = record {
    config = h'.config ∙ h.config;
    history = h'.history ∙ ap (λ l. l ++ map own_entry more') h.history
        ∙ append_assoc old.history (map own_entry more) (map own_entry more')
        ∙ ap (λ l. old.history ++ l) (sym (map-append own_entry more more'));
    add = adds_append more more' h.add h'.add;
  }

  pub go_on : (told : Option (List Stored)) (first second : List Stored → List (Result Act Refused))
      (old mid new : BookParts D) → Advances may_leave moment left_since told first old mid → Advances may_leave moment left_since told second mid new
      → Advances may_leave moment left_since told (λ c. first c ++ second c) old new
  go_on told first second old mid new h h' = record {
    more = h.more ++ h'.more;
    is_behind = behind_on old mid new h.more h'.more h.is_behind h'.is_behind;
    kept = h'.kept;
    all = λ c is. ap (λ l. l ++ second c) (h.all c is) ∙ ap (λ l. map Ok h.more ++ l) (h'.all c is)
        ∙ sym (map-append Ok h.more h'.more);
    moments = along_joined moment left_since old.journal mid.journal new.journal (IsPart mid.config mid.history)
        (IsPart new.config new.history) (IsPart new.config new.history)
        (λ c part. part_behind mid new h'.more c h'.is_behind part) (λ c part. part) h.moments h'.moments;
  }

  pub stop_on : (told : Option (List Stored)) (first second : List Stored → List (Result Act Refused))
      (old mid : BookParts D) (e : CommandFault) (new : BookParts D) → Advances may_leave moment left_since told first old mid
      → Stops may_leave moment left_since told second mid e new → Stops may_leave moment left_since told (λ c. first c ++ second c) old e new
  stop_on told first second old mid e new h h' = record {
    more = h.more ++ h'.more;
    next = h'.next;
    lost = h'.lost;
    is_behind = behind_on old mid new h.more h'.more h.is_behind h'.is_behind;
    kept = h'.kept;
    why = h'.why;
    front = λ c is. (let (rest, split) = h'.front c is in (
      rest,
      ap (λ l. (l ++ h'.next) ++ rest) (map-append Ok h.more h'.more)
          ∙ ap (λ l. l ++ rest) (append_assoc (map Ok h.more) (map Ok h'.more) h'.next)
          ∙ append_assoc (map Ok h.more) (map Ok h'.more ++ h'.next) rest
          ∙ ap (λ l. map Ok h.more ++ l) split ∙ ap (λ l. l ++ second c) (sym (h.all c is)),
    ));
    moments = along_joined moment left_since old.journal mid.journal new.journal (IsPart mid.config mid.history)
        (DuringStop new h'.next e) (DuringStop new h'.next e)
        (λ c part. inl (part_behind mid new h'.more c h'.is_behind part)) (λ c is. is) h.moments h'.moments;
  }

  pub stop_early : (told : Option (List Stored)) (first second : List Stored → List (Result Act Refused))
      (old : BookParts D) (e : CommandFault) (new : BookParts D) → Stops may_leave moment left_since told first old e new
      → Stops may_leave moment left_since told (λ c. first c ++ second c) old e new
  stop_early told first second old e new h = record {
    more = h.more;
    next = h.next;
    lost = h.lost;
    is_behind = h.is_behind;
    kept = h.kept;
    why = h.why;
    front = λ c is. (let (rest, split) = h.front c is in
        (rest ++ second c, sym (append_assoc (map Ok h.more ++ h.next) rest (second c)) ∙ ap (λ l. l ++ second c) split));
    moments = h.moments;
  }

  pub nothing_yet : (told : Option (List Stored)) (old : BookParts D) → IsKept may_leave None old
      → Advances may_leave moment left_since told (λ c. []) old old
  nothing_yet told old kept = record {
    more = [];
    is_behind = record { config = refl; history = sym (append-nil old.history); add = tt };
    kept = kept;
    all = λ c is. refl;
    moments = inl refl;
  }

  -- a reading was refused or failed, and the book is as before
  pub unread_stops : (told : Option (List Stored)) (wanted : List Stored → List (Result Act Refused)) (old : BookParts D)
      (next : List (Result Act Refused)) (e : CommandFault) → IsKept may_leave None old
      → IsStop old.config old.history next None e → Told told (λ c. IsPrefix next (wanted c))
      → Stops may_leave moment left_since told wanted old e old
  unread_stops told wanted old next e kept why front = record {
    more = [];
    next = next;
    lost = None;
    is_behind = record { config = refl; history = sym (append-nil old.history); add = tt };
    kept = kept;
    why = why;
    front = front;
    moments = inl refl;
  }

  stop_at : (told : Option (List Stored)) (wanted : List Stored → List (Result Act Refused)) (old : BookParts D)
      (e : CommandFault) → IsKept may_leave None old → (e ≡ faults.Disk → ⊥)
      → ((refused : Refused) → e ≡ faults.Refused refused → Told told (λ c. IsPrefix (Err refused ∷ []) (wanted c)))
      → Stops may_leave moment left_since told wanted old e old
  stop_at told wanted old (faults.Refused refused) kept none front =
      unread_stops told wanted old (Err refused ∷ []) (faults.Refused refused) kept (refl, refl) (front refused refl)
  stop_at told wanted old faults.Read kept none front =
      unread_stops told wanted old [] faults.Read kept (refl, refl) (λ c is. (wanted c, refl))
  stop_at told wanted old faults.Disk kept none front = absurd (none refl)
  stop_at told wanted old faults.Memory kept none front =
      unread_stops told wanted old [] faults.Memory kept (refl, refl) (λ c is. (wanted c, refl))

  -- a reading that ended ends the run at what it wants
  pub edit_stops : (told : Option (List Stored)) (wanted : List Stored → Result Act Refused) (old : BookParts D)
      (e : CommandFault) → IsKept may_leave None old → Reads told wanted (Err e)
      → Stops may_leave moment left_since told (λ c. wanted c ∷ []) old e old
  edit_stops told wanted old e kept h =
      stop_at told (λ c. wanted c ∷ []) old e kept (λ is. h.no_disk (ap (λ v. Err v) is))
      (λ refused same c is. ([], ap (λ r. r ∷ []) (sym (gives_refused (wanted c) e refused same (h.given c is)))))

  pub names_stop : {A : Type 0} (told : Option (List Stored)) (names : List Stored → Result A Refused)
      (more : List Stored → A → List (Result Act Refused)) (old : BookParts D) (e : CommandFault)
      → IsKept may_leave None old → Reads told names (Err e)
      → Stops may_leave moment left_since told (λ c. behind (names c) (more c)) old e old
  names_stop told names more old e kept h =
      stop_at told (λ c. behind (names c) (more c)) old e kept (λ is. h.no_disk (ap (λ v. Err v) is))
      (λ refused same c is. ([], sym (ap (λ r. behind r (more c)) (gives_refused (names c) e refused same (h.given c is)))))

  -- behind a reading of names
  pub names_go : {A T : Type 0} (told : Option (List Stored)) (names : List Stored → Result A Refused) (x : A)
      (more : List Stored → A → List (Result Act Refused)) (old : BookParts D) (r : Result T CommandFault)
      (new : BookParts D) → Reads told names (Ok x) → Goes may_leave moment left_since told (λ c. more c x) old r new
      → Goes may_leave moment left_since told (λ c. behind (names c) (more c)) old r new
  names_go told names x more old (Ok v) new h goes =
      same_wanted told (λ c. more c x) (λ c. behind (names c) (more c)) old new
      (λ c is. ap (λ r. behind r (more c)) (h.given c is)) goes
  names_go told names x more old (Err e) new h goes =
      stop_wanted told (λ c. more c x) (λ c. behind (names c) (more c)) old e new
      (λ c is. ap (λ r. behind r (more c)) (h.given c is)) goes

  -- an edit of the program that was tried
  pub added_goes : (count : D → ℕ) (told : Option (List Stored)) (wanted : List Stored → Result Act Refused) (old new : BookParts D) (act : Act) (r : Result ℕ CommandFault)
      → IsKept may_leave None old → IsAdded may_leave moment left_since count old act r new → AddsBundle act
      → Told told (λ c. wanted c ≡ Ok act) → Goes may_leave moment left_since told (λ c. wanted c ∷ []) old r new
  added_goes count told wanted old new act (Ok n) kept added adds is_wanted =
      added_ok count told wanted old new act n kept added adds is_wanted
  added_goes count told wanted old new act (Err e) kept added adds is_wanted =
      added_err count told wanted old new act e kept added is_wanted

  -- a run over the same content
  pub goes_along : {T : Type 0} (told told' : Option (List Stored)) (wanted : List Stored → List (Result Act Refused))
      (old : BookParts D) (r : Result T CommandFault) (new : BookParts D) → told' ≡ told
      → Goes may_leave moment left_since told' wanted old r new → Goes may_leave moment left_since told wanted old r new
  goes_along told told' wanted old r new same h = subst (λ o. Goes may_leave moment left_since o wanted old r new) same h

  pub memory_stops : (told : Option (List Stored)) (wanted : List Stored → List (Result Act Refused)) (old : BookParts D)
      → IsKept may_leave None old → Stops may_leave moment left_since told wanted old faults.Memory old
  memory_stops told wanted old kept =
      unread_stops told wanted old [] faults.Memory kept (refl, refl) (λ c is. (wanted c, refl))

  -- behind a reading of names that are seen in another list
  pub names_along : {A T : Type 0} (told told' : Option (List Stored)) (names : List Stored → Result A Refused) (x y : A)
      (more : List Stored → A → List (Result Act Refused)) (old : BookParts D) (r : Result T CommandFault)
      (new : BookParts D) → y ≡ x → told' ≡ told → Reads told names (Ok x)
      → Goes may_leave moment left_since told' (λ c. more c y) old r new → Goes may_leave moment left_since told (λ c. behind (names c) (more c)) old r new
  names_along told told' names x y more old r new is same h goes =
      names_go told names x more old r new h
      (subst (λ v. Goes may_leave moment left_since told (λ c. more c v) old r new) is
      (goes_along told told' (λ c. more c y) old r new same goes))

  -- a book under way has its journal
  pub goes_stored : {T : Type 0} (told : Option (List Stored)) (wanted : List Stored → List (Result Act Refused))
      (old : BookParts D) (r : Result T CommandFault) (new : BookParts D) → Goes may_leave moment left_since told wanted old r new
      → has_journal new.journal ≡ true
  goes_stored told wanted old (Ok x) new h = h.kept.stored
  goes_stored told wanted old (Err e) new h = h.kept.stored

  -- ---- a loop of steps over names

  each_more : (g : List Stored → List ℕ → List (Result Act Refused)) (names : List (List ℕ)) (i : ℕ) (name : List ℕ)
      (c : List Stored) → i < length names → name ≡ get_or names i name
      → flat_map (g c) (take (i + 1) names) ≡ flat_map (g c) (take i names) ++ g c name
  each_more g names i name c low is =
      ap (flat_map (g c)) (take_more names i name low ∙ ap (λ v. take i names ++ v ∷ []) (sym is))
      ∙ flat_map-append (g c) (take i names) (name ∷ [])
      ∙ ap (λ l. flat_map (g c) (take i names) ++ l) (append-nil (g c name))

  each_split : (g : List Stored → List ℕ → List (Result Act Refused)) (names : List (List ℕ)) (i : ℕ) (name : List ℕ)
      (c : List Stored) → i < length names → name ≡ get_or names i name
      → flat_map (g c) names
      ≡ flat_map (g c) (take i names) ++ (g c name ++ flat_map (g c) (drop (suc i) names))
  each_split g names i name c low is =
      ap (flat_map (g c)) (sym (take-append-drop i names)
      ∙ ap (λ l. take i names ++ l) (drop-cons names i name low ∙ ap (λ v. v ∷ drop (suc i) names) (sym is)))
      ∙ flat_map-append (g c) (take i names) (name ∷ drop (suc i) names)

  pub each_step : (g : List Stored → List ℕ → List (Result Act Refused)) (told told' : Option (List Stored))
      (names : List (List ℕ)) (i : ℕ) (name : List ℕ) (old mid new : BookParts D) → i < length names
      → name ≡ get_or names i name → told' ≡ told
      → Advances may_leave moment left_since told (λ c. flat_map (g c) (take i names)) old mid
      → Advances may_leave moment left_since told' (λ c. g c name) mid new
      → Advances may_leave moment left_since told (λ c. flat_map (g c) (take (i + 1) names)) old new
  each_step g told told' names i name old mid new low is same h h' =
      same_wanted told (λ c. flat_map (g c) (take i names) ++ g c name) (λ c. flat_map (g c) (take (i + 1) names)) old new
      (λ c known. each_more g names i name c low is)
      (go_on told (λ c. flat_map (g c) (take i names)) (λ c. g c name) old mid new h
      (subst (λ o. Advances may_leave moment left_since o (λ c. g c name) mid new) same h'))

  pub each_stop : (g : List Stored → List ℕ → List (Result Act Refused)) (told told' : Option (List Stored))
      (names : List (List ℕ)) (i : ℕ) (name : List ℕ) (old mid : BookParts D) (e : CommandFault) (new : BookParts D)
      → i < length names → name ≡ get_or names i name → told' ≡ told
      → Advances may_leave moment left_since told (λ c. flat_map (g c) (take i names)) old mid
      → Stops may_leave moment left_since told' (λ c. g c name) mid e new
      → Stops may_leave moment left_since told (λ c. flat_map (g c) names) old e new
  each_stop g told told' names i name old mid e new low is same h h' =
      stop_wanted told (λ c. flat_map (g c) (take i names) ++ (g c name ++ flat_map (g c) (drop (suc i) names)))
      (λ c. flat_map (g c) names) old e new (λ c known. each_split g names i name c low is)
      (stop_on told (λ c. flat_map (g c) (take i names)) (λ c. g c name ++ flat_map (g c) (drop (suc i) names)) old mid e
      new h (stop_early told (λ c. g c name) (λ c. flat_map (g c) (drop (suc i) names)) mid e new
      (subst (λ o. Stops may_leave moment left_since o (λ c. g c name) mid e new) same h')))

  pub each_end : (g : List Stored → List ℕ → List (Result Act Refused)) (told : Option (List Stored))
      (names : List (List ℕ)) (i : ℕ) (old new : BookParts D) → i ≡ length names
      → Advances may_leave moment left_since told (λ c. flat_map (g c) (take i names)) old new
      → Advances may_leave moment left_since told (λ c. flat_map (g c) names) old new
  each_end g told names i old new is h =
      same_wanted told (λ c. flat_map (g c) (take i names)) (λ c. flat_map (g c) names) old new
      (λ c known. ap (flat_map (g c)) (sym (ap (λ n. take n names) is ∙ take-length names))) h

-- an element, by another view of it
pub item_is : (a b : List ℕ) (names : List (List ℕ)) (i : ℕ) → a ≡ b → b ≡ get_or names i b → a ≡ get_or names i a
item_is a b names i is here = subst (λ v. v ≡ get_or names i v) (sym is) here

-- what a loop over names keeps: what came so far was accepted, the folder's content is the same, and no count fell
pub record Going {D : Type 0} (may_leave : D → List ℕ → Type 0) (moment : D → ℕ)
    (left_since : D → ℕ → List ℕ → Type 0) (told now : Option (List Stored)) (wanted : List Stored → List (Result Act Refused)) (old new : BookParts D)
    (faults_before faults_now misses_before misses_now disk_before disk_now : ℕ) : Type 0 where
  pub advances : Advances may_leave moment left_since told wanted old new
  pub same : now ≡ told
  pub faults : faults_before ≤ faults_now
  pub misses : misses_before ≤ misses_now
  pub disk : disk_before ≤ disk_now
