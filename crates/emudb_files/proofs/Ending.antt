-- How a `load` ends: what the journal of a book that was filled keeps.
use Rattle.std.proofs.Common.{◌≡◌, ◌⊎◌, inl, inr, ℕ, List, [], ◌++◌, map, length, Option, None, Some, Result, Ok, Err, IfOk, refl, ap, subst, subst₂, ◌∙◌, arith}
use Rattle.std.proofs.lemmas.List.{length-map}
use Rattle.emu_io.specs.declared.tree.Stored.{Stored}
use Rattle.db_config.specs.declared.parts.ConfigParts.{ConfigParts}
use Rattle.store_texts.specs.edit_rules.declared.acts.Act.{Act}
use Rattle.store_texts.specs.edit_rules.declared.acts.Entry.{Entry}
use Rattle.edit_journal.specs.declared.journal.Journal.{Journal}
use Rattle.book_opening.specs.live_book.Histories.{Stands}
use Rattle.book_opening.specs.live_book.Kept.{BookParts, CrashLeaves, Keeps, KeepsIn}
use Rattle.book_opening.specs.Opens.{DuringNew}
use Rattle.store_texts.specs.declared.faults.Refused.{Refused}
use Rattle.store_texts.specs.declared.faults.CommandFault.{CommandFault}
use Rattle.emudb_files.specs.Stored.{own_entry, DuringLoad, IsFilled, IsOneMore, IsPart, IsStop, LeavesAlong}
use Rattle.emudb_files.specs.Inner.Running.{IsBehind, DuringStop, Goes}
use Rattle.emudb_files.proofs.Going.{along_joined, along_weaker}

-- a configuration alone is a part of what stands behind it
alone_part : (config : ConfigParts) (history : List Entry) (c : List ℕ) → Stands config [] c → IsPart config history c
alone_part config history c h = record { count = 0; within = omega arith; stands = h }

new_part : (config : ConfigParts) (history : List Entry) (next : List (Result Act Refused)) (r : Result ℕ CommandFault)
    (c : List ℕ) → DuringNew config c → DuringLoad config history next r c
new_part config history next (Ok n) c (inl h) = inl h
new_part config history next (Ok n) c (inr h) = inr (alone_part config history c h)
new_part config history next (Err e) c (inl h) = inl h
new_part config history next (Err e) c (inr h) = inr (inl (alone_part config history c h))

module _ {D : Type 0} (may_leave : D → List ℕ → Type 0) (moment : D → ℕ) (left_since : D → ℕ → List ℕ → Type 0) where
  history_of : (old new : BookParts D) (more : List Act) → old.history ≡ [] → IsBehind old more new
      → new.history ≡ map own_entry more
  history_of old new more empty h = h.history ∙ ap (λ l. l ++ map own_entry more) empty

  keeps_of : (config : ConfigParts) (history : List Entry) (lost : Option Entry) (new : BookParts D) (journal : Journal D)
      → new.config ≡ config → new.history ≡ history → new.journal ≡ Some journal
      → KeepsIn may_leave new.config new.history lost new.journal → Keeps may_leave config history lost journal
  keeps_of config history lost new journal same same' is h =
      subst₂ (λ c l. Keeps may_leave c l lost journal) same same'
      (subst (λ j. KeepsIn may_leave new.config new.history lost j) is h)

  leaves_of : (old new : BookParts D) (journal : Journal D) (P Q : List ℕ → Type 0) → new.journal ≡ Some journal
      → ((c : List ℕ) → P c → Q c) → LeavesAlong moment left_since old.journal new.journal P
      → LeavesAlong moment left_since old.journal (Some journal) Q
  leaves_of old new journal P Q is change h =
      subst (λ j. LeavesAlong moment left_since old.journal j Q) is
      (along_weaker moment left_since old.journal new.journal P Q change h)

  -- the configuration was stored before that
  pub filled_from : (told : Option (List Stored)) (wanted : List Stored → List (Result Act Refused)) (config : ConfigParts)
      (start : Journal D) (mid : Option (Journal D)) (r : Result ℕ CommandFault) (journal : Journal D)
      → CrashLeaves moment left_since (Some start) mid (DuringNew config)
      → IsFilled may_leave moment left_since told wanted config mid r journal
      → IsFilled may_leave moment left_since told wanted config (Some start) r journal
  filled_from told wanted config start mid r journal crash h = record {
    done = h.done;
    next = h.next;
    lost = h.lost;
    add = h.add;
    keeps = h.keeps;
    end = h.end;
    moments = along_joined moment left_since (Some start) mid (Some journal) (DuringNew config)
        (DuringLoad config (map own_entry h.done) h.next r) (DuringLoad config (map own_entry h.done) h.next r)
        (new_part config (map own_entry h.done) h.next r) (λ c is. is) (inr crash) h.moments;
  }

  pub filled : (told : Option (List Stored)) (wanted : List Stored → List (Result Act Refused)) (old new : BookParts D)
      (r : Result ℕ CommandFault) (journal : Journal D) → old.history ≡ []
      → Goes may_leave moment left_since told wanted old r new → ((n : ℕ) → r ≡ Ok n → n ≡ length new.history)
      → new.journal ≡ Some journal → IsFilled may_leave moment left_since told wanted old.config old.journal r journal
  filled told wanted old new (Ok n) journal empty h counted is =
      let past = history_of old new h.more empty h.is_behind in
      record {
        done = h.more;
        next = [];
        lost = None;
        add = h.is_behind.add;
        keeps = keeps_of old.config (map own_entry h.more) None new journal h.is_behind.config past is h.kept.keeps;
        end = (counted n refl ∙ ap length past ∙ length-map h.more own_entry, refl, refl, h.all);
        moments = leaves_of old new journal (IsPart new.config new.history)
            (DuringLoad old.config (map own_entry h.more) [] (Ok n)) is
            (λ c part. inr (subst₂ (λ d l. IsPart d l c) h.is_behind.config past part)) h.moments;
      }
  filled told wanted old new (Err e) journal empty h counted is =
      let past = history_of old new h.more empty h.is_behind in
      record {
        done = h.more;
        next = h.next;
        lost = h.lost;
        add = h.is_behind.add;
        keeps = keeps_of old.config (map own_entry h.more) h.lost new journal h.is_behind.config past is h.kept.keeps;
        end = (subst₂ (λ c l. IsStop c l h.next h.lost e) h.is_behind.config past h.why, h.front);
        moments = leaves_of old new journal (DuringStop new h.next e)
            (DuringLoad old.config (map own_entry h.more) h.next (Err e)) is
            (λ c at. inr (subst₂ (λ d l. IsPart d l c ⊎ IsOneMore d l h.next e c) h.is_behind.config past at)) h.moments;
      }

-- what is said of a value holds where it is given
pub if_ok_at : {A E : Type 0} (P : A → Type 0) (r : Result A E) → IfOk r P → (x : A) → r ≡ Ok x → P x
if_ok_at P r h x is = subst (λ v. IfOk v P) is h
