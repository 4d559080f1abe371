-- What a status says where the store was not opened or the script not read.
use Rattle.std.proofs.Common.{◌≡◌, ◌≢◌, inl, inr, ℕ, ◌≤◌, Bool, true, List, [], Option, Some, None, Result, Ok, Err, IfErr, refl, sym, subst, arith}
use Rattle.std.specs.Io.KnownBytes.{Appends}
use Rattle.std.proofs.KnownBytes.{Appends-nil}
use Rattle.emu_names.specs.Count.{Rose}
use Rattle.emu_io.specs.declared.whole.Front.{Front}
use Rattle.emu_io.specs.declared.faults.ReadFault.{ReadFault}
use Rattle.emu_io.specs.declared.faults.ReadFault.TheVariants as read_faults
use Rattle.edit_journal.specs.declared.journal.Journal.{Journal}
use Rattle.book_opening.specs.declared.fault.OpenFault.{OpenFault}
use Rattle.book_opening.specs.declared.fault.OpenFault.TheVariants as opens
use Rattle.live_run.specs.live_book.Kept.{faults_in}
use Rattle.book_opening.specs.Inner.Opens.{IsNoStoreFor}
use Rattle.program_output.specs.Texts.{damaged_text}
use Rattle.program_output.specs.declared.ended.Ended.{Ended}
use Rattle.program_output.specs.declared.ended.Ended.TheVariants as ends
use Rattle.program_output.specs.declared.status.Status.{Status}
use Rattle.script_runs.specs.Scripts.{read_from}
use Rattle.script_runs.specs.Bases.{Base, wants_by, IsBaseOf, EachOf}
use Rattle.script_runs.specs.Says.{Call, Says}
use Rattle.script_runs.specs.Inner.Says.{call_of}
use Rattle.script_runs.specs.Inner.Reached.{IsRunDone}
use Rattle.program_output.specs.Inner.Written.{EndHasCause, IsTold}
use Rattle.script_runs.specs.Inner.Ran.{IsUnread, BeginsBefore, SaysUnopened}
use Rattle.script_runs.proofs.SaysLemmas.{says_read, says_unread}

-- an end that has its cause has a fault that is told
pub told_end : (end : Ended) (before now : ℕ) → EndHasCause end before now → IsTold end
told_end ends.Limit before now h = tt
told_end (ends.AtFault number fault) before now h = h
told_end ends.NoRoom before now h = tt
told_end ends.Disk before now h = tt
told_end ends.Write before now h = tt
told_end ends.Memory before now h = tt

pub told_ended : {A : Type 0} (result : Result A Ended) (before now : ℕ) → IfErr result (λ end. EndHasCause end before now) → IfErr result IsTold
told_ended (Ok x) before now h = tt
told_ended (Err end) before now h = told_end end before now h

pub begins_before : {D : Type 0} (faults : D → ℕ) (journal : Option (Journal D)) (disk : D) → faults disk ≤ faults_in faults journal → BeginsBefore faults journal disk
begins_before faults None disk h = tt
begins_before faults (Some journal) disk h = h

abbrev pub err_fault : ReadFault → Result Front ReadFault
err_fault fault = Err fault

-- the script could not be read
module _ (store : Bool) (stored left left_after : Option (List ℕ)) (r rs m f fs : ℕ) (base : Base) (begins : IsBaseOf store stored base) (before since images : List ℕ → Type 0) where
  pub unread_says : (fault : ReadFault) (status : Status) (now : Option (List ℕ)) (w : ℕ) → IsUnread fault status → (fault ≡ read_faults.Failed → Rose r rs) → IsRunDone base f fs before since images (read_from (wants_by base)) [] → Says status (call_of store stored left left_after now now r rs w w m m f fs) before since images
  unread_says read_faults.Failed status now w is cause d =
      subst (λ st. Says st (call_of store stored left left_after now now r rs w w m m f fs) before since images) (sym is) (says_read store stored left left_after r rs m m f fs base begins before since images now w (cause refl) d)
  unread_says read_faults.Memory status now w is cause d =
      subst (λ st. Says st (call_of store stored left left_after now now r rs w w m m f fs) before since images) (sym is) (says_unread store stored left left_after r rs m m f fs base begins before since images now w w (omega arith) d)

-- a store that is not opened is never full
pub not_full : {D : Type 0} (stored : Option (List ℕ)) (faults : D → ℕ) (old new : D) (fault : OpenFault) → IsNoStoreFor stored faults old fault new → fault ≢ opens.StoreFull
not_full stored faults old new fault why same = subst (λ f. IsNoStoreFor stored faults old f new) same why

-- the store could not be opened
module _ {D : Type 0} (faults : D → ℕ) (old new : D) (stored left before after : Option (List ℕ)) (r w ws m : ℕ) (images since images_after : List ℕ → Type 0) (none_new : EachOf images_after images) (none_since : EachOf since images) where
  abbrev call : Call
  call = call_of true stored left left before after r r w ws m m (faults old) (faults new)

  pub says_no_store : (fault : OpenFault) (status : Status) → IsNoStoreFor stored faults old fault new → SaysUnopened fault status before after w ws → Says status call images since images_after
  says_no_store opens.Disk status why h =
      subst (λ st. Says st call images since images_after) (sym h.0) (record { stored = refl; cause = why; leaves = inl none_new; output = subst (λ now. Appends before now []) (sym h.1) (Appends-nil before) }, λ c left. inl (none_since c left))
  says_no_store (opens.Damaged at) status why (inl h) =
      subst (λ st. Says st call images since images_after) (sym h.0) (record { at = at; damage = record { stored = refl; damaged = why }; leaves = none_new; output = h.1 }, none_since)
  says_no_store (opens.Damaged at) status why (inr (inl h)) =
      subst (λ st. Says st call images since images_after) (sym h.0) (record {
        cause = h.1;
        output = inr (inr (record { stored = refl; leaves = none_new; last = damaged_text at; line = inr (at, record { stored = refl; damaged = why }, refl); output = h.2 }, none_since));
      })
  says_no_store (opens.Damaged at) status why (inr (inr h)) =
      subst (λ st. Says st call images since images_after) (sym h.0)
      (inr (inr (record { stored = refl; leaves = none_new; last = damaged_text at; line = inr (at, record { stored = refl; damaged = why }, refl); output = h.1 }, none_since)))
  says_no_store opens.StoreFull status why h = absurd why
  says_no_store opens.Memory status why h =
      subst (λ st. Says st call images since images_after) (sym h.0)
      (inr (inr (record { stored = refl; leaves = none_new; last = []; line = inl refl; output = (0, subst (λ now. Appends before now []) (sym h.1) (Appends-nil before)) }, none_since)))
