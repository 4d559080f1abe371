-- A live run over a bare store or none, and over a store with a configuration.
use Rattle.std.proofs.Common.{◌≡◌, inl, inr, ℕ, ◌≤◌, Bool, true, false, List, [], Option, Some, None, Err, refl, sym, ◌∙◌, ap, subst, arith}
use Rattle.std.specs.Io.KnownBytes.{Appends}
use Rattle.std.proofs.KnownBytes.{Appends-nil}
use Rattle.emu_names.specs.Count.{Rose}
use Rattle.emu_names.specs.declared.limits.TheConstants.{SCRIPT_BYTES}
use Rattle.emu_io.specs.declared.faults.ReadFault.{ReadFault}
use Rattle.emu_io.specs.declared.faults.ReadFault.TheVariants as read_faults
use Rattle.emu_io.specs.Fronts.{WritesFront}
use Rattle.emu_io.specs.Inner.Fronts.{IsFrontOf}
use Rattle.db_config.specs.declared.parts.ConfigParts.{ConfigParts}
use Rattle.db_config.specs.Valid.{is_valid}
use Rattle.edit_journal.specs.declared.journal.Journal.{Journal}
use Rattle.live_run.specs.session_core.declared.line.Line.{Line}
use Rattle.book_opening.specs.declared.fault.OpenFault.{OpenFault}
use Rattle.book_opening.specs.declared.fault.OpenFault.TheVariants as opens
use Rattle.live_run.specs.live_book.Histories.{OfRead, IsBare}
use Rattle.live_run.specs.live_book.Kept.{BookParts, KeepsIn, CrashLeaves, faults_in}
use Rattle.live_run.specs.live_book.Commits.{has_journal}
use Rattle.book_opening.specs.Opens.{IsNoBookFor, DuringNew, DuringNoBook}
use Rattle.book_opening.specs.Inner.Opens.{IsEmpty, IsNoStoreFor, IsNew}
use Rattle.script_lines.specs.declared.faults.ReadLine.TheVariants as reads
use Rattle.program_output.specs.Texts.{damaged_text}
use Rattle.program_output.specs.declared.ended.Ended.{Ended}
use Rattle.program_output.specs.declared.status.Status.{Status}
use Rattle.program_output.specs.declared.status.Status.TheVariants as statuses
use Rattle.script_runs.specs.Cuts.{cut}
use Rattle.script_runs.specs.Scripts.{Parsed, read_from, with_read}
use Rattle.script_runs.specs.Bases.{Base, no_store, bare_store, store_of, wants_by, is_stored, opening_by, config_by, counted, IsBaseOf, EachOf, LeavesStore}
use Rattle.script_runs.specs.Inner.Bases.{fresh_base}
use Rattle.program_output.specs.Texts.{limit_text}
use Rattle.script_runs.specs.Says.{Call, TooLong}
use Rattle.script_runs.specs.Inner.Says.{call_of}
use Rattle.program_output.specs.Statuses.{WritesLast}
use Rattle.script_runs.specs.Inner.Reached.{IsDone, IsKept, IsBeginOf, IsEndFor}
use Rattle.script_runs.specs.Inner.Ran.{HasDisk, BeginsBefore, IsUnread, SaysUnopened}
use Rattle.program_output.specs.Inner.Statuses.{Closes}
use Rattle.script_runs.specs.Inner.Reads.{GivesConfig, ReadsScript}
use Rattle.script_runs.specs.Lives.{LivesNot, SaysLive}
use Rattle.script_runs.specs.Inner.Answered.{EndsOver, WasRead}
use Rattle.script_runs.proofs.DiskLemmas.{done_of, failed_of, begin_of}
use Rattle.script_runs.proofs.KeptLemmas.{kept_none, kept_config, kept_store}
use Rattle.script_runs.proofs.BookLemmas.{crash_leaves}
use Rattle.script_runs.proofs.OrderedLemmas.{legal_base}
use Rattle.script_runs.proofs.LiveSays.{left_none, gives, not_run, live_unread, live_ended, live_ran}

stored_fresh : (store : Bool) → is_stored (fresh_base store) ≡ store
stored_fresh true = refl
stored_fresh false = refl

wants_fresh : (store : Bool) → wants_by (fresh_base store) ≡ true
wants_fresh true = refl
wants_fresh false = refl

opening_fresh : (store : Bool) → opening_by (fresh_base store) ≡ []
opening_fresh true = refl
opening_fresh false = refl

config_fresh : (store : Bool) (given : Option ConfigParts) → config_by (fresh_base store) given ≡ given
config_fresh true given = refl
config_fresh false given = refl

bare_fresh : (store : Bool) (stored : Option (List ℕ)) → store ≡ true → IsBaseOf store stored (fresh_base store) → OfRead stored IsBare
bare_fresh true stored is h = h
bare_fresh false stored is h = absurd (cc)

bare_left : (store : Bool) (images : List ℕ → Type 0) → store ≡ true → LeavesStore (is_stored (fresh_base store)) (config_by (fresh_base store) None) (opening_by (fresh_base store)) [] [] (opening_by (fresh_base store)) images → EachOf images IsBare
bare_left true images is h = h
bare_left false images is h = absurd (cc)

rose_from : (a b c : ℕ) → a ≤ b → Rose b c → Rose a c
rose_from a b c l g = omega arith

begin_low : (store : Bool) (a b : ℕ) → store ≡ true → counted (fresh_base store) a ≤ b → a ≤ b
begin_low true a b is h = h
begin_low false a b is h = absurd (cc)

-- a new book was made, and no line was run over it
not_new : {D : Type 0} (may_leave : D → List ℕ → Type 0) (faults : D → ℕ) (reads_of : D → Option (List ℕ)) (store : Bool) (begin disk : D) (config : ConfigParts) (journal : Option (Journal D)) → has_journal journal ≡ store → IsBaseOf store (reads_of begin) (fresh_base store) → counted (fresh_base store) (faults begin) ≤ faults_in faults journal → HasDisk journal disk → KeepsIn may_leave config [] None journal →
    (left left_after : Option (List ℕ)) (r rs m n : ℕ) (parsed : Parsed) → WasRead true left left_after m n parsed → parsed.config ≡ Some config → (before after : Option (List ℕ)) (w ws : ℕ) →
    LivesNot (call_of store (reads_of begin) left left_after before after r rs w ws m n (faults begin) (faults disk)) (may_leave disk)
not_new may_leave faults reads_of true begin disk config journal is begins low has keeps left left_after r rs m n parsed x c before after w ws = record {
  base = bare_store;
  begins = begins;
  given = Some config;
  why = gives true (reads_of begin) left left_after r rs m n (faults begin) (faults disk) bare_store begins (may_leave begin) (may_leave disk) before after w ws parsed config refl begins x c;
  leaves = (done_of may_leave faults bare_store (faults begin) journal disk has (with_read (read_from true) (reads.Config config)) [] (kept_config may_leave faults (faults begin) true config journal is low keeps)).left;
}
not_new may_leave faults reads_of false begin disk config journal is begins low has keeps left left_after r rs m n parsed x c before after w ws = record { base = no_store; begins = tt; given = None; why = tt; leaves = tt }

-- Over no store, or a bare one.
module _ {D : Type 0} (may_leave : D → List ℕ → Type 0) (faults : D → ℕ) (reads_of : D → Option (List ℕ)) (store : Bool) (begin disk : D) (old : Option (Journal D)) (is : has_journal old ≡ store) (begins : IsBaseOf store (reads_of begin) (fresh_base store)) (low : BeginsBefore faults old begin) where
  low_begin : IsBeginOf faults (fresh_base store) old (faults begin)
  low_begin = begin_of may_leave faults (fresh_base store) old begin (is ∙ sym (stored_fresh store)) low

  fresh_done : HasDisk old disk → IsEmpty may_leave old → IsDone (fresh_base store) (faults begin) (faults disk) (may_leave disk) (read_from (wants_by (fresh_base store))) []
  fresh_done has empty =
      done_of may_leave faults (fresh_base store) (faults begin) old disk has (read_from (wants_by (fresh_base store))) []
      (subst (λ wants. IsKept may_leave faults (fresh_base store) (faults begin) old (read_from wants) []) (sym (wants_fresh store)) (kept_none may_leave faults (faults begin) store old is low_begin empty))

  pub fresh_unread : HasDisk old disk → IsEmpty may_leave old → (left left_after : Option (List ℕ)) (r rs m : ℕ) (fault : ReadFault) (status : Status) (now : Option (List ℕ)) (w : ℕ) → IsUnread fault status → (fault ≡ read_faults.Failed → Rose r rs) →
      SaysLive status (call_of store (reads_of begin) left left_after now now r rs w w m m (faults begin) (faults disk)) (may_leave begin) (may_leave disk)
  fresh_unread has empty left left_after r rs m fault status now w un cause =
      live_unread store (reads_of begin) left left_after r rs m m (faults begin) (faults disk) (fresh_base store) begins (may_leave begin) (may_leave disk) fault status now w un cause (fresh_done has empty)

  pub fresh_ended : HasDisk old disk → IsEmpty may_leave old → (left left_after : Option (List ℕ)) (r rs m n : ℕ) (past : Bool) (bytes : List ℕ) → IsFrontOf left SCRIPT_BYTES bytes past → (A : Type 0) (end : Ended) (status : Status) (before after : Option (List ℕ)) (w ws : ℕ) →
      ReadsScript (Err end) true past (cut past bytes) m n → Closes {A = A} (Err end) status before after w ws →
      SaysLive status (call_of store (reads_of begin) left left_after before after r rs w ws m n (faults begin) (faults disk)) (may_leave begin) (may_leave disk)
  fresh_ended has empty left left_after r rs m n past bytes front A end status before after w ws e c =
      live_ended store (reads_of begin) left left_after r rs m n (faults begin) (faults disk) (fresh_base store) begins (may_leave begin) (may_leave disk) past bytes front A end status before after w ws
      (subst (λ wants. ReadsScript (Err end) wants past (cut past bytes) m n) (sym (wants_fresh store)) e) (fresh_done has empty) c

  module _ (left left_after : Option (List ℕ)) (r rs m n : ℕ) (parsed : Parsed) (x : WasRead true left left_after m n parsed) (config : ConfigParts) (c : parsed.config ≡ Some config) (before after : Option (List ℕ)) (w ws : ℕ) where
    abbrev call : Call
    call = call_of store (reads_of begin) left left_after before after r rs w ws m n (faults begin) (faults disk)

    abbrev Said : Status → Type 0
    Said status = SaysLive status call (may_leave begin) (may_leave disk)

    pub fresh_ran : (book : BookParts D) (lines : List Line) (journal : Option (Journal D)) (status : Status) → IsNew may_leave config (has_journal old) book → faults_in faults old ≤ faults_in faults book.journal → HasDisk journal disk → parsed.requests ≡ lines →
        EndsOver status may_leave faults book true lines journal before after w ws → Said status
    fresh_ran book lines journal status new later has requests e =
        let here : counted (fresh_base store) (faults begin) ≤ faults_in faults book.journal = omega (arith, low_begin, later) in
        let valid : is_valid config ≡ true = subst (λ g. GivesConfig true g) c x.gives in
        live_ran may_leave faults reads_of store (fresh_base store) begin disk begins book true lines journal has (new.stored ∙ is ∙ sym (stored_fresh store)) (opening_fresh store ∙ sym new.history) here (sym (wants_fresh store))
        left left_after r rs m n parsed requests (config_fresh store parsed.config ∙ c ∙ ap (λ k. Some k) (sym new.config)) (subst (λ k. is_valid k ≡ true) (sym new.config) valid) (subst (λ wants. WasRead wants left left_after m n parsed) (sym (wants_fresh store)) x) status before after w ws e
        (λ same. not_new may_leave faults reads_of store begin disk config journal (ap (λ j. has_journal j) same ∙ new.stored ∙ is) begins (subst (λ j. counted (fresh_base store) (faults begin) ≤ faults_in faults j) (sym same) here) has (subst (λ j. KeepsIn may_leave config [] None j) (sym same) new.kept)
        left left_after r rs m n parsed x c before after w ws)

    module _ (moment : D → ℕ) (left_since : D → ℕ → List ℕ → Type 0) (counts_now : (disk : D) (t : ℕ) (c : List ℕ) → t ≤ moment disk → may_leave disk c → left_since disk t c) (empty : IsEmpty may_leave old) where
      too_long : (Writes : List ℕ → Type 0) (new : Option (Journal D)) → HasDisk new disk → IsNoBookFor may_leave faults config old opens.StoreFull new → Writes limit_text → TooLong call (may_leave disk) Writes
      too_long Writes new has why written =
          let yes : store ≡ true = sym is ∙ why.0.0 in record {
            config = config;
            gives = gives store (reads_of begin) left left_after r rs m n (faults begin) (faults disk) (fresh_base store) begins (may_leave begin) (may_leave disk) before after w ws parsed config yes (bare_fresh store (reads_of begin) yes begins) x c;
            over = why.0.1;
            leaves = bare_left store (may_leave disk) yes (left_none (fresh_base store) (faults begin) (faults disk) (may_leave disk) (fresh_done (subst (λ j. HasDisk j disk) why.1 has) empty));
            output = written;
          }

      says_long : (new : Option (Journal D)) (status : Status) → HasDisk new disk → IsNoBookFor may_leave faults config old opens.StoreFull new → WritesLast status statuses.Limit before after w ws limit_text → Said status
      says_long new status has why (inl h) = subst (λ st. Said st) (sym h.0) (inr (too_long (Appends before after) new has why h.1))
      says_long new status has why (inr (inl h)) = subst (λ st. Said st) (sym h.0) (h.1, inr (inr (inl (too_long (WritesFront before after) new has why h.2))))
      says_long new status has why (inr (inr h)) = subst (λ st. Said st) (sym h.0) (inl (inr (inr (inl (too_long (WritesFront before after) new has why h.1)))))

      stored_new : (a b : Option (Journal D)) (P : List ℕ → Type 0) → CrashLeaves moment left_since a b P → has_journal b ≡ has_journal a
      stored_new None None P h = refl
      stored_new (Some a) (Some b) P h = refl
      stored_new None (Some b) P h = absurd h
      stored_new (Some a) None P h = absurd h

      says_disk : (new : Option (Journal D)) (status : Status) → HasDisk new disk → IsNoBookFor may_leave faults config old opens.Disk new → CrashLeaves moment left_since old new (DuringNew config) → (status ≡ statuses.Disk) × (after ≡ before) → Said status
      says_disk new status has why crash h =
          let yes : store ≡ true = sym is ∙ why.0 in
          let failed = failed_of may_leave faults (faults begin) new disk (stored_new old new (DuringNew config) crash ∙ why.0) has config (record {
            cause = rose_from (faults begin) (faults_in faults old) (faults_in faults new) (begin_low store (faults begin) (faults_in faults old) yes low_begin) why.2;
            images = λ own same. crash_leaves may_leave moment left_since counts_now old new own (DuringNew config) same why.0 crash;
          }) in
          subst (λ st. Said st) (sym h.0) (record {
            stored = yes;
            cause = failed.cause;
            leaves = inr (record {
              config = config;
              gives = gives store (reads_of begin) left left_after r rs m n (faults begin) (faults disk) (fresh_base store) begins (may_leave begin) (may_leave disk) before after w ws parsed config yes (bare_fresh store (reads_of begin) yes begins) x c;
              each = failed.each;
            });
            output = subst (λ now. Appends before now []) (sym h.1) (Appends-nil before);
          })

      -- no book could be made of the configuration
      pub fresh_refused : (A : Type 0) (new : Option (Journal D)) (fault : OpenFault) (end : Ended) (status : Status) → HasDisk new disk → IsEndFor fault end → IsNoBookFor may_leave faults config old fault new → CrashLeaves moment left_since old new (DuringNoBook fault config) → Closes {A = A} (Err end) status before after w ws → Said status
      fresh_refused A new opens.StoreFull end status has e why crash h = says_long new status has why (subst (λ x. Closes {A = A} (Err x) status before after w ws) e h)
      fresh_refused A new opens.Disk end status has e why crash h = says_disk new status has why crash (subst (λ x. Closes {A = A} (Err x) status before after w ws) e h)
      fresh_refused A new (opens.Damaged at) end status has e why crash h = absurd why
      fresh_refused A new opens.Memory end status has e why crash h =
          let k : (status ≡ statuses.Memory) × (after ≡ before) = subst (λ x. Closes {A = A} (Err x) status before after w ws) e h in
          subst (λ st. Said st) (sym k.0)
          (inr (
            not_run store (reads_of begin) left left_after r rs m n (faults begin) (faults disk) (fresh_base store) begins (may_leave begin) (may_leave disk) before after w ws (fresh_done (subst (λ j. HasDisk j disk) why has) empty),
            subst (λ now. Appends before now []) (sym k.1) (Appends-nil before),
          ))

-- Over a store with a configuration.
module _ {D : Type 0} (may_leave : D → List ℕ → Type 0) (faults : D → ℕ) (reads_of : D → Option (List ℕ)) (begin disk : D) (book : BookParts D) (is : has_journal book.journal ≡ true) (keeps : KeepsIn may_leave book.config book.history None book.journal)
    (begins : IsBaseOf true (reads_of begin) (store_of book.config book.history)) (low : BeginsBefore faults book.journal begin) where
  abbrev base : Base
  base = store_of book.config book.history

  store_low : IsBeginOf faults base book.journal (faults begin)
  store_low = begin_of may_leave faults base book.journal begin is low

  store_done : (journal : Option (Journal D)) → HasDisk journal disk → journal ≡ book.journal → IsDone base (faults begin) (faults disk) (may_leave disk) (read_from false) []
  store_done journal has same = done_of may_leave faults base (faults begin) book.journal disk (subst (λ j. HasDisk j disk) same has) (read_from false) [] (kept_store may_leave faults (faults begin) book.config book.history book.journal is store_low keeps)

  pub store_unread : (journal : Option (Journal D)) → HasDisk journal disk → journal ≡ book.journal → (left left_after : Option (List ℕ)) (r rs m : ℕ) (fault : ReadFault) (status : Status) (now : Option (List ℕ)) (w : ℕ) → IsUnread fault status → (fault ≡ read_faults.Failed → Rose r rs) →
      SaysLive status (call_of true (reads_of begin) left left_after now now r rs w w m m (faults begin) (faults disk)) (may_leave begin) (may_leave disk)
  store_unread journal has same left left_after r rs m fault status now w un cause =
      live_unread true (reads_of begin) left left_after r rs m m (faults begin) (faults disk) base begins (may_leave begin) (may_leave disk) fault status now w un cause (store_done journal has same)

  pub store_ended : (journal : Option (Journal D)) → HasDisk journal disk → journal ≡ book.journal → (left left_after : Option (List ℕ)) (r rs m n : ℕ) (past : Bool) (bytes : List ℕ) → IsFrontOf left SCRIPT_BYTES bytes past → (A : Type 0) (end : Ended) (status : Status) (before after : Option (List ℕ)) (w ws : ℕ) →
      ReadsScript (Err end) false past (cut past bytes) m n → Closes {A = A} (Err end) status before after w ws →
      SaysLive status (call_of true (reads_of begin) left left_after before after r rs w ws m n (faults begin) (faults disk)) (may_leave begin) (may_leave disk)
  store_ended journal has same left left_after r rs m n past bytes front A end status before after w ws e c =
      live_ended true (reads_of begin) left left_after r rs m n (faults begin) (faults disk) base begins (may_leave begin) (may_leave disk) past bytes front A end status before after w ws e (store_done journal has same) c

  pub store_ran : (journal : Option (Journal D)) → HasDisk journal disk → (left left_after : Option (List ℕ)) (r rs m n : ℕ) (parsed : Parsed) → WasRead false left left_after m n parsed → (lines : List Line) → parsed.requests ≡ lines → (status : Status) (before after : Option (List ℕ)) (w ws : ℕ) →
      EndsOver status may_leave faults book false lines journal before after w ws →
      SaysLive status (call_of true (reads_of begin) left left_after before after r rs w ws m n (faults begin) (faults disk)) (may_leave begin) (may_leave disk)
  store_ran journal has left left_after r rs m n parsed x lines requests status before after w ws e =
      live_ran may_leave faults reads_of true base begin disk begins book false lines journal has is refl store_low refl left left_after r rs m n parsed requests refl (legal_base true (reads_of begin) base begins).0 x status before after w ws e
      (λ same. not_run true (reads_of begin) left left_after r rs m n (faults begin) (faults disk) base begins (may_leave begin) (may_leave disk) before after w ws (store_done journal has same))

-- the store could not be opened
pub says_no_store : {D : Type 0} (faults : D → ℕ) (old new : D) (stored left before after : Option (List ℕ)) (r w ws m : ℕ) (images images_after : List ℕ → Type 0) → EachOf images_after images → (fault : OpenFault) (status : Status) → IsNoStoreFor stored faults old fault new → SaysUnopened fault status before after w ws →
    SaysLive status (call_of true stored left left before after r r w ws m m (faults old) (faults new)) images images_after
says_no_store faults old new stored left before after r w ws m images images_after none_new opens.Disk status why h =
    subst (λ st. SaysLive st (call_of true stored left left before after r r w ws m m (faults old) (faults new)) images images_after) (sym h.0) (record { stored = refl; cause = why; leaves = inl none_new; output = subst (λ now. Appends before now []) (sym h.1) (Appends-nil before) })
says_no_store faults old new stored left before after r w ws m images images_after none_new (opens.Damaged at) status why (inl h) =
    subst (λ st. SaysLive st (call_of true stored left left before after r r w ws m m (faults old) (faults new)) images images_after) (sym h.0) (record { at = at; damage = record { stored = refl; damaged = why }; leaves = none_new; output = h.1 })
says_no_store faults old new stored left before after r w ws m images images_after none_new (opens.Damaged at) status why (inr (inl h)) =
    subst (λ st. SaysLive st (call_of true stored left left before after r r w ws m m (faults old) (faults new)) images images_after) (sym h.0) (h.1, inr (inr (inr (record { stored = refl; leaves = none_new; last = damaged_text at; line = inr (at, record { stored = refl; damaged = why }, refl); output = h.2 }))))
says_no_store faults old new stored left before after r w ws m images images_after none_new (opens.Damaged at) status why (inr (inr h)) =
    subst (λ st. SaysLive st (call_of true stored left left before after r r w ws m m (faults old) (faults new)) images images_after) (sym h.0) (inl (inr (inr (inr (record { stored = refl; leaves = none_new; last = damaged_text at; line = inr (at, record { stored = refl; damaged = why }, refl); output = h.1 })))))
says_no_store faults old new stored left before after r w ws m images images_after none_new opens.StoreFull status why h = absurd why
says_no_store faults old new stored left before after r w ws m images images_after none_new opens.Memory status why h =
    subst (λ st. SaysLive st (call_of true stored left left before after r r w ws m m (faults old) (faults new)) images images_after) (sym h.0) (inl (inr (inr (inr (record { stored = refl; leaves = none_new; last = []; line = inl refl; output = (0, subst (λ now. Appends before now []) (sym h.1) (Appends-nil before)) })))))
