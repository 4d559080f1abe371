-- What each status says of a live run.
use Rattle.std.proofs.Common.{◌≡◌, inl, inr, ℕ, ◌≤◌, Bool, true, false, IsTrue, List, [], Option, Some, None, Err, refl, sym, ◌∙◌, subst, arith}
use Rattle.std.specs.Io.KnownBytes.{Appends}
use Rattle.std.proofs.KnownBytes.{Appends-nil}
use Rattle.emu_names.specs.Count.{Rose, RoseBy}
use Rattle.emu_names.specs.declared.limits.TheConstants.{SCRIPT_BYTES}
use Rattle.emu_io.specs.declared.faults.ReadFault.{ReadFault}
use Rattle.emu_io.specs.declared.faults.ReadFault.TheVariants as read_faults
use Rattle.emu_io.specs.Fronts.{WritesFront}
use Rattle.emu_io.specs.Inner.Fronts.{IsFrontOf}
use Rattle.db_config.specs.declared.parts.ConfigParts.{ConfigParts}
use Rattle.db_config.specs.Valid.{is_valid}
use Rattle.live_run.specs.edit_rules.declared.acts.Entry.{Entry}
use Rattle.edit_journal.specs.declared.journal.Journal.{Journal}
use Rattle.live_run.specs.session_core.declared.line.Line.{Line}
use Rattle.live_run.specs.session_core.declared.line.Reply.{Reply}
use Rattle.live_run.specs.session_core.Legal.{Legal}
use Rattle.live_run.specs.live_book.Histories.{OfRead, IsBare}
use Rattle.live_run.specs.live_book.Kept.{BookParts, StandsOrLost, faults_in}
use Rattle.live_run.specs.live_book.Commits.{has_journal}
use Rattle.live_run.proofs.of_live_book.Storing.{images}
use Rattle.live_run.specs.declared.run.Ended.{Ended as LiveEnded}
use Rattle.program_output.specs.declared.ended.Ended.{Ended}
use Rattle.program_output.specs.declared.ended.Ended.TheVariants as ends
use Rattle.program_output.specs.declared.status.Status.{Status}
use Rattle.program_output.specs.declared.status.Status.TheVariants as statuses
use Rattle.script_runs.specs.Cuts.{cut}
use Rattle.script_runs.specs.Scripts.{Parsed, read_from, Stop, limit, at_fault, lines_of}
use Rattle.script_runs.specs.Bases.{Base, no_store, bare_store, store_of, wants_by, is_stored, opening_by, config_by, counted, IsBaseOf, EachOf, LeavesStore}
use Rattle.script_runs.specs.Runs.{Setting, setting_by, stop_text}
use Rattle.script_runs.specs.Says.{Call, Gives}
use Rattle.script_runs.specs.Inner.Says.{call_of}
use Rattle.program_output.specs.Statuses.{WritesLast}
use Rattle.script_runs.specs.Inner.Reached.{IsDone}
use Rattle.script_runs.specs.Inner.Ran.{HasDisk, IsUnread}
use Rattle.program_output.specs.Inner.Statuses.{Closes}
use Rattle.script_runs.specs.Inner.Reads.{IsStopped, ReadsScript}
use Rattle.script_runs.specs.Lives.{LivesUnder, LivesWhole, LivesNot, LeavesLive, StoppedFirst, SaysLive}
use Rattle.script_runs.specs.LiveTexts.{live_text}
use Rattle.script_runs.specs.Inner.Answered.{EndsOver, KeepsLive, LivesOver, WasRead, over_book}
use Rattle.script_runs.proofs.DiskLemmas.{counted_is}
use Rattle.script_runs.proofs.SaysLemmas.{script_read, script_is, read_all, read_first, says_unopened}
use Rattle.script_runs.proofs.LiveLemmas.{first_read}

-- nothing was done
pub left_none : (base : Base) (f fs : ℕ) (images : List ℕ → Type 0) → IsDone base f fs images (read_from (wants_by base)) [] → LeavesStore (is_stored base) (config_by base None) (opening_by base) [] [] (opening_by base) images
left_none no_store f fs images d = tt
left_none bare_store f fs images d = d.left
left_none (store_of config history) f fs images d = d.left

module _ (store : Bool) (stored left left_after : Option (List ℕ)) (r rs m n f fs : ℕ) (base : Base) (begins : IsBaseOf store stored base) (before_images images : List ℕ → Type 0) where
  abbrev call : Option (List ℕ) → Option (List ℕ) → ℕ → ℕ → Call
  call before after w ws = call_of store stored left left_after before after r rs w ws m n f fs

  abbrev Said : Status → Option (List ℕ) → Option (List ℕ) → ℕ → ℕ → Type 0
  Said status before after w ws = SaysLive status (call before after w ws) before_images images

  abbrev Done : Type 0
  Done = IsDone base f fs images (read_from (wants_by base)) []

  pub not_run : (before after : Option (List ℕ)) (w ws : ℕ) → Done → LivesNot (call before after w ws) images
  not_run before after w ws d = record { base = base; begins = begins; given = None; why = tt; leaves = left_none base f fs images d }

  -- the script could not be read
  pub live_unread : (fault : ReadFault) (status : Status) (now : Option (List ℕ)) (w : ℕ) → IsUnread fault status → (fault ≡ read_faults.Failed → Rose r rs) → Done → Said status now now w w
  live_unread read_faults.Failed status now w is cause d =
      subst (λ st. Said st now now w w) (sym is) (says_unopened store stored left left_after r rs m n f fs base begins before_images images now w (cause refl) d)
  live_unread read_faults.Memory status now w is cause d =
      subst (λ st. Said st now now w w) (sym is) (inr (not_run now now w w d, Appends-nil now))

  module _ (past : Bool) (bytes : List ℕ) (front : IsFrontOf left SCRIPT_BYTES bytes past) where
    stopped_first : (stop : Stop) (Writes : List ℕ → Type 0) (before after : Option (List ℕ)) (w ws : ℕ) → IsStopped (wants_by base) past (cut past bytes) stop m n → Done → Writes (stop_text stop) → StoppedFirst (call before after w ws) images stop Writes
    stopped_first stop Writes before after w ws e d written =
        let s = script_read left past bytes front in record {
          has = record { base = base; begins = begins; text = s.text; told = s.told; lines = e.asked; read = read_first left past bytes s e.asked m n e.read };
          script = script_is (wants_by base) left past bytes s e.asked ∙ e.script;
          leaves = left_none base f fs images d;
          output = written;
        }

    says_stop : (status own : Status) (stop : Stop) (before after : Option (List ℕ)) (w ws : ℕ) → (StoppedFirst (call before after w ws) images stop (Appends before after) → Said own before after w ws) → IsStopped (wants_by base) past (cut past bytes) stop m n → Done →
        WritesLast status own before after w ws (stop_text stop) → Said status before after w ws
    says_stop status own stop before after w ws make e d (inl h) = subst (λ st. Said st before after w ws) (sym h.0) (make (stopped_first stop (Appends before after) before after w ws e d h.1))
    says_stop status own stop before after w ws make e d (inr (inl h)) =
        subst (λ st. Said st before after w ws) (sym h.0) (h.1, inr (inl (stop, stopped_first stop (WritesFront before after) before after w ws e d h.2)))
    says_stop status own stop before after w ws make e d (inr (inr h)) =
        subst (λ st. Said st before after w ws) (sym h.0) (inl (inr (inl (stop, stopped_first stop (WritesFront before after) before after w ws e d h.1))))

    -- something ends the script early
    pub live_ended : (A : Type 0) (end : Ended) (status : Status) (before after : Option (List ℕ)) (w ws : ℕ) → ReadsScript (Err end) (wants_by base) past (cut past bytes) m n → Done → Closes {A = A} (Err end) status before after w ws → Said status before after w ws
    live_ended A ends.Limit status before after w ws e d c = says_stop status statuses.Limit limit before after w ws (λ s. inl s) e d c
    live_ended A (ends.AtFault number fault) status before after w ws e d c = says_stop status statuses.Script (at_fault number fault) before after w ws (λ s. (number, fault, s)) e d c
    live_ended A ends.Memory status before after w ws e d c =
        subst (λ st. Said st before after w ws) (sym c.0) (inr (not_run before after w ws d, subst (λ now. Appends before now []) (sym c.1) (Appends-nil before)))
    live_ended A ends.Write status before after w ws e d c = absurd e
    live_ended A ends.NoRoom status before after w ws e d c = absurd e
    live_ended A ends.Disk status before after w ws e d c = absurd e

  -- the first line gives the configuration of a bare store
  pub gives : (before after : Option (List ℕ)) (w ws : ℕ) (parsed : Parsed) (config : ConfigParts) → store ≡ true → OfRead stored IsBare → WasRead true left left_after m n parsed → parsed.config ≡ Some config → Gives (call before after w ws) config
  gives before after w ws parsed config is bare x c =
      let g = first_read left left_after m n parsed config x c in record {
        stored = is;
        bare = bare;
        text = x.text;
        told = x.told;
        first = g.first;
        read = g.read;
        given = g.given;
      }

-- Over a book.

abbrev setting_of : Option ConfigParts → List Entry → Bool → ℕ → ℕ → Setting
setting_of config opening store faults faults_after = record { config = config; opening = opening; store = store; faults = faults; faults_after = faults_after }

rose_lower : (k a b c : ℕ) → a ≤ b → RoseBy k b c → RoseBy k a c
rose_lower k a b c h g = omega arith

legal_lower : (c : ConfigParts) (opening : List Entry) (lines : List Line) (replies : List Reply) (history : List Entry) (store : Bool) (a b now : ℕ) → a ≤ b → Legal c opening lines replies history store b now → Legal c opening lines replies history store a now
legal_lower c opening lines replies history store a b now low l = record {
  more = l.more;
  prefix = l.prefix;
  legal = l.legal;
  turns = l.turns;
  replied = l.replied;
  sessions = l.sessions;
  whole = record {
    named = l.whole.named;
    one_entry = l.whole.one_entry;
    right = l.whole.right;
    seen_there = l.whole.seen_there;
    disk = rose_lower _ a b now low l.whole.disk;
  };
}

lives_lower : (c d : Option ConfigParts) (opening : List Entry) (store : Bool) (a b now : ℕ) (config : ConfigParts) (lines : List Line) (ended : LiveEnded) (history : List Entry) → a ≤ b → LivesUnder (setting_of c opening store b now) config lines ended history → LivesUnder (setting_of d opening store a now) config lines ended history
lives_lower c d opening store a b now config lines ended history low l = record {
  valid = l.valid;
  come = l.come;
  legal = legal_lower config opening lines ended.replies history store a b now low l.legal;
  order = l.order;
  from = l.from;
  more = l.more;
  prefix = l.prefix;
  marks = l.marks;
  states = l.states;
}

module _ {D : Type 0} (may_leave : D → List ℕ → Type 0) (faults : D → ℕ) where
  leaves_live : (stored : Bool) (config : ConfigParts) (replies : List Reply) (history : List Entry) (journal : Option (Journal D)) (disk : D) → has_journal journal ≡ stored → HasDisk journal disk → KeepsLive may_leave config replies history journal → LeavesLive stored config replies history (may_leave disk)
  leaves_live false config replies history journal disk s h k = tt
  leaves_live true config replies history (Some journal) disk s h k = record {
    lost = k.lost;
    why = k.why;
    follows = k.keeps.lost_fits;
    each = subst (λ d. EachOf (may_leave d) (StandsOrLost config history k.lost)) (sym h) (λ c image. images may_leave config history k.lost journal k.keeps c image);
  }
  leaves_live true config replies history None disk s h k = absurd (cc)

  module _ (reads_of : D → Option (List ℕ)) (store : Bool) (base : Base) (begin disk : D) (begins : IsBaseOf store (reads_of begin) base) (book : BookParts D) (given : Bool) (lines : List Line) (journal : Option (Journal D)) (has : HasDisk journal disk)
      (stored : has_journal book.journal ≡ is_stored base) (opening : opening_by base ≡ book.history) (low : counted base (faults begin) ≤ faults_in faults book.journal) (wants : given ≡ wants_by base)
      (left left_after : Option (List ℕ)) (r rs m n : ℕ) (parsed : Parsed) (requests : parsed.requests ≡ lines) (begun : config_by base parsed.config ≡ Some book.config) (valid : IsTrue (is_valid book.config)) (x : WasRead (wants_by base) left left_after m n parsed) where
    run_here : (ended : LiveEnded) (history : List Entry) → has_journal journal ≡ has_journal book.journal → LivesUnder (over_book faults book journal) book.config lines ended history →
        LivesUnder (setting_by base parsed (faults begin) (faults disk)) book.config parsed.requests ended history
    run_here ended history same l =
        let o = opening_by base in
        let s = is_stored base in
        let now = counted base (faults disk) in
        let c : Option ConfigParts = Some book.config in
        let b = faults_in faults book.journal in
        let after : faults_in faults journal ≡ counted base (faults disk) = sym (counted_is may_leave faults base journal disk (same ∙ stored) has) in
        let l1 : LivesUnder (setting_of c o (has_journal book.journal) b (faults_in faults journal)) book.config lines ended history =
        subst (λ h. LivesUnder (setting_of c h (has_journal book.journal) b (faults_in faults journal)) book.config lines ended history) (sym opening) l in
        let l2 : LivesUnder (setting_of c o s b (faults_in faults journal)) book.config lines ended history =
        subst (λ t. LivesUnder (setting_of c o t b (faults_in faults journal)) book.config lines ended history) stored l1 in
        let l3 : LivesUnder (setting_of c o s b now) book.config lines ended history =
        subst (λ t. LivesUnder (setting_of c o s b t) book.config lines ended history) after l2 in
        let l4 : LivesUnder (setting_of c o s b now) book.config parsed.requests ended history =
        subst (λ ls. LivesUnder (setting_of c o s b now) book.config ls ended history) (sym requests) l3 in
        lives_lower c (config_by base parsed.config) o s (counted base (faults begin)) b now book.config parsed.requests ended history low l4

    lives_whole : (Writes : List ℕ → Type 0) (before after : Option (List ℕ)) (w ws : ℕ) → LivesOver may_leave faults book given lines journal Writes →
        LivesWhole (call_of store (reads_of begin) left left_after before after r rs w ws m n (faults begin) (faults disk)) (may_leave disk) Writes
    lives_whole Writes before after w ws o = record {
      has = record { base = base; begins = begins; text = x.text; told = x.told; lines = x.lines; read = read_all x.lines (lines_of x.text) m n x.read };
      at_end = x.at_end;
      parsed = parsed;
      script = x.script;
      config = book.config;
      begun = begun;
      ended = o.ended;
      history = o.history;
      run = run_here o.ended o.history o.stored (o.run valid);
      leaves = leaves_live (is_stored base) book.config o.ended.replies o.history journal disk (o.stored ∙ stored) has o.kept;
      output = subst (λ g. Writes (live_text g o.ended)) wants o.output;
    }

    pub live_ran : (status : Status) (before after : Option (List ℕ)) (w ws : ℕ) → EndsOver status may_leave faults book given lines journal before after w ws →
        (journal ≡ book.journal → LivesNot (call_of store (reads_of begin) left left_after before after r rs w ws m n (faults begin) (faults disk)) (may_leave disk)) →
        SaysLive status (call_of store (reads_of begin) left left_after before after r rs w ws m n (faults begin) (faults disk)) (may_leave begin) (may_leave disk)
    live_ran statuses.Fine before after w ws e none = lives_whole (Appends before after) before after w ws e
    live_ran statuses.Write before after w ws e none = (e.0, inl (lives_whole (WritesFront before after) before after w ws e.1))
    live_ran statuses.Memory before after w ws (inl e) none = inl (inl (lives_whole (WritesFront before after) before after w ws e))
    live_ran statuses.Memory before after w ws (inr e) none = inr (none e.0, e.1)
    live_ran statuses.Usage before after w ws e none = absurd e
    live_ran statuses.Script before after w ws e none = absurd e
    live_ran statuses.Read before after w ws e none = absurd e
    live_ran statuses.Disk before after w ws e none = absurd e
    live_ran statuses.Damaged before after w ws e none = absurd e
    live_ran statuses.Limit before after w ws e none = absurd e
    live_ran statuses.Refused before after w ws e none = absurd e
