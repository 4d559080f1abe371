-- A live run over a book, and the first line of a script that was read whole.
use Rattle.std.proofs.Common.{◌≡◌, inl, inr, ℕ, zero, suc, ◌+◌, Bool, true, false, List, [], ◌∷◌, length, take, drop, Option, Some, None, Result, Ok, Err, refl, sym, ◌∙◌, ap, subst, arith}
use Rattle.std.proofs.lemmas.List.Elements.{All-push}
use Rattle.std.specs.Io.KnownBytes.{Appends}
use Rattle.std.proofs.KnownBytes.{Appends-nil}
use Rattle.emu_names.specs.Count.{RoseBy}
use Rattle.emu_names.specs.declared.limits.TheConstants.{SCRIPT_BYTES}
use Rattle.emu_names.specs.declared.shortage.Memory.{Memory}
use Rattle.emu_io.specs.Fronts.{WritesFront}
use Rattle.emu_io.specs.Inner.Fronts.{TakesFront, IsFrontOf}
use Rattle.db_config.specs.declared.parts.ConfigParts.{ConfigParts}
use Rattle.live_run.specs.edit_rules.declared.acts.Entry.{Entry}
use Rattle.live_run.proofs.of_edit_rules.Replay.{states_keep_rules}
use Rattle.edit_journal.specs.declared.journal.Journal.{Journal}
use Rattle.live_run.specs.session_core.declared.line.Line.{Line}
use Rattle.live_run.specs.session_core.declared.line.Reply.{Reply}
use Rattle.live_run.specs.session_core.InOrder.{ComeInOrder}
use Rattle.live_run.specs.session_core.Legal.{Legal, disk_replies}
use Rattle.live_run.specs.live_book.Kept.{BookParts, KeepsIn, faults_in}
use Rattle.live_run.specs.live_book.Inner.Kept.{Holding}
use Rattle.live_run.specs.live_book.Commits.{IsSameBook, has_journal}
use Rattle.live_run.specs.declared.run.Ended.{Ended as LiveEnded}
use Rattle.live_run.specs.Inner.Runs.{EndsLive, RunsLive}
use Rattle.script_lines.specs.declared.faults.ReadLine.{ReadLine}
use Rattle.script_lines.specs.declared.faults.ReadLine.TheVariants as reads
use Rattle.script_lines.specs.declared.faults.LineFault.{LineFault}
use Rattle.script_lines.specs.Lines.{request_of}
use Rattle.script_lines.specs.Known.{Known}
use Rattle.eql_resolve.specs.Made.{times_too_large}
use Rattle.script_lines.proofs.KnownLines.{known}
use Rattle.program_output.specs.declared.status.Status.{Status}
use Rattle.script_runs.specs.declared.reading.Reading.{Reading}
use Rattle.script_runs.specs.Cuts.{cut}
use Rattle.script_runs.specs.Scripts.{AskedLine, IsAnswered, AreRead, too_large_in, Parsed, read_from, with_read, parse, parse_line, line_at, unless_over, as_stop, passes_limit, earlier_of, if_configured, end_behind, end_from, is_past, lines_of, Stop, ◌>>=◌}
use Rattle.script_runs.specs.Inner.Turns.{IsUnreadFor}
use Rattle.program_output.specs.Inner.Written.{IsTold}
use Rattle.program_output.specs.declared.ended.Ended.{Ended}
use Rattle.program_output.specs.declared.ended.Ended.TheVariants as ends
use Rattle.script_runs.specs.Inner.Reads.{GivesConfig, IsWhole}
use Rattle.script_runs.specs.LiveTexts.{live_text}
use Rattle.script_runs.specs.Inner.LiveTexts.{AnswersLive}
use Rattle.script_runs.specs.Inner.Answered.{EndsOver, KeepsLive, LivesOver, WasRead}
use Rattle.script_runs.proofs.SaysLemmas.{script_read, script_is, read_whole, end_of, not_over}
use Rattle.script_runs.proofs.ComeLemmas.{parse_keeps}

-- What a live run leaves in doubt.

module _ {D : Type 0} (may_leave : D → List ℕ → Type 0) (faults : D → ℕ) where
  kept_by : (config : ConfigParts) (replies : List Reply) (history : List Entry) (journal : Option (Journal D)) (count : ℕ) → disk_replies replies ≡ count → (disk_replies replies ≡ 0 → KeepsIn may_leave config history None journal) → Holding may_leave config history journal → KeepsLive may_leave config replies history journal
  kept_by config replies history journal zero is none held = record { lost = None; why = tt; keeps = none is }
  kept_by config replies history journal (suc n) is none (None, keeps) = record { lost = None; why = tt; keeps = keeps }
  kept_by config replies history journal (suc n) is none (Some next, keeps) = record { lost = Some next; why = omega (arith, is); keeps = keeps }

  -- the sessions were run
  lives_over : (old new : BookParts D) (given : Bool) (lines : List Line) (ended : LiveEnded) (journal : Option (Journal D)) (Writes : List ℕ → Type 0) → IsSameBook old new → RunsLive may_leave faults old lines ended new → journal ≡ new.journal → Holding may_leave new.config new.history journal →
      ComeInOrder [] lines → Writes (live_text given ended) → LivesOver may_leave faults old given lines journal Writes
  lives_over old new given lines ended journal Writes same r is held come written =
      let legal : Legal old.config old.history lines ended.replies new.history (has_journal old.journal) (faults_in faults old.journal) (faults_in faults journal) =
      subst (λ j. Legal old.config old.history lines ended.replies new.history (has_journal old.journal) (faults_in faults old.journal) (faults_in faults j)) (sym is) r.legal in record {
        ended = ended;
        history = new.history;
        run = λ valid. record {
          valid = valid;
          come = come;
          legal = legal;
          order = r.order;
          from = r.from;
          more = r.more;
          prefix = r.prefix;
          marks = r.marks;
          states = states_keep_rules old.config new.history valid legal.legal;
        };
        kept = subst (λ c. KeepsLive may_leave c ended.replies new.history journal) same.config
            (kept_by new.config ended.replies new.history journal (disk_replies ended.replies) refl (λ none. subst (λ j. KeepsIn may_leave new.config new.history None j) (sym is) (r.in_doubt none)) held);
        stored = ap (λ j. has_journal j) is ∙ same.stored;
        output = written;
      }

  pub ends_over : (old new : BookParts D) (given : Bool) (lines : List Line) (result : Result LiveEnded Memory) (journal : Option (Journal D)) (status : Status) (before now : Option (List ℕ)) (w ws : ℕ) → EndsLive may_leave faults old lines result new → journal ≡ new.journal → Holding may_leave new.config new.history journal →
      ComeInOrder [] lines → AnswersLive result given status before now w ws → EndsOver status may_leave faults old given lines journal before now w ws
  ends_over old new given lines (Ok ended) journal status before now w ws e is held come (inl h) =
      subst (λ st. EndsOver st may_leave faults old given lines journal before now w ws) (sym h.0) (lives_over old new given lines ended journal (Appends before now) e.0 e.1 is held come h.1)
  ends_over old new given lines (Ok ended) journal status before now w ws e is held come (inr (inl h)) =
      subst (λ st. EndsOver st may_leave faults old given lines journal before now w ws) (sym h.0) (h.1, lives_over old new given lines ended journal (WritesFront before now) e.0 e.1 is held come h.2)
  ends_over old new given lines (Ok ended) journal status before now w ws e is held come (inr (inr h)) =
      subst (λ st. EndsOver st may_leave faults old given lines journal before now w ws) (sym h.0) (inl (lives_over old new given lines ended journal (WritesFront before now) e.0 e.1 is held come h.1))
  ends_over old new given lines (Err want) journal status before now w ws e is held come h =
      subst (λ st. EndsOver st may_leave faults old given lines journal before now w ws) (sym h.0) (inr (is ∙ ap (λ b. b.journal) e, subst (λ t. Appends before t []) (sym h.1) (Appends-nil before)))

  pub stored_over : (old new : BookParts D) (lines : List Line) (result : Result LiveEnded Memory) (journal : Option (Journal D)) → EndsLive may_leave faults old lines result new → journal ≡ new.journal → has_journal journal ≡ has_journal old.journal
  stored_over old new lines (Ok ended) journal e is = ap (λ j. has_journal j) is ∙ e.0.stored
  stored_over old new lines (Err want) journal e is = ap (λ j. has_journal j) is ∙ ap (λ b. has_journal b.journal) e

-- A script that was read whole.

pub was_read : (wants : Bool) (left left_after : Option (List ℕ)) (past : Bool) (bytes : List ℕ) (reading : Reading) (m n : ℕ) → IsFrontOf left SCRIPT_BYTES bytes past → TakesFront left left_after bytes past → (w : IsWhole wants past (cut past bytes) reading m n) → WasRead wants left left_after m n w.parsed
was_read wants left left_after past bytes reading m n front taken w =
    let s = script_read left past bytes front in record {
      text = s.text;
      told = s.told;
      at_end = end_of left left_after bytes past (drop (length w.asked) (cut past bytes)) (parse (read_from wants) w.asked) w.parsed taken w.script;
      lines = w.asked;
      read = read_whole left past bytes s w.asked m n w.read;
      script = script_is wants left past bytes s w.asked ∙ w.script;
      come = w.come;
      gives = w.gives;
    }

-- what was read of it is what its lines give
abbrev parsed_ok : Parsed → Result Parsed Stop
parsed_ok p = Ok p

parsed_same : {x y : Parsed} → parsed_ok x ≡ parsed_ok y → x ≡ y
parsed_same e = cc

abbrev some_parsed : Result Parsed Stop → Option (Result Parsed Stop)
some_parsed r = Some r

result_same : {x y : Result Parsed Stop} → some_parsed x ≡ some_parsed y → x ≡ y
result_same e = cc

configured : (w : Bool) (p q : Parsed) → if_configured p w ≡ Ok q → parsed_ok p ≡ Ok q
configured false p q h = h
configured true p q h = absurd (cc)

behind : (past : Bool) (rest : List (List ℕ)) (p q : Parsed) → end_behind past rest p ≡ Some (Ok q) → parsed_ok p ≡ Ok q
behind true [] p q h = absurd (cc)
behind false [] p q h = configured p.wants p q (result_same h)
behind past (line ∷ rest) p q h = absurd (not_over (passes_limit (p.number + 1) line) q h)

whole_first : (past : Bool) (rest : List (List ℕ)) (r : Result Parsed Stop) (q : Parsed) → end_from past rest r ≡ Some (Ok q) → r ≡ Ok q
whole_first past rest (Ok p) q h = behind past rest p q h
whole_first past rest (Err stop) q h = absurd (cc)

-- Its first line gave its configuration.

pub record First (all : List (List ℕ)) (m n : ℕ) (config : ConfigParts) : Type 0 where
  pub first : AskedLine
  pub read : AreRead (first ∷ []) (take 1 all) m n
  pub given : parse_line (read_from true) first ≡ Ok (with_read (read_from true) (reads.Config config))

abbrev stop_ok : ReadLine → Result ReadLine Stop
stop_ok x = Ok x

abbrev fault_ok : ReadLine → Result ReadLine LineFault
fault_ok x = Ok x

stop_same : {x y : ReadLine} → stop_ok x ≡ stop_ok y → fault_ok x ≡ fault_ok y
stop_same e = cc

over_ok : (over : Bool) (number : ℕ) (r : Result ReadLine LineFault) (read : ReadLine) → unless_over over (as_stop number r) ≡ Ok read → r ≡ Ok read
over_ok true number r read h = absurd (cc)
over_ok false number (Ok x) read h = stop_same h
over_ok false number (Err f) read h = absurd (cc)

config_step : (r : Result ReadLine Stop) (p : Parsed) → ((read : ReadLine) → r ≡ Ok read → Known 1 true [] read) → (r >>= λ x. Ok (with_read (read_from true) x)) ≡ Ok p → (c : ConfigParts) × (p ≡ with_read (read_from true) (reads.Config c))
config_step (Ok (reads.Config c)) p k h = (c, sym (parsed_same h))
config_step (Ok reads.Blank) p k h = absurd (k reads.Blank refl)
config_step (Ok (reads.Request l)) p k h = absurd (k (reads.Request l) refl)
config_step (Err stop) p k h = absurd (cc)

config_line : (l : AskedLine) (p : Parsed) → parse_line (read_from true) l ≡ Ok p → (c : ConfigParts) × (p ≡ with_read (read_from true) (reads.Config c))
config_line l p h =
    config_step (line_at 1 true [] l) p
    (λ read e. known l.line 1 true [] l.made read (over_ok (passes_limit 1 l.line) 1 (request_of l.line 1 true [] l.made) read e)) h

abbrev Still : ConfigParts → Parsed → Type 0
Still c p = (p.config ≡ Some c) × (p.wants ≡ false)

still_more : (c : ConfigParts) (p : Parsed) (asks : Bool) (read : ReadLine) → asks ≡ false → Still c p → Known (p.number + 1) asks (earlier_of p.requests) read → Still c (with_read p read)
still_more c p true read e o k = absurd (cc)
still_more c p false (reads.Config config) e o k = absurd k
still_more c p false reads.Blank e o k = o
still_more c p false (reads.Request l) e o k = o

still : (c : ConfigParts) (p q : Parsed) (lines : List AskedLine) → Still c p → parse p lines ≡ Ok q → Still c q
still c p q lines o h = parse_keeps (λ x. Still c x) (λ x read s k. still_more c x x.wants read s.1 s k) lines p q o h

abbrev some_config : ConfigParts → Option ConfigParts
some_config c = Some c

config_same : {x y : ConfigParts} → some_config x ≡ some_config y → x ≡ y
config_same e = cc

no_config : (c : ConfigParts) → None ≡ some_config c → ⊥
no_config c h = cc

one_rose : (t rest m n : ℕ) → RoseBy (t + rest) m n → RoseBy (t + 0) m n
one_rose t rest m n h = omega arith

one_read : (l : AskedLine) (ls : List AskedLine) (all : List (List ℕ)) (m n : ℕ) → AreRead (l ∷ ls) all m n → AreRead (l ∷ []) (take 1 all) m n
one_read l ls all m n r = record {
  bytes = ap (take 1) r.bytes;
  made = All-push IsAnswered [] l (λ k d low. absurd (omega arith)) (r.made 0 l (omega arith));
  refused = one_rose (times_too_large l.made) (too_large_in ls) m n r.refused;
}

first_step : (l : AskedLine) (ls : List AskedLine) (all : List (List ℕ)) (m n : ℕ) (q : Parsed) (config : ConfigParts) (r : Result Parsed Stop) → parse_line (read_from true) l ≡ r → AreRead (l ∷ ls) all m n → (r >>= λ p. parse p ls) ≡ Ok q → q.config ≡ Some config → First all m n config
first_step l ls all m n q config (Err stop) is read h c = absurd (cc)
first_step l ls all m n q config (Ok p) is read h c =
    let g = config_line l p is in
    let there : Still g.0 q = still g.0 p q ls (subst (λ x. Still g.0 x) (sym g.1) (refl, refl)) h in
    let same : g.0 ≡ config = config_same (sym there.0 ∙ c) in record {
      first = l;
      read = one_read l ls all m n read;
      given = is ∙ ap parsed_ok g.1 ∙ ap (λ x. parsed_ok (with_read (read_from true) (reads.Config x))) same;
    }

first_of : (lines : List AskedLine) (all : List (List ℕ)) (m n : ℕ) (q : Parsed) (config : ConfigParts) → AreRead lines all m n → parse (read_from true) lines ≡ Ok q → q.config ≡ Some config → First all m n config
first_of [] all m n q config read h c = absurd (no_config config (ap (λ (p : Parsed). p.config) (parsed_same h) ∙ c))
first_of (l ∷ ls) all m n q config read h c = first_step l ls all m n q config (parse_line (read_from true) l) refl read h c

pub first_read : (left left_after : Option (List ℕ)) (m n : ℕ) (parsed : Parsed) (config : ConfigParts) (x : WasRead true left left_after m n parsed) → parsed.config ≡ Some config → First (lines_of x.text) m n config
first_read left left_after m n parsed config x c =
    first_of x.lines (lines_of x.text) m n parsed config x.read (whole_first (is_past x.text) (drop (length x.lines) (lines_of x.text)) (parse (read_from true) x.lines) parsed x.script) c

-- What is known of a script that was read.

none_given : (g : Option ConfigParts) → GivesConfig true g → g ≡ None → ⊥
none_given (Some c) g h = no_config c (sym h)
none_given None g h = g

pub given_some : (reading : Reading) (past : Bool) (lines : List (List ℕ)) (m n : ℕ) → IsWhole true past lines reading m n → reading.config ≡ None → ⊥
given_some reading past lines m n w h = none_given w.parsed.config w.gives (sym w.same.config ∙ h)

pub lines_come : (wants past : Bool) (lines : List (List ℕ)) (reading : Reading) (m n : ℕ) → IsWhole wants past lines reading m n → ComeInOrder [] reading.lines
lines_come wants past lines reading m n w = subst (λ ls. ComeInOrder [] ls) (sym w.same.lines) w.come

-- an end of the reading has a fault that is told
pub unread_told : (end : Ended) → IsUnreadFor end → IsTold end
unread_told ends.Limit h = tt
unread_told (ends.AtFault number fault) h = h
unread_told ends.Memory h = tt
unread_told ends.NoRoom h = absurd h
unread_told ends.Disk h = absurd h
unread_told ends.Write h = absurd h
