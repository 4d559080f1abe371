-- One line more of a run: what was read, the book behind it, and what was written.
use Rattle.std.proofs.Common.{◌≡◌, ◌⊎◌, inl, inr, ℕ, ◌+◌, ◌≤◌, Bool, true, false, cond, List, [], ◌∷◌, ◌++◌, length, Option, Some, None, Result, Ok, Err, refl, sym, ◌∙◌, ap, subst, arith, append_assoc, append-nil}
use Rattle.std.proofs.lemmas.List.{map-append}
use Rattle.std.proofs.Math.Seq.{take-length, take-append_seam}
use Rattle.emu_names.specs.Count.{RoseBy}
use Rattle.std.specs.Io.KnownBytes.{Appends}
use Rattle.std.proofs.KnownBytes.{Appends-nil}
use Rattle.emu_io.specs.Fronts.{WritesFront}
use Rattle.db_config.specs.declared.parts.ConfigParts.{ConfigParts}
use Rattle.live_run.specs.edit_rules.declared.acts.Entry.{Entry}
use Rattle.live_run.specs.session_core.declared.line.Line.{Line}
use Rattle.live_run.specs.session_core.declared.line.Reply.{Reply}
use Rattle.live_run.specs.session_core.Steps.{start}
use Rattle.live_run.specs.session_core.InOrder.{Outage}
use Rattle.emu_disk.specs.declared.disk.Disk as disks
use Rattle.edit_journal.specs.declared.journal.Journal.{Journal}
use Rattle.live_run.specs.live_book.Kept.{KeepsIn, faults_in}
use Rattle.live_run.specs.live_book.Commits.{has_journal}
use Rattle.book_opening.specs.Inner.Opens.{IsEmpty}
use Rattle.session_run.specs.Inner.Orders.{state_of}
use Rattle.script_lines.specs.declared.faults.LineFault.TheVariants as faults_of
use Rattle.script_lines.specs.declared.faults.ReadLine.{ReadLine}
use Rattle.script_lines.specs.declared.faults.ReadLine.TheVariants as reads
use Rattle.program_output.specs.reply_texts.Texts.{reply_text}
use Rattle.program_output.specs.declared.ended.Ended.{Ended}
use Rattle.program_output.specs.declared.ended.Ended.TheVariants as ends
use Rattle.script_runs.specs.declared.running.Running.{Running}
use Rattle.eql_resolve.specs.Made.{Made}
use Rattle.script_runs.specs.Scripts.{AskedLine, AreRead, Parsed, read_from, with_read, parse, parse_line, parsed_front, line_at, earlier_line, earlier_of, passes_limit, end_behind, if_over, if_configured, Stop, limit, at_fault, ◌>>=◌}
use Rattle.script_runs.specs.Inner.Scripts.{asked_line}
use Rattle.script_runs.specs.Bases.{Base, wants_by, is_stored, opening_by, config_by, counted, store_of}
use Rattle.script_runs.specs.Inner.Bases.{fresh_base}
use Rattle.script_runs.specs.Runs.{WritesToLast, run_text, run_texts}
use Rattle.program_output.specs.Texts.{config_reply}
use Rattle.script_runs.specs.Inner.Turns.{IsLineRead, ReadsNext}
use Rattle.script_runs.specs.Inner.Taken.{TakesLine}
use Rattle.script_runs.specs.Inner.Reached.{IsAt, IsBegun, Reached, Broke, IsOver, Stopped, EndsOnLine, RanAll, BrokeIn, EndsScript, InLines, RunsLine, RanScript, StoppedScript, GaveConfig, IsRunKept, LeavesSince, DuringStart}
use Rattle.program_output.specs.Inner.Written.{WritesText}
use Rattle.script_runs.proofs.ParseLemmas.{parse_push, parse_stop, front_stop, front_whole}
use Rattle.script_runs.proofs.ReadLemmas.{read_none, read_push, read_later, read_more, read_same, read_front, script_behind}
use Rattle.script_runs.proofs.TextLemmas.{text_begun, begun_push}
use Rattle.emu_io.proofs.Fronts.{whole_more}
use Rattle.script_runs.proofs.LastLemmas.{all_to_last, cut_to_last, flat_run, texts_more}
use Rattle.script_runs.proofs.KeptLemmas.{here, pushed, replies_are}
use Rattle.script_runs.proofs.MomentLemmas.{run_blank, run_config, run_none, run_request, run_store}

module _ {D : Type 0} (disk : disks.Ghosts D) (base : Base) (begin : D) where
  -- what the code reads behind a run is what the definition reads behind the script so far
  read_there : (running : Running D) (config : ConfigParts) (p : Parsed) (outages : List Outage) (l : AskedLine) → IsAt base running config p outages → line_at (p.number + 1) p.wants (earlier_of p.requests) l ≡ line_at (running.number + 1) false running.earlier l
  read_there running config p outages l at = rw (at.wants, at.number, at.earlier) refl

  next_read : (running : Running D) (config : ConfigParts) (p : Parsed) (outages : List Outage) (l : AskedLine) (read : ReadLine) → IsAt base running config p outages → line_at (running.number + 1) false running.earlier l ≡ Ok read → parse_line p l ≡ Ok (with_read p read)
  next_read running config p outages l read at h = ap (λ r. r >>= λ x. Ok (with_read p x)) (read_there running config p outages l at ∙ h)

  next_stop : (running : Running D) (config : ConfigParts) (p : Parsed) (outages : List Outage) (l : AskedLine) (stop : Stop) → IsAt base running config p outages → line_at (running.number + 1) false running.earlier l ≡ Err stop → parse_line p l ≡ Err stop
  next_stop running config p outages l stop at h = ap (λ r. r >>= λ x. Ok (with_read p x)) (read_there running config p outages l at ∙ h)

  -- a line of white space alone
  pub reached_blank : (config : ConfigParts) (lines : List (List ℕ)) (line : List ℕ) (running new : Running D) (m n k : ℕ) (before now : Option (List ℕ)) →
      Reached disk base begin config lines running m n before now → IsLineRead line (running.number + 1) false running.earlier n k (Ok reads.Blank) →
      new.core ≡ running.core → new.earlier ≡ running.earlier → new.number ≡ running.number + 1 →
      Reached disk base begin config (lines ++ line ∷ []) new m k before now
  reached_blank config lines line running new m n k before now r h core earlier number =
      let p = r.parsed in let l = asked_line line h.made in record {
        asked = r.asked ++ l ∷ [];
        read = read_push r.asked lines line h.made m n k r.read h.answered h.rose;
        parsed = with_read p reads.Blank;
        script = parse_push (read_from (wants_by base)) r.asked l p (with_read p reads.Blank) r.script (next_read running config p r.outages l reads.Blank r.at h.read);
        outages = r.outages;
        at = record {
          begun = r.at.begun;
          wants = r.at.wants;
          book = ap (λ c. c.book.config) core ∙ r.at.book;
          state = ap (λ c. state_of c) core ∙ r.at.state;
          earlier = earlier ∙ r.at.earlier;
          number = number ∙ ap (λ n. n + 1) r.at.number;
        };
        done = run_blank disk base begin running.core.book.journal new.core.book.journal p r.outages (ap (λ c. c.book.journal) core) r.done;
        output = r.output;
      }

  -- Behind a request that was answered.

  record Answered (config : ConfigParts) (p : Parsed) (outages : List Outage) (l : Line) (new : Running D) (reply : Reply) (o : Outage) : Type 0 where
    at : IsAt base new config (with_read p (reads.Request l)) (outages ++ o ∷ [])
    done : IsRunKept disk base begin new.core.book.journal (with_read p (reads.Request l)) (outages ++ o ∷ [])
    text : run_text base (with_read p (reads.Request l)) (outages ++ o ∷ []) ≡ run_text base p outages ++ reply_text reply
    texts : run_texts base (with_read p (reads.Request l)) (outages ++ o ∷ []) ≡ run_texts base p outages ++ reply_text reply ∷ []

  answered : (config : ConfigParts) (p : Parsed) (outages : List Outage) (running new : Running D) (l : Line) (reply : Reply) (t : TakesLine disk.may_leave disk.moment disk.left_since disk.faults running l reply new) → IsAt base running config p outages →
      IsRunKept disk base begin running.core.book.journal p outages → Answered config p outages l new reply t.answers.outage
  answered config p outages running new l reply t at d = record {
    at = record {
      begun = at.begun;
      wants = at.wants;
      book = t.answers.same.config ∙ at.book;
      state = sym (ap (λ r. r.1) (pushed disk.may_leave disk.faults base (disk.faults begin) disk.moment disk.left_since config p outages running new l reply t at d.kept));
      earlier = t.earlier ∙ ap (λ e. e ++ earlier_line l ∷ []) at.earlier ∙ sym (map-append earlier_line p.requests (l ∷ []));
      number = t.number ∙ ap (λ n. n + 1) at.number;
    };
    done = run_request disk base begin config p outages running new l reply t at d;
    text =
        text_begun base (with_read p (reads.Request l)) config (outages ++ t.answers.outage ∷ []) at.begun
        ∙ begun_push base p.config config p.requests outages l t.answers.outage reply (state_of new.core) d.kept.each (here disk.may_leave disk.faults base (disk.faults begin) disk.moment disk.left_since config p outages running new l reply t at d.kept)
        ∙ ap (λ x. x ++ reply_text reply) (sym (text_begun base p config outages at.begun));
    texts = texts_more base p (with_read p (reads.Request l)) outages (outages ++ t.answers.outage ∷ []) reply refl (replies_are disk.may_leave disk.faults base (disk.faults begin) disk.moment disk.left_since config p outages running new l reply t at d.kept);
  }

  -- its reply was written
  pub reached_request : (config : ConfigParts) (lines : List (List ℕ)) (line : List ℕ) (running new : Running D) (l : Line) (reply : Reply) (m n k : ℕ) (before now after : Option (List ℕ)) →
      Reached disk base begin config lines running m n before now → IsLineRead line (running.number + 1) false running.earlier n k (Ok (reads.Request l)) →
      TakesLine disk.may_leave disk.moment disk.left_since disk.faults running l reply new → Appends now after (reply_text reply) →
      Reached disk base begin config (lines ++ line ∷ []) new m k before after
  reached_request config lines line running new l reply m n k before now after r h t written =
      let p = r.parsed in let x = asked_line line h.made in
      let a = answered config p r.outages running new l reply t r.at r.done in record {
        asked = r.asked ++ x ∷ [];
        read = read_push r.asked lines line h.made m n k r.read h.answered h.rose;
        parsed = with_read p (reads.Request l);
        script = parse_push (read_from (wants_by base)) r.asked x p (with_read p (reads.Request l)) r.script (next_read running config p r.outages x (reads.Request l) r.at h.read);
        outages = r.outages ++ t.answers.outage ∷ [];
        at = a.at;
        done = a.done;
        output = subst (λ x. Appends before after x) (sym a.text) (whole_more before now after (run_text base p r.outages) (reply_text reply) r.output written);
      }

  -- of its reply a front was written, or nothing
  pub broke_request : (config : ConfigParts) (lines : List (List ℕ)) (line : List ℕ) (running new : Running D) (l : Line) (reply : Reply) (m n k : ℕ) (before now after : Option (List ℕ)) →
      Reached disk base begin config lines running m n before now → IsLineRead line (running.number + 1) false running.earlier n k (Ok (reads.Request l)) →
      TakesLine disk.may_leave disk.moment disk.left_since disk.faults running l reply new → WritesFront now after (reply_text reply) →
      Broke base (IsRunKept disk base begin new.core.book.journal) (lines ++ line ∷ []) m k before after
  broke_request config lines line running new l reply m n k before now after r h t written =
      let p = r.parsed in let x = asked_line line h.made in
      let a = answered config p r.outages running new l reply t r.at r.done in record {
        asked = r.asked ++ x ∷ [];
        read = read_push r.asked lines line h.made m n k r.read h.answered h.rose;
        parsed = with_read p (reads.Request l);
        script = parse_push (read_from (wants_by base)) r.asked x p (with_read p (reads.Request l)) r.script (next_read running config p r.outages x (reads.Request l) r.at h.read);
        outages = r.outages ++ t.answers.outage ∷ [];
        done = a.done;
        output = subst (λ x. WritesToLast before after x) (sym a.texts) (cut_to_last before now after (run_texts base p r.outages) (run_text base p r.outages) (reply_text reply) (flat_run base p r.outages) r.output written);
      }

  -- whatever became of the reply
  pub runs_request : {A : Type 0} (result : Result A Ended) (config : ConfigParts) (lines : List (List ℕ)) (line : List ℕ) (running new : Running D) (l : Line) (reply : Reply) (m n k : ℕ) (before now after : Option (List ℕ)) →
      Reached disk base begin config lines running m n before now → IsLineRead line (running.number + 1) false running.earlier n k (Ok (reads.Request l)) →
      TakesLine disk.may_leave disk.moment disk.left_since disk.faults running l reply new → WritesText result now after (reply_text reply) →
      RunsLine result disk base begin new config lines line m k before after
  runs_request (Ok x) config lines line running new l reply m n k before now after r h t w = reached_request config lines line running new l reply m n k before now after r h t w
  runs_request (Err ends.Write) config lines line running new l reply m n k before now after r h t w = inr (broke_request config lines line running new l reply m n k before now after r h t w)
  runs_request (Err ends.Memory) config lines line running new l reply m n k before now after r h t w = inr (broke_request config lines line running new l reply m n k before now after r h t (0, w))
  runs_request (Err ends.Limit) config lines line running new l reply m n k before now after r h t w = absurd w
  runs_request (Err ends.NoRoom) config lines line running new l reply m n k before now after r h t w = absurd w
  runs_request (Err ends.Disk) config lines line running new l reply m n k before now after r h t w = absurd w
  runs_request (Err (ends.AtFault number fault)) config lines line running new l reply m n k before now after r h t w = absurd w

  -- the run breaks off before the line is done
  broke_later : (config : ConfigParts) (lines : List (List ℕ)) (running : Running D) (m n k : ℕ) (before now : Option (List ℕ)) → Reached disk base begin config lines running m n before now → n ≤ k → Broke base (IsRunKept disk base begin running.core.book.journal) lines m k before now
  broke_later config lines running m n k before now r h = record {
    asked = r.asked;
    read = read_later r.asked lines m n k r.read h;
    parsed = r.parsed;
    script = r.script;
    outages = r.outages;
    done = r.done;
    output = all_to_last before now (run_texts base r.parsed r.outages) (run_text base r.parsed r.outages) (flat_run base r.parsed r.outages) r.output;
  }

  pub broke_here : (config : ConfigParts) (lines : List (List ℕ)) (running : Running D) (times m n k : ℕ) (before now : Option (List ℕ)) → Reached disk base begin config lines running m n before now → RoseBy times n k → Broke base (IsRunKept disk base begin running.core.book.journal) lines m k before now
  broke_here config lines running times m n k before now r h = record {
    asked = r.asked;
    read = read_more r.asked lines times m n k r.read h;
    parsed = r.parsed;
    script = r.script;
    outages = r.outages;
    done = r.done;
    output = all_to_last before now (run_texts base r.parsed r.outages) (run_text base r.parsed r.outages) (flat_run base r.parsed r.outages) r.output;
  }

  stopped_here : (config : ConfigParts) (lines : List (List ℕ)) (line : List ℕ) (running : Running D) (m n k : ℕ) (before now : Option (List ℕ)) (stop : Stop) → Reached disk base begin config lines running m n before now → IsLineRead line (running.number + 1) false running.earlier n k (Err stop) →
      Stopped base (IsRunKept disk base begin running.core.book.journal) stop lines line m k before now
  stopped_here config lines line running m n k before now stop r h = record {
    asked = r.asked;
    last = asked_line line h.made;
    read = read_push r.asked lines line h.made m n k r.read h.answered h.rose;
    parsed = r.parsed;
    script = r.script;
    stops = next_stop running config r.parsed r.outages (asked_line line h.made) stop r.at h.read;
    outages = r.outages;
    done = r.done;
    output = r.output;
  }

  over_here : (config : ConfigParts) (lines : List (List ℕ)) (line : List ℕ) (running : Running D) (m n k : ℕ) (before now : Option (List ℕ)) → Reached disk base begin config lines running m n before now → passes_limit (running.number + 1) line ≡ true → n ≤ k →
      IsOver base (IsRunKept disk base begin running.core.book.journal) lines line m k before now
  over_here config lines line running m n k before now r over h = record {
    asked = r.asked;
    read = read_later r.asked lines m n k r.read h;
    parsed = r.parsed;
    script = r.script;
    over = ap (λ number. passes_limit (number + 1) line) (sym r.at.number) ∙ over;
    outages = r.outages;
    done = r.done;
    output = r.output;
  }

  -- the line could not be read, or stops the script
  pub ends_unread : (config : ConfigParts) (lines : List (List ℕ)) (line : List ℕ) (running : Running D) (m n k : ℕ) (before now : Option (List ℕ)) (end : Ended) → Reached disk base begin config lines running m n before now → ReadsNext (Err end) line (running.number + 1) false running.earlier n k →
      EndsOnLine end base (IsRunKept disk base begin running.core.book.journal) lines line m k before now
  ends_unread config lines line running m n k before now ends.Limit r h = over_here config lines line running m n k before now r h.0 h.1
  ends_unread config lines line running m n k before now (ends.AtFault number fault) r h = stopped_here config lines line running m n k before now (at_fault number fault) r h.0
  ends_unread config lines line running m n k before now ends.Memory r h = inl (broke_later config lines running m n k before now r h)
  ends_unread config lines line running m n k before now ends.Write r h = absurd h
  ends_unread config lines line running m n k before now ends.NoRoom r h = absurd h
  ends_unread config lines line running m n k before now ends.Disk r h = absurd h

  -- the loop goes on by one line
  pub lines_more : (config : ConfigParts) (all : List (List ℕ)) (line : List ℕ) (rest done : List (List ℕ)) (new : Running D) (m n : ℕ) (before after : Option (List ℕ)) → all ≡ done ++ line ∷ rest → Reached disk base begin config (done ++ line ∷ []) new m n before after → InLines disk base begin config all rest new m n before after
  lines_more config all line rest done new m n before after split r = record { done = done ++ line ∷ []; split = split ∙ sym (append_assoc done (line ∷ []) rest); reached = r }

  -- the loop is at its end
  pub lines_end : (config : ConfigParts) (all : List (List ℕ)) (running : Running D) (m n : ℕ) (before now : Option (List ℕ)) → InLines disk base begin config all [] running m n before now → RanAll base (IsRunKept disk base begin running.core.book.journal) all m n before now
  lines_end config all running m n before now i =
      let r = i.reached in record {
        asked = r.asked;
        read = read_same r.asked i.done all m n (sym (i.split ∙ append-nil i.done)) r.read;
        parsed = r.parsed;
        config = config;
        begun = r.at.begun;
        wants = r.at.wants;
        script = r.script;
        outages = r.outages;
        done = r.done;
        output = r.output;
      }

  pub rest_is : (config : ConfigParts) (all rest : List (List ℕ)) (running : Running D) (m n : ℕ) (before now : Option (List ℕ)) → rest ≡ [] → InLines disk base begin config all rest running m n before now → InLines disk base begin config all [] running m n before now
  rest_is config all rest running m n before now h i = record { done = i.done; split = i.split ∙ ap (λ x. i.done ++ x) h; reached = i.reached }

pub split_more : (all done rest next : List (List ℕ)) → all ≡ done ++ rest → rest ≡ next → all ≡ done ++ next
split_more all done rest next split h = split ∙ ap (λ x. done ++ x) h

-- Over all lines.

abbrev ok_front : Parsed → Result Parsed Stop
ok_front p = Ok p

on_line : (all done : List (List ℕ)) (line : List ℕ) (rest : List (List ℕ)) → all ≡ done ++ line ∷ rest → all ≡ (done ++ line ∷ []) ++ rest
on_line all done line rest split = split ∙ sym (append_assoc done (line ∷ []) rest)

module _ (base : Base) (Done : Parsed → List Outage → Type 0) where
  abbrev fresh : Parsed
  fresh = read_from (wants_by base)

  stopped_in : (stop : Stop) (past : Bool) (all lines : List (List ℕ)) (line : List ℕ) (rest : List (List ℕ)) (m n : ℕ) (before now : Option (List ℕ)) → all ≡ lines ++ line ∷ rest → Stopped base Done stop lines line m n before now → StoppedScript base Done stop past all m n before now
  stopped_in stop past all lines line rest m n before now split s =
      let read = s.asked ++ s.last ∷ [] in
      let done = lines ++ line ∷ [] in
      let front : parsed_front fresh read ≡ s.parsed = front_stop fresh s.asked s.last [] s.parsed stop s.script s.stops in record {
        asked = read;
        read = read_front read all done rest m n (on_line all lines line rest split) s.read;
        script = script_behind (wants_by base) past read all done rest m n (Err stop) (on_line all lines line rest split) s.read (parse_stop fresh s.asked s.last [] s.parsed stop s.script s.stops);
        done_lines = length s.asked;
        front = ap (parse fresh) (take-append_seam s.asked (s.last ∷ [])) ∙ s.script ∙ sym (ap ok_front front);
        outages = s.outages;
        done = subst (λ p. Done p s.outages) (sym front) s.done;
        output = subst (λ p. Appends before now (run_text base p s.outages)) (sym front) s.output;
      }

  -- the lines that were read were run, and something behind them ends the script
  stopped_behind : (stop : Stop) (past : Bool) (all done rest : List (List ℕ)) (asked : List AskedLine) (parsed : Parsed) (outages : List Outage) (m n : ℕ) (before now : Option (List ℕ)) → all ≡ done ++ rest → AreRead asked done m n → parse fresh asked ≡ Ok parsed → end_behind past rest parsed ≡ Some (Err stop) →
      Done parsed outages → Appends before now (run_text base parsed outages) → StoppedScript base Done stop past all m n before now
  stopped_behind stop past all done rest asked parsed outages m n before now split read script ends known output =
      let front : parsed_front fresh asked ≡ parsed = front_whole fresh asked parsed script in record {
        asked = asked;
        read = read_front asked all done rest m n split read;
        script = script_behind (wants_by base) past asked all done rest m n (Ok parsed) split read script ∙ ends;
        done_lines = length asked;
        front = ap (parse fresh) (take-length asked) ∙ script ∙ sym (ap ok_front front);
        outages = outages;
        done = subst (λ p. Done p outages) (sym front) known;
        output = subst (λ p. Appends before now (run_text base p outages)) (sym front) output;
      }

  over_in : (past : Bool) (all lines : List (List ℕ)) (line : List ℕ) (rest : List (List ℕ)) (m n : ℕ) (before now : Option (List ℕ)) → all ≡ lines ++ line ∷ rest → IsOver base Done lines line m n before now → StoppedScript base Done limit past all m n before now
  over_in past all lines line rest m n before now split o = stopped_behind limit past all lines (line ∷ rest) o.asked o.parsed o.outages m n before now split o.read o.script (ap if_over o.over) o.done o.output

  broke_in : (all done rest : List (List ℕ)) (m n : ℕ) (before now : Option (List ℕ)) → all ≡ done ++ rest → Broke base Done done m n before now → BrokeIn base Done all m n before now
  broke_in all done rest m n before now split b = record {
    asked = b.asked;
    read = read_front b.asked all done rest m n split b.read;
    parsed = b.parsed;
    script = b.script;
    outages = b.outages;
    done = b.done;
    output = b.output;
  }

  either_broke : (all done : List (List ℕ)) (line : List ℕ) (rest : List (List ℕ)) (m n : ℕ) (before now : Option (List ℕ)) → all ≡ done ++ line ∷ rest → Broke base Done done m n before now ⊎ Broke base Done (done ++ line ∷ []) m n before now → BrokeIn base Done all m n before now
  either_broke all done line rest m n before now split (inl b) = broke_in all done (line ∷ rest) m n before now split b
  either_broke all done line rest m n before now split (inr b) = broke_in all (done ++ line ∷ []) rest m n before now (on_line all done line rest split) b

  -- a script that goes on past its limit
  past_script : (lines : List (List ℕ)) (m n : ℕ) (before now : Option (List ℕ)) → RanAll base Done lines m n before now → StoppedScript base Done limit true lines m n before now
  past_script lines m n before now r = stopped_behind limit true lines lines [] r.asked r.parsed r.outages m n before now (sym (append-nil lines)) r.read r.script refl r.done r.output

  -- a script that was run to its end
  whole_script : (lines : List (List ℕ)) (m n : ℕ) (before now : Option (List ℕ)) → RanAll base Done lines m n before now → RanScript base Done false lines m n before now
  whole_script lines m n before now r = record {
    asked = r.asked;
    read = r.read;
    parsed = r.parsed;
    script = script_behind (wants_by base) false r.asked lines lines [] m n (Ok r.parsed) (sym (append-nil lines)) r.read r.script ∙ ap (λ wants. Some (if_configured r.parsed wants)) r.wants;
    whole = r.script;
    outages = r.outages;
    done = r.done;
    output = r.output;
  }

  pub past_end : (past : Bool) (lines : List (List ℕ)) (m n : ℕ) (before now : Option (List ℕ)) → past ≡ true → RanAll base Done lines m n before now → StoppedScript base Done limit past lines m n before now
  past_end true lines m n before now h r = past_script lines m n before now r
  past_end false lines m n before now h r = absurd (cc)

  pub whole_end : (past : Bool) (lines : List (List ℕ)) (m n : ℕ) (before now : Option (List ℕ)) → past ≡ false → RanAll base Done lines m n before now → RanScript base Done past lines m n before now
  whole_end true lines m n before now h r = absurd (cc)
  whole_end false lines m n before now h r = whole_script lines m n before now r

  -- where the run of one line ends, the run of all lines ends
  pub ends_in : (end : Ended) (Failed : ConfigParts → Type 0) (past : Bool) (all done : List (List ℕ)) (line : List ℕ) (rest : List (List ℕ)) (m n : ℕ) (before now : Option (List ℕ)) → all ≡ done ++ line ∷ rest → EndsOnLine end base Done done line m n before now → EndsScript end base Done Failed past all m n before now
  ends_in ends.Limit Failed past all done line rest m n before now split s = over_in past all done line rest m n before now split s
  ends_in (ends.AtFault number fault) Failed past all done line rest m n before now split s = stopped_in (at_fault number fault) past all done line rest m n before now split s
  ends_in ends.Write Failed past all done line rest m n before now split b = either_broke all done line rest m n before now split b
  ends_in ends.Memory Failed past all done line rest m n before now split b = either_broke all done line rest m n before now split b
  ends_in ends.NoRoom Failed past all done line rest m n before now split b = absurd b
  ends_in ends.Disk Failed past all done line rest m n before now split b = absurd b

  -- the configuration of all lines is there, so that whatever is known where it could not be written
  pub ends_other : (end : Ended) (Failed : ConfigParts → Type 0) (past : Bool) (all : List (List ℕ)) (m n : ℕ) (before now : Option (List ℕ)) → EndsScript end base Done (λ config. ⊥) past all m n before now → EndsScript end base Done Failed past all m n before now
  ends_other ends.Limit Failed past all m n before now s = s
  ends_other (ends.AtFault number fault) Failed past all m n before now s = s
  ends_other ends.Write Failed past all m n before now s = s
  ends_other ends.Memory Failed past all m n before now s = s
  ends_other ends.NoRoom Failed past all m n before now s = s
  ends_other ends.Disk Failed past all m n before now s = absurd s.failed

-- The first line, and the end of a script, where the script has to give its configuration.

abbrev given : ConfigParts → Parsed
given config = with_read (read_from true) (reads.Config config)

first_read : (config : ConfigParts) (l : AskedLine) → line_at 1 true [] l ≡ Ok (reads.Config config) → parse_line (read_from true) l ≡ Ok (given config)
first_read config l h = ap (λ r. r >>= λ x. Ok (with_read (read_from true) x)) h

first_parsed : (config : ConfigParts) (l : AskedLine) → line_at 1 true [] l ≡ Ok (reads.Config config) → parse (read_from true) (l ∷ []) ≡ Ok (given config)
first_parsed config l h = ap (λ r. r >>= λ n. parse n []) (first_read config l h)

fresh_parsed : (stored : Bool) (config : ConfigParts) (l : AskedLine) → line_at 1 true [] l ≡ Ok (reads.Config config) → parse (read_from (wants_by (fresh_base stored))) (l ∷ []) ≡ Ok (given config)
fresh_parsed true config l h = first_parsed config l h
fresh_parsed false config l h = first_parsed config l h

fresh_text : (stored : Bool) (config : ConfigParts) → run_text (fresh_base stored) (given config) [] ≡ reply_text config_reply
fresh_text true config = append-nil (reply_text config_reply)
fresh_text false config = append-nil (reply_text config_reply)

fresh_texts : (stored : Bool) (config : ConfigParts) → run_texts (fresh_base stored) (given config) [] ≡ reply_text config_reply ∷ []
fresh_texts true config = refl
fresh_texts false config = refl

fresh_none : (stored : Bool) → run_text (fresh_base stored) (read_from true) [] ≡ []
fresh_none true = refl
fresh_none false = refl

fresh_wants : (stored : Bool) → wants_by (fresh_base stored) ≡ true
fresh_wants true = refl
fresh_wants false = refl

fresh_stored : (stored : Bool) → is_stored (fresh_base stored) ≡ stored
fresh_stored true = refl
fresh_stored false = refl

fresh_config : (stored : Bool) (config : ConfigParts) → config_by (fresh_base stored) (Some config) ≡ Some config
fresh_config true config = refl
fresh_config false config = refl

fresh_opening : (stored : Bool) → opening_by (fresh_base stored) ≡ []
fresh_opening true = refl
fresh_opening false = refl

one_read : (line : List ℕ) (made : Made) (m n : ℕ) (read : Result ReadLine Stop) → (h : IsLineRead line 1 true [] m n read) → AreRead (asked_line line h.made ∷ []) (line ∷ []) m n
one_read line made m n read h = read_push [] [] line h.made m m n (read_none m m (omega arith)) h.answered h.rose

module _ {D : Type 0} (disk : disks.Ghosts D) (begin : D) (stored : Bool) (journal : Option (Journal D)) (is : has_journal journal ≡ stored) (low : counted (fresh_base stored) (disk.faults begin) ≤ faults_in disk.faults journal) where
  abbrev base : Base
  base = fresh_base stored

  -- behind the line of the configuration, whose reply was written
  pub begun : (config : ConfigParts) (line : List ℕ) (running : Running D) (m n : ℕ) (before now : Option (List ℕ)) → LeavesSince disk begin journal (DuringStart (disk.may_leave begin) config) →
      IsLineRead line 1 true [] m n (Ok (reads.Config config)) → IsBegun disk.may_leave config [] 1 running → running.core.book.journal ≡ journal → Appends before now (reply_text config_reply) →
      Reached disk base begin config (line ∷ []) running m n before now
  begun config line running m n before now since h b own written = record {
    asked = asked_line line h.made ∷ [];
    read = one_read line h.made m n (Ok (reads.Config config)) h;
    parsed = given config;
    script = fresh_parsed stored config (asked_line line h.made) h.read;
    outages = [];
    at = record {
      begun = fresh_config stored config;
      wants = refl;
      book = b.book;
      state = b.state ∙ ap (start config) (sym (fresh_opening stored));
      earlier = b.earlier;
      number = b.number;
    };
    done = subst (λ j. IsRunKept disk base begin j (given config) []) (sym own) (run_config disk begin stored config journal is low since (subst (λ j. KeepsIn disk.may_leave config [] None j) own b.kept));
    output = subst (λ t. Appends before now t) (sym (fresh_text stored config)) written;
  }

  broke_begun : (config : ConfigParts) (line : List ℕ) (m n : ℕ) (before now : Option (List ℕ)) → LeavesSince disk begin journal (DuringStart (disk.may_leave begin) config) →
      IsLineRead line 1 true [] m n (Ok (reads.Config config)) → KeepsIn disk.may_leave config [] None journal → WritesFront before now (reply_text config_reply) →
      Broke base (IsRunKept disk base begin journal) (line ∷ []) m n before now
  broke_begun config line m n before now since h keeps written = record {
    asked = asked_line line h.made ∷ [];
    read = one_read line h.made m n (Ok (reads.Config config)) h;
    parsed = given config;
    script = fresh_parsed stored config (asked_line line h.made) h.read;
    outages = [];
    done = run_config disk begin stored config journal is low since keeps;
    output = subst (λ t. WritesToLast before now t) (sym (fresh_texts stored config)) (cut_to_last before before now [] [] (reply_text config_reply) refl (Appends-nil before) written);
  }

  -- the run breaks off behind the configuration, of whose reply a front was written, or nothing
  pub broke_config : (config : ConfigParts) (line : List ℕ) (rest : List (List ℕ)) (m n : ℕ) (before now : Option (List ℕ)) → LeavesSince disk begin journal (DuringStart (disk.may_leave begin) config) →
      IsLineRead line 1 true [] m n (Ok (reads.Config config)) → KeepsIn disk.may_leave config [] None journal → WritesFront before now (reply_text config_reply) →
      BrokeIn base (IsRunKept disk base begin journal) (line ∷ rest) m n before now
  broke_config config line rest m n before now since h keeps written =
      broke_in base (IsRunKept disk base begin journal) (line ∷ rest) (line ∷ []) rest m n before now refl (broke_begun config line m n before now since h keeps written)

  pub ends_unbegun : (A : Type 0) (end : Ended) (Failed : ConfigParts → Type 0) (config : ConfigParts) (past : Bool) (line : List ℕ) (rest : List (List ℕ)) (m n : ℕ) (before now : Option (List ℕ)) → LeavesSince disk begin journal (DuringStart (disk.may_leave begin) config) →
      IsLineRead line 1 true [] m n (Ok (reads.Config config)) → KeepsIn disk.may_leave config [] None journal → WritesText {A = A} (Err end) before now (reply_text config_reply) →
      EndsScript end base (IsRunKept disk base begin journal) Failed past (line ∷ rest) m n before now
  ends_unbegun A ends.Write Failed config past line rest m n before now since h keeps w = broke_config config line rest m n before now since h keeps w
  ends_unbegun A ends.Memory Failed config past line rest m n before now since h keeps w = broke_config config line rest m n before now since h keeps (0, w)
  ends_unbegun A ends.Limit Failed config past line rest m n before now since h keeps w = absurd w
  ends_unbegun A ends.NoRoom Failed config past line rest m n before now since h keeps w = absurd w
  ends_unbegun A ends.Disk Failed config past line rest m n before now since h keeps w = absurd w
  ends_unbegun A (ends.AtFault number fault) Failed config past line rest m n before now since h keeps w = absurd w

  module _ (since : LeavesSince disk begin journal (disk.may_leave begin)) (empty : IsEmpty disk.may_leave journal) where
    none_done : IsRunKept disk base begin journal (read_from (wants_by base)) []
    none_done = subst (λ wants. IsRunKept disk base begin journal (read_from wants) []) (sym (fresh_wants stored)) (run_none disk begin stored journal is low since empty)

    none_text : (now : Option (List ℕ)) → Appends now now (run_text base (read_from (wants_by base)) [])
    none_text now = subst (λ wants. Appends now now (run_text base (read_from wants) [])) (sym (fresh_wants stored)) (subst (λ t. Appends now now t) (sym (fresh_none stored)) (Appends-nil now))

    none_texts : (now : Option (List ℕ)) → WritesToLast now now (run_texts base (read_from (wants_by base)) [])
    none_texts now = all_to_last now now (run_texts base (read_from (wants_by base)) []) (run_text base (read_from (wants_by base)) []) (flat_run base (read_from (wants_by base)) []) (none_text now)

    -- no line was run, and nothing written
    broke_unread : (lines : List (List ℕ)) (m n : ℕ) (now : Option (List ℕ)) → m ≤ n → BrokeIn base (IsRunKept disk base begin journal) lines m n now now
    broke_unread lines m n now h = record { asked = []; read = read_none m n h; parsed = read_from (wants_by base); script = refl; outages = []; done = none_done; output = none_texts now }

    pub broke_unbegun : (lines : List (List ℕ)) (times m n : ℕ) (now : Option (List ℕ)) → RoseBy times m n → BrokeIn base (IsRunKept disk base begin journal) lines m n now now
    broke_unbegun lines times m n now h = record {
      asked = [];
      read = read_more [] [] times m m n (read_none m m (omega arith)) h;
      parsed = read_from (wants_by base);
      script = refl;
      outages = [];
      done = none_done;
      output = none_texts now;
    }

    -- the first line could not be read, or stops the script
    first_stops : (l : AskedLine) (stop : Stop) → line_at 1 true [] l ≡ Err stop → parse_line (read_from (wants_by base)) l ≡ Err stop
    first_stops l stop h = subst (λ wants. parse_line (read_from wants) l ≡ Err stop) (sym (fresh_wants stored)) (ap (λ r. r >>= λ x. Ok (with_read (read_from true) x)) h)

    stopped_first : (stop : Stop) (past : Bool) (line : List ℕ) (rest : List (List ℕ)) (m n : ℕ) (now : Option (List ℕ)) → IsLineRead line 1 true [] m n (Err stop) → StoppedScript base (IsRunKept disk base begin journal) stop past (line ∷ rest) m n now now
    stopped_first stop past line rest m n now h =
        stopped_in base (IsRunKept disk base begin journal) stop past (line ∷ rest) [] line rest m n now now refl (record {
          asked = [];
          last = asked_line line h.made;
          read = one_read line h.made m n (Err stop) h;
          parsed = read_from (wants_by base);
          script = refl;
          stops = first_stops (asked_line line h.made) stop h.read;
          outages = [];
          done = none_done;
          output = none_text now;
        })

    over_first : (past : Bool) (line : List ℕ) (rest : List (List ℕ)) (m n : ℕ) (now : Option (List ℕ)) → passes_limit 1 line ≡ true → m ≤ n → StoppedScript base (IsRunKept disk base begin journal) limit past (line ∷ rest) m n now now
    over_first past line rest m n now over h =
        over_in base (IsRunKept disk base begin journal) past (line ∷ rest) [] line rest m n now now refl (record {
          asked = [];
          read = read_none m n h;
          parsed = read_from (wants_by base);
          script = refl;
          over = over;
          outages = [];
          done = none_done;
          output = none_text now;
        })

    pub ends_first : (end : Ended) (Failed : ConfigParts → Type 0) (past : Bool) (line : List ℕ) (rest all : List (List ℕ)) (m n : ℕ) (now : Option (List ℕ)) → all ≡ line ∷ rest → ReadsNext (Err end) line 1 true [] m n → EndsScript end base (IsRunKept disk base begin journal) Failed past all m n now now
    ends_first ends.Limit Failed past line rest all m n now split h = subst (λ ls. StoppedScript base (IsRunKept disk base begin journal) limit past ls m n now now) (sym split) (over_first past line rest m n now h.0 h.1)
    ends_first (ends.AtFault number fault) Failed past line rest all m n now split h = subst (λ ls. StoppedScript base (IsRunKept disk base begin journal) (at_fault number fault) past ls m n now now) (sym split) (stopped_first (at_fault number fault) past line rest m n now h.0)
    ends_first ends.Memory Failed past line rest all m n now split h = broke_unread all m n now h
    ends_first ends.Write Failed past line rest all m n now split h = absurd h
    ends_first ends.NoRoom Failed past line rest all m n now split h = absurd h
    ends_first ends.Disk Failed past line rest all m n now split h = absurd h

    -- a script without a line
    no_line_at : (stop : Stop) (past : Bool) (m : ℕ) (now : Option (List ℕ)) → end_behind past [] (read_from true) ≡ Some (Err stop) → StoppedScript base (IsRunKept disk base begin journal) stop past [] m m now now
    no_line_at stop past m now h =
        stopped_behind base (IsRunKept disk base begin journal) stop past [] [] [] [] (read_from (wants_by base)) [] m m now now refl (read_none m m (omega arith)) refl
        (subst (λ wants. end_behind past [] (read_from wants) ≡ Some (Err stop)) (sym (fresh_wants stored)) h) none_done (none_text now)

    no_line : (Failed : ConfigParts → Type 0) (past : Bool) (m : ℕ) (now : Option (List ℕ)) → EndsScript (cond past ends.Limit (ends.AtFault 1 faults_of.ConfigPlace)) base (IsRunKept disk base begin journal) Failed past [] m m now now
    no_line Failed true m now = no_line_at limit true m now refl
    no_line Failed false m now = no_line_at (at_fault 1 faults_of.ConfigPlace) false m now refl

    pub no_lines : (end : Ended) (Failed : ConfigParts → Type 0) (past : Bool) (lines : List (List ℕ)) (m : ℕ) (now : Option (List ℕ)) → end ≡ cond past ends.Limit (ends.AtFault 1 faults_of.ConfigPlace) → lines ≡ [] → EndsScript end base (IsRunKept disk base begin journal) Failed past lines m m now now
    no_lines end Failed past lines m now is_end none =
        subst (λ e. EndsScript e base (IsRunKept disk base begin journal) Failed past lines m m now now) (sym is_end)
        (subst (λ ls. EndsScript (cond past ends.Limit (ends.AtFault 1 faults_of.ConfigPlace)) base (IsRunKept disk base begin journal) Failed past ls m m now now) (sym none) (no_line Failed past m now))

-- The first line gave the configuration, and nothing was written.
pub gave_config : (config : ConfigParts) (line : List ℕ) (rest : List (List ℕ)) (m n : ℕ) (now : Option (List ℕ)) → IsLineRead line 1 true [] m n (Ok (reads.Config config)) → GaveConfig config (line ∷ rest) m n now now
gave_config config line rest m n now h = record {
  first = asked_line line h.made;
  read = one_read line h.made m n (Ok (reads.Config config)) h;
  given = first_read config (asked_line line h.made) h.read;
  output = Appends-nil now;
}

-- Before the first line over a store with a configuration.
pub over_store : {D : Type 0} (disk : disks.Ghosts D) (begin : D) (config : ConfigParts) (history : List Entry) (running : Running D) (m : ℕ) (now : Option (List ℕ)) →
    IsBegun disk.may_leave config history 0 running → has_journal running.core.book.journal ≡ true → disk.faults begin ≤ faults_in disk.faults running.core.book.journal → LeavesSince disk begin running.core.book.journal (disk.may_leave begin) →
    Reached disk (store_of config history) begin config [] running m m now now
over_store disk begin config history running m now b is low since = record {
  asked = [];
  read = read_none m m (omega arith);
  parsed = read_from false;
  script = refl;
  outages = [];
  at = record { begun = refl; wants = refl; book = b.book; state = b.state; earlier = b.earlier; number = b.number };
  done = run_store disk begin config history running.core.book.journal is low since b.kept;
  output = Appends-nil now;
}
