-- Each event that fits keeps what a run of the core keeps true.
use Rattle.std.proofs.Common.{◌≡◌, ◌≢◌, inl, inr, ⊎_elim, ℕ, ◌+◌, ◌<◌, ◌≤◌, Bool, true, false, cond, List, [], ◌∷◌, ◌++◌, length, take, Option, Some, None, Result, Ok, Err, nat_le, option_map, refl, sym, ◌∙◌, ap, subst, arith, length-append, eq-eqb, eqb-true}
use Rattle.std.proofs.lemmas.Bool.{cases_eq, ne_eqb, false≢true, leb-true, leb-false}
use Rattle.std.proofs.lemmas.List.{append-nil, length_push}
use Rattle.std.proofs.Math.Seq.{take-length, take-append_seam}
use Rattle.emu_names.specs.declared.kinds.SessionNo.{SessionNo}
use Rattle.emu_names.specs.declared.limits.TheConstants.{HISTORY_EDITS}
use Rattle.edit_undo.specs.edit_rules.declared.acts.Breach.{Breach}
use Rattle.textgrid.specs.declared.fault.GridFault.{GridFault}
use Rattle.edit_undo.specs.edit_rules.Database.{DatabaseParts}
use Rattle.edit_undo.specs.edit_rules.declared.acts.Act.{Act}
use Rattle.edit_undo.specs.edit_rules.declared.acts.Entry.{Entry}
use Rattle.session_core.specs.declared.event.Event.{Event}
use Rattle.session_core.specs.declared.event.Event.TheVariants as events
use Rattle.session_core.specs.declared.line.Ask.{Ask}
use Rattle.session_core.specs.declared.line.Command.{Command}
use Rattle.session_core.specs.declared.line.Command.TheVariants as commands
use Rattle.session_core.specs.declared.line.Answer.{Answer}
use Rattle.session_core.specs.declared.line.Answer.TheVariants.{Done, Refused}
use Rattle.session_core.specs.declared.line.Refusal.{Refusal}
use Rattle.session_core.specs.declared.line.Refusal.TheVariants as refusals
use Rattle.session_core.specs.declared.line.Request.{Request}
use Rattle.session_core.specs.declared.line.Request.TheVariants as requests
use Rattle.session_core.specs.declared.line.Line.{Line}
use Rattle.session_core.specs.declared.line.Reply.{Reply}
use Rattle.edit_undo.specs.edit_rules.Effects.{IsLegal, edited, database_after}
use Rattle.edit_undo.proofs.of_edit_rules.Replay.{replay_goes_on}
use Rattle.session_core.specs.Answers.{answer_at, memory, is_want_of_memory, grid_number, grid_answer, reply_to, entry_of, rule_refusal}
use Rattle.session_core.specs.Queries.{lacks_memory}
use Rattle.session_core.specs.Steps.{Opened, State, slot, put_slot, session_places, is_full, opened_at, taking_back, edit_step, act_event, undo_step, look_step, finish_step, look_answered, query_step, way_answered, query_fails, Asker, by_look, by_query, by_none, asker_of, finish_by, finish_fails_by}
use Rattle.session_core.specs.Worlds.{Turn, Trouble, untroubled, no_memory, store_full, disk_failed, is_disk_failed, Occurrence, World, outcome_of, query_line, finish_line, brought_by, brought, query_answered, answered_by, answered, turns_of, happens, Each, IsBehind, IsNext, is_answered, RequestFits, EditFits, LookFits, IsUnderWay, FinishFits, Fits, passes_store, IsOverStore, act_back, StoreRefusesAct, DiskMayRefuseAct, TroubleFits, OccurrenceFits}
use Rattle.session_core.specs.Legal.{of_session, lines_of_session, is_of, is_line_of, lines_in, Mark, mark_of, accepted, accepting, numbered, IsRight, IsRightAt, IsRightEdit, IsRightRefusal, IsDiskFor, IsRefusedUnnumbered, low_behind, KeepsUp, Look, open_behind, look_behind, finish_behind, LookReplyFits, FinishReplyFits, ReplyFits, session_of, is_disk, accepted_as, TakesBack, UndoAnswers, ReplyUndoes}
use Rattle.edit_undo.specs.declared.faults.NoUndo.{NoUndo}
use Rattle.edit_undo.specs.declared.faults.NoUndo.TheVariants as reasons
use Rattle.session_core.proofs.Asking.{answers}
use Rattle.session_core.proofs.Undoing.{slice_get_last, takes_more, history_takes, as_own, undoes_same}
use Rattle.session_core.proofs.OfCommand.{query_is}
use Rattle.session_core.proofs.Turns.{each_map, each_passing, each_kept, each_of_map, filter_more, filter_same, low_of, IsPast, HasSeenStill, seen_in_to, disk_of}
use Rattle.session_core.proofs.Places.{slot_put, slot_other, put_length}
use Rattle.session_core.proofs.Seats.{rights_to, session_no, look_of, IsIn, in_more, IsWaiting, Seat, seat_told, Good, world_of, old_seat, added}

abbrev line_of : ℕ → SessionNo → Command → Request → Line
line_of line s command r = record { line = line; session = s; command = command; request = r }

abbrev turn_of : Line → Option ℕ → Answer → Turn
turn_of l n answer = record { line = l; reply = reply_to l n answer }

-- a world after an outcome
abbrev told : World → List Line → List Line → Option Reply × State → World
told w come lines out = record { state = out.1; lines = w.lines ++ come; turns = w.turns ++ turns_of lines out.0 }

-- A reply to a line that came now.

record Once (opening : List Entry) (store : Bool) (faults faults' : ℕ) (w : World) (l : Line) (H : List Entry) (looks : List (Option Opened)) (n : Option ℕ) (answer : Answer) (new : List Entry) : Type 0 where
  grown : H ≡ w.state.entries ++ new
  most : length H ≤ HISTORY_EDITS
  legal : IsLegal w.state.config H
  mark : accepting l l.request n answer ≡ numbered (length w.state.entries + 1) new
  right : IsRight w.state.config (length opening) H store l n answer
  still : HasSeenStill (length opening) w.turns l.request n
  disks : faults + disk_of answer ≤ faults'
  looks_count : length looks ≡ session_places
  other_looks : (s : ℕ) → l.session.0 ≢ s → slot looks s ≡ slot w.state.looks s
  keeps : (low : ℕ) → low ≤ length w.state.entries → KeepsUp low l.request n
  from : (low : ℕ) → length opening ≤ low → length opening ≤ low_behind low l.request n
  to : (low : ℕ) → low ≤ length w.state.entries → low_behind low l.request n ≤ length H
  fits : ReplyFits w.state.config H (option_map look_of (slot w.state.looks l.session.0)) l.request n answer
  opens : open_behind (option_map look_of (slot w.state.looks l.session.0)) l.request n ≡ option_map look_of (slot looks l.session.0)
  look_in : IsIn (length opening) H (slot looks l.session.0)
  undoes : ReplyUndoes w.state.config H store (accepted w.turns) l l.request n answer

-- What an act wants of its line: the line's own act, or the one that takes back what an `undo` names.
record Wants (opening : List Entry) (store : Bool) (w : World) (l : Line) (act : Act) : Type 0 where
  told : (n : ℕ) (command : Command) → accepting l l.request (Some n) (Done command) ≡ mark_of l n ∷ []
  untold : (n : ℕ) (refusal : Refusal) → accepting l l.request (Some n) (Refused refusal) ≡ []
  alone : (answer : Answer) → accepting l l.request None answer ≡ []
  right : (H : List Entry) (n : ℕ) (answer : Answer) → IsRightEdit w.state.config H store l act n answer → IsRightAt w.state.config H store l l.request n answer
  disk : store ≡ true → IsDiskFor store l.request
  still : (n : Option ℕ) → HasSeenStill (length opening) w.turns l.request n
  keeps : (low n : ℕ) → low ≤ n → KeepsUp low l.request (Some n)
  low : (low n : ℕ) → low_behind low l.request (Some n) ≡ n
  fits : (H : List Entry) (held : Option Look) (n : Option ℕ) (answer : Answer) → ReplyFits w.state.config H held l.request n answer
  opens : (held : Option Look) (n : Option ℕ) → open_behind held l.request n ≡ held
  undoes : (H new : List Entry) → H ≡ w.state.entries ++ new → (n : Option ℕ) (answer : Answer) → UndoAnswers w.state.config H store l (Some (Ok act)) n answer
      → ReplyUndoes w.state.config H store (accepted w.turns) l l.request n answer

module _ (opening : List Entry) (store : Bool) (faults : ℕ) (w : World) (g : Good opening store faults w) where
  -- the opening's history is no longer than the present one
  opening_below : length opening ≤ length w.state.entries
  opening_below =
      let count : length w.state.entries ≡ length opening + length g.more = ap length g.prefix ∙ length-append opening g.more in
      omega arith

  -- where no query is under way every line of the session is answered
  next_lines : (s : ℕ) → slot w.state.queries s ≡ None → lines_of_session s w.lines ≡ lines_in (of_session s w.turns)
  next_lines s idle =
      (g.seats s).lines
      ∙ ap (λ (q : Option Opened). lines_in (of_session s w.turns) ++ query_answered (session_no s) q) idle
      ∙ append-nil (lines_in (of_session s w.turns))

  -- the answered lines of the session are before a line that comes next
  next_below : (line s : ℕ) → IsNext w line s → Each (λ t. t.line.line < line) (of_session s w.turns)
  next_below line s next =
      each_of_map (λ (l : Line). l.line < line) (λ (t : Turn). t.line) (of_session s w.turns)
      (subst (λ (ls : List Line). Each (λ (l : Line). l.line < line) ls) (next_lines s next.idle)
      (each_kept (λ (l : Line). l.line < line) (is_line_of s) w.lines
      (each_map (IsBehind line s) (λ (l : Line). is_line_of s l ≡ true → l.line < line) (λ l behind own. behind.own (eqb-true l.session.0 s own)) w.lines next.behind)))

  below_past : (t : Turn) → Each (λ u. u.line.line < t.line.line) (of_session t.line.session.0 w.turns) → IsPast t w.turns
  below_past t below =
      each_map (λ u. is_of t.line.session.0 u ≡ true → u.line.line < t.line.line) (λ u. u.line.session.0 ≡ t.line.session.0 → u.line.line < t.line.line)
      (λ u past own. past (eq-eqb u.line.session.0 t.line.session.0 own)) w.turns
      (each_passing (λ u. u.line.line < t.line.line) (is_of t.line.session.0) w.turns below)

  once_seat : (faults' : ℕ) (l : Line) (H : List Entry) (looks : List (Option Opened)) (n : Option ℕ) (answer : Answer) (new : List Entry) → IsNext w l.line l.session.0
      → Once opening store faults faults' w l H looks n answer new
      → Seat store w.state.config (length opening) H l.session.0 (of_session l.session.0 w.turns ++ turn_of l n answer ∷ []) (lines_of_session l.session.0 (w.lines ++ l ∷ [])) (slot looks l.session.0) None
  once_seat faults' l H looks n answer new next o =
      let low : low_of (length opening) (of_session l.session.0 w.turns) ≤ length w.state.entries = (g.seats l.session.0).low in
      let from : length opening ≤ low_of (length opening) (of_session l.session.0 w.turns) = (g.seats l.session.0).from in
      seat_told store w.state.config (length opening) H l.session.0 (of_session l.session.0 w.turns) (lines_of_session l.session.0 w.lines) (slot w.state.looks l.session.0) (slot w.state.queries l.session.0)
      (old_seat opening store faults faults' w H looks w.state.queries (l ∷ []) (turn_of l n answer) new g o.grown l.session.0)
      (turn_of l n answer) (lines_of_session l.session.0 (w.lines ++ l ∷ [])) (slot looks l.session.0)
      (o.keeps (low_of (length opening) (of_session l.session.0 w.turns)) low)
      (o.from (low_of (length opening) (of_session l.session.0 w.turns)) from)
      (o.to (low_of (length opening) (of_session l.session.0 w.turns)) low)
      o.fits o.opens o.look_in
      (undoes_same w.state.config H store (accepted w.turns) (accepted (of_session l.session.0 w.turns)) l l.request n answer (λ line. as_own l.session.0 line w.turns) o.undoes)
      (filter_more (is_line_of l.session.0) w.lines l (eq-eqb l.session.0 l.session.0 refl) ∙ ap (λ (ls : List Line). ls ++ l ∷ []) (next_lines l.session.0 next.idle))

  once : (faults' : ℕ) (l : Line) (H : List Entry) (looks : List (Option Opened)) (n : Option ℕ) (answer : Answer) (new : List Entry) → IsNext w l.line l.session.0
      → Once opening store faults faults' w l H looks n answer new
      → Good opening store faults' (world_of w.state.config w.state.base H looks w.state.queries (w.lines ++ l ∷ []) (w.turns ++ turn_of l n answer ∷ []))
  once faults' l H looks n answer new next o = added opening store faults faults' w H looks w.state.queries (l ∷ []) (turn_of l n answer) new g (record {
    grown = o.grown;
    most = o.most;
    legal = o.legal;
    mark = o.mark;
    named = record { line = refl; session = refl };
    right = o.right;
    still = o.still;
    past = below_past (turn_of l n answer) (next_below l.line l.session.0 next);
    disks = o.disks;
    looks_count = o.looks_count;
    queries_count = g.queries_count;
    other_looks = o.other_looks;
    other_queries = λ s ne. refl;
    other_lines = λ s ne. filter_same (is_line_of s) w.lines l (ne_eqb l.session.0 s ne);
    own = subst (λ (q : Option Opened). Seat store w.state.config (length opening) H l.session.0 (of_session l.session.0 w.turns ++ turn_of l n answer ∷ []) (lines_of_session l.session.0 (w.lines ++ l ∷ [])) (slot looks l.session.0) q)
        (sym next.idle) (once_seat faults' l H looks n answer new next o);
  })

  -- no failed disk more
  no_disk_more : (answer : Answer) → is_disk answer ≡ false → faults + disk_of answer ≤ faults
  no_disk_more answer no_disk =
      let none : disk_of answer ≡ 0 = ap (λ (b : Bool). cond b 1 0) no_disk in
      omega arith

  -- a reply that leaves the state as it was
  same : (l : Line) (n : Option ℕ) (answer : Answer) → IsNext w l.line l.session.0
      → accepting l l.request n answer ≡ []
      → IsRight w.state.config (length opening) w.state.entries store l n answer
      → HasSeenStill (length opening) w.turns l.request n
      → is_disk answer ≡ false
      → ((low : ℕ) → low ≤ length w.state.entries → KeepsUp low l.request n)
      → ((low : ℕ) → length opening ≤ low → length opening ≤ low_behind low l.request n)
      → ((low : ℕ) → low ≤ length w.state.entries → low_behind low l.request n ≤ length w.state.entries)
      → ReplyFits w.state.config w.state.entries (option_map look_of (slot w.state.looks l.session.0)) l.request n answer
      → open_behind (option_map look_of (slot w.state.looks l.session.0)) l.request n ≡ option_map look_of (slot w.state.looks l.session.0)
      → ReplyUndoes w.state.config w.state.entries store (accepted w.turns) l l.request n answer
      → Good opening store faults (world_of w.state.config w.state.base w.state.entries w.state.looks w.state.queries (w.lines ++ l ∷ []) (w.turns ++ turn_of l n answer ∷ []))
  same l n answer next mark right still no_disk keeps from to fits opens undoes = once faults l w.state.entries w.state.looks n answer [] next (record {
    grown = sym (append-nil w.state.entries);
    most = g.most;
    legal = g.legal;
    mark = mark;
    right = right;
    still = still;
    disks = no_disk_more answer no_disk;
    looks_count = g.looks_count;
    other_looks = λ s ne. refl;
    keeps = keeps;
    from = from;
    to = to;
    fits = fits;
    opens = opens;
    look_in = (g.seats l.session.0).look_in;
    undoes = undoes;
  })

  -- What takes a line back.

  -- in this session: what its replies say of the line is what the state says
  undo_takes : (s line : ℕ) → TakesBack w.state.config w.state.entries (accepted_as s line (accepted w.turns)) (taking_back w.state s line)
  undo_takes s line =
      subst (λ (ms : List Mark). TakesBack w.state.config w.state.entries (accepted_as s line ms) (taking_back w.state s line)) (sym g.marks)
      (history_takes w.state.config opening g.more w.state.entries w.state.base s line g.prefix g.begun)

  -- beside a longer history
  undo_takes_new : (H new : List Entry) (s line : ℕ) (inverse : Option (Result Act NoUndo)) → H ≡ w.state.entries ++ new → taking_back w.state s line ≡ inverse
      → TakesBack w.state.config H (accepted_as s line (accepted w.turns)) inverse
  undo_takes_new H new s line inverse grown is =
      subst (λ (xs : List Entry). TakesBack w.state.config xs (accepted_as s line (accepted w.turns)) inverse) (sym grown)
      (takes_more w.state.config w.state.entries new (accepted_as s line (accepted w.turns)) inverse
      (subst (λ (i : Option (Result Act NoUndo)). TakesBack w.state.config w.state.entries (accepted_as s line (accepted w.turns)) i) is (undo_takes s line)))

  undo_memory : (l : Line) (inverse : Option (Result Act NoUndo)) → UndoAnswers w.state.config w.state.entries store l inverse None memory
  undo_memory l None = inr refl
  undo_memory l (Some (Err fault)) = inr refl
  undo_memory l (Some (Ok act)) = inl refl

  memory_undoes : (l : Line) (r : Request) → ReplyUndoes w.state.config w.state.entries store (accepted w.turns) l r None memory
  memory_undoes l (requests.Undo earlier) = record {
    inverse = taking_back w.state l.session.0 earlier;
    takes = undo_takes l.session.0 earlier;
    answers = undo_memory l (taking_back w.state l.session.0 earlier);
  }
  memory_undoes l (requests.Edit given) = tt
  memory_undoes l (requests.Query ask) = tt
  memory_undoes l (requests.Look ask) = tt
  memory_undoes l requests.Finish = tt
  memory_undoes l (requests.After earlier) = tt

  -- Want of memory.

  mark_none : (l : Line) (r : Request) (answer : Answer) → accepting l r None answer ≡ []
  mark_none l (requests.Edit (Ok act)) answer = refl
  mark_none l (requests.Edit (Err fault)) answer = refl
  mark_none l (requests.Undo earlier) answer = refl
  mark_none l (requests.Query ask) answer = refl
  mark_none l (requests.Look ask) answer = refl
  mark_none l requests.Finish answer = refl
  mark_none l (requests.After earlier) answer = refl

  still_none : (r : Request) → RequestFits w r → HasSeenStill (length opening) w.turns r None
  still_none (requests.After earlier) fits = (fits, tt)
  still_none (requests.Edit given) fits = tt
  still_none (requests.Undo earlier) fits = tt
  still_none (requests.Query ask) fits = tt
  still_none (requests.Look ask) fits = tt
  still_none requests.Finish fits = tt

  look_memory : (held : Option Look) → LookReplyFits held None memory
  look_memory None = refl
  look_memory (Some held) = inr refl

  finish_memory : (held : Option Look) → FinishReplyFits w.state.config w.state.entries held None memory
  finish_memory None = inr refl
  finish_memory (Some held) = refl

  memory_fits : (held : Option Look) (r : Request) → ReplyFits w.state.config w.state.entries held r None memory
  memory_fits held (requests.Look ask) = look_memory held
  memory_fits held requests.Finish = finish_memory held
  memory_fits held (requests.Edit given) = tt
  memory_fits held (requests.Undo earlier) = tt
  memory_fits held (requests.Query ask) = tt
  memory_fits held (requests.After earlier) = tt

  open_none : (held : Option Look) (r : Request) → open_behind held r None ≡ held
  open_none held (requests.Look ask) = refl
  open_none held requests.Finish = refl
  open_none held (requests.Edit given) = refl
  open_none held (requests.Undo earlier) = refl
  open_none held (requests.Query ask) = refl
  open_none held (requests.After earlier) = refl

  no_memory_good : (l : Line) → IsNext w l.line l.session.0 → RequestFits w l.request
      → Good opening store faults (world_of w.state.config w.state.base w.state.entries w.state.looks w.state.queries (w.lines ++ l ∷ []) (w.turns ++ turn_of l None memory ∷ []))
  no_memory_good l next fits =
      same l None memory next (mark_none l l.request memory) tt (still_none l.request fits) refl
      (λ low high. tt) (λ low above. above) (λ low high. high)
      (memory_fits (option_map look_of (slot w.state.looks l.session.0)) l.request)
      (open_none (option_map look_of (slot w.state.looks l.session.0)) l.request)
      (memory_undoes l l.request)

  -- An act.

  edit_wants : (line : ℕ) (s : SessionNo) (command : Command) (act : Act) → Wants opening store w (line_of line s command (requests.Edit (Ok act))) act
  edit_wants line s command act = record {
    told = λ n done. refl;
    untold = λ n refusal. refl;
    alone = λ answer. refl;
    right = λ H n answer right. right;
    disk = λ stored. stored;
    still = λ n. tt;
    keeps = λ low n high. high;
    low = λ low n. refl;
    fits = λ H held n answer. tt;
    opens = λ held n. refl;
    undoes = λ H new grown n answer answers. tt;
  }

  undo_wants : (line : ℕ) (s : SessionNo) (command : Command) (earlier : ℕ) (act : Act) → taking_back w.state s.0 earlier ≡ Some (Ok act)
      → Wants opening store w (line_of line s command (requests.Undo earlier)) act
  undo_wants line s command earlier act is = record {
    told = λ n done. refl;
    untold = λ n refusal. refl;
    alone = λ answer. refl;
    right = λ H n answer right. record { act = act; right = right };
    disk = λ stored. stored;
    still = λ n. tt;
    keeps = λ low n high. high;
    low = λ low n. refl;
    fits = λ H held n answer. tt;
    opens = λ held n. refl;
    undoes = λ H new grown n answer answers. record {
      inverse = Some (Ok act);
      takes = undo_takes_new H new s.0 earlier (Some (Ok act)) grown is;
      answers = answers;
    };
  }

  module _ (l : Line) (act : Act) (next : IsNext w l.line l.session.0) (wants : Wants opening store w l act) where
    -- a refusal at the present number
    act_refused : (refusal : Refusal) → IsRightRefusal w.state.config w.state.entries store l act (length w.state.entries) refusal → is_disk (Refused refusal) ≡ false
        → Good opening store faults (world_of w.state.config w.state.base w.state.entries w.state.looks w.state.queries (w.lines ++ l ∷ []) (w.turns ++ turn_of l (Some (length w.state.entries)) (Refused refusal) ∷ []))
    act_refused refusal right no_disk =
        let n : ℕ = length w.state.entries in
        same l (Some (length w.state.entries)) (Refused refusal) next (wants.untold n refusal) (
          opening_below,
          omega arith,
          wants.right w.state.entries n (Refused refusal) right,
        ) (wants.still (Some n)) no_disk
        (λ low high. wants.keeps low n high)
        (λ low above. subst (λ (k : ℕ). length opening ≤ k) (sym (wants.low low n)) opening_below)
        (λ low high. subst (λ (k : ℕ). k ≤ length w.state.entries) (sym (wants.low low n)) (omega arith))
        (wants.fits w.state.entries (option_map look_of (slot w.state.looks l.session.0)) (Some n) (Refused refusal))
        (wants.opens (option_map look_of (slot w.state.looks l.session.0)) (Some n))
        (wants.undoes w.state.entries [] (sym (append-nil w.state.entries)) (Some n) (Refused refusal) right)

    edit_full : nat_le HISTORY_EDITS (length w.state.entries) ≡ true
        → Good opening store faults (world_of w.state.config w.state.base w.state.entries w.state.looks w.state.queries (w.lines ++ l ∷ []) (w.turns ++ turn_of l (Some (length w.state.entries)) (Refused refusals.HistoryFull) ∷ []))
    edit_full full =
        let low : HISTORY_EDITS ≤ length w.state.entries = leb-true HISTORY_EDITS (length w.state.entries) full in
        let high : length w.state.entries ≤ HISTORY_EDITS = g.most in
        let all : length w.state.entries ≡ HISTORY_EDITS = omega arith in
        act_refused refusals.HistoryFull all refl

    edit_refused : (breach : Breach) → nat_le HISTORY_EDITS (length w.state.entries) ≡ false → edited w.state.config w.state.entries act ≡ Err breach
        → Good opening store faults (world_of w.state.config w.state.base w.state.entries w.state.looks w.state.queries (w.lines ++ l ∷ []) (w.turns ++ turn_of l (Some (length w.state.entries)) (Refused (rule_refusal l.command breach)) ∷ []))
    edit_refused breach room broken =
        act_refused (rule_refusal l.command breach) (record {
          room = leb-false HISTORY_EDITS (length w.state.entries) room;
          at = breach.place;
          broken = ap (λ (xs : List Entry). edited w.state.config xs act) (take-length w.state.entries) ∙ broken;
          shown = refl;
        }) refl

    edit_done : (database : DatabaseParts) → nat_le HISTORY_EDITS (length w.state.entries) ≡ false → edited w.state.config w.state.entries act ≡ Ok database
        → Good opening store faults (world_of w.state.config w.state.base (w.state.entries ++ entry_of l act ∷ []) w.state.looks w.state.queries (w.lines ++ l ∷ []) (w.turns ++ turn_of l (Some (length w.state.entries + 1)) (Done l.command) ∷ []))
    edit_done database room made =
        let n : ℕ = length w.state.entries + 1 in
        let below : length w.state.entries < HISTORY_EDITS = leb-false HISTORY_EDITS (length w.state.entries) room in
        let count : length (w.state.entries ++ entry_of l act ∷ []) ≡ length w.state.entries + 1 = length_push w.state.entries (entry_of l act) in
        let opened : length opening ≤ length w.state.entries = opening_below in
        let accepts : IsRightEdit w.state.config (w.state.entries ++ entry_of l act ∷ []) store l act (length w.state.entries + 1) (Done l.command) = record {
          own = refl;
          before = length w.state.entries;
          number = refl;
          room = below;
          database = database;
          right = ap (λ (xs : List Entry). edited w.state.config xs act) (take-append_seam w.state.entries (entry_of l act ∷ [])) ∙ made;
          entry = slice_get_last w.state.entries (entry_of l act);
        } in
        once faults l (w.state.entries ++ entry_of l act ∷ []) w.state.looks (Some (length w.state.entries + 1)) (Done l.command) (entry_of l act ∷ []) next (record {
          grown = refl;
          most = omega arith;
          legal = (database, replay_goes_on w.state.config w.state.entries (entry_of l act) ∙ made);
          mark = wants.told (length w.state.entries + 1) l.command;
          right = (
            omega arith,
            omega arith,
            wants.right (w.state.entries ++ entry_of l act ∷ []) (length w.state.entries + 1) (Done l.command) accepts,
          );
          still = wants.still (Some (length w.state.entries + 1));
          disks = omega arith;
          looks_count = g.looks_count;
          other_looks = λ k ne. refl;
          keeps = λ low high. wants.keeps low (length w.state.entries + 1) (omega arith);
          from = λ low above. subst (λ (k : ℕ). length opening ≤ k) (sym (wants.low low (length w.state.entries + 1))) (omega arith);
          to = λ low high. subst (λ (k : ℕ). k ≤ length (w.state.entries ++ entry_of l act ∷ [])) (sym (wants.low low (length w.state.entries + 1))) (omega arith);
          fits = wants.fits (w.state.entries ++ entry_of l act ∷ []) (option_map look_of (slot w.state.looks l.session.0)) (Some (length w.state.entries + 1)) (Done l.command);
          opens = wants.opens (option_map look_of (slot w.state.looks l.session.0)) (Some (length w.state.entries + 1));
          look_in = in_more (length opening) w.state.entries (entry_of l act ∷ []) (slot w.state.looks l.session.0) (g.seats l.session.0).look_in;
          undoes = wants.undoes (w.state.entries ++ entry_of l act ∷ []) (entry_of l act ∷ []) refl (Some (length w.state.entries + 1)) (Done l.command) accepts;
        })

    edit_good : (full : Bool) (made : Result DatabaseParts Breach) → is_full w.state.entries ≡ full → edited w.state.config w.state.entries act ≡ made
        → Good opening store faults (told w (l ∷ []) (l ∷ []) (edit_step w.state l act full made))
    edit_good true made full_is made_is = edit_full full_is
    edit_good false (Err breach) full_is made_is = edit_refused breach full_is made_is
    edit_good false (Ok database) full_is made_is = edit_done database full_is made_is

    -- the act takes its step
    act_good : Good opening store faults (told w (l ∷ []) (l ∷ []) (act_event w.state l act))
    act_good = edit_good (is_full w.state.entries) (edited w.state.config w.state.entries act) refl refl

    -- the store has no room
    over_good : IsOverStore store w.state l act
        → Good opening store faults (world_of w.state.config w.state.base w.state.entries w.state.looks w.state.queries (w.lines ++ l ∷ []) (w.turns ++ turn_of l (Some (length w.state.entries)) (Refused refusals.StoreFull) ∷ []))
    over_good over =
        let whole : take (length w.state.entries) w.state.entries ≡ w.state.entries = take-length w.state.entries in
        act_refused refusals.StoreFull (record {
          room = leb-false HISTORY_EDITS (length w.state.entries) over.room;
          stored = over.stored;
          database = over.database;
          right = ap (λ (xs : List Entry). edited w.state.config xs act) whole ∙ over.made;
          passes = ap (λ (xs : List Entry). passes_store w.state.config xs (entry_of l act)) whole ∙ over.passes;
        }) refl

    -- the disk failed
    disk_good : store ≡ true
        → Good opening store (faults + 1) (world_of w.state.config w.state.base w.state.entries w.state.looks w.state.queries (w.lines ++ l ∷ []) (w.turns ++ turn_of l None (Refused refusals.Disk) ∷ []))
    disk_good stored = once (faults + 1) l w.state.entries w.state.looks None (Refused refusals.Disk) [] next (record {
      grown = sym (append-nil w.state.entries);
      most = g.most;
      legal = g.legal;
      mark = wants.alone (Refused refusals.Disk);
      right = wants.disk stored;
      still = wants.still None;
      disks = omega arith;
      looks_count = g.looks_count;
      other_looks = λ k ne. refl;
      keeps = λ low high. tt;
      from = λ low above. above;
      to = λ low high. high;
      fits = wants.fits w.state.entries (option_map look_of (slot w.state.looks l.session.0)) None (Refused refusals.Disk);
      opens = wants.opens (option_map look_of (slot w.state.looks l.session.0)) None;
      look_in = (g.seats l.session.0).look_in;
      undoes = wants.undoes w.state.entries [] (sym (append-nil w.state.entries)) None (Refused refusals.Disk) (inr (stored, refl));
    })

  -- An `undo`, by what takes its line back.
  module _ (line : ℕ) (s : SessionNo) (command : Command) (earlier : ℕ) (next : IsNext w line s.0) where
    abbrev undo_line : Line
    undo_line = line_of line s command (requests.Undo earlier)

    -- no act is wanted
    undo_refused : (inverse : Option (Result Act NoUndo)) (refusal : Refusal) → taking_back w.state s.0 earlier ≡ inverse
        → IsRefusedUnnumbered store (requests.Undo earlier) refusal → is_disk (Refused refusal) ≡ false
        → UndoAnswers w.state.config w.state.entries store undo_line inverse None (Refused refusal)
        → Good opening store faults (world_of w.state.config w.state.base w.state.entries w.state.looks w.state.queries (w.lines ++ undo_line ∷ []) (w.turns ++ turn_of undo_line None (Refused refusal) ∷ []))
    undo_refused inverse refusal is right no_disk answers =
        same undo_line None (Refused refusal) next refl right tt no_disk
        (λ low high. tt) (λ low above. above) (λ low high. high) tt refl
        (record { inverse = inverse; takes = undo_takes_new w.state.entries [] s.0 earlier inverse (sym (append-nil w.state.entries)) is; answers = answers })

    undo_good : (inverse : Option (Result Act NoUndo)) → taking_back w.state s.0 earlier ≡ inverse
        → Good opening store faults (told w (undo_line ∷ []) (undo_line ∷ []) (undo_step w.state undo_line inverse))
    undo_good None is = undo_refused None refusals.NotAccepted is tt refl (inl refl)
    undo_good (Some (Err reasons.NoInverse)) is = undo_refused (Some (Err reasons.NoInverse)) refusals.NoInverse is tt refl (inl refl)
    undo_good (Some (Err reasons.TooManyEdits)) is = undo_refused (Some (Err reasons.TooManyEdits)) refusals.TooManyEdits is tt refl (inl refl)
    undo_good (Some (Ok act)) is = act_good undo_line act next (undo_wants line s command earlier act is)

    undo_over : (inverse : Option (Result Act NoUndo)) → taking_back w.state s.0 earlier ≡ inverse → StoreRefusesAct store w.state undo_line (act_back inverse)
        → Good opening store faults (world_of w.state.config w.state.base w.state.entries w.state.looks w.state.queries (w.lines ++ undo_line ∷ []) (w.turns ++ turn_of undo_line (Some (length w.state.entries)) (Refused refusals.StoreFull) ∷ []))
    undo_over None is may = absurd may
    undo_over (Some (Err fault)) is may = absurd may
    undo_over (Some (Ok act)) is may = over_good undo_line act next (undo_wants line s command earlier act is) may

    undo_disk : (inverse : Option (Result Act NoUndo)) → taking_back w.state s.0 earlier ≡ inverse → DiskMayRefuseAct store (act_back inverse)
        → Good opening store (faults + 1) (world_of w.state.config w.state.base w.state.entries w.state.looks w.state.queries (w.lines ++ undo_line ∷ []) (w.turns ++ turn_of undo_line None (Refused refusals.Disk) ∷ []))
    undo_disk None is may = absurd may
    undo_disk (Some (Err fault)) is may = absurd may
    undo_disk (Some (Ok act)) is may = disk_good undo_line act next (undo_wants line s command earlier act is) may

  -- a line whose TextGrid has a fault
  grid_good : (line : ℕ) (s : SessionNo) (command : Command) (fault : GridFault) → IsNext w line s.0 → (short : Bool) → is_want_of_memory fault ≡ short
      → Good opening store faults (told w (line_of line s command (requests.Edit (Err fault)) ∷ []) (line_of line s command (requests.Edit (Err fault)) ∷ [])
      (Some (reply_to (line_of line s command (requests.Edit (Err fault))) (grid_number (length w.state.entries) short) (grid_answer fault short)), w.state))
  grid_good line s command fault next true is = no_memory_good (line_of line s command (requests.Edit (Err fault))) next tt
  grid_good line s command fault next false is =
      same (line_of line s command (requests.Edit (Err fault))) (Some (length w.state.entries)) (Refused (refusals.Grid fault)) next refl
      (opening_below, omega arith, record { told = refl; is_fault = is }) tt refl
      (λ low high. high) (λ low above. opening_below) (λ low high. omega arith) tt refl tt

  -- A look, a query, an `after`.

  look_good : (line : ℕ) (s : SessionNo) (command : Command) (ask : Ask) → IsNext w line s.0 → (look : Option Opened) → slot w.state.looks s.0 ≡ look
      → Good opening store faults (told w (line_of line s command (requests.Look ask) ∷ []) (line_of line s command (requests.Look ask) ∷ []) (look_step w.state (line_of line s command (requests.Look ask)) ask look))
  look_good line s command ask next (Some held) is =
      same (line_of line s command (requests.Look ask)) None (Refused refusals.LookOpen) next refl tt tt refl
      (λ low high. tt) (λ low above. above) (λ low high. high)
      (subst (λ (o : Option Opened). LookReplyFits (option_map look_of o) None (Refused refusals.LookOpen)) (sym is) (inl refl))
      refl tt
  look_good line s command ask next None is =
      let l : Line = line_of line s command (requests.Look ask) in
      let new : Option Opened = Some (opened_at w.state l ask) in
      let opened : length opening ≤ length w.state.entries = opening_below in
      let count : length w.state.looks ≡ 17 = g.looks_count in
      let place : s.0 < 17 = next.place in
      let there : slot (put_slot w.state.looks s.0 new) s.0 ≡ new = slot_put w.state.looks s.0 new (omega arith) in
      once faults l w.state.entries (put_slot w.state.looks s.0 new) (Some (length w.state.entries)) (Done command) [] next (record {
        grown = sym (append-nil w.state.entries);
        most = g.most;
        legal = g.legal;
        mark = refl;
        right = (opened, omega arith, refl);
        still = tt;
        disks = omega arith;
        looks_count = put_length w.state.looks s.0 new ∙ g.looks_count;
        other_looks = λ k ne. slot_other w.state.looks s.0 k new ne;
        keeps = λ low high. high;
        from = λ low above. opened;
        to = λ low high. omega arith;
        fits = subst (λ (o : Option Opened). LookReplyFits (option_map look_of o) (Some (length w.state.entries)) (Done command)) (sym is) tt;
        opens = ap (λ (o : Option Opened). look_behind (option_map look_of o) ask (Some (length w.state.entries))) is ∙ sym (ap (λ (o : Option Opened). option_map look_of o) there);
        look_in = subst (λ (o : Option Opened). IsIn (length opening) w.state.entries o) (sym there) (opened, omega arith);
        undoes = tt;
      })

  after_good : (line : ℕ) (s : SessionNo) (command : Command) (earlier : ℕ) → IsNext w line s.0 → is_answered earlier w.turns ≡ true
      → Good opening store faults (world_of w.state.config w.state.base w.state.entries w.state.looks w.state.queries (w.lines ++ line_of line s command (requests.After earlier) ∷ []) (w.turns ++ turn_of (line_of line s command (requests.After earlier)) (Some (length w.state.entries)) (Done command) ∷ []))
  after_good line s command earlier next known =
      same (line_of line s command (requests.After earlier)) (Some (length w.state.entries)) (Done command) next refl
      (opening_below, omega arith, refl)
      (known, seen_in_to (length opening) earlier (length w.state.entries) (session_of earlier w.turns) w.turns opening_below (rights_to store w.state.config (length opening) w.state.entries [] w.turns g.right))
      refl (λ low high. high) (λ low above. opening_below) (λ low high. omega arith) tt refl tt

  -- a query is put under way
  query_good : (line : ℕ) (s : SessionNo) (command : Command) (ask : Ask) → command ≡ commands.Query → IsNext w line s.0
      → Good opening store faults (world_of w.state.config w.state.base w.state.entries w.state.looks (put_slot w.state.queries s.0 (Some (opened_at w.state (line_of line s command (requests.Query ask)) ask)))
      (w.lines ++ line_of line s command (requests.Query ask) ∷ []) (w.turns ++ []))
  query_good line s command ask is next =
      subst (λ (ts : List Turn). Good opening store faults (world_of w.state.config w.state.base w.state.entries w.state.looks (put_slot w.state.queries s.0 new) (w.lines ++ l ∷ []) ts)) (sym (append-nil w.turns)) (record {
        more = g.more;
        prefix = g.prefix;
        begun = g.begun;
        most = g.most;
        legal = g.legal;
        marks = g.marks;
        named = g.named;
        right = g.right;
        still = g.still;
        disks = g.disks;
        looks_count = g.looks_count;
        queries_count = put_length w.state.queries s.0 new ∙ g.queries_count;
        seats = λ k. ⊎_elim (λ e. subst There e own) (λ ne. other k ne) (cases_eq s.0 k);
      })
    where
      l : Line
      l = line_of line s command (requests.Query ask)

      held : Opened
      held = opened_at w.state l ask

      new : Option Opened
      new = Some held

      There : ℕ → Type 0
      There k = Seat store w.state.config (length opening) w.state.entries k (of_session k w.turns) (lines_of_session k (w.lines ++ l ∷ [])) (slot w.state.looks k) (slot (put_slot w.state.queries s.0 new) k)

      there : slot (put_slot w.state.queries s.0 new) s.0 ≡ new
      there =
          let count : length w.state.queries ≡ 17 = g.queries_count in
          let place : s.0 < 17 = next.place in
          slot_put w.state.queries s.0 new (omega arith)

      own : There s.0
      own = subst (λ (q : Option Opened). Seat store w.state.config (length opening) w.state.entries s.0 (of_session s.0 w.turns) (lines_of_session s.0 (w.lines ++ l ∷ [])) (slot w.state.looks s.0) q) (sym there) (record {
        lines =
            filter_more (is_line_of s.0) w.lines l (eq-eqb s.0 s.0 refl)
            ∙ ap (λ (ls : List Line). ls ++ l ∷ []) (next_lines s.0 next.idle)
            ∙ ap (λ (k : Command). lines_in (of_session s.0 w.turns) ++ line_of line s k (requests.Query ask) ∷ []) is;
        falls = (g.seats s.0).falls;
        from = (g.seats s.0).from;
        low = (g.seats s.0).low;
        looks = (g.seats s.0).looks;
        held = (g.seats s.0).held;
        look_in = (g.seats s.0).look_in;
        undos = (g.seats s.0).undos;
        waits = ((g.seats s.0).low, omega arith, next_below line s.0 next);
      })

      other : (k : ℕ) → s.0 ≢ k → There k
      other k ne =
          subst (λ (ls : List Line). Seat store w.state.config (length opening) w.state.entries k (of_session k w.turns) ls (slot w.state.looks k) (slot (put_slot w.state.queries s.0 new) k)) (sym (filter_same (is_line_of k) w.lines l (ne_eqb s.0 k ne)))
          (subst (λ (q : Option Opened). Seat store w.state.config (length opening) w.state.entries k (of_session k w.turns) (lines_of_session k w.lines) (slot w.state.looks k) q) (sym (slot_other w.state.queries s.0 k new ne)) (g.seats k))

  -- nothing happens
  piece_good : Good opening store faults (world_of w.state.config w.state.base w.state.entries w.state.looks w.state.queries (w.lines ++ []) (w.turns ++ []))
  piece_good =
      subst (λ (ls : List Line). Good opening store faults (world_of w.state.config w.state.base w.state.entries w.state.looks w.state.queries ls (w.turns ++ []))) (sym (append-nil w.lines))
      (subst (λ (ts : List Turn). Good opening store faults (world_of w.state.config w.state.base w.state.entries w.state.looks w.state.queries w.lines ts)) (sym (append-nil w.turns)) g)

  -- The answers of open looks and of queries under way.

  -- the answer to a query is no failed disk
  not_disk : (held : Opened) → lacks_memory held.ask ≡ false → is_disk (answer_at w.state.config w.state.entries held.n held.ask) ≡ false
  not_disk held told =
      answers (λ answer. is_disk answer ≡ false) (database_after w.state.config (take held.n w.state.entries))
      (λ rows. refl) (λ fault. refl) (λ fault. refl) refl held.ask told

  look_answer_good : (line : ℕ) (s : SessionNo) → IsNext w line s.0 → (held : Opened) (short : Bool) → slot w.state.looks s.0 ≡ Some held → lacks_memory held.ask ≡ short
      → Good opening store faults (told w (finish_line line s ∷ []) (finish_line line s ∷ []) (look_answered w.state line s held short))
  look_answer_good line s next held true is read = no_memory_good (finish_line line s) next tt
  look_answer_good line s next held false is read =
      let within : IsIn (length opening) w.state.entries (Some held) = subst (λ (o : Option Opened). IsIn (length opening) w.state.entries o) is (g.seats s.0).look_in in
      let count : length w.state.looks ≡ 17 = g.looks_count in
      let place : s.0 < 17 = next.place in
      let there : slot (put_slot w.state.looks s.0 None) s.0 ≡ None = slot_put w.state.looks s.0 None (omega arith) in
      once faults (finish_line line s) w.state.entries (put_slot w.state.looks s.0 None) (Some held.n) (answer_at w.state.config w.state.entries held.n held.ask) [] next (record {
        grown = sym (append-nil w.state.entries);
        most = g.most;
        legal = g.legal;
        mark = refl;
        right = (within.0, within.1, tt);
        still = tt;
        disks = no_disk_more _ (not_disk held read);
        looks_count = put_length w.state.looks s.0 None ∙ g.looks_count;
        other_looks = λ k ne. slot_other w.state.looks s.0 k None ne;
        keeps = λ low high. tt;
        from = λ low above. above;
        to = λ low high. high;
        fits = subst (λ (o : Option Opened). FinishReplyFits w.state.config w.state.entries (option_map look_of o) (Some held.n) (answer_at w.state.config w.state.entries held.n held.ask)) (sym is) (refl, record { given = refl; is_told = read });
        opens = ap (λ (o : Option Opened). finish_behind (option_map look_of o) (Some held.n)) is ∙ sym (ap (λ (o : Option Opened). option_map look_of o) there);
        look_in = subst (λ (o : Option Opened). IsIn (length opening) w.state.entries o) (sym there) tt;
        undoes = tt;
      })

  finish_good : (line : ℕ) (s : SessionNo) → IsNext w line s.0 → (look : Option Opened) → slot w.state.looks s.0 ≡ look
      → Good opening store faults (told w (finish_line line s ∷ []) (finish_line line s ∷ []) (finish_step w.state line s look))
  finish_good line s next None is =
      same (finish_line line s) None (Refused refusals.NoLook) next refl tt tt refl
      (λ low high. tt) (λ low above. above) (λ low high. high)
      (subst (λ (o : Option Opened). FinishReplyFits w.state.config w.state.entries (option_map look_of o) None (Refused refusals.NoLook)) (sym is) (inl refl))
      refl tt
  finish_good line s next (Some held) is = look_answer_good line s next held (lacks_memory held.ask) is refl

  -- the reply to a query under way
  module _ (line : ℕ) (s : SessionNo) (held : Opened) (place : s.0 < 17) (is : slot w.state.queries s.0 ≡ Some held) (line_is : held.line ≡ line) where
    abbrev query_turn : Option ℕ → Answer → Turn
    query_turn n answer = record { line = query_line s held; reply = record { line = line; session = s; n = n; answer = answer } }

    waiting : IsWaiting (low_of (length opening) (of_session s.0 w.turns)) w.state.entries (of_session s.0 w.turns) (Some held)
    waiting = subst (λ (q : Option Opened). IsWaiting (low_of (length opening) (of_session s.0 w.turns)) w.state.entries (of_session s.0 w.turns) q) is (g.seats s.0).waits

    query_told : (n : Option ℕ) (answer : Answer)
        → IsRight w.state.config (length opening) w.state.entries store (query_line s held) n answer
        → is_disk answer ≡ false
        → KeepsUp (low_of (length opening) (of_session s.0 w.turns)) (requests.Query held.ask) n
        → length opening ≤ low_behind (low_of (length opening) (of_session s.0 w.turns)) (requests.Query held.ask) n
        → low_behind (low_of (length opening) (of_session s.0 w.turns)) (requests.Query held.ask) n ≤ length w.state.entries
        → Good opening store faults (world_of w.state.config w.state.base w.state.entries w.state.looks (put_slot w.state.queries s.0 None) (w.lines ++ []) (w.turns ++ query_turn n answer ∷ []))
    query_told n answer right no_disk keeps from to =
        let count : length w.state.queries ≡ 17 = g.queries_count in
        let there : slot (put_slot w.state.queries s.0 None) s.0 ≡ None = slot_put w.state.queries s.0 None (omega arith) in
        added opening store faults faults w w.state.entries w.state.looks (put_slot w.state.queries s.0 None) [] (query_turn n answer) [] g (record {
          grown = sym (append-nil w.state.entries);
          most = g.most;
          legal = g.legal;
          mark = refl;
          named = record { line = sym line_is; session = refl };
          right = right;
          still = tt;
          past = below_past (query_turn n answer) waiting.2;
          disks = no_disk_more answer no_disk;
          looks_count = g.looks_count;
          queries_count = put_length w.state.queries s.0 None ∙ g.queries_count;
          other_looks = λ k ne. refl;
          other_queries = λ k ne. slot_other w.state.queries s.0 k None ne;
          other_lines = λ k ne. ap (λ (ls : List Line). lines_of_session k ls) (append-nil w.lines);
          own = subst (λ (q : Option Opened). Seat store w.state.config (length opening) w.state.entries s.0 (of_session s.0 w.turns ++ query_turn n answer ∷ []) (lines_of_session s.0 (w.lines ++ [])) (slot w.state.looks s.0) q) (sym there)
              (seat_told store w.state.config (length opening) w.state.entries s.0 (of_session s.0 w.turns) (lines_of_session s.0 w.lines) (slot w.state.looks s.0) (slot w.state.queries s.0) (g.seats s.0)
              (query_turn n answer) (lines_of_session s.0 (w.lines ++ [])) (slot w.state.looks s.0) keeps from to tt refl (g.seats s.0).look_in tt
              (ap (λ (ls : List Line). lines_of_session s.0 ls) (append-nil w.lines) ∙ (g.seats s.0).lines ∙ ap (λ (q : Option Opened). lines_in (of_session s.0 w.turns) ++ query_answered s q) is));
        })

    way_done : (short : Bool) → lacks_memory held.ask ≡ short → Good opening store faults (told w [] (query_answered s (Some held)) (way_answered w.state line s held short))
    way_done true read = query_told None memory tt refl tt (g.seats s.0).from (g.seats s.0).low
    way_done false read =
        let from : length opening ≤ low_of (length opening) (of_session s.0 w.turns) = (g.seats s.0).from in
        let low : low_of (length opening) (of_session s.0 w.turns) ≤ held.n = waiting.0 in
        let high : held.n ≤ length w.state.entries = waiting.1 in
        query_told (Some held.n) (answer_at w.state.config w.state.entries held.n held.ask) (omega arith, high, record { given = refl; is_told = read }) (not_disk held read) low (omega arith) high

    query_done : Good opening store faults (told w [] (query_answered s (Some held)) (query_step w.state line s (Some held)))
    query_done = way_done (lacks_memory held.ask) refl

    query_failed : Good opening store faults (told w [] (query_answered s (Some held)) (query_fails w.state line s (Some held)))
    query_failed = query_told None memory tt refl tt (g.seats s.0).from (g.seats s.0).low

  query_case : (line : ℕ) (s : SessionNo) (held : Option Opened) → slot w.state.queries s.0 ≡ held → s.0 < 17 → IsUnderWay line held
      → Good opening store faults (told w [] (query_answered s held) (query_step w.state line s held)) × Good opening store faults (told w [] (query_answered s held) (query_fails w.state line s held))
  query_case line s None is place under = absurd under
  query_case line s (Some held) is place under = (query_done line s held place is under, query_failed line s held place is under)

  -- Events.

  -- one failure more where the disk failed
  abbrev faults_with : Trouble → ℕ
  faults_with trouble = faults + cond (is_disk_failed trouble) 1 0

  -- nothing failed more
  no_more : {v : World} → Good opening store faults v → Good opening store (faults + 0) v
  no_more {v = v} good = subst (λ (k : ℕ). Good opening store k v) (let none : faults ≡ faults + 0 = omega arith in none) good

  edit_event_good : (line : ℕ) (s : SessionNo) (command : Command) (r : Request) (trouble : Trouble) → EditFits w (line_of line s command r)
      → TroubleFits store w.state (events.Edit (line_of line s command r)) trouble
      → Good opening store (faults_with trouble) (told w (line_of line s command r ∷ []) (line_of line s command r ∷ []) (outcome_of w.state (events.Edit (line_of line s command r)) trouble))
  edit_event_good line s command (requests.Edit (Ok act)) no_memory fits may = no_more (no_memory_good (line_of line s command (requests.Edit (Ok act))) fits.next tt)
  edit_event_good line s command (requests.Edit (Ok act)) untroubled fits may =
      no_more (act_good (line_of line s command (requests.Edit (Ok act))) act fits.next (edit_wants line s command act))
  edit_event_good line s command (requests.Edit (Ok act)) store_full fits may =
      no_more (over_good (line_of line s command (requests.Edit (Ok act))) act fits.next (edit_wants line s command act) may)
  edit_event_good line s command (requests.Edit (Ok act)) disk_failed fits may =
      disk_good (line_of line s command (requests.Edit (Ok act))) act fits.next (edit_wants line s command act) may
  edit_event_good line s command (requests.Edit (Err fault)) no_memory fits may = no_more (no_memory_good (line_of line s command (requests.Edit (Err fault))) fits.next tt)
  edit_event_good line s command (requests.Edit (Err fault)) untroubled fits may =
      no_more (grid_good line s command fault fits.next (is_want_of_memory fault) refl)
  edit_event_good line s command (requests.Edit (Err fault)) store_full fits may = absurd may
  edit_event_good line s command (requests.Edit (Err fault)) disk_failed fits may = absurd may
  edit_event_good line s command (requests.Undo earlier) no_memory fits may = no_more (no_memory_good (line_of line s command (requests.Undo earlier)) fits.next tt)
  edit_event_good line s command (requests.Undo earlier) untroubled fits may = no_more (undo_good line s command earlier fits.next (taking_back w.state s.0 earlier) refl)
  edit_event_good line s command (requests.Undo earlier) store_full fits may = no_more (undo_over line s command earlier fits.next (taking_back w.state s.0 earlier) refl may)
  edit_event_good line s command (requests.Undo earlier) disk_failed fits may = undo_disk line s command earlier fits.next (taking_back w.state s.0 earlier) refl may
  edit_event_good line s command (requests.Query ask) trouble fits may = absurd (false≢true fits.kind)
  edit_event_good line s command (requests.Look ask) trouble fits may = absurd (false≢true fits.kind)
  edit_event_good line s command requests.Finish trouble fits may = absurd (false≢true fits.kind)
  edit_event_good line s command (requests.After earlier) trouble fits may = absurd (false≢true fits.kind)

  look_event_good : (line : ℕ) (s : SessionNo) (command : Command) (r : Request) (trouble : Trouble) → LookFits w (line_of line s command r)
      → TroubleFits store w.state (events.Look (line_of line s command r)) trouble
      → Good opening store (faults_with trouble) (told w (line_of line s command r ∷ []) (line_of line s command r ∷ []) (outcome_of w.state (events.Look (line_of line s command r)) trouble))
  look_event_good line s command (requests.Query ask) no_memory fits may = no_more (no_memory_good (line_of line s command (requests.Query ask)) fits.next tt)
  look_event_good line s command (requests.Query ask) untroubled fits may = no_more (query_good line s command ask (query_is command ask fits.command) fits.next)
  look_event_good line s command (requests.Look ask) no_memory fits may = no_more (no_memory_good (line_of line s command (requests.Look ask)) fits.next tt)
  look_event_good line s command (requests.Look ask) untroubled fits may = no_more (look_good line s command ask fits.next (slot w.state.looks s.0) refl)
  look_event_good line s command (requests.After earlier) no_memory fits may = no_more (no_memory_good (line_of line s command (requests.After earlier)) fits.next fits.answered)
  look_event_good line s command (requests.After earlier) untroubled fits may = no_more (after_good line s command earlier fits.next fits.answered)
  look_event_good line s command (requests.Edit given) trouble fits may = absurd (false≢true fits.kind)
  look_event_good line s command (requests.Undo earlier) trouble fits may = absurd (false≢true fits.kind)
  look_event_good line s command requests.Finish trouble fits may = absurd (false≢true fits.kind)
  look_event_good line s command r store_full fits may = absurd may
  look_event_good line s command r disk_failed fits may = absurd may

  -- a Finish, by what it answers
  asker_good : (line : ℕ) (s : SessionNo) (asker : Asker) → FinishFits w line s asker
      → Good opening store faults (told w (brought_by line s asker) (answered_by w.state line s asker) (finish_by w.state line s asker))
      × Good opening store faults (told w (brought_by line s asker) (answered_by w.state line s asker) (finish_fails_by w.state line s asker))
  asker_good line s by_look fits = (finish_good line s fits (slot w.state.looks s.0) refl, no_memory_good (finish_line line s) fits tt)
  asker_good line s by_query fits = query_case line s (slot w.state.queries s.0) refl fits.place fits.held
  asker_good line s by_none fits = absurd fits

  finish_event_good : (line : ℕ) (s : SessionNo) (command : Command) (trouble : Trouble) → Fits w (events.Finish line s command)
      → TroubleFits store w.state (events.Finish line s command) trouble
      → Good opening store (faults_with trouble) (told w (brought (events.Finish line s command)) (answered w.state (events.Finish line s command)) (outcome_of w.state (events.Finish line s command) trouble))
  finish_event_good line s command untroubled fits may = no_more (asker_good line s (asker_of command) fits).0
  finish_event_good line s command no_memory fits may = no_more (asker_good line s (asker_of command) fits).1
  finish_event_good line s command store_full fits may = absurd may
  finish_event_good line s command disk_failed fits may = absurd may

  piece_event_good : (s : SessionNo) (trouble : Trouble) → TroubleFits store w.state (events.Piece s) trouble
      → Good opening store (faults_with trouble) (told w [] [] (outcome_of w.state (events.Piece s) trouble))
  piece_event_good s untroubled may = no_more piece_good
  piece_event_good s no_memory may = no_more piece_good
  piece_event_good s store_full may = absurd may
  piece_event_good s disk_failed may = absurd may

  event_good : (e : Event) (trouble : Trouble) → Fits w e → TroubleFits store w.state e trouble
      → Good opening store (faults_with trouble) (told w (brought e) (answered w.state e) (outcome_of w.state e trouble))
  event_good (events.Edit l) trouble fits may = edit_event_good l.line l.session l.command l.request trouble fits may
  event_good (events.Look l) trouble fits may = look_event_good l.line l.session l.command l.request trouble fits may
  event_good (events.Piece s) trouble fits may = piece_event_good s trouble may
  event_good (events.Finish line s command) trouble fits may = finish_event_good line s command trouble fits may

  pub occurrence_good : (m : Occurrence) → OccurrenceFits store w m → Good opening store (faults_with m.trouble) (happens w m)
  occurrence_good m fits = event_good m.event m.trouble fits.event fits.trouble
