-- Every run of events that fit is a legal run.
use Rattle.std.proofs.Common.{◌≡◌, ◌≢◌, ℕ, ◌+◌, ◌<◌, ◌≤◌, Bool, true, false, cond, not, List, [], ◌∷◌, ◌++◌, length, map, filter, replicate, Option, Some, None, Result, Ok, Err, option_map, refl, sym, ◌∙◌, ap, subst, arith, rules, append_assoc, eqb-true, eq-eqb}
use Rattle.std.proofs.lemmas.Bool.{ne_eqb}
use Rattle.std.proofs.lemmas.List.{append-nil}
use Rattle.std.proofs.lemmas.List.Elements.{filter-append}
use Rattle.std.proofs.lemmas.List.Sums.{sum_by-cons}
use Rattle.emu_names.specs.declared.kinds.SessionNo.{SessionNo}
use Rattle.edit_undo.specs.edit_rules.declared.acts.Breach.{Breach}
use Rattle.db_config.specs.declared.parts.ConfigParts.{ConfigParts}
use Rattle.edit_undo.specs.edit_rules.Database.{DatabaseParts}
use Rattle.edit_undo.specs.edit_rules.declared.acts.Act.{Act}
use Rattle.edit_undo.specs.edit_rules.declared.acts.Entry.{Entry}
use Rattle.session_core.specs.declared.event.Event.{Event}
use Rattle.session_core.specs.declared.event.Event.TheVariants as events
use Rattle.session_core.specs.declared.line.Ask.{Ask}
use Rattle.session_core.specs.declared.line.Refusal.{Refusal}
use Rattle.session_core.specs.declared.line.Refusal.TheVariants as refusals
use Rattle.session_core.specs.declared.line.Request.{Request}
use Rattle.session_core.specs.declared.line.Request.TheVariants as requests
use Rattle.session_core.specs.declared.line.Line.{Line}
use Rattle.session_core.specs.declared.line.Reply.{Reply}
use Rattle.edit_undo.specs.edit_rules.Effects.{IsLegal, edited}
use Rattle.edit_undo.specs.declared.faults.NoUndo.{NoUndo}
use Rattle.session_core.specs.Queries.{lacks_memory}
use Rattle.session_core.specs.Steps.{Opened, State, start, slot, session_places, present, is_full, taking_back, edit_step, undo_step, edit_event, look_step, look_event, finish_step, look_answered, query_step, way_answered, Asker, by_look, by_query, by_none, asker_of, finish_by, core_step, query_fails, finish_fails_by, core_fails, option_list, steps}
use Rattle.session_core.specs.Worlds.{Turn, Trouble, untroubled, no_memory, store_full, disk_failed, is_disk_failed, Occurrence, World, edit_kept_out, outcome_of, query_line, finish_line, query_answered, answered_by, answered, turns_of, happens, run, opening_world, Each, AllFit, disk_failures, is_waiting, is_done, lines_done}
use Rattle.session_core.specs.Legal.{of_session, lines_of_session, is_of, is_line_of, lines_in, replies_in, with_number, HasSeenTurn, disk_replies, Legal}
use Rattle.emu_names.specs.declared.limits.TheConstants.{HISTORY_EDITS}
use Rattle.emu_names.specs.Count.{RoseBy}
use Rattle.session_core.specs.Laws.{IsLegalWorld, taken}
use Rattle.session_core.proofs.Turns.{each_map, each_kept, each_to_map, replies_more, low_of, HasSeenStill, still_seen}
use Rattle.session_core.proofs.Places.{slot_none}
use Rattle.session_core.proofs.Seats.{session_no, look_of, IsIn, IsWaiting, Seat, Good}
use Rattle.session_core.proofs.Events.{occurrence_good}

-- The beginning, and each run.

start_seat : (store : Bool) (c : ConfigParts) (opening : List Entry) (s : ℕ) → Seat store c (length opening) opening s [] [] (slot (start c opening).looks s) (slot (start c opening).queries s)
start_seat store c opening s =
    let none : slot (replicate {A = Option Opened} session_places None) s ≡ None = slot_none session_places s in
    record {
      lines = ap (λ (q : Option Opened). query_answered (session_no s) q) (sym none);
      falls = tt;
      from = omega arith;
      low = omega arith;
      looks = tt;
      held = ap (λ (o : Option Opened). option_map look_of o) (sym none);
      look_in = subst (λ (o : Option Opened). IsIn (length opening) opening o) (sym none) tt;
      undos = tt;
      waits = subst (λ (o : Option Opened). IsWaiting (length opening) opening [] o) (sym none) tt;
    }

start_good : (c : ConfigParts) (opening : List Entry) (store : Bool) → IsLegal c opening → length opening ≤ HISTORY_EDITS → Good opening store 0 (opening_world c opening)
start_good c opening store legal most = record {
  more = [];
  prefix = sym (append-nil opening);
  begun = refl;
  most = most;
  legal = legal;
  marks = refl;
  named = tt;
  right = tt;
  still = tt;
  disks = omega arith;
  looks_count = refl;
  queries_count = refl;
  seats = λ s. start_seat store c opening s;
}

run_good : (opening : List Entry) (store : Bool) (faults : ℕ) (w : World) (ms : List Occurrence) → Good opening store faults w → AllFit store w ms
    → Good opening store (faults + disk_failures ms) (run w ms)
run_good opening store faults w [] g fits = subst (λ (k : ℕ). Good opening store k w) (let none : faults ≡ faults + 0 = omega arith in none) g
run_good opening store faults w (m ∷ ms) g fits =
    let one : ℕ = cond (is_disk_failed m.trouble) 1 0 in
    let sum : disk_failures (m ∷ ms) ≡ one + disk_failures ms = sum_by-cons (λ (n : Occurrence). cond (is_disk_failed n.trouble) 1 0) m ms in
    let same : (faults + one) + disk_failures ms ≡ faults + disk_failures (m ∷ ms) = omega arith in
    subst (λ (k : ℕ). Good opening store k (run w (m ∷ ms))) same
    (run_good opening store (faults + one) (happens w m) ms (occurrence_good opening store faults w g m fits.0) fits.1)

-- The configuration stays.

edit_config : (st : State) (l : Line) (act : Act) (full : Bool) (made : Result DatabaseParts Breach) → (edit_step st l act full made).1.config ≡ st.config
edit_config st l act true made = refl
edit_config st l act false (Ok database) = refl
edit_config st l act false (Err breach) = refl

undo_config : (st : State) (l : Line) (inverse : Option (Result Act NoUndo)) → (undo_step st l inverse).1.config ≡ st.config
undo_config st l None = refl
undo_config st l (Some (Err fault)) = refl
undo_config st l (Some (Ok act)) = edit_config st l act (is_full st.entries) (edited st.config st.entries act)

edit_event_config : (st : State) (l : Line) (r : Request) → (edit_event st l r).1.config ≡ st.config
edit_event_config st l (requests.Edit (Ok act)) = edit_config st l act (is_full st.entries) (edited st.config st.entries act)
edit_event_config st l (requests.Edit (Err fault)) = refl
edit_event_config st l (requests.Undo earlier) = undo_config st l (taking_back st l.session.0 earlier)
edit_event_config st l (requests.Query ask) = refl
edit_event_config st l (requests.Look ask) = refl
edit_event_config st l requests.Finish = refl
edit_event_config st l (requests.After earlier) = refl

look_config : (st : State) (l : Line) (ask : Ask) (look : Option Opened) → (look_step st l ask look).1.config ≡ st.config
look_config st l ask None = refl
look_config st l ask (Some held) = refl

look_event_config : (st : State) (l : Line) (r : Request) → (look_event st l r).1.config ≡ st.config
look_event_config st l (requests.Look ask) = look_config st l ask (slot st.looks l.session.0)
look_event_config st l (requests.Query ask) = refl
look_event_config st l (requests.After earlier) = refl
look_event_config st l (requests.Edit given) = refl
look_event_config st l (requests.Undo earlier) = refl
look_event_config st l requests.Finish = refl

told_config : (st : State) (line : ℕ) (s : SessionNo) (held : Opened) (short : Bool) → (look_answered st line s held short).1.config ≡ st.config
told_config st line s held true = refl
told_config st line s held false = refl

way_config : (st : State) (line : ℕ) (s : SessionNo) (held : Opened) (short : Bool) → (way_answered st line s held short).1.config ≡ st.config
way_config st line s held true = refl
way_config st line s held false = refl

finish_config : (st : State) (line : ℕ) (s : SessionNo) (look : Option Opened) → (finish_step st line s look).1.config ≡ st.config
finish_config st line s None = refl
finish_config st line s (Some held) = told_config st line s held (lacks_memory held.ask)

query_config : (st : State) (line : ℕ) (s : SessionNo) (held : Option Opened) → (query_step st line s held).1.config ≡ st.config
query_config st line s None = refl
query_config st line s (Some held) = way_config st line s held (lacks_memory held.ask)

fails_config : (st : State) (line : ℕ) (s : SessionNo) (held : Option Opened) → (query_fails st line s held).1.config ≡ st.config
fails_config st line s None = refl
fails_config st line s (Some held) = refl

finish_by_config : (st : State) (line : ℕ) (s : SessionNo) (asker : Asker) → (finish_by st line s asker).1.config ≡ st.config
finish_by_config st line s by_look = finish_config st line s (slot st.looks s.0)
finish_by_config st line s by_query = query_config st line s (slot st.queries s.0)
finish_by_config st line s by_none = refl

finish_fails_config : (st : State) (line : ℕ) (s : SessionNo) (asker : Asker) → (finish_fails_by st line s asker).1.config ≡ st.config
finish_fails_config st line s by_look = refl
finish_fails_config st line s by_query = fails_config st line s (slot st.queries s.0)
finish_fails_config st line s by_none = refl

step_config : (st : State) (e : Event) → (core_step st e).1.config ≡ st.config
step_config st (events.Edit l) = edit_event_config st l l.request
step_config st (events.Look l) = look_event_config st l l.request
step_config st (events.Piece s) = refl
step_config st (events.Finish line s command) = finish_by_config st line s (asker_of command)

step_fails_config : (st : State) (e : Event) → (core_fails st e).1.config ≡ st.config
step_fails_config st (events.Edit l) = refl
step_fails_config st (events.Look l) = refl
step_fails_config st (events.Piece s) = refl
step_fails_config st (events.Finish line s command) = finish_fails_config st line s (asker_of command)

kept_out_config : (st : State) (e : Event) (n : Option ℕ) (refusal : Refusal) → (edit_kept_out st e n refusal).1.config ≡ st.config
kept_out_config st (events.Edit l) n refusal = refl
kept_out_config st (events.Look l) n refusal = refl
kept_out_config st (events.Piece s) n refusal = refl
kept_out_config st (events.Finish line s command) n refusal = refl

outcome_config : (st : State) (e : Event) (trouble : Trouble) → (outcome_of st e trouble).1.config ≡ st.config
outcome_config st e untroubled = step_config st e
outcome_config st e no_memory = step_fails_config st e
outcome_config st e store_full = kept_out_config st e (Some (present st)) refusals.StoreFull
outcome_config st e disk_failed = kept_out_config st e None refusals.Disk

run_config : (w : World) (ms : List Occurrence) → (run w ms).state.config ≡ w.state.config
run_config w [] = refl
run_config w (m ∷ ms) = run_config (happens w m) ms ∙ outcome_config w.state m.event m.trouble

-- The script: the lines that came and are answered.

filter_cond : {A : Type 0} (test : A → Bool) (b : Bool) (x : A) (xs : List A) → filter test (cond b (x ∷ xs) xs) ≡ cond b (filter test (x ∷ xs)) (filter test xs)
filter_cond test true x xs = refl
filter_cond test false x xs = refl

cond_swap : {A : Type 0} (a b : Bool) (x : A) (xs : List A) → cond a (cond b (x ∷ xs) xs) xs ≡ cond b (cond a (x ∷ xs) xs) xs
cond_swap true true x xs = refl
cond_swap true false x xs = refl
cond_swap false true x xs = refl
cond_swap false false x xs = refl

filter_swap : {A : Type 0} (p q : A → Bool) (xs : List A) → filter p (filter q xs) ≡ filter q (filter p xs)
filter_swap p q [] = refl
filter_swap p q (x ∷ xs) =
    filter_cond p (q x) x (filter q xs)
    ∙ cond_swap (q x) (p x) x (filter p (filter q xs))
    ∙ ap (λ ys. cond (p x) (cond (q x) (x ∷ ys) ys) ys) (filter_swap p q xs)
    ∙ sym (filter_cond q (p x) x (filter p xs))

pub filter_all : {A : Type 0} (test : A → Bool) (xs : List A) → Each (λ x. test x ≡ true) xs → filter test xs ≡ xs
filter_all test [] each = refl
filter_all test (x ∷ xs) each = ap (λ b. cond b (x ∷ filter test xs) (filter test xs)) each.0 ∙ ap (λ ys. x ∷ ys) (filter_all test xs each.1)

each_both : {A : Type 0} (P Q : A → Type 0) (xs : List A) → Each P xs → Each Q xs → Each (λ x. P x × Q x) xs
each_both P Q [] ps qs = tt
each_both P Q (x ∷ xs) ps qs = ((ps.0, qs.0), each_both P Q xs ps.1 qs.1)

each_any : {A : Type 0} (P : A → Type 0) → ((x : A) → P x) → (xs : List A) → Each P xs
each_any P f [] = tt
each_any P f (x ∷ xs) = (f x, each_any P f xs)

module _ (opening : List Entry) (store : Bool) (faults : ℕ) (w : World) (g : Good opening store faults w) (s : ℕ) where
  is_own : Each (λ t. is_of s t ≡ true) (of_session s w.turns)
  is_own = each_kept (λ t. is_of s t ≡ true) (is_of s) w.turns (each_any (λ t. is_of s t ≡ true → is_of s t ≡ true) (λ t own. own) w.turns)

  own_done : (held : Option Opened) → slot w.state.queries s ≡ held → (t : Turn) → is_of s t ≡ true → is_waiting t.line held ≡ false → is_done w.state t.line ≡ true
  own_done held is t own waits =
      ap (λ (k : ℕ). not (is_waiting t.line (slot w.state.queries k))) (eqb-true t.line.session.0 s own)
      ∙ ap (λ (o : Option Opened). not (is_waiting t.line o)) is
      ∙ ap not waits

  all_done : (held : Option Opened) → slot w.state.queries s ≡ held → Each (λ t. is_waiting t.line held ≡ false) (of_session s w.turns) → filter (is_done w.state) (lines_in (of_session s w.turns)) ≡ lines_in (of_session s w.turns)
  all_done held is waits =
      filter_all (is_done w.state) (lines_in (of_session s w.turns))
      (each_to_map (λ l. is_done w.state l ≡ true) (λ (t : Turn). t.line) (of_session s w.turns)
      (each_map (λ t. (is_of s t ≡ true) × (is_waiting t.line held ≡ false)) (λ t. is_done w.state t.line ≡ true) (λ t both. own_done held is t both.0 both.1) (of_session s w.turns)
      (each_both (λ t. is_of s t ≡ true) (λ t. is_waiting t.line held ≡ false) (of_session s w.turns) is_own waits)))

  pending_undone : (held : Opened) → slot w.state.queries s ≡ Some held → is_done w.state (query_line (session_no s) held) ≡ false
  pending_undone held is =
      ap (λ (o : Option Opened). not (is_waiting (query_line (session_no s) held) o)) is
      ∙ ap not (eq-eqb held.line held.line refl)

  done_lines : (held : Option Opened) → slot w.state.queries s ≡ held → IsWaiting (low_of (length opening) (of_session s w.turns)) w.state.entries (of_session s w.turns) held
      → filter (is_done w.state) (lines_in (of_session s w.turns) ++ query_answered (session_no s) held) ≡ lines_in (of_session s w.turns)
  done_lines None is waits =
      ap (λ (ls : List Line). filter (is_done w.state) ls) (append-nil (lines_in (of_session s w.turns)))
      ∙ all_done None is (each_any (λ t. is_waiting t.line None ≡ false) (λ t. refl) (of_session s w.turns))
  done_lines (Some held) is waits =
      filter-append (is_done w.state) (lines_in (of_session s w.turns)) (query_line (session_no s) held ∷ [])
      ∙ ap (λ b. filter (is_done w.state) (lines_in (of_session s w.turns)) ++ cond b (query_line (session_no s) held ∷ []) []) (pending_undone held is)
      ∙ append-nil (filter (is_done w.state) (lines_in (of_session s w.turns)))
      ∙ all_done (Some held) is
      (each_map (λ t. t.line.line < held.line) (λ t. is_waiting t.line (Some held) ≡ false)
      (λ t below. let apart : held.line ≢ t.line.line = omega arith in ne_eqb held.line t.line.line apart) (of_session s w.turns) waits.2)

  script_in_order : lines_in (of_session s w.turns) ≡ lines_of_session s (lines_done w)
  script_in_order = sym (
      filter_swap (is_line_of s) (is_done w.state) w.lines
      ∙ ap (λ (ls : List Line). filter (is_done w.state) ls) (g.seats s).lines
      ∙ done_lines (slot w.state.queries s) refl (g.seats s).waits)

-- What is kept makes a run legal.

-- a legal run whose turns are those of the world
abbrev pub HasTurns : ConfigParts → List Entry → World → Bool → ℕ → ℕ → Type 0
HasTurns c opening w store before now = (legal_run : IsLegalWorld c opening w store before now) × (legal_run.turns ≡ w.turns)

fewer_rise : (j k before now : ℕ) → j ≤ k → RoseBy k before now → RoseBy j before now
fewer_rise j k before now fewer rose = search rules

good_legal : (opening : List Entry) (store : Bool) (faults before now : ℕ) (w : World) → Good opening store faults w → RoseBy faults before now
    → HasTurns w.state.config opening w store before now
good_legal opening store faults before now w g rose = (
  record {
    more = g.more;
    prefix = g.prefix;
    legal = g.legal;
    turns = w.turns;
    replied = refl;
    sessions = λ s. record {
      in_order = script_in_order opening store faults w g s;
      never_falls = (g.seats s).falls;
      looks = (g.seats s).looks;
      undos = (g.seats s).undos;
    };
    whole = record {
      named = g.named;
      one_entry = λ n. ap (λ ms. with_number n ms) g.marks;
      right = g.right;
      seen_there = each_map (λ t. HasSeenStill (length opening) w.turns t.line.request t.reply.n) (HasSeenTurn (length opening) w.turns)
          (λ t still. still_seen (length opening) w.turns t.line.request t.reply.n still) w.turns g.still;
      disk = fewer_rise (disk_replies (replies_in w.turns)) faults before now g.disks rose;
    };
  },
  refl,
)

module _ (c : ConfigParts) (opening : List Entry) (ms : List Occurrence) (store : Bool) (before now : ℕ) where
  pub run_legal_turns : IsLegal c opening → length opening ≤ HISTORY_EDITS → AllFit store (opening_world c opening) ms → RoseBy (disk_failures ms) before now
      → HasTurns c opening (run (opening_world c opening) ms) store before now
  run_legal_turns legal most fits rose =
      subst (λ (k : ConfigParts). HasTurns k opening (run (opening_world c opening) ms) store before now) (run_config (opening_world c opening) ms)
      (good_legal opening store (0 + disk_failures ms) before now (run (opening_world c opening) ms)
      (run_good opening store 0 (opening_world c opening) ms (start_good c opening store legal most) fits)
      (fewer_rise (0 + disk_failures ms) (disk_failures ms) before now (omega arith) rose))

  pub run_legal : IsLegal c opening → length opening ≤ HISTORY_EDITS → AllFit store (opening_world c opening) ms → RoseBy (disk_failures ms) before now
      → IsLegalWorld c opening (run (opening_world c opening) ms) store before now
  run_legal legal most fits rose = (run_legal_turns legal most fits rose).0

-- Runs in which memory does not run out are those of the core.

one_reply : (l : Line) (reply : Option Reply) → replies_in (turns_of (l ∷ []) reply) ≡ option_list reply
one_reply l None = refl
one_reply l (Some reply) = refl

way_reply : (st : State) (line : ℕ) (s : SessionNo) (held : Opened) (short : Bool) → replies_in (turns_of (query_answered s (Some held)) (way_answered st line s held short).0) ≡ option_list (way_answered st line s held short).0
way_reply st line s held true = refl
way_reply st line s held false = refl

query_reply : (st : State) (line : ℕ) (s : SessionNo) (held : Option Opened) → replies_in (turns_of (query_answered s held) (query_step st line s held).0) ≡ option_list (query_step st line s held).0
query_reply st line s None = refl
query_reply st line s (Some held) = way_reply st line s held (lacks_memory held.ask)

finish_reply : (st : State) (line : ℕ) (s : SessionNo) (asker : Asker)
    → replies_in (turns_of (answered_by st line s asker) (finish_by st line s asker).0) ≡ option_list (finish_by st line s asker).0
finish_reply st line s by_look = one_reply (finish_line line s) (finish_step st line s (slot st.looks s.0)).0
finish_reply st line s by_query = query_reply st line s (slot st.queries s.0)
finish_reply st line s by_none = refl

step_reply : (st : State) (e : Event) → replies_in (turns_of (answered st e) (core_step st e).0) ≡ option_list (core_step st e).0
step_reply st (events.Edit l) = one_reply l (edit_event st l l.request).0
step_reply st (events.Look l) = one_reply l (look_event st l l.request).0
step_reply st (events.Piece s) = refl
step_reply st (events.Finish line s command) = finish_reply st line s (asker_of command)

run_replies : (w : World) (es : List Event) → replies_in (run w (map taken es)).turns ≡ replies_in w.turns ++ (steps w.state es).0
run_replies w [] = sym (append-nil (replies_in w.turns))
run_replies w (e ∷ es) =
    run_replies (happens w (taken e)) es
    ∙ ap (λ (rs : List Reply). rs ++ (steps (core_step w.state e).1 es).0)
    (replies_more w.turns (turns_of (answered w.state e) (core_step w.state e).0) ∙ ap (λ (rs : List Reply). replies_in w.turns ++ rs) (step_reply w.state e))
    ∙ append_assoc (replies_in w.turns) (option_list (core_step w.state e).0) (steps (core_step w.state e).1 es).0

run_state : (w : World) (es : List Event) → (run w (map taken es)).state ≡ (steps w.state es).1
run_state w [] = refl
run_state w (e ∷ es) = run_state (happens w (taken e)) es

-- where every event takes its step, no disk fails
none_failed : (es : List Event) → disk_failures (map taken es) ≡ 0
none_failed [] = refl
none_failed (e ∷ es) = sum_by-cons (λ (n : Occurrence). cond (is_disk_failed n.trouble) 1 0) (taken e) (map taken es) ∙ ap (λ (k : ℕ). 0 + k) (none_failed es)

none_rise : (k : ℕ) → k ≡ 0 → RoseBy k 0 0
none_rise k none = omega arith

pub core_run_legal : (c : ConfigParts) (opening : List Entry) (es : List Event) → IsLegal c opening → length opening ≤ HISTORY_EDITS → AllFit false (opening_world c opening) (map taken es)
    → Legal c opening (lines_done (run (opening_world c opening) (map taken es))) (steps (start c opening) es).0 (steps (start c opening) es).1.entries false 0 0
core_run_legal c opening es legal most fits =
    let last : World = run (opening_world c opening) (map taken es) in
    subst (λ (rs : List Reply). Legal c opening (lines_done (run (opening_world c opening) (map taken es))) rs (steps (start c opening) es).1.entries false 0 0) (run_replies (opening_world c opening) es)
    (subst (λ (st : State). Legal c opening (lines_done (run (opening_world c opening) (map taken es))) (replies_in (run (opening_world c opening) (map taken es)).turns) st.entries false 0 0) (run_state (opening_world c opening) es)
    (run_legal c opening (map taken es) false 0 0 legal most fits (none_rise (disk_failures (map taken es)) (none_failed es))))
