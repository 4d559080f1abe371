-- A run in order is a run of events that fit: each line's events come one after another.
use Rattle.std.proofs.Common.{◌≡◌, ◌≢◌, ⊎_elim, ℕ, suc, ◌+◌, ◌<◌, ◌≤◌, Bool, true, false, cond, ◌&&◌, ◌||◌, not, List, [], ◌∷◌, ◌++◌, length, map, Option, Some, None, Result, Ok, Err, nat_eq, refl, sym, ◌∙◌, ap, subst, arith, rules, append_assoc}
use Rattle.std.proofs.lemmas.Bool.{cases_eq}
use Rattle.std.proofs.lemmas.List.{append-nil}
use Rattle.std.proofs.lemmas.List.Sums.{sum_by-cons}
use Rattle.std.specs.List.{list_any}
use Rattle.emu_names.specs.declared.kinds.SessionNo.{SessionNo}
use Rattle.edit_undo.specs.edit_rules.declared.acts.Breach.{Breach}
use Rattle.db_config.specs.declared.parts.ConfigParts.{ConfigParts}
use Rattle.textgrid.specs.declared.fault.GridFault.{GridFault}
use Rattle.edit_undo.specs.edit_rules.Database.{DatabaseParts}
use Rattle.edit_undo.specs.edit_rules.declared.acts.Act.{Act}
use Rattle.edit_undo.specs.edit_rules.declared.acts.Entry.{Entry}
use Rattle.session_core.specs.declared.event.Event.{Event}
use Rattle.session_core.specs.declared.event.Event.TheVariants as events
use Rattle.session_core.specs.declared.line.Ask.{Ask}
use Rattle.session_core.specs.declared.line.Command.{Command}
use Rattle.session_core.specs.declared.line.Command.TheVariants as commands
use Rattle.session_core.specs.declared.line.Request.{Request}
use Rattle.session_core.specs.declared.line.Request.TheVariants as requests
use Rattle.session_core.specs.declared.line.Line.{Line}
use Rattle.session_core.specs.declared.line.Reply.{Reply}
use Rattle.edit_undo.specs.edit_rules.Effects.{IsLegal, edited}
use Rattle.session_core.specs.Queries.{lacks_memory}
use Rattle.session_core.specs.Steps.{Opened, State, slot, put_slot, session_places, start, is_full, taking_back, opened_at, act_event, edit_event, undo_step, edit_step, look_step, finish_step, look_answered, query_step, way_answered, query_fails}
use Rattle.session_core.specs.Worlds.{Turn, Trouble, untroubled, no_memory, store_full, disk_failed, is_disk_failed, Occurrence, World, query_line, query_answered, turns_of, happens, run, opening_world, Each, IsBehind, IsNext, RequestFits, NamesChange, is_edit, act_back, act_wanted, StoreRefusesAct, DiskMayRefuseAct, passes_store, TroubleFits, OccurrenceFits, AllFit, disk_failures, Fits, is_waiting, is_done, lines_done}
use Rattle.session_core.specs.Legal.{lines_in, replies_in, Legal}
use Rattle.session_core.specs.InOrder.{Outage, fine, at_first, at_last, disk_fails, is_disk_outage, disk_outages, given, replied, query_begun, stored_trouble, made_trouble, edit_trouble, trouble_at, edit_outcome, edit_turn, undo_turn, unless_outage, request_turn, one_turn, in_turn, NamesEarlier, IsBelow, ComesNext, ComeInOrder}
use Rattle.session_core.specs.Answers.{entry_of, memory, reply_to}
use Rattle.session_core.specs.Undos.{undo_refusal}
use Rattle.session_core.specs.declared.line.Answer.TheVariants.{Refused}
use Rattle.session_core.specs.declared.line.Refusal.{Refusal}
use Rattle.session_core.specs.declared.line.Refusal.TheVariants as refusals
use Rattle.edit_undo.specs.declared.faults.NoUndo.{NoUndo}
use Rattle.emu_names.specs.declared.limits.TheConstants.{HISTORY_EDITS}
use Rattle.emu_names.specs.Count.{RoseBy}
use Rattle.session_core.specs.Readings.{IsInOrder}
use Rattle.session_core.proofs.OfCommand.{query_is, finish_is}
use Rattle.session_core.proofs.Turns.{each_map, lines_push}
use Rattle.session_core.proofs.Places.{slot_put, slot_other, put_length, slot_none}
use Rattle.session_core.proofs.Runs.{filter_all, HasTurns, run_legal_turns}
use Rattle.session_core.proofs.Standing.{turn_to, turns_in_turn, replies_told, lines_told, numbers_told}

-- The events of a line.

-- want of memory, as the trouble of an event
abbrev memory_at : Outage → Trouble
memory_at fine = untroubled
memory_at at_first = no_memory
memory_at at_last = no_memory
memory_at disk_fails = untroubled

abbrev moment : Event → Trouble → Occurrence
moment e trouble = record { event = e; trouble = trouble }

abbrev query_moments : Line → Outage → List Occurrence
query_moments l fine = moment (events.Look l) untroubled ∷ moment (events.Finish l.line l.session commands.Query) untroubled ∷ []
query_moments l at_first = moment (events.Look l) no_memory ∷ []
query_moments l at_last = moment (events.Look l) untroubled ∷ moment (events.Finish l.line l.session commands.Query) no_memory ∷ []
query_moments l disk_fails = moment (events.Look l) untroubled ∷ moment (events.Finish l.line l.session commands.Query) untroubled ∷ []

-- the trouble of an `undo`, by what takes its line back
abbrev undo_trouble : Bool → State → Line → Option (Result Act NoUndo) → Outage → Trouble
undo_trouble store st l None outage = memory_at outage
undo_trouble store st l (Some (Err fault)) outage = memory_at outage
undo_trouble store st l (Some (Ok act)) outage = trouble_at store st l act outage

abbrev request_moments : Bool → State → Line → Request → Outage → List Occurrence
request_moments store st l (requests.Edit (Ok act)) outage = moment (events.Edit l) (trouble_at store st l act outage) ∷ []
request_moments store st l (requests.Edit (Err fault)) outage = moment (events.Edit l) (memory_at outage) ∷ []
request_moments store st l (requests.Undo earlier) outage =
    moment (events.Edit l) (undo_trouble store st l (taking_back st l.session.0 earlier) outage) ∷ []
request_moments store st l (requests.Query ask) outage = query_moments l outage
request_moments store st l (requests.Look ask) outage = moment (events.Look l) (memory_at outage) ∷ []
request_moments store st l requests.Finish outage = moment (events.Finish l.line l.session commands.Finish) (memory_at outage) ∷ []
request_moments store st l (requests.After earlier) outage = moment (events.Look l) (memory_at outage) ∷ []

abbrev moments_in_turn : Bool → State → List Line → List Outage → List Occurrence
moments_in_turn store st [] outages = []
moments_in_turn store st (l ∷ ls) [] = []
moments_in_turn store st (l ∷ ls) (outage ∷ outages) =
    request_moments store st l l.request outage ++ moments_in_turn store (one_turn store st l outage).1 ls outages

-- The disk fails no more often than the outages say.

failures_cons : (m : Occurrence) (ms : List Occurrence) → disk_failures (m ∷ ms) ≡ cond (is_disk_failed m.trouble) 1 0 + disk_failures ms
failures_cons m ms = sum_by-cons (λ (n : Occurrence). cond (is_disk_failed n.trouble) 1 0) m ms

failures_more : (ms ns : List Occurrence) → disk_failures (ms ++ ns) ≡ disk_failures ms + disk_failures ns
failures_more [] ns = let none : disk_failures ns ≡ 0 + disk_failures ns = omega arith in none
failures_more (m ∷ ms) ns =
    let long : disk_failures (m ∷ (ms ++ ns)) ≡ cond (is_disk_failed m.trouble) 1 0 + disk_failures (ms ++ ns) = failures_cons m (ms ++ ns) in
    let short : disk_failures (m ∷ ms) ≡ cond (is_disk_failed m.trouble) 1 0 + disk_failures ms = failures_cons m ms in
    let rest : disk_failures (ms ++ ns) ≡ disk_failures ms + disk_failures ns = failures_more ms ns in
    omega arith

-- no disk fails where none is said to fail
stored_sound : (passes : Bool) → is_disk_failed (stored_trouble passes false) ≡ false
stored_sound true = refl
stored_sound false = refl

made_sound : (st : State) (l : Line) (act : Act) (full : Bool) (made : Result DatabaseParts Breach) → is_disk_failed (made_trouble st l act false full made) ≡ false
made_sound st l act true made = refl
made_sound st l act false (Err breach) = refl
made_sound st l act false (Ok database) = stored_sound (passes_store st.config st.entries (entry_of l act))

edit_sound : (store : Bool) (st : State) (l : Line) (act : Act) → is_disk_failed (edit_trouble store st l act false) ≡ false
edit_sound false st l act = refl
edit_sound true st l act = made_sound st l act (is_full st.entries) (edited st.config st.entries act)

low_false : (b : Bool) (most : ℕ) → b ≡ false → cond b 1 0 ≤ most
low_false b most is = subst (λ (x : Bool). cond x 1 0 ≤ most) (sym is) (omega arith)

bit_low : (b : Bool) → cond b 1 0 ≤ 1
bit_low true = omega arith
bit_low false = omega arith

-- how often the disk fails at a line at most
abbrev failures_at : Bool → Outage → ℕ
failures_at store outage = cond (store && is_disk_outage outage) 1 0

edit_failures : (store : Bool) (st : State) (l : Line) (act : Act) (outage : Outage) → cond (is_disk_failed (trouble_at store st l act outage)) 1 0 ≤ failures_at store outage
edit_failures store st l act fine = low_false (is_disk_failed (edit_trouble store st l act false)) (failures_at store fine) (edit_sound store st l act)
edit_failures store st l act at_first = omega arith
edit_failures store st l act at_last = omega arith
edit_failures false st l act disk_fails = omega arith
edit_failures true st l act disk_fails = bit_low (is_disk_failed (edit_trouble true st l act true))

memory_failures : (most : ℕ) (outage : Outage) → cond (is_disk_failed (memory_at outage)) 1 0 ≤ most
memory_failures most fine = omega arith
memory_failures most at_first = omega arith
memory_failures most at_last = omega arith
memory_failures most disk_fails = omega arith

undo_failures : (store : Bool) (st : State) (l : Line) (inverse : Option (Result Act NoUndo)) (outage : Outage) → cond (is_disk_failed (undo_trouble store st l inverse outage)) 1 0 ≤ failures_at store outage
undo_failures store st l None outage = memory_failures (failures_at store outage) outage
undo_failures store st l (Some (Err fault)) outage = memory_failures (failures_at store outage) outage
undo_failures store st l (Some (Ok act)) outage = edit_failures store st l act outage

one_failures : (m : Occurrence) (most : ℕ) → cond (is_disk_failed m.trouble) 1 0 ≤ most → disk_failures (m ∷ []) ≤ most
one_failures m most low =
    let one : disk_failures (m ∷ []) ≡ cond (is_disk_failed m.trouble) 1 0 + 0 = failures_cons m [] in
    omega arith

query_failures : (most : ℕ) (l : Line) (outage : Outage) → disk_failures (query_moments l outage) ≤ most
query_failures most l fine = omega arith
query_failures most l at_first = omega arith
query_failures most l at_last = omega arith
query_failures most l disk_fails = omega arith

line_failures : (store : Bool) (st : State) (l : Line) (request : Request) (outage : Outage) → disk_failures (request_moments store st l request outage) ≤ failures_at store outage
line_failures store st l (requests.Edit (Err fault)) outage =
    one_failures (moment (events.Edit l) (memory_at outage)) (failures_at store outage) (memory_failures (failures_at store outage) outage)
line_failures store st l (requests.Edit (Ok act)) outage =
    one_failures (moment (events.Edit l) (trouble_at store st l act outage)) (failures_at store outage) (edit_failures store st l act outage)
line_failures store st l (requests.Undo earlier) outage =
    one_failures (moment (events.Edit l) (undo_trouble store st l (taking_back st l.session.0 earlier) outage)) (failures_at store outage)
    (undo_failures store st l (taking_back st l.session.0 earlier) outage)
line_failures store st l (requests.Query ask) outage = query_failures (failures_at store outage) l outage
line_failures store st l (requests.Look ask) outage =
    one_failures (moment (events.Look l) (memory_at outage)) (failures_at store outage) (memory_failures (failures_at store outage) outage)
line_failures store st l requests.Finish outage =
    one_failures (moment (events.Finish l.line l.session commands.Finish) (memory_at outage)) (failures_at store outage) (memory_failures (failures_at store outage) outage)
line_failures store st l (requests.After earlier) outage =
    one_failures (moment (events.Look l) (memory_at outage)) (failures_at store outage) (memory_failures (failures_at store outage) outage)

outages_cons : (store : Bool) (outage : Outage) (outages : List Outage) → disk_outages store (outage ∷ outages) ≡ failures_at store outage + disk_outages store outages
outages_cons store outage outages = sum_by-cons (λ (o : Outage). cond (store && is_disk_outage o) 1 0) outage outages

-- without a store the disk fails at no line
pub none_out : (outages : List Outage) → disk_outages false outages ≡ 0
none_out [] = refl
none_out (outage ∷ outages) = outages_cons false outage outages ∙ ap (λ (k : ℕ). 0 + k) (none_out outages)

pub none_rise : (k : ℕ) → k ≡ 0 → RoseBy k 0 0
none_rise k none = omega arith

all_failures : (store : Bool) (st : State) (ls : List Line) (outages : List Outage) → disk_failures (moments_in_turn store st ls outages) ≤ disk_outages store outages
all_failures store st [] outages = omega arith
all_failures store st (l ∷ ls) [] = omega arith
all_failures store st (l ∷ ls) (outage ∷ outages) =
    let here : disk_failures (request_moments store st l l.request outage) ≤ failures_at store outage = line_failures store st l l.request outage in
    let rest : disk_failures (moments_in_turn store (one_turn store st l outage).1 ls outages) ≤ disk_outages store outages = all_failures store (one_turn store st l outage).1 ls outages in
    let both : disk_failures (request_moments store st l l.request outage ++ moments_in_turn store (one_turn store st l outage).1 ls outages)
    ≡ disk_failures (request_moments store st l l.request outage) + disk_failures (moments_in_turn store (one_turn store st l outage).1 ls outages) =
    failures_more (request_moments store st l l.request outage) (moments_in_turn store (one_turn store st l outage).1 ls outages) in
    let sum : disk_outages store (outage ∷ outages) ≡ failures_at store outage + disk_outages store outages = outages_cons store outage outages in
    omega arith

-- Runs of one list of events after another.

run_more : (w : World) (ms ns : List Occurrence) → run w (ms ++ ns) ≡ run (run w ms) ns
run_more w [] ns = refl
run_more w (m ∷ ms) ns = run_more (happens w m) ms ns

fit_more : (store : Bool) (w : World) (ms ns : List Occurrence) → AllFit store w ms → AllFit store (run w ms) ns → AllFit store w (ms ++ ns)
fit_more store w [] ns fits more = more
fit_more store w (m ∷ ms) ns fits more = (fits.0, fit_more store (happens w m) ms ns fits.1 more)

-- Between two lines every line that came is answered, and no query is under way.

record Between (before : List Line) (w : World) : Type 0 where
  came : w.lines ≡ before
  told : lines_in w.turns ≡ before
  count : length w.state.queries ≡ session_places
  idle : (s : ℕ) → slot w.state.queries s ≡ None

-- What a line's events make of a world.

record Answers (store : Bool) (w : World) (l : Line) (ms : List Occurrence) (out : Reply × State) : Type 0 where
  fits : AllFit store w ms
  state : (run w ms).state ≡ out.1
  lines : (run w ms).lines ≡ w.lines ++ l ∷ []
  turns : (run w ms).turns ≡ w.turns ++ turn_to l out.0 ∷ []
  count : length out.1.queries ≡ session_places
  idle : (s : ℕ) → slot out.1.queries s ≡ None

abbrev line_of : ℕ → SessionNo → Command → Request → Line
line_of line s command r = record { line = line; session = s; command = command; request = r }

abbrev IsSome : Option Reply → Type 0
IsSome None = ⊥
IsSome (Some reply) = Unit {0}

one_turn_of : (l : Line) (reply : Option Reply) → IsSome reply → turns_of (l ∷ []) reply ≡ turn_to l (given l reply) ∷ []
one_turn_of l None is = absurd is
one_turn_of l (Some reply) is = refl

edit_some : (st : State) (l : Line) (act : Act) (full : Bool) (made : Result DatabaseParts Breach) → IsSome (edit_step st l act full made).0
edit_some st l act true made = tt
edit_some st l act false (Ok database) = tt
edit_some st l act false (Err breach) = tt

edit_queries : (st : State) (l : Line) (act : Act) (full : Bool) (made : Result DatabaseParts Breach) → st.queries ≡ (edit_step st l act full made).1.queries
edit_queries st l act true made = refl
edit_queries st l act false (Ok database) = refl
edit_queries st l act false (Err breach) = refl

look_some : (st : State) (l : Line) (ask : Ask) (held : Option Opened) → IsSome (look_step st l ask held).0
look_some st l ask None = tt
look_some st l ask (Some held) = tt

look_queries : (st : State) (l : Line) (ask : Ask) (held : Option Opened) → st.queries ≡ (look_step st l ask held).1.queries
look_queries st l ask None = refl
look_queries st l ask (Some held) = refl

told_some : (st : State) (line : ℕ) (s : SessionNo) (held : Opened) (short : Bool) → IsSome (look_answered st line s held short).0
told_some st line s held true = tt
told_some st line s held false = tt

finish_some : (st : State) (line : ℕ) (s : SessionNo) (held : Option Opened) → IsSome (finish_step st line s held).0
finish_some st line s None = tt
finish_some st line s (Some held) = told_some st line s held (lacks_memory held.ask)

told_queries : (st : State) (line : ℕ) (s : SessionNo) (held : Opened) (short : Bool) → st.queries ≡ (look_answered st line s held short).1.queries
told_queries st line s held true = refl
told_queries st line s held false = refl

finish_queries : (st : State) (line : ℕ) (s : SessionNo) (held : Option Opened) → st.queries ≡ (finish_step st line s held).1.queries
finish_queries st line s None = refl
finish_queries st line s (Some held) = told_queries st line s held (lacks_memory held.ask)

-- a query that is under way for this line
abbrev IsOf : Line → Option Opened → Type 0
IsOf l None = ⊥
IsOf l (Some held) = query_line l.session held ≡ l

way_turns : (st : State) (l : Line) (held : Opened) (short : Bool) → query_line l.session held ≡ l
    → turns_of (query_answered l.session (Some held)) (way_answered st l.line l.session held short).0 ≡ turn_to l (given l (way_answered st l.line l.session held short).0) ∷ []
way_turns st l held true is = ap (λ (k : Line). turn_to k (given l (way_answered st l.line l.session held true).0) ∷ []) is
way_turns st l held false is = ap (λ (k : Line). turn_to k (given l (way_answered st l.line l.session held false).0) ∷ []) is

query_turns : (st : State) (l : Line) (held : Option Opened) → IsOf l held
    → turns_of (query_answered l.session held) (query_step st l.line l.session held).0 ≡ turn_to l (given l (query_step st l.line l.session held).0) ∷ []
query_turns st l None is = absurd is
query_turns st l (Some held) is = way_turns st l held (lacks_memory held.ask) is

way_queries : (st : State) (l : Line) (held : Opened) (short : Bool) → put_slot st.queries l.session.0 None ≡ (way_answered st l.line l.session held short).1.queries
way_queries st l held true = refl
way_queries st l held false = refl

query_queries : (st : State) (l : Line) (held : Option Opened) → IsOf l held → put_slot st.queries l.session.0 None ≡ (query_step st l.line l.session held).1.queries
query_queries st l None is = absurd is
query_queries st l (Some held) is = way_queries st l held (lacks_memory held.ask)

fails_turns : (st : State) (l : Line) (held : Option Opened) → IsOf l held
    → turns_of (query_answered l.session held) (query_fails st l.line l.session held).0 ≡ turn_to l (given l (query_fails st l.line l.session held).0) ∷ []
fails_turns st l None is = absurd is
fails_turns st l (Some held) is = ap (λ (k : Line). turn_to k (given l (query_fails st l.line l.session (Some held)).0) ∷ []) is

fails_queries : (st : State) (l : Line) (held : Option Opened) → IsOf l held → put_slot st.queries l.session.0 None ≡ (query_fails st l.line l.session held).1.queries
fails_queries st l None is = absurd is
fails_queries st l (Some held) is = refl

-- the line's own query is under way
abbrev IsUnder : ℕ → Option Opened → Type 0
IsUnder line None = ⊥
IsUnder line (Some held) = held.line ≡ line

any_map : {A B : Type 0} (test : B → Bool) (f : A → B) (xs : List A) → list_any test (map f xs) ≡ list_any (λ x. test (f x)) xs
any_map test f [] = refl
any_map test f (x ∷ xs) = ap (λ b. test (f x) || b) (any_map test f xs)

module _ (store : Bool) (before : List Line) (w : World) (b : Between before w) where
  next : (l : Line) → ComesNext before l → IsNext w l.line l.session.0
  next l comes = record {
    place = comes.place;
    idle = b.idle l.session.0;
    behind = subst (λ (ls : List Line). Each (IsBehind l.line l.session.0) ls) (sym b.came)
        (each_map (IsBelow l.line) (IsBehind l.line l.session.0)
        (λ other below. record { own = λ same. below; others = λ ne. let low : other.line < l.line = below in omega arith }) before comes.rises);
  }

  request_fits : (r : Request) → NamesEarlier before r → RequestFits w r
  request_fits (requests.After earlier) names =
      sym (any_map (λ (l : Line). nat_eq l.line earlier) (λ (t : Turn). t.line) w.turns)
      ∙ ap (λ (ls : List Line). list_any (λ (l : Line). nat_eq l.line earlier) ls) b.told
      ∙ names
  request_fits (requests.Edit given) names = tt
  request_fits (requests.Undo earlier) names = tt
  request_fits (requests.Query ask) names = tt
  request_fits (requests.Look ask) names = tt
  request_fits requests.Finish names = tt

  -- a list of queries that is as it was
  same_count : (queries : List (Option Opened)) → w.state.queries ≡ queries → length queries ≡ session_places
  same_count queries same = sym (ap (λ (qs : List (Option Opened)). length qs) same) ∙ b.count

  same_idle : (queries : List (Option Opened)) → w.state.queries ≡ queries → (s : ℕ) → slot queries s ≡ None
  same_idle queries same s = sym (ap (λ (qs : List (Option Opened)). slot qs s) same) ∙ b.idle s

  -- a list of queries in which one came and went

  gone_count : (s : ℕ) (held : Option Opened) (queries : List (Option Opened)) → put_slot (put_slot w.state.queries s held) s None ≡ queries → length queries ≡ session_places
  gone_count s held queries same =
      sym (ap (λ (qs : List (Option Opened)). length qs) same)
      ∙ put_length (put_slot w.state.queries s held) s None ∙ put_length w.state.queries s held ∙ b.count

  gone_idle : (s : ℕ) (held : Option Opened) (queries : List (Option Opened)) → put_slot (put_slot w.state.queries s held) s None ≡ queries → s < session_places
      → (k : ℕ) → slot queries k ≡ None
  gone_idle s held queries same place k =
      sym (ap (λ (qs : List (Option Opened)). slot qs k) same) ∙ ⊎_elim here there (cases_eq s k)
    where
      here : s ≡ k → slot (put_slot (put_slot w.state.queries s held) s None) k ≡ None
      here e = subst (λ (j : ℕ). slot (put_slot (put_slot w.state.queries s held) s None) j ≡ None) e
          (slot_put (put_slot w.state.queries s held) s None
          (let size : length (put_slot w.state.queries s held) ≡ 17 = put_length w.state.queries s held ∙ b.count in
          let below : s < 17 = place in omega arith))

      there : s ≢ k → slot (put_slot (put_slot w.state.queries s held) s None) k ≡ None
      there ne = slot_other (put_slot w.state.queries s held) s k None ne ∙ slot_other w.state.queries s k held ne ∙ b.idle k

  -- The five requests, in turn.

  -- an `undo` names the same lines
  names_change : (session : ℕ) (r : Request) → NamesChange before session r → NamesChange w.lines session r
  names_change session r names = subst (λ (ls : List Line). NamesChange ls session r) (sym b.came) names

  -- an act that is wanted of a line
  module _ (l : Line) (act : Act) (may : Fits w (events.Edit l)) (wanted : act_wanted w.state l.session.0 l.request ≡ Some act)
      (event : edit_event w.state l l.request ≡ act_event w.state l act) where
    edit_answers_at : (trouble : Trouble) → TroubleFits store w.state (events.Edit l) trouble
        → Answers store w l (moment (events.Edit l) trouble ∷ []) (replied l (edit_outcome w.state l act trouble))
    edit_answers_at untroubled fits =
        let kept : _ = edit_queries w.state l act (is_full w.state.entries) (edited w.state.config w.state.entries act) in
        record {
          fits = (record { event = may; trouble = tt }, tt);
          state = ap (λ (out : Option Reply × State). out.1) event;
          lines = refl;
          turns = ap (λ (out : Option Reply × State). w.turns ++ turns_of (l ∷ []) out.0) event
              ∙ ap (λ (ts : List Turn). w.turns ++ ts) (one_turn_of l _ (edit_some w.state l act (is_full w.state.entries) (edited w.state.config w.state.entries act)));
          count = same_count _ kept;
          idle = same_idle _ kept;
        }
    edit_answers_at no_memory fits = record { fits = (record { event = may; trouble = tt }, tt); state = refl; lines = refl; turns = refl; count = b.count; idle = b.idle }
    edit_answers_at store_full fits = record { fits = (record { event = may; trouble = fits }, tt); state = refl; lines = refl; turns = refl; count = b.count; idle = b.idle }
    edit_answers_at disk_failed fits = record { fits = (record { event = may; trouble = fits }, tt); state = refl; lines = refl; turns = refl; count = b.count; idle = b.idle }

    stored_fits : (database : DatabaseParts) (passes fails : Bool) → is_full w.state.entries ≡ false → edited w.state.config w.state.entries act ≡ Ok database
        → store ≡ true → passes_store w.state.config w.state.entries (entry_of l act) ≡ passes
        → TroubleFits store w.state (events.Edit l) (stored_trouble passes fails)
    stored_fits database true fails room made stored passes_is =
        subst (λ (o : Option Act). StoreRefusesAct store w.state l o) (sym wanted)
        (record { stored = stored; room = room; database = database; made = made; passes = passes_is })
    stored_fits database false true room made stored passes_is = subst (λ (o : Option Act). DiskMayRefuseAct store o) (sym wanted) stored
    stored_fits database false false room made stored passes_is = tt

    made_fits : (fails full : Bool) (made : Result DatabaseParts Breach) → is_full w.state.entries ≡ full → edited w.state.config w.state.entries act ≡ made → store ≡ true
        → TroubleFits store w.state (events.Edit l) (made_trouble w.state l act fails full made)
    made_fits fails true made full_is made_is stored = tt
    made_fits fails false (Err breach) full_is made_is stored = tt
    made_fits fails false (Ok database) full_is made_is stored =
        stored_fits database (passes_store w.state.config w.state.entries (entry_of l act)) fails full_is made_is stored refl

    edit_fits : (there : Bool) (fails : Bool) → store ≡ there → TroubleFits store w.state (events.Edit l) (edit_trouble there w.state l act fails)
    edit_fits false fails is = tt
    edit_fits true fails is = made_fits fails (is_full w.state.entries) (edited w.state.config w.state.entries act) refl refl is

    trouble_fits : (outage : Outage) → TroubleFits store w.state (events.Edit l) (trouble_at store w.state l act outage)
    trouble_fits fine = edit_fits store false refl
    trouble_fits at_first = tt
    trouble_fits at_last = tt
    trouble_fits disk_fails = edit_fits store true refl

    act_answers : (outage : Outage) → Answers store w l (moment (events.Edit l) (trouble_at store w.state l act outage) ∷ []) (edit_turn store w.state l act outage)
    act_answers outage = edit_answers_at (trouble_at store w.state l act outage) (trouble_fits outage)

  edit_may : (line : ℕ) (s : SessionNo) (command : Command) (r : Request) → is_edit r ≡ true → ComesNext before (line_of line s command r) → Fits w (events.Edit (line_of line s command r))
  edit_may line s command r kind comes =
      record { next = next (line_of line s command r) comes; kind = kind; command = comes.command; names = names_change s.0 r comes.names }

  edit_answers : (line : ℕ) (s : SessionNo) (command : Command) (act : Act) (outage : Outage) → ComesNext before (line_of line s command (requests.Edit (Ok act)))
      → Answers store w (line_of line s command (requests.Edit (Ok act))) (request_moments store w.state (line_of line s command (requests.Edit (Ok act))) (requests.Edit (Ok act)) outage)
      (request_turn store w.state (line_of line s command (requests.Edit (Ok act))) (requests.Edit (Ok act)) outage)
  edit_answers line s command act outage comes =
      act_answers (line_of line s command (requests.Edit (Ok act))) act (edit_may line s command (requests.Edit (Ok act)) refl comes) refl refl outage

  -- An `undo`, by what takes its line back.
  module _ (line : ℕ) (s : SessionNo) (command : Command) (earlier : ℕ) (comes : ComesNext before (line_of line s command (requests.Undo earlier))) where
    abbrev undo_line : Line
    undo_line = line_of line s command (requests.Undo earlier)

    undo_may : Fits w (events.Edit undo_line)
    undo_may = edit_may line s command (requests.Undo earlier) refl comes

    -- no act is wanted
    undo_taken : (refusal : Refusal) → edit_event w.state undo_line (requests.Undo earlier) ≡ (Some (reply_to undo_line None (Refused refusal)), w.state)
        → Answers store w undo_line (moment (events.Edit undo_line) untroubled ∷ []) (reply_to undo_line None (Refused refusal), w.state)
    undo_taken refusal event = record {
      fits = (record { event = undo_may; trouble = tt }, tt);
      state = ap (λ (out : Option Reply × State). out.1) event;
      lines = refl;
      turns = ap (λ (out : Option Reply × State). w.turns ++ turns_of (undo_line ∷ []) out.0) event;
      count = b.count;
      idle = b.idle;
    }

    undo_failed : Answers store w undo_line (moment (events.Edit undo_line) no_memory ∷ []) (reply_to undo_line None memory, w.state)
    undo_failed = record { fits = (record { event = undo_may; trouble = tt }, tt); state = refl; lines = refl; turns = refl; count = b.count; idle = b.idle }

    undo_refused : (refusal : Refusal) (outage : Outage) → edit_event w.state undo_line (requests.Undo earlier) ≡ (Some (reply_to undo_line None (Refused refusal)), w.state)
        → Answers store w undo_line (moment (events.Edit undo_line) (memory_at outage) ∷ []) (unless_outage w.state undo_line outage (Some (reply_to undo_line None (Refused refusal)), w.state))
    undo_refused refusal fine event = undo_taken refusal event
    undo_refused refusal disk_fails event = undo_taken refusal event
    undo_refused refusal at_first event = undo_failed
    undo_refused refusal at_last event = undo_failed

    undo_by : (inverse : Option (Result Act NoUndo)) (outage : Outage) → taking_back w.state s.0 earlier ≡ inverse
        → Answers store w undo_line (moment (events.Edit undo_line) (undo_trouble store w.state undo_line inverse outage) ∷ []) (undo_turn store w.state undo_line inverse outage)
    undo_by None outage is = undo_refused refusals.NotAccepted outage (ap (λ (i : Option (Result Act NoUndo)). undo_step w.state undo_line i) is)
    undo_by (Some (Err fault)) outage is = undo_refused (undo_refusal fault) outage (ap (λ (i : Option (Result Act NoUndo)). undo_step w.state undo_line i) is)
    undo_by (Some (Ok act)) outage is =
        act_answers undo_line act undo_may (ap (λ (i : Option (Result Act NoUndo)). act_back i) is)
        (ap (λ (i : Option (Result Act NoUndo)). undo_step w.state undo_line i) is) outage

    undo_answers : (outage : Outage) → Answers store w undo_line (request_moments store w.state undo_line (requests.Undo earlier) outage) (request_turn store w.state undo_line (requests.Undo earlier) outage)
    undo_answers outage = undo_by (taking_back w.state s.0 earlier) outage refl

  -- a line whose TextGrid has a fault
  module _ (line : ℕ) (s : SessionNo) (command : Command) (fault : GridFault) (comes : ComesNext before (line_of line s command (requests.Edit (Err fault)))) where
    abbrev grid_line : Line
    grid_line = line_of line s command (requests.Edit (Err fault))

    grid_may : Fits w (events.Edit grid_line)
    grid_may = edit_may line s command (requests.Edit (Err fault)) refl comes

    grid_taken : Answers store w grid_line (moment (events.Edit grid_line) untroubled ∷ []) (request_turn store w.state grid_line (requests.Edit (Err fault)) fine)
    grid_taken = record { fits = (record { event = grid_may; trouble = tt }, tt); state = refl; lines = refl; turns = refl; count = b.count; idle = b.idle }

    grid_failed : Answers store w grid_line (moment (events.Edit grid_line) no_memory ∷ []) (request_turn store w.state grid_line (requests.Edit (Err fault)) at_first)
    grid_failed = record { fits = (record { event = grid_may; trouble = tt }, tt); state = refl; lines = refl; turns = refl; count = b.count; idle = b.idle }

    grid_answers : (outage : Outage) → Answers store w grid_line (request_moments store w.state grid_line (requests.Edit (Err fault)) outage) (request_turn store w.state grid_line (requests.Edit (Err fault)) outage)
    grid_answers fine = grid_taken
    grid_answers disk_fails = grid_taken
    grid_answers at_first = grid_failed
    grid_answers at_last = grid_failed

  -- nothing fails
  look_taken : (line : ℕ) (s : SessionNo) (command : Command) (ask : Ask) → ComesNext before (line_of line s command (requests.Look ask))
      → Answers store w (line_of line s command (requests.Look ask)) (request_moments store w.state (line_of line s command (requests.Look ask)) (requests.Look ask) fine)
      (request_turn store w.state (line_of line s command (requests.Look ask)) (requests.Look ask) fine)
  look_taken line s command ask comes =
      let l : Line = line_of line s command (requests.Look ask) in
      let kept : _ = look_queries w.state l ask (slot w.state.looks s.0) in
      record {
        fits = (record { event = record { next = next l comes; kind = refl; command = comes.command; answered = tt }; trouble = tt }, tt);
        state = refl;
        lines = refl;
        turns = ap (λ (ts : List Turn). w.turns ++ ts) (one_turn_of l _ (look_some w.state l ask (slot w.state.looks s.0)));
        count = same_count _ kept;
        idle = same_idle _ kept;
      }

  look_answers : (line : ℕ) (s : SessionNo) (command : Command) (ask : Ask) (outage : Outage) → ComesNext before (line_of line s command (requests.Look ask))
      → Answers store w (line_of line s command (requests.Look ask)) (request_moments store w.state (line_of line s command (requests.Look ask)) (requests.Look ask) outage)
      (request_turn store w.state (line_of line s command (requests.Look ask)) (requests.Look ask) outage)
  look_answers line s command ask fine comes = look_taken line s command ask comes
  look_answers line s command ask disk_fails comes = look_taken line s command ask comes
  look_answers line s command ask at_first comes = record {
    fits = (record { event = record { next = next (line_of line s command (requests.Look ask)) comes; kind = refl; command = comes.command; answered = tt }; trouble = tt }, tt);
    state = refl;
    lines = refl;
    turns = refl;
    count = b.count;
    idle = b.idle;
  }
  look_answers line s command ask at_last comes = record {
    fits = (record { event = record { next = next (line_of line s command (requests.Look ask)) comes; kind = refl; command = comes.command; answered = tt }; trouble = tt }, tt);
    state = refl;
    lines = refl;
    turns = refl;
    count = b.count;
    idle = b.idle;
  }

  -- nothing fails
  after_taken : (line : ℕ) (s : SessionNo) (command : Command) (earlier : ℕ) → ComesNext before (line_of line s command (requests.After earlier))
      → Answers store w (line_of line s command (requests.After earlier)) (request_moments store w.state (line_of line s command (requests.After earlier)) (requests.After earlier) fine)
      (request_turn store w.state (line_of line s command (requests.After earlier)) (requests.After earlier) fine)
  after_taken line s command earlier comes = record {
    fits = (record { event = record { next = next (line_of line s command (requests.After earlier)) comes; kind = refl; command = comes.command; answered = request_fits (requests.After earlier) comes.earlier }; trouble = tt }, tt);
    state = refl;
    lines = refl;
    turns = refl;
    count = b.count;
    idle = b.idle;
  }

  after_answers : (line : ℕ) (s : SessionNo) (command : Command) (earlier : ℕ) (outage : Outage) → ComesNext before (line_of line s command (requests.After earlier))
      → Answers store w (line_of line s command (requests.After earlier)) (request_moments store w.state (line_of line s command (requests.After earlier)) (requests.After earlier) outage)
      (request_turn store w.state (line_of line s command (requests.After earlier)) (requests.After earlier) outage)
  after_answers line s command earlier fine comes = after_taken line s command earlier comes
  after_answers line s command earlier disk_fails comes = after_taken line s command earlier comes
  after_answers line s command earlier at_first comes = record {
    fits = (record { event = record { next = next (line_of line s command (requests.After earlier)) comes; kind = refl; command = comes.command; answered = request_fits (requests.After earlier) comes.earlier }; trouble = tt }, tt);
    state = refl;
    lines = refl;
    turns = refl;
    count = b.count;
    idle = b.idle;
  }
  after_answers line s command earlier at_last comes = record {
    fits = (record { event = record { next = next (line_of line s command (requests.After earlier)) comes; kind = refl; command = comes.command; answered = request_fits (requests.After earlier) comes.earlier }; trouble = tt }, tt);
    state = refl;
    lines = refl;
    turns = refl;
    count = b.count;
    idle = b.idle;
  }

  -- nothing fails
  finish_taken : (line : ℕ) (s : SessionNo) → ComesNext before (line_of line s commands.Finish requests.Finish)
      → Answers store w (line_of line s commands.Finish requests.Finish) (request_moments store w.state (line_of line s commands.Finish requests.Finish) requests.Finish fine)
      (request_turn store w.state (line_of line s commands.Finish requests.Finish) requests.Finish fine)
  finish_taken line s comes =
      let l : Line = line_of line s commands.Finish requests.Finish in
      let kept : _ = finish_queries w.state line s (slot w.state.looks s.0) in
      record {
        fits = (record { event = next l comes; trouble = tt }, tt);
        state = refl;
        lines = refl;
        turns = ap (λ (ts : List Turn). w.turns ++ ts) (one_turn_of l _ (finish_some w.state line s (slot w.state.looks s.0)));
        count = same_count _ kept;
        idle = same_idle _ kept;
      }

  finish_answers : (line : ℕ) (s : SessionNo) (outage : Outage) → ComesNext before (line_of line s commands.Finish requests.Finish)
      → Answers store w (line_of line s commands.Finish requests.Finish) (request_moments store w.state (line_of line s commands.Finish requests.Finish) requests.Finish outage)
      (request_turn store w.state (line_of line s commands.Finish requests.Finish) requests.Finish outage)
  finish_answers line s fine comes = finish_taken line s comes
  finish_answers line s disk_fails comes = finish_taken line s comes
  finish_answers line s at_first comes = record {
    fits = (record { event = next (line_of line s commands.Finish requests.Finish) comes; trouble = tt }, tt);
    state = refl;
    lines = refl;
    turns = refl;
    count = b.count;
    idle = b.idle;
  }
  finish_answers line s at_last comes = record {
    fits = (record { event = next (line_of line s commands.Finish requests.Finish) comes; trouble = tt }, tt);
    state = refl;
    lines = refl;
    turns = refl;
    count = b.count;
    idle = b.idle;
  }

  -- A query's look and its answer.
  module _ (line : ℕ) (s : SessionNo) (ask : Ask) (comes : ComesNext before (line_of line s commands.Query (requests.Query ask))) where
    abbrev query : Line
    query = line_of line s commands.Query (requests.Query ask)

    abbrev held : Option Opened
    held = Some (opened_at w.state query ask)

    there : held ≡ slot (put_slot w.state.queries s.0 held) s.0
    there =
        let size : length w.state.queries ≡ 17 = b.count in
        let below : s.0 < 17 = comes.place in
        sym (slot_put w.state.queries s.0 held (omega arith))

    is_of : IsOf query (slot (put_slot w.state.queries s.0 held) s.0)
    is_of = subst (λ (o : Option Opened). IsOf query o) there refl

    is_under : IsUnder line (slot (put_slot w.state.queries s.0 held) s.0)
    is_under = subst (λ (o : Option Opened). IsUnder line o) there refl

    looks_may : Fits w (events.Look query)
    looks_may = record { next = next query comes; kind = refl; command = refl; answered = tt }

    looks_now : OccurrenceFits store w (moment (events.Look query) untroubled)
    looks_now = record { event = looks_may; trouble = tt }

    query_done : Answers store w query (query_moments query fine) (request_turn store w.state query (requests.Query ask) fine)
    query_done =
        let kept : _ = query_queries (query_begun w.state query ask) query (slot (put_slot w.state.queries s.0 held) s.0) is_of in
        record {
          fits = (looks_now, (record { event = record { place = comes.place; held = is_under }; trouble = tt }, tt));
          state = refl;
          lines = append-nil (w.lines ++ query ∷ []);
          turns = ap (λ (ts : List Turn). ts ++ turns_of (query_answered s (slot (put_slot w.state.queries s.0 held) s.0)) (query_step (query_begun w.state query ask) line s (slot (put_slot w.state.queries s.0 held) s.0)).0) (append-nil w.turns)
              ∙ ap (λ (ts : List Turn). w.turns ++ ts) (query_turns (query_begun w.state query ask) query (slot (put_slot w.state.queries s.0 held) s.0) is_of);
          count = gone_count s.0 held _ kept;
          idle = gone_idle s.0 held _ kept comes.place;
        }

    query_failed : Answers store w query (query_moments query at_last) (request_turn store w.state query (requests.Query ask) at_last)
    query_failed =
        let kept : _ = fails_queries (query_begun w.state query ask) query (slot (put_slot w.state.queries s.0 held) s.0) is_of in
        record {
          fits = (looks_now, (record { event = record { place = comes.place; held = is_under }; trouble = tt }, tt));
          state = refl;
          lines = append-nil (w.lines ++ query ∷ []);
          turns = ap (λ (ts : List Turn). ts ++ turns_of (query_answered s (slot (put_slot w.state.queries s.0 held) s.0)) (query_fails (query_begun w.state query ask) line s (slot (put_slot w.state.queries s.0 held) s.0)).0) (append-nil w.turns)
              ∙ ap (λ (ts : List Turn). w.turns ++ ts) (fails_turns (query_begun w.state query ask) query (slot (put_slot w.state.queries s.0 held) s.0) is_of);
          count = gone_count s.0 held _ kept;
          idle = gone_idle s.0 held _ kept comes.place;
        }

    query_answers : (outage : Outage) → Answers store w query (query_moments query outage) (request_turn store w.state query (requests.Query ask) outage)
    query_answers fine = query_done
    query_answers disk_fails = query_done
    query_answers at_first = record {
      fits = (record { event = looks_may; trouble = tt }, tt);
      state = refl;
      lines = refl;
      turns = refl;
      count = b.count;
      idle = b.idle;
    }
    query_answers at_last = query_failed

  abbrev QueryAnswers : ℕ → SessionNo → Ask → Outage → Command → Type 0
  QueryAnswers line s ask outage command =
      Answers store w (line_of line s command (requests.Query ask)) (query_moments (line_of line s command (requests.Query ask)) outage)
      (request_turn store w.state (line_of line s command (requests.Query ask)) (requests.Query ask) outage)

  of_query : (line : ℕ) (s : SessionNo) (command : Command) (ask : Ask) (outage : Outage) → commands.Query ≡ command → ComesNext before (line_of line s command (requests.Query ask))
      → QueryAnswers line s ask outage command
  of_query line s command ask outage is =
      subst (λ (c : Command). ComesNext before (line_of line s c (requests.Query ask)) → QueryAnswers line s ask outage c) is
      (λ comes. query_answers line s ask comes outage)

  abbrev FinishAnswers : ℕ → SessionNo → Outage → Command → Type 0
  FinishAnswers line s outage command =
      Answers store w (line_of line s command requests.Finish) (request_moments store w.state (line_of line s command requests.Finish) requests.Finish outage)
      (request_turn store w.state (line_of line s command requests.Finish) requests.Finish outage)

  of_finish : (line : ℕ) (s : SessionNo) (command : Command) (outage : Outage) → commands.Finish ≡ command → ComesNext before (line_of line s command requests.Finish)
      → FinishAnswers line s outage command
  of_finish line s command outage is =
      subst (λ (c : Command). ComesNext before (line_of line s c requests.Finish) → FinishAnswers line s outage c) is
      (λ comes. finish_answers line s outage comes)

  request_answers : (line : ℕ) (s : SessionNo) (command : Command) (r : Request) (outage : Outage) → ComesNext before (line_of line s command r)
      → Answers store w (line_of line s command r) (request_moments store w.state (line_of line s command r) r outage) (request_turn store w.state (line_of line s command r) r outage)
  request_answers line s command (requests.Edit (Ok act)) outage comes = edit_answers line s command act outage comes
  request_answers line s command (requests.Edit (Err fault)) outage comes = grid_answers line s command fault comes outage
  request_answers line s command (requests.Undo earlier) outage comes = undo_answers line s command earlier comes outage
  request_answers line s command (requests.Query ask) outage comes = of_query line s command ask outage (sym (query_is command ask comes.command)) comes
  request_answers line s command (requests.Look ask) outage comes = look_answers line s command ask outage comes
  request_answers line s command requests.Finish outage comes = of_finish line s command outage (sym (finish_is command comes.command)) comes
  request_answers line s command (requests.After earlier) outage comes = after_answers line s command earlier outage comes

  -- the world behind the line
  between : (l : Line) (ms : List Occurrence) (out : Reply × State) → Answers store w l ms out → Between (before ++ l ∷ []) (run w ms)
  between l ms out a = record {
    came = a.lines ∙ ap (λ (ls : List Line). ls ++ l ∷ []) b.came;
    told = ap (λ (ts : List Turn). lines_in ts) a.turns ∙ lines_push w.turns (turn_to l out.0) ∙ ap (λ (ls : List Line). ls ++ l ∷ []) b.told;
    count = ap (λ (st : State). length st.queries) a.state ∙ a.count;
    idle = λ s. ap (λ (st : State). slot st.queries s) a.state ∙ a.idle s;
  }

-- Line after line.

record InTurn (store : Bool) (before : List Line) (w : World) (ls : List Line) (ms : List Occurrence) (told : List Turn) (last : State) : Type 0 where
  fits : AllFit store w ms
  state : (run w ms).state ≡ last
  lines : (run w ms).lines ≡ before ++ ls
  turns : (run w ms).turns ≡ w.turns ++ told
  idle : (s : ℕ) → slot (run w ms).state.queries s ≡ None

nothing_left : (store : Bool) (before : List Line) (w : World) → Between before w → InTurn store before w [] [] [] w.state
nothing_left store before w b = record {
  fits = tt;
  state = refl;
  lines = b.came ∙ sym (append-nil before);
  turns = sym (append-nil w.turns);
  idle = b.idle;
}

module _ (store : Bool) (before : List Line) (w : World) (l : Line) (ls : List Line) (ms ns : List Occurrence) (out : Reply × State) (told : List Turn) (last : State) where
  one_more : Answers store w l ms out → InTurn store (before ++ l ∷ []) (run w ms) ls ns told last → InTurn store before w (l ∷ ls) (ms ++ ns) (turn_to l out.0 ∷ told) last
  one_more a rest = record {
    fits = fit_more store w ms ns a.fits rest.fits;
    state = ap (λ (v : World). v.state) (run_more w ms ns) ∙ rest.state;
    lines = ap (λ (v : World). v.lines) (run_more w ms ns) ∙ rest.lines ∙ append_assoc before (l ∷ []) ls;
    turns =
        ap (λ (v : World). v.turns) (run_more w ms ns)
        ∙ rest.turns
        ∙ ap (λ (ts : List Turn). ts ++ told) a.turns
        ∙ append_assoc w.turns (turn_to l out.0 ∷ []) told;
    idle = λ s. ap (λ (v : World). slot v.state.queries s) (run_more w ms ns) ∙ rest.idle s;
  }

all_in_turn : (store : Bool) (before : List Line) (w : World) (ls : List Line) (outages : List Outage) → Between before w → ComeInOrder before ls → length outages ≡ length ls
    → InTurn store before w ls (moments_in_turn store w.state ls outages) (turns_in_turn store w.state ls outages) (in_turn store w.state ls outages).1
all_in_turn store before w [] outages b comes long = nothing_left store before w b
all_in_turn store before w (l ∷ ls) [] b comes long = absurd (let size : 0 ≡ suc (length ls) = long in omega arith)
all_in_turn store before w (l ∷ ls) (outage ∷ outages) b comes long =
    let ms : List Occurrence = request_moments store w.state l l.request outage in
    let a : Answers store w l (request_moments store w.state l l.request outage) (one_turn store w.state l outage) = request_answers store before w b l.line l.session l.command l.request outage comes.0 in
    let behind : World = run w (request_moments store w.state l l.request outage) in
    let rest : InTurn store (before ++ l ∷ []) behind ls (moments_in_turn store behind.state ls outages) (turns_in_turn store behind.state ls outages) (in_turn store behind.state ls outages).1 =
    all_in_turn store (before ++ l ∷ []) behind ls outages
    (between store before w b l (request_moments store w.state l l.request outage) (one_turn store w.state l outage) a) comes.1 (omega (arith, long)) in
    one_more store before w l ls (request_moments store w.state l l.request outage) (moments_in_turn store (one_turn store w.state l outage).1 ls outages) (one_turn store w.state l outage)
    (turns_in_turn store (one_turn store w.state l outage).1 ls outages) (in_turn store (one_turn store w.state l outage).1 ls outages).1 a
    (subst (λ (st : State). InTurn store (before ++ l ∷ []) behind ls (moments_in_turn store st ls outages) (turns_in_turn store st ls outages) (in_turn store st ls outages).1) a.state rest)

-- The script of a run in which no query is under way is the lines that came.

line_done : (st : State) → ((s : ℕ) → slot st.queries s ≡ None) → (l : Line) → is_done st l ≡ true
line_done st idle l = ap (λ (o : Option Opened). not (is_waiting l o)) (idle l.session.0)

all_done : (st : State) → ((s : ℕ) → slot st.queries s ≡ None) → (ls : List Line) → Each (λ l. is_done st l ≡ true) ls
all_done st idle [] = tt
all_done st idle (l ∷ ls) = (line_done st idle l, all_done st idle ls)

whole_script : (w : World) → ((s : ℕ) → slot w.state.queries s ≡ None) → lines_done w ≡ w.lines
whole_script w idle = filter_all (is_done w.state) w.lines (all_done w.state idle w.lines)

at_start : (c : ConfigParts) (opening : List Entry) → Between [] (opening_world c opening)
at_start c opening = record { came = refl; told = refl; count = refl; idle = λ s. slot_none session_places s }

-- a legal run whose turns stand in the order of the lines, with the numbers of the moment
abbrev IsRunInOrder : ConfigParts → List Entry → List Line → List Line → List Reply → List Entry → Bool → ℕ → ℕ → Type 0
IsRunInOrder c opening lines script replies H store before now =
    (legal_run : Legal c opening script replies H store before now) × IsInOrder opening lines legal_run.turns

fewer_rise : (j k before now : ℕ) → j ≤ k → RoseBy k before now → RoseBy j before now
fewer_rise j k before now fewer rose = search rules

module _ (c : ConfigParts) (opening : List Entry) (lines : List Line) (outages : List Outage) (store : Bool) (before now : ℕ)
    (legal : IsLegal c opening) (most : length opening ≤ HISTORY_EDITS) (comes : ComeInOrder [] lines) (long : length outages ≡ length lines)
    (rose : RoseBy (disk_outages store outages) before now) where
  abbrev went_through : List Occurrence
  went_through = moments_in_turn store (start c opening) lines outages

  abbrev last : World
  last = run (opening_world c opening) went_through

  abbrev told : List Turn
  told = turns_in_turn store (start c opening) lines outages

  abbrev out : List Reply × State
  out = in_turn store (start c opening) lines outages

  went : InTurn store [] (opening_world c opening) lines went_through told out.1
  went = all_in_turn store [] (opening_world c opening) lines outages (at_start c opening) comes long

  script_is : lines_done last ≡ lines
  script_is = whole_script last went.idle ∙ went.lines

  replies_are : replies_in last.turns ≡ out.0
  replies_are = ap (λ (ts : List Turn). replies_in ts) went.turns ∙ replies_told store (start c opening) lines outages

  entries_are : last.state.entries ≡ out.1.entries
  entries_are = ap (λ (st : State). st.entries) went.state

  told_in_order : IsInOrder opening lines told
  told_in_order = record {
    order = lines_told store (start c opening) lines outages long;
    numbers = numbers_told store (start c opening) lines outages;
  }

  run_in_order : IsRunInOrder c opening lines (lines_done last) (replies_in last.turns) last.state.entries store before now
  run_in_order =
      let legal_turns : HasTurns c opening last store before now =
      run_legal_turns c opening went_through store before now legal most went.fits
      (fewer_rise (disk_failures went_through) (disk_outages store outages) before now (all_failures store (start c opening) lines outages) rose) in
      (legal_turns.0, subst (λ (ts : List Turn). IsInOrder opening lines ts) (sym (legal_turns.1 ∙ went.turns)) told_in_order)

  pub in_turn_is_in_order : IsRunInOrder c opening lines lines out.0 out.1.entries store before now
  in_turn_is_in_order =
      subst (λ (ls : List Line). IsRunInOrder c opening lines ls out.0 out.1.entries store before now) script_is
      (subst (λ (rs : List Reply). IsRunInOrder c opening lines (lines_done last) rs out.1.entries store before now) replies_are
      (subst (λ (H : List Entry). IsRunInOrder c opening lines (lines_done last) (replies_in last.turns) H store before now) entries_are run_in_order))

  pub in_order_is_legal : Legal c opening lines out.0 out.1.entries store before now
  in_order_is_legal = in_turn_is_in_order.0
