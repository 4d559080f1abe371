-- A legal run in order has one reading: at one line, the reply is the one in turn.
use Rattle.std.proofs.Common.{◌≡◌, ◌≢◌, ⊎_elim, ℕ, ◌+◌, ◌-◌, ◌<◌, ◌≤◌, ◌⊎◌, Bool, true, false, List, [], ◌∷◌, ◌++◌, length, take, drop, slice_get, Option, Some, None, Result, Ok, Err, option_map, refl, sym, ◌∙◌, ap, subst, arith, append_assoc, length-append}
use Rattle.std.proofs.lemmas.Bool.{cases_eq, lt-leb, le-leb, false≢true}
use Rattle.std.proofs.lemmas.List.{append-nil, drop-append-le, length-drop, length-take-le, take-append-drop, take_at}
use Rattle.edit_undo.specs.edit_rules.declared.acts.Breach.{Breach}
use Rattle.db_config.specs.declared.parts.ConfigParts.{ConfigParts}
use Rattle.textgrid.specs.declared.fault.GridFault.{GridFault}
use Rattle.edit_undo.specs.edit_rules.Database.{DatabaseParts}
use Rattle.edit_undo.specs.edit_rules.declared.acts.Act.{Act}
use Rattle.edit_undo.specs.edit_rules.declared.acts.Entry.{Entry}
use Rattle.session_core.specs.declared.line.Command.{Command}
use Rattle.session_core.specs.declared.line.Ask.{Ask}
use Rattle.session_core.specs.declared.line.Answer.{Answer}
use Rattle.session_core.specs.declared.line.Answer.TheVariants.{Done, Segments, Refused}
use Rattle.session_core.specs.declared.line.Refusal.{Refusal}
use Rattle.session_core.specs.declared.line.Refusal.TheVariants as refusals
use Rattle.session_core.specs.declared.line.Request.{Request}
use Rattle.session_core.specs.declared.line.Request.TheVariants as requests
use Rattle.session_core.specs.declared.line.Line.{Line}
use Rattle.session_core.specs.declared.line.Reply.{Reply}
use Rattle.edit_undo.specs.edit_rules.Effects.{edited, database_after}
use Rattle.session_core.specs.Answers.{answer_at, memory, is_want_of_memory, grid_number, grid_answer, reply_to, entry_of}
use Rattle.session_core.specs.Steps.{Opened, State, kept_in, taking_back, slot, put_slot, session_places, is_full, opened_at, with_look, with_query, with_entry, present, edit_step, look_step, finish_step, look_answered, query_step, way_answered}
use Rattle.session_core.specs.Legal.{Mark, mark_of, numbered, accepted_as, TakesBack, UndoAnswers, ReplyUndoes, accepting, IsAcceptance, IsRightQuery, IsRightAt, IsRightUnnumbered, IsRight, Look, open_behind, LookReplyFits, FinishReplyFits, ReplyFits}
use Rattle.session_core.specs.InOrder.{Outage, fine, at_first, undo_turn, replied, query_begun, query_turn, unless_outage, request_turn}
use Rattle.emu_names.specs.declared.limits.TheConstants.{HISTORY_EDITS}
use Rattle.session_core.specs.Readings.{IsStanding, outage_in}
use Rattle.edit_undo.specs.declared.faults.NoUndo.{NoUndo}
use Rattle.edit_undo.specs.declared.faults.NoUndo.TheVariants as reasons
use Rattle.session_core.specs.declared.kept_acts.KeptAct.{KeptAct}
use Rattle.session_core.specs.Undos.{kept_behind, undo_refusal}
use Rattle.session_core.specs.Inner.Undone.{AreKept}
use Rattle.session_core.proofs.Asking.{answers}
use Rattle.session_core.proofs.Turns.{numbered_more}
use Rattle.session_core.proofs.Undoing.{history_kept, kept_takes_back, are_kept_more, takes_one}
use Rattle.session_core.proofs.Places.{slot_put, slot_other, put_length}
use Rattle.session_core.proofs.Seats.{answer_same, look_of, IsIn, in_more}

-- Answers that differ.

abbrev is_memory : Answer → Bool
is_memory (Refused refusals.Memory) = true
is_memory (Refused (refusals.Rule rule place)) = false
is_memory (Refused (refusals.Grid fault)) = false
is_memory (Refused (refusals.Prepare fault)) = false
is_memory (Refused (refusals.Resolve fault)) = false
is_memory (Refused refusals.TooManyTuples) = false
is_memory (Refused refusals.NotAccepted) = false
is_memory (Refused refusals.TooManyEdits) = false
is_memory (Refused refusals.NoInverse) = false
is_memory (Refused refusals.NoLook) = false
is_memory (Refused refusals.LookOpen) = false
is_memory (Refused refusals.HistoryFull) = false
is_memory (Refused refusals.StoreFull) = false
is_memory (Refused refusals.Disk) = false
is_memory (Done command) = false
is_memory (Segments rows) = false

not_memory : (answer : Answer) → is_memory answer ≡ false → answer ≡ memory → ⊥
not_memory answer other same = false≢true (sym other ∙ ap is_memory same)

some_same : {A : Type 0} (x y : A) → Some x ≡ Some y → x ≡ y
some_same {A = A} x y e = ap (λ (o : Option A). unwrapped x o) e
  where
    unwrapped : {A : Type 0} → A → Option A → A
    unwrapped d None = d
    unwrapped d (Some v) = v

none_some : {A : Type 0} (x : A) → None ≡ Some x → ⊥
none_some x e = cc

-- an entry behind the ones that stand is the next one
next_entry : (E more : List Entry) (e : Entry) → slice_get (E ++ more) (length E) ≡ Some e → (rest : List Entry) × (more ≡ e ∷ rest)
next_entry [] [] e found = absurd (none_some e found)
next_entry [] (x ∷ more) e found = (more, ap (λ (y : Entry). y ∷ more) (some_same x e found))
next_entry (x ∷ E) more e found = next_entry E more e found

-- Where a run stands: k entries of the history are there, and each open look is over some of them.

pub record Stands (c : ConfigParts) (H : List Entry) (k : ℕ) (st : State) : Type 0 where
  pub config : st.config ≡ c
  pub more : List Entry
  pub prefix : H ≡ st.entries ++ more
  pub begun : st.base ≤ length st.entries
  pub count : length st.entries ≡ k
  pub looks_count : length st.looks ≡ session_places
  pub queries_count : length st.queries ≡ session_places
  pub looks_in : (s : ℕ) → IsIn 0 st.entries (slot st.looks s)

-- the marks of the entries that came
abbrev pub marks_in : State → List Mark
marks_in st = numbered (st.base + 1) (drop st.base st.entries)

-- the look of a place
abbrev pub seen_look : Option Opened → Option Look
seen_look held = option_map look_of held

-- One line: its reply is the one in turn, and its session's look is the one that the reply leaves.

pub record Follows (c : ConfigParts) (H : List Entry) (k : ℕ) (st : State) (l : Line) (request : Request) (n : Option ℕ) (answer : Answer) (out : Reply × State) : Type 0 where
  pub reply : out.0 ≡ reply_to l n answer
  pub there : Stands c H (k + length (accepting l request n answer)) out.1
  pub marks : marks_in out.1 ≡ marks_in st ++ accepting l request n answer
  pub own : seen_look (slot out.1.looks l.session.0) ≡ open_behind (seen_look (slot st.looks l.session.0)) request n
  pub others : (s : ℕ) → l.session.0 ≢ s → slot out.1.looks s ≡ slot st.looks s

-- what is right of an answer, with the request told
abbrev pub IsRightFor : ConfigParts → ℕ → List Entry → Line → Request → Option ℕ → Answer → Type 0
IsRightFor c m H l request None answer = IsRightUnnumbered false request answer
IsRightFor c m H l request (Some n) answer = (m ≤ n) × (n ≤ length H) × IsRightAt c H false l request n answer

pub right_for : (c : ConfigParts) (m : ℕ) (H : List Entry) (l : Line) (n : Option ℕ) (answer : Answer) → IsRight c m H false l n answer → IsRightFor c m H l l.request n answer
right_for c m H l None answer right = right
right_for c m H l (Some n) answer right = right

module _ (c : ConfigParts) (m : ℕ) (H : List Entry) (k : ℕ) (st : State) (r : Stands c H k st) (l : Line) (place : l.session.0 < session_places) where
  abbrev held : Option Opened
  held = slot st.looks l.session.0

  moved : (request : Request) (n : Option ℕ) (answer : Answer) (made out : Reply × State) → made ≡ out
      → Follows c H k st l request n answer made → Follows c H k st l request n answer out
  moved request n answer made out same follows = subst (λ (o : Reply × State). Follows c H k st l request n answer o) same follows

  -- the state stays as it is
  stays : (request : Request) (n : Option ℕ) (answer : Answer) → accepting l request n answer ≡ [] → open_behind (seen_look held) request n ≡ seen_look held
      → Follows c H k st l request n answer (reply_to l n answer, st)
  stays request n answer none opens = record {
    reply = refl;
    there = subst (λ (j : ℕ). Stands c H j st) (let here : k ≡ k + length (accepting l request n answer) = omega (arith, ap length none) in here) r;
    marks = sym (append-nil (marks_in st)) ∙ ap (λ (ms : List Mark). marks_in st ++ ms) (sym none);
    own = sym opens;
    others = λ s ne. refl;
  }

  -- the history's first entries are those that stand
  front : (n : ℕ) → n ≡ k → take n H ≡ st.entries
  front n is =
      let at : length st.entries ≡ n = r.count ∙ sym is in
      ap (λ (es : List Entry). take n es) r.prefix ∙ take_at st.entries r.more n at

  edit_is : (n : ℕ) (act : Act) (made : Result DatabaseParts Breach) → n ≡ k → edited c (take n H) act ≡ made → edited st.config st.entries act ≡ made
  edit_is n act made is right =
      ap (λ (d : ConfigParts). edited d st.entries act) r.config
      ∙ ap (λ (es : List Entry). edited c es act) (sym (front n is))
      ∙ right

  answer_is : (n : ℕ) (ask : Ask) (answer : Answer) → n ≤ length st.entries → answer ≡ answer_at c H n ask → answer_at st.config st.entries n ask ≡ answer
  answer_is n ask answer low right =
      ap (λ (d : ConfigParts). answer_at d st.entries n ask) r.config
      ∙ sym (answer_same c st.entries r.more n ask low)
      ∙ ap (λ (es : List Entry). answer_at c es n ask) (sym r.prefix)
      ∙ sym right

  look_put : (v : Option Opened) → slot (put_slot st.looks l.session.0 v) l.session.0 ≡ v
  look_put v =
      let size : length st.looks ≡ 17 = r.looks_count in
      let below : l.session.0 < 17 = place in
      slot_put st.looks l.session.0 v (omega arith)

  -- a look is put at the session's place, or taken away from it
  with_looks : (v : Option Opened) → IsIn 0 st.entries v → Stands c H k (with_look st l.session.0 v)
  with_looks v is = record {
    config = r.config;
    more = r.more;
    prefix = r.prefix;
    begun = r.begun;
    count = r.count;
    looks_count = put_length st.looks l.session.0 v ∙ r.looks_count;
    queries_count = r.queries_count;
    looks_in = λ s. ⊎_elim (λ e. here s e) (λ ne. subst (λ (o : Option Opened). IsIn 0 st.entries o) (sym (slot_other st.looks l.session.0 s v ne)) (r.looks_in s)) (cases_eq l.session.0 s);
  }
    where
      here : (s : ℕ) → l.session.0 ≡ s → IsIn 0 st.entries (slot (put_slot st.looks l.session.0 v) s)
      here s e = subst (λ (j : ℕ). IsIn 0 st.entries (slot (put_slot st.looks l.session.0 v) j)) e
          (subst (λ (o : Option Opened). IsIn 0 st.entries o) (sym (look_put v)) is)

  -- The five requests, in turn.

  abbrev edit_out : Act → Bool → Result DatabaseParts Breach → Reply × State
  edit_out act full made = replied l (edit_step st l act full made)

  edit_made_is : (act : Act) (full : Bool) (made : Result DatabaseParts Breach) → is_full st.entries ≡ full → edited st.config st.entries act ≡ made
      → edit_out act full made ≡ request_turn false st l (requests.Edit (Ok act)) fine
  edit_made_is act full made full_is made_is =
      sym (ap (λ (b : Bool). edit_out act b (edited st.config st.entries act)) full_is ∙ ap (λ (found : Result DatabaseParts Breach). edit_out act full found) made_is)

  not_full : k < HISTORY_EDITS → is_full st.entries ≡ false
  not_full room =
      let low : k < HISTORY_EDITS = room in
      let count : length st.entries ≡ k = r.count in
      lt-leb HISTORY_EDITS (length st.entries) (omega arith)

  -- a reply with a number, and a state
  abbrev numbered_reply : Answer → State → ℕ → Reply × State
  numbered_reply answer next n = (reply_to l (Some n) answer, next)

  numbered_as : (answer : Answer) (n j : ℕ) (next : State) → n ≡ j → numbered_reply answer next n ≡ numbered_reply answer next j
  numbered_as answer n j next same = ap (numbered_reply answer next) same

  marks_push : (act : Act) (n : ℕ) → n ≡ present st + 1 → marks_in (with_entry st (entry_of l act)) ≡ marks_in st ++ mark_of l n ∷ []
  marks_push act n is =
      let low : st.base ≤ length st.entries = r.begun in
      let left : length (drop st.base st.entries) ≡ length st.entries - st.base = length-drop st.base st.entries in
      let number : st.base + 1 + length (drop st.base st.entries) ≡ n = omega arith in
      ap (λ (es : List Entry). numbered (st.base + 1) es) (drop-append-le st.base st.entries (entry_of l act ∷ []) low)
      ∙ numbered_more (st.base + 1) (drop st.base st.entries) (entry_of l act ∷ [])
      ∙ ap (λ (j : ℕ). marks_in st ++ mark_of l j ∷ []) number

  accepted_follows : (act : Act) (n : ℕ) (command : Command) → IsAcceptance c H l act n command → n ≡ k + 1
      → Follows c H k st l (requests.Edit (Ok act)) (Some n) (Done command) (request_turn false st l (requests.Edit (Ok act)) fine)
  accepted_follows act n command right is =
      let before_is : right.before ≡ k = omega (arith, right.number, is) in
      let count : length st.entries ≡ k = r.count in
      let room : k < HISTORY_EDITS = subst (λ (j : ℕ). j < HISTORY_EDITS) before_is right.room in
      let at : slice_get (st.entries ++ r.more) (length st.entries) ≡ Some (entry_of l act) =
      ap (λ (es : List Entry). slice_get es (length st.entries)) (sym r.prefix) ∙ ap (λ (j : ℕ). slice_get H j) (count ∙ sym before_is) ∙ right.entry in
      let next : _ = next_entry st.entries r.more (entry_of l act) at in
      let n_is : n ≡ present st + 1 = omega (arith, is, count) in
      moved (requests.Edit (Ok act)) (Some n) (Done command) (reply_to l (Some n) (Done command), with_entry st (entry_of l act)) _
      (numbered_as (Done command) n (present st + 1) (with_entry st (entry_of l act)) n_is
      ∙ ap (λ (made : Command). (reply_to l (Some (present st + 1)) (Done made), with_entry st (entry_of l act))) right.own
      ∙ edit_made_is act false (Ok right.database) (not_full room) (edit_is right.before act (Ok right.database) before_is right.right))
      (record {
        reply = refl;
        there = record {
          config = r.config;
          more = next.0;
          prefix = r.prefix ∙ ap (λ (es : List Entry). st.entries ++ es) next.1 ∙ sym (append_assoc st.entries (entry_of l act ∷ []) next.0);
          begun = omega (arith, r.begun, length-append st.entries (entry_of l act ∷ []));
          count = length-append st.entries (entry_of l act ∷ []) ∙ ap (λ (j : ℕ). j + 1) count;
          looks_count = r.looks_count;
          queries_count = r.queries_count;
          looks_in = λ s. in_more 0 st.entries (entry_of l act ∷ []) (slot st.looks s) (r.looks_in s);
        };
        marks = marks_push act n n_is;
        own = refl;
        others = λ s ne. refl;
      })

  refused_edit : (act : Act) (n : ℕ) (refusal : Refusal) → IsRightAt c H false l (requests.Edit (Ok act)) n (Refused refusal) → n ≡ k
      → Follows c H k st l (requests.Edit (Ok act)) (Some n) (Refused refusal) (request_turn false st l (requests.Edit (Ok act)) (outage_in (Refused refusal)))
  refused_edit act n (refusals.Rule rule place) right is =
      let breach : Breach = record { place = right.at; rule = rule } in
      moved (requests.Edit (Ok act)) (Some n) (Refused (refusals.Rule rule place)) (reply_to l (Some n) (Refused (refusals.Rule rule place)), st) _
      (numbered_as (Refused (refusals.Rule rule place)) n (present st) st (is ∙ sym r.count)
      ∙ ap (λ (p : Option ℕ). (reply_to l (Some (present st)) (Refused (refusals.Rule rule p)), st)) right.shown
      ∙ edit_made_is act false (Err breach) (not_full (subst (λ (j : ℕ). j < HISTORY_EDITS) is right.room)) (edit_is n act (Err breach) is right.broken))
      (stays (requests.Edit (Ok act)) (Some n) (Refused (refusals.Rule rule place)) refl refl)
  refused_edit act n refusals.HistoryFull right is =
      let full : is_full st.entries ≡ true = le-leb HISTORY_EDITS (length st.entries) (omega (arith, right, is, r.count)) in
      moved (requests.Edit (Ok act)) (Some n) (Refused refusals.HistoryFull) (reply_to l (Some n) (Refused refusals.HistoryFull), st) _
      (numbered_as (Refused refusals.HistoryFull) n (present st) st (is ∙ sym r.count)
      ∙ edit_made_is act true (edited st.config st.entries act) full refl)
      (stays (requests.Edit (Ok act)) (Some n) (Refused refusals.HistoryFull) refl refl)
  refused_edit act n refusals.StoreFull right is = absurd (false≢true right.stored)
  refused_edit act n (refusals.Grid fault) right is = absurd right
  refused_edit act n (refusals.Prepare fault) right is = absurd right
  refused_edit act n (refusals.Resolve fault) right is = absurd right
  refused_edit act n refusals.TooManyTuples right is = absurd right
  refused_edit act n refusals.NotAccepted right is = absurd right
  refused_edit act n refusals.TooManyEdits right is = absurd right
  refused_edit act n refusals.NoInverse right is = absurd right
  refused_edit act n refusals.NoLook right is = absurd right
  refused_edit act n refusals.LookOpen right is = absurd right
  refused_edit act n refusals.Disk right is = absurd right
  refused_edit act n refusals.Memory right is = absurd right

  edit_alone : (act : Act) (answer : Answer) → IsRightUnnumbered false (requests.Edit (Ok act)) answer
      → Follows c H k st l (requests.Edit (Ok act)) None answer (request_turn false st l (requests.Edit (Ok act)) (outage_in answer))
  edit_alone act (Refused refusals.Memory) right = stays (requests.Edit (Ok act)) None memory refl refl
  edit_alone act (Refused refusals.Disk) right = absurd (false≢true right)
  edit_alone act (Refused refusals.LookOpen) right = absurd right
  edit_alone act (Refused refusals.NoLook) right = absurd right
  edit_alone act (Refused (refusals.Rule rule place)) right = absurd right
  edit_alone act (Refused (refusals.Grid fault)) right = absurd right
  edit_alone act (Refused (refusals.Prepare fault)) right = absurd right
  edit_alone act (Refused (refusals.Resolve fault)) right = absurd right
  edit_alone act (Refused refusals.TooManyTuples) right = absurd right
  edit_alone act (Refused refusals.NotAccepted) right = absurd right
  edit_alone act (Refused refusals.TooManyEdits) right = absurd right
  edit_alone act (Refused refusals.NoInverse) right = absurd right
  edit_alone act (Refused refusals.HistoryFull) right = absurd right
  edit_alone act (Refused refusals.StoreFull) right = absurd right
  edit_alone act (Done command) right = absurd right
  edit_alone act (Segments rows) right = absurd right

  edit_follows : (act : Act) (n : Option ℕ) (answer : Answer) → IsRightFor c m H l (requests.Edit (Ok act)) n answer
      → IsStanding (k + length (accepting l (requests.Edit (Ok act)) n answer)) (requests.Edit (Ok act)) n
      → Follows c H k st l (requests.Edit (Ok act)) n answer (request_turn false st l (requests.Edit (Ok act)) (outage_in answer))
  edit_follows act None answer right stand = edit_alone act answer right
  edit_follows act (Some n) (Done command) right stand = accepted_follows act n command right.2 stand
  edit_follows act (Some n) (Refused refusal) right stand = refused_edit act n refusal right.2 (let is : n ≡ k + 0 = stand in omega arith)
  edit_follows act (Some n) (Segments rows) right stand = absurd right.2

  -- a line whose TextGrid has a fault
  abbrev grid_out : GridFault → Bool → Reply × State
  grid_out fault short = (reply_to l (grid_number (present st) short) (grid_answer fault short), st)

  grid_alone : (fault : GridFault) (answer : Answer) → IsRightUnnumbered false (requests.Edit (Err fault)) answer
      → Follows c H k st l (requests.Edit (Err fault)) None answer (request_turn false st l (requests.Edit (Err fault)) (outage_in answer))
  grid_alone fault (Refused refusals.Memory) right = stays (requests.Edit (Err fault)) None memory refl refl
  grid_alone fault (Refused refusals.Disk) right = absurd right
  grid_alone fault (Refused refusals.LookOpen) right = absurd right
  grid_alone fault (Refused refusals.NoLook) right = absurd right
  grid_alone fault (Refused (refusals.Rule rule place)) right = absurd right
  grid_alone fault (Refused (refusals.Grid other)) right = absurd right
  grid_alone fault (Refused (refusals.Prepare other)) right = absurd right
  grid_alone fault (Refused (refusals.Resolve other)) right = absurd right
  grid_alone fault (Refused refusals.TooManyTuples) right = absurd right
  grid_alone fault (Refused refusals.NotAccepted) right = absurd right
  grid_alone fault (Refused refusals.TooManyEdits) right = absurd right
  grid_alone fault (Refused refusals.NoInverse) right = absurd right
  grid_alone fault (Refused refusals.HistoryFull) right = absurd right
  grid_alone fault (Refused refusals.StoreFull) right = absurd right
  grid_alone fault (Done command) right = absurd right
  grid_alone fault (Segments rows) right = absurd right

  grid_refused : (fault : GridFault) (n : ℕ) → is_want_of_memory fault ≡ false → n ≡ k
      → Follows c H k st l (requests.Edit (Err fault)) (Some n) (Refused (refusals.Grid fault)) (request_turn false st l (requests.Edit (Err fault)) fine)
  grid_refused fault n other is =
      moved (requests.Edit (Err fault)) (Some n) (Refused (refusals.Grid fault)) (reply_to l (Some n) (Refused (refusals.Grid fault)), st) _
      (numbered_as (Refused (refusals.Grid fault)) n (present st) st (is ∙ sym r.count) ∙ ap (λ (short : Bool). grid_out fault short) (sym other))
      (stays (requests.Edit (Err fault)) (Some n) (Refused (refusals.Grid fault)) refl refl)

  grid_follows : (fault : GridFault) (n : Option ℕ) (answer : Answer) → IsRightFor c m H l (requests.Edit (Err fault)) n answer
      → IsStanding (k + length (accepting l (requests.Edit (Err fault)) n answer)) (requests.Edit (Err fault)) n
      → Follows c H k st l (requests.Edit (Err fault)) n answer (request_turn false st l (requests.Edit (Err fault)) (outage_in answer))
  grid_follows fault None answer right stand = grid_alone fault answer right
  grid_follows fault (Some n) answer right stand =
      subst (λ (a : Answer). Follows c H k st l (requests.Edit (Err fault)) (Some n) a (request_turn false st l (requests.Edit (Err fault)) (outage_in a))) (sym right.2.told)
      (grid_refused fault n right.2.is_fault (let is : n ≡ k + 0 = stand in omega arith))

  -- a query is put under way and answered
  abbrev query_out : Ask → Option Opened → Reply × State
  query_out ask under = replied l (query_step (query_begun st l ask) l.line l.session under)

  query_answered_is : (ask : Ask) (n : ℕ) (answer : Answer) → IsRightQuery c H ask n answer → n ≡ k
      → (reply_to l (Some n) answer, with_query (query_begun st l ask) l.session.0 None) ≡ query_turn st l ask fine
  query_answered_is ask n answer right is =
      let n_is : n ≡ present st = is ∙ sym r.count in
      let low : n ≤ length st.entries = omega (arith, n_is) in
      let size : length st.queries ≡ 17 = r.queries_count in
      let below : l.session.0 < 17 = place in
      ap (λ (a : Answer). (reply_to l (Some n) a, with_query (query_begun st l ask) l.session.0 None)) (sym (answer_is n ask answer low right.given))
      ∙ ap (λ (j : ℕ). (reply_to l (Some j) (answer_at st.config st.entries j ask), with_query (query_begun st l ask) l.session.0 None)) n_is
      ∙ ap (λ (short : Bool). replied l (way_answered (query_begun st l ask) l.line l.session (opened_at st l ask) short)) (sym right.is_told)
      ∙ sym (ap (λ (o : Option Opened). query_out ask o) (slot_put st.queries l.session.0 (Some (opened_at st l ask)) (omega arith)))

  query_done : (ask : Ask) (n : ℕ) (answer : Answer) → IsRightQuery c H ask n answer → n ≡ k
      → Follows c H k st l (requests.Query ask) (Some n) answer (query_turn st l ask fine)
  query_done ask n answer right is =
      moved (requests.Query ask) (Some n) answer (reply_to l (Some n) answer, with_query (query_begun st l ask) l.session.0 None) _ (query_answered_is ask n answer right is)
      (record {
        reply = refl;
        there = record {
          config = r.config;
          more = r.more;
          prefix = r.prefix;
          begun = r.begun;
          count = let here : length st.entries ≡ k + 0 = omega (arith, r.count) in here;
          looks_count = r.looks_count;
          queries_count = put_length (put_slot st.queries l.session.0 (Some (opened_at st l ask))) l.session.0 None ∙ put_length st.queries l.session.0 (Some (opened_at st l ask)) ∙ r.queries_count;
          looks_in = r.looks_in;
        };
        marks = sym (append-nil (marks_in st));
        own = refl;
        others = λ s ne. refl;
      })

  query_alone : (ask : Ask) (answer : Answer) → IsRightUnnumbered false (requests.Query ask) answer
      → Follows c H k st l (requests.Query ask) None answer (request_turn false st l (requests.Query ask) (outage_in answer))
  query_alone ask (Refused refusals.Memory) right = stays (requests.Query ask) None memory refl refl
  query_alone ask (Refused refusals.Disk) right = absurd right
  query_alone ask (Refused refusals.LookOpen) right = absurd right
  query_alone ask (Refused refusals.NoLook) right = absurd right
  query_alone ask (Refused (refusals.Rule rule place)) right = absurd right
  query_alone ask (Refused (refusals.Grid fault)) right = absurd right
  query_alone ask (Refused (refusals.Prepare fault)) right = absurd right
  query_alone ask (Refused (refusals.Resolve fault)) right = absurd right
  query_alone ask (Refused refusals.TooManyTuples) right = absurd right
  query_alone ask (Refused refusals.NotAccepted) right = absurd right
  query_alone ask (Refused refusals.TooManyEdits) right = absurd right
  query_alone ask (Refused refusals.NoInverse) right = absurd right
  query_alone ask (Refused refusals.HistoryFull) right = absurd right
  query_alone ask (Refused refusals.StoreFull) right = absurd right
  query_alone ask (Done command) right = absurd right
  query_alone ask (Segments rows) right = absurd right

  -- a query's answer tells of no want of memory
  told_fine : (n : ℕ) (ask : Ask) (answer : Answer) → IsRightQuery c H ask n answer → fine ≡ outage_in answer
  told_fine n ask answer right =
      sym (ap outage_in right.given ∙ answers (λ told. outage_in told ≡ fine) (database_after c (take n H)) (λ rows. refl) (λ fault. refl) (λ fault. refl) refl ask right.is_told)

  query_follows : (ask : Ask) (n : Option ℕ) (answer : Answer) → IsRightFor c m H l (requests.Query ask) n answer
      → IsStanding (k + length (accepting l (requests.Query ask) n answer)) (requests.Query ask) n
      → Follows c H k st l (requests.Query ask) n answer (request_turn false st l (requests.Query ask) (outage_in answer))
  query_follows ask None answer right stand = query_alone ask answer right
  query_follows ask (Some n) answer right stand =
      subst (λ (o : Outage). Follows c H k st l (requests.Query ask) (Some n) answer (query_turn st l ask o)) (told_fine n ask answer right.2)
      (query_done ask n answer right.2 (let is : n ≡ k + 0 = stand in omega arith))

  -- a look opens where none is open
  abbrev look_out : Ask → Option Opened → Reply × State
  look_out ask open_look = replied l (look_step st l ask open_look)

  look_opens : (ask : Ask) (n : ℕ) (there : Option Opened) → n ≡ k → LookReplyFits (seen_look there) (Some n) (Done l.command) → held ≡ there
      → Follows c H k st l (requests.Look ask) (Some n) (Done l.command) (look_out ask there)
  look_opens ask n (Some other) is fits same = absurd fits
  look_opens ask n None is fits same =
      let opened : Option Opened = Some (opened_at st l ask) in
      let n_is : n ≡ present st = is ∙ sym r.count in
      moved (requests.Look ask) (Some n) (Done l.command) (reply_to l (Some n) (Done l.command), with_look st l.session.0 opened) _
      (numbered_as (Done l.command) n (present st) (with_look st l.session.0 opened) n_is)
      (record {
        reply = refl;
        there = subst (λ (j : ℕ). Stands c H j (with_look st l.session.0 opened)) (let here : k ≡ k + 0 = omega arith in here) (with_looks opened (omega arith, omega arith));
        marks = sym (append-nil (marks_in st));
        own =
            ap seen_look (look_put opened)
            ∙ ap (λ (j : ℕ). Some (record { n = j; ask = ask })) (sym n_is)
            ∙ ap (λ (o : Option Opened). open_behind (seen_look o) (requests.Look ask) (Some n)) (sym same);
        others = λ s ne. slot_other st.looks l.session.0 s opened ne;
      })

  look_refused : (ask : Ask) (there : Option Opened) → LookReplyFits (seen_look there) None (Refused refusals.LookOpen)
      → (reply_to l None (Refused refusals.LookOpen), st) ≡ look_out ask there
  look_refused ask None fits = absurd (not_memory (Refused refusals.LookOpen) refl fits)
  look_refused ask (Some other) fits = refl

  look_alone : (ask : Ask) (answer : Answer) → IsRightUnnumbered false (requests.Look ask) answer → LookReplyFits (seen_look held) None answer
      → Follows c H k st l (requests.Look ask) None answer (request_turn false st l (requests.Look ask) (outage_in answer))
  look_alone ask (Refused refusals.Memory) right fits = stays (requests.Look ask) None memory refl refl
  look_alone ask (Refused refusals.LookOpen) right fits =
      moved (requests.Look ask) None (Refused refusals.LookOpen) (reply_to l None (Refused refusals.LookOpen), st) _ (look_refused ask held fits)
      (stays (requests.Look ask) None (Refused refusals.LookOpen) refl refl)
  look_alone ask (Refused refusals.Disk) right fits = absurd right
  look_alone ask (Refused refusals.NoLook) right fits = absurd right
  look_alone ask (Refused (refusals.Rule rule place)) right fits = absurd right
  look_alone ask (Refused (refusals.Grid fault)) right fits = absurd right
  look_alone ask (Refused (refusals.Prepare fault)) right fits = absurd right
  look_alone ask (Refused (refusals.Resolve fault)) right fits = absurd right
  look_alone ask (Refused refusals.TooManyTuples) right fits = absurd right
  look_alone ask (Refused refusals.NotAccepted) right fits = absurd right
  look_alone ask (Refused refusals.TooManyEdits) right fits = absurd right
  look_alone ask (Refused refusals.NoInverse) right fits = absurd right
  look_alone ask (Refused refusals.HistoryFull) right fits = absurd right
  look_alone ask (Refused refusals.StoreFull) right fits = absurd right
  look_alone ask (Done command) right fits = absurd right
  look_alone ask (Segments rows) right fits = absurd right

  look_follows : (ask : Ask) (n : Option ℕ) (answer : Answer) → IsRightFor c m H l (requests.Look ask) n answer
      → IsStanding (k + length (accepting l (requests.Look ask) n answer)) (requests.Look ask) n
      → ReplyFits c H (seen_look held) (requests.Look ask) n answer
      → Follows c H k st l (requests.Look ask) n answer (request_turn false st l (requests.Look ask) (outage_in answer))
  look_follows ask None answer right stand fits = look_alone ask answer right fits
  look_follows ask (Some n) answer right stand fits =
      subst (λ (a : Answer). Follows c H k st l (requests.Look ask) (Some n) a (request_turn false st l (requests.Look ask) (outage_in a))) (sym right.2)
      (look_opens ask n held (let is : n ≡ k + 0 = stand in omega arith) (subst (λ (a : Answer). LookReplyFits (seen_look held) (Some n) a) right.2 fits) refl)

  -- a look is answered and closed
  abbrev finish_out : Option Opened → Reply × State
  finish_out there = replied l (finish_step st l.line l.session there)

  finish_done : (n : ℕ) (answer : Answer) (there : Option Opened) → FinishReplyFits c H (seen_look there) (Some n) answer → IsIn 0 st.entries there → held ≡ there
      → Follows c H k st l requests.Finish (Some n) answer (unless_outage st l (outage_in answer) (finish_step st l.line l.session there))
  finish_done n answer None fits is same = absurd fits
  finish_done n answer (Some other) fits is same =
      let told : _ = answer_is other.n other.ask answer is.1 fits.1.given in
      subst (λ (o : Outage). Follows c H k st l requests.Finish (Some n) answer (unless_outage st l o (finish_step st l.line l.session (Some other)))) (told_fine other.n other.ask answer fits.1)
      (moved requests.Finish (Some n) answer (reply_to l (Some n) answer, with_look st l.session.0 None) (finish_out (Some other))
      (ap (λ (j : ℕ). (reply_to l (Some j) answer, with_look st l.session.0 None)) fits.0
      ∙ ap (λ (a : Answer). (reply_to l (Some other.n) a, with_look st l.session.0 None)) (sym told)
      ∙ ap (λ (short : Bool). replied l (look_answered st l.line l.session other short)) (sym fits.1.is_told))
      (record {
        reply = refl;
        there = subst (λ (j : ℕ). Stands c H j (with_look st l.session.0 None)) (let here : k ≡ k + 0 = omega arith in here) (with_looks None tt);
        marks = sym (append-nil (marks_in st));
        own =
            ap seen_look (look_put None)
            ∙ ap (λ (o : Option Opened). open_behind (seen_look o) requests.Finish (Some n)) (sym same);
        others = λ s ne. slot_other st.looks l.session.0 s None ne;
      }))

  finish_refused : (there : Option Opened) → FinishReplyFits c H (seen_look there) None (Refused refusals.NoLook)
      → (reply_to l None (Refused refusals.NoLook), st) ≡ finish_out there
  finish_refused None fits = refl
  finish_refused (Some other) fits = absurd (not_memory (Refused refusals.NoLook) refl fits)

  finish_alone : (answer : Answer) → IsRightUnnumbered false requests.Finish answer → FinishReplyFits c H (seen_look held) None answer
      → Follows c H k st l requests.Finish None answer (request_turn false st l requests.Finish (outage_in answer))
  finish_alone (Refused refusals.Memory) right fits = stays requests.Finish None memory refl refl
  finish_alone (Refused refusals.NoLook) right fits =
      moved requests.Finish None (Refused refusals.NoLook) (reply_to l None (Refused refusals.NoLook), st) _ (finish_refused held fits)
      (stays requests.Finish None (Refused refusals.NoLook) refl refl)
  finish_alone (Refused refusals.LookOpen) right fits = absurd right
  finish_alone (Refused refusals.Disk) right fits = absurd right
  finish_alone (Refused (refusals.Rule rule place)) right fits = absurd right
  finish_alone (Refused (refusals.Grid fault)) right fits = absurd right
  finish_alone (Refused (refusals.Prepare fault)) right fits = absurd right
  finish_alone (Refused (refusals.Resolve fault)) right fits = absurd right
  finish_alone (Refused refusals.TooManyTuples) right fits = absurd right
  finish_alone (Refused refusals.NotAccepted) right fits = absurd right
  finish_alone (Refused refusals.TooManyEdits) right fits = absurd right
  finish_alone (Refused refusals.NoInverse) right fits = absurd right
  finish_alone (Refused refusals.HistoryFull) right fits = absurd right
  finish_alone (Refused refusals.StoreFull) right fits = absurd right
  finish_alone (Done command) right fits = absurd right
  finish_alone (Segments rows) right fits = absurd right

  finish_follows : (n : Option ℕ) (answer : Answer) → IsRightFor c m H l requests.Finish n answer
      → ReplyFits c H (seen_look held) requests.Finish n answer
      → Follows c H k st l requests.Finish n answer (request_turn false st l requests.Finish (outage_in answer))
  finish_follows None answer right fits = finish_alone answer right fits
  finish_follows (Some n) answer right fits = finish_done n answer held fits (r.looks_in l.session.0) refl

  after_alone : (earlier : ℕ) (answer : Answer) → IsRightUnnumbered false (requests.After earlier) answer
      → Follows c H k st l (requests.After earlier) None answer (request_turn false st l (requests.After earlier) (outage_in answer))
  after_alone earlier (Refused refusals.Memory) right = stays (requests.After earlier) None memory refl refl
  after_alone earlier (Refused refusals.Disk) right = absurd right
  after_alone earlier (Refused refusals.LookOpen) right = absurd right
  after_alone earlier (Refused refusals.NoLook) right = absurd right
  after_alone earlier (Refused (refusals.Rule rule place)) right = absurd right
  after_alone earlier (Refused (refusals.Grid fault)) right = absurd right
  after_alone earlier (Refused (refusals.Prepare fault)) right = absurd right
  after_alone earlier (Refused (refusals.Resolve fault)) right = absurd right
  after_alone earlier (Refused refusals.TooManyTuples) right = absurd right
  after_alone earlier (Refused refusals.NotAccepted) right = absurd right
  after_alone earlier (Refused refusals.TooManyEdits) right = absurd right
  after_alone earlier (Refused refusals.NoInverse) right = absurd right
  after_alone earlier (Refused refusals.HistoryFull) right = absurd right
  after_alone earlier (Refused refusals.StoreFull) right = absurd right
  after_alone earlier (Done command) right = absurd right
  after_alone earlier (Segments rows) right = absurd right

  after_follows : (earlier : ℕ) (n : Option ℕ) (answer : Answer) → IsRightFor c m H l (requests.After earlier) n answer
      → IsStanding (k + length (accepting l (requests.After earlier) n answer)) (requests.After earlier) n
      → Follows c H k st l (requests.After earlier) n answer (request_turn false st l (requests.After earlier) (outage_in answer))
  after_follows earlier None answer right stand = after_alone earlier answer right
  after_follows earlier (Some n) answer right stand =
      let is : n ≡ k + 0 = stand in
      let count : length st.entries ≡ k = r.count in
      let n_is : n ≡ present st = omega arith in
      subst (λ (a : Answer). Follows c H k st l (requests.After earlier) (Some n) a (request_turn false st l (requests.After earlier) (outage_in a))) (sym right.2)
      (moved (requests.After earlier) (Some n) (Done l.command) (reply_to l (Some n) (Done l.command), st) _ (numbered_as (Done l.command) n (present st) st n_is)
      (stays (requests.After earlier) (Some n) (Done l.command) refl refl))

  -- an `undo`

  -- an `undo` of which an act is wanted is answered as an edit
  as_undo : (earlier : ℕ) (act : Act) (n : Option ℕ) (answer : Answer) (out : Reply × State) → Follows c H k st l (requests.Edit (Ok act)) n answer out
      → Follows c H k st l (requests.Undo earlier) n answer out
  as_undo earlier act n answer out f = record { reply = f.reply; there = f.there; marks = f.marks; own = f.own; others = f.others }

  -- what the state takes back is what the marks say
  takes_there : (line : ℕ) → TakesBack c H (accepted_as l.session.0 line (marks_in st)) (taking_back st l.session.0 line)
  takes_there line =
      let low : st.base ≤ length st.entries = r.begun in
      let size : length (take st.base st.entries) ≡ st.base = length-take-le st.base st.entries low in
      let acts : List KeptAct = kept_in st in
      let are : AreKept c (take st.base st.entries ++ drop st.base st.entries) (marks_in st) acts =
      subst (λ (d : ConfigParts). AreKept d (take st.base st.entries ++ drop st.base st.entries) (marks_in st) (kept_behind st.config (take st.base st.entries) (drop st.base st.entries))) r.config
      (subst (λ (j : ℕ). AreKept st.config (take st.base st.entries ++ drop st.base st.entries) (numbered (j + 1) (drop st.base st.entries)) (kept_in st)) size
      (history_kept st.config (take st.base st.entries) (drop st.base st.entries))) in
      kept_takes_back c H (marks_in st) acts l.session.0 line
      (subst (λ (es : List Entry). AreKept c es (marks_in st) acts) (sym r.prefix)
      (are_kept_more c st.entries r.more (marks_in st) acts
      (subst (λ (es : List Entry). AreKept c es (marks_in st) acts) (take-append-drop st.base st.entries) are)))

  -- an `undo` by what the state takes back
  abbrev undo_out : Option (Result Act NoUndo) → Outage → Reply × State
  undo_out inverse outage = undo_turn false st l inverse outage

  undo_alone : (earlier : ℕ) (refusal : Refusal) (out : Reply × State) → (reply_to l None (Refused refusal), st) ≡ out
      → Follows c H k st l (requests.Undo earlier) None (Refused refusal) out
  undo_alone earlier refusal out is =
      moved (requests.Undo earlier) None (Refused refusal) (reply_to l None (Refused refusal), st) out is (stays (requests.Undo earlier) None (Refused refusal) refl refl)

  -- an answer that is one of two
  undo_one : (earlier : ℕ) (inverse : Option (Result Act NoUndo)) (refusal : Refusal) (answer : Answer) → outage_in (Refused refusal) ≡ fine
      → (reply_to l None (Refused refusal), st) ≡ undo_out inverse fine → (reply_to l None memory, st) ≡ undo_out inverse at_first
      → (answer ≡ Refused refusal) ⊎ (answer ≡ memory)
      → Follows c H k st l (requests.Undo earlier) None answer (undo_out inverse (outage_in answer))
  undo_one earlier inverse refusal answer told here short is =
      ⊎_elim
      (λ same.
      subst (λ (a : Answer). Follows c H k st l (requests.Undo earlier) None a (undo_out inverse (outage_in a))) (sym same)
      (subst (λ (o : Outage). Follows c H k st l (requests.Undo earlier) None (Refused refusal) (undo_out inverse o)) (sym told)
      (undo_alone earlier refusal (undo_out inverse fine) here)))
      (λ same.
      subst (λ (a : Answer). Follows c H k st l (requests.Undo earlier) None a (undo_out inverse (outage_in a))) (sym same)
      (undo_alone earlier refusals.Memory (undo_out inverse at_first) short))
      is

  undo_told : (fault : NoUndo) → outage_in (Refused (undo_refusal fault)) ≡ fine
  undo_told reasons.NoInverse = refl
  undo_told reasons.TooManyEdits = refl

  undo_by : (earlier : ℕ) (inverse : Option (Result Act NoUndo)) (n : Option ℕ) (answer : Answer) → IsRightFor c m H l (requests.Undo earlier) n answer
      → IsStanding (k + length (accepting l (requests.Undo earlier) n answer)) (requests.Undo earlier) n
      → UndoAnswers c H false l inverse n answer
      → Follows c H k st l (requests.Undo earlier) n answer (undo_out inverse (outage_in answer))
  undo_by earlier None None answer right stand is = undo_one earlier None refusals.NotAccepted answer refl refl refl is
  undo_by earlier None (Some n) answer right stand is = absurd is
  undo_by earlier (Some (Err fault)) None answer right stand is = undo_one earlier (Some (Err fault)) (undo_refusal fault) answer (undo_told fault) refl refl is
  undo_by earlier (Some (Err fault)) (Some n) answer right stand is = absurd is
  undo_by earlier (Some (Ok act)) None answer right stand is =
      ⊎_elim
      (λ same.
      subst (λ (a : Answer). Follows c H k st l (requests.Undo earlier) None a (undo_out (Some (Ok act)) (outage_in a))) (sym same)
      (undo_alone earlier refusals.Memory (undo_out (Some (Ok act)) at_first) refl))
      (λ failed. absurd (false≢true failed.0))
      is
  undo_by earlier (Some (Ok act)) (Some n) answer right stand is =
      as_undo earlier act (Some n) answer (undo_out (Some (Ok act)) (outage_in answer))
      (edit_follows act (Some n) answer (right.0, right.1, is) stand)

  undo_follows : (earlier : ℕ) (n : Option ℕ) (answer : Answer) → IsRightFor c m H l (requests.Undo earlier) n answer
      → IsStanding (k + length (accepting l (requests.Undo earlier) n answer)) (requests.Undo earlier) n
      → ReplyUndoes c H false (marks_in st) l (requests.Undo earlier) n answer
      → Follows c H k st l (requests.Undo earlier) n answer (request_turn false st l (requests.Undo earlier) (outage_in answer))
  undo_follows earlier n answer right stand undoes =
      let one : undoes.inverse ≡ taking_back st l.session.0 earlier =
      takes_one c H (accepted_as l.session.0 earlier (marks_in st)) undoes.inverse (taking_back st l.session.0 earlier) undoes.takes (takes_there earlier) in
      subst (λ (i : Option (Result Act NoUndo)). Follows c H k st l (requests.Undo earlier) n answer (undo_out i (outage_in answer))) one
      (undo_by earlier undoes.inverse n answer right stand undoes.answers)

  pub follows : (request : Request) (n : Option ℕ) (answer : Answer) → IsRightFor c m H l request n answer
      → IsStanding (k + length (accepting l request n answer)) request n → ReplyFits c H (seen_look (slot st.looks l.session.0)) request n answer
      → ReplyUndoes c H false (marks_in st) l request n answer
      → Follows c H k st l request n answer (request_turn false st l request (outage_in answer))
  follows (requests.Edit (Ok act)) n answer right stand fits undoes = edit_follows act n answer right stand
  follows (requests.Edit (Err fault)) n answer right stand fits undoes = grid_follows fault n answer right stand
  follows (requests.Undo earlier) n answer right stand fits undoes = undo_follows earlier n answer right stand undoes
  follows (requests.Query ask) n answer right stand fits undoes = query_follows ask n answer right stand
  follows (requests.Look ask) n answer right stand fits undoes = look_follows ask n answer right stand fits
  follows requests.Finish n answer right stand fits undoes = finish_follows n answer right fits
  follows (requests.After earlier) n answer right stand fits undoes = after_follows earlier n answer right stand
