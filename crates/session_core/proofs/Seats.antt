-- What a run of the core keeps true: of the whole, and of each session.
use Rattle.std.proofs.Common.{◌≡◌, ◌≢◌, ⊎_elim, ℕ, zero, suc, ◌+◌, ◌<◌, ◌≤◌, Bool, false, List, [], ◌∷◌, ◌++◌, length, Option, Some, None, Result, Ok, Err, take, option_map, refl, sym, ◌∙◌, ap, subst, arith, append_assoc, length-append}
use Rattle.std.proofs.lemmas.Bool.{cases_eq}
use Rattle.std.proofs.lemmas.List.{append-nil, take-append-le}
use Rattle.emu_names.specs.declared.kinds.SessionNo.{SessionNo}
use Rattle.emu_names.specs.declared.limits.TheConstants.{HISTORY_EDITS}
use Rattle.db_config.specs.declared.parts.ConfigParts.{ConfigParts}
use Rattle.edit_undo.specs.edit_rules.declared.acts.Act.{Act}
use Rattle.edit_undo.specs.edit_rules.declared.acts.Entry.{Entry}
use Rattle.session_core.specs.declared.line.Ask.{Ask}
use Rattle.session_core.specs.declared.line.Answer.{Answer}
use Rattle.session_core.specs.declared.line.Answer.TheVariants.{Done, Segments, Refused}
use Rattle.session_core.specs.declared.line.Refusal.{Refusal}
use Rattle.session_core.specs.declared.line.Refusal.TheVariants as refusals
use Rattle.session_core.specs.declared.line.Request.{Request}
use Rattle.session_core.specs.declared.line.Request.TheVariants as requests
use Rattle.session_core.specs.declared.line.Line.{Line}
use Rattle.edit_undo.specs.edit_rules.Effects.{IsLegal, edited, database_after}
use Rattle.edit_undo.specs.declared.faults.NoUndo.{NoUndo}
use Rattle.session_core.specs.Answers.{answer_over, answer_at, entry_of}
use Rattle.session_core.specs.Steps.{Opened, slot, session_places}
use Rattle.session_core.specs.Worlds.{Turn, World, Each, query_answered, passes_store}
use Rattle.session_core.specs.Legal.{IsNamed, of_session, lines_of_session, is_of, lines_in, Mark, accepting, accepted, numbered, IsRightRefusal, IsRightEdit, IsRightQuery, IsRightAt, IsRight, IsRightTurn, low_behind, KeepsUp, NeverFalls, Look, open_behind, FinishReplyFits, ReplyFits, LooksFit, replies_in, disk_replies, accepted_as, TakesBack, UndoAnswers, UndoFits, ReplyUndoes, UndosFit}
use Rattle.session_core.proofs.Undoing.{slice_get_more, takes_more, undos_push}
use Rattle.session_core.proofs.Turns.{each_push, each_map, each_filter, turns_own, turns_other, lines_push, accepted_push, numbered_more, low_of, falls_push, low_push, held_of, looks_push, held_push, IsPast, IsTo, HasSeenStill, all_still, disk_of, disks_push}

-- A longer history changes nothing of what was said of a shorter one.

pub answer_same : (c : ConfigParts) (H new : List Entry) (n : ℕ) (ask : Ask) → n ≤ length H → answer_at c (H ++ new) n ask ≡ answer_at c H n ask
answer_same c H new n ask high = ap (λ (xs : List Entry). answer_over (database_after c xs) ask) (take-append-le n H new high)

edited_same : (c : ConfigParts) (H new : List Entry) (n : ℕ) (act : Act) → n ≤ length H → edited c (take n (H ++ new)) act ≡ edited c (take n H) act
edited_same c H new n act high = ap (λ (xs : List Entry). edited c xs act) (take-append-le n H new high)

module _ (store : Bool) (c : ConfigParts) (m : ℕ) (H new : List Entry) where
  refusal_more : (l : Line) (act : Act) (n : ℕ) (r : Refusal) → n ≤ length H → IsRightRefusal c H store l act n r → IsRightRefusal c (H ++ new) store l act n r
  refusal_more l act n (refusals.Rule rule place) high right = record {
    room = right.room;
    at = right.at;
    broken = edited_same c H new n act high ∙ right.broken;
    shown = right.shown;
  }
  refusal_more l act n refusals.HistoryFull high right = right
  refusal_more l act n refusals.StoreFull high right = record {
    room = right.room;
    stored = right.stored;
    database = right.database;
    right = edited_same c H new n act high ∙ right.right;
    passes = ap (λ (xs : List Entry). passes_store c xs (entry_of l act)) (take-append-le n H new high) ∙ right.passes;
  }
  refusal_more l act n (refusals.Grid fault) high right = right
  refusal_more l act n (refusals.Prepare fault) high right = right
  refusal_more l act n (refusals.Resolve fault) high right = right
  refusal_more l act n refusals.TooManyTuples high right = right
  refusal_more l act n refusals.NotAccepted high right = right
  refusal_more l act n refusals.TooManyEdits high right = right
  refusal_more l act n refusals.NoInverse high right = right
  refusal_more l act n refusals.NoLook high right = right
  refusal_more l act n refusals.LookOpen high right = right
  refusal_more l act n refusals.Disk high right = right
  refusal_more l act n refusals.Memory high right = right

  edit_more : (l : Line) (act : Act) (n : ℕ) (answer : Answer) → n ≤ length H → IsRightEdit c H store l act n answer → IsRightEdit c (H ++ new) store l act n answer
  edit_more l act n (Done command) high right =
      let n_is : n ≡ right.before + 1 = right.number in
      let low : right.before < length H = omega arith in
      let low_le : right.before ≤ length H = omega arith in
      record {
        own = right.own;
        before = right.before;
        number = right.number;
        room = right.room;
        database = right.database;
        right = edited_same c H new right.before act low_le ∙ right.right;
        entry = slice_get_more H new right.before low ∙ right.entry;
      }
  edit_more l act n (Refused refusal) high right = refusal_more l act n refusal high right
  edit_more l act n (Segments rows) high right = right

  query_more : (ask : Ask) (n : ℕ) (answer : Answer) → n ≤ length H → IsRightQuery c H ask n answer → IsRightQuery c (H ++ new) ask n answer
  query_more ask n answer high right = record {
    given = right.given ∙ sym (answer_same c H new n ask high);
    is_told = right.is_told;
  }

  right_at_more : (l : Line) (r : Request) (n : ℕ) (answer : Answer) → n ≤ length H → IsRightAt c H store l r n answer → IsRightAt c (H ++ new) store l r n answer
  right_at_more l (requests.Edit (Ok act)) n answer high right = edit_more l act n answer high right
  right_at_more l (requests.Edit (Err fault)) n answer high right = right
  right_at_more l (requests.Undo earlier) n answer high right = record { act = right.act; right = edit_more l right.act n answer high right.right }
  right_at_more l (requests.Query ask) n answer high right = query_more ask n answer high right
  right_at_more l (requests.Look ask) n answer high right = right
  right_at_more l (requests.After earlier) n answer high right = right
  right_at_more l requests.Finish n answer high right = tt

  right_more : (l : Line) (n : Option ℕ) (answer : Answer) → IsRight c m H store l n answer → IsRight c m (H ++ new) store l n answer
  right_more l None answer right = right
  right_more l (Some n) answer right = (right.0, omega (arith, right.1, length-append H new), right_at_more l l.request n answer right.1 right.2)

  pub rights_more : (ts : List Turn) → Each (IsRightTurn c m H store) ts → Each (IsRightTurn c m (H ++ new) store) ts
  rights_more ts each = each_map (IsRightTurn c m H store) (IsRightTurn c m (H ++ new) store) (λ t right. right_more t.line t.reply.n t.reply.answer right) ts each

  right_to : (l : Line) (n : Option ℕ) (answer : Answer) → IsRight c m H store l n answer → IsTo (length H) n
  right_to l None answer right = tt
  right_to l (Some n) answer right = right.1

  pub rights_to : (ts : List Turn) → Each (IsRightTurn c m H store) ts → Each (λ t. IsTo (length H) t.reply.n) ts
  rights_to ts each = each_map (IsRightTurn c m H store) (λ t. IsTo (length H) t.reply.n) (λ t right. right_to t.line t.reply.n t.reply.answer right) ts each

  finish_more : (held : Option Look) (n : Option ℕ) (answer : Answer) → IsTo (length H) n → FinishReplyFits c H held n answer → FinishReplyFits c (H ++ new) held n answer
  finish_more None (Some n) answer to fits = fits
  finish_more None None answer to fits = fits
  finish_more (Some held) (Some n) answer to fits =
      let n_is : n ≡ held.n = fits.0 in
      let high : held.n ≤ length H = omega (arith, to) in
      (fits.0, query_more held.ask held.n answer high fits.1)
  finish_more (Some held) None answer to fits = fits

  fits_more : (held : Option Look) (r : Request) (n : Option ℕ) (answer : Answer) → IsTo (length H) n → ReplyFits c H held r n answer → ReplyFits c (H ++ new) held r n answer
  fits_more held (requests.Look ask) n answer to fits = fits
  fits_more held requests.Finish n answer to fits = finish_more held n answer to fits
  fits_more held (requests.Edit given) n answer to fits = fits
  fits_more held (requests.Undo earlier) n answer to fits = fits
  fits_more held (requests.Query ask) n answer to fits = fits
  fits_more held (requests.After earlier) n answer to fits = fits

  looks_more : (held : Option Look) (ts : List Turn) → Each (λ t. IsTo (length H) t.reply.n) ts → LooksFit c H held ts → LooksFit c (H ++ new) held ts
  looks_more held [] to looks = tt
  looks_more held (t ∷ ts) to looks =
      (fits_more held t.line.request t.reply.n t.reply.answer to.0 looks.0, looks_more (open_behind held t.line.request t.reply.n) ts to.1 looks.1)

  answers_more : (l : Line) (inverse : Option (Result Act NoUndo)) (n : Option ℕ) (answer : Answer) → IsTo (length H) n
      → UndoAnswers c H store l inverse n answer → UndoAnswers c (H ++ new) store l inverse n answer
  answers_more l None None answer to answers = answers
  answers_more l None (Some n) answer to answers = absurd answers
  answers_more l (Some (Err fault)) None answer to answers = answers
  answers_more l (Some (Err fault)) (Some n) answer to answers = absurd answers
  answers_more l (Some (Ok act)) None answer to answers = answers
  answers_more l (Some (Ok act)) (Some n) answer to answers = edit_more l act n answer to answers

  pub undoes_more : (marks : List Mark) (l : Line) (r : Request) (n : Option ℕ) (answer : Answer) → IsTo (length H) n
      → ReplyUndoes c H store marks l r n answer → ReplyUndoes c (H ++ new) store marks l r n answer
  undoes_more marks l (requests.Undo earlier) n answer to undoes = record {
    inverse = undoes.inverse;
    takes = takes_more c H new (accepted_as l.session.0 earlier marks) undoes.inverse undoes.takes;
    answers = answers_more l undoes.inverse n answer to undoes.answers;
  }
  undoes_more marks l (requests.Edit given) n answer to undoes = tt
  undoes_more marks l (requests.Query ask) n answer to undoes = tt
  undoes_more marks l (requests.Look ask) n answer to undoes = tt
  undoes_more marks l requests.Finish n answer to undoes = tt
  undoes_more marks l (requests.After earlier) n answer to undoes = tt

  undos_more : (marks : List Mark) (ts : List Turn) → Each (λ t. IsTo (length H) t.reply.n) ts → UndosFit c H store marks ts → UndosFit c (H ++ new) store marks ts
  undos_more marks [] to fit = tt
  undos_more marks (t ∷ ts) to fit = (
    undoes_more marks t.line t.line.request t.reply.n t.reply.answer to.0 fit.0,
    undos_more (marks ++ accepting t.line t.line.request t.reply.n t.reply.answer) ts to.1 fit.1,
  )

-- One session.

-- the session of a number
abbrev pub session_no : ℕ → SessionNo
session_no s = record { 0 = s }

abbrev pub look_of : Opened → Look
look_of held = record { n = held.n; ask = held.ask }

-- an open look's number is one of the run's
abbrev pub IsIn : ℕ → List Entry → Option Opened → Type 0
IsIn m H None = Unit {0}
IsIn m H (Some held) = (m ≤ held.n) × (held.n ≤ length H)

-- the query under way has a number that does not fall, and a line behind all that were answered
abbrev pub IsWaiting : ℕ → List Entry → List Turn → Option Opened → Type 0
IsWaiting low H ts None = Unit {0}
IsWaiting low H ts (Some held) = (low ≤ held.n) × (held.n ≤ length H) × Each (λ t. t.line.line < held.line) ts

-- the turns and lines of a session, with its open look and its query under way
pub record Seat (store : Bool) (c : ConfigParts) (m : ℕ) (H : List Entry) (s : ℕ) (ts : List Turn) (ls : List Line) (look query : Option Opened) : Type 0 where
  pub lines : ls ≡ lines_in ts ++ query_answered (session_no s) query
  pub falls : NeverFalls m ts
  pub from : m ≤ low_of m ts
  pub low : low_of m ts ≤ length H
  pub looks : LooksFit c H None ts
  pub held : held_of None ts ≡ option_map look_of look
  pub look_in : IsIn m H look
  pub undos : UndosFit c H store [] ts
  pub waits : IsWaiting (low_of m ts) H ts query

pub in_more : (m : ℕ) (H new : List Entry) (look : Option Opened) → IsIn m H look → IsIn m (H ++ new) look
in_more m H new None is = tt
in_more m H new (Some held) is = (is.0, omega (arith, is.1, length-append H new))

waits_more : (low : ℕ) (H new : List Entry) (ts : List Turn) (query : Option Opened) → IsWaiting low H ts query → IsWaiting low (H ++ new) ts query
waits_more low H new ts None is = tt
waits_more low H new ts (Some held) is = (is.0, omega (arith, is.1, length-append H new), is.2)

pub seat_more : (store : Bool) (c : ConfigParts) (m : ℕ) (H new : List Entry) (s : ℕ) (ts : List Turn) (ls : List Line) (look query : Option Opened) → Each (λ t. IsTo (length H) t.reply.n) ts
    → Seat store c m H s ts ls look query → Seat store c m (H ++ new) s ts ls look query
seat_more store c m H new s ts ls look query to seat = record {
  lines = seat.lines;
  falls = seat.falls;
  from = seat.from;
  low = omega (arith, seat.low, length-append H new);
  looks = looks_more store c m H new None ts to seat.looks;
  held = seat.held;
  look_in = in_more m H new look seat.look_in;
  undos = undos_more store c m H new [] ts to seat.undos;
  waits = waits_more (low_of m ts) H new ts query seat.waits;
}

-- a reply came in this session, and no query is under way now
pub seat_told : (store : Bool) (c : ConfigParts) (m : ℕ) (H : List Entry) (s : ℕ) (ts : List Turn) (ls : List Line) (look query : Option Opened) → Seat store c m H s ts ls look query
    → (t : Turn) (ls' : List Line) (look' : Option Opened)
    → KeepsUp (low_of m ts) t.line.request t.reply.n
    → m ≤ low_behind (low_of m ts) t.line.request t.reply.n
    → low_behind (low_of m ts) t.line.request t.reply.n ≤ length H
    → ReplyFits c H (option_map look_of look) t.line.request t.reply.n t.reply.answer
    → open_behind (option_map look_of look) t.line.request t.reply.n ≡ option_map look_of look'
    → IsIn m H look'
    → ReplyUndoes c H store (accepted ts) t.line t.line.request t.reply.n t.reply.answer
    → ls' ≡ lines_in ts ++ t.line ∷ []
    → Seat store c m H s (ts ++ t ∷ []) ls' look' None
seat_told store c m H s ts ls look query seat t ls' look' keeps from low fits opens in_there undoes lines = record {
  lines = lines ∙ sym (lines_push ts t) ∙ sym (append-nil (lines_in (ts ++ t ∷ [])));
  falls = falls_push m ts t seat.falls keeps;
  from = subst (λ (k : ℕ). m ≤ k) (sym (low_push m ts t)) from;
  low = subst (λ (k : ℕ). k ≤ length H) (sym (low_push m ts t)) low;
  looks = looks_push c H None ts t seat.looks (subst (λ (o : Option Look). ReplyFits c H o t.line.request t.reply.n t.reply.answer) (sym seat.held) fits);
  held = held_push None ts t ∙ ap (λ (o : Option Look). open_behind o t.line.request t.reply.n) seat.held ∙ opens;
  look_in = in_there;
  undos = undos_push c H store [] ts t seat.undos undoes;
  waits = tt;
}

-- The whole.

-- `store` says whether there is a store; the disk failed at most so often
pub record Good (opening : List Entry) (store : Bool) (faults : ℕ) (w : World) : Type 0 where
  pub more : List Entry
  pub prefix : w.state.entries ≡ opening ++ more
  pub begun : w.state.base ≡ length opening
  pub most : length w.state.entries ≤ HISTORY_EDITS
  pub legal : IsLegal w.state.config w.state.entries
  pub marks : accepted w.turns ≡ numbered (length opening + 1) more
  pub named : Each IsNamed w.turns
  pub right : Each (IsRightTurn w.state.config (length opening) w.state.entries store) w.turns
  pub still : Each (λ t. HasSeenStill (length opening) w.turns t.line.request t.reply.n) w.turns
  pub disks : disk_replies (replies_in w.turns) ≤ faults
  pub looks_count : length w.state.looks ≡ session_places
  pub queries_count : length w.state.queries ≡ session_places
  pub seats : (s : ℕ) → Seat store w.state.config (length opening) w.state.entries s (of_session s w.turns) (lines_of_session s w.lines) (slot w.state.looks s) (slot w.state.queries s)

abbrev pub world_of : ConfigParts → ℕ → List Entry → List (Option Opened) → List (Option Opened) → List Line → List Turn → World
world_of c base H looks queries lines turns = record {
  state = record { config = c; entries = H; base = base; looks = looks; queries = queries };
  lines = lines;
  turns = turns;
}

-- a reply that fits into what is kept
pub record Adds (opening : List Entry) (store : Bool) (faults faults' : ℕ) (w : World) (H : List Entry) (looks queries : List (Option Opened)) (come : List Line) (t : Turn) (new : List Entry) : Type 0 where
  pub grown : H ≡ w.state.entries ++ new
  pub most : length H ≤ HISTORY_EDITS
  pub legal : IsLegal w.state.config H
  pub mark : accepting t.line t.line.request t.reply.n t.reply.answer ≡ numbered (length w.state.entries + 1) new
  pub named : IsNamed t
  pub right : IsRightTurn w.state.config (length opening) H store t
  pub still : HasSeenStill (length opening) w.turns t.line.request t.reply.n
  pub past : IsPast t w.turns
  pub disks : faults + disk_of t.reply.answer ≤ faults'
  pub looks_count : length looks ≡ session_places
  pub queries_count : length queries ≡ session_places
  pub other_looks : (s : ℕ) → t.line.session.0 ≢ s → slot looks s ≡ slot w.state.looks s
  pub other_queries : (s : ℕ) → t.line.session.0 ≢ s → slot queries s ≡ slot w.state.queries s
  pub other_lines : (s : ℕ) → t.line.session.0 ≢ s → lines_of_session s (w.lines ++ come) ≡ lines_of_session s w.lines
  pub own : Seat store w.state.config (length opening) H t.line.session.0 (of_session t.line.session.0 w.turns ++ t ∷ [])
      (lines_of_session t.line.session.0 (w.lines ++ come)) (slot looks t.line.session.0) (slot queries t.line.session.0)

module _ (opening : List Entry) (store : Bool) (faults faults' : ℕ) (w : World) (H : List Entry) (looks queries : List (Option Opened)) (come : List Line) (t : Turn) (new : List Entry) where
  abbrev SeatThere : ℕ → Type 0
  SeatThere s = Seat store w.state.config (length opening) H s (of_session s (w.turns ++ t ∷ [])) (lines_of_session s (w.lines ++ come)) (slot looks s) (slot queries s)

  -- the old seat of a session beside the longer history
  pub old_seat : Good opening store faults w → H ≡ w.state.entries ++ new → (s : ℕ)
      → Seat store w.state.config (length opening) H s (of_session s w.turns) (lines_of_session s w.lines) (slot w.state.looks s) (slot w.state.queries s)
  old_seat g grown s =
      subst (λ (xs : List Entry). Seat store w.state.config (length opening) xs s (of_session s w.turns) (lines_of_session s w.lines) (slot w.state.looks s) (slot w.state.queries s)) (sym grown)
      (seat_more store w.state.config (length opening) w.state.entries new s (of_session s w.turns) (lines_of_session s w.lines) (slot w.state.looks s) (slot w.state.queries s)
      (each_filter (λ u. IsTo (length w.state.entries) u.reply.n) (is_of s) w.turns (rights_to store w.state.config (length opening) w.state.entries new w.turns g.right))
      (g.seats s))

  own_seat : Adds opening store faults faults' w H looks queries come t new → (s : ℕ) → t.line.session.0 ≡ s → SeatThere s
  own_seat a s e = subst SeatThere e
      (subst (λ (ts : List Turn). Seat store w.state.config (length opening) H t.line.session.0 ts (lines_of_session t.line.session.0 (w.lines ++ come)) (slot looks t.line.session.0) (slot queries t.line.session.0))
      (sym (turns_own t.line.session.0 w.turns t refl)) a.own)

  other_seat : Good opening store faults w → Adds opening store faults faults' w H looks queries come t new → (s : ℕ) → t.line.session.0 ≢ s → SeatThere s
  other_seat g a s ne =
      subst (λ (ts : List Turn). Seat store w.state.config (length opening) H s ts (lines_of_session s (w.lines ++ come)) (slot looks s) (slot queries s)) (sym (turns_other s w.turns t ne))
      (subst (λ (ls : List Line). Seat store w.state.config (length opening) H s (of_session s w.turns) ls (slot looks s) (slot queries s)) (sym (a.other_lines s ne))
      (subst (λ (look : Option Opened). Seat store w.state.config (length opening) H s (of_session s w.turns) (lines_of_session s w.lines) look (slot queries s)) (sym (a.other_looks s ne))
      (subst (λ (query : Option Opened). Seat store w.state.config (length opening) H s (of_session s w.turns) (lines_of_session s w.lines) (slot w.state.looks s) query) (sym (a.other_queries s ne))
      (old_seat g a.grown s))))

  -- the run goes on by a reply
  pub added : Good opening store faults w → Adds opening store faults faults' w H looks queries come t new → Good opening store faults' (world_of w.state.config w.state.base H looks queries (w.lines ++ come) (w.turns ++ t ∷ []))
  added g a =
      let count : length w.state.entries ≡ length opening + length g.more = ap length g.prefix ∙ length-append opening g.more in
      let number : (length opening + 1) + length g.more ≡ length w.state.entries + 1 = omega arith in
      record {
        more = g.more ++ new;
        prefix = a.grown ∙ ap (λ (xs : List Entry). xs ++ new) g.prefix ∙ append_assoc opening g.more new;
        begun = g.begun;
        most = a.most;
        legal = a.legal;
        marks =
            accepted_push w.turns t
            ∙ ap (λ (ms : List Mark). ms ++ accepting t.line t.line.request t.reply.n t.reply.answer) g.marks
            ∙ ap (λ (ms : List Mark). numbered (length opening + 1) g.more ++ ms) (a.mark ∙ ap (λ (k : ℕ). numbered k new) (sym number))
            ∙ sym (numbered_more (length opening + 1) g.more new);
        named = each_push IsNamed w.turns t g.named a.named;
        right = each_push (IsRightTurn w.state.config (length opening) H store) w.turns t
            (subst (λ (xs : List Entry). Each (IsRightTurn w.state.config (length opening) xs store) w.turns) (sym a.grown) (rights_more store w.state.config (length opening) w.state.entries new w.turns g.right))
            a.right;
        still = all_still (length opening) w.turns t a.past g.still a.still;
        disks = omega (arith, disks_push w.turns t, g.disks, a.disks);
        looks_count = a.looks_count;
        queries_count = a.queries_count;
        seats = λ s. ⊎_elim (λ e. own_seat a s e) (λ ne. other_seat g a s ne) (cases_eq t.line.session.0 s);
      }
