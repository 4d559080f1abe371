-- What the moves of the parts mean for the state that the parts stand for.
use Rattle.std.proofs.Common.{◌≡◌, ◌≤◌, ℕ, zero, suc, Bool, true, false, List, [], ◌∷◌, ◌++◌, length, take, drop, replicate, Option, Some, None, Result, Ok, Err, IfOk, OnErr, refl, ap, sym, subst, arith, ◌∙◌}
use Rattle.std.proofs.lemmas.List.{take-append-le, length-append, take_all}
use Rattle.std.specs.Option.{option_map}
use Rattle.emu_names.specs.declared.kinds.SessionNo.{SessionNo}
use Rattle.edit_undo.specs.edit_rules.declared.acts.Breach.{Breach}
use Rattle.emu_names.specs.declared.shortage.Memory.{Memory}
use Rattle.db_config.specs.declared.parts.ConfigParts.{ConfigParts}
use Rattle.textgrid.specs.declared.fault.GridFault.{GridFault}
use Rattle.edit_undo.specs.edit_rules.Database.{DatabaseParts, empty_database}
use Rattle.edit_undo.specs.edit_rules.declared.acts.Act.{Act}
use Rattle.edit_undo.specs.edit_rules.declared.acts.Entry.{Entry}
use Rattle.session_core.specs.declared.line.Answer.TheVariants.{Refused}
use Rattle.session_core.specs.declared.line.Refusal.{Refusal}
use Rattle.session_core.specs.declared.line.Ask.{Ask}
use Rattle.session_core.specs.declared.line.Line.{Line}
use Rattle.session_core.specs.declared.line.Reply.{Reply}
use Rattle.session_core.specs.declared.line.Request.{Request}
use Rattle.session_core.specs.declared.line.Request.TheVariants as requests
use Rattle.session_core.specs.declared.slots.Held.{Held}
use Rattle.session_core.specs.declared.head.Head.{Head}
use Rattle.edit_undo.specs.edit_rules.Effects.{after, effect, edited, database_after, found_or}
use Rattle.edit_undo.proofs.of_edit_rules.Replay.{replay_goes_on}
use Rattle.session_core.specs.Answers.{rule_refusal}
use Rattle.session_core.specs.Queries.{lacks_memory}
use Rattle.session_core.specs.Steps.{State, slot, put_slot, is_full, session_places, start, edit_event, look_event, undo_step, edit_step, look_step, finish_step, look_answered, query_step, way_answered, with_query, opened_at, query_fails}
use Rattle.session_core.specs.Inner.Kept.{head_line, head_reply, opened_by, opened_in, state_of, IsMoment, IsHeld, AreHeld, IsKept, head_entry, held_at, Tried, edit_accepted, edit_tried, edit_tried_step, given_tried, undo_tried, looked, look_closed, look_answer, query_closed, query_reply, query_dropped}
use Rattle.edit_undo.specs.declared.faults.NoUndo.{NoUndo}
use Rattle.edit_undo.specs.Inverse.{inverse_at}
use Rattle.session_core.specs.declared.kept_acts.KeptAct.{KeptAct}
use Rattle.session_core.specs.Undos.{kept_act, kept_behind, kept_of, latest_of}
use Rattle.session_core.proofs.Undoing.{kept_none, kept_push}
use Rattle.session_core.proofs.SlotPlaces.{slot_put, length_put_slot, slot_map, put_slot_map}

-- A history that grows.

moment_longer : (c : ConfigParts) (H more : List Entry) (held : Held) → IsMoment c H held → IsMoment c (H ++ more) held
moment_longer c H more held m = record {
  past = omega (arith, m.past, length-append H more);
  database = rw (take-append-le held.n H more m.past) m.database;
}

held_longer : (c : ConfigParts) (H more : List Entry) (o : Option Held) → IsHeld c H o → IsHeld c (H ++ more) o
held_longer c H more None h = tt
held_longer c H more (Some held) h = moment_longer c H more held h

pub slots_longer : (c : ConfigParts) (H more : List Entry) (xs : List (Option Held)) → AreHeld c H xs → AreHeld c (H ++ more) xs
slots_longer c H more xs h = record {
  places = h.places;
  each = λ s. held_longer c H more (slot xs s) (h.each s);
}

slots_put : (c : ConfigParts) (H : List Entry) (xs : List (Option Held)) (s : ℕ) (v : Option Held) → IsHeld c H v → AreHeld c H xs → AreHeld c H (put_slot xs s v)
slots_put c H xs s v new h = record {
  places = length_put_slot xs s v ∙ h.places;
  each = slot_put (λ o. IsHeld c H o) xs s v new h.each;
}

moment_now : (c : ConfigParts) (H : List Entry) (bs : DatabaseParts) (head : Head) (ask : Ask) → after c H ≡ Ok bs → IsMoment c H (held_at head ask (length H) bs)
moment_now c H bs head ask e = record {
  past = omega arith;
  database = rw (take_all (length H) H (omega arith)) e;
}

-- The beginning.

empty_each : (c : ConfigParts) (H : List Entry) (n s : ℕ) → IsHeld c H (slot (replicate n None) s)
empty_each c H zero s = tt
empty_each c H (suc n) zero = tt
empty_each c H (suc n) (suc s) = empty_each c H n s

pub slots_empty : (c : ConfigParts) (H : List Entry) → AreHeld c H (replicate session_places None)
slots_empty c H = record {
  places = refl;
  each = empty_each c H session_places;
}

kept_start : (c : ConfigParts) (H : List Entry) (bs : DatabaseParts) → after c H ≡ Ok bs → IsKept c H (length H) bs [] (replicate session_places None) (replicate session_places None)
kept_start c H bs e = record {
  present = e;
  begun = omega arith;
  taking_back = sym (kept_none c H);
  of_looks = slots_empty c H;
  of_queries = slots_empty c H;
}

pub kept_begin : (c d : ConfigParts) (H : List Entry) (base : ℕ) (bs : DatabaseParts) (acts : List KeptAct) (ls qs : List (Option Held)) → d ≡ c → after c H ≡ Ok bs
    → base ≡ length H → acts ≡ [] → ls ≡ replicate session_places None → qs ≡ replicate session_places None → IsKept d H base bs acts ls qs
kept_begin c d H base bs acts ls qs same e count none no_looks no_queries =
    rw (count, none, no_looks, no_queries) (kept_start d H bs (subst (λ (k : ConfigParts). after k H ≡ Ok bs) (sym same) e))

pub begun : (c d : ConfigParts) (H : List Entry) (base : ℕ) (ls qs : List (Option Held)) → d ≡ c → base ≡ length H
    → ls ≡ replicate session_places None → qs ≡ replicate session_places None → state_of d H base ls qs ≡ start c H
begun c d H base ls qs same count no_looks no_queries = rw (same, count, no_looks, no_queries) refl

-- An act.

abbrev pub head_of : Line → Head
head_of l = record { line = l.line; session = l.session; command = l.command }

-- the database that a history stands for
after_is : (c : ConfigParts) (H : List Entry) (bs : DatabaseParts) → after c H ≡ Ok bs → bs ≡ database_after c H
after_is c H bs e = sym (ap (λ (found : Result DatabaseParts Breach). found_or (empty_database c) found) e)

-- what takes the act back is kept behind what was kept
acts_push : (c : ConfigParts) (head : Head) (act : Act) (H : List Entry) (base : ℕ) (bs : DatabaseParts) (acts : List KeptAct) → base ≤ length H → after c H ≡ Ok bs
    → acts ≡ kept_behind c (take base H) (drop base H)
    → acts ++ kept_act head.session head.line (inverse_at bs act) ∷ [] ≡ kept_behind c (take base (H ++ head_entry head act ∷ [])) (drop base (H ++ head_entry head act ∷ []))
acts_push c head act H base bs acts low e is =
    ap (λ (d : DatabaseParts). acts ++ kept_act head.session head.line (inverse_at d act) ∷ []) (after_is c H bs e)
    ∙ ap (λ (ks : List KeptAct). ks ++ kept_of c H (head_entry head act) ∷ []) is
    ∙ sym (kept_push c H base (head_entry head act) low)

-- the parts behind what was tried
abbrev KeepsTried : ConfigParts → ℕ → List (Option Held) → List (Option Held) → Tried → Type 0
KeepsTried c base ls qs t = IsKept c t.1 base t.2 t.3 ls qs

kept_step : (c : ConfigParts) (head : Head) (act : Act) (H : List Entry) (base : ℕ) (bs : DatabaseParts) (acts : List KeptAct) (ls qs : List (Option Held)) (full : Bool) (made : Result DatabaseParts Breach) → effect bs act ≡ made → IsKept c H base bs acts ls qs
    → KeepsTried c base ls qs (edit_tried_step head act H bs acts full made)
kept_step c head act H base bs acts ls qs true made e k = k
kept_step c head act H base bs acts ls qs false (Err breach) e k = k
kept_step c head act H base bs acts ls qs false (Ok next) e k = record {
  present = replay_goes_on c H (head_entry head act) ∙ rw k.present e;
  begun = omega (arith, k.begun, length-append H (head_entry head act ∷ []));
  taking_back = acts_push c head act H base bs acts k.begun k.present k.taking_back;
  of_looks = slots_longer c H (head_entry head act ∷ []) ls k.of_looks;
  of_queries = slots_longer c H (head_entry head act ∷ []) qs k.of_queries;
}

kept_edit : (c : ConfigParts) (head : Head) (act : Act) (H : List Entry) (base : ℕ) (bs : DatabaseParts) (acts : List KeptAct) (ls qs : List (Option Held)) → IsKept c H base bs acts ls qs
    → KeepsTried c base ls qs (edit_tried head act H bs acts)
kept_edit c head act H base bs acts ls qs k = kept_step c head act H base bs acts ls qs (is_full H) (effect bs act) refl k

kept_given : (c : ConfigParts) (head : Head) (given : Result Act GridFault) (H : List Entry) (base : ℕ) (bs : DatabaseParts) (acts : List KeptAct) (ls qs : List (Option Held)) → IsKept c H base bs acts ls qs
    → KeepsTried c base ls qs (given_tried head given H bs acts)
kept_given c head (Ok act) H base bs acts ls qs k = kept_edit c head act H base bs acts ls qs k
kept_given c head (Err fault) H base bs acts ls qs k = k

kept_undo : (c : ConfigParts) (head : Head) (inverse : Option (Result Act NoUndo)) (H : List Entry) (base : ℕ) (bs : DatabaseParts) (acts : List KeptAct) (ls qs : List (Option Held)) → IsKept c H base bs acts ls qs
    → KeepsTried c base ls qs (undo_tried head H bs acts inverse)
kept_undo c head None H base bs acts ls qs k = k
kept_undo c head (Some (Err fault)) H base bs acts ls qs k = k
kept_undo c head (Some (Ok act)) H base bs acts ls qs k = kept_edit c head act H base bs acts ls qs k

tried_kept : (c : ConfigParts) (base : ℕ) (ls qs : List (Option Held)) (t : Tried) (H2 : List Entry) (bs2 : DatabaseParts) (acts2 : List KeptAct) (r : Reply) → (r, H2, bs2, acts2) ≡ t → KeepsTried c base ls qs t
    → IsKept c H2 base bs2 acts2 ls qs
tried_kept c base ls qs t H2 bs2 acts2 r e k = subst (λ (x : Tried). KeepsTried c base ls qs x) (sym e) k

pub kept_changed : (c : ConfigParts) (head : Head) (given : Result Act GridFault) (H H2 : List Entry) (base : ℕ) (bs bs2 : DatabaseParts) (acts acts2 : List KeptAct) (ls qs : List (Option Held)) (r : Reply)
    → (r, H2, bs2, acts2) ≡ given_tried head given H bs acts → IsKept c H base bs acts ls qs → IsKept c H2 base bs2 acts2 ls qs
kept_changed c head given H H2 base bs bs2 acts acts2 ls qs r e k =
    tried_kept c base ls qs (given_tried head given H bs acts) H2 bs2 acts2 r e (kept_given c head given H base bs acts ls qs k)

pub kept_undone : (c : ConfigParts) (head : Head) (inverse : Option (Result Act NoUndo)) (H H2 : List Entry) (base : ℕ) (bs bs2 : DatabaseParts) (acts acts2 : List KeptAct) (ls qs : List (Option Held)) (r : Reply)
    → (r, H2, bs2, acts2) ≡ undo_tried head H bs acts inverse → IsKept c H base bs acts ls qs → IsKept c H2 base bs2 acts2 ls qs
kept_undone c head inverse H H2 base bs bs2 acts acts2 ls qs r e k =
    tried_kept c base ls qs (undo_tried head H bs acts inverse) H2 bs2 acts2 r e (kept_undo c head inverse H base bs acts ls qs k)

-- what was tried, as the step of the state
abbrev tried_told : ConfigParts → ℕ → List (Option Held) → List (Option Held) → Tried → Option Reply × State
tried_told c base ls qs t = (Some t.0, state_of c t.1 base ls qs)

step_cases : (c : ConfigParts) (l : Line) (act : Act) (H : List Entry) (base : ℕ) (bs : DatabaseParts) (acts : List KeptAct) (ls qs : List (Option Held)) (full : Bool) (made : Result DatabaseParts Breach)
    → edit_step (state_of c H base ls qs) l act full made ≡ tried_told c base ls qs (edit_tried_step (head_of l) act H bs acts full made)
step_cases c l act H base bs acts ls qs true made = refl
step_cases c l act H base bs acts ls qs false (Ok next) = refl
step_cases c l act H base bs acts ls qs false (Err breach) = refl

edit_cases : (c : ConfigParts) (l : Line) (act : Act) (H : List Entry) (base : ℕ) (bs : DatabaseParts) (acts : List KeptAct) (ls qs : List (Option Held)) → after c H ≡ Ok bs
    → edit_step (state_of c H base ls qs) l act (is_full H) (edited c H act) ≡ tried_told c base ls qs (edit_tried (head_of l) act H bs acts)
edit_cases c l act H base bs acts ls qs present = rw present (step_cases c l act H base bs acts ls qs (is_full H) (effect bs act))

given_cases : (c : ConfigParts) (l : Line) (given : Result Act GridFault) (H : List Entry) (base : ℕ) (bs : DatabaseParts) (acts : List KeptAct) (ls qs : List (Option Held)) → after c H ≡ Ok bs
    → edit_event (state_of c H base ls qs) l (requests.Edit given) ≡ tried_told c base ls qs (given_tried (head_of l) given H bs acts)
given_cases c l (Ok act) H base bs acts ls qs present = edit_cases c l act H base bs acts ls qs present
given_cases c l (Err fault) H base bs acts ls qs present = refl

undo_cases : (c : ConfigParts) (l : Line) (inverse : Option (Result Act NoUndo)) (H : List Entry) (base : ℕ) (bs : DatabaseParts) (acts : List KeptAct) (ls qs : List (Option Held)) → after c H ≡ Ok bs
    → undo_step (state_of c H base ls qs) l inverse ≡ tried_told c base ls qs (undo_tried (head_of l) H bs acts inverse)
undo_cases c l None H base bs acts ls qs present = refl
undo_cases c l (Some (Err fault)) H base bs acts ls qs present = refl
undo_cases c l (Some (Ok act)) H base bs acts ls qs present = edit_cases c l act H base bs acts ls qs present

-- the event of a line whose request is known
event_told : (c : ConfigParts) (old : State) (l : Line) (request : Request) (H H2 : List Entry) (base : ℕ) (bs2 : DatabaseParts) (acts2 : List KeptAct) (ls qs : List (Option Held)) (r : Reply) (t : Tried)
    → state_of c H base ls qs ≡ old → l.request ≡ request → edit_event (state_of c H base ls qs) l request ≡ tried_told c base ls qs t → (r, H2, bs2, acts2) ≡ t
    → edit_event old l l.request ≡ (Some r, state_of c H2 base ls qs)
event_told c old l request H H2 base bs2 acts2 ls qs r t old_is f is e =
    let from : State → Type 0 = λ st. edit_event st l l.request ≡ (Some r, state_of c H2 base ls qs) in
    let asks : Request → Type 0 = λ x. edit_event (state_of c H base ls qs) l x ≡ (Some r, state_of c H2 base ls qs) in
    subst from old_is (subst asks (sym f) (is ∙ ap (λ (x : Tried). tried_told c base ls qs x) (sym e)))

pub given_told : (c : ConfigParts) (old : State) (l : Line) (given : Result Act GridFault) (H H2 : List Entry) (base : ℕ) (bs bs2 : DatabaseParts) (acts acts2 : List KeptAct) (ls qs : List (Option Held)) (r : Reply)
    → state_of c H base ls qs ≡ old → l.request ≡ requests.Edit given
    → (r, H2, bs2, acts2) ≡ given_tried (head_of l) given H bs acts → IsKept c H base bs acts ls qs → edit_event old l l.request ≡ (Some r, state_of c H2 base ls qs)
given_told c old l given H H2 base bs bs2 acts acts2 ls qs r old_is f e k =
    event_told c old l (requests.Edit given) H H2 base bs2 acts2 ls qs r (given_tried (head_of l) given H bs acts) old_is f (given_cases c l given H base bs acts ls qs k.present) e

pub undo_told : (c : ConfigParts) (old : State) (l : Line) (earlier : ℕ) (H H2 : List Entry) (base : ℕ) (bs bs2 : DatabaseParts) (acts acts2 : List KeptAct) (ls qs : List (Option Held)) (r : Reply)
    → state_of c H base ls qs ≡ old → l.request ≡ requests.Undo earlier
    → (r, H2, bs2, acts2) ≡ undo_tried (head_of l) H bs acts (latest_of l.session.0 earlier acts) → IsKept c H base bs acts ls qs → edit_event old l l.request ≡ (Some r, state_of c H2 base ls qs)
undo_told c old l earlier H H2 base bs bs2 acts acts2 ls qs r old_is f e k =
    let inverse : Option (Result Act NoUndo) = latest_of l.session.0 earlier acts in
    event_told c old l (requests.Undo earlier) H H2 base bs2 acts2 ls qs r (undo_tried (head_of l) H bs acts inverse) old_is f
    (ap (λ (ks : List KeptAct). undo_step (state_of c H base ls qs) l (latest_of l.session.0 earlier ks)) (sym k.taking_back) ∙ undo_cases c l inverse H base bs acts ls qs k.present) e

-- A look.

look_cases : (c : ConfigParts) (base : ℕ) (l : Line) (ask : Ask) (H : List Entry) (bs : DatabaseParts) (ls qs : List (Option Held)) (held : Option Held) → look_step (state_of c H base ls qs) l ask (option_map opened_by held) ≡ (Some (looked (head_of l) ask (length H) bs ls held).0, state_of c H base (looked (head_of l) ask (length H) bs ls held).1 qs)
look_cases c base l ask H bs ls qs None = rw (put_slot_map opened_by ls l.session.0 (Some (held_at (head_of l) ask (length H) bs))) refl
look_cases c base l ask H bs ls qs (Some held) = refl

pub looked_step : (c : ConfigParts) (base : ℕ) (l : Line) (ask : Ask) (H : List Entry) (bs : DatabaseParts) (ls ls2 qs : List (Option Held)) (r : Reply) → (r, ls2) ≡ looked (head_of l) ask (length H) bs ls (slot ls l.session.0) → look_step (state_of c H base ls qs) l ask (slot (opened_in ls) l.session.0) ≡ (Some r, state_of c H base ls2 qs)
looked_step c base l ask H bs ls ls2 qs r e =
    let told : Reply × List (Option Held) → Option Reply × State = λ t. (Some t.0, state_of c H base t.1 qs) in
    rw (slot_map opened_by ls l.session.0) (look_cases c base l ask H bs ls qs (slot ls l.session.0) ∙ ap told (sym e))

pub looked_kept : (c : ConfigParts) (head : Head) (ask : Ask) (H : List Entry) (bs : DatabaseParts) (ls : List (Option Held)) (held : Option Held) → after c H ≡ Ok bs → AreHeld c H ls → AreHeld c H (looked head ask (length H) bs ls held).1
looked_kept c head ask H bs ls None e h = slots_put c H ls head.session.0 (Some (held_at head ask (length H) bs)) (moment_now c H bs head ask e) h
looked_kept c head ask H bs ls (Some held) e h = h

pub kept_looked : (c : ConfigParts) (base : ℕ) (acts : List KeptAct) (head : Head) (ask : Ask) (H : List Entry) (bs : DatabaseParts) (ls ls2 qs : List (Option Held)) (r : Reply) → (r, ls2) ≡ looked head ask (length H) bs ls (slot ls head.session.0) → IsKept c H base bs acts ls qs → IsKept c H base bs acts ls2 qs
kept_looked c base acts head ask H bs ls ls2 qs r e k =
    let P : Reply × List (Option Held) → Type 0 = λ t. AreHeld c H t.1 in
    record {
      present = k.present;
      begun = k.begun;
      taking_back = k.taking_back;
      of_looks = subst P (sym e) (looked_kept c head ask H bs ls (slot ls head.session.0) k.present k.of_looks);
      of_queries = k.of_queries;
    }

-- The beginning of a query.

pub begun_step : (c : ConfigParts) (base : ℕ) (l : Line) (ask : Ask) (H : List Entry) (bs : DatabaseParts) (ls qs : List (Option Held)) → with_query (state_of c H base ls qs) l.session.0 (Some (opened_at (state_of c H base ls qs) l ask)) ≡ state_of c H base ls (put_slot qs l.session.0 (Some (held_at (head_of l) ask (length H) bs)))
begun_step c base l ask H bs ls qs = rw (put_slot_map opened_by qs l.session.0 (Some (held_at (head_of l) ask (length H) bs))) refl

pub kept_begun : (c : ConfigParts) (base : ℕ) (acts : List KeptAct) (head : Head) (ask : Ask) (H : List Entry) (bs : DatabaseParts) (ls qs : List (Option Held)) → IsKept c H base bs acts ls qs → IsKept c H base bs acts ls (put_slot qs head.session.0 (Some (held_at head ask (length H) bs)))
kept_begun c base acts head ask H bs ls qs k = record {
  present = k.present;
  begun = k.begun;
  taking_back = k.taking_back;
  of_looks = k.of_looks;
  of_queries = slots_put c H qs head.session.0 (Some (held_at head ask (length H) bs)) (moment_now c H bs head ask k.present) k.of_queries;
}

-- The answer of a look.

close_answer : (c : ConfigParts) (base : ℕ) (line : ℕ) (s : SessionNo) (H : List Entry) (ls qs : List (Option Held)) (held : Held) (short : Bool) → IsMoment c H held → look_answered (state_of c H base ls qs) line s (opened_by held) short ≡ (Some (look_answer line s ls held short).0, state_of c H base (look_answer line s ls held short).1 qs)
close_answer c base line s H ls qs held true h = refl
close_answer c base line s H ls qs held false h = rw (h.database, put_slot_map opened_by ls s.0 None) refl

close_cases : (c : ConfigParts) (base : ℕ) (line : ℕ) (s : SessionNo) (H : List Entry) (ls qs : List (Option Held)) (held : Option Held) → IsHeld c H held → finish_step (state_of c H base ls qs) line s (option_map opened_by held) ≡ (Some (look_closed line s ls held).0, state_of c H base (look_closed line s ls held).1 qs)
close_cases c base line s H ls qs None h = refl
close_cases c base line s H ls qs (Some held) h = close_answer c base line s H ls qs held (lacks_memory held.ask) h

pub closed_step : (c : ConfigParts) (base : ℕ) (line : ℕ) (s : SessionNo) (H : List Entry) (ls ls2 qs : List (Option Held)) (r : Reply) → (r, ls2) ≡ look_closed line s ls (slot ls s.0) → AreHeld c H ls → finish_step (state_of c H base ls qs) line s (slot (opened_in ls) s.0) ≡ (Some r, state_of c H base ls2 qs)
closed_step c base line s H ls ls2 qs r e h =
    let told : Reply × List (Option Held) → Option Reply × State = λ t. (Some t.0, state_of c H base t.1 qs) in
    rw (slot_map opened_by ls s.0) (close_cases c base line s H ls qs (slot ls s.0) (h.each s.0) ∙ ap told (sym e))

answer_kept : (c : ConfigParts) (line : ℕ) (s : SessionNo) (H : List Entry) (ls : List (Option Held)) (held : Held) (short : Bool) → AreHeld c H ls → AreHeld c H (look_answer line s ls held short).1
answer_kept c line s H ls held true h = h
answer_kept c line s H ls held false h = slots_put c H ls s.0 None tt h

pub closed_kept : (c : ConfigParts) (line : ℕ) (s : SessionNo) (H : List Entry) (ls : List (Option Held)) (held : Option Held) → AreHeld c H ls → AreHeld c H (look_closed line s ls held).1
closed_kept c line s H ls None h = h
closed_kept c line s H ls (Some held) h = answer_kept c line s H ls held (lacks_memory held.ask) h

pub kept_closed : (c : ConfigParts) (base : ℕ) (acts : List KeptAct) (line : ℕ) (s : SessionNo) (H : List Entry) (bs : DatabaseParts) (ls ls2 qs : List (Option Held)) (r : Reply) → (r, ls2) ≡ look_closed line s ls (slot ls s.0) → IsKept c H base bs acts ls qs → IsKept c H base bs acts ls2 qs
kept_closed c base acts line s H bs ls ls2 qs r e k =
    let P : Reply × List (Option Held) → Type 0 = λ t. AreHeld c H t.1 in
    record {
      present = k.present;
      begun = k.begun;
      taking_back = k.taking_back;
      of_looks = subst P (sym e) (closed_kept c line s H ls (slot ls s.0) k.of_looks);
      of_queries = k.of_queries;
    }

-- The answer of a query under way.

reply_cases : (c : ConfigParts) (base : ℕ) (line : ℕ) (s : SessionNo) (H : List Entry) (ls qs : List (Option Held)) (held : Held) (short : Bool) → IsMoment c H held → way_answered (state_of c H base ls qs) line s (opened_by held) short ≡ (Some (query_reply line s held short), state_of c H base ls (put_slot qs s.0 None))
reply_cases c base line s H ls qs held true h = rw (put_slot_map opened_by qs s.0 None) refl
reply_cases c base line s H ls qs held false h = rw (h.database, put_slot_map opened_by qs s.0 None) refl

answer_cases : (c : ConfigParts) (base : ℕ) (line : ℕ) (s : SessionNo) (H : List Entry) (ls qs : List (Option Held)) (held : Option Held) → IsHeld c H held → query_step (state_of c H base ls qs) line s (option_map opened_by held) ≡ ((query_closed line s qs held).0, state_of c H base ls (query_closed line s qs held).1)
answer_cases c base line s H ls qs None h = refl
answer_cases c base line s H ls qs (Some held) h = reply_cases c base line s H ls qs held (lacks_memory held.ask) h

pub answered_step : (c : ConfigParts) (base : ℕ) (line : ℕ) (s : SessionNo) (H : List Entry) (ls qs qs2 : List (Option Held)) (r : Option Reply) → (r, qs2) ≡ query_closed line s qs (slot qs s.0) → AreHeld c H qs → query_step (state_of c H base ls qs) line s (slot (opened_in qs) s.0) ≡ (r, state_of c H base ls qs2)
answered_step c base line s H ls qs qs2 r e h =
    let told : Option Reply × List (Option Held) → Option Reply × State = λ t. (t.0, state_of c H base ls t.1) in
    rw (slot_map opened_by qs s.0) (answer_cases c base line s H ls qs (slot qs s.0) (h.each s.0) ∙ ap told (sym e))

answered_kept : (c : ConfigParts) (line : ℕ) (s : SessionNo) (H : List Entry) (qs : List (Option Held)) (held : Option Held) → AreHeld c H qs → AreHeld c H (query_closed line s qs held).1
answered_kept c line s H qs None h = h
answered_kept c line s H qs (Some held) h = slots_put c H qs s.0 None tt h

pub kept_answered : (c : ConfigParts) (base : ℕ) (acts : List KeptAct) (line : ℕ) (s : SessionNo) (H : List Entry) (bs : DatabaseParts) (ls qs qs2 : List (Option Held)) (r : Option Reply) → (r, qs2) ≡ query_closed line s qs (slot qs s.0) → IsKept c H base bs acts ls qs → IsKept c H base bs acts ls qs2
kept_answered c base acts line s H bs ls qs qs2 r e k =
    let P : Option Reply × List (Option Held) → Type 0 = λ t. AreHeld c H t.1 in
    record {
      present = k.present;
      begun = k.begun;
      taking_back = k.taking_back;
      of_looks = k.of_looks;
      of_queries = subst P (sym e) (answered_kept c line s H qs (slot qs s.0) k.of_queries);
    }

-- A query under way where memory runs out.

drop_cases : (c : ConfigParts) (base : ℕ) (line : ℕ) (s : SessionNo) (H : List Entry) (ls qs : List (Option Held)) (held : Option Held) → (query_fails (state_of c H base ls qs) line s (option_map opened_by held)).1 ≡ state_of c H base ls (query_dropped s qs held)
drop_cases c base line s H ls qs None = refl
drop_cases c base line s H ls qs (Some held) = rw (put_slot_map opened_by qs s.0 None) refl

pub dropped_step : (c : ConfigParts) (base : ℕ) (line : ℕ) (s : SessionNo) (H : List Entry) (ls qs qs2 : List (Option Held)) → qs2 ≡ query_dropped s qs (slot qs s.0) → state_of c H base ls qs2 ≡ (query_fails (state_of c H base ls qs) line s (slot (opened_in qs) s.0)).1
dropped_step c base line s H ls qs qs2 e =
    rw (slot_map opened_by qs s.0, e) (sym (drop_cases c base line s H ls qs (slot qs s.0)))

dropped_kept : (c : ConfigParts) (s : SessionNo) (H : List Entry) (qs : List (Option Held)) (held : Option Held) → AreHeld c H qs → AreHeld c H (query_dropped s qs held)
dropped_kept c s H qs None h = h
dropped_kept c s H qs (Some held) h = slots_put c H qs s.0 None tt h

pub kept_dropped : (c : ConfigParts) (base : ℕ) (acts : List KeptAct) (s : SessionNo) (H : List Entry) (bs : DatabaseParts) (ls qs qs2 : List (Option Held)) → qs2 ≡ query_dropped s qs (slot qs s.0) → IsKept c H base bs acts ls qs → IsKept c H base bs acts ls qs2
kept_dropped c base acts s H bs ls qs qs2 e k = record {
  present = k.present;
  begun = k.begun;
  taking_back = k.taking_back;
  of_looks = k.of_looks;
  of_queries = rw e (dropped_kept c s H qs (slot qs s.0) k.of_queries);
}

-- Both ends of the answer of a query under way.

pub kept_tried : (c : ConfigParts) (base : ℕ) (acts : List KeptAct) (line : ℕ) (s : SessionNo) (H : List Entry) (bs : DatabaseParts) (ls qs qs2 : List (Option Held)) (result : Result (Option Reply) Memory) → IfOk result (λ r. (r, qs2) ≡ query_closed line s qs (slot qs s.0)) → OnErr result (qs2 ≡ query_dropped s qs (slot qs s.0)) → IsKept c H base bs acts ls qs → IsKept c H base bs acts ls qs2
kept_tried c base acts line s H bs ls qs qs2 (Ok r) e f k = kept_answered c base acts line s H bs ls qs qs2 r e k
kept_tried c base acts line s H bs ls qs qs2 (Err m) e f k = kept_dropped c base acts s H bs ls qs qs2 f k

pub answered_ok : (c : ConfigParts) (base : ℕ) (line : ℕ) (s : SessionNo) (H : List Entry) (ls qs qs2 : List (Option Held)) (result : Result (Option Reply) Memory) → IfOk result (λ r. (r, qs2) ≡ query_closed line s qs (slot qs s.0)) → AreHeld c H qs → IfOk result (λ r. query_step (state_of c H base ls qs) line s (slot (opened_in qs) s.0) ≡ (r, state_of c H base ls qs2))
answered_ok c base line s H ls qs qs2 (Ok r) e h = answered_step c base line s H ls qs qs2 r e h
answered_ok c base line s H ls qs qs2 (Err m) e h = tt

pub answered_err : (c : ConfigParts) (base : ℕ) (line : ℕ) (s : SessionNo) (H : List Entry) (ls qs qs2 : List (Option Held)) (result : Result (Option Reply) Memory) → OnErr result (qs2 ≡ query_dropped s qs (slot qs s.0)) → OnErr result (state_of c H base ls qs2 ≡ (query_fails (state_of c H base ls qs) line s (slot (opened_in qs) s.0)).1)
answered_err c base line s H ls qs qs2 (Ok r) e = tt
answered_err c base line s H ls qs qs2 (Err m) e = dropped_step c base line s H ls qs qs2 e

-- The same, where the code has counted the entries.

pub kept_looked_at : (c : ConfigParts) (base : ℕ) (acts : List KeptAct) (head : Head) (ask : Ask) (H : List Entry) (bs : DatabaseParts) (ls ls2 qs : List (Option Held)) (r : Reply) (n : ℕ) → n ≡ length H → (r, ls2) ≡ looked head ask n bs ls (slot ls head.session.0) → IsKept c H base bs acts ls qs → IsKept c H base bs acts ls2 qs
kept_looked_at c base acts head ask H bs ls ls2 qs r n m e k =
    let P : ℕ → Type 0 = λ x. (r, ls2) ≡ looked head ask x bs ls (slot ls head.session.0) in
    kept_looked c base acts head ask H bs ls ls2 qs r (subst P m e) k

pub kept_begun_at : (c : ConfigParts) (base : ℕ) (acts : List KeptAct) (head : Head) (ask : Ask) (H : List Entry) (bs : DatabaseParts) (ls qs qs2 : List (Option Held)) (n : ℕ) → n ≡ length H → qs2 ≡ put_slot qs head.session.0 (Some (held_at head ask n bs)) → IsKept c H base bs acts ls qs → IsKept c H base bs acts ls qs2
kept_begun_at c base acts head ask H bs ls qs qs2 n m e k = rw (e, m) (kept_begun c base acts head ask H bs ls qs k)

-- An event of a kind as the step of its request.

pub look_told : (c : ConfigParts) (base : ℕ) (old : State) (l : Line) (ask : Ask) (H : List Entry) (bs : DatabaseParts) (ls ls2 qs : List (Option Held)) (r : Reply) (n : ℕ) → state_of c H base ls qs ≡ old → l.request ≡ requests.Look ask → n ≡ length H → (r, ls2) ≡ looked (head_of l) ask n bs ls (slot ls l.session.0) → look_event old l l.request ≡ (Some r, state_of c H base ls2 qs)
look_told c base old l ask H bs ls ls2 qs r n old_is f m e =
    let P : ℕ → Type 0 = λ x. (r, ls2) ≡ looked (head_of l) ask x bs ls (slot ls l.session.0) in
    rw (f, ← old_is) (looked_step c base l ask H bs ls ls2 qs r (subst P m e))

pub query_told : (c : ConfigParts) (base : ℕ) (old : State) (l : Line) (ask : Ask) (H : List Entry) (bs : DatabaseParts) (ls qs qs2 : List (Option Held)) (n : ℕ) → state_of c H base ls qs ≡ old → l.request ≡ requests.Query ask → n ≡ length H → qs2 ≡ put_slot qs l.session.0 (Some (held_at (head_of l) ask n bs)) → look_event old l l.request ≡ (None, state_of c H base ls qs2)
query_told c base old l ask H bs ls qs qs2 n old_is f m e =
    let told : State → Option Reply × State = λ st. (None, st) in
    rw (f, ← old_is, e, m) (ap told (begun_step c base l ask H bs ls qs))

-- The line of a head is the line itself.

pub look_of_line : (old new : State) (l : Line) (request : Request) (result : Result (Option Reply) Memory) → l.request ≡ request → IfOk result (λ r. look_event old (head_line (head_of l) request) request ≡ (r, new)) → IfOk result (λ r. look_event old l l.request ≡ (r, new))
look_of_line old new l request result is told =
    subst (λ (x : Request). IfOk result (λ r. look_event old (head_line (head_of l) x) x ≡ (r, new))) (sym is) told
