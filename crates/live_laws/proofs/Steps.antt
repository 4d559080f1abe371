-- What a lane keeps: with no line answered, beside a longer history, and with one line more.
use Rattle.std.proofs.Common.{◌≡◌, ◌≢◌, ⊎_elim, ℕ, ◌≤◌, Bool, List, [], ◌∷◌, ◌++◌, length, replicate, Option, Some, None, option_map, refl, sym, ◌∙◌, ap, subst, arith, length-append}
use Rattle.std.proofs.lemmas.Bool.{cases_eq}
use Rattle.std.proofs.lemmas.List.{append-nil, length-replicate}
use mathlib.Core.List.{IsPrefix}
use Rattle.db_config.specs.declared.parts.ConfigParts.{ConfigParts}
use Rattle.edit_rules.specs.declared.acts.Entry.{Entry}
use Rattle.session_core.specs.declared.line.Answer.{Answer}
use Rattle.session_core.specs.declared.line.Line.{Line}
use Rattle.session_core.specs.declared.line.Request.{Request}
use Rattle.session_core.specs.declared.line.Request.TheVariants as requests
use Rattle.session_core.specs.Steps.{Opened, session_places, slot}
use Rattle.session_core.specs.Worlds.{Turn, Each}
use Rattle.session_core.specs.Legal.{IsNamed, IsRight, IsRightTurn, KeepsUp, Look, Mark, ReplyFits, accepted, accepting, is_of, lines_in, low_behind, of_session, open_behind}
use Rattle.session_core.proofs.Turns.{IsTo, accepted_push, each_filter, each_push, held_of, low_of, turns_other, turns_own}
use Rattle.session_core.proofs.Places.{slot_none}
use Rattle.session_core.proofs.Undoing.{as_own, undoes_same}
use Rattle.session_core.proofs.Seats.{IsIn, Seat, rights_more, rights_to, seat_more, seat_told}
use Rattle.session_core.proofs.Seats.{look_of as core_look}
use Rattle.live_laws.specs.Lanes.{AreNoted, HasHeardStep, IsLane, IsLookIn, IsPast, IsSession, IsStep, IsUpTo, Step, look_after, look_of, low_after, turns_of}

-- A session in its lane is one of a core's seats, with no query under way.

low_same : (low : ℕ) (ts : List Turn) → low_after low ts ≡ low_of low ts
low_same low [] = refl
low_same low (t ∷ ts) = low_same (low_behind low t.line.request t.reply.n) ts

held_same : (held : Option Look) (ts : List Turn) → look_after held ts ≡ held_of held ts
held_same held [] = refl
held_same held (t ∷ ts) = held_same (open_behind held t.line.request t.reply.n) ts

pub look_same : (look : Option Opened) → look_of look ≡ option_map core_look look
look_same None = refl
look_same (Some held) = refl

pub to_in : (m : ℕ) (H : List Entry) (look : Option Opened) → IsLookIn m (length H) look → IsIn m H look
to_in m H None is = tt
to_in m H (Some held) is = is

from_in : (m : ℕ) (H : List Entry) (look : Option Opened) → IsIn m H look → IsLookIn m (length H) look
from_in m H None is = tt
from_in m H (Some held) is = is

to_up : (high : ℕ) (n : Option ℕ) → IsTo high n → IsUpTo high n
to_up high None to = tt
to_up high (Some n) to = to

module _ (c : ConfigParts) (m : ℕ) (store : Bool) (H : List Entry) (s : ℕ) (ts : List Turn) (look : Option Opened) where
  to_seat : IsSession c m store H ts look → Seat store c m H s ts (lines_in ts) look None
  to_seat is = record {
    lines = sym (append-nil (lines_in ts));
    falls = is.never_falls;
    from = subst (λ (k : ℕ). m ≤ k) (low_same m ts) is.from;
    low = subst (λ (k : ℕ). k ≤ length H) (low_same m ts) is.low;
    looks = is.looks;
    held = sym (held_same None ts) ∙ is.held ∙ look_same look;
    look_in = to_in m H look is.look_in;
    undos = is.undos;
    waits = tt;
  }

  from_seat : (ls : List Line) → Seat store c m H s ts ls look None → IsSession c m store H ts look
  from_seat ls seat = record {
    never_falls = seat.falls;
    from = subst (λ (k : ℕ). m ≤ k) (sym (low_same m ts)) seat.from;
    low = subst (λ (k : ℕ). k ≤ length H) (sym (low_same m ts)) seat.low;
    looks = seat.looks;
    held = held_same None ts ∙ seat.held ∙ sym (look_same look);
    look_in = from_in m H look seat.look_in;
    undos = seat.undos;
  }

-- The numbers that are noted.

noted_more : (low high more : ℕ) (steps : List Step) → high ≤ more → AreNoted low high steps → AreNoted low more steps
noted_more low high more [] up noted = let le : low ≤ high = noted in omega arith
noted_more low high more (st ∷ steps) up noted = (noted.0, noted.1, noted_more st.noted high more steps up noted.2)

noted_push : (low high : ℕ) (steps : List Step) (st : Step) → AreNoted low high steps → high ≤ st.noted → IsUpTo st.noted st.turn.reply.n
    → AreNoted low st.noted (steps ++ st ∷ [])
noted_push low high [] st noted up to = let le : low ≤ high = noted in (omega arith, to, omega arith)
noted_push low high (x ∷ steps) st noted up to = (noted.0, noted.1, noted_push x.noted high steps st noted.2 up to)

-- The turns of steps, and the entries that they accept.

pub turns_push : (steps : List Step) (st : Step) → turns_of (steps ++ st ∷ []) ≡ turns_of steps ++ st.turn ∷ []
turns_push [] st = refl
turns_push (x ∷ steps) st = ap (λ (ts : List Turn). x.turn ∷ ts) (turns_push steps st)

pub each_join : {A : Type 0} (P : A → Type 0) (xs ys : List A) → Each P xs → Each P ys → Each P (xs ++ ys)
each_join P [] ys each more = more
each_join P (x ∷ xs) ys each more = (each.0, each_join P xs ys each.1 more)

-- A lane begins.

pub begins : (c : ConfigParts) (m : ℕ) (store : Bool) (H : List Entry) → m ≤ length H
    → IsLane c m store H (replicate session_places None) []
begins c m store H from = record {
  from = from;
  named = tt;
  right = tt;
  fresh = tt;
  noted = from;
  heard = tt;
  places = length-replicate {A = Option Opened} session_places None;
  sessions = λ s. subst (λ (look : Option Opened). IsSession c m store H [] look) (sym (slot_none session_places s)) (record {
    never_falls = tt;
    from = let same : m ≤ m = omega arith in same;
    low = from;
    looks = tt;
    held = refl;
    look_in = tt;
    undos = tt;
  });
}

-- A longer history.

module _ (c : ConfigParts) (m : ℕ) (store : Bool) (old new : List Entry) (looks : List (Option Opened)) (steps : List Step) where
  numbers_to : IsLane c m store old looks steps → Each (λ (t : Turn). IsTo (length old) t.reply.n) (turns_of steps)
  numbers_to lane = rights_to store c m old new (turns_of steps) lane.right

  session_more : IsLane c m store old looks steps → (s : ℕ) → IsSession c m store (old ++ new) (of_session s (turns_of steps)) (slot looks s)
  session_more lane s =
      let ts : List Turn = of_session s (turns_of steps) in
      let look : Option Opened = slot looks s in
      from_seat c m store (old ++ new) s ts look (lines_in ts)
      (seat_more store c m old new s ts (lines_in ts) look None
      (each_filter (λ (t : Turn). IsTo (length old) t.reply.n) (is_of s) (turns_of steps) (numbers_to lane))
      (to_seat c m store old s ts look (lane.sessions s)))

  lane_more : IsLane c m store old looks steps → IsLane c m store (old ++ new) looks steps
  lane_more lane = record {
    from = omega (arith, lane.from, length-append old new);
    named = lane.named;
    right = rights_more store c m old new (turns_of steps) lane.right;
    fresh = lane.fresh;
    noted = noted_more m (length old) (length (old ++ new)) steps (omega (arith, length-append old new)) lane.noted;
    heard = lane.heard;
    places = lane.places;
    sessions = session_more lane;
  }

pub sees_more : (c : ConfigParts) (m : ℕ) (store : Bool) (old H : List Entry) (looks : List (Option Opened)) (steps : List Step)
    → IsLane c m store old looks steps → IsPrefix old H → IsLane c m store H looks steps
sees_more c m store old H looks steps lane goes_on =
    subst (λ (xs : List Entry). IsLane c m store xs looks steps) goes_on.1 (lane_more c m store old goes_on.0 looks steps lane)

-- One line more.

pub begins_length : (old H : List Entry) → IsPrefix old H → length old ≤ length H
begins_length old H goes_on =
    let whole : length (old ++ goes_on.0) ≡ length H = ap length goes_on.1 in
    omega (arith, whole, length-append old goes_on.0)

keeps_low : (low high : ℕ) (r : Request) (n : Option ℕ) → low ≤ high → KeepsUp high r n → KeepsUp low r n
keeps_low low high r None le keeps = tt
keeps_low low high requests.Finish (Some n) le keeps = tt
keeps_low low high (requests.Edit given) (Some n) le keeps = let up : high ≤ n = keeps in omega arith
keeps_low low high (requests.Undo earlier) (Some n) le keeps = let up : high ≤ n = keeps in omega arith
keeps_low low high (requests.Query ask) (Some n) le keeps = let up : high ≤ n = keeps in omega arith
keeps_low low high (requests.Look ask) (Some n) le keeps = let up : high ≤ n = keeps in omega arith
keeps_low low high (requests.After earlier) (Some n) le keeps = let up : high ≤ n = keeps in omega arith

-- what is between two numbers, with what a reply's number is, is between them behind it
module _ (c : ConfigParts) (m : ℕ) (H : List Entry) (store : Bool) (l : Line) (answer : Answer) (low : ℕ) where
  low_from : (r : Request) (n : Option ℕ) → m ≤ low → IsRight c m H store l n answer → m ≤ low_behind low r n
  low_from r None le right = le
  low_from requests.Finish (Some n) le right = le
  low_from (requests.Edit given) (Some n) le right = right.0
  low_from (requests.Undo earlier) (Some n) le right = right.0
  low_from (requests.Query ask) (Some n) le right = right.0
  low_from (requests.Look ask) (Some n) le right = right.0
  low_from (requests.After earlier) (Some n) le right = right.0

  low_to : (r : Request) (n : Option ℕ) → low ≤ length H → IsRight c m H store l n answer → low_behind low r n ≤ length H
  low_to r None le right = le
  low_to requests.Finish (Some n) le right = le
  low_to (requests.Edit given) (Some n) le right = right.1
  low_to (requests.Undo earlier) (Some n) le right = right.1
  low_to (requests.Query ask) (Some n) le right = right.1
  low_to (requests.Look ask) (Some n) le right = right.1
  low_to (requests.After earlier) (Some n) le right = right.1

module _ (c : ConfigParts) (m : ℕ) (store : Bool) (old H : List Entry) (looks new : List (Option Opened)) (steps : List Step) (st : Step)
    (lane : IsLane c m store old looks steps) (step : IsStep c m store old H looks new (accepted (turns_of steps)) st.turn.line st) where
  lane_now : IsLane c m store H looks steps
  lane_now = sees_more c m store old H looks steps lane step.goes_on

  old_high : length old ≤ length H
  old_high = begins_length old H step.goes_on

  abbrev NowIs : ℕ → Type 0
  NowIs s = IsSession c m store H (of_session s (turns_of steps ++ st.turn ∷ [])) (slot new s)

  -- the session of the line
  own_session : IsSession c m store H (of_session st.turn.line.session.0 (turns_of steps) ++ st.turn ∷ []) (slot new st.turn.line.session.0)
  own_session =
      let s : ℕ = st.turn.line.session.0 in
      let ts : List Turn = of_session s (turns_of steps) in
      let r : Request = st.turn.line.request in
      let n : Option ℕ = st.turn.reply.n in
      let low : ℕ = low_of m ts in
      let seat : Seat store c m H s ts (lines_in ts) (slot looks s) None = to_seat c m store H s ts (slot looks s) (lane_now.sessions s) in
      let was : low ≤ length old = subst (λ (k : ℕ). k ≤ length old) (low_same m ts) (lane.sessions s).low in
      from_seat c m store H s (ts ++ st.turn ∷ []) (slot new s) (lines_in ts ++ st.turn.line ∷ [])
      (seat_told store c m H s ts (lines_in ts) (slot looks s) None seat st.turn (lines_in ts ++ st.turn.line ∷ []) (slot new s)
      (keeps_low low (length old) r n was step.keeps)
      (low_from c m H store st.turn.line st.turn.reply.answer low r n seat.from step.right)
      (low_to c m H store st.turn.line st.turn.reply.answer low r n seat.low step.right)
      (subst (λ (held : Option Look). ReplyFits c H held r n st.turn.reply.answer) (look_same (slot looks s)) step.fits)
      (ap (λ (held : Option Look). open_behind held r n) (sym (look_same (slot looks s))) ∙ step.opens ∙ look_same (slot new s))
      (to_in m H (slot new s) step.look_in)
      (undoes_same c H store (accepted (turns_of steps)) (accepted ts) st.turn.line r n st.turn.reply.answer (λ line. as_own s line (turns_of steps)) step.undoes)
      refl)

  same_session : (s : ℕ) → st.turn.line.session.0 ≡ s → NowIs s
  same_session s e = subst NowIs e
      (subst (λ (ts : List Turn). IsSession c m store H ts (slot new st.turn.line.session.0)) (sym (turns_own st.turn.line.session.0 (turns_of steps) st.turn refl)) own_session)

  other_session : (s : ℕ) → st.turn.line.session.0 ≢ s → NowIs s
  other_session s ne =
      subst (λ (ts : List Turn). IsSession c m store H ts (slot new s)) (sym (turns_other s (turns_of steps) st.turn ne))
      (subst (λ (look : Option Opened). IsSession c m store H (of_session s (turns_of steps)) look) (sym (step.others s ne)) (lane_now.sessions s))

  session_now : (s : ℕ) → NowIs s
  session_now s = ⊎_elim (λ e. same_session s e) (λ ne. other_session s ne) (cases_eq st.turn.line.session.0 s)

  number_to : IsUpTo st.noted st.turn.reply.n
  number_to =
      subst (λ (k : ℕ). IsUpTo k st.turn.reply.n) (sym step.noted)
      (to_up (length H) st.turn.reply.n (rights_to store c m H [] (st.turn ∷ []) (step.right, tt)).0)

  noted_now : AreNoted m (length H) (steps ++ st ∷ [])
  noted_now =
      let is : st.noted ≡ length H = step.noted in
      subst (λ (k : ℕ). AreNoted m k (steps ++ st ∷ [])) is
      (noted_push m (length old) steps st lane.noted (omega (arith, is, old_high)) number_to)

  fresh_now : Each (IsPast m) (accepted (turns_of steps ++ st.turn ∷ []))
  fresh_now =
      subst (λ (ms : List Mark). Each (IsPast m) ms) (sym (accepted_push (turns_of steps) st.turn))
      (each_join (IsPast m) (accepted (turns_of steps)) (accepting st.turn.line st.turn.line.request st.turn.reply.n st.turn.reply.answer) lane.fresh step.fresh)

  lane_push : IsLane c m store H new (steps ++ st ∷ [])
  lane_push =
      let turns : turns_of steps ++ st.turn ∷ [] ≡ turns_of (steps ++ st ∷ []) = sym (turns_push steps st) in
      record {
        from = lane_now.from;
        named = subst (λ (ts : List Turn). Each IsNamed ts) turns (each_push IsNamed (turns_of steps) st.turn lane.named step.named);
        right = subst (λ (ts : List Turn). Each (IsRightTurn c m H store) ts) turns
            (each_push (IsRightTurn c m H store) (turns_of steps) st.turn lane_now.right step.right);
        fresh = subst (λ (ts : List Turn). Each (IsPast m) (accepted ts)) turns fresh_now;
        noted = noted_now;
        heard = each_push HasHeardStep steps st lane.heard step.heard;
        places = step.places ∙ lane.places;
        sessions = λ s. subst (λ (ts : List Turn). IsSession c m store H (of_session s ts) (slot new s)) turns (session_now s);
      }

pub takes_step : (c : ConfigParts) (m : ℕ) (store : Bool) (old H : List Entry) (looks new : List (Option Opened)) (steps : List Step) (l : Line) (st : Step)
    → IsLane c m store old looks steps → IsStep c m store old H looks new (accepted (turns_of steps)) l st → IsLane c m store H new (steps ++ st ∷ [])
takes_step c m store old H looks new steps l st lane step =
    lane_push c m store old H looks new steps st lane (subst (λ (k : Line). IsStep c m store old H looks new (accepted (turns_of steps)) k st) (sym step.line) step)
