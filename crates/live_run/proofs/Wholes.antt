-- What holds of the lines and turns of all lanes together.
use Rattle.std.proofs.Common.{◌≡◌, ℕ, zero, suc, ◌+◌, ◌<◌, ◌≤◌, Bool, true, false, List, [], ◌∷◌, ◌++◌, length, Option, Some, None, refl, sym, ◌∙◌, ap, subst, arith, append_assoc, length-append}
use Rattle.std.proofs.lemmas.List.{map-append}
use Rattle.std.proofs.lemmas.List.Sums.{sum_by-append}
use Rattle.db_config.specs.declared.parts.ConfigParts.{ConfigParts}
use Rattle.edit_rules.specs.declared.acts.Entry.{Entry}
use Rattle.live_seats.specs.session_core.declared.line.Answer.{Answer}
use Rattle.live_seats.specs.session_core.declared.line.Answer.TheVariants.{Done, Refused, Segments}
use Rattle.live_seats.specs.session_core.declared.line.Line.{Line}
use Rattle.live_seats.specs.session_core.declared.line.Reply.{Reply}
use Rattle.live_seats.specs.session_core.declared.line.Request.{Request}
use Rattle.live_seats.specs.session_core.InOrder.{ComeInOrder}
use Rattle.live_seats.specs.session_core.Steps.{session_places}
use Rattle.live_seats.specs.session_core.Worlds.{Each, Turn}
use Rattle.live_seats.specs.session_core.Legal.{IsNamed, Mark, accepted, accepting, disk_replies, lines_in, lines_of_session, makes_entry, of_session, replies_in, told_mark}
use Rattle.live_seats.proofs.of_session_core.Turns.{disk_of, each_filter, each_map, each_of_map}
use Rattle.live_seats.specs.live_laws.Lanes.{Agrees, AreLanes, Step, accepts, all_steps, all_turns, grouped, grouped_from, is_in_lane, turns_of}
use Rattle.live_seats.proofs.of_live_laws.Eaches.{each_append}
use Rattle.live_seats.proofs.of_live_laws.Grouping.{accepts_grouped}
use Rattle.live_seats.proofs.of_live_laws.Homes.{IsWhole, home, in_order}
use Rattle.live_seats.proofs.of_live_laws.Rising.{come_placed}
use Rattle.live_run.specs.Inner.Grouping.{HasRooms, HaveRooms, IsPlaced, QueueParts, lines_from}
use Rattle.live_run.specs.Inner.Running.{accepts_in, refuses_in}
use Rattle.live_run.proofs.Sessions.{few_lines, session_lines}

-- What holds of each line and turn.

turns_first : (steps : List Step) (ran : List (List Step)) → all_turns (steps ∷ ran) ≡ turns_of steps ++ all_turns ran
turns_first steps ran = map-append (λ (st : Step). st.turn) steps (all_steps ran)

pub each_turn : (P : Turn → Type 0) (ran : List (List Step)) → Each (λ (steps : List Step). Each P (turns_of steps)) ran → Each P (all_turns ran)
each_turn P [] each = tt
each_turn P (steps ∷ ran) each =
    subst (λ (ts : List Turn). Each P ts) (sym (turns_first steps ran)) (each_append P (turns_of steps) (all_turns ran) each.0 (each_turn P ran each.1))

-- what holds of each line of a script holds of each line that its lanes answered
pub each_line : (P : Line → Type 0) (lane_of : ℕ → ℕ) (script : List Line) (k : ℕ) (ran : List (List Step)) → Each P script → AreLanes lane_of script k ran
    → Each P (lines_in (all_turns ran))
each_line P lane_of script k [] each lanes = tt
each_line P lane_of script k (steps ∷ ran) each lanes =
    subst (λ (ls : List Line). Each P ls)
    (sym (ap (λ (ts : List Turn). lines_in ts) (turns_first steps ran) ∙ map-append (λ (t : Turn). t.line) (turns_of steps) (all_turns ran)))
    (each_append P (lines_in (turns_of steps)) (lines_in (all_turns ran))
    (subst (λ (ls : List Line). Each P ls) (sym lanes.0) (each_filter P (is_in_lane lane_of k) script each))
    (each_line P lane_of script (suc k) ran each lanes.1))

pub all_placed : (lane_of : ℕ → ℕ) (script : List Line) (ran : List (List Step)) → ComeInOrder [] script → AreLanes lane_of script 0 ran → Each IsPlaced (all_turns ran)
all_placed lane_of script ran come lanes =
    each_of_map (λ (l : Line). l.session.0 < session_places) (λ (t : Turn). t.line) (all_turns ran)
    (each_line (λ (l : Line). l.session.0 < session_places) lane_of script 0 ran (come_placed [] script come) lanes)

-- Counts.

accepted_append : (xs ys : List Turn) → accepted (xs ++ ys) ≡ accepted xs ++ accepted ys
accepted_append [] ys = refl
accepted_append (x ∷ xs) ys =
    ap (λ (l : List Mark). accepting x.line x.line.request x.reply.n x.reply.answer ++ l) (accepted_append xs ys)
    ∙ sym (append_assoc (accepting x.line x.line.request x.reply.n x.reply.answer) (accepted xs) (accepted ys))

accepts_append : (xs ys : List Turn) → accepts (xs ++ ys) ≡ accepts xs + accepts ys
accepts_append xs ys = ap (λ (l : List Mark). length l) (accepted_append xs ys) ∙ length-append (accepted xs) (accepted ys)

disks_append : (xs ys : List Turn) → disk_replies (replies_in (xs ++ ys)) ≡ disk_replies (replies_in xs) + disk_replies (replies_in ys)
disks_append xs ys =
    ap (λ (l : List Reply). disk_replies l) (map-append (λ (t : Turn). t.reply) xs ys)
    ∙ sum_by-append (λ (r : Reply). disk_of r.answer) (replies_in xs) (replies_in ys)

pub all_accepted : (ran : List (List Step)) → accepts (all_turns ran) ≡ accepts_in ran
all_accepted [] = refl
all_accepted (steps ∷ ran) =
    ap (λ (ts : List Turn). accepts ts) (turns_first steps ran)
    ∙ accepts_append (turns_of steps) (all_turns ran)
    ∙ ap (λ (n : ℕ). accepts (turns_of steps) + n) (all_accepted ran)

pub all_refused : (ran : List (List Step)) → disk_replies (replies_in (all_turns ran)) ≡ refuses_in ran
all_refused [] = refl
all_refused (steps ∷ ran) =
    ap (λ (ts : List Turn). disk_replies (replies_in ts)) (turns_first steps ran)
    ∙ disks_append (turns_of steps) (all_turns ran)
    ∙ ap (λ (n : ℕ). disk_replies (replies_in (turns_of steps)) + n) (all_refused ran)

-- a line has one acceptance at most
told_few : (l : Line) (makes : Bool) (n : Option ℕ) (answer : Answer) → length (told_mark l makes n answer) ≤ 1
told_few l true (Some n) (Done command) = omega arith
told_few l true (Some n) (Segments rows) = omega arith
told_few l true (Some n) (Refused refusal) = omega arith
told_few l true None answer = omega arith
told_few l false n answer = omega arith

accepting_few : (l : Line) (r : Request) (n : Option ℕ) (answer : Answer) → length (accepting l r n answer) ≤ 1
accepting_few l r n answer = told_few l (makes_entry r) n answer

accepts_few : (ts : List Turn) → accepts ts ≤ length ts
accepts_few [] = omega arith
accepts_few (t ∷ ts) =
    let rest : accepts ts ≤ length ts = accepts_few ts in
    omega (arith, accepting_few t.line t.line.request t.reply.n t.reply.answer, length-append (accepting t.line t.line.request t.reply.n t.reply.answer) (accepted ts))

-- The lines of each session.

lines_long : (ts : List Turn) → length (lines_in ts) ≡ length ts
lines_long [] = refl
lines_long (t ∷ ts) = ap (λ (n : ℕ). suc n) (lines_long ts)

grouped_long : (s count : ℕ) (ts : List Turn) → length (grouped_from s count ts) ≡ length (lines_from s count (lines_in ts))
grouped_long s zero ts = refl
grouped_long s (suc count) ts =
    length-append (of_session s ts) (grouped_from (suc s) count ts)
    ∙ ap (λ (n : ℕ). n + length (grouped_from (suc s) count ts)) (sym (lines_long (of_session s ts)) ∙ ap (λ (l : List Line). length l) (sym (session_lines s ts)))
    ∙ ap (λ (n : ℕ). length (lines_of_session s (lines_in ts)) + n) (grouped_long (suc s) count ts)
    ∙ sym (length-append (lines_of_session s (lines_in ts)) (lines_from (suc s) count (lines_in ts)))

-- lists of lines that have the same lines of each session
abbrev pub AreAlike : List Line → List Line → Type 0
AreAlike ls script = (s : ℕ) → lines_of_session s ls ≡ lines_of_session s script

alike_from : (ls script : List Line) (s count : ℕ) → AreAlike ls script → lines_from s count ls ≡ lines_from s count script
alike_from ls script s zero alike = refl
alike_from ls script s (suc count) alike =
    ap (λ (l : List Line). l ++ lines_from (suc s) count ls) (alike s)
    ∙ ap (λ (l : List Line). lines_of_session s script ++ l) (alike_from ls script (suc s) count alike)

alike_rooms : (ls script : List Line) (s : ℕ) (qs : List QueueParts) → AreAlike ls script → HaveRooms s script qs → HaveRooms s ls qs
alike_rooms ls script s [] alike rooms = tt
alike_rooms ls script s (q ∷ qs) alike rooms =
    (rooms.0, subst (λ (l : List Line). length l ≤ q.capacity) (sym (alike s)) rooms.1, alike_rooms ls script (suc s) qs alike rooms.2)

pub rooms_alike : (ls script : List Line) (queues : List QueueParts) (joined : QueueParts) → AreAlike ls script → HasRooms script queues joined → HasRooms ls queues joined
rooms_alike ls script queues joined alike rooms = record {
  places = rooms.places;
  each = alike_rooms ls script 0 queues alike rooms.each;
  empty = rooms.empty;
  room = subst (λ (l : List Line). length l ≤ joined.capacity) (sym (alike_from ls script 0 session_places alike)) rooms.room;
}

-- no more edits are accepted than there are lines
pub few_accepted : (ts : List Turn) (script : List Line) → Each IsPlaced ts → AreAlike (lines_in ts) script → accepts ts ≤ length script
few_accepted ts script placed alike =
    let all : accepts (grouped ts) ≡ accepts ts = accepts_grouped ts placed in
    let long : length (grouped ts) ≡ length (lines_from 0 session_places script) =
    grouped_long 0 session_places ts ∙ ap (λ (l : List Line). length l) (alike_from (lines_in ts) script 0 session_places alike) in
    let few : accepts (grouped ts) ≤ length (grouped ts) = accepts_few (grouped ts) in
    let least : length (lines_from 0 session_places script) ≤ length script = few_lines 0 session_places script in
    omega arith

module _ (c : ConfigParts) (m : ℕ) (store : Bool) (H : List Entry) (script : List Line) (lane_of value : ℕ → ℕ) (ran : List (List Step)) where
  -- each session's lines were answered, in their order
  pub all_alike : AreLanes lane_of script 0 ran → Each (IsWhole c m store H) ran → Each (Agrees value) (all_steps ran) → ((s : ℕ) → lane_of s < length ran)
      → AreAlike (lines_in (all_turns ran)) script
  all_alike lanes whole agrees within s =
      session_lines s (all_turns ran)
      ∙ in_order c m store H script lane_of value (all_turns ran) s (home c m store H script lane_of value ran s lanes whole agrees (within s))

  pub all_named : Each (IsWhole c m store H) ran → Each IsNamed (all_turns ran)
  all_named whole = each_turn IsNamed ran (each_map (IsWhole c m store H) (λ (steps : List Step). Each IsNamed (turns_of steps)) (λ steps is. is.lane.named) ran whole)
