-- Lines and replies, session by session.
use Rattle.std.proofs.Common.{◌≡◌, ◌⊎◌, ⊎_elim, ℕ, zero, suc, ◌+◌, ◌<◌, ◌≤◌, Bool, true, false, cond, List, [], ◌∷◌, ◌++◌, length, filter, map, take, get_or, length-take, take_all, refl, sym, ◌∙◌, ap, subst, arith, nat_eq, nat_le, eq-eqb, length-append}
use Rattle.std.proofs.lemmas.Bool.{cases_order, le-leb, lt-leb, ne_eqb}
use Rattle.std.proofs.lemmas.List.{map-append}
use Rattle.std.proofs.lemmas.List.Filters.{length-filter_more}
use Rattle.live_seats.specs.session_core.declared.line.Line.{Line}
use Rattle.live_seats.specs.session_core.declared.line.Reply.{Reply}
use Rattle.live_seats.specs.session_core.Worlds.{Each, Turn}
use Rattle.live_seats.specs.session_core.Legal.{IsNamed, is_line_of, lines_in, lines_of_session, of_session, replies_in}
use Rattle.live_seats.specs.live_laws.Lanes.{grouped_from}
use Rattle.live_run.specs.Runs.{is_reply_of, replies_from}
use Rattle.live_run.specs.Inner.Grouping.{AreWithin, HaveRooms, QueueParts, lines_from, queued_from}
use Rattle.live_run.proofs.Queues.{AreEmpty}

-- the turns of a session, and their replies
session_replies : (s : ℕ) (ts : List Turn) → Each IsNamed ts → filter (is_reply_of s) (replies_in ts) ≡ replies_in (of_session s ts)
session_replies s [] named = refl
session_replies s (t ∷ ts) named =
    ap (λ (b : Bool). cond b (t.reply ∷ filter (is_reply_of s) (replies_in ts)) (filter (is_reply_of s) (replies_in ts))) same
    ∙ ap (λ (l : List Reply). cond (nat_eq t.line.session.0 s) (t.reply ∷ l) l) (session_replies s ts named.1)
    ∙ inside (nat_eq t.line.session.0 s)
  where
    same : nat_eq t.reply.session.0 s ≡ nat_eq t.line.session.0 s
    same = ap (λ k. nat_eq k.0 s) named.0.session

    inside : (b : Bool) → cond b (t.reply ∷ replies_in (of_session s ts)) (replies_in (of_session s ts)) ≡ replies_in (cond b (t ∷ of_session s ts) (of_session s ts))
    inside true = refl
    inside false = refl

pub session_lines : (s : ℕ) (ts : List Turn) → lines_of_session s (lines_in ts) ≡ lines_in (of_session s ts)
session_lines s [] = refl
session_lines s (t ∷ ts) =
    ap (λ (l : List Line). cond (nat_eq t.line.session.0 s) (t.line ∷ l) l) (session_lines s ts) ∙ inside (nat_eq t.line.session.0 s)
  where
    inside : (b : Bool) → cond b (t.line ∷ lines_in (of_session s ts)) (lines_in (of_session s ts)) ≡ lines_in (cond b (t ∷ of_session s ts) (of_session s ts))
    inside true = refl
    inside false = refl

length_map : {A B : Type 0} (f : A → B) (xs : List A) → length (map f xs) ≡ length xs
length_map f [] = refl
length_map f (x ∷ xs) = ap (λ (n : ℕ). suc n) (length_map f xs)

session_count : (s : ℕ) (ts : List Turn) → Each IsNamed ts → length (filter (is_reply_of s) (replies_in ts)) ≡ length (lines_of_session s (lines_in ts))
session_count s ts named =
    ap (λ (l : List Reply). length l) (session_replies s ts named)
    ∙ length_map (λ (t : Turn). t.reply) (of_session s ts)
    ∙ sym (length_map (λ (t : Turn). t.line) (of_session s ts))
    ∙ ap (λ (l : List Line). length l) (sym (session_lines s ts))

-- the replies of grouped turns
pub grouped_replies : (s count : ℕ) (ts : List Turn) → Each IsNamed ts → replies_from s count (replies_in ts) ≡ replies_in (grouped_from s count ts)
grouped_replies s zero ts named = refl
grouped_replies s (suc count) ts named =
    ap (λ (l : List Reply). l ++ replies_from (suc s) count (replies_in ts)) (session_replies s ts named)
    ∙ ap (λ (l : List Reply). replies_in (of_session s ts) ++ l) (grouped_replies (suc s) count ts named)
    ∙ sym (map-append (λ (t : Turn). t.reply) (of_session s ts) (grouped_from (suc s) count ts))

-- there are as many replies as lines
pub grouped_count : (s count : ℕ) (ts : List Turn) → Each IsNamed ts → length (replies_from s count (replies_in ts)) ≡ length (lines_from s count (lines_in ts))
grouped_count s zero ts named = refl
grouped_count s (suc count) ts named =
    let own : length (filter (is_reply_of s) (replies_in ts)) ≡ length (lines_of_session s (lines_in ts)) = session_count s ts named in
    let rest : length (replies_from (suc s) count (replies_in ts)) ≡ length (lines_from (suc s) count (lines_in ts)) = grouped_count (suc s) count ts named in
    omega (arith, length-append (filter (is_reply_of s) (replies_in ts)) (replies_from (suc s) count (replies_in ts)), length-append (lines_of_session s (lines_in ts)) (lines_from (suc s) count (lines_in ts)))

-- Rooms.

pub rooms_empty : (s : ℕ) (lines : List Line) (qs : List QueueParts) → HaveRooms s lines qs → AreEmpty qs
rooms_empty s lines [] rooms = tt
rooms_empty s lines (q ∷ qs) rooms = (rooms.0, rooms_empty (suc s) lines qs rooms.2)

pub rooms_within : (s : ℕ) (ts : List Turn) (qs : List QueueParts) → Each IsNamed ts → HaveRooms s (lines_in ts) qs → AreWithin (queued_from s (replies_in ts) qs)
rooms_within s ts [] named rooms = tt
rooms_within s ts (q ∷ qs) named rooms =
    let count : length (filter (is_reply_of s) (replies_in ts)) ≡ length (lines_of_session s (lines_in ts)) = session_count s ts named in
    let none : length (q.replies ++ filter (is_reply_of s) (replies_in ts)) ≡ length (filter (is_reply_of s) (replies_in ts)) =
    ap (λ (l : List Reply). length (l ++ filter (is_reply_of s) (replies_in ts))) rooms.0 in
    let room : length (lines_of_session s (lines_in ts)) ≤ q.capacity = rooms.1 in
    ((let fits : length (q.replies ++ filter (is_reply_of s) (replies_in ts)) ≤ q.capacity = omega arith in fits), rooms_within (suc s) ts qs named rooms.2)

-- room for the next session
pub rooms_more : (s : ℕ) (lines : List Line) (qs : List QueueParts) (q : QueueParts) → HaveRooms s lines qs
    → q.replies ≡ [] → length (lines_of_session (s + length qs) lines) ≤ q.capacity → HaveRooms s lines (qs ++ q ∷ [])
rooms_more s lines [] q rooms none room = (none, subst (λ (k : ℕ). length (lines_of_session k lines) ≤ q.capacity) (omega arith) room, tt)
rooms_more s lines (p ∷ qs) q rooms none room =
    (rooms.0, rooms.1, rooms_more (suc s) lines qs q rooms.2 none (subst (λ (k : ℕ). length (lines_of_session k lines) ≤ q.capacity) (omega arith) room))

-- How many lines there are.

-- a line's session is this one or one behind it
abbrev is_from : ℕ → Line → Bool
is_from s l = nat_le s l.session.0

length_cond : (b : Bool) (l : Line) (ls : List Line) → length (cond b (l ∷ ls) ls) ≡ length ls + cond b 1 0
length_cond true l ls = omega arith
length_cond false l ls = omega arith

-- a session is one from here on: this one, or one behind it
bits : (a b e x y z : Bool) → a ≡ x → b ≡ y → e ≡ z → cond x 1 0 ≡ cond y 1 0 + cond z 1 0 → cond a 1 0 ≡ cond b 1 0 + cond e 1 0
bits a b e x y z is-a is-b is-e sum =
    ap (λ v. cond v 1 0) is-a ∙ sum ∙ ap (λ v. cond v 1 0 + cond z 1 0) (sym is-b) ∙ ap (λ v. cond b 1 0 + cond v 1 0) (sym is-e)

from_next : (s k : ℕ) → cond (nat_le s k) 1 0 ≡ cond (nat_eq k s) 1 0 + cond (nat_le (suc s) k) 1 0
from_next s k =
    ⊎_elim
    (λ (same : s ≡ k).
    bits (nat_le s k) (nat_eq k s) (nat_le (suc s) k) true true false (le-leb s k (omega arith)) (eq-eqb k s (sym same)) (lt-leb (suc s) k (omega arith)) refl)
    (λ (apart : (s < k) ⊎ (k < s)).
    ⊎_elim
    (λ (low : s < k).
    bits (nat_le s k) (nat_eq k s) (nat_le (suc s) k) true false true (le-leb s k (omega arith)) (ne_eqb k s (λ same. absurd (omega arith))) (le-leb (suc s) k (omega arith)) refl)
    (λ (high : k < s).
    bits (nat_le s k) (nat_eq k s) (nat_le (suc s) k) false false false (lt-leb s k high) (ne_eqb k s (λ same. absurd (omega arith))) (lt-leb (suc s) k (omega arith)) refl)
    apart)
    (cases_order s k)

split_next : (s : ℕ) (ls : List Line) → length (filter (is_from s) ls) ≡ length (lines_of_session s ls) + length (filter (is_from (suc s)) ls)
split_next s [] = refl
split_next s (l ∷ ls) =
    let rest : length (filter (is_from s) ls) ≡ length (lines_of_session s ls) + length (filter (is_from (suc s)) ls) = split_next s ls in
    omega (arith, from_next s l.session.0, length_cond (is_from s l) l (filter (is_from s) ls), length_cond (is_line_of s l) l (lines_of_session s ls), length_cond (is_from (suc s) l) l (filter (is_from (suc s)) ls))

lines_behind : (s count : ℕ) (ls : List Line) → length (lines_from s count ls) ≤ length (filter (is_from s) ls)
lines_behind s zero ls = omega arith
lines_behind s (suc count) ls =
    let rest : length (lines_from (suc s) count ls) ≤ length (filter (is_from (suc s)) ls) = lines_behind (suc s) count ls in
    omega (arith, split_next s ls, length-append (lines_of_session s ls) (lines_from (suc s) count ls))

pub filter_few : (test : Line → Bool) (ls : List Line) → length (filter test ls) ≤ length ls
filter_few test [] = omega arith
filter_few test (l ∷ ls) = let rest : length (filter test ls) ≤ length ls = filter_few test ls in few (test l) rest
  where
    few : (b : Bool) → length (filter test ls) ≤ length ls → length (cond b (l ∷ filter test ls) (filter test ls)) ≤ suc (length ls)
    few true rest = omega arith
    few false rest = omega arith

-- no more lines stand session by session than there are
pub few_lines : (s count : ℕ) (ls : List Line) → length (lines_from s count ls) ≤ length ls
few_lines s count ls = omega (arith, lines_behind s count ls, filter_few (is_from s) ls)

-- The lines of a session are counted one after another.

pub count_own : (s : ℕ) (ls : List Line) (i : ℕ) (l : Line) (count : ℕ) → i < length ls → count ≡ length (lines_of_session s (take i ls))
    → l ≡ get_or ls i l → l.session.0 ≡ s → count + 1 ≡ length (lines_of_session s (take (i + 1) ls))
count_own s ls i l count low is there own =
    let one : ◌≡◌ {A = ℕ} (cond (is_line_of s (get_or ls i l)) 1 0) 1 =
    ap (λ (k : Line). cond (is_line_of s k) 1 0) (sym there) ∙ ap (λ (b : Bool). cond b 1 0) (eq-eqb l.session.0 s own) in
    omega (arith, is, one, length-filter_more (is_line_of s) ls i l low)

pub count_other : (s : ℕ) (ls : List Line) (i : ℕ) (l : Line) (count : ℕ) → i < length ls → count ≡ length (lines_of_session s (take i ls))
    → l ≡ get_or ls i l → (l.session.0 ≡ s → ⊥) → count ≡ length (lines_of_session s (take (i + 1) ls))
count_other s ls i l count low is there ne =
    let none : ◌≡◌ {A = ℕ} (cond (is_line_of s (get_or ls i l)) 1 0) 0 =
    ap (λ (k : Line). cond (is_line_of s k) 1 0) (sym there) ∙ ap (λ (b : Bool). cond b 1 0) (ne_eqb l.session.0 s ne) in
    omega (arith, is, none, length-filter_more (is_line_of s) ls i l low)

pub count_low : (s : ℕ) (ls : List Line) (i count : ℕ) → count ≡ length (lines_of_session s (take i ls)) → count ≤ i
count_low s ls i count is = omega (arith, is, filter_few (is_line_of s) (take i ls), length-take i ls)

pub count_all : (s : ℕ) (ls : List Line) (i count : ℕ) → length ls ≤ i → count ≡ length (lines_of_session s (take i ls)) → count ≡ length (lines_of_session s ls)
count_all s ls i count past is = is ∙ ap (λ (l : List Line). length (lines_of_session s l)) (take_all i ls past)
