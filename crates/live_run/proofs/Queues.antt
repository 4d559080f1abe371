-- Queues of replies, one for each session.
use Rattle.std.proofs.Common.{◌≡◌, ◌≢◌, ℕ, zero, suc, ◌+◌, ◌<◌, ◌≤◌, Bool, cond, List, [], ◌∷◌, ◌++◌, length, filter, flat_map, slice_set, Some, refl, sym, ◌∙◌, ap, subst, arith, eq-eqb, length-append, append_assoc, append-nil}
use Rattle.std.specs.List.{slice_get}
use Rattle.std.proofs.lemmas.Bool.{ne_eqb}
use Rattle.std.proofs.lemmas.List.Elements.{filter-append}
use Rattle.live_seats.specs.session_core.declared.line.Reply.{Reply}
use Rattle.live_seats.specs.session_core.Worlds.{Each}
use Rattle.live_run.specs.Runs.{is_reply_of, replies_from}
use Rattle.live_run.specs.Inner.Grouping.{AreWithin, IsWithin, QueueParts, appended, pushed, queued_from}

-- the replies of queues, one after another
abbrev pub replies_queued : List QueueParts → List Reply
replies_queued qs = flat_map (λ (q : QueueParts). q.replies) qs

queue_append : (q : QueueParts) (a b : List Reply) → appended (appended q a) b ≡ appended q (a ++ b)
queue_append q a b = ap (λ (l : List Reply). record { replies = l; capacity = q.capacity }) (append_assoc q.replies a b)

queue_none : (q : QueueParts) → appended q [] ≡ q
queue_none q = ap (λ (l : List Reply). record { replies = l; capacity = q.capacity }) (append-nil q.replies)

pub queued_append : (s : ℕ) (a b : List Reply) (qs : List QueueParts) → queued_from s b (queued_from s a qs) ≡ queued_from s (a ++ b) qs
queued_append s a b [] = refl
queued_append s a b (q ∷ qs) =
    ap (λ (p : QueueParts). p ∷ queued_from (suc s) b (queued_from (suc s) a qs)) (queue_append q (filter (is_reply_of s) a) (filter (is_reply_of s) b))
    ∙ ap (λ (l : List Reply). appended q l ∷ queued_from (suc s) b (queued_from (suc s) a qs)) (sym (filter-append (is_reply_of s) a b))
    ∙ ap (λ (l : List QueueParts). appended q (filter (is_reply_of s) (a ++ b)) ∷ l) (queued_append (suc s) a b qs)

pub queued_none : (s : ℕ) (qs : List QueueParts) → queued_from s [] qs ≡ qs
queued_none s [] = refl
queued_none s (q ∷ qs) = ap (λ (p : QueueParts). p ∷ queued_from (suc s) [] qs) (queue_none q) ∙ ap (λ (l : List QueueParts). q ∷ l) (queued_none (suc s) qs)

pub length_queued : (s : ℕ) (replies : List Reply) (qs : List QueueParts) → length (queued_from s replies qs) ≡ length qs
length_queued s replies [] = refl
length_queued s replies (q ∷ qs) = ap (λ (n : ℕ). suc n) (length_queued (suc s) replies qs)

front_within : (q : QueueParts) (test : Reply → Bool) (a b : List Reply) → IsWithin (appended q (filter test (a ++ b))) → IsWithin (appended q (filter test a))
front_within q test a b within =
    let is : length (q.replies ++ filter test (a ++ b)) ≤ q.capacity = within in
    let parts : filter test (a ++ b) ≡ filter test a ++ filter test b = filter-append test a b in
    let whole : length (q.replies ++ filter test (a ++ b)) ≡ length q.replies + (length (filter test a) + length (filter test b)) =
    length-append q.replies (filter test (a ++ b)) ∙ ap (λ (l : List Reply). length q.replies + length l) parts ∙ ap (λ (n : ℕ). length q.replies + n) (length-append (filter test a) (filter test b)) in
    let front : length (q.replies ++ filter test a) ≡ length q.replies + length (filter test a) = length-append q.replies (filter test a) in
    let least : length (q.replies ++ filter test a) ≤ q.capacity = omega arith in least

-- with fewer replies there is room too
pub within_front : (s : ℕ) (a b : List Reply) (qs : List QueueParts) → AreWithin (queued_from s (a ++ b) qs) → AreWithin (queued_from s a qs)
within_front s a b [] within = tt
within_front s a b (q ∷ qs) within = (front_within q (is_reply_of s) a b within.0, within_front (suc s) a b qs within.1)

-- One reply more.

own_one : (s : ℕ) (reply : Reply) → reply.session.0 ≡ s → filter (is_reply_of s) (reply ∷ []) ≡ reply ∷ []
own_one s reply same = ap (λ (b : Bool). cond b (reply ∷ []) []) (eq-eqb reply.session.0 s same)

other_one : (s : ℕ) (reply : Reply) → reply.session.0 ≢ s → filter (is_reply_of s) (reply ∷ []) ≡ []
other_one s reply ne = ap (λ (b : Bool). cond b (reply ∷ []) []) (ne_eqb reply.session.0 s ne)

-- queues behind the reply's one stay as they were
others_stay : (s : ℕ) (reply : Reply) (qs : List QueueParts) → reply.session.0 < s → queued_from s (reply ∷ []) qs ≡ qs
others_stay s reply [] past = refl
others_stay s reply (q ∷ qs) past =
    let ne : reply.session.0 ≢ s = λ same. absurd (omega arith) in
    let next : reply.session.0 < suc s = omega arith in
    ap (λ (l : List Reply). appended q l ∷ queued_from (suc s) (reply ∷ []) qs) (other_one s reply ne)
    ∙ ap (λ (p : QueueParts). p ∷ queued_from (suc s) (reply ∷ []) qs) (queue_none q)
    ∙ ap (λ (l : List QueueParts). q ∷ l) (others_stay (suc s) reply qs next)

pub put_is : (s place : ℕ) (reply : Reply) (qs : List QueueParts) (q : QueueParts) → reply.session.0 ≡ s + place → slice_get qs place ≡ Some q
    → slice_set qs place (pushed q reply) ≡ queued_from s (reply ∷ []) qs
put_is s place reply [] q of there = absurd cc
put_is s zero reply (p ∷ qs) q of there =
    let same : p ≡ q = cc in
    let own : reply.session.0 ≡ s = omega arith in
    let past : reply.session.0 < suc s = omega arith in
    ap (λ (x : QueueParts). pushed x reply ∷ qs) (sym same)
    ∙ ap (λ (l : List Reply). appended p l ∷ qs) (sym (own_one s reply own))
    ∙ ap (λ (l : List QueueParts). appended p (filter (is_reply_of s) (reply ∷ [])) ∷ l) (sym (others_stay (suc s) reply qs past))
put_is s (suc place) reply (p ∷ qs) q of there =
    let ne : reply.session.0 ≢ s = λ same. absurd (omega arith) in
    let next : reply.session.0 ≡ suc s + place = omega arith in
    ap (λ (l : List QueueParts). p ∷ l) (put_is (suc s) place reply qs q next there)
    ∙ ap (λ (x : QueueParts). x ∷ queued_from (suc s) (reply ∷ []) qs) (sym (queue_none p))
    ∙ ap (λ (l : List Reply). appended p l ∷ queued_from (suc s) (reply ∷ []) qs) (sym (other_one s reply ne))

pub put_room : (s place : ℕ) (reply : Reply) (qs : List QueueParts) (q : QueueParts) → reply.session.0 ≡ s + place → slice_get qs place ≡ Some q
    → AreWithin (queued_from s (reply ∷ []) qs) → length q.replies < q.capacity
put_room s place reply [] q of there within = absurd cc
put_room s zero reply (p ∷ qs) q of there within =
    let same : p ≡ q = cc in
    let own : reply.session.0 ≡ s = omega arith in
    let is : length (p.replies ++ filter (is_reply_of s) (reply ∷ [])) ≤ p.capacity = within.0 in
    let more : length (p.replies ++ filter (is_reply_of s) (reply ∷ [])) ≡ length p.replies + 1 =
    ap (λ (l : List Reply). length (p.replies ++ l)) (own_one s reply own) ∙ length-append p.replies (reply ∷ []) in
    subst (λ (x : QueueParts). length x.replies < x.capacity) same (let low : length p.replies < p.capacity = omega arith in low)
put_room s (suc place) reply (p ∷ qs) q of there within =
    let next : reply.session.0 ≡ suc s + place = omega arith in
    put_room (suc s) place reply qs q next there within.1

-- All queues together.

-- no queue has a reply
abbrev pub AreEmpty : List QueueParts → Type 0
AreEmpty qs = Each (λ (q : QueueParts). q.replies ≡ []) qs

pub all_queued : (s : ℕ) (replies : List Reply) (qs : List QueueParts) → AreEmpty qs → replies_queued (queued_from s replies qs) ≡ replies_from s (length qs) replies
all_queued s replies [] none = refl
all_queued s replies (q ∷ qs) none =
    ap (λ (l : List Reply). (l ++ filter (is_reply_of s) replies) ++ replies_queued (queued_from (suc s) replies qs)) none.0
    ∙ ap (λ (l : List Reply). filter (is_reply_of s) replies ++ l) (all_queued (suc s) replies qs none.1)

-- Loops that hand on what is left.

pub left_more : {A : Type 0} (made left rest all : List A) (x : A) → made ++ left ≡ all → left ≡ x ∷ rest → (made ++ x ∷ []) ++ rest ≡ all
left_more made left rest all x whole is = append_assoc made (x ∷ []) rest ∙ ap (λ l. made ++ l) (sym is) ∙ whole

pub left_long : {A : Type 0} (made left rest all : List A) (x : A) → made ++ left ≡ all → left ≡ x ∷ rest → length made < length all
left_long made left rest all x whole is =
    let long : length all ≡ length made + suc (length rest) = ap (λ l. length l) (sym whole) ∙ length-append made left ∙ ap (λ l. length made + length l) is in
    omega arith

pub left_none : {A : Type 0} (made left all : List A) → made ++ left ≡ all → length left ≡ 0 → made ≡ all
left_none made [] all whole none = sym (append-nil made) ∙ whole
left_none made (x ∷ left) all whole none = absurd (omega (arith, none))

pub queue_of : (made all : List Reply) (room capacity : ℕ) → made ≡ all → room ≡ capacity
    → ◌≡◌ {A = QueueParts} (record { replies = made; capacity = room }) (record { replies = all; capacity = capacity })
queue_of made all room capacity same as_much =
    ap (λ (l : List Reply). record { replies = l; capacity = room }) same ∙ ap (λ (n : ℕ). record { replies = all; capacity = n }) as_much
