-- Turns grouped by session: what holds of them and of their sessions, and what they sum to.
use Rattle.std.proofs.Common.{◌≡◌, ◌≢◌, ⊎_elim, ℕ, zero, suc, ◌+◌, ◌<◌, ◌≤◌, true, false, cond, List, [], ◌∷◌, ◌++◌, length, refl, sym, ◌∙◌, ap, arith, eqb-true, eq-eqb, length-append}
use Rattle.std.proofs.lemmas.Bool.{cases_eq, cases_lt, ne_eqb}
use Rattle.std.proofs.lemmas.List.{append-nil}
use Rattle.std.proofs.lemmas.List.Elements.{filter-append}
use Rattle.std.proofs.lemmas.List.Sums.{sum_by-cons}
use Rattle.session_core.specs.declared.line.Reply.{Reply}
use Rattle.session_core.specs.Steps.{session_places}
use Rattle.session_core.specs.Worlds.{Turn, Each}
use Rattle.session_core.specs.Legal.{accepted, accepting, disk_replies, is_of, of_session, replies_in}
use Rattle.session_core.proofs.Turns.{disk_of, each_filter, each_map}
use Rattle.session_core.proofs.Runs.{filter_all}
use Rattle.live_laws.specs.Lanes.{grouped, grouped_from}
use Rattle.live_laws.proofs.Eaches.{each_append, filter_none, filter_passes}

-- a turn's session is this one or one behind it
abbrev pub IsFrom : ℕ → Turn → Type 0
IsFrom s t = s ≤ t.line.session.0

-- a turn's session is one before this one
abbrev pub IsBefore : ℕ → Turn → Type 0
IsBefore s t = t.line.session.0 < s

-- a turn's session is this one
abbrev pub IsOf : ℕ → Turn → Type 0
IsOf s t = t.line.session.0 ≡ s

-- What holds of each turn.

pub each_grouped : (P : Turn → Type 0) (s count : ℕ) (ts : List Turn) → Each P ts → Each P (grouped_from s count ts)
each_grouped P s zero ts each = tt
each_grouped P s (suc count) ts each =
    each_append P (of_session s ts) (grouped_from (suc s) count ts) (each_filter P (is_of s) ts each) (each_grouped P (suc s) count ts each)

pub own : (s : ℕ) (ts : List Turn) → Each (IsOf s) (of_session s ts)
own s ts = each_map (λ t. is_of s t ≡ true) (IsOf s) (λ t is. eqb-true t.line.session.0 s is) (of_session s ts) (filter_passes (is_of s) ts)

pub all_from : (s count : ℕ) (ts : List Turn) → Each (IsFrom s) (grouped_from s count ts)
all_from s zero ts = tt
all_from s (suc count) ts =
    each_append (IsFrom s) (of_session s ts) (grouped_from (suc s) count ts)
    (each_map (IsOf s) (IsFrom s) (λ t is. let same : t.line.session.0 ≡ s = is in omega arith) (of_session s ts) (own s ts))
    (each_map (IsFrom (suc s)) (IsFrom s) (λ t is. let low : suc s ≤ t.line.session.0 = is in omega arith) (grouped_from (suc s) count ts) (all_from (suc s) count ts))

-- The turns of one session.

pub none_of : (s : ℕ) (ts : List Turn) → Each (λ t. t.line.session.0 ≢ s) ts → of_session s ts ≡ []
none_of s ts each =
    filter_none (is_of s) ts
    (each_map (λ t. t.line.session.0 ≢ s) (λ t. is_of s t ≡ false) (λ t ne. ne_eqb t.line.session.0 s ne) ts each)

of_other : (s a : ℕ) (ts : List Turn) → a ≢ s → of_session s (of_session a ts) ≡ []
of_other s a ts ne =
    none_of s (of_session a ts) (each_map (IsOf a) (λ t. t.line.session.0 ≢ s) (λ t is same. ne (sym is ∙ same)) (of_session a ts) (own a ts))

of_own : (s a : ℕ) (ts : List Turn) → a ≡ s → of_session s (of_session a ts) ≡ of_session s ts
of_own s a ts same =
    ap (λ (k : ℕ). of_session s (of_session k ts)) same ∙ filter_all (is_of s) (of_session s ts) (filter_passes (is_of s) ts)

of_past : (s a count : ℕ) (ts : List Turn) → s < a → of_session s (grouped_from a count ts) ≡ []
of_past s a count ts past =
    none_of s (grouped_from a count ts)
    (each_map (IsFrom a) (λ t. t.line.session.0 ≢ s) (λ t is same. let low : a ≤ t.line.session.0 = is in absurd (omega arith)) (grouped_from a count ts) (all_from a count ts))

of_grouped_from : (s a count : ℕ) (ts : List Turn) → a ≤ s → s < a + count → of_session s (grouped_from a count ts) ≡ of_session s ts
of_grouped_from s a zero ts here there = absurd (omega arith)
of_grouped_from s a (suc count) ts here there =
    filter-append (is_of s) (of_session a ts) (grouped_from (suc a) count ts)
    ∙ ⊎_elim
    (λ same.
    let past : s < suc a = omega arith in
    ap (λ (xs : List Turn). xs ++ of_session s (grouped_from (suc a) count ts)) (of_own s a ts same)
    ∙ ap (λ (ys : List Turn). of_session s ts ++ ys) (of_past s (suc a) count ts past)
    ∙ append-nil (of_session s ts))
    (λ ne.
    let next : suc a ≤ s = omega arith in
    let high : s < suc a + count = omega arith in
    ap (λ (xs : List Turn). xs ++ of_session s (grouped_from (suc a) count ts)) (of_other s a ts ne)
    ∙ of_grouped_from s (suc a) count ts next high)
    (cases_eq a s)

none_behind : (s : ℕ) (ts : List Turn) → session_places ≤ s → Each (IsBefore session_places) ts → of_session s ts ≡ []
none_behind s ts past each =
    none_of s ts (each_map (IsBefore session_places) (λ t. t.line.session.0 ≢ s) (λ t is same. let low : t.line.session.0 < session_places = is in absurd (omega arith)) ts each)

-- grouping leaves each session's turns as they were
pub of_grouped : (s : ℕ) (ts : List Turn) → Each (IsBefore session_places) ts → of_session s (grouped ts) ≡ of_session s ts
of_grouped s ts each =
    ⊎_elim
    (λ within. of_grouped_from s 0 session_places ts (omega arith) (omega arith))
    (λ past. none_behind s (grouped ts) past (each_grouped (IsBefore session_places) 0 session_places ts each) ∙ sym (none_behind s ts past each))
    (cases_lt s session_places)

-- Sums over turns.

-- the sum of a number of each turn
abbrev pub total : (Turn → ℕ) → List Turn → ℕ
total f [] = 0
total f (t ∷ ts) = f t + total f ts

total_append : (f : Turn → ℕ) (xs ys : List Turn) → total f (xs ++ ys) ≡ total f xs + total f ys
total_append f [] ys = omega arith
total_append f (x ∷ xs) ys = let rest : total f (xs ++ ys) ≡ total f xs + total f ys = total_append f xs ys in omega arith

nothing_grouped : (a count : ℕ) → grouped_from a count [] ≡ []
nothing_grouped a zero = refl
nothing_grouped a (suc count) = nothing_grouped (suc a) count

own_more : (a : ℕ) (t : Turn) (ts : List Turn) → t.line.session.0 ≡ a → of_session a (t ∷ ts) ≡ t ∷ of_session a ts
own_more a t ts same = ap (λ b. cond b (t ∷ of_session a ts) (of_session a ts)) (eq-eqb t.line.session.0 a same)

other_more : (a : ℕ) (t : Turn) (ts : List Turn) → t.line.session.0 ≢ a → of_session a (t ∷ ts) ≡ of_session a ts
other_more a t ts ne = ap (λ b. cond b (t ∷ of_session a ts) (of_session a ts)) (ne_eqb t.line.session.0 a ne)

past_more : (a count : ℕ) (t : Turn) (ts : List Turn) → t.line.session.0 < a → grouped_from a count (t ∷ ts) ≡ grouped_from a count ts
past_more a zero t ts past = refl
past_more a (suc count) t ts past =
    let ne : t.line.session.0 ≢ a = λ same. absurd (omega arith) in
    let next : t.line.session.0 < suc a = omega arith in
    ap (λ (xs : List Turn). xs ++ grouped_from (suc a) count (t ∷ ts)) (other_more a t ts ne)
    ∙ ap (λ (ys : List Turn). of_session a ts ++ ys) (past_more (suc a) count t ts next)

total_own : (f : Turn → ℕ) (a count : ℕ) (t : Turn) (ts : List Turn) → t.line.session.0 ≡ a
    → total f (of_session a (t ∷ ts) ++ grouped_from (suc a) count (t ∷ ts)) ≡ f t + total f (of_session a ts ++ grouped_from (suc a) count ts)
total_own f a count t ts same =
    let past : t.line.session.0 < suc a = omega arith in
    ap (λ (xs : List Turn). total f (xs ++ grouped_from (suc a) count (t ∷ ts))) (own_more a t ts same)
    ∙ ap (λ (ys : List Turn). f t + total f (of_session a ts ++ ys)) (past_more (suc a) count t ts past)

total_other : (f : Turn → ℕ) (a count : ℕ) (t : Turn) (ts : List Turn) → t.line.session.0 ≢ a
    → total f (grouped_from (suc a) count (t ∷ ts)) ≡ f t + total f (grouped_from (suc a) count ts)
    → total f (of_session a (t ∷ ts) ++ grouped_from (suc a) count (t ∷ ts)) ≡ f t + total f (of_session a ts ++ grouped_from (suc a) count ts)
total_other f a count t ts ne rest =
    let whole : total f (of_session a ts ++ grouped_from (suc a) count (t ∷ ts)) ≡ total f (of_session a ts) + total f (grouped_from (suc a) count (t ∷ ts)) =
    total_append f (of_session a ts) (grouped_from (suc a) count (t ∷ ts)) in
    let old : total f (of_session a ts ++ grouped_from (suc a) count ts) ≡ total f (of_session a ts) + total f (grouped_from (suc a) count ts) =
    total_append f (of_session a ts) (grouped_from (suc a) count ts) in
    ap (λ (xs : List Turn). total f (xs ++ grouped_from (suc a) count (t ∷ ts))) (other_more a t ts ne)
    ∙ (let sum : total f (of_session a ts ++ grouped_from (suc a) count (t ∷ ts)) ≡ f t + total f (of_session a ts ++ grouped_from (suc a) count ts) = omega arith in sum)

total_more : (f : Turn → ℕ) (a count : ℕ) (t : Turn) (ts : List Turn) → a ≤ t.line.session.0 → t.line.session.0 < a + count
    → total f (grouped_from a count (t ∷ ts)) ≡ f t + total f (grouped_from a count ts)
total_more f a zero t ts here there = absurd (omega arith)
total_more f a (suc count) t ts here there =
    ⊎_elim
    (λ same. total_own f a count t ts same)
    (λ ne.
    let next : suc a ≤ t.line.session.0 = omega arith in
    let high : t.line.session.0 < suc a + count = omega arith in
    total_other f a count t ts ne (total_more f (suc a) count t ts next high))
    (cases_eq t.line.session.0 a)

total_grouped_from : (f : Turn → ℕ) (count : ℕ) (ts : List Turn) → Each (IsBefore count) ts → total f (grouped_from 0 count ts) ≡ total f ts
total_grouped_from f count [] each = ap (λ (xs : List Turn). total f xs) (nothing_grouped 0 count)
total_grouped_from f count (t ∷ ts) each =
    let high : t.line.session.0 < count = each.0 in
    total_more f 0 count t ts (omega arith) (omega arith) ∙ ap (λ (k : ℕ). f t + k) (total_grouped_from f count ts each.1)

accepts_total : (ts : List Turn) → length (accepted ts) ≡ total (λ t. length (accepting t.line t.line.request t.reply.n t.reply.answer)) ts
accepts_total [] = refl
accepts_total (t ∷ ts) =
    length-append (accepting t.line t.line.request t.reply.n t.reply.answer) (accepted ts)
    ∙ ap (λ (k : ℕ). length (accepting t.line t.line.request t.reply.n t.reply.answer) + k) (accepts_total ts)

disks_total : (ts : List Turn) → disk_replies (replies_in ts) ≡ total (λ t. disk_of t.reply.answer) ts
disks_total [] = refl
disks_total (t ∷ ts) =
    sum_by-cons (λ (r : Reply). disk_of r.answer) t.reply (replies_in ts) ∙ ap (λ (k : ℕ). disk_of t.reply.answer + k) (disks_total ts)

-- grouping leaves the number of acceptances as it was
pub accepts_grouped : (ts : List Turn) → Each (IsBefore session_places) ts → length (accepted (grouped ts)) ≡ length (accepted ts)
accepts_grouped ts each =
    accepts_total (grouped ts)
    ∙ total_grouped_from (λ t. length (accepting t.line t.line.request t.reply.n t.reply.answer)) session_places ts each
    ∙ sym (accepts_total ts)

-- and that of the disk's refusals
pub disks_grouped : (ts : List Turn) → Each (IsBefore session_places) ts → disk_replies (replies_in (grouped ts)) ≡ disk_replies (replies_in ts)
disks_grouped ts each =
    disks_total (grouped ts) ∙ total_grouped_from (λ t. disk_of t.reply.answer) session_places ts each ∙ sym (disks_total ts)
