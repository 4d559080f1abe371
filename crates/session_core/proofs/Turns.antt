-- Lists of turns: what one more turn changes of all that is said of them.
use Rattle.std.proofs.Common.{◌≡◌, ◌≢◌, ℕ, ◌+◌, ◌<◌, ◌≤◌, Bool, true, false, cond, ◌&&◌, ◌||◌, List, [], ◌∷◌, ◌++◌, length, map, filter, Option, Some, None, nat_eq, nat_le, refl, sym, ◌∙◌, ap, subst, arith, append_assoc, eq-eqb, eqb-true}
use Rattle.std.specs.List.{list_any}
use Rattle.std.proofs.lemmas.Bool.{ne_eqb, lt-leb, and_left, and_right, false≢true}
use Rattle.std.proofs.lemmas.List.{append-nil}
use Rattle.std.proofs.lemmas.List.Elements.{filter-append}
use Rattle.std.proofs.lemmas.List.Sums.{sum_by-cons}
use Rattle.std.proofs.Math.Nat.{max-le}
use Rattle.db_config.specs.declared.parts.ConfigParts.{ConfigParts}
use Rattle.edit_undo.specs.edit_rules.declared.acts.Entry.{Entry}
use Rattle.session_core.specs.declared.line.Answer.{Answer}
use Rattle.session_core.specs.declared.line.Request.{Request}
use Rattle.session_core.specs.declared.line.Request.TheVariants as requests
use Rattle.session_core.specs.declared.line.Reply.{Reply}
use Rattle.session_core.specs.Worlds.{Turn, Each, is_answered}
use Rattle.session_core.specs.Legal.{is_of, of_session, lines_in, replies_in, accepting, accepted, mark_at, numbered, low_behind, KeepsUp, NeverFalls, Look, open_behind, ReplyFits, LooksFit, session_of, number_or, seen_by, seen_in, seen, HasSeen, is_disk, disk_replies}

-- What holds of each element.

pub each_push : {A : Type 0} (P : A → Type 0) (xs : List A) (x : A) → Each P xs → P x → Each P (xs ++ x ∷ [])
each_push P [] x each here = (here, tt)
each_push P (y ∷ xs) x each here = (each.0, each_push P xs x each.1 here)

pub each_map : {A : Type 0} (P Q : A → Type 0) → ((x : A) → P x → Q x) → (xs : List A) → Each P xs → Each Q xs
each_map P Q f [] each = tt
each_map P Q f (x ∷ xs) each = (f x each.0, each_map P Q f xs each.1)

each_cond : {A : Type 0} (P : A → Type 0) (b : Bool) (x : A) (rest : List A) → P x → Each P rest → Each P (cond b (x ∷ rest) rest)
each_cond P true x rest here each = (here, each)
each_cond P false x rest here each = each

pub each_filter : {A : Type 0} (P : A → Type 0) (test : A → Bool) (xs : List A) → Each P xs → Each P (filter test xs)
each_filter P test [] each = tt
each_filter P test (x ∷ xs) each = each_cond P (test x) x (filter test xs) each.0 (each_filter P test xs each.1)

cond_each : {A : Type 0} (P : A → Type 0) (b : Bool) (x : A) (rest : List A) → Each P (cond b (x ∷ rest) rest) → (b ≡ true → P x) × Each P rest
cond_each P true x rest each = ((λ h. each.0), each.1)
cond_each P false x rest each = ((λ h. absurd (false≢true h)), each)

pub each_passing : {A : Type 0} (P : A → Type 0) (test : A → Bool) (xs : List A) → Each P (filter test xs) → Each (λ x. test x ≡ true → P x) xs
each_passing P test [] each = tt
each_passing P test (x ∷ xs) each =
    let parts : (test x ≡ true → P x) × Each P (filter test xs) = cond_each P (test x) x (filter test xs) each in
    (parts.0, each_passing P test xs parts.1)

kept_cond : {A : Type 0} (P : A → Type 0) (b : Bool) (x : A) (rest : List A) → (b ≡ true → P x) → Each P rest → Each P (cond b (x ∷ rest) rest)
kept_cond P true x rest here each = (here refl, each)
kept_cond P false x rest here each = each

pub each_kept : {A : Type 0} (P : A → Type 0) (test : A → Bool) (xs : List A) → Each (λ x. test x ≡ true → P x) xs → Each P (filter test xs)
each_kept P test [] each = tt
each_kept P test (x ∷ xs) each = kept_cond P (test x) x (filter test xs) each.0 (each_kept P test xs each.1)

pub each_of_map : {A B : Type 0} (P : B → Type 0) (f : A → B) (xs : List A) → Each P (map f xs) → Each (λ x. P (f x)) xs
each_of_map P f [] each = tt
each_of_map P f (x ∷ xs) each = (each.0, each_of_map P f xs each.1)

pub each_to_map : {A B : Type 0} (P : B → Type 0) (f : A → B) (xs : List A) → Each (λ x. P (f x)) xs → Each P (map f xs)
each_to_map P f [] each = tt
each_to_map P f (x ∷ xs) each = (each.0, each_to_map P f xs each.1)

-- Filters and one more element.

pub filter_more : {A : Type 0} (test : A → Bool) (xs : List A) (x : A) → test x ≡ true → filter test (xs ++ x ∷ []) ≡ filter test xs ++ x ∷ []
filter_more test xs x known = filter-append test xs (x ∷ []) ∙ ap (λ b. filter test xs ++ cond b (x ∷ []) []) known

pub filter_same : {A : Type 0} (test : A → Bool) (xs : List A) (x : A) → test x ≡ false → filter test (xs ++ x ∷ []) ≡ filter test xs
filter_same test xs x fails = filter-append test xs (x ∷ []) ∙ ap (λ b. filter test xs ++ cond b (x ∷ []) []) fails ∙ append-nil (filter test xs)

pub turns_own : (s : ℕ) (ts : List Turn) (t : Turn) → t.line.session.0 ≡ s → of_session s (ts ++ t ∷ []) ≡ of_session s ts ++ t ∷ []
turns_own s ts t e = filter_more (is_of s) ts t (eq-eqb t.line.session.0 s e)

pub turns_other : (s : ℕ) (ts : List Turn) (t : Turn) → t.line.session.0 ≢ s → of_session s (ts ++ t ∷ []) ≡ of_session s ts
turns_other s ts t ne = filter_same (is_of s) ts t (ne_eqb t.line.session.0 s ne)

pub lines_push : (ts : List Turn) (t : Turn) → lines_in (ts ++ t ∷ []) ≡ lines_in ts ++ t.line ∷ []
lines_push [] t = refl
lines_push (u ∷ ts) t = ap (λ ls. u.line ∷ ls) (lines_push ts t)

pub replies_more : (ts us : List Turn) → replies_in (ts ++ us) ≡ replies_in ts ++ replies_in us
replies_more [] us = refl
replies_more (t ∷ ts) us = ap (λ rs. t.reply ∷ rs) (replies_more ts us)

-- Acceptances.

pub accepted_push : (ts : List Turn) (t : Turn) → accepted (ts ++ t ∷ []) ≡ accepted ts ++ accepting t.line t.line.request t.reply.n t.reply.answer
accepted_push [] t = append-nil (accepting t.line t.line.request t.reply.n t.reply.answer)
accepted_push (u ∷ ts) t =
    ap (λ ms. accepting u.line u.line.request u.reply.n u.reply.answer ++ ms) (accepted_push ts t)
    ∙ sym (append_assoc (accepting u.line u.line.request u.reply.n u.reply.answer) (accepted ts) (accepting t.line t.line.request t.reply.n t.reply.answer))

pub numbered_more : (n : ℕ) (xs ys : List Entry) → numbered n (xs ++ ys) ≡ numbered n xs ++ numbered (n + length xs) ys
numbered_more n [] ys =
    let same : n ≡ n + 0 = omega arith in
    ap (λ k. numbered k ys) same
numbered_more n (x ∷ xs) ys =
    let same : (n + 1) + length xs ≡ n + length (x ∷ xs) = omega arith in
    ap (λ ms. mark_at n x ∷ ms) (numbered_more (n + 1) xs ys ∙ ap (λ k. numbered (n + 1) xs ++ numbered k ys) same)

-- Numbers that never fall.

-- the least number that the next reply may have
abbrev pub low_of : ℕ → List Turn → ℕ
low_of low [] = low
low_of low (t ∷ ts) = low_of (low_behind low t.line.request t.reply.n) ts

pub falls_push : (low : ℕ) (ts : List Turn) (t : Turn) → NeverFalls low ts → KeepsUp (low_of low ts) t.line.request t.reply.n → NeverFalls low (ts ++ t ∷ [])
falls_push low [] t falls keeps = (keeps, tt)
falls_push low (u ∷ ts) t falls keeps = (falls.0, falls_push (low_behind low u.line.request u.reply.n) ts t falls.1 keeps)

pub low_push : (low : ℕ) (ts : List Turn) (t : Turn) → low_of low (ts ++ t ∷ []) ≡ low_behind (low_of low ts) t.line.request t.reply.n
low_push low [] t = refl
low_push low (u ∷ ts) t = low_push (low_behind low u.line.request u.reply.n) ts t

-- Looks.

-- the look that is open behind these turns
abbrev pub held_of : Option Look → List Turn → Option Look
held_of held [] = held
held_of held (t ∷ ts) = held_of (open_behind held t.line.request t.reply.n) ts

pub looks_push : (c : ConfigParts) (H : List Entry) (held : Option Look) (ts : List Turn) (t : Turn)
    → LooksFit c H held ts → ReplyFits c H (held_of held ts) t.line.request t.reply.n t.reply.answer → LooksFit c H held (ts ++ t ∷ [])
looks_push c H held [] t looks fits = (fits, tt)
looks_push c H held (u ∷ ts) t looks fits = (looks.0, looks_push c H (open_behind held u.line.request u.reply.n) ts t looks.1 fits)

pub held_push : (held : Option Look) (ts : List Turn) (t : Turn) → held_of held (ts ++ t ∷ []) ≡ open_behind (held_of held ts) t.line.request t.reply.n
held_push held [] t = refl
held_push held (u ∷ ts) t = held_push (open_behind held u.line.request u.reply.n) ts t

-- What an `after` has seen.

-- every answered line of the turn's session is before the turn's
abbrev pub IsPast : Turn → List Turn → Type 0
IsPast t ts = Each (λ u. u.line.session.0 ≡ t.line.session.0 → u.line.line < t.line.line) ts

any_more : {A : Type 0} (test : A → Bool) (xs : List A) (x : A) → list_any test xs ≡ true → list_any test (xs ++ x ∷ []) ≡ true
any_more test [] x known = absurd (false≢true known)
any_more test (y ∷ xs) x known = any_step (test y) (list_any test xs) (list_any test (xs ++ x ∷ [])) known (any_more test xs x)
  where
    any_step : (b r r' : Bool) → (b || r) ≡ true → (r ≡ true → r' ≡ true) → (b || r') ≡ true
    any_step true r r' known more = refl
    any_step false r r' known more = more known

session_step : (b r : Bool) (x y z : Option ℕ) → (b || r) ≡ true → (r ≡ true → y ≡ z) → cond b x y ≡ cond b x z
session_step true r x y z known more = refl
session_step false r x y z known more = more known

session_push : (line : ℕ) (ts : List Turn) (t : Turn) → is_answered line ts ≡ true → session_of line (ts ++ t ∷ []) ≡ session_of line ts
session_push line [] t known = absurd (false≢true known)
session_push line (u ∷ ts) t known = session_step (nat_eq u.line.line line) (is_answered line ts) (Some u.line.session.0) (session_of line (ts ++ t ∷ [])) (session_of line ts) known (session_push line ts t)

away : (a s k line : ℕ) → (a ≡ s → line < k) → (b : Bool) → nat_eq a s ≡ b → (nat_eq a s && nat_le k line) ≡ false
away a s k line past true is = and_right (nat_eq a s) (nat_le k line) (lt-leb k line (past (eqb-true a s is)))
away a s k line past false is = and_left (nat_eq a s) (nat_le k line) is

seen_by_push : (m s line : ℕ) (ts : List Turn) (t : Turn) → (t.line.session.0 ≡ s → line < t.line.line) → seen_by m s line (ts ++ t ∷ []) ≡ seen_by m s line ts
seen_by_push m s line [] t past = ap (λ b. cond b (number_or m t.reply.n) m) (away t.line.session.0 s t.line.line line past (nat_eq t.line.session.0 s) refl)
seen_by_push m s line (u ∷ ts) t past =
    ap (λ k. cond (nat_eq u.line.session.0 s && nat_le u.line.line line) (number_or k u.reply.n) k) (seen_by_push m s line ts t past)

line_step : (b : Bool) (a s line k u : ℕ) (rest : Option ℕ) → nat_eq u line ≡ b → cond b (Some a) rest ≡ Some s → (a ≡ s → u < k) → (rest ≡ Some s → line < k) → line < k
line_step true a s line k u rest is found here there =
    let same : a ≡ s = some_inside found in
    let low : u < k = here same in
    let line_is : u ≡ line = eqb-true u line is in
    omega arith
  where
    some_inside : {x y : ℕ} → Some x ≡ Some y → x ≡ y
    some_inside {x = x} {y = y} e = ap (λ (o : Option ℕ). unwrapped o x) e
      where
        unwrapped : Option ℕ → ℕ → ℕ
        unwrapped None d = d
        unwrapped (Some v) d = v
line_step false a s line k u rest is found here there = there found

none_is_none : (s : ℕ) → None ≡ Some s → ⊥
none_is_none s e = cc

line_past : (line s k : ℕ) (ts : List Turn) → session_of line ts ≡ Some s → Each (λ u. u.line.session.0 ≡ s → u.line.line < k) ts → line < k
line_past line s k [] found each = absurd (none_is_none s found)
line_past line s k (u ∷ ts) found each =
    line_step (nat_eq u.line.line line) u.line.session.0 s line k u.line.line (session_of line ts) refl found each.0 (λ there. line_past line s k ts there each.1)

seen_in_push : (m line : ℕ) (o : Option ℕ) (ts : List Turn) (t : Turn) → session_of line ts ≡ o → IsPast t ts → seen_in m line o (ts ++ t ∷ []) ≡ seen_in m line o ts
seen_in_push m line None ts t is past = refl
seen_in_push m line (Some s) ts t is past =
    seen_by_push m s line ts t (λ own. line_past line s t.line.line ts is
    (each_map (λ u. u.line.session.0 ≡ t.line.session.0 → u.line.line < t.line.line) (λ u. u.line.session.0 ≡ s → u.line.line < t.line.line) (λ u below same. below (same ∙ sym own)) ts past))

pub seen_push : (m line : ℕ) (ts : List Turn) (t : Turn) → is_answered line ts ≡ true → IsPast t ts → seen m (ts ++ t ∷ []) line ≡ seen m ts line
seen_push m line ts t known past =
    ap (λ (o : Option ℕ). seen_in m line o (ts ++ t ∷ [])) (session_push line ts t known)
    ∙ seen_in_push m line (session_of line ts) ts t refl past

-- a number, where there is one, is at most this
abbrev pub IsTo : ℕ → Option ℕ → Type 0
IsTo high None = Unit {0}
IsTo high (Some n) = n ≤ high

seen_step : (b : Bool) (k high : ℕ) (n : Option ℕ) → k ≤ high → IsTo high n → cond b (number_or k n) k ≤ high
seen_step false k high n low to = low
seen_step true k high None low to = low
seen_step true k high (Some n) low to = max-le low to

pub seen_by_to : (m s line high : ℕ) (ts : List Turn) → m ≤ high → Each (λ t. IsTo high t.reply.n) ts → seen_by m s line ts ≤ high
seen_by_to m s line high [] from to = from
seen_by_to m s line high (t ∷ ts) from to =
    seen_step (nat_eq t.line.session.0 s && nat_le t.line.line line) (seen_by m s line ts) high t.reply.n (seen_by_to m s line high ts from to.1) to.0

pub seen_in_to : (m line high : ℕ) (o : Option ℕ) (ts : List Turn) → m ≤ high → Each (λ t. IsTo high t.reply.n) ts → seen_in m line o ts ≤ high
seen_in_to m line high None ts from to = from
seen_in_to m line high (Some s) ts from to = seen_by_to m s line high ts from to

-- an `after` names an answered line, and has seen what that line had
abbrev pub HasSeenStill : ℕ → List Turn → Request → Option ℕ → Type 0
HasSeenStill m ts (requests.After earlier) n = (is_answered earlier ts ≡ true) × HasSeen m ts (requests.After earlier) n
HasSeenStill m ts (requests.Edit given) n = Unit {0}
HasSeenStill m ts (requests.Undo earlier) n = Unit {0}
HasSeenStill m ts (requests.Query ask) n = Unit {0}
HasSeenStill m ts (requests.Look ask) n = Unit {0}
HasSeenStill m ts requests.Finish n = Unit {0}

seen_still : (m earlier : ℕ) (ts : List Turn) (t : Turn) (n : Option ℕ) → is_answered earlier ts ≡ true → IsPast t ts
    → HasSeen m ts (requests.After earlier) n → HasSeen m (ts ++ t ∷ []) (requests.After earlier) n
seen_still m earlier ts t None known past has = tt
seen_still m earlier ts t (Some n) known past has = subst (λ (k : ℕ). k ≤ n) (sym (seen_push m earlier ts t known past)) has

still_push : (m : ℕ) (ts : List Turn) (t : Turn) (r : Request) (n : Option ℕ) → IsPast t ts → HasSeenStill m ts r n → HasSeenStill m (ts ++ t ∷ []) r n
still_push m ts t (requests.After earlier) n past has =
    (any_more (λ (u : Turn). nat_eq u.line.line earlier) ts t has.0, seen_still m earlier ts t n has.0 past has.1)
still_push m ts t (requests.Edit given) n past has = tt
still_push m ts t (requests.Undo earlier) n past has = tt
still_push m ts t (requests.Query ask) n past has = tt
still_push m ts t (requests.Look ask) n past has = tt
still_push m ts t requests.Finish n past has = tt

pub all_still : (m : ℕ) (ts : List Turn) (t : Turn) → IsPast t ts → Each (λ u. HasSeenStill m ts u.line.request u.reply.n) ts → HasSeenStill m ts t.line.request t.reply.n
    → Each (λ u. HasSeenStill m (ts ++ t ∷ []) u.line.request u.reply.n) (ts ++ t ∷ [])
all_still m ts t past each here =
    each_push (λ u. HasSeenStill m (ts ++ t ∷ []) u.line.request u.reply.n) ts t
    (each_map (λ u. HasSeenStill m ts u.line.request u.reply.n) (λ u. HasSeenStill m (ts ++ t ∷ []) u.line.request u.reply.n) (λ u has. still_push m ts t u.line.request u.reply.n past has) ts each)
    (still_push m ts t t.line.request t.reply.n past here)

pub still_seen : (m : ℕ) (ts : List Turn) (r : Request) (n : Option ℕ) → HasSeenStill m ts r n → HasSeen m ts r n
still_seen m ts (requests.After earlier) n has = has.1
still_seen m ts (requests.Edit given) n has = tt
still_seen m ts (requests.Undo earlier) n has = tt
still_seen m ts (requests.Query ask) n has = tt
still_seen m ts (requests.Look ask) n has = tt
still_seen m ts requests.Finish n has = tt

-- Failed disks.

-- a reply that a failed disk gave, as a number
abbrev pub disk_of : Answer → ℕ
disk_of answer = cond (is_disk answer) 1 0

pub disks_push : (ts : List Turn) (t : Turn) → disk_replies (replies_in (ts ++ t ∷ [])) ≡ disk_replies (replies_in ts) + disk_of t.reply.answer
disks_push [] t =
    let one : disk_replies (t.reply ∷ []) ≡ disk_of t.reply.answer + 0 = sum_by-cons (λ (r : Reply). disk_of r.answer) t.reply [] in
    omega arith
disks_push (u ∷ ts) t =
    let long : disk_replies (u.reply ∷ replies_in (ts ++ t ∷ [])) ≡ disk_of u.reply.answer + disk_replies (replies_in (ts ++ t ∷ [])) =
    sum_by-cons (λ (r : Reply). disk_of r.answer) u.reply (replies_in (ts ++ t ∷ [])) in
    let short : disk_replies (u.reply ∷ replies_in ts) ≡ disk_of u.reply.answer + disk_replies (replies_in ts) =
    sum_by-cons (λ (r : Reply). disk_of r.answer) u.reply (replies_in ts) in
    let more : disk_replies (replies_in (ts ++ t ∷ [])) ≡ disk_replies (replies_in ts) + disk_of t.reply.answer = disks_push ts t in
    omega arith
