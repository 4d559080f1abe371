-- Acceptances: each tells the entry of its number, and each new entry is told by one.
use Rattle.std.proofs.Common.{◌≡◌, ◌≢◌, ⊎_elim, ℕ, suc, ◌+◌, ◌<◌, ◌≤◌, Bool, true, false, List, [], ◌∷◌, ◌++◌, length, Option, Some, None, Ok, Err, slice_get, refl, sym, ◌∙◌, ap, subst, arith, append_assoc, length-append}
use Rattle.std.proofs.lemmas.Bool.{cases_lt}
use Rattle.std.proofs.lemmas.List.{length_push}
use Rattle.std.proofs.lemmas.Option.{same_Some, slice_get_within}
use Rattle.db_config.specs.declared.parts.ConfigParts.{ConfigParts}
use Rattle.edit_rules.specs.declared.acts.Act.{Act}
use Rattle.edit_rules.specs.declared.acts.Entry.{Entry}
use Rattle.session_core.specs.declared.line.Answer.{Answer}
use Rattle.session_core.specs.declared.line.Answer.TheVariants.{Done, Segments, Refused}
use Rattle.session_core.specs.declared.line.Line.{Line}
use Rattle.session_core.specs.declared.line.Request.{Request}
use Rattle.session_core.specs.declared.line.Request.TheVariants as requests
use Rattle.session_core.specs.Answers.{entry_of}
use Rattle.session_core.specs.Worlds.{Turn, Each}
use Rattle.session_core.specs.Legal.{IsRight, IsRightAt, IsRightEdit, IsRightTurn, Mark, accepted, accepting, makes_entry, numbered, told_mark, with_number}
use Rattle.session_core.proofs.Turns.{each_map}
use Rattle.live_laws.specs.Lanes.{IsPast}
use Rattle.live_laws.proofs.Eaches.{each_append, each_both, each_left, each_right}
use Rattle.live_laws.proofs.Pigeons.{AreApart, IsOne, IsWithin, has_one, is_none, is_one}

-- a mark's number
abbrev pub number_of : Mark → ℕ
number_of x = x.n

-- What each acceptance is.

-- the entry of this number stands in the history, and is of this line
pub record IsTold (H : List Entry) (x : Mark) : Type 0 where
  pub before : ℕ
  pub number : x.n ≡ before + 1
  pub entry : Entry
  pub there : slice_get H before ≡ Some entry
  pub line : x.line ≡ entry.line
  pub session : x.session ≡ entry.session

-- a mark is of a line
pub record IsOfLine (l : Line) (x : Mark) : Type 0 where
  pub session : x.session.0 ≡ l.session.0
  pub line : x.line ≡ l.line

of_told : (l : Line) (b : Bool) (n : Option ℕ) (answer : Answer) → Each (IsOfLine l) (told_mark l b n answer)
of_told l true (Some n) (Done command) = (record { session = refl; line = refl }, tt)
of_told l true (Some n) (Segments rows) = tt
of_told l true (Some n) (Refused refusal) = tt
of_told l true None answer = tt
of_told l false n answer = tt

of_line : (l : Line) (r : Request) (n : Option ℕ) (answer : Answer) → Each (IsOfLine l) (accepting l r n answer)
of_line l r n answer = of_told l (makes_entry r) n answer

few_told : (l : Line) (b : Bool) (n : Option ℕ) (answer : Answer) → length (told_mark l b n answer) ≤ 1
few_told l true (Some n) (Done command) = omega arith
few_told l true (Some n) (Segments rows) = omega arith
few_told l true (Some n) (Refused refusal) = omega arith
few_told l true None answer = omega arith
few_told l false n answer = omega arith

few : (l : Line) (r : Request) (n : Option ℕ) (answer : Answer) → length (accepting l r n answer) ≤ 1
few l r n answer = few_told l (makes_entry r) n answer

module _ (c : ConfigParts) (H : List Entry) (l : Line) where
  told_edit : (store : Bool) (act : Act) (n : ℕ) (answer : Answer) → IsRightEdit c H store l act n answer → Each (IsTold H) (told_mark l true (Some n) answer)
  told_edit store act n (Done command) right =
      (record { before = right.before; number = right.number; entry = entry_of l act; there = right.entry; line = refl; session = refl }, tt)
  told_edit store act n (Segments rows) right = tt
  told_edit store act n (Refused refusal) right = tt

  told_at : (store : Bool) (r : Request) (n : ℕ) (answer : Answer) → IsRightAt c H store l r n answer → Each (IsTold H) (accepting l r (Some n) answer)
  told_at store (requests.Edit (Ok act)) n answer right = told_edit store act n answer right
  told_at store (requests.Edit (Err fault)) n answer right = tt
  told_at store (requests.Undo earlier) n answer right = told_edit store right.act n answer right.right
  told_at store (requests.Query ask) n answer right = tt
  told_at store (requests.Look ask) n answer right = tt
  told_at store requests.Finish n answer right = tt
  told_at store (requests.After earlier) n answer right = tt

  untold : (b : Bool) (answer : Answer) → Each (IsTold H) (told_mark l b None answer)
  untold true answer = tt
  untold false answer = tt

  told : (m : ℕ) (store : Bool) (n : Option ℕ) (answer : Answer) → IsRight c m H store l n answer → Each (IsTold H) (accepting l l.request n answer)
  told m store None answer right = untold (makes_entry l.request) answer
  told m store (Some n) answer right = told_at store l.request n answer right.2

-- each acceptance of turns
pub each_accepted : (P : Mark → Type 0) (ts : List Turn) → Each (λ t. Each P (accepting t.line t.line.request t.reply.n t.reply.answer)) ts → Each P (accepted ts)
each_accepted P [] each = tt
each_accepted P (t ∷ ts) each =
    each_append P (accepting t.line t.line.request t.reply.n t.reply.answer) (accepted ts) each.0 (each_accepted P ts each.1)

pub accepted_each : (P : Mark → Type 0) (ts : List Turn) → Each P (accepted ts) → Each (λ t. Each P (accepting t.line t.line.request t.reply.n t.reply.answer)) ts
accepted_each P [] each = tt
accepted_each P (t ∷ ts) each = (
  each_left P (accepting t.line t.line.request t.reply.n t.reply.answer) (accepted ts) each,
  accepted_each P ts (each_right P (accepting t.line t.line.request t.reply.n t.reply.answer) (accepted ts) each),
)

-- Acceptances of lines apart.

-- a turn is of another line
abbrev pub IsElsewhere : Line → Turn → Type 0
IsElsewhere l t = l.session.0 ≡ t.line.session.0 → l.line ≢ t.line.line

-- no two turns are of one line
abbrev pub TurnsApart : List Turn → Type 0
TurnsApart [] = Unit {0}
TurnsApart (t ∷ ts) = Each (IsElsewhere t.line) ts × TurnsApart ts

-- a mark is of another line
abbrev IsOfOther : Line → Mark → Type 0
IsOfOther l x = l.session.0 ≡ x.session.0 → l.line ≢ x.line

of_others : (l : Line) (ts : List Turn) → Each (IsElsewhere l) ts → Each (IsOfOther l) (accepted ts)
of_others l ts each =
    each_accepted (IsOfOther l) ts
    (each_map (IsElsewhere l) (λ t. Each (IsOfOther l) (accepting t.line t.line.request t.reply.n t.reply.answer))
    (λ t away. each_map (IsOfLine t.line) (IsOfOther l) (λ x of session line. away (session ∙ of.session) (line ∙ of.line))
    (accepting t.line t.line.request t.reply.n t.reply.answer) (of_line t.line t.line.request t.reply.n t.reply.answer)) ts each)

marks_same : (x y : Mark) → x.n ≡ y.n → x.line ≡ y.line → x.session ≡ y.session → x ≡ y
marks_same x y number line session = λ i. record { n = number i; line = line i; session = session i }

-- one number is told of one line
same_mark : (H : List Entry) (x y : Mark) → IsTold H x → IsTold H y → x.n ≡ y.n → x ≡ y
same_mark H x y tx ty same =
    let x_is : x.n ≡ tx.before + 1 = tx.number in
    let y_is : y.n ≡ ty.before + 1 = ty.number in
    let place : tx.before ≡ ty.before = omega arith in
    let entry : tx.entry ≡ ty.entry = same_Some tx.entry ty.entry (sym tx.there ∙ ap (λ k. slice_get H k) place ∙ ty.there) in
    marks_same x y same
    (tx.line ∙ ap (λ (e : Entry). e.line) entry ∙ sym ty.line)
    (tx.session ∙ ap (λ (e : Entry). e.session) entry ∙ sym ty.session)

numbers_apart : (H : List Entry) (l : Line) (x y : Mark) → IsTold H x → IsOfLine l x → IsTold H y → IsOfOther l y → x.n ≢ y.n
numbers_apart H l x y tx of ty other same =
    let mark : x ≡ y = same_mark H x y tx ty same in
    other (sym of.session ∙ ap (λ (z : Mark). z.session.0) mark) (sym of.line ∙ ap (λ (z : Mark). z.line) mark)

apart_join : (xs ys : List Mark) → length xs ≤ 1 → Each (λ x. Each (λ y. x.n ≢ y.n) ys) xs → AreApart number_of ys → AreApart number_of (xs ++ ys)
apart_join [] ys one each apart = apart
apart_join (x ∷ []) ys one each apart = (each.0, apart)
apart_join (x ∷ (z ∷ xs)) ys one each apart = absurd (omega arith)

apart_marks : (H : List Entry) (ts : List Turn) → TurnsApart ts → Each (λ t. Each (IsTold H) (accepting t.line t.line.request t.reply.n t.reply.answer)) ts → AreApart number_of (accepted ts)
apart_marks H [] apart each = tt
apart_marks H (t ∷ ts) apart each =
    let own : List Mark = accepting t.line t.line.request t.reply.n t.reply.answer in
    let others : Each (λ y. IsTold H y × IsOfOther t.line y) (accepted ts) =
    each_both (IsTold H) (IsOfOther t.line) (accepted ts) (each_accepted (IsTold H) ts each.1) (of_others t.line ts apart.0) in
    apart_join own (accepted ts) (few t.line t.line.request t.reply.n t.reply.answer)
    (each_map (λ x. IsTold H x × IsOfLine t.line x) (λ x. Each (λ y. x.n ≢ y.n) (accepted ts))
    (λ x is. each_map (λ y. IsTold H y × IsOfOther t.line y) (λ y. x.n ≢ y.n) (λ y there. numbers_apart H t.line x y is.0 is.1 there.0 there.1) (accepted ts) others)
    own (each_both (IsTold H) (IsOfLine t.line) own each.0 (of_line t.line t.line.request t.reply.n t.reply.answer)))
    (apart_marks H ts apart.1 each.1)

-- The new entries with their numbers.

numbered_within : (low size n : ℕ) (es : List Entry) → low < n → n + length es ≤ low + size + 1 → Each (IsWithin number_of low size) (numbered n es)
numbered_within low size n [] here there = tt
numbered_within low size n (e ∷ es) here there =
    ((here, omega arith), numbered_within low size (n + 1) es (omega arith) (omega arith))

numbered_apart : (n : ℕ) (es : List Entry) → AreApart number_of (numbered n es)
numbered_apart n [] = tt
numbered_apart n (e ∷ es) = (
  each_map (IsWithin number_of n (length es)) (λ y. n ≢ y.n) (λ y is same. let low : n < y.n = is.0 in absurd (omega arith)) (numbered (n + 1) es)
      (numbered_within n (length es) (n + 1) es (omega arith) (omega arith)),
  numbered_apart (n + 1) es,
)

at_end : {A : Type 0} (xs : List A) (y : A) (ys : List A) → slice_get (xs ++ y ∷ ys) (length xs) ≡ Some y
at_end [] y ys = refl
at_end (x ∷ xs) y ys = at_end xs y ys

numbered_told : (first es : List Entry) → Each (IsTold (first ++ es)) (numbered (length first + 1) es)
numbered_told first [] = tt
numbered_told first (e ∷ es) = (
  record { before = length first; number = refl; entry = e; there = at_end first e es; line = refl; session = refl },
  subst (λ (H : List Entry). Each (IsTold H) (numbered (length first + 1 + 1) es)) (append_assoc first (e ∷ []) es)
      (subst (λ (k : ℕ). Each (IsTold ((first ++ e ∷ []) ++ es)) (numbered (k + 1) es)) (length_push first e) (numbered_told (first ++ e ∷ []) es)),
)

length_numbered : (n : ℕ) (es : List Entry) → length (numbered n es) ≡ length es
length_numbered n [] = refl
length_numbered n (e ∷ es) = ap suc (length_numbered (n + 1) es)

-- Each new entry is told once.

same_ones : (H : List Entry) (n : ℕ) (xs ys : List Mark) → IsOne number_of (IsTold H) n xs → IsOne number_of (IsTold H) n ys → xs ≡ ys
same_ones H n xs ys (x, one_x, nx, tx) (y, one_y, ny, ty) =
    one_x ∙ ap (λ (z : Mark). z ∷ []) (same_mark H x y tx ty (nx ∙ sym ny)) ∙ sym one_y

-- a list of marks has each number of the new entries once, with its entry
record HasAll (H : List Entry) (low size : ℕ) (xs : List Mark) : Type 0 where
  told : Each (IsTold H) xs
  within : Each (IsWithin number_of low size) xs
  apart : AreApart number_of xs
  count : length xs ≡ size

same_at : (H : List Entry) (low size n : ℕ) (xs ys : List Mark) → HasAll H low size xs → HasAll H low size ys → with_number n xs ≡ with_number n ys
same_at H low size n xs ys hx hy =
    ⊎_elim
    (λ here. ⊎_elim
    (λ past.
    let out : low < n → n ≤ low + size → ⊥ = λ a b. absurd (omega arith) in
    is_none number_of low size n xs hx.within out ∙ sym (is_none number_of low size n ys hy.within out))
    (λ there. same_ones H n (with_number n xs) (with_number n ys)
    (is_one number_of (IsTold H) n xs hx.apart hx.told (has_one number_of low size n xs hx.apart hx.within hx.count here there))
    (is_one number_of (IsTold H) n ys hy.apart hy.told (has_one number_of low size n ys hy.apart hy.within hy.count here there)))
    (cases_lt (low + size) n))
    (λ before.
    let out : low < n → n ≤ low + size → ⊥ = λ a b. absurd (omega arith) in
    is_none number_of low size n xs hx.within out ∙ sym (is_none number_of low size n ys hy.within out))
    (cases_lt low n)

numbered_all : (opening more : List Entry) → HasAll (opening ++ more) (length opening) (length more) (numbered (length opening + 1) more)
numbered_all opening more = record {
  told = numbered_told opening more;
  within = numbered_within (length opening) (length more) (length opening + 1) more (omega arith) (omega arith);
  apart = numbered_apart (length opening + 1) more;
  count = length_numbered (length opening + 1) more;
}

accepted_all : (c : ConfigParts) (opening more : List Entry) (store : Bool) (ts : List Turn) → Each (IsRightTurn c (length opening) (opening ++ more) store) ts
    → Each (IsPast (length opening)) (accepted ts) → TurnsApart ts → length (accepted ts) ≡ length more → HasAll (opening ++ more) (length opening) (length more) (accepted ts)
accepted_all c opening more store ts right fresh apart count =
    let told_each : Each (λ t. Each (IsTold (opening ++ more)) (accepting t.line t.line.request t.reply.n t.reply.answer)) ts =
    each_map (IsRightTurn c (length opening) (opening ++ more) store) (λ t. Each (IsTold (opening ++ more)) (accepting t.line t.line.request t.reply.n t.reply.answer))
    (λ t is. told c (opening ++ more) t.line (length opening) store t.reply.n t.reply.answer is) ts right in
    let told_all : Each (IsTold (opening ++ more)) (accepted ts) = each_accepted (IsTold (opening ++ more)) ts told_each in
    record {
      told = told_all;
      within =
          each_map (λ x. IsTold (opening ++ more) x × IsPast (length opening) x) (IsWithin number_of (length opening) (length more))
          (λ x is.
          let number : x.n ≡ is.0.before + 1 = is.0.number in
          let inside : is.0.before < length (opening ++ more) = slice_get_within (opening ++ more) is.0.before is.0.entry is.0.there in
          let long : length (opening ++ more) ≡ length opening + length more = length-append opening more in
          (is.1, omega arith))
          (accepted ts)
          (each_both (IsTold (opening ++ more)) (IsPast (length opening)) (accepted ts) told_all fresh);
      apart = apart_marks (opening ++ more) ts apart told_each;
      count = count;
    }

-- each new entry has exactly one accepting reply
pub one_entry : (c : ConfigParts) (opening more : List Entry) (store : Bool) (ts : List Turn) → Each (IsRightTurn c (length opening) (opening ++ more) store) ts
    → Each (IsPast (length opening)) (accepted ts) → TurnsApart ts → length (accepted ts) ≡ length more
    → (n : ℕ) → with_number n (accepted ts) ≡ with_number n (numbered (length opening + 1) more)
one_entry c opening more store ts right fresh apart count n =
    same_at (opening ++ more) (length opening) (length more) n (accepted ts) (numbered (length opening + 1) more)
    (accepted_all c opening more store ts right fresh apart count) (numbered_all opening more)
