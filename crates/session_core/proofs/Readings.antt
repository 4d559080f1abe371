-- A legal run in order has one reading: one line after another, and at the end every entry stands.
use Rattle.std.proofs.Common.{◌≡◌, ◌≢◌, ⊎_elim, ℕ, suc, ◌+◌, ◌<◌, ◌≤◌, Bool, true, false, cond, List, [], ◌∷◌, ◌++◌, length, map, Option, Some, None, Ok, Err, nat_eq, refl, sym, ◌∙◌, ap, subst, arith, length-append, eq-eqb, eqb-true}
use Rattle.std.proofs.lemmas.Bool.{cases_eq, ne_eqb, false≢true}
use Rattle.std.proofs.lemmas.List.{append-nil, drop_all}
use Rattle.db_config.specs.declared.parts.ConfigParts.{ConfigParts}
use Rattle.edit_undo.specs.edit_rules.declared.acts.Act.{Act}
use Rattle.edit_undo.specs.edit_rules.declared.acts.Entry.{Entry}
use Rattle.session_core.specs.declared.line.Answer.{Answer}
use Rattle.session_core.specs.declared.line.Answer.TheVariants.{Done, Segments, Refused}
use Rattle.session_core.specs.declared.line.Request.{Request}
use Rattle.session_core.specs.declared.line.Request.TheVariants as requests
use Rattle.session_core.specs.declared.line.Line.{Line}
use Rattle.session_core.specs.declared.line.Reply.{Reply}
use Rattle.session_core.specs.Answers.{reply_to}
use Rattle.session_core.specs.Steps.{Opened, State, slot, session_places, start}
use Rattle.session_core.specs.Worlds.{Turn, Each}
use Rattle.session_core.specs.Legal.{IsNamed, is_of, of_session, lines_in, replies_in, accepting, accepted, Mark, mark_at, told_mark, numbered, ReplyUndoes, UndosFit, accepted_as, with_number, IsRightTurn, Look, ReplyFits, LooksFit, Legal}
use Rattle.session_core.specs.InOrder.{Outage, one_turn, in_turn, ComeInOrder}
use Rattle.session_core.specs.Readings.{standing, IsStanding, AreStanding, outage_of, IsInOrder, RepliesFollow, OneReading}
use Rattle.session_core.proofs.Turns.{each_kept, each_of_map}
use Rattle.session_core.proofs.Undoing.{as_other, undos_same}
use Rattle.session_core.proofs.Places.{slot_none}
use Rattle.session_core.proofs.Seats.{IsIn}
use Rattle.session_core.proofs.ReadingSteps.{Stands, seen_look, Follows, marks_in, right_for, follows}

-- All lines, one after another.

-- how many entries stand at the end
abbrev standing_after : ℕ → List Turn → ℕ
standing_after k [] = k
standing_after k (t ∷ ts) = standing_after (standing k t) ts

module _ (c : ConfigParts) (m : ℕ) (H : List Entry) where
  record AllFollow (k : ℕ) (st : State) (ts : List Turn) : Type 0 where
    replies : replies_in ts ≡ (in_turn false st (lines_in ts) (map outage_of (replies_in ts))).0
    there : Stands c H (standing_after k ts) (in_turn false st (lines_in ts) (map outage_of (replies_in ts))).1

  -- what each turn has
  record IsSound (t : Turn) : Type 0 where
    right : IsRightTurn c m H false t
    named : IsNamed t
    place : t.line.session.0 < session_places

  abbrev AllLooksFit : State → List Turn → Type 0
  AllLooksFit st ts = (s : ℕ) → LooksFit c H (seen_look (slot st.looks s)) (of_session s ts)

  turn_follows : (k : ℕ) (st : State) (t : Turn) → Stands c H k st → IsSound t → IsStanding (standing k t) t.line.request t.reply.n
      → ReplyFits c H (seen_look (slot st.looks t.line.session.0)) t.line.request t.reply.n t.reply.answer
      → ReplyUndoes c H false (marks_in st) t.line t.line.request t.reply.n t.reply.answer
      → Follows c H k st t.line t.line.request t.reply.n t.reply.answer (one_turn false st t.line (outage_of t.reply))
  turn_follows k st t r sound stand fits undoes =
      follows c m H k st r t.line sound.place t.line.request t.reply.n t.reply.answer (right_for c m H t.line t.reply.n t.reply.answer sound.right) stand fits undoes

  -- the looks of the turn's session, and of the others
  own_looks : (st : State) (t : Turn) (ts : List Turn) (s : ℕ) → t.line.session.0 ≡ s → AllLooksFit st (t ∷ ts)
      → LooksFit c H (seen_look (slot st.looks s)) (t ∷ of_session s ts)
  own_looks st t ts s e looks =
      subst (λ (b : Bool). LooksFit c H (seen_look (slot st.looks s)) (cond b (t ∷ of_session s ts) (of_session s ts))) (eq-eqb t.line.session.0 s e) (looks s)

  other_looks : (st : State) (t : Turn) (ts : List Turn) (s : ℕ) → t.line.session.0 ≢ s → AllLooksFit st (t ∷ ts)
      → LooksFit c H (seen_look (slot st.looks s)) (of_session s ts)
  other_looks st t ts s ne looks =
      subst (λ (b : Bool). LooksFit c H (seen_look (slot st.looks s)) (cond b (t ∷ of_session s ts) (of_session s ts))) (ne_eqb t.line.session.0 s ne) (looks s)

  looks_follow : (k : ℕ) (st : State) (t : Turn) (ts : List Turn) (out : Reply × State) → Follows c H k st t.line t.line.request t.reply.n t.reply.answer out
      → AllLooksFit st (t ∷ ts) → AllLooksFit out.1 ts
  looks_follow k st t ts out f looks s = ⊎_elim here there (cases_eq t.line.session.0 s)
    where
      here : t.line.session.0 ≡ s → LooksFit c H (seen_look (slot out.1.looks s)) (of_session s ts)
      here e = subst (λ (j : ℕ). LooksFit c H (seen_look (slot out.1.looks j)) (of_session j ts)) e
          (subst (λ (o : Option Look). LooksFit c H o (of_session t.line.session.0 ts)) (sym f.own) (own_looks st t ts t.line.session.0 refl looks).1)

      there : t.line.session.0 ≢ s → LooksFit c H (seen_look (slot out.1.looks s)) (of_session s ts)
      there ne = subst (λ (o : Option Opened). LooksFit c H (seen_look o) (of_session s ts)) (sym (f.others s ne)) (other_looks st t ts s ne looks)

  -- what the sessions take back
  abbrev AllUndosFit : State → List Turn → Type 0
  AllUndosFit st ts = (s : ℕ) → UndosFit c H false (marks_in st) (of_session s ts)

  own_undos : (st : State) (t : Turn) (ts : List Turn) (s : ℕ) → t.line.session.0 ≡ s → AllUndosFit st (t ∷ ts) → UndosFit c H false (marks_in st) (t ∷ of_session s ts)
  own_undos st t ts s e undos =
      subst (λ (b : Bool). UndosFit c H false (marks_in st) (cond b (t ∷ of_session s ts) (of_session s ts))) (eq-eqb t.line.session.0 s e) (undos s)

  other_undos : (st : State) (t : Turn) (ts : List Turn) (s : ℕ) → t.line.session.0 ≢ s → AllUndosFit st (t ∷ ts) → UndosFit c H false (marks_in st) (of_session s ts)
  other_undos st t ts s ne undos =
      subst (λ (b : Bool). UndosFit c H false (marks_in st) (cond b (t ∷ of_session s ts) (of_session s ts))) (ne_eqb t.line.session.0 s ne) (undos s)

  own_turns : (s : ℕ) (ts : List Turn) → Each (λ (t : Turn). t.line.session.0 ≡ s) (of_session s ts)
  own_turns s ts = each_kept (λ (t : Turn). t.line.session.0 ≡ s) (is_of s) ts (each_own ts)
    where
      each_own : (us : List Turn) → Each (λ (t : Turn). is_of s t ≡ true → t.line.session.0 ≡ s) us
      each_own [] = tt
      each_own (u ∷ us) = ((λ own. eqb-true u.line.session.0 s own), each_own us)

  undos_follow : (k : ℕ) (st : State) (t : Turn) (ts : List Turn) (out : Reply × State) → Follows c H k st t.line t.line.request t.reply.n t.reply.answer out
      → AllUndosFit st (t ∷ ts) → AllUndosFit out.1 ts
  undos_follow k st t ts out f undos s = subst (λ (ms : List Mark). UndosFit c H false ms (of_session s ts)) (sym f.marks) (⊎_elim here there (cases_eq t.line.session.0 s))
    where
      told : List Mark
      told = accepting t.line t.line.request t.reply.n t.reply.answer

      here : t.line.session.0 ≡ s → UndosFit c H false (marks_in st ++ accepting t.line t.line.request t.reply.n t.reply.answer) (of_session s ts)
      here e = (own_undos st t ts s e undos).1

      there : t.line.session.0 ≢ s → UndosFit c H false (marks_in st ++ accepting t.line t.line.request t.reply.n t.reply.answer) (of_session s ts)
      there ne =
          undos_same c H false s (marks_in st) (marks_in st ++ accepting t.line t.line.request t.reply.n t.reply.answer) (of_session s ts) (own_turns s ts)
          (λ line. sym (as_other s line (marks_in st) t.line t.line.request t.reply.n t.reply.answer ne))
          (other_undos st t ts s ne undos)

  reply_is : (t : Turn) → IsNamed t → reply_to t.line t.reply.n t.reply.answer ≡ t.reply
  reply_is t named = λ i. record { line = sym named.line i; session = sym named.session i; n = t.reply.n; answer = t.reply.answer }

  all_follow : (k : ℕ) (st : State) (ts : List Turn) → Stands c H k st → Each IsSound ts → AreStanding k ts → AllLooksFit st ts → AllUndosFit st ts → AllFollow k st ts
  all_follow k st [] r sound stand looks undos = record { replies = refl; there = r }
  all_follow k st (t ∷ ts) r sound stand looks undos =
      let f : Follows c H k st t.line t.line.request t.reply.n t.reply.answer (one_turn false st t.line (outage_of t.reply)) =
      turn_follows k st t r sound.0 stand.0 (own_looks st t ts t.line.session.0 refl looks).0 (own_undos st t ts t.line.session.0 refl undos).0 in
      let rest : AllFollow (standing k t) (one_turn false st t.line (outage_of t.reply)).1 ts =
      all_follow (standing k t) (one_turn false st t.line (outage_of t.reply)).1 ts f.there sound.1 stand.1 (looks_follow k st t ts (one_turn false st t.line (outage_of t.reply)) f looks)
      (undos_follow k st t ts (one_turn false st t.line (outage_of t.reply)) f undos) in
      record {
        replies =
            ap (λ (reply : Reply). reply ∷ replies_in ts) (sym (reply_is t sound.0.named) ∙ sym f.reply)
            ∙ ap (λ (rs : List Reply). (one_turn false st t.line (outage_of t.reply)).0 ∷ rs) rest.replies;
        there = rest.there;
      }

-- At the end every entry stands: the acceptances' numbers are at most the number that stands.

standing_grows : (k : ℕ) (ts : List Turn) → k ≤ standing_after k ts
standing_grows k [] = omega arith
standing_grows k (t ∷ ts) =
    let more : standing k t ≤ standing_after (standing k t) ts = standing_grows (standing k t) ts in
    let here : k ≤ k + length (accepting t.line t.line.request t.reply.n t.reply.answer) = omega arith in
    omega arith

abbrev IsMarkTo : ℕ → Mark → Type 0
IsMarkTo high mark = mark.n ≤ high

each_joined : {A : Type 0} (P : A → Type 0) (xs ys : List A) → Each P xs → Each P ys → Each P (xs ++ ys)
each_joined P [] ys each more = more
each_joined P (x ∷ xs) ys each more = (each.0, each_joined P xs ys each.1 more)

-- a number, where there is one, is this
abbrev IsNumber : ℕ → Option ℕ → Type 0
IsNumber k None = Unit {0}
IsNumber k (Some n) = n ≡ k

edit_stands : (k : ℕ) (act : Act) (n : Option ℕ) → IsStanding k (requests.Edit (Ok act)) n → IsNumber k n
edit_stands k act None stand = tt
edit_stands k act (Some n) stand = stand

undo_stands : (k earlier : ℕ) (n : Option ℕ) → IsStanding k (requests.Undo earlier) n → IsNumber k n
undo_stands k earlier None stand = tt
undo_stands k earlier (Some n) stand = stand

told_to : (k high : ℕ) (l : Line) (n : Option ℕ) (answer : Answer) → IsNumber k n → k ≤ high → Each (IsMarkTo high) (told_mark l true n answer)
told_to k high l (Some n) (Done command) stand low =
    let is : n ≡ k = stand in
    (omega arith, tt)
told_to k high l (Some n) (Segments rows) stand low = tt
told_to k high l (Some n) (Refused refusal) stand low = tt
told_to k high l None answer stand low = tt

accepting_to : (k high : ℕ) (l : Line) (request : Request) (n : Option ℕ) (answer : Answer) → IsStanding k request n → k ≤ high → Each (IsMarkTo high) (accepting l request n answer)
accepting_to k high l (requests.Edit (Ok act)) n answer stand low = told_to k high l n answer (edit_stands k act n stand) low
accepting_to k high l (requests.Edit (Err fault)) n answer stand low = tt
accepting_to k high l (requests.Undo earlier) n answer stand low = told_to k high l n answer (undo_stands k earlier n stand) low
accepting_to k high l (requests.Query ask) n answer stand low = tt
accepting_to k high l (requests.Look ask) n answer stand low = tt
accepting_to k high l requests.Finish n answer stand low = tt
accepting_to k high l (requests.After earlier) n answer stand low = tt

accepted_to : (k : ℕ) (ts : List Turn) → AreStanding k ts → Each (IsMarkTo (standing_after k ts)) (accepted ts)
accepted_to k [] stand = tt
accepted_to k (t ∷ ts) stand =
    each_joined (IsMarkTo (standing_after (standing k t) ts)) (accepting t.line t.line.request t.reply.n t.reply.answer) (accepted ts)
    (accepting_to (standing k t) (standing_after (standing k t) ts) t.line t.line.request t.reply.n t.reply.answer stand.0 (standing_grows (standing k t) ts))
    (accepted_to (standing k t) ts stand.1)

none_past : (high n : ℕ) (marks : List Mark) → high < n → Each (IsMarkTo high) marks → with_number n marks ≡ []
none_past high n [] past each = refl
none_past high n (mark ∷ marks) past each =
    let low : mark.n ≤ high = each.0 in
    ap (λ (b : Bool). cond b (mark ∷ with_number n marks) (with_number n marks)) (ne_eqb mark.n n (omega arith)) ∙ none_past high n marks past each.1

nothing_is_no_mark : (mark : Mark) (marks : List Mark) → mark ∷ marks ≡ [] → ⊥
nothing_is_no_mark mark marks e = cc

-- each number of a history has its entry
has_step : (a n : ℕ) (e : Entry) (rest : List Mark) (b : Bool) → nat_eq a n ≡ b → (a ≢ n → rest ≡ [] → ⊥)
    → cond (nat_eq a n) (mark_at a e ∷ rest) rest ≡ [] → ⊥
has_step a n e rest true is more none =
    nothing_is_no_mark (mark_at a e) rest (ap (λ (t : Bool). cond t (mark_at a e ∷ rest) rest) (sym is) ∙ none)
has_step a n e rest false is more none =
    more (λ same. false≢true (sym is ∙ eq-eqb a n same)) (ap (λ (t : Bool). cond t (mark_at a e ∷ rest) rest) (sym is) ∙ none)

has_entry : (a n : ℕ) (es : List Entry) → a ≤ n → n < a + length es → with_number n (numbered a es) ≡ [] → ⊥
has_entry a n [] low high none = absurd (omega arith)
has_entry a n (e ∷ es) low high none =
    let far : n < a + suc (length es) = high in
    has_step a n e (with_number n (numbered (a + 1) es)) (nat_eq a n) refl (λ ne gone. has_entry (a + 1) n es (omega (arith, low, ne)) (omega (arith, far)) gone) none

-- The law.

places_of : (before lines : List Line) → ComeInOrder before lines → Each (λ (l : Line). l.session.0 < session_places) lines
places_of before [] comes = tt
places_of before (l ∷ ls) comes = (comes.0.place, places_of (before ++ l ∷ []) ls comes.1)

sound_of : (c : ConfigParts) (m : ℕ) (H : List Entry) (ts : List Turn) → Each (IsRightTurn c m H false) ts → Each IsNamed ts → Each (λ (t : Turn). t.line.session.0 < session_places) ts
    → Each (IsSound c m H) ts
sound_of c m H [] right named place = tt
sound_of c m H (t ∷ ts) right named place =
    (record { right = right.0; named = named.0; place = place.0 }, sound_of c m H ts right.1 named.1 place.1)

module _ (c : ConfigParts) (opening : List Entry) (lines : List Line) (replies : List Reply) (H : List Entry) (before now : ℕ)
    (comes : ComeInOrder [] lines) (run : Legal c opening lines replies H false before now) (is : IsInOrder opening lines run.turns) where
  begins : Stands c H (length opening) (start c opening)
  begins = record {
    config = refl;
    more = run.more;
    prefix = run.prefix;
    begun = omega arith;
    count = refl;
    looks_count = refl;
    queries_count = refl;
    looks_in = λ s. subst (λ (o : Option Opened). IsIn 0 opening o) (sym (slot_none session_places s)) tt;
  }

  sound : Each (IsSound c (length opening) H) run.turns
  sound = sound_of c (length opening) H run.turns run.whole.right run.whole.named
      (each_of_map (λ (l : Line). l.session.0 < session_places) (λ (t : Turn). t.line) run.turns
      (subst (λ (ls : List Line). Each (λ (l : Line). l.session.0 < session_places) ls) (sym is.order) (places_of [] lines comes)))

  looks_there : (s : ℕ) → LooksFit c H (seen_look (slot (start c opening).looks s)) (of_session s run.turns)
  looks_there s = subst (λ (o : Option Opened). LooksFit c H (seen_look o) (of_session s run.turns)) (sym (slot_none session_places s)) (run.sessions s).looks

  -- no entry came yet
  undos_there : (s : ℕ) → UndosFit c H false (marks_in (start c opening)) (of_session s run.turns)
  undos_there s = subst (λ (ms : List Mark). UndosFit c H false ms (of_session s run.turns)) (sym none) (run.sessions s).undos
    where
      none : marks_in (start c opening) ≡ []
      none = ap (λ (es : List Entry). numbered (length opening + 1) es) (drop_all (length opening) opening (omega arith))

  all : AllFollow c (length opening) H (length opening) (start c opening) run.turns
  all = all_follow c (length opening) H (length opening) (start c opening) run.turns begins sound is.numbers looks_there undos_there

  -- nothing is left of the history
  no_more : (E more : List Entry) → H ≡ E ++ more → length E ≡ standing_after (length opening) run.turns → H ≡ E
  no_more E [] prefix count = prefix ∙ append-nil E
  no_more E (e ∷ more) prefix count =
      let size : length H ≡ length E + suc (length more) = ap length prefix ∙ length-append E (e ∷ more) in
      let whole : length H ≡ length opening + length run.more = ap length run.prefix ∙ length-append opening run.more in
      let from : length opening ≤ standing_after (length opening) run.turns = standing_grows (length opening) run.turns in
      let gone : with_number (length E + 1) (accepted run.turns) ≡ [] =
      none_past (standing_after (length opening) run.turns) (length E + 1) (accepted run.turns) (omega arith) (accepted_to (length opening) run.turns is.numbers) in
      absurd (has_entry (length opening + 1) (length E + 1) run.more (omega arith) (omega arith) (sym (run.whole.one_entry (length E + 1)) ∙ gone))

  -- in turn, from the turns and from the lines with the replies
  abbrev turns_out : List Line → List Reply → List Reply × State
  turns_out ls rs = in_turn false (start c opening) ls (map outage_of rs)

  out_is : turns_out (lines_in run.turns) (replies_in run.turns) ≡ turns_out lines replies
  out_is = ap (λ (ls : List Line). turns_out ls (replies_in run.turns)) is.order ∙ ap (λ (rs : List Reply). turns_out lines rs) run.replied

  pub replies_are : replies ≡ (in_turn false (start c opening) lines (map outage_of replies)).0
  replies_are = sym run.replied ∙ all.replies ∙ ap (λ (out : List Reply × State). out.0) out_is

  pub history_is : H ≡ (in_turn false (start c opening) lines (map outage_of replies)).1.entries
  history_is =
      no_more (turns_out (lines_in run.turns) (replies_in run.turns)).1.entries all.there.more all.there.prefix all.there.count
      ∙ ap (λ (out : List Reply × State). out.1.entries) out_is

pub replies_follow : RepliesFollow
replies_follow c opening lines replies H before now comes run is =
    (replies_are c opening lines replies H before now comes run is, history_is c opening lines replies H before now comes run is)

pub one_reading : OneReading
one_reading c opening lines replies replies' H H' before now before' now' comes run is run' is' same =
    let out_same : in_turn false (start c opening) lines (map outage_of replies) ≡ in_turn false (start c opening) lines (map outage_of replies') =
    ap (λ (outages : List Outage). in_turn false (start c opening) lines outages) same in (
      replies_are c opening lines replies H before now comes run is
          ∙ ap (λ (out : List Reply × State). out.0) out_same
          ∙ sym (replies_are c opening lines replies' H' before' now' comes run' is'),
      history_is c opening lines replies H before now comes run is
          ∙ ap (λ (out : List Reply × State). out.1.entries) out_same
          ∙ sym (history_is c opening lines replies' H' before' now' comes run' is'),
    )
