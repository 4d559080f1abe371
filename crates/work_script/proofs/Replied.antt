-- What a legal run without an opening says of its lines, its replies and its history, where no line was refused.
use Rattle.std.proofs.Common.{◌≡◌, ◌⊎◌, inl, inr, ℕ, zero, suc, ◌+◌, ◌≤◌, Bool, true, false, List, [], ◌∷◌, length, slice_get, Option, Some, None, Ok, Err, refl, sym, ap, ◌∙◌, subst, arith, eq-eqb}
use Rattle.std.specs.List.{list_all}
use Rattle.std.proofs.lemmas.Option.{same_Some}
use Rattle.db_config.specs.declared.parts.ConfigParts.{ConfigParts}
use Rattle.edit_rules.specs.declared.acts.Act.{Act}
use Rattle.edit_rules.specs.declared.acts.Entry.{Entry}
use Rattle.live_run.specs.session_core.declared.line.Answer.{Answer}
use Rattle.live_run.specs.session_core.declared.line.Answer.TheVariants.{Done, Segments, Refused}
use Rattle.live_run.specs.session_core.declared.line.Ask.{Ask}
use Rattle.live_run.specs.session_core.declared.line.Command.{Command}
use Rattle.live_run.specs.session_core.declared.line.Line.{Line}
use Rattle.live_run.specs.session_core.declared.line.Reply.{Reply}
use Rattle.live_run.specs.session_core.declared.line.Request.{Request}
use Rattle.live_run.specs.session_core.declared.line.Request.TheVariants as requests
use Rattle.live_run.specs.session_core.Answers.{entry_of}
use Rattle.live_run.specs.session_core.Legal.{Legal, Mark, IsRight, IsRightAt, IsRightQuery, IsRightTurn, IsRightUnnumbered, accepted, accepting, has_number, is_line_of, is_of, lines_of_session, makes_entry, mark_at, numbered, of_session, told_mark, with_number}
use Rattle.live_run.specs.session_core.Worlds.{Turn}
use Rattle.work_script.specs.Inner.Replies.{Has, is_taken}
use Rattle.work_script.proofs.Lists.{ComesFrom, all_at, each_at, filter_in, has_at, has_either, has_filter, has_map, map_has}

-- an entry of a history has a place and a number there
record HasNumber (n : ℕ) (es : List Entry) (e : Entry) : Type 0 where
  at : ℕ
  place : slice_get es at ≡ Some e
  number : ℕ
  is : number ≡ n + at
  there : Has (numbered n es) (mark_at number e)

number_of : (n : ℕ) (es : List Entry) (e : Entry) → Has es e → HasNumber n es e
number_of n [] e has = absurd has
number_of n (x ∷ xs) e (inl same) = record {
  at = zero;
  place = ap (λ (y : Entry). Some y) same;
  number = n;
  is = omega arith;
  there = inl (ap (λ (y : Entry). mark_at n y) same);
}
number_of n (x ∷ xs) e (inr more) =
    let rest = number_of (n + 1) xs e more in
    let is : rest.number ≡ n + 1 + rest.at = rest.is in
    record { at = suc rest.at; place = rest.place; number = rest.number; is = omega (arith, is); there = inr rest.there }

-- the turn that tells of a mark: its line may bring an entry, and was accepted with the mark's number
record IsToldBy (ts : List Turn) (m : Mark) : Type 0 where
  turn : Turn
  there : Has ts turn
  makes : makes_entry turn.line.request ≡ true
  number : turn.reply.n ≡ Some m.n
  command : Command
  done : turn.reply.answer ≡ Done command

told_by : (ts : List Turn) (m : Mark) → Has (accepted ts) m → IsToldBy ts m
told_by [] m has = absurd has
told_by (t ∷ ts) m has = by (has_either (accepting t.line t.line.request t.reply.n t.reply.answer) (accepted ts) m has) (λ more. told_by ts m more)
  where
    own : (makes : Bool) (n : Option ℕ) (answer : Answer) → makes_entry t.line.request ≡ makes → t.reply.n ≡ n → t.reply.answer ≡ answer → Has (told_mark t.line makes n answer) m
        → IsToldBy (t ∷ ts) m
    own true (Some n) (Done command) makes number done (inl same) = record {
      turn = t;
      there = inl refl;
      makes = makes;
      number = number ∙ ap (λ (x : Mark). Some x.n) same;
      command = command;
      done = done;
    }
    own true (Some n) (Done command) makes number done (inr none) = absurd none
    own true (Some n) (Segments rows) makes number done none = absurd none
    own true (Some n) (Refused refusal) makes number done none = absurd none
    own true None answer makes number done none = absurd none
    own false n answer makes number done none = absurd none

    by : Has (accepting t.line t.line.request t.reply.n t.reply.answer) m ⊎ Has (accepted ts) m → (Has (accepted ts) m → IsToldBy ts m) → IsToldBy (t ∷ ts) m
    by (inl here) later = own (makes_entry t.line.request) t.reply.n t.reply.answer refl refl refl here
    by (inr more) later =
        let rest = later more in
        record { turn = rest.turn; there = inr rest.there; makes = rest.makes; number = rest.number; command = rest.command; done = rest.done }

module _ (c : ConfigParts) (script : List Line) (replies : List Reply) (H : List Entry) (store : Bool) (before now : ℕ) (legal : Legal c [] script replies H store before now) where
  abbrev pub turns : List Turn
  turns = legal.turns

  -- the line of a turn is one of the script
  pub line_there : (t : Turn) → Has turns t → Has script t.line
  line_there t has =
      let s : ℕ = t.line.session.0 in
      let own : Has (of_session s turns) t = has_filter (is_of s) turns t has (eq-eqb s s refl) in
      filter_in (is_line_of s) script t.line
      (subst (λ (ls : List Line). Has ls t.line) (legal.sessions s).in_order (map_has (λ (u : Turn). u.line) (of_session s turns) t own))

  -- each line of the script has a turn
  pub record HasTurn (l : Line) : Type 0 where
    pub turn : Turn
    pub there : Has turns turn
    pub own : turn.line ≡ l

  pub turn_there : (l : Line) → Has script l → HasTurn l
  turn_there l has =
      let s : ℕ = l.session.0 in
      let own : Has (lines_of_session s script) l = has_filter (is_line_of s) script l has (eq-eqb s s refl) in
      let from : ComesFrom (λ (u : Turn). u.line) (of_session s turns) l =
      has_map (λ (u : Turn). u.line) (of_session s turns) l (subst (λ (ls : List Line). Has ls l) (sym (legal.sessions s).in_order) own) in
      record { turn = from.from; there = filter_in (is_of s) turns from.from from.there; own = from.value }

  -- the reply of a turn is one of the replies, and each reply is that of a turn
  pub reply_there : (t : Turn) → Has turns t → Has replies t.reply
  reply_there t has = subst (λ (rs : List Reply). Has rs t.reply) legal.replied (map_has (λ (u : Turn). u.reply) turns t has)

  pub reply_from : (r : Reply) → Has replies r → ComesFrom (λ (u : Turn). u.reply) turns r
  reply_from r has = has_map (λ (u : Turn). u.reply) turns r (subst (λ (rs : List Reply). Has rs r) (sym legal.replied) has)

  -- an answer to a request is right
  abbrev pub Right : Line → Request → Option ℕ → Answer → Type 0
  Right l request None answer = IsRightUnnumbered store request answer
  Right l request (Some n) answer = (0 ≤ n) × (n ≤ length H) × IsRightAt c H store l request n answer

  as_right : (l : Line) (n : Option ℕ) (answer : Answer) → IsRight c 0 H store l n answer → Right l l.request n answer
  as_right l None answer right = right
  as_right l (Some n) answer right = right

  -- the answer of a turn is right for the request of its line
  pub right_for : (t : Turn) (l : Line) (request : Request) → Has turns t → t.line ≡ l → l.request ≡ request → Right l request t.reply.n t.reply.answer
  right_for t l request has own is =
      let right : IsRightTurn c 0 H store t = each_at (IsRightTurn c 0 H store) turns t legal.whole.right has in
      subst (λ (r : Request). Right l r t.reply.n t.reply.answer) is
      (as_right l t.reply.n t.reply.answer (subst (λ (k : Line). IsRight c 0 H store k t.reply.n t.reply.answer) own right))

  -- the answer to a query, with a number
  pub query_right : (l : Line) (ask : Ask) (n : ℕ) (given : Option ℕ) (answer told : Answer) → given ≡ Some n → answer ≡ told → Right l (requests.Query ask) given answer → IsRightQuery c H ask n told
  query_right l ask n given answer told is same right =
      (subst (λ (a : Answer). Right l (requests.Query ask) (Some n) a) same (subst (λ (o : Option ℕ). Right l (requests.Query ask) o answer) is right)).2

  edit_kept : (l : Line) (act : Act) (n : Option ℕ) (answer : Answer) → Right l (requests.Edit (Ok act)) n answer → is_taken answer ≡ true → Has H (entry_of l act)
  edit_kept l act None (Done command) right kept = absurd right
  edit_kept l act None (Segments rows) right kept = absurd right
  edit_kept l act None (Refused refusal) right kept = absurd cc
  edit_kept l act (Some n) (Done command) right kept = has_at H right.2.before (entry_of l act) right.2.entry
  edit_kept l act (Some n) (Segments rows) right kept = absurd right.2
  edit_kept l act (Some n) (Refused refusal) right kept = absurd cc

  -- where no line was refused, the edit of each line is an entry
  pub edit_there : list_all (λ (r : Reply). is_taken r.answer) replies ≡ true → (l : Line) (act : Act) → Has script l → l.request ≡ requests.Edit (Ok act) → Has H (entry_of l act)
  edit_there taken l act has is =
      let on = turn_there l has in
      let t : Turn = on.turn in
      edit_kept l act t.reply.n t.reply.answer (right_for t l (requests.Edit (Ok act)) on.there on.own is)
      (all_at (λ (r : Reply). is_taken r.answer) replies t.reply taken (reply_there t on.there))

  -- an entry is the edit of a line
  pub record IsOfLine (e : Entry) : Type 0 where
    pub line : Line
    pub there : Has script line
    pub act : Act
    pub request : line.request ≡ requests.Edit (Ok act)
    pub entry : e ≡ entry_of line act

  -- an answer to an edit, with a number
  edit_right : (l : Line) (act : Act) (n : ℕ) (given : Option ℕ) (answer told : Answer) → given ≡ Some n → answer ≡ told → Right l (requests.Edit (Ok act)) given answer
      → IsRightAt c H store l (requests.Edit (Ok act)) n told
  edit_right l act n given answer told is same right =
      (subst (λ (a : Answer). Right l (requests.Edit (Ok act)) (Some n) a) same (subst (λ (o : Option ℕ). Right l (requests.Edit (Ok act)) o answer) is right)).2

  -- where no line takes back, each entry is the edit of a line
  module _ (none_back : (l : Line) (earlier : ℕ) → Has script l → l.request ≡ requests.Undo earlier → ⊥) where
    entry_told : (e : Entry) (n : HasNumber 1 H e) (by : IsToldBy turns (mark_at n.number e)) (request : Request) → by.turn.line.request ≡ request → makes_entry request ≡ true → IsOfLine e
    entry_told e n by (requests.Edit (Ok act)) is makes =
        let right = edit_right by.turn.line act n.number by.turn.reply.n by.turn.reply.answer (Done by.command) by.number by.done
        (right_for by.turn by.turn.line (requests.Edit (Ok act)) by.there refl is) in
        let own : n.number ≡ right.before + 1 = right.number in
        let number : n.number ≡ 1 + n.at = n.is in
        let place : n.at ≡ right.before = omega arith in
        record {
          line = by.turn.line;
          there = line_there by.turn by.there;
          act = act;
          request = is;
          entry = same_Some e (entry_of by.turn.line act) (sym n.place ∙ ap (λ (k : ℕ). slice_get H k) place ∙ right.entry);
        }
    entry_told e n by (requests.Edit (Err fault)) is makes = absurd cc
    entry_told e n by (requests.Undo earlier) is makes = absurd (none_back by.turn.line earlier (line_there by.turn by.there) is)
    entry_told e n by (requests.Query ask) is makes = absurd cc
    entry_told e n by (requests.Look ask) is makes = absurd cc
    entry_told e n by requests.Finish is makes = absurd cc
    entry_told e n by (requests.After earlier) is makes = absurd cc

    pub entry_from : (e : Entry) → Has H e → IsOfLine e
    entry_from e has =
        let n : HasNumber 1 H e = number_of 1 H e has in
        let m : Mark = mark_at n.number e in
        let there : Has (with_number n.number (numbered 1 H)) m = has_filter (has_number n.number) (numbered 1 H) m n.there (eq-eqb n.number n.number refl) in
        let one : with_number n.number (accepted turns) ≡ with_number n.number (numbered 1 H) =
        legal.whole.one_entry n.number ∙ ap (λ (es : List Entry). with_number n.number (numbered 1 es)) (sym legal.prefix) in
        let told : Has (accepted turns) m = filter_in (has_number n.number) (accepted turns) m (subst (λ (ms : List Mark). Has ms m) (sym one) there) in
        let by : IsToldBy turns m = told_by turns m told in
        entry_told e n by by.turn.line.request refl by.makes
