-- A legal run of one session: its turns are its lines with its replies, so that wrong replies show.
use Rattle.std.proofs.Common.{◌≡◌, ℕ, ◌+◌, ◌≤◌, Bool, true, List, [], ◌∷◌, length, None, refl, sym, ◌∙◌, ap, subst, arith, eq-eqb}
use Rattle.db_config.specs.declared.parts.ConfigParts.{ConfigParts}
use Rattle.edit_undo.specs.edit_rules.declared.acts.Entry.{Entry}
use Rattle.eql_resolve.specs.Resolve.{asked}
use Rattle.requery.specs.eql_rows.declared.row.Row.{Row}
use Rattle.session_core.specs.declared.line.Answer.{Answer}
use Rattle.session_core.specs.declared.line.Answer.TheVariants.{Done, Segments, Refused}
use Rattle.session_core.specs.declared.line.Line.{Line}
use Rattle.session_core.specs.declared.line.Reply.{Reply}
use Rattle.session_core.specs.Worlds.{Turn, Each}
use Rattle.session_core.specs.Legal.{IsNamed, is_of, of_session, lines_of_session, lines_in, replies_in, Mark, accepted, numbered, with_number, IsRightTurn, NeverFalls, LooksFit, Legal}
use Rattle.session_core.specs.Example.{example_config, example_history, example_lines, example_replies, replies_with, add_line, no_memory_reply}
use Rattle.session_core.specs.Laws.{StaleIsNotLegal, AnswerIsExact, AcceptedIsRecorded, RecordedIsAccepted}
use Rattle.session_core.proofs.Turns.{each_of_map}
use Rattle.session_core.proofs.Runs.{filter_all}

-- lines with their replies
abbrev pub turns_with : List Line → List Reply → List Turn
turns_with [] replies = []
turns_with (l ∷ ls) [] = []
turns_with (l ∷ ls) (r ∷ rs) = record { line = l; reply = r } ∷ turns_with ls rs

turns_back : (ts : List Turn) → turns_with (lines_in ts) (replies_in ts) ≡ ts
turns_back [] = refl
turns_back (t ∷ ts) = ap (λ (us : List Turn). t ∷ us) (turns_back ts)

all_named : (s : ℕ) (ts : List Turn) → Each IsNamed ts → Each (λ (t : Turn). t.reply.session.0 ≡ s) ts → Each (λ t. is_of s t ≡ true) ts
all_named s [] named own = tt
all_named s (t ∷ ts) named own =
    (eq-eqb t.line.session.0 s (sym (ap (λ k. k.0) named.0.session) ∙ own.0), all_named s ts named.1 own.1)

module _ (c : ConfigParts) (opening : List Entry) (script : List Line) (replies : List Reply) (H : List Entry) (store : Bool) (before now : ℕ)
    (run : Legal c opening script replies H store before now) (s : ℕ) (own : Each (λ (r : Reply). r.session.0 ≡ s) replies) where
  alone : of_session s run.turns ≡ run.turns
  alone = filter_all (is_of s) run.turns (all_named s run.turns run.whole.named
      (each_of_map (λ (r : Reply). r.session.0 ≡ s) (λ (t : Turn). t.reply) run.turns (subst (λ (rs : List Reply). Each (λ (r : Reply). r.session.0 ≡ s) rs) (sym run.replied) own)))

  pub turns_are : run.turns ≡ turns_with (lines_of_session s script) replies
  turns_are =
      sym (turns_back run.turns)
      ∙ ap (λ (ls : List Line). turns_with ls (replies_in run.turns)) (ap (λ (ts : List Turn). lines_in ts) (sym alone) ∙ (run.sessions s).in_order)
      ∙ ap (λ (rs : List Reply). turns_with (lines_of_session s script) rs) run.replied

  pub falls_there : NeverFalls (length opening) (turns_with (lines_of_session s script) replies)
  falls_there = subst (λ (ts : List Turn). NeverFalls (length opening) ts) (alone ∙ turns_are) (run.sessions s).never_falls

  pub looks_there : LooksFit c H None (turns_with (lines_of_session s script) replies)
  looks_there = subst (λ (ts : List Turn). LooksFit c H None ts) (alone ∙ turns_are) (run.sessions s).looks

  pub right_there : Each (IsRightTurn c (length opening) H store) (turns_with (lines_of_session s script) replies)
  right_there = subst (λ (ts : List Turn). Each (IsRightTurn c (length opening) H store) ts) turns_are run.whole.right

  pub entries_there : (n : ℕ) → with_number n (accepted (turns_with (lines_of_session s script) replies)) ≡ with_number n (numbered (length opening + 1) run.more)
  entries_there n = ap (λ (ts : List Turn). with_number n (accepted ts)) (sym turns_are) ∙ run.whole.one_entry n

-- The example's wrong replies.

abbrev rows_of : Answer → List Row
rows_of (Segments rows) = rows
rows_of (Done command) = []
rows_of (Refused refusal) = []

pub stale : StaleIsNotLegal
stale history rows store before now run =
    let falls : _ = falls_there example_config [] example_lines (replies_with 0 rows) history store before now run 1 (refl, (refl, tt)) in
    let low : 1 ≤ 0 = falls.1.0 in
    omega arith

pub exact : AnswerIsExact
unfolding asked
exact rows store before now run =
    let right : _ = right_there example_config [] example_lines (replies_with 1 rows) example_history store before now run 1 (refl, (refl, tt)) in
    ap rows_of right.1.0.2.given

pub recorded : AcceptedIsRecorded
recorded store before now run =
    let right : _ = right_there example_config [] example_lines example_replies [] store before now run 1 (refl, (refl, tt)) in
    let high : 1 ≤ 0 = right.0.1 in
    omega arith

abbrev first_number : List Mark → ℕ
first_number [] = 0
first_number (m ∷ ms) = m.n

zero_not_one : (a b : ℕ) → a ≡ 0 → b ≡ 1 → a ≡ b → ⊥
zero_not_one a b zero_is one_is same = absurd (omega arith)

pub recorded_accepted : RecordedIsAccepted
recorded_accepted store before now run =
    let same : with_number 1 [] ≡ with_number 1 (numbered 1 run.more) = entries_there example_config [] (add_line ∷ []) (no_memory_reply ∷ []) example_history store before now run 1 (refl, tt) 1 in
    let gone : with_number 1 [] ≡ with_number 1 (numbered 1 example_history) = same ∙ ap (λ (es : List Entry). with_number 1 (numbered 1 es)) (sym run.prefix) in
    zero_not_one (first_number []) (first_number (with_number 1 (numbered 1 example_history))) refl refl (ap first_number gone)
