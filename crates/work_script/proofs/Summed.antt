-- The summary of a run of the script of work is that of the database in which all its bundles stand.
use Rattle.std.proofs.Common.{◌≡◌, ℕ, ◌+◌, ◌-◌, ◌<◌, List, [], ◌++◌, length, take_all, Some, refl, sym, ◌∙◌, ap, subst, arith, length-append, slice_get}
use Rattle.edit_rules.specs.declared.acts.Entry.{Entry}
use Rattle.db_config.specs.declared.parts.ConfigParts.{ConfigParts}
use Rattle.bundle_edits.specs.declared.bundle_change.Counts.{Counts}
use Rattle.edit_rules.specs.Database.{DatabaseParts, counts_of, empty_database}
use Rattle.edit_rules.specs.Effects.{database_after, found_or}
use Rattle.book_opening.specs.version_tree.Version.{VersionParts, state_of}
use Rattle.live_run.specs.live_book.Published.{IsStateAfter}
use Rattle.live_run.specs.session_core.declared.line.Answer.TheVariants.{Segments}
use Rattle.live_run.specs.session_core.declared.line.Line.{Line}
use Rattle.live_run.specs.session_core.declared.line.Reply.{Reply}
use Rattle.live_run.specs.session_core.declared.line.Request.TheVariants as requests
use Rattle.live_run.specs.session_core.Answers.{answer_at, answer_over, entry_of}
use Rattle.live_run.specs.session_core.Legal.{IsNamed, IsRightQuery, Legal}
use Rattle.live_run.specs.session_core.Worlds.{Turn}
use Rattle.work_script.specs.declared.summary.Summary.{Summary}
use Rattle.work_script.specs.Script.{each, work_config, work_queries}
use Rattle.work_script.specs.Inner.Script.{adding, waits}
use Rattle.work_script.specs.States.{IsWorkState}
use Rattle.work_script.specs.Summary.{HasRowsFor, IsSummary}
use Rattle.work_script.specs.Inner.Lines.{IsAsking, IsScript}
use Rattle.work_script.specs.Inner.Replies.{Has, HasRows, IsSummedUp}
use Rattle.work_script.proofs.Asked.{rows_asked}
use Rattle.work_script.proofs.Lists.{each_at}
use Rattle.work_script.proofs.Numbered.{asking_length, asks_at}
use Rattle.work_script.proofs.Replied.{edit_there, entry_from, line_there, query_right, reply_from, right_for}
use Rattle.work_script.proofs.Scripted.{adding_there, edit_is, none_back}
use Rattle.work_script.proofs.States.{AddsOne, IsAddedIn, work_state}

-- the counts of a version are those of the state after its entries
pub counted_after : (config : ConfigParts) (history : List Entry) (version : VersionParts) (counts : Counts) → IsStateAfter config history version → counts ≡ counts_of (state_of version).bundles
    → counts ≡ counts_of (database_after config history).bundles
counted_after config history version counts is same =
    same ∙ ap (λ (d : DatabaseParts). counts_of d.bundles) (sym (ap (λ found. found_or (empty_database config) found) is.state))

module _ (number count : ℕ) (lines : List Line) (script : IsScript number count lines) (replies : List Reply) (H : List Entry) (store : _) (before now : ℕ)
    (legal : Legal work_config [] lines replies H store before now) (s : Summary) (up : IsSummedUp work_config H replies (length lines + 1) s) where
  adds : (e : Entry) → Has H e → AddsOne number count e
  adds e has =
      let from = entry_from work_config lines replies H store before now legal (none_back number count lines script) e has in
      let is = edit_is number count lines script from.line from.act from.there from.request in
      record { bundle = is.bundle; low = is.low; is = ap (λ (x : Entry). x.act) from.entry ∙ is.is }

  all : (k : ℕ) → k < count → IsAddedIn number k H
  all k low = record {
    entry = entry_of (adding number k) _;
    there = edit_there work_config lines replies H store before now legal up.taken (adding number k) _ (adding_there number count lines script k low) refl;
    is = refl;
  }

  whole : IsWorkState number count (database_after work_config H)
  whole = work_state number count H legal.legal adds all

  abbrev pub front : ℕ
  front = length (each (adding number) count ++ waits count)

  last_is : length lines ≡ front + 4
  last_is =
      ap length script.whole ∙ length-append (each (adding number) count ++ waits count) script.asks
      ∙ ap (λ n. front + n) (asking_length (front + 2) work_queries script.asks script.asking)

  rows_for : (i line rows : ℕ) (text : List ℕ) → slice_get work_queries i ≡ Some text → line ≡ front + 2 + i → HasRows replies line (length H) rows → HasRowsFor (database_after work_config H) text rows
  rows_for i line rows text there place has =
      let from = reply_from work_config lines replies H store before now legal has.reply has.there in
      let t : Turn = from.from in
      let named : IsNamed t = each_at IsNamed legal.turns t legal.whole.named from.there in
      let own : t.line.line ≡ front + 2 + i = sym named.line ∙ ap (λ (r : Reply). r.line) from.value ∙ has.gives.own ∙ place in
      let asks : IsAsking (front + 2 + i) text t.line =
      asks_at number count lines script t.line i text (line_there work_config lines replies H store before now legal t from.there) own there in
      let n : t.reply.n ≡ Some (length H) = ap (λ (r : Reply). r.n) from.value ∙ has.gives.number in
      let answer : t.reply.answer ≡ Segments has.gives.rows = ap (λ (r : Reply). r.answer) from.value ∙ has.gives.answer in
      let right = right_for work_config lines replies H store before now legal t t.line (requests.Query asks.ask) from.there refl asks.request in
      let given : IsRightQuery work_config H asks.ask (length H) (Segments has.gives.rows) =
      query_right work_config lines replies H store before now legal t.line asks.ask (length H) t.reply.n t.reply.answer (Segments has.gives.rows) n answer right in
      let state : answer_at work_config H (length H) asks.ask ≡ answer_over (database_after work_config H) asks.ask =
      ap (λ (es : List Entry). answer_over (database_after work_config es) asks.ask) (take_all (length H) H (omega arith)) in
      subst (HasRowsFor (database_after work_config H) text) (sym has.gives.counted)
      (rows_asked (database_after work_config H) text asks.ask asks.prepared has.gives.rows asks.is_prepared asks.query asks.untimed asks.own (given.given ∙ state))

  pub summed : IsSummary number count s
  summed =
      let size = last_is in
      record {
        state = database_after work_config H;
        whole = whole;
        bundles = up.bundles;
        items = up.items;
        rows = (
          rows_for 0 (length lines + 1 - 3) s.first _ refl (omega (arith, size)) up.first,
          (
            rows_for 1 (length lines + 1 - 2) s.second _ refl (omega (arith, size)) up.second,
            (
              rows_for 2 (length lines + 1 - 1) s.third _ refl (omega (arith, size)) up.third,
              (rows_for 3 (length lines + 1) s.fourth _ refl (omega (arith, size)) up.fourth, tt),
            ),
          ),
        );
      }
