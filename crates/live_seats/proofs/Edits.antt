-- An act of a lane, an edit's or an `undo`'s: what the book answers is a step of the lane.
use Rattle.std.proofs.Common.{◌≡◌, inl, inr, ℕ, ◌+◌, ◌<◌, ◌≤◌, Bool, true, List, [], ◌∷◌, ◌++◌, length, take, slice_get, Option, Some, None, Result, Ok, Err, refl, sym, ap, ◌∙◌, subst, arith, length-append, append-nil}
use Rattle.std.proofs.Math.Seq.{take-append_seam}
use Rattle.std.proofs.lemmas.List.{take_all}
use mathlib.Core.List.{IsPrefix}
use Rattle.emu_names.specs.declared.limits.TheConstants.{HISTORY_EDITS}
use Rattle.edit_undo.specs.edit_rules.Database.{DatabaseParts}
use Rattle.edit_undo.specs.edit_rules.Effects.{database_after, edited}
use Rattle.edit_undo.specs.edit_rules.declared.acts.Act.{Act}
use Rattle.edit_undo.specs.edit_rules.declared.acts.Entry.{Entry}
use Rattle.edit_undo.specs.Inverse.{inverse_at}
use Rattle.version_gate.specs.declared.entry.Entry.{Entry as Numbered}
use Rattle.query_workers.specs.session_core.declared.kept_acts.KeptAct.{KeptAct}
use Rattle.query_workers.specs.session_core.declared.line.Answer.TheVariants.{Done, Refused}
use Rattle.query_workers.specs.session_core.declared.line.Line.{Line}
use Rattle.query_workers.specs.session_core.declared.line.Refusal.{Refusal}
use Rattle.query_workers.specs.session_core.declared.line.Refusal.TheVariants as refusals
use Rattle.query_workers.specs.session_core.declared.line.Reply.{Reply}
use Rattle.query_workers.specs.session_core.declared.line.Request.{Request}
use Rattle.query_workers.specs.session_core.declared.slots.Held.{Held}
use Rattle.query_workers.specs.session_core.Answers.{entry_of, reply_to, rule_refusal}
use Rattle.query_workers.specs.session_core.Inner.Kept.{opened_in}
use Rattle.query_workers.specs.session_core.Inner.Undone.{AreKept, IsKeptOf}
use Rattle.query_workers.specs.session_core.Legal.{IsRightRefusal, Mark, accepting, makes_entry, mark_of, told_mark}
use Rattle.query_workers.specs.session_core.Steps.{session_places}
use Rattle.query_workers.specs.session_core.Undos.{kept_act}
use Rattle.query_workers.specs.session_core.Worlds.{passes_store}
use Rattle.edit_undo.specs.edit_rules.declared.commit_fault.EditFault.{EditFault}
use Rattle.edit_undo.specs.edit_rules.declared.commit_fault.EditFault.TheVariants as faults
use Rattle.live_book.specs.declared.kept.Kept.{Kept}
use Rattle.live_book.specs.declared.published.Published.{Published}
use Rattle.live_book.specs.Commits.{IsAnswer, history_behind}
use Rattle.live_book.specs.Inner.Inverses.{KeepsInverse}
use Rattle.live_book.specs.Inner.Inverses.{numbered as number_in}
use Rattle.live_book.specs.Live.{Opened}
use Rattle.live_book.specs.Inner.Live.{Count}
use Rattle.query_workers.specs.session_core.Inner.Told.{commit_reply}
use Rattle.query_workers.proofs.of_session_core.Undoing.{are_kept_push, slice_get_last}
use Rattle.live_book.proofs.Sizes.{passes_so}
use Rattle.live_laws.specs.Lanes.{IsStep}
use Rattle.live_laws.proofs.Replies.{accepted_step, disk_step, refused_step, undo_accepted_step, undo_disk_step, undo_refused_step, want_of_memory_step}
use Rattle.live_seats.specs.Inner.Replies.{IsTried, RepliesTo, WantsAct, kept_with}
use Rattle.live_seats.specs.Inner.Seats.{KeepsMore, SeesMore, answered_step}
use Rattle.live_seats.proofs.Counts.{accepting_none, accepting_refused, act_count}
use Rattle.live_seats.proofs.Replying.{from, held_now, kept_now, on, stays}
use Rattle.live_seats.proofs.Shown.{goes_on, number_is}

-- Lists that begin each other.

no_more : {A : Type 0} → (xs ys : List A) → length ys ≡ 0 → xs ++ ys ≡ xs
no_more xs [] none = append-nil xs
no_more xs (y ∷ ys) none = absurd (omega arith)

begins_same : {A : Type 0} → (xs ys : List A) → IsPrefix xs ys → IsPrefix ys xs → xs ≡ ys
begins_same xs ys p q =
    let one : length xs + length p.0 ≡ length ys = sym (length-append xs p.0) ∙ ap length p.1 in
    let two : length ys + length q.0 ≡ length xs = sym (length-append ys q.0) ∙ ap length q.1 in
    let none : length p.0 ≡ 0 = omega arith in
    sym (no_more xs p.0 none) ∙ p.1

-- a line that wants an act may bring an entry
makes : (acts : List KeptAct) (l : Line) (act : Act) → WantsAct acts l act → makes_entry l.request ≡ true
makes acts l act (inl asks) = ap (λ (r : Request). makes_entry r) asks
makes acts l act (inr back) = ap (λ (r : Request). makes_entry r) back.asks

module _ (o : Opened) (old new : List (Numbered Published)) (looks : List (Option Held)) (acts : List KeptAct) (l : Line) (learnt : IsPrefix old new)
    (place : l.session.0 < session_places) (act : Act) where
  module _ (H : List Entry) (marks : List Mark) (before history : List Entry) (sees : SeesMore o old new looks marks acts before history) (least : length before ≤ length H) where
    abbrev Step : Reply → Type 0
    Step reply = IsStep o.config (length o.entries) o.stored before history (opened_in looks) (opened_in looks) marks l
        (answered_step l reply (length history) None)

    -- the act was accepted behind so many entries
    was_accepted : WantsAct acts l act → (n : ℕ) (database : DatabaseParts) → length before ≤ n → n < length history → n < HISTORY_EDITS
        → edited o.config (take n history) act ≡ Ok database → slice_get history n ≡ Some (entry_of l act) → Step (reply_to l (Some (n + 1)) (Done l.command))
    was_accepted (inl asks) n database low high room right there =
        accepted_step o.config (length o.entries) o.stored before history (opened_in looks) marks acts l (from o old new looks acts l learnt place marks before history sees) (on o old new looks acts l learnt place marks before history sees) place (sees.looks_in l.session.0) (kept_now o old new looks acts l learnt place marks before history sees)
        act n database None asks low high room right there
    was_accepted (inr back) n database low high room right there =
        undo_accepted_step o.config (length o.entries) o.stored before history (opened_in looks) marks acts l (from o old new looks acts l learnt place marks before history sees) (on o old new looks acts l learnt place marks before history sees) place (sees.looks_in l.session.0) (kept_now o old new looks acts l learnt place marks before history sees)
        back.earlier act n database None back.asks back.back low high room right there

    -- it was refused, over the state after so many entries
    was_refused : WantsAct acts l act → (n : ℕ) (refusal : Refusal) → length before ≤ n → n ≤ length history → IsRightRefusal o.config history o.stored l act n refusal
        → Step (reply_to l (Some n) (Refused refusal))
    was_refused (inl asks) n refusal low high right =
        refused_step o.config (length o.entries) o.stored before history (opened_in looks) marks acts l (from o old new looks acts l learnt place marks before history sees) (on o old new looks acts l learnt place marks before history sees) place (sees.looks_in l.session.0) (kept_now o old new looks acts l learnt place marks before history sees)
        act n refusal None asks low high right
    was_refused (inr back) n refusal low high right =
        undo_refused_step o.config (length o.entries) o.stored before history (opened_in looks) marks acts l (from o old new looks acts l learnt place marks before history sees) (on o old new looks acts l learnt place marks before history sees) place (sees.looks_in l.session.0) (kept_now o old new looks acts l learnt place marks before history sees)
        back.earlier act n refusal None back.asks back.back low high right

    -- the disk failed
    disk_failed : WantsAct acts l act → o.stored ≡ true → Step (reply_to l None (Refused refusals.Disk))
    disk_failed (inl asks) stored =
        disk_step o.config (length o.entries) o.stored before history (opened_in looks) marks acts l (from o old new looks acts l learnt place marks before history sees) (on o old new looks acts l learnt place marks before history sees) place (sees.looks_in l.session.0) (kept_now o old new looks acts l learnt place marks before history sees)
        act None asks stored
    disk_failed (inr back) stored =
        undo_disk_step o.config (length o.entries) o.stored before history (opened_in looks) marks acts l (from o old new looks acts l learnt place marks before history sees) (on o old new looks acts l learnt place marks before history sees) place (sees.looks_in l.session.0) (kept_now o old new looks acts l learnt place marks before history sees)
        back.earlier act None back.asks back.back stored

    whole : (n : ℕ) → n ≡ length H → take n H ≡ H
    whole n all = take_all n H (omega (arith, all))

    -- the entry that came last, and those before it
    last_there : history ≡ H ++ entry_of l act ∷ [] → slice_get history (length H) ≡ Some (entry_of l act)
    last_there same = ap (λ (h : List Entry). slice_get h (length H)) same ∙ slice_get_last H (entry_of l act)

    before_last : history ≡ H ++ entry_of l act ∷ [] → take (length H) history ≡ H
    before_last same = ap (λ (h : List Entry). take (length H) h) same ∙ take-append_seam H (entry_of l act ∷ [])

    module _ (wants : WantsAct acts l act) where
      -- a refusal over these entries
      refused : (n : ℕ) (refusal : Refusal) → n ≡ length H → history ≡ H → IsRightRefusal o.config H o.stored l act n refusal → Step (reply_to l (Some n) (Refused refusal))
      refused n refusal all same right =
          was_refused wants n refusal
          (let low : length before ≤ n = omega (arith, all, least) in low)
          (let lens : length history ≡ length H = ap length same in omega (arith, all, lens))
          (subst (λ (h : List Entry). IsRightRefusal o.config h o.stored l act n refusal) (sym same) right)

      step : (made : Result ℕ EditFault) → IsAnswer o.stored o.config H (entry_of l act) made → history ≡ history_behind H (entry_of l act) made → Step (commit_reply l made)
      step (Ok n) right same =
          let lens : length history ≡ length H + 1 = ap length same ∙ length-append H (entry_of l act ∷ []) in
          let number : length H + 1 ≡ n = omega (arith, right.0) in
          let made : edited o.config (take (length H) history) act ≡ Ok right.1.breaks_none.0 =
          ap (λ (h : List Entry). edited o.config h act) (before_last same) ∙ right.1.breaks_none.1 in
          subst (λ (k : ℕ). Step (reply_to l (Some k) (Done l.command))) number
          (was_accepted wants (length H) right.1.breaks_none.0 least (omega (arith, lens)) right.1.room made (last_there same))
      step (Err (faults.HistoryFull n)) right same = refused n refusals.HistoryFull right.0 same (right.0 ∙ right.1)
      step (Err (faults.Broken breach n)) right same =
          let room : n < HISTORY_EDITS = omega (arith, right.0, right.1) in
          refused n (rule_refusal l.command breach) right.0 same (record {
            room = room;
            at = breach.place;
            broken = ap (λ (h : List Entry). edited o.config h act) (whole n right.0) ∙ right.2;
            shown = refl;
          })
      step (Err (faults.StoreFull n)) right same =
          let room : n < HISTORY_EDITS = omega (arith, right.0, right.1) in
          refused n refusals.StoreFull right.0 same (record {
            room = room;
            stored = right.3.0;
            database = right.2.0;
            right = ap (λ (h : List Entry). edited o.config h act) (whole n right.0) ∙ right.2.1;
            passes = ap (λ (h : List Entry). passes_store o.config h (entry_of l act)) (whole n right.0) ∙ passes_so o.config H (entry_of l act) right.3.1;
          })
      step (Err faults.Disk) right same = disk_failed wants right.0
      step (Err faults.Memory) right same =
          want_of_memory_step o.config (length o.entries) o.stored before history (opened_in looks) marks acts l (from o old new looks acts l learnt place marks before history sees) (on o old new looks acts l learnt place marks before history sees) place (sees.looks_in l.session.0) (kept_now o old new looks acts l learnt place marks before history sees)
          None

      -- what takes the accepted act back is kept
      own_kept : (kept : Kept) → kept.n ≡ length H + 1 → kept.inverse ≡ inverse_at (database_after o.config H) act → history ≡ H ++ entry_of l act ∷ []
          → AreKept o.config history (marks ++ accepting l l.request (Some kept.n) (Done l.command)) (acts ++ kept_act l.session l.line kept.inverse ∷ [])
      own_kept kept number inverse same =
          let told : accepting l l.request (Some kept.n) (Done l.command) ≡ mark_of l kept.n ∷ [] =
          ap (λ (b : Bool). told_mark l b (Some kept.n) (Done l.command)) (makes acts l act wants) in
          let own : IsKeptOf o.config history (mark_of l kept.n) (kept_act l.session l.line kept.inverse) = record {
            session = refl;
            line = refl;
            takes = record {
              before = length H;
              number = number;
              entry = entry_of l act;
              there = last_there same;
              is = inverse ∙ ap (λ (h : List Entry). inverse_at (database_after o.config h) act) (sym (before_last same));
            };
          } in
          subst (λ (ms : List Mark). AreKept o.config history (marks ++ ms) (acts ++ kept_act l.session l.line kept.inverse ∷ [])) (sym told)
          (are_kept_push o.config history marks acts (mark_of l kept.n) (kept_act l.session l.line kept.inverse) (kept_now o old new looks acts l learnt place marks before history sees) own)

      -- no act was accepted, and all that is kept stays
      keeps_refused : (n : Option ℕ) (refusal : Refusal) → KeepsMore o history looks marks acts l (reply_to l n (Refused refusal))
      keeps_refused n refusal = stays o old new looks acts l learnt place marks before history sees n (Refused refusal) (accepting_refused l l.request n refusal)

      keeps_act : (made : Result Kept EditFault) → IsAnswer o.stored o.config H (entry_of l act) (number_in made) → KeepsInverse o.config H act made
          → history ≡ history_behind H (entry_of l act) (number_in made) → KeepsMore o history looks marks (kept_with acts l made) l (commit_reply l (number_in made))
      keeps_act (Ok kept) right inverse same = record {
        held = held_now o old new looks acts l learnt place marks before history sees;
        kept = own_kept kept (let number : kept.n ≡ length H + 1 = omega (arith, right.0) in number) inverse same;
      }
      keeps_act (Err (faults.HistoryFull n)) right inverse same = keeps_refused (Some n) refusals.HistoryFull
      keeps_act (Err (faults.Broken breach n)) right inverse same = keeps_refused (Some n) (rule_refusal l.command breach)
      keeps_act (Err (faults.StoreFull n)) right inverse same = keeps_refused (Some n) refusals.StoreFull
      keeps_act (Err faults.Disk) right inverse same = keeps_refused None refusals.Disk
      keeps_act (Err faults.Memory) right inverse same = keeps_refused None refusals.Memory

  -- an act that a line wants was tried
  pub act_replies : WantsAct acts l act → (count count_now : Count) (made : Result Kept EditFault) → IsTried o old new count count_now l act made
      → RepliesTo o old new count count_now looks looks acts (kept_with acts l made) l (commit_reply l (number_in made)) None
  act_replies wants count count_now made e = record {
    learnt = learnt;
    counted = e.counted ∙ act_count count l (makes acts l act wants) (number_in made);
    places = refl;
    step = λ marks before history sees.
        let H : List Entry = e.edits.edits.history in
        let behind : List Entry = history_behind H (entry_of l act) (number_in made) in
        let one : IsPrefix history behind = goes_on o history behind new new sees.shown_now e.edits.edits.shown ([], append-nil new) in
        let two : IsPrefix behind history = goes_on o behind history new new e.edits.edits.shown sees.shown_now ([], append-nil new) in
        let same : history ≡ behind = begins_same history behind one two in
        let seen : e.seen ≡ length before = number_is o before old e.seen sees.shown_before e.numbered in
        let most : e.seen ≤ length H = e.edits.edits.seen e.seen e.numbered in
        let least : length before ≤ length H = omega (arith, seen, most) in (
          step H marks before history sees least wants (number_in made) e.edits.edits.right same,
          keeps_act H marks before history sees least wants made e.edits.edits.right e.edits.inverse same,
        );
  }

-- the same, of what a line's functions say one after another: room was made, the act was tried, and what takes it back
-- was kept
pub act_told : (o : Opened) (old new : List (Numbered Published)) (count count_now : Count) (looks : List (Option Held)) (acts room acts_now : List KeptAct) (l : Line) (act : Act) (made : Result Kept EditFault) (reply : Reply)
    → l.session.0 < session_places → WantsAct acts l act → room ≡ acts → IsTried o old new count count_now l act made → acts_now ≡ kept_with room l made → reply ≡ commit_reply l (number_in made)
    → RepliesTo o old new count count_now looks looks acts acts_now l reply None
act_told o old new count count_now looks acts room acts_now l act made reply place wants same tried kept told =
    subst (λ (r : Reply). RepliesTo o old new count count_now looks looks acts acts_now l r None) (sym told)
    (subst (λ (ks : List KeptAct). RepliesTo o old new count count_now looks looks acts ks l (commit_reply l (number_in made)) None) (sym (kept ∙ ap (λ (ks : List KeptAct). kept_with ks l made) same))
    (act_replies o old new looks acts l tried.edits.edits.learnt place act wants count count_now made tried))
