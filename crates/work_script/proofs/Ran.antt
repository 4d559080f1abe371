-- The run of the script of work, over a book without entries and without a store.
use Rattle.std.proofs.Common.{◌≡◌, ℕ, ◌+◌, Bool, List, [], length, Result, Ok, Err, IfOk, ◌∙◌, subst}
use Rattle.emu_names.specs.declared.shortage.Memory.{Memory}
use Rattle.db_config.specs.declared.parts.ConfigParts.{ConfigParts}
use Rattle.bundle_edits.specs.declared.bundle_change.Counts.{Counts}
use Rattle.edit_rules.specs.declared.acts.Entry.{Entry}
use Rattle.live_run.specs.live_book.Commits.{has_journal}
use Rattle.live_run.specs.live_book.Kept.{BookParts, faults_in}
use Rattle.live_run.specs.declared.run.Ended.{Ended}
use Rattle.live_run.specs.Inner.Runs.{EndsLive}
use Rattle.live_run.specs.session_core.declared.line.Line.{Line}
use Rattle.live_run.specs.session_core.declared.line.Reply.{Reply}
use Rattle.live_run.specs.session_core.Legal.{Legal}
use Rattle.work_script.specs.declared.summary.Summary.{Summary}
use Rattle.work_script.specs.Script.{work_config}
use Rattle.work_script.specs.Summary.{IsSummary}
use Rattle.work_script.specs.Inner.Lines.{IsScript}
use Rattle.work_script.specs.Inner.Replies.{HasAllRows, IsSummedUp}
use Rattle.work_script.proofs.Summed.{summed}

-- the same summary, told otherwise
pub summed_as : (counts others : Counts) (replies : List Reply) (last line edits number : ℕ) (s : Summary) → counts ≡ others → last ≡ line → edits ≡ number → HasAllRows counts replies last edits s
    → HasAllRows others replies line number s
summed_as counts others replies last line edits number s first second third rows =
    subst (λ (c : Counts). HasAllRows c replies line number s) first
    (subst (λ (n : ℕ). HasAllRows counts replies n number s) second (subst (λ (n : ℕ). HasAllRows counts replies last n s) third rows))

-- a run that was summed up is that of the script
pub run_summed : {D : Type 0} (may_leave : D → List ℕ → Type 0) (faults : D → ℕ) (old new : BookParts D) (lines : List Line) (ended : Ended) (number count : ℕ) (summary : Result Summary Memory)
    → old.config ≡ work_config → old.history ≡ [] → EndsLive may_leave faults old lines (Ok ended) new → IsScript number count lines
    → IfOk summary (IsSummedUp new.config new.history ended.replies (length lines + 1)) → IfOk summary (IsSummary number count)
run_summed may_leave faults old new lines ended number count (Err want) config history ends script up = tt
run_summed may_leave faults old new lines ended number count (Ok s) config history ends script up =
    let store : Bool = has_journal old.journal in
    let before : ℕ = faults_in faults old.journal in
    let now : ℕ = faults_in faults new.journal in
    let legal : Legal work_config [] lines ended.replies new.history store before now =
    subst (λ (c : ConfigParts). Legal c [] lines ended.replies new.history store before now) config
    (subst (λ (es : List Entry). Legal old.config es lines ended.replies new.history store before now) history ends.1.legal) in
    summed number count lines script ended.replies new.history store before now legal s
    (subst (λ (c : ConfigParts). IsSummedUp c new.history ended.replies (length lines + 1) s) (ends.0.config ∙ config) up)
