use Rattle.std.proofs.Common.{inl, inr, refl, sym, subst}
use Rattle.std.proofs.KnownBytes.{Appends-nil}
use Rattle.emu_cli.specs.Ends.{folder_told, is_of_store, refusals_told}
use Rattle.emu_cli.specs.Calls.{EndsOnStoreBy, texts_of}
use Rattle.script_runs.specs.Told.{CompletesBy, FinishesBy, call_by}
use Rattle.emu_cli.proofs.CallLemmas.{asked_run, asked_live, lives_no_work, none_completes, usage_says, only_run, only_live, store_false, other_ends, other_store, no_command, store_words, runs_no_store, runs_no_work, lives_no_store}
use Rattle.emu_cli.proofs.Completes.{finishes_well, store_well, work_completes}
use Rattle.emu_cli.proofs.top.perform.Goals as goal

pub returns-in-Some-clause-says : goal.returns-in-Some-clause-says
returns-in-Some-clause-says g c = inl (c.in-Some.store, asked_run (texts_of c.args.words.now) c.in-Ok.asked c.in-Some.store c.in-Ok.ensures.read (sym c.in-Some.ensures), c.run.ensures.says)

pub returns-in-Some-clause-complete : goal.returns-in-Some-clause-complete
returns-in-Some-clause-complete g c = λ store r.
    subst (λ store. CompletesBy g.S.Source g.K.Sink g.D.Disk g.P.PatternMaker store c.args.script.now c.run.new.script c.args.out.now c.run.new.out c.args.disk c.run.result.disk c.args.patterns.now c.run.new.patterns c.run.result.status)
    (only_run (texts_of c.args.words.now) c.in-Some.store store (asked_run (texts_of c.args.words.now) c.in-Ok.asked c.in-Some.store c.in-Ok.ensures.read (sym c.in-Some.ensures)) r) c.run.ensures.complete

pub returns-in-Some-live_asked-clause-says : goal.returns-in-Some-live_asked-clause-says
returns-in-Some-live_asked-clause-says g c = inr (inl (c.in-Some-live_asked.stored, asked_live (texts_of c.args.words.now) c.in-Ok.asked c.in-Some-live_asked.stored c.in-Ok.ensures.read (sym c.in-Some-live_asked.ensures), c.live.ensures.says))

pub returns-in-Some-live_asked-clause-complete : goal.returns-in-Some-live_asked-clause-complete
returns-in-Some-live_asked-clause-complete g c = λ store r.
    subst (λ store. CompletesBy g.S.Source g.K.Sink g.D.Disk g.P.PatternMaker store c.args.script.now c.live.new.script c.args.out.now c.live.new.out c.args.disk c.live.result.disk c.args.patterns.now c.live.new.patterns c.live.result.status)
    (only_live (texts_of c.args.words.now) c.in-Some-live_asked.stored store (asked_live (texts_of c.args.words.now) c.in-Ok.asked c.in-Some-live_asked.stored c.in-Ok.ensures.read (sym c.in-Some-live_asked.ensures)) r) c.live.ensures.complete

pub returns-in-Some-live_asked-clause-untouched : goal.returns-in-Some-live_asked-clause-untouched
returns-in-Some-live_asked-clause-untouched g c = λ other stores. c.live.ensures.untouched (store_false (texts_of c.args.words.now) c.in-Some-live_asked.stored (inr (asked_live (texts_of c.args.words.now) c.in-Ok.asked c.in-Some-live_asked.stored c.in-Ok.ensures.read (sym c.in-Some-live_asked.ensures))) other)

pub returns-in-Err-Usage-clause-says : goal.returns-in-Err-Usage-clause-says
returns-in-Err-Usage-clause-says g c = inr (inr (inl (no_command (texts_of c.args.words.now) (rw c.in-Err-Usage.field-0-is at c.in-Err-Usage.ensures.read), usage_says c.usage.result (g.K.Sink.written c.args.out.now) (g.K.Sink.written c.usage.new.out) (g.K.Sink.faults c.args.out.now) (g.K.Sink.faults c.usage.new.out) _ refl refl refl refl c.usage.ensures.last)))

pub returns-in-Err-Usage-clause-complete : goal.returns-in-Err-Usage-clause-complete
returns-in-Err-Usage-clause-complete g c = none_completes (texts_of c.args.words.now) (λ store. call_by g.S.Source g.K.Sink g.D.Disk g.P.PatternMaker store c.args.script.now c.args.script.now c.args.out.now c.usage.new.out c.args.disk c.args.disk c.args.patterns.now c.args.patterns.now) c.usage.result (rw c.in-Err-Usage.field-0-is at c.in-Err-Usage.ensures.read)

pub returns-in-Some-clause-untouched : goal.returns-in-Some-clause-untouched
returns-in-Some-clause-untouched g c = λ other stores. c.run.ensures.untouched (store_false (texts_of c.args.words.now) c.in-Some.store (inl (asked_run (texts_of c.args.words.now) c.in-Ok.asked c.in-Some.store c.in-Ok.ensures.read (sym c.in-Some.ensures))) other)

pub returns-in-Ok-clause-says : goal.returns-in-Ok-clause-says
returns-in-Ok-clause-says g c =
    other_ends (texts_of c.args.words.now) c.in-Ok.asked
    (λ store. call_by g.S.Source g.K.Sink g.D.Disk g.P.PatternMaker store c.args.script.now c.args.script.now c.args.out.now c.perform_other.new.out c.args.disk c.perform_other.result.disk c.args.patterns.now c.perform_other.new.patterns)
    (g.D.Disk.may_leave c.args.disk) (g.D.Disk.left_since c.perform_other.result.disk (g.D.Disk.moment c.args.disk)) (g.D.Disk.may_leave c.perform_other.result.disk)
    (EndsOnStoreBy g.F.Folder g.D.Disk g.P.PatternMaker c.args.folder.now c.perform_other.new.folder c.args.disk c.perform_other.result.disk c.args.patterns.now c.perform_other.new.patterns)
    (FinishesBy g.K.Sink c.args.out.now c.perform_other.new.out) _
    c.perform_other.result.status (is_of_store c.in-Ok.asked) refl c.in-Ok.ensures.read (sym c.in-None.ensures) (sym c.in-None-live_asked.ensures)
    c.perform_other.ensures.store c.perform_other.ensures.apart
    (usage_says c.perform_other.result.status (g.K.Sink.written c.args.out.now) (g.K.Sink.written c.perform_other.new.out) (g.K.Sink.faults c.args.out.now) (g.K.Sink.faults c.perform_other.new.out) _ refl refl refl refl)

pub returns-in-Ok-clause-untouched : goal.returns-in-Ok-clause-untouched
returns-in-Ok-clause-untouched g c = λ run stores. c.perform_other.ensures.untouched (other_store (texts_of c.args.words.now) c.in-Ok.asked (is_of_store c.in-Ok.asked) refl c.in-Ok.ensures.read stores)

pub returns-clause-says : goal.returns-clause-says
returns-clause-says g c = inr (inr (inr (inl ((refl, Appends-nil (g.K.Sink.written c.args.out.now)), λ b image. image, λ b left. (g.met.D.Disk g.world.𝓛 g.world.𝓜 g.world.𝓡 ((λ s x. x), (λ x. x), (λ x. x), λ x. x)).only_now c.args.disk b left))))

pub returns-in-Some-clause-commands : goal.returns-in-Some-clause-commands
returns-in-Some-clause-commands g c = λ asks faultless. absurd (runs_no_store (texts_of c.args.words.now) c.in-Ok.asked c.in-Some.store c.in-Ok.ensures.read (sym c.in-Some.ensures) asks)

pub returns-in-Some-live_asked-clause-commands : goal.returns-in-Some-live_asked-clause-commands
returns-in-Some-live_asked-clause-commands g c = λ asks faultless. absurd (lives_no_store (texts_of c.args.words.now) c.in-Ok.asked c.in-Some-live_asked.stored c.in-Ok.ensures.read (sym c.in-Some-live_asked.ensures) asks)

pub returns-in-Err-Usage-clause-commands : goal.returns-in-Err-Usage-clause-commands
returns-in-Err-Usage-clause-commands g c = λ asks faultless. absurd ((no_command (texts_of c.args.words.now) (rw c.in-Err-Usage.field-0-is at c.in-Err-Usage.ensures.read)).no_store asks)

pub returns-in-Ok-clause-commands : goal.returns-in-Ok-clause-commands
returns-in-Ok-clause-commands g c = λ asks faultless.
    let ended = c.perform_other.ensures.store (store_words (texts_of c.args.words.now) c.in-Ok.asked c.in-Ok.ensures.read asks) in
    let well = store_well g.D.Disk (folder_told g.F.Folder c.args.folder.now c.perform_other.new.folder) (g.K.Sink.faults c.args.out.now) (g.K.Sink.faults c.perform_other.new.out) c.args.disk c.perform_other.result.disk faultless (refusals_told g.P.PatternMaker c.args.patterns.now c.perform_other.new.patterns) c.in-Ok.asked ended.0 ended.1 in
    finishes_well g.D.Disk (folder_told g.F.Folder c.args.folder.now c.perform_other.new.folder) (g.K.Sink.faults c.args.out.now) (g.K.Sink.faults c.perform_other.new.out) c.args.disk c.perform_other.result.disk faultless c.perform_other.result.status (g.K.Sink.written c.args.out.now) (g.K.Sink.written c.perform_other.new.out) ended.0 well ended.2

pub returns-clause-commands : goal.returns-clause-commands
returns-clause-commands g c = λ asks faultless. inr (inr refl)

pub returns-in-Some-clause-works : goal.returns-in-Some-clause-works
returns-in-Some-clause-works g c = λ number bundles w same room. absurd (runs_no_work (texts_of c.args.words.now) c.in-Ok.asked c.in-Some.store c.in-Ok.ensures.read (sym c.in-Some.ensures) number bundles w)

pub returns-in-Some-live_asked-clause-works : goal.returns-in-Some-live_asked-clause-works
returns-in-Some-live_asked-clause-works g c = λ number bundles w same room. absurd (lives_no_work (texts_of c.args.words.now) c.in-Ok.asked c.in-Some-live_asked.stored c.in-Ok.ensures.read (sym c.in-Some-live_asked.ensures) number bundles w)

pub returns-in-Err-Usage-clause-works : goal.returns-in-Err-Usage-clause-works
returns-in-Err-Usage-clause-works g c = λ number bundles w same room. absurd ((no_command (texts_of c.args.words.now) (rw c.in-Err-Usage.field-0-is at c.in-Err-Usage.ensures.read)).no_work number bundles w)

pub returns-in-Ok-clause-works : goal.returns-in-Ok-clause-works
returns-in-Ok-clause-works g c =
    work_completes (texts_of c.args.words.now) c.in-Ok.asked c.perform_other.result.status (g.K.Sink.written c.args.out.now) (g.K.Sink.written c.perform_other.new.out)
    (g.K.Sink.faults c.args.out.now) (g.K.Sink.faults c.perform_other.new.out) _ c.in-Ok.ensures.read c.perform_other.ensures.apart

pub returns-clause-works : goal.returns-clause-works
returns-clause-works g c = λ number bundles w same room. inr refl
