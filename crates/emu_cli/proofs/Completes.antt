-- Where nothing is at fault outside, a command on the store ends well, is refused, or memory ran out.
use Rattle.std.proofs.Common.{◌≡◌, ◌⊎◌, inl, inr, ℕ, ◌<◌, ◌-◌, ◌^◌, Bool, false, List, Option, Some, Result, Ok, Err, refl, sym, ◌∙◌, ap, subst, arith}
use Rattle.std.specs.Prelude.{codes}
use Rattle.emu_names.specs.Count.{Rose}
use Rattle.cli_words.specs.declared.words.Words.{Words}
use Rattle.cli_words.specs.declared.words.Words.TheVariants as forms
use Rattle.emu_io.specs.declared.tree.Stored.{Stored}
use Rattle.db_config.specs.declared.parts.ConfigParts.{ConfigParts}
use Rattle.version_tree.specs.edit_rules.declared.acts.Act.{Act}
use Rattle.version_tree.specs.edit_rules.declared.acts.Entry.{Entry}
use Rattle.emu_disk.specs.declared.disk.Disk as disks
use Rattle.emudb_files.specs.store_texts.declared.faults.Refused.{Refused}
use Rattle.emudb_files.specs.store_texts.declared.faults.CommandFault.{CommandFault}
use Rattle.emudb_files.specs.store_texts.declared.faults.CommandFault.TheVariants as faults
use Rattle.emudb_files.specs.store_texts.Commands.{Tells}
use Rattle.emudb_files.specs.Answers.{HasDiskCause, HasReadCause}
use Rattle.emudb_files.specs.Wanted.{import_wanted}
use Rattle.script_runs.specs.program_output.declared.ending.Ending.{Ending}
use Rattle.script_runs.specs.program_output.declared.ending.Ending.TheVariants.{Fine as Gives, Refused as Refuses, Damaged as IsDamaged, Read as Unread, Disk as NoDisk, Memory as OutOfMemory}
use Rattle.script_runs.specs.program_output.declared.status.Status.{Status}
use Rattle.script_runs.specs.program_output.declared.status.Status.TheVariants as statuses
use Rattle.script_runs.specs.program_output.Statuses.{Finishes, code_of}
use Rattle.script_runs.proofs.CompleteLemmas.{not_damaged_base}
use Rattle.cli_words.specs.Forms.{words_of}
use Rattle.emu_cli.specs.Calls.{EndsWork}
use Rattle.emu_cli.specs.Inner.Calls.{EndsApart, WorkCompletes}
use Rattle.emu_cli.proofs.CallLemmas.{work_words}
use Rattle.emu_cli.specs.Ends.{EndsBare, EndsDone, EndsImport, EndsLoad, EndsOnStore, EndsReading, EndsUnopened, FolderTold, IsEndOf, IsFaultlessOn, IsLoadedAlready, IsMadeText, IsRefusedBy, Refusals, is_of_store}

-- an ending that no fault outside causes
abbrev pub EndsWell : Ending → Type 0
EndsWell (Gives text) = Unit {0}
EndsWell (Refuses text) = Unit {0}
EndsWell OutOfMemory = Unit {0}
EndsWell ending = ⊥

well_as : (ending other : Ending) → ending ≡ other → EndsWell other → EndsWell ending
well_as ending other e h = subst (λ x. EndsWell x) (sym e) h

pub not_risen : (before now : ℕ) → now ≡ before → before < 2 ^ 64 - 1 → Rose before now → ⊥
not_risen before now same room rose = absurd (omega arith)

refused_well : (refused : Refused) (ending : Ending) → IsRefusedBy refused ending → EndsWell ending
refused_well refused ending (inl e) = well_as ending _ e tt
refused_well refused ending (inr e) = well_as ending _ e tt

-- no answer of what asks neither folder nor disk
abbrev IsFair : Result (List ℕ) CommandFault → Type 0
IsFair (Ok text) = Unit {0}
IsFair (Err (faults.Refused refused)) = Unit {0}
IsFair (Err faults.Read) = ⊥
IsFair (Err faults.Disk) = ⊥
IsFair (Err faults.Memory) = Unit {0}

made_well : (made : Result (List ℕ) CommandFault) (ending : Ending) → IsFair made → IsEndOf made ending → EndsWell ending
made_well (Ok text) ending fair e = well_as ending _ e tt
made_well (Err (faults.Refused refused)) ending fair e = refused_well refused ending e
made_well (Err faults.Read) ending fair e = absurd fair
made_well (Err faults.Disk) ending fair e = absurd fair
made_well (Err faults.Memory) ending fair e = well_as ending _ e tt

tells_fair : (made : Result (List ℕ) CommandFault) (there : Result (List ℕ) Refused) → Tells made there → IsFair made
tells_fair (Ok text) there h = tt
tells_fair (Err (faults.Refused refused)) there h = tt
tells_fair (Err faults.Read) there h = h
tells_fair (Err faults.Disk) there h = h
tells_fair (Err faults.Memory) there h = tt

text_fair : (command : Words) (refused : Refusals) (config : ConfigParts) (history : List Entry) (made : Result (List ℕ) CommandFault) → IsMadeText command refused config history made → IsFair made
text_fair forms.History refused config history made h = tells_fair made _ h
text_fair forms.Config refused config history made h = tells_fair made _ h
text_fair (forms.Export session bundle) refused config history made h = tells_fair made _ h
text_fair (forms.TextGrid session bundle) refused config history made h = tells_fair made _ h
text_fair (forms.Ask eql time) refused config history made (inl h) = subst (λ m. IsFair m) (sym h.0) tt
text_fair (forms.Ask eql time) refused config history made (inr h) = tells_fair made _ h.told
text_fair (forms.Run store) refused config history made h = absurd h
text_fair (forms.Live store workers) refused config history made h = absurd h
text_fair (forms.Load name) refused config history made h = absurd h
text_fair (forms.Import session bundle rate file) refused config history made h = absurd h
text_fair (forms.Work number bundles) refused config history made h = absurd h

module _ {D : Type 0} (disk : disks.Ghosts D) (folder : FolderTold) (sink sink_after : ℕ) (before now : D) (f : IsFaultlessOn disk folder sink sink_after before now) where
  unopened_well : (ending : Ending) → EndsUnopened disk ending before now → EndsWell ending
  unopened_well (IsDamaged text) h = not_damaged_base (disk.reads before) f.base f.bytes h.0 f.store_known f.begins h.1
  unopened_well NoDisk h = not_risen (disk.faults before) (disk.faults now) f.faults f.faults_room h
  unopened_well OutOfMemory h = tt
  unopened_well (Gives text) h = tt
  unopened_well (Refuses text) h = tt
  unopened_well Unread h = h

  done_well : (word : List ℕ) (result : Result ℕ CommandFault) (ending : Ending) → HasReadCause folder.faults folder.faults_after folder.misses folder.misses_after result → HasDiskCause (disk.faults before) (disk.faults now) result → EndsDone word result ending → EndsWell ending
  done_well word (Ok n) ending read failed (inl e) = well_as ending _ e tt
  done_well word (Ok n) ending read failed (inr e) = well_as ending _ e tt
  done_well word (Err (faults.Refused refused)) ending read failed e = refused_well refused ending e
  done_well word (Err faults.Read) ending read failed e = absurd (not_risen folder.faults folder.faults_after f.reads f.reads_room (read.read refl))
  done_well word (Err faults.Disk) ending read failed e = absurd (not_risen (disk.faults before) (disk.faults now) f.faults f.faults_room (failed.failed refl))
  done_well word (Err faults.Memory) ending read failed e = well_as ending _ e tt

  load_well : (name : List ℕ) (ending : Ending) → EndsLoad disk folder name ending before now → EndsWell ending
  load_well name ending (inl l) = done_well (codes "load") l.2.result ending l.2.read l.2.failed l.2.end
  load_well name ending (inr (inl a, untouched)) = refused_well _ ending a.4
  load_well name ending (inr (inr u, untouched)) = unopened_well ending u

  import_well : (wanted : List Stored → Result Act Refused) (ending : Ending) → EndsImport disk folder wanted ending before now → EndsWell ending
  import_well wanted ending (inl i) = done_well (codes "import") i.2.result ending i.2.read i.2.failed i.2.end
  import_well wanted ending (inr (inl b, untouched)) = refused_well _ ending b.2
  import_well wanted ending (inr (inr u, untouched)) = unopened_well ending u

  reading_well : (command : Words) (refused : Refusals) (ending : Ending) → EndsReading disk (IsMadeText command refused) ending before now → EndsWell ending
  reading_well command refused ending (inl o) = made_well o.4.0 ending (text_fair command refused o.0 o.1 o.4.0 o.4.1) o.4.2
  reading_well command refused ending (inr (inl b)) = refused_well _ ending b.2
  reading_well command refused ending (inr (inr u)) = unopened_well ending u

  pub store_well : (refused : Refusals) (command : Words) (ending : Ending) → EndsOnStore disk folder refused command ending before now → EndsWell ending
  store_well refused (forms.Load name) ending h = load_well name ending h
  store_well refused (forms.Import session bundle rate file) ending h = import_well (import_wanted session bundle rate file) ending h
  store_well refused (forms.Run store) ending h = reading_well (forms.Run store) refused ending h.0
  store_well refused (forms.Live store workers) ending h = reading_well (forms.Live store workers) refused ending h.0
  store_well refused (forms.Ask eql time) ending h = reading_well (forms.Ask eql time) refused ending h.0
  store_well refused (forms.Export session bundle) ending h = reading_well (forms.Export session bundle) refused ending h.0
  store_well refused (forms.TextGrid session bundle) ending h = reading_well (forms.TextGrid session bundle) refused ending h.0
  store_well refused forms.Config ending h = reading_well forms.Config refused ending h.0
  store_well refused forms.History ending h = reading_well forms.History refused ending h.0
  store_well refused (forms.Work number bundles) ending h = reading_well (forms.Work number bundles) refused ending h.0

  -- so does the program then
  pub finishes_well : (status : Status) (written written_now : Option (List ℕ)) (ending : Ending) → EndsWell ending → Finishes status written written_now sink sink_after ending → (status ≡ statuses.Fine) ⊎ (status ≡ statuses.Refused) ⊎ (status ≡ statuses.Memory)
  finishes_well status written written_now (Gives text) well (inl h) = inl h.0
  finishes_well status written written_now (Gives text) well (inr (inl h)) = absurd (not_risen sink sink_after f.writes f.writes_room h.1)
  finishes_well status written written_now (Gives text) well (inr (inr h)) = inr (inr h.0)
  finishes_well status written written_now (Refuses text) well (inl h) = inr (inl h.0)
  finishes_well status written written_now (Refuses text) well (inr (inl h)) = absurd (not_risen sink sink_after f.writes f.writes_room h.1)
  finishes_well status written written_now (Refuses text) well (inr (inr h)) = inr (inr h.0)
  finishes_well status written written_now (IsDamaged text) well h = absurd well
  finishes_well status written written_now Unread well h = absurd well
  finishes_well status written written_now NoDisk well h = absurd well
  finishes_well status written written_now OutOfMemory well h = inr (inr h.0)

-- the codes of such a call
pub command_code : (status : Status) (code : ℕ) → code ≡ code_of status → (status ≡ statuses.Fine) ⊎ (status ≡ statuses.Refused) ⊎ (status ≡ statuses.Memory) → (code ≡ 0) ⊎ (code ≡ 10) ⊎ (code ≡ 8)
command_code status code is (inl h) = inl (is ∙ ap code_of h)
command_code status code is (inr (inl h)) = inr (inl (is ∙ ap code_of h))
command_code status code is (inr (inr h)) = inr (inr (is ∙ ap code_of h))

-- where no write fails, a script of work ends with its line, or memory ran out
work_well : (status : Status) (written written_now : Option (List ℕ)) (writes writes_now number bundles : ℕ) (ending : Ending) → writes_now ≡ writes → writes < 2 ^ 64 - 1 → EndsWork number bundles ending
    → Finishes status written written_now writes writes_now ending → (status ≡ statuses.Fine) ⊎ (status ≡ statuses.Memory)
work_well status written written_now writes writes_now number bundles (Gives text) same room ends (inl h) = inl h.0
work_well status written written_now writes writes_now number bundles (Gives text) same room ends (inr (inl h)) = absurd (not_risen writes writes_now same room h.1)
work_well status written written_now writes writes_now number bundles (Gives text) same room ends (inr (inr h)) = inr h.0
work_well status written written_now writes writes_now number bundles (Refuses text) same room ends h = absurd ends
work_well status written written_now writes writes_now number bundles (IsDamaged text) same room ends h = absurd ends
work_well status written written_now writes writes_now number bundles Unread same room ends h = absurd ends
work_well status written written_now writes writes_now number bundles NoDisk same room ends h = absurd ends
work_well status written written_now writes writes_now number bundles OutOfMemory same room ends h = inr h.0

pub work_completes : (words : List (List ℕ)) (asked : Words) (status : Status) (written written_now : Option (List ℕ)) (writes writes_now : ℕ) (Last : Type 0) → words_of words ≡ Some asked
    → (is_of_store asked ≡ false → EndsApart asked (Finishes status written written_now writes writes_now) Last) → WorkCompletes words writes writes_now status
work_completes words asked status written written_now writes writes_now Last h apart = λ number bundles w same room.
    let asks : asked ≡ forms.Work number bundles = work_words words asked number bundles h w in
    let ended = subst (λ (a : Words). is_of_store a ≡ false → EndsApart a (Finishes status written written_now writes writes_now) Last) asks apart refl in
    work_well status written written_now writes writes_now number bundles ended.0 same room ended.1 ended.2
