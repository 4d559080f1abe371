-- What a command that reads a book tells of its version, told of its history.
use Rattle.std.proofs.Common.{◌≡◌, ◌⊎◌, inl, inr, ℕ, List, length, take, Option, None, Result, Ok, Err, refl, sym, ◌∙◌, ap, subst}
use Rattle.std.proofs.Math.Seq.{take-length}
use Rattle.db_config.specs.declared.parts.ConfigParts.{ConfigParts}
use Rattle.version_tree.specs.edit_rules.declared.acts.Entry.{Entry}
use Rattle.version_tree.specs.edit_rules.Database.{DatabaseParts, empty_database}
use Rattle.version_tree.specs.edit_rules.Effects.{database_after, found_or}
use Rattle.eql_resolve.specs.Made.{Made}
use Rattle.version_tree.specs.Version.{VersionParts, state_of}
use Rattle.script_runs.specs.live_book.Published.{IsStateAfter}
use Rattle.script_runs.specs.session_core.Answers.{answer_over}
use Rattle.emudb_files.specs.store_texts.declared.faults.Refused.{Refused}
use Rattle.emudb_files.specs.store_texts.declared.faults.CommandFault.{CommandFault}
use Rattle.emudb_files.specs.store_texts.declared.faults.CommandFault.TheVariants as faults
use Rattle.emudb_files.specs.store_texts.Asked.{asked_text}
use Rattle.emudb_files.specs.store_texts.Inner.Asked.{TellsAsked, TellsMade, answered}
use Rattle.emudb_files.specs.store_texts.Commands.{Tells, config_shown, exported, grid_exported}
use Rattle.emu_cli.specs.Ends.{IsAsked, IsOutOfMemory, Refusals, answered_after}

module _ (config : ConfigParts) (history : List Entry) (version : VersionParts) (is : IsStateAfter config history version) where
  database_is : database_after config history ≡ state_of version
  database_is = ap (λ found. found_or (empty_database config) found) is.state

  pub config_after : (text : List ℕ) → text ≡ config_shown (state_of version) → text ≡ config_shown (database_after config history)
  config_after text h = h ∙ ap (λ (d : DatabaseParts). config_shown d) (sym database_is)

  pub exported_after : (made : Result (List ℕ) CommandFault) (session bundle : List ℕ) → Tells made (exported (state_of version) session bundle) → Tells made (exported (database_after config history) session bundle)
  exported_after made session bundle h = subst (λ (d : DatabaseParts). Tells made (exported d session bundle)) (sym database_is) h

  pub gridded_after : (made : Result (List ℕ) CommandFault) (session bundle : List ℕ) → Tells made (grid_exported (state_of version) session bundle) → Tells made (grid_exported (database_after config history) session bundle)
  gridded_after made session bundle h = subst (λ (d : DatabaseParts). Tells made (grid_exported d session bundle)) (sym database_is) h

  answered_same : (time : Option (List ℕ)) (query : Made) → answered version query time ≡ answered_after config history time query
  answered_same time query =
      ap (λ n. asked_text n (answer_over (state_of version) (record { prepared = query; time = time; requery = None }))) is.number
      ∙ ap (λ (d : DatabaseParts). asked_text (length history) (answer_over d (record { prepared = query; time = time; requery = None })))
      (sym database_is ∙ ap (λ (h : List Entry). database_after config h) (sym (take-length history)))

  asked_as : (made : Result (List ℕ) CommandFault) (eql : List ℕ) (time : Option (List ℕ)) (refused : Refusals) → TellsMade made eql time version refused.before refused.after → IsOutOfMemory refused made ⊎ IsAsked refused eql time config history made
  asked_as made eql time refused h = inr (record {
    query = h.made;
    of_text = h.of_text;
    rose = h.rose;
    told = subst (λ there. Tells made there) (answered_same time h.made) h.told;
  })

  pub asked_after : (made : Result (List ℕ) CommandFault) (eql : List ℕ) (time : Option (List ℕ)) (refused : Refusals) → TellsAsked made eql time version refused.before refused.after → IsOutOfMemory refused made ⊎ IsAsked refused eql time config history made
  asked_after (Ok text) eql time refused h = asked_as (Ok text) eql time refused h
  asked_after (Err (faults.Refused r)) eql time refused h = asked_as (Err (faults.Refused r)) eql time refused h
  asked_after (Err faults.Read) eql time refused h = asked_as (Err faults.Read) eql time refused h
  asked_after (Err faults.Disk) eql time refused h = asked_as (Err faults.Disk) eql time refused h
  asked_after (Err faults.Memory) eql time refused h = inl (refl, h)
