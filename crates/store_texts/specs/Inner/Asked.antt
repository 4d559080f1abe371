-- What a query of a version is answered.
use Rattle.std.specs.Prelude.{◌≤◌, ℕ, List, Option, None, Result, Err}
use Rattle.emu_names.specs.Count.{RoseBy}
use Rattle.eql_resolve.specs.Made.{Made, IsMade, times_too_large}
use Rattle.query_workers.specs.version_tree.Version.{VersionParts, state_of}
use Rattle.reply_texts.specs.session_core.Answers.{answer_over}
use Rattle.store_texts.specs.declared.faults.Refused.{Refused}
use Rattle.store_texts.specs.declared.faults.CommandFault.{CommandFault}
use Rattle.store_texts.specs.declared.faults.CommandFault.TheVariants as faults
use Rattle.store_texts.specs.Commands.{Tells}
use Rattle.store_texts.specs.Asked.{asked_text}

-- what a version answers to what was made of a query's text, with the name of the level of the times where
-- one is given
abbrev pub answered : VersionParts → Made → Option (List ℕ) → Result (List ℕ) Refused
answered version made time =
    asked_text version.number (answer_over (state_of version) (record { prepared = made; time = time; requery = None }))

-- an answer goes with what a maker of patterns made of the text, whose refusals were and are so many
pub record TellsMade (result : Result (List ℕ) CommandFault) (text : List ℕ) (time : Option (List ℕ))
    (version : VersionParts) (before now : ℕ) : Type 0 where
  pub made : Made
  pub of_text : IsMade text made
  pub rose : RoseBy (times_too_large made) before now
  pub told : Tells result (answered version made time)

-- the same, but where memory ran out: then the maker's refusals did not fall
abbrev pub TellsAsked : Result (List ℕ) CommandFault → List ℕ → Option (List ℕ) → VersionParts → ℕ → ℕ → Type 0
TellsAsked (Err faults.Memory) text time version before now = before ≤ now
TellsAsked result text time version before now = TellsMade result text time version before now
