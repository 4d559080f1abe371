-- The state behind one entry more.
use Rattle.std.proofs.Common.{◌≡◌, List, [], ◌∷◌, ◌++◌, Result, Ok, IsTrue, ◌∙◌, ap, subst, arith, length-append}
use Rattle.db_config.specs.declared.parts.ConfigParts.{ConfigParts}
use Rattle.db_config.specs.Valid.{is_valid}
use Rattle.emu_names.specs.Steps.{onward}
use Rattle.version_steps.specs.edit_rules.declared.acts.Breach.{Breach}
use Rattle.version_steps.specs.edit_rules.declared.acts.Entry.{Entry}
use Rattle.version_steps.specs.edit_rules.Database.{DatabaseParts, empty_database, KeepsDatabaseRules}
use Rattle.version_steps.specs.edit_rules.Effects.{effect, edited, found_or}
use Rattle.version_steps.proofs.of_edit_rules.Replay.{legal_keeps, replay_goes_on}
use Rattle.version_steps.specs.version_tree.Version.{VersionParts, state_of}
use Rattle.version_steps.specs.version_tree.Inner.Version.{next_number}
use Rattle.live_book.specs.Published.{IsStateAfter}
use Rattle.live_book.specs.Commits.{HasRoom}

-- the state of a book keeps the rules
pub state_keeps : (config : ConfigParts) (history : List Entry) (version : VersionParts) → IsTrue (is_valid config) → IsStateAfter config history version → KeepsDatabaseRules (state_of version)
state_keeps config history version valid state =
    subst (λ (r : Result DatabaseParts Breach). KeepsDatabaseRules (found_or (empty_database config) r)) state.state (legal_keeps config history valid (state_of version, state.state))

module _ (config : ConfigParts) (history : List Entry) (next : Entry) (version : VersionParts) (state : IsStateAfter config history version) where
  -- what the act of an entry leaves
  pub edited_as : (r : Result DatabaseParts Breach) → effect (state_of version) next.act ≡ r → edited config history next.act ≡ r
  edited_as r is = ap (λ (s : Result DatabaseParts Breach). onward s (λ d. effect d next.act)) state.state ∙ is

  pub next_state : (new : VersionParts) → HasRoom history → effect (state_of version) next.act ≡ Ok (state_of new) → new.number ≡ next_number version.number → IsStateAfter config (history ++ next ∷ []) new
  next_state new room is number = record {
    state = replay_goes_on config history next ∙ edited_as (Ok (state_of new)) is;
    number = number ∙ (let n = state.number in omega (arith, n, room, length-append history (next ∷ [])));
  }
