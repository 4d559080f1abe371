-- Runs of the bundles of a version, and the rows that are asked for in one.
use Rattle.std.specs.Prelude.{◌≤◌, ◌-◌, ℕ, List, Result, Err, length, take, drop}
use Rattle.std.specs.List.{flat_map, list_any}
use Rattle.emu_names.specs.declared.limits.TheConstants.{BUNDLES}
use Rattle.bundle_state.specs.Bundle.{BundleParts}
use Rattle.eql_match.specs.eql_rows.declared.row.Row.{Row}
use Rattle.eql_match.specs.eql_tuples.declared.faults.MatchFault.{MatchFault}
use Rattle.eql_match.specs.eql_model.Inner.Rows.{GivesRows}
use Rattle.version_tree.specs.Version.{VersionParts, bundles_of}
use Rattle.query_workers.specs.declared.question.Question.{Question}
use Rattle.query_workers.specs.Inner.Questions.{rows_for, too_many_for}

-- a refusal
abbrev pub refusal : MatchFault → Result (List Row) MatchFault
refusal fault = Err fault

-- the places from one to before another are those of bundles of the version
pub record IsRun (version : VersionParts) (from to : ℕ) : Type 0 where
  pub ordered : from ≤ to
  pub within : to ≤ length version.bundles
  pub few : to ≤ BUNDLES

-- the elements at the places from one to before another
abbrev pub run_of : {A : Type 0} → ℕ → ℕ → List A → List A
run_of from to list = take (to - from) (drop from list)

-- an answer over some bundles is the rows of one after another, and no bundle has too many tuples; or it is
-- that some bundle has
abbrev pub GivesOver : Result (List Row) MatchFault → Question → VersionParts → List BundleParts → Type 0
GivesOver result question version bundles =
    GivesRows result (flat_map (λ b. rows_for question version.config b) bundles)
    (list_any (λ b. too_many_for question version.config b) bundles)

-- an answer over the bundles of a run
abbrev pub GivesRun : Result (List Row) MatchFault → Question → VersionParts → ℕ → ℕ → Type 0
GivesRun result question version from to =
    GivesOver result question version (bundles_of (run_of from to version.bundles))
