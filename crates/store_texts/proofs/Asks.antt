-- The answer to what was made of a query's text is that of `ask`.
use Rattle.std.proofs.Common.{◌≤◌, ℕ, List, Option, Result, Ok, Err}
use Rattle.emu_names.specs.Count.{RoseBy}
use Rattle.eql_resolve.specs.Made.{Made, IsMade, times_too_large}
use Rattle.query_workers.specs.version_tree.Version.{VersionParts}
use Rattle.store_texts.specs.declared.faults.CommandFault.{CommandFault}
use Rattle.store_texts.specs.declared.faults.CommandFault.TheVariants as faults
use Rattle.store_texts.specs.Inner.Asked.{TellsAsked, answered}
use Rattle.store_texts.specs.Commands.{Tells}

pub tells_asked : (result : Result (List ℕ) CommandFault) (text : List ℕ) (time : Option (List ℕ))
    (version : VersionParts) (before now : ℕ)
    (made : Made) → IsMade text made → RoseBy (times_too_large made) before now → before ≤ now
    → Tells result (answered version made time)
    → TellsAsked result text time version before now
tells_asked (Ok t) text time version before now made is rose later told =
    record { made = made; of_text = is; rose = rose; told = told }
tells_asked (Err (faults.Refused r)) text time version before now made is rose later told =
    record { made = made; of_text = is; rose = rose; told = told }
tells_asked (Err faults.Read) text time version before now made is rose later told =
    record { made = made; of_text = is; rose = rose; told = told }
tells_asked (Err faults.Disk) text time version before now made is rose later told =
    record { made = made; of_text = is; rose = rose; told = told }
tells_asked (Err faults.Memory) text time version before now made is rose later told = later
