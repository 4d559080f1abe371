-- How the answer of a reader of configurations goes with a definition. Running out of memory alone is
-- left open.
use Rattle.std.specs.Prelude.{ℕ, List, codes, Result, Ok, Err}
use Rattle.json_view.specs.declared.faults.Shape.{Shape}
use Rattle.config_json.specs.declared.faults.ConfigFault.{ConfigFault}
use Rattle.config_json.specs.declared.faults.ConfigFault.TheVariants as faults
use Rattle.config_json.specs.declared.faults.ConfigWhat.{ConfigWhat}
use Rattle.config_json.specs.declared.faults.ConfigWhat.TheVariants as whats

-- a reading's shape as a fault of the configuration
abbrev pub form : {A : Type 0} → Result A Shape → Result A ConfigFault
form (Ok x) = Ok x
form (Err s) = Err (faults.Shape s)

-- the word that a refusal prints for a list that has a limit
abbrev pub what_word : ConfigWhat → List ℕ
what_word whats.Levels = codes "Levels"
what_word whats.Links = codes "Links"
what_word whats.Attributes = codes "Attributes"
what_word whats.Groups = codes "Groups"
what_word whats.Texts = codes "Texts"
what_word whats.Tracks = codes "Tracks"
