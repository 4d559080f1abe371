-- What the last line says of each refusal of a command.
use Rattle.std.specs.Prelude.{ℕ, List, ◌∷◌, codes}
use Rattle.serde_json.specs.Data.{Data}
use Rattle.reply_texts.specs.Members.{Named, line_text, object_of}
use Rattle.reply_texts.specs.Refusals.{config_members, grid_members, number_at, of_name, plain, refusal_members, shape_members, text_at}
use Rattle.store_texts.specs.declared.faults.FileFault.{FileFault}
use Rattle.store_texts.specs.declared.faults.FileFault.TheVariants as files
use Rattle.store_texts.specs.declared.faults.Refused.{Refused}
use Rattle.store_texts.specs.declared.faults.Refused.TheVariants as refused

-- the fault of a file or a folder, but for its path
abbrev pub fault_members : FileFault → List Named
fault_members files.Absent = plain (codes "cause") (codes "Absent")
fault_members files.TooLarge = plain (codes "cause") (codes "TooLarge")
fault_members files.BadName = plain (codes "cause") (codes "BadName")
fault_members files.NotJson = plain (codes "cause") (codes "NotJson")
fault_members (files.Shape shape) = shape_members (codes "cause") shape
fault_members (files.Config fault) = config_members (codes "cause") fault
fault_members (files.Grid fault) = grid_members (codes "cause") fault

-- why a command is refused
abbrev pub refused_members : Refused → List Named
refused_members refused.NoConfiguration = plain (codes "cause") (codes "NoConfiguration")
refused_members refused.StoreHasConfiguration = plain (codes "cause") (codes "StoreHasConfiguration")
refused_members refused.BadName = plain (codes "cause") (codes "BadName")
refused_members refused.NoBundle = plain (codes "cause") (codes "NoBundle")
refused_members (refused.TooManyEntries name) = of_name (codes "cause") (codes "TooManyEntries") name
refused_members (refused.Request refusal) = refusal_members (codes "cause") refusal
refused_members (refused.File file fault) = text_at (codes "file") file ∷ fault_members fault

-- the object of the last line of a refused command, with the status 10
abbrev pub refused_data : Refused → Data
refused_data r = object_of (number_at (codes "status") 10 ∷ refused_members r)

-- its text
unfoldable pub refused_text : Refused → List ℕ
refused_text r = line_text (refused_data r)
