-- Words of contracts and loops beside `specs/Laws.antt`; no promise of the program rests on them.
use Rattle.std.specs.Prelude.{ℕ, Bool, List, Option, None, Result, Ok, Err, nat_le, option_and_then}
use Rattle.std.specs.List.{list_all}
use Rattle.std.specs.Result.{result_ok}
use Rattle.serde_json.specs.Read.{read}
use Rattle.json_view.specs.declared.faults.Shape.{Shape}
use Rattle.json_view.specs.Paths.{root_path}
use Rattle.json_view.specs.Seen.{seen}
use Rattle.level_items.specs.declared.annot.Annot.{Annot}
use Rattle.emu_names.specs.declared.names.BundleKey.{BundleKey}
use Rattle.level_items.specs.declared.items.Item.{Item}
use Rattle.level_items.specs.Levels.{Level}
use Rattle.db_config.specs.declared.parts.ConfigParts.{ConfigParts}
use Rattle.bundle_state.specs.Bundle.{BundleParts}
use Rattle.bundle_state.specs.Built.{built}
use Rattle.emu_names.specs.declared.limits.TheConstants.{TOP_ID}
use Rattle.annot_json.specs.Read.{annot_of}

-- an item whose id may be read
abbrev pub has_read_id : Item → Bool
has_read_id item = nat_le item.id.0 TOP_ID

-- a level of such items
abbrev pub has_read_ids : Level → Bool
has_read_ids level = list_all has_read_id level.items

-- the bundle of a key that an annotation makes which was read, if there is one
abbrev pub made_of : ConfigParts → BundleKey → Result Annot Shape → Option BundleParts
made_of config key (Ok annot) = result_ok (built config key annot)
made_of config key (Err shape) = None

-- the bundle of a key that a text makes: the text is JSON, whose value is read as an annotation
abbrev pub remade : ConfigParts → BundleKey → List ℕ → Option BundleParts
remade config key text =
    option_and_then (λ d. made_of config key (annot_of (seen d root_path))) (read text)
