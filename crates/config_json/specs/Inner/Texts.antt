-- Words of contracts and loops beside `specs/Texts.antt`; no promise of the program rests on them.
use Rattle.std.specs.Prelude.{ℕ, List, Option, Some, None, codes, option_and_then}
use Rattle.std.specs.Result.{result_ok}
use Rattle.serde_json.specs.Data.{Members, put}
use Rattle.serde_json.specs.Read.{read}
use Rattle.json_view.specs.Paths.{root_path}
use Rattle.json_view.specs.Seen.{seen}
use Rattle.db_config.specs.declared.parts.ConfigParts.{ConfigParts}
use Rattle.config_json.specs.Read.{config_of}
use Rattle.config_json.specs.Texts.{texts_data}

-- the members with the legal labels, where they are given
abbrev pub with_legal : Option (List (List ℕ)) → Members → Members
with_legal None ms = ms
with_legal (Some labels) ms = put (codes "legalLabels") (texts_data labels) ms

-- the configuration of a text: the text is JSON, whose value is read as a configuration
abbrev pub reread : List ℕ → Option ConfigParts
reread text = option_and_then (λ d. result_ok (config_of (seen d root_path))) (read text)
