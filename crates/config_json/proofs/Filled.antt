-- Lists with at least one element.
use Rattle.std.proofs.Common.{◌≡◌, ◌<◌, List, [], ◌∷◌, length, refl, arith}
use Rattle.std.specs.Prelude.{Ok, Err}
use Rattle.serde_json.specs.Data.{Data}
use Rattle.json_view.specs.declared.wants.Wanted.TheVariants as wanted
use Rattle.json_view.specs.Seen.{Seen}
use Rattle.json_view.specs.Parts.{shape}
use Rattle.config_json.specs.Forms.{if_filled}

pub filled_some : (s : Seen) (list : List Data) → 0 < length list → if_filled s list ≡ Ok list
filled_some s [] some = let no : ⊥ = omega arith in absurd no
filled_some s (d ∷ ds) some = refl

pub filled_none : (s : Seen) (list : List Data) → length list ≡ 0 → if_filled s list ≡ Err (shape s.path wanted.FilledList)
filled_none s [] none = refl
filled_none s (d ∷ ds) none = let no : ⊥ = omega arith in absurd no
