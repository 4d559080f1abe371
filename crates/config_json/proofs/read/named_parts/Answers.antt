use Rattle.json_view.specs.Inner.Seen.{seen_at}
use Rattle.config_json.proofs.Heads.{parts_split}
use Rattle.config_json.proofs.Stops.{stops}
use Rattle.config_json.proofs.read.named_parts.Goals as goal

pub returns-in_err-lists-clause-parts : goal.returns-in_err-lists-clause-parts
returns-in_err-lists-clause-parts c =
    rw (parts_split (seen_at c.args.view.now), c.in_ok-head.ensures.head)
    (stops c.from_residual-in_err-lists.result _ _ _ c.from_residual-in_err-lists.ensures.1 c.in_err-lists.ensures.lists)
