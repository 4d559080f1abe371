use Rattle.config_json.proofs.Shown.{labels_put}
use Rattle.config_json.proofs.values.put_legal.Goals as goal

pub returns-in_ok-put-in-Some : goal.returns-in_ok-put-in-Some
returns-in_ok-put-in-Some c =
    labels_put c.args.legal.now _ _ _ _ _ c.in-Some.is c.as_slice.ensures c.in_ok-value-in-Some.ensures
    c.in_ok-put-in-Some.ensures.ok
