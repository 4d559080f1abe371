use Rattle.std.proofs.Common.{rules}
use Rattle.json_view.proofs.Each.{each_fault}
use Rattle.json_view.specs.Inner.Seen.{seen_at}
use Rattle.config_json.specs.Read.{listed_values, value_in}
use Rattle.config_json.proofs.Lists.{read_more}
use Rattle.config_json.proofs.read_parts.listed_values.Goals as goal

pub returns-in-Err : goal.returns-in-Err
unfolding listed_values
returns-in-Err c told =
    let at_fault = each_fault _ _ _ _ _ _ _ c.loop-place.invariant.whole c.in_ok-part.ensures.element (c.in-Err.ensures told) in
    search rules

pub loop-place-preserved : goal.loop-place-preserved
loop-place-preserved c =
    read_more value_in (seen_at c.args.view.now) _ c.loop-place.values c.push.new.self c.in-Ok.value c.loop-place.place c.loop-place.invariant
    c.in_ok-part.ensures.element c.in-Ok.ensures c.in_ok-push-in-Ok.ensures.ok
