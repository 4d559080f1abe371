use Rattle.std.proofs.Common.{rules, ◌≡◌, ◌<◌, ◌++◌, ◌∷◌, [], length, get_or}
use Rattle.annot_json.proofs.Shown.{levels_more}
use Rattle.annot_json.proofs.print.levels_value.Goals as goal

pub loop-place-preserved : goal.loop-place-preserved
loop-place-preserved c =
    let within : c.loop-place.place < length c.args.config.now.levels = search rules in
    let def : c.index-defs-place.result ≡ get_or c.args.config.now.levels c.loop-place.place c.index-defs-place.result = search rules in
    let put : c.push.new.self.items ≡ c.loop-place.values.items ++ c.in_ok-value.value ∷ [] = search rules in
    levels_more c.args.config.now.levels c.args.bundle.now.levels c.loop-place.place c.index-defs-place.result c.level.result.now
    c.loop-place.values.items c.push.new.self.items c.in_ok-value.value c.loop-place.invariant within def c.level.ensures.level
    c.in_ok-value.ensures.value c.in_ok-value.ensures.ids put
