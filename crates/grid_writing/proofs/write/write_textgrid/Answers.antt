use Rattle.std.proofs.Common.{◌≡◌, ◌≤◌, List, ℕ, All, arith, ap, ◌∙◌, sym, subst}
use Rattle.grid_writing.specs.Levels.{end_of, time_levels}
use Rattle.grid_writing.specs.Written.{written, written_levels}
use Rattle.grid_writing.specs.Back.{ComesBack}
use Rattle.grid_writing.specs.Inner.Within.{IsLevelInTime}
use Rattle.grid_writing.proofs.Bundles.{if_written, says_written}
use Rattle.grid_writing.proofs.Places.{levels_in_time}
use Rattle.grid_writing.proofs.write.write_textgrid.Goals as goal

pub text_of-requires-clause-in_time : goal.text_of-requires-clause-in_time
text_of-requires-clause-in_time c =
    let rules = c.item_count-count.ensures.rules in
    let config = c.args.config.now in
    let levels = c.args.bundle.now.levels in
    let low : end_of levels ≤ c.end_of-end.result = omega (arith, c.end_of-end.ensures.value) in
    let there : All IsLevelInTime (time_levels c.end_of-end.result config.levels levels) = levels_in_time c.end_of-end.result config.levels levels c.end_of-end.ensures.within rules.levels low in
    subst (λ ls. All IsLevelInTime ls) (sym (c.as_slice.ensures.value ∙ c.in_ok-levels.ensures)) there

pub returns-clause-again : goal.returns-clause-again
returns-clause-again c =
    let config = c.args.config.now in
    let bundle = c.args.bundle.now in
    let levels : c.as_slice.result.now ≡ written_levels config bundle =
    c.as_slice.ensures.value ∙ c.in_ok-levels.ensures ∙ ap (λ end. time_levels end config.levels bundle.levels) c.end_of-end.ensures.value in
    let says = says_written config bundle c.rate.result c.end_of-end.result c.as_slice.result.now c.text_of.result levels c.rate.ensures c.end_of-end.ensures.value c.text_of.ensures.says in
    if_written (ComesBack config bundle) c.text_of.result (written config bundle) says c.text_of.ensures.utf8
    (λ text utf8 is. c.written_comes_back.ensures config bundle text c.parts-parts.ensures.valid c.item_count-count.ensures.rules utf8 is)
