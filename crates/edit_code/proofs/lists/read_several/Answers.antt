use Rattle.std.proofs.Common.{sym, ◌∙◌}
use Rattle.edit_code.proofs.Exits.{exit_if, exit_skips, key_stops, count_stops, edits_stop, made_stop}
use Rattle.edit_code.proofs.SeveralSteps.{several_some, several_none}
use Rattle.edit_code.proofs.lists.read_several.Goals as goal

pub returns-in_err-raw : goal.returns-in_err-raw
returns-in_err-raw c =
    exit_if _ _ _ _ _ _ _ c.from_residual.ensures.1 c.in_err-raw.ensures (λ n e. key_stops c.args.from.now n e)

pub returns-in_err-count : goal.returns-in_err-count
returns-in_err-count c =
    exit_if _ _ _ _ _ _ _ c.from_residual-in_err-count.ensures.1 c.in_err-count.ensures.count
    (λ n e. count_stops c.args.from.now c.read.new.from c.in_ok-raw.raw n c.in_ok-raw.ensures e)

pub returns-in-Some : goal.returns-in-Some
returns-in-Some c =
    several_some c.args.from.now c.read.new.from c.read_count.new.from c.read_edits.new.from c.in_ok-raw.raw c.in_ok-count.count
    c.in_ok-raw.ensures c.in_ok-count.ensures.count c.in_ok-count.ensures.some c.in-Some.key c.in_ok-edits-in-Some.edits
    (sym c.in-Some.is ∙ c.in_ok-key.ensures) c.in_ok-edits-in-Some.ensures

pub returns : goal.returns
returns c =
    several_none c.args.from.now c.read.new.from c.read_count.new.from c.skip_edits.new.from c.in_ok-raw.raw c.in_ok-count.count
    c.in_ok-raw.ensures c.in_ok-count.ensures.count c.in_ok-count.ensures.some
    (sym c.in-None.is ∙ c.in_ok-key.ensures) (c.in_ok-skip_edits-in-None.ensures c.in_ok-raw.raw)

pub returns-in_err-edits-in-Some : goal.returns-in_err-edits-in-Some
returns-in_err-edits-in-Some c =
    exit_if _ _ _ _ _ _ _ c.from_residual-in_err-edits-in-Some.ensures.1 c.in_err-edits-in-Some.ensures
    (λ n e. made_stop c.args.from.now c.read.new.from c.read_count.new.from c.in_ok-raw.raw c.in-Some.key c.in_ok-count.count n
    c.in_ok-raw.ensures c.in_ok-count.ensures.count (sym c.in-Some.is ∙ c.in_ok-key.ensures) e)

pub returns-in_err-skip_edits-in-None : goal.returns-in_err-skip_edits-in-None
returns-in_err-skip_edits-in-None c =
    exit_skips _ _ _ _ _ _ _ c.from_residual-in_err-skip_edits-in-None.ensures.1 (c.in_err-skip_edits-in-None.ensures c.in_ok-raw.raw)
    (λ n e. edits_stop c.args.from.now c.read.new.from c.read_count.new.from c.in_ok-raw.raw c.in_ok-count.count n
    c.in_ok-raw.ensures c.in_ok-count.ensures.count e)
