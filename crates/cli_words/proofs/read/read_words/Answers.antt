use Rattle.std.proofs.Common.{◌≡◌, ◌∙◌, sym, map, string_bytes}
use Rattle.clap.specs.Words.{subcommand_rows_of}
use Rattle.cli_words.proofs.Ranges.{in_range}
use Rattle.cli_words.proofs.Top.{none_with_dashes}
use Rattle.cli_words.proofs.Whole.{all_look, fault_is, found_is}
use Rattle.cli_words.proofs.read.read_words.Goals as goal

pub returns-then-has_dashes-clause-read : goal.returns-then-has_dashes-clause-read
returns-then-has_dashes-clause-read c = none_with_dashes (map (λ w. string_bytes w) c.args.words.now) (sym c.has_dashes.ensures ∙ c.if-has_dashes.true)

pub returns-in-Ok-clause-read : goal.returns-in-Ok-clause-read
returns-in-Ok-clause-read c =
    let looks = all_look c.args.words.now (sym c.has_dashes.ensures ∙ c.if-has_dashes.false) in
    found_is (map (λ w. string_bytes w) c.args.words.now) looks (subcommand_rows_of c.in-Ok.matches) c.in-Ok.ensures.fits c.in-Ok.ensures.rows
    c.read_found.result c.read_found.ensures

pub returns-in-Ok-clause-ranges : goal.returns-in-Ok-clause-ranges
returns-in-Ok-clause-ranges c =
    let looks = all_look c.args.words.now (sym c.has_dashes.ensures ∙ c.if-has_dashes.false) in
    in_range (map (λ w. string_bytes w) c.args.words.now) c.read_found.result
    (found_is (map (λ w. string_bytes w) c.args.words.now) looks (subcommand_rows_of c.in-Ok.matches) c.in-Ok.ensures.fits c.in-Ok.ensures.rows
    c.read_found.result c.read_found.ensures)

pub returns-in-Err-clause-read : goal.returns-in-Err-clause-read
returns-in-Err-clause-read c =
    let looks = all_look c.args.words.now (sym c.has_dashes.ensures ∙ c.if-has_dashes.false) in
    fault_is (map (λ w. string_bytes w) c.args.words.now) looks c.in-Err.fault c.in-Err.ensures.usage
