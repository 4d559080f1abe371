use Rattle.std.proofs.Common.{◌≡◌, ◌∙◌, ap, sym, rules, map, string_bytes}
use Rattle.clap.specs.Words.{fault_of, is_simple, is_simple_and_free, kind_of, subcommand_of}
use Rattle.clap.specs.declared.error.kind.ErrorKind.TheVariants as kind
use Rattle.cli_words.proofs.Failed.{emu_is_free, emu_is_simple, only_memory}
use Rattle.cli_words.proofs.parsing.parsed.Goals as goal

pub returns-in-Ok-try_get_matches_from-clause-fits : goal.returns-in-Ok-try_get_matches_from-clause-fits
returns-in-Ok-try_get_matches_from-clause-fits c =
    let app = c.in-Ok.ensures.same in
    let words = map (λ w. string_bytes w) c.args.words.now in
    ap (λ a. fault_of a words) (sym app) ∙ c.in-Ok-try_get_matches_from.ensures.kinds (ap is_simple_and_free app ∙ emu_is_free)

pub returns-in-Ok-try_get_matches_from-clause-rows : goal.returns-in-Ok-try_get_matches_from-clause-rows
returns-in-Ok-try_get_matches_from-clause-rows c =
    let app = c.in-Ok.ensures.same in
    let words = map (λ w. string_bytes w) c.args.words.now in
    (c.in-Ok-try_get_matches_from.ensures.matches (ap is_simple app ∙ emu_is_simple)).1 ∙ ap (λ a. subcommand_of a words) app

pub returns-clause-usage : goal.returns-clause-usage
returns-clause-usage c = λ is none.
    let app = c.in-Ok.ensures.same in
    let words = map (λ w. string_bytes w) c.args.words.now in
    let out : kind_of c.in-Err.error ≡ kind.OutOfMemory =
    only_memory _ c.in-Err.error (c.in-Err.ensures.kinds (ap is_simple_and_free app ∙ emu_is_free)) (ap (λ a. fault_of a words) app ∙ none) in
    search (out, rules)
