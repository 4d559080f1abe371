use Rattle.std.proofs.Common.{◌≡◌, length, map, string_bytes}
use Rattle.std.specs.List.{list_any}
use Rattle.cli_words.specs.Inner.Readings.{ends_options}
use Rattle.cli_words.proofs.read.has_dashes.Given as goal

abbrev pub invariant-loop-rest : goal.invariant-loop-rest
invariant-loop-rest l = list_any ends_options (map (λ w. string_bytes w) l.rest) ≡ list_any ends_options (map (λ w. string_bytes w) l.words)

abbrev pub decreases-loop-rest : goal.decreases-loop-rest
decreases-loop-rest l = length l.rest
