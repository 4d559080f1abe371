use Rattle.std.proofs.Common.{◌≡◌, ◌-◌, ◌++◌, length, filter}
use Rattle.std.specs.List.{range_with_len}
use Rattle.std.specs.Option.{option_to_list}
use Rattle.eql_resolve.specs.Resolve.{gives_times, segments_below}
use Rattle.eql_resolve.proofs.times.segment_below.Given as goal

-- what was found and what the rest has are all
abbrev pub invariant-loop-other : goal.invariant-loop-other
invariant-loop-other l =
    option_to_list l.found ++ filter (gives_times l.config l.level) (range_with_len l.other (length l.config.levels - l.other)) ≡ segments_below l.config l.level
