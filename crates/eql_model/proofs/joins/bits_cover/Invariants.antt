use Rattle.std.proofs.Common.{◌≡◌, ◌-◌}
use Rattle.std.specs.List.{list_all, range_with_len}
use Rattle.eql_model.specs.Inner.Joins.{is_under, bits_cover}
use Rattle.eql_model.proofs.joins.bits_cover.Given as goal

-- the places that are left answer the question
abbrev pub invariant-loop-place : goal.invariant-loop-place
invariant-loop-place l =
    list_all (is_under l.rows l.upper) (range_with_len l.place (l.place-end - l.place)) ≡ bits_cover l.rows l.upper l.fn.lower
