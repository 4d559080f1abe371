-- Words of contracts and loops beside `specs/Spans.antt`; no promise of the program rests on them.
use Rattle.std.specs.Prelude.{Bool, List, length, map}
use Rattle.std.specs.List.{filter, range_with_len}
use Rattle.db_config.specs.declared.parts.AttributePlace.{AttributePlace}
use Rattle.eql_rows.specs.declared.span.Span.{Span}
use Rattle.eql_rows.specs.Inner.Flags.{flag_at}
use Rattle.eql_tuples.specs.Shown.{bare}
use Rattle.eql_rows.specs.Spans.{span_at}

-- the items of which a row has the bit, each as a stretch of its own
abbrev pub row_spans : AttributePlace → List Bool → List Span
row_spans place row =
    map (λ k. span_at place (bare k k)) (filter (λ k. flag_at k row) (range_with_len 0 (length row)))
