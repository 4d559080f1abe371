-- Words of contracts and loops beside `specs/Texts.antt`; no promise of the program rests on them.
use Rattle.std.specs.Prelude.{codes}
use Rattle.serde_json.specs.Data.{Members, put}
use Rattle.level_items.specs.declared.times.Time.{Time}
use Rattle.level_items.specs.declared.times.Time.TheVariants.{NoTime, Span, Point}
use Rattle.annot_json.specs.Texts.{whole}

-- the members with those of a time
abbrev pub with_time : Time → Members → Members
with_time NoTime ms = ms
with_time (Span start dur) ms =
    put (codes "sampleDur") (whole dur) (put (codes "sampleStart") (whole start) ms)
with_time (Point at) ms = put (codes "samplePoint") (whole at) ms
