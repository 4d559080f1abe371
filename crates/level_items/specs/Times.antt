-- When items are, in samples (EMU-SDMS Manual, "The emuDB format": sampleStart and sampleDur of a
-- segment, samplePoint of an event).
use Rattle.std.specs.Prelude.{ℕ, ◌+◌, Bool, true, false, nat_lt}
use Rattle.emu_names.specs.declared.limits.TheConstants.{SAMPLES}
use Rattle.emu_names.specs.declared.kinds.LevelKind.{LevelKind}
use Rattle.emu_names.specs.declared.kinds.LevelKind.TheVariants as kinds
use Rattle.level_items.specs.declared.times.Time.{Time}
use Rattle.level_items.specs.declared.times.Time.TheVariants.{NoTime, Span, Point}

-- the first sample of a time, 0 where there is none
abbrev pub first_sample : Time → ℕ
first_sample NoTime = 0
first_sample (Span start dur) = start
first_sample (Point at) = at

-- a segment of duration 0 has one sample
abbrev pub last_sample : Time → ℕ
last_sample NoTime = 0
last_sample (Span start dur) = start + dur
last_sample (Point at) = at

-- samples are below 2^40
abbrev pub ends_in_time : Time → Bool
ends_in_time time = nat_lt (last_sample time) SAMPLES

-- an item of an ITEM level has no time, one of a SEGMENT level a span, one of an EVENT level a point
abbrev pub fits_kind : LevelKind → Time → Bool
fits_kind kinds.Item NoTime = true
fits_kind kinds.Item (Span start dur) = false
fits_kind kinds.Item (Point at) = false
fits_kind kinds.Segment (Span start dur) = true
fits_kind kinds.Segment NoTime = false
fits_kind kinds.Segment (Point at) = false
fits_kind kinds.Event (Point at) = true
fits_kind kinds.Event NoTime = false
fits_kind kinds.Event (Span start dur) = false

-- the one is over before the other begins
abbrev pub is_before : Time → Time → Bool
is_before earlier later = nat_lt (last_sample earlier) (first_sample later)

-- the one begins before the other
abbrev pub starts_before : Time → Time → Bool
starts_before earlier later = nat_lt (first_sample earlier) (first_sample later)
