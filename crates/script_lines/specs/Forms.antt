-- Members that the lines of a script have (RFC 8259), each read as what it has to be, or the fault that
-- says at which path which form was wanted.
use Rattle.std.specs.Prelude.{ℕ, List, Option, Some, None, Result, Ok, Err, if◌then◌else◌, nat_le, codes}
use Rattle.json_view.specs.declared.wants.Wanted.TheVariants as wanted
use Rattle.json_view.specs.declared.faults.Shape.{Shape}
use Rattle.json_view.specs.Seen.{Seen}
use Rattle.json_view.specs.Parts.{shape, member_of, optional_of, whole_at}
use Rattle.json_view.specs.Steps.{◌>>=◌}
use Rattle.emu_names.specs.declared.kinds.ItemId.{ItemId}
use Rattle.emu_names.specs.declared.kinds.SessionNo.{SessionNo}
use Rattle.emu_names.specs.declared.limits.TheConstants.{SESSIONS, TOP_ID, TOP_RATE}
use Rattle.emu_names.specs.declared.names.BundleKey.{BundleKey}
use Rattle.level_items.specs.declared.times.Time.{Time}
use Rattle.level_items.specs.declared.times.Time.TheVariants.{NoTime}
use Rattle.config_json.specs.Forms.{or_shape, name_at}
use Rattle.annot_json.specs.Forms.{whole_member}
use Rattle.annot_json.specs.Read.{span_in, point_in}

-- a number that has to be a session's, from 1 on
abbrev pub if_session : Seen → ℕ → Result SessionNo Shape
if_session s n = if nat_le 1 n then Ok (record { 0 = n }) else Err (shape s.path wanted.Session)

-- a session: a whole number from 1 to the last session's
unfoldable pub session_in : Seen → Result SessionNo Shape
session_in s = or_shape (shape s.path wanted.Session) (whole_at SESSIONS s >>= if_session s)

-- the session of a request
unfoldable pub session_at : Seen → Result SessionNo Shape
session_at s = member_of (codes "s") wanted.Session s >>= session_in

-- the names of a bundle's session and of the bundle
unfoldable pub key_at : Seen → Result BundleKey Shape
key_at s = do
  session ← name_at (codes "session") s
  bundle ← name_at (codes "bundle") s
  Ok (record { session = session; bundle = bundle })

-- the id of an item
unfoldable pub id_at : List ℕ → Seen → Result ItemId Shape
id_at name s = do
  id ← whole_member name TOP_ID s
  Ok (record { 0 = id })

-- a position, or none
abbrev pub position_there : Option Seen → Result (Option ℕ) Shape
position_there None = Ok None
position_there (Some m) = whole_at TOP_ID m >>= λ n. Ok (Some n)

-- the position of an item, which may be missing
unfoldable pub position_at : Seen → Result (Option ℕ) Shape
position_at s = optional_of (codes "position") s >>= position_there

-- a number that has to be 1 or more
abbrev pub if_rate : Seen → ℕ → Result ℕ Shape
if_rate s n = if nat_le 1 n then Ok n else Err (shape s.path wanted.Whole)

-- a sample rate: a whole number from 1 to the highest one
unfoldable pub rate_in : Seen → Result ℕ Shape
rate_in s = whole_at TOP_RATE s >>= if_rate s

-- the sample rate of a TextGrid
unfoldable pub rate_at : Seen → Result ℕ Shape
rate_at s = member_of (codes "sampleRate") wanted.Whole s >>= rate_in

-- the time of an item that has no first sample: its point, or none
abbrev pub point_or_none : Seen → Option Seen → Result Time Shape
point_or_none s None = Ok NoTime
point_or_none s (Some m) = point_in s

-- the time of an item by its first sample, where it has one
abbrev pub span_or_point : Seen → Option Seen → Result Time Shape
span_or_point s None = optional_of (codes "samplePoint") s >>= point_or_none s
span_or_point s (Some m) = span_in s

-- the time of an item: a span where `sampleStart` is there, else a point where `samplePoint` is there,
-- else none
unfoldable pub time_at : Seen → Result Time Shape
time_at s = optional_of (codes "sampleStart") s >>= span_or_point s
