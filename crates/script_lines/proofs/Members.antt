-- The member of a session that was read by its name alone, and what it is then read as.
use Rattle.std.proofs.Common.{◌≡◌, ◌≤◌, ◌<◌, ℕ, refl, arith, suc, zero}
use Rattle.std.specs.Prelude.{Ok, Err, codes, nat_le, true, false}
use Rattle.json_view.specs.declared.wants.Wanted.TheVariants as wanted
use Rattle.json_view.specs.declared.faults.Shape.{Shape}
use Rattle.json_view.specs.Parts.{shape, whole_at}
use Rattle.json_view.specs.Inner.Parts.{whole_member_as}
use Rattle.json_view.specs.Paths.{member_path}
use Rattle.json_view.specs.Seen.{Seen}
use Rattle.json_view.proofs.Members.{whole_was_read, no_whole_was_read}
use Rattle.emu_names.specs.declared.limits.TheConstants.{SESSIONS}
use Rattle.script_lines.specs.Forms.{session_at, session_in}

-- a number that is a session's
pub session_there : (n : ℕ) (s : Seen) → whole_member_as wanted.Session (codes "s") SESSIONS s ≡ Ok n → 1 ≤ n
    → session_at s ≡ Ok (record { 0 = n })
unfolding session_at session_in whole_at
session_there n s here least =
    let good : nat_le 1 n ≡ true = search (arith, least) in
    whole_was_read wanted.Session (codes "s") SESSIONS n s session_in _ here λ d is. rw (is, good) refl

-- a number that is too low for a session
pub session_low : (n : ℕ) (s : Seen) → whole_member_as wanted.Session (codes "s") SESSIONS s ≡ Ok n → n < 1
    → session_at s ≡ Err (shape (member_path s.path (codes "s")) wanted.Session)
unfolding session_at session_in whole_at
session_low n s here low =
    let bad : nat_le 1 n ≡ false = search (arith, low) in
    whole_was_read wanted.Session (codes "s") SESSIONS n s session_in _ here λ d is. rw (is, bad) refl

-- no whole number, or one that is too high
pub session_none : (e : Shape) (s : Seen) → whole_member_as wanted.Session (codes "s") SESSIONS s ≡ Err e
    → session_at s ≡ Err e
unfolding session_at session_in whole_at
session_none e s none =
    no_whole_was_read wanted.Session (codes "s") SESSIONS e s session_in none λ d is. rw is refl

pub ruleset sessions_read = (session_there, session_low, session_none)
