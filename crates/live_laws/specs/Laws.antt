-- The laws of lanes.
use Rattle.std.specs.Prelude.{◌≡◌, ℕ, ◌<◌, ◌≤◌, Bool, List, [], ◌∷◌, ◌++◌, length, replicate, Option, None}
use mathlib.Core.List.{IsPrefix}
use Rattle.emu_names.specs.declared.limits.TheConstants.{HISTORY_EDITS}
use Rattle.emu_names.specs.Count.{RoseBy}
use Rattle.db_config.specs.declared.parts.ConfigParts.{ConfigParts}
use Rattle.edit_rules.specs.declared.acts.Entry.{Entry}
use Rattle.edit_rules.specs.Effects.{IsLegal}
use Rattle.session_core.specs.declared.line.Line.{Line}
use Rattle.session_core.specs.InOrder.{ComeInOrder}
use Rattle.session_core.specs.Legal.{Legal, accepted, disk_replies, replies_in}
use Rattle.session_core.specs.Steps.{Opened, session_places}
use Rattle.session_core.specs.Worlds.{Each}
use Rattle.live_laws.specs.Lanes.{Agrees, AreLanes, HasKept, IsLane, IsStep, Step, accepts, all_steps, all_turns, grouped, turns_of}

-- a lane begins with no line answered and no look open
abbrev pub LanesBegin : Type 0
LanesBegin = (c : ConfigParts) (m : ℕ) (store : Bool) (H : List Entry) → m ≤ length H
    → IsLane c m store H (replicate session_places None) []

-- beside a longer history a lane keeps what it kept
abbrev pub LanesSeeMore : Type 0
LanesSeeMore = (c : ConfigParts) (m : ℕ) (store : Bool) (old H : List Entry) (looks : List (Option Opened))
    (steps : List Step) → IsLane c m store old looks steps → IsPrefix old H → IsLane c m store H looks steps

-- a lane answers one line more
abbrev pub LanesTakeSteps : Type 0
LanesTakeSteps = (c : ConfigParts) (m : ℕ) (store : Bool) (old H : List Entry) (looks new : List (Option Opened))
    (steps : List Step) (l : Line) (st : Step) → IsLane c m store old looks steps
    → IsStep c m store old H looks new (accepted (turns_of steps)) l st → IsLane c m store H new (steps ++ st ∷ [])

-- Lanes that have ended make a legal run: each of them kept what a lane keeps, beside a beginning of the book's
-- history; each line was answered in the lane of its session; what was noted for a line was heard; as many edits were
-- accepted as entries came; and the disk's count rose once or more for each of its refusals
abbrev pub LanesAreLegal : Type 0
LanesAreLegal = (c : ConfigParts) (opening more : List Entry) (lines : List Line) (lane_of : ℕ → ℕ)
    (ran : List (List Step)) (value : ℕ → ℕ) (store : Bool) (before now : ℕ)
    → IsLegal c (opening ++ more) → length (opening ++ more) ≤ HISTORY_EDITS → ComeInOrder [] lines
    → ((s : ℕ) → lane_of s < length ran) → AreLanes lane_of lines 0 ran
    → Each (HasKept c (length opening) store (opening ++ more)) ran
    → Each (Agrees value) (all_steps ran)
    → accepts (all_turns ran) ≡ length more
    → RoseBy (disk_replies (replies_in (all_turns ran))) before now
    → Legal c opening lines (replies_in (grouped (all_turns ran))) (opening ++ more) store before now
