-- The law of one reading: of a legal run in order the replies and the history follow from the
-- lines, the history before them and the places where memory ran out.
use Rattle.std.specs.Prelude.{◌≡◌, ℕ, ◌+◌, ◌≤◌, Bool, false, List, [], ◌∷◌, length, map, Option, Some, None}
use Rattle.emu_names.specs.declared.limits.TheConstants.{HISTORY_EDITS}
use Rattle.emu_names.specs.Count.{RoseBy}
use Rattle.db_config.specs.declared.parts.ConfigParts.{ConfigParts}
use Rattle.edit_undo.specs.edit_rules.declared.acts.Entry.{Entry}
use Rattle.session_core.specs.declared.line.Answer.{Answer}
use Rattle.session_core.specs.declared.line.Answer.TheVariants.{Done, Segments, Refused}
use Rattle.session_core.specs.declared.line.Refusal.{Refusal}
use Rattle.session_core.specs.declared.line.Refusal.TheVariants as refusals
use Rattle.session_core.specs.declared.line.Request.{Request}
use Rattle.session_core.specs.declared.line.Request.TheVariants as requests
use Rattle.session_core.specs.declared.line.Line.{Line}
use Rattle.session_core.specs.declared.line.Reply.{Reply}
use Rattle.edit_undo.specs.edit_rules.Effects.{IsLegal}
use Rattle.session_core.specs.Steps.{start}
use Rattle.session_core.specs.Worlds.{Turn}
use Rattle.session_core.specs.Legal.{Legal, lines_in, accepting}
use Rattle.session_core.specs.InOrder.{Outage, fine, at_first, disk_fails, disk_outages, in_turn, ComeInOrder}

-- how many entries stand when a line is done, where n stood before it
abbrev pub standing : ℕ → Turn → ℕ
standing n t = n + length (accepting t.line t.line.request t.reply.n t.reply.answer)

-- a reply's number, where it has one, is the number of entries that stand; a `finish` has that of
-- its look
abbrev pub IsStanding : ℕ → Request → Option ℕ → Type 0
IsStanding n request None = Unit {0}
IsStanding n requests.Finish (Some k) = Unit {0}
IsStanding n (requests.Edit given) (Some k) = k ≡ n
IsStanding n (requests.Undo earlier) (Some k) = k ≡ n
IsStanding n (requests.Query ask) (Some k) = k ≡ n
IsStanding n (requests.Look ask) (Some k) = k ≡ n
IsStanding n (requests.After earlier) (Some k) = k ≡ n

-- one line after another, from n entries on
abbrev pub AreStanding : ℕ → List Turn → Type 0
AreStanding n [] = Unit {0}
AreStanding n (t ∷ ts) = IsStanding (standing n t) t.line.request t.reply.n × AreStanding (standing n t) ts

-- where memory ran out or the disk failed, as the replies tell it
abbrev pub outage_at : Refusal → Outage
outage_at refusals.Memory = at_first
outage_at (refusals.Rule rule place) = fine
outage_at (refusals.Grid fault) = fine
outage_at (refusals.Prepare fault) = fine
outage_at (refusals.Resolve fault) = fine
outage_at refusals.TooManyTuples = fine
outage_at refusals.NoLook = fine
outage_at refusals.LookOpen = fine
outage_at refusals.NotAccepted = fine
outage_at refusals.TooManyEdits = fine
outage_at refusals.NoInverse = fine
outage_at refusals.HistoryFull = fine
outage_at refusals.StoreFull = fine
outage_at refusals.Disk = disk_fails

-- what failed at a line, as its answer tells it
abbrev pub outage_in : Answer → Outage
outage_in (Done command) = fine
outage_in (Segments rows) = fine
outage_in (Refused refusal) = outage_at refusal

-- and as its reply tells it
abbrev pub outage_of : Reply → Outage
outage_of reply = outage_in reply.answer

-- the lines are answered in their order, and each number is that of the moment
pub record IsInOrder (opening : List Entry) (lines : List Line) (turns : List Turn) : Type 0 where
  pub order : lines_in turns ≡ lines
  pub numbers : AreStanding (length opening) turns

-- the replies of a legal run in order, with no store, are those that the definition gives in turn,
-- and the history is the one that it leaves
abbrev pub RepliesFollow : Type 0
RepliesFollow =
    (c : ConfigParts) (opening : List Entry) (lines : List Line)
    (replies : List Reply) (H : List Entry) (before now : ℕ)
    → ComeInOrder [] lines → (run : Legal c opening lines replies H false before now)
    → IsInOrder opening lines run.turns
    → (replies ≡ (in_turn false (start c opening) lines (map outage_of replies)).0)
    × (H ≡ (in_turn false (start c opening) lines (map outage_of replies)).1.entries)

-- two legal runs in order of the same lines, from the same history, in which memory ran out at the
-- same lines, have the same replies and the same history
abbrev pub OneReading : Type 0
OneReading = (c : ConfigParts) (opening : List Entry) (lines : List Line)
    (replies replies' : List Reply) (H H' : List Entry) (before now before' now' : ℕ)
    → ComeInOrder [] lines
    → (run : Legal c opening lines replies H false before now) → IsInOrder opening lines run.turns
    → (run' : Legal c opening lines replies' H' false before' now') → IsInOrder opening lines run'.turns
    → map outage_of replies ≡ map outage_of replies'
    → (replies ≡ replies') × (H ≡ H')

-- the other way round: the replies in turn are themselves those of a legal run in order, with a store and
-- without, whatever the configuration and the lines, and wherever memory runs out or the disk fails, from
-- any legal history that is not too long. So without a store the legal replies in order are exactly these.
abbrev pub InTurnIsInOrder : Type 0
InTurnIsInOrder =
    (c : ConfigParts) (opening : List Entry) (lines : List Line) (outages : List Outage) (store : Bool) (before now : ℕ)
    → IsLegal c opening → length opening ≤ HISTORY_EDITS
    → ComeInOrder [] lines → length outages ≡ length lines → RoseBy (disk_outages store outages) before now
    → (run : Legal c opening lines (in_turn store (start c opening) lines outages).0
    (in_turn store (start c opening) lines outages).1.entries store before now)
    × IsInOrder opening lines run.turns
