-- The law of runs in order: the replies to lines that are answered one after another are legal.
use Rattle.std.specs.Prelude.{◌≡◌, ℕ, ◌≤◌, Bool, List, [], length}
use Rattle.emu_names.specs.declared.limits.TheConstants.{HISTORY_EDITS}
use Rattle.emu_names.specs.Count.{RoseBy}
use Rattle.db_config.specs.declared.parts.ConfigParts.{ConfigParts}
use Rattle.edit_undo.specs.edit_rules.declared.acts.Entry.{Entry}
use Rattle.session_core.specs.declared.line.Line.{Line}
use Rattle.edit_undo.specs.edit_rules.Effects.{IsLegal}
use Rattle.session_core.specs.Steps.{start}
use Rattle.session_core.specs.Legal.{Legal}
use Rattle.session_core.specs.InOrder.{Outage, disk_outages, in_turn, ComeInOrder}

-- Whatever the configuration and the lines, with a store and without, and wherever memory runs out or the disk
-- fails: the replies in turn are legal beside the history that they leave, which begins with any legal history
-- of at most 100,000 entries.
abbrev pub InOrderIsLegal : Type 0
InOrderIsLegal =
    (c : ConfigParts) (opening : List Entry) (lines : List Line) (outages : List Outage) (store : Bool) (before now : ℕ)
    → IsLegal c opening → length opening ≤ HISTORY_EDITS
    → ComeInOrder [] lines → length outages ≡ length lines → RoseBy (disk_outages store outages) before now
    → Legal c opening lines (in_turn store (start c opening) lines outages).0
    (in_turn store (start c opening) lines outages).1.entries store before now
