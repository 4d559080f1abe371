-- The marks of the entries that came in a run.
use Rattle.std.specs.Prelude.{ℕ, ◌+◌, List, [], ◌∷◌}
use Rattle.edit_undo.specs.edit_rules.declared.acts.Entry.{Entry}
use Rattle.live_seats.specs.declared.marks.Mark.{Mark}

-- a mark of each entry, the first of which has this place in the history, counted from 1
abbrev pub marks_from : ℕ → List Entry → List Mark
marks_from at [] = []
marks_from at (e ∷ es) = record { at = at; line = e.line; session = e.session } ∷ marks_from (at + 1) es
