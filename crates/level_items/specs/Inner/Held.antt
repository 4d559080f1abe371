-- What a list of labels holds, as the list of its labels.
use Rattle.std.specs.Prelude.{ℕ, List, [], ◌∷◌}
use Rattle.level_items.specs.declared.labels.Held.{Held}
use Rattle.level_items.specs.declared.labels.Held.TheVariants.{None, One, Many}

abbrev pub held_labels : Held → List (List ℕ)
held_labels None = []
held_labels (One label) = label ∷ []
held_labels (Many labels) = labels
