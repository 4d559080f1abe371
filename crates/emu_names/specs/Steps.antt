-- Steps in order, of which the first that fails is the answer.
use Rattle.std.specs.Prelude.{Result, Ok, Err}

-- what follows from a value, or the fault that came before
abbrev pub onward : {A B E : Type 0} → Result A E → (A → Result B E) → Result B E
onward (Ok value) next = next value
onward (Err fault) next = Err fault
