-- What a journal holds: a list of bodies, and perhaps one more that a crash may bring back.
use Rattle.std.specs.Prelude.{◌≡◌, ◌≢◌, ℕ, ◌+◌, ◌≤◌, List, [], ◌∷◌, ◌++◌, length, Option, None, Some}
use Rattle.std.specs.Int.{w32, to_be_bytes}
use Rattle.emu_disk.specs.Disk.{LeavesOnly}
use Rattle.edit_journal.specs.declared.body.Body.{Body}
use Rattle.edit_journal.specs.declared.journal.Journal.{Journal}
use Rattle.edit_journal.specs.declared.journal.Gate.{Gate}
use Rattle.edit_journal.specs.declared.journal.Gate.TheVariants.{Missing, Closed, InDoubt}
use Rattle.edit_journal.specs.Store.{limit, start, IsSized, AreSized}

-- the disk that a journal owns
abbrev pub disk_of : {D : Type 0} → Journal D → D
disk_of journal = journal.disk

-- the texts of bodies, without their places
abbrev pub texts_of : List Body → List (List ℕ)
texts_of [] = []
texts_of (body ∷ more) = body.bytes ∷ texts_of more

-- What stands at the end of the list: a closed gate; or, where a body is in doubt, a gate of any
-- byte, the body, and a closed gate behind it.
abbrev pub AtGate : Option (List ℕ) → ℕ → List ℕ → Type 0
AtGate None gate rest = gate ≢ 1
AtGate (Some body) gate rest =
    (shut : ℕ) × (more : List ℕ) × (shut ≢ 1)
    × (rest ≡ to_be_bytes w32 (length body) ++ body ++ shut ∷ more)

-- bytes of a store with these bodies, and perhaps one in doubt
pub record Stands (texts : List (List ℕ)) (lost : Option (List ℕ)) (c : List ℕ) : Type 0 where
  pub gate : ℕ
  pub rest : List ℕ
  pub split : c ≡ start texts ++ gate ∷ rest
  pub at_gate : AtGate lost gate rest
  pub fits : length c ≤ limit

-- where the store has no gate yet, its bytes are too few for a body
abbrev pub IsHeldBy : Gate → List (List ℕ) → Option (List ℕ) → List ℕ → Type 0
IsHeldBy Missing texts lost c = length c ≤ 9
IsHeldBy Closed texts lost c = Stands texts None c
IsHeldBy InDoubt texts lost c = Stands texts lost c

-- the gate is in doubt exactly where there is a body in doubt, and is missing only where there is
-- no body
abbrev pub FitsGate : Gate → List (List ℕ) → Option (List ℕ) → Type 0
FitsGate Missing texts lost = (texts ≡ []) × (lost ≡ None)
FitsGate Closed texts lost = lost ≡ None
FitsGate InDoubt texts lost = (body : List ℕ) × (lost ≡ Some body) × IsSized body

-- A journal holds these bodies, and perhaps one in doubt. Its end is the place of the last gate,
-- and each image of its disk is such a store.
pub record Holds {D : Type 0} (may_leave : D → List ℕ → Type 0) (texts : List (List ℕ))
    (lost : Option (List ℕ)) (journal : Journal D) : Type 0 where
  pub sized : AreSized texts
  pub end : journal.end ≡ length (start texts)
  pub small : journal.end ≤ limit
  pub by_gate : FitsGate journal.gate texts lost
  pub images : (c : List ℕ) → may_leave journal.disk c → IsHeldBy journal.gate texts lost c

-- a crash at any moment since a journal was the old one leaves bytes that have P
abbrev pub LeavesIn : {D : Type 0} → (D → ℕ) → (D → ℕ → List ℕ → Type 0) → Journal D → Journal D
    → (List ℕ → Type 0) → Type 0
LeavesIn moment left_since old new P = LeavesOnly moment left_since (disk_of old) (disk_of new) P

-- a count of the disk that a journal owns
abbrev pub count_in : {D : Type 0} → (D → ℕ) → Journal D → ℕ
count_in count journal = count (disk_of journal)

-- where a disk tells what a read gives, it is these bytes
abbrev pub Tells : Option (List ℕ) → List ℕ → Type 0
Tells None bytes = Unit {0}
Tells (Some xs) bytes = bytes ≡ xs
