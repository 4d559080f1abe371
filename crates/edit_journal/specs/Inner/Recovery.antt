-- What recovery finds in a store.
use Rattle.std.specs.Prelude.{◌≡◌, ◌≢◌, ℕ, suc, ◌≤◌, List, ◌∷◌, ◌++◌, length, Option, None, Result, Ok, Err, IsErrOf}
use Rattle.edit_journal.specs.declared.body.Body.{Body}
use Rattle.edit_journal.specs.declared.fault.JournalFault.{JournalFault}
use Rattle.edit_journal.specs.declared.fault.JournalFault.TheVariants.{Damaged as DamagedAt}
use Rattle.edit_journal.specs.declared.recovery.Found.{Found}
use Rattle.edit_journal.specs.declared.next.Next.{Next}
use Rattle.edit_journal.specs.declared.next.Next.TheVariants.{Closed, Damaged, Open}
use Rattle.edit_journal.specs.Store.{limit, walk, bodies, frame, start, placed, IsSized, AreSized}
use Rattle.edit_journal.specs.Held.{texts_of, FitsGate, IsHeldBy, Tells}

-- where a call answers damage, P is said of its place
abbrev pub ForDamage : {T : Type 0} → Result T JournalFault → (ℕ → Type 0) → Type 0
ForDamage result P = (at : ℕ) → IsErrOf result (DamagedAt at) → P at

-- what stands at a gate's place: a closed gate; damage; or a body, and what is behind it
abbrev pub Stood : List ℕ → Next → Type 0
Stood rest Closed = (gate : ℕ) × (more : List ℕ) × (gate ≢ 1) × (rest ≡ gate ∷ more)
Stood rest Damaged = (steps at : ℕ) → walk (suc steps) at rest ≡ Err at
Stood rest (Open body behind) = (rest ≡ frame body.now ++ behind.now) × IsSized body.now

-- the bodies that were found are those of the front of the store, up to a place
pub record IsFront (bytes rest : List ℕ) (found : List Body) (at : ℕ) : Type 0 where
  pub cut : bytes ≡ start (texts_of found) ++ rest
  pub places : found ≡ placed 8 (texts_of found)
  pub place : at ≡ length (start (texts_of found))
  pub sized : AreSized (texts_of found)

-- the bodies of a store, and what stands behind them
pub record IsFound (bytes : List ℕ) (found : Found) : Type 0 where
  pub read : bodies bytes ≡ Ok found.bodies
  pub places : found.bodies ≡ placed 8 (texts_of found.bodies)
  pub sized : AreSized (texts_of found.bodies)
  pub end : found.end ≡ length (start (texts_of found.bodies))
  pub small : found.end ≤ limit
  pub by_gate : FitsGate found.gate (texts_of found.bodies) None
  pub stands : IsHeldBy found.gate (texts_of found.bodies) None bytes

-- they are those of the bytes that a disk gives, and each image is these bytes
pub record IsFoundOn (reads : Option (List ℕ)) (may_leave : List ℕ → Type 0)
    (found : Found) : Type 0 where
  pub bytes : List ℕ
  pub told : Tells reads bytes
  pub found_in : IsFound bytes found
  pub only : (c : List ℕ) → may_leave c → c ≡ bytes
