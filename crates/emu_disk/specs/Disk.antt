-- What the calls of a disk do to its bytes, and what a crash may leave of them.
use Rattle.std.specs.Prelude.{◌≡◌, ◌⊎◌, ℕ, ◌+◌, ◌-◌, ◌≤◌, max, min, List, ◌++◌, length, take, drop, Option, None, Some}

-- xs with these bytes at a place
abbrev pub put : ℕ → List ℕ → List ℕ → List ℕ
put at bytes xs = take at xs ++ bytes ++ drop (at + length bytes) xs

-- where the bytes are told, what f makes of them
abbrev pub told : (List ℕ → List ℕ) → Option (List ℕ) → Option (List ℕ)
told f None = None
told f (Some xs) = Some (f xs)

-- A read of buffer's length at a place gave n bytes: as many as fit and are there, and these are
-- the buffer's first.
pub record IsRead (xs : List ℕ) (at n : ℕ) (buffer : List ℕ) : Type 0 where
  pub count : n ≡ min (length buffer) (length xs - at)
  pub bytes : take n buffer ≡ take n (drop at xs)

-- where the bytes are told, a read at a place gave n of them
abbrev pub IsReadOf : Option (List ℕ) → ℕ → ℕ → List ℕ → Type 0
IsReadOf reads at n buffer = (xs : List ℕ) → reads ≡ Some xs → IsRead xs at n buffer

-- where the bytes are told, a place is among them or at their end
abbrev pub HasPlace : Option (List ℕ) → ℕ → Type 0
HasPlace reads at = (xs : List ℕ) → reads ≡ Some xs → at ≤ length xs

-- A write of n bytes at a place, done or not, until the next sync: any bytes in its range and past
-- the old end, the same elsewhere, and a length between the old and the new.
pub record Torn (at n : ℕ) (old new : List ℕ) : Type 0 where
  pub before : take (min at (length old)) new ≡ take at old
  pub after : drop (at + n) new ≡ drop (at + n) old
  pub no_shorter : length old ≤ length new
  pub no_longer : length new ≤ max (length old) (at + n)

-- such a write of these bytes
abbrev pub TornBy : ℕ → List ℕ → List ℕ → List ℕ → Type 0
TornBy at bytes old new = Torn at (length bytes) old new

-- a cut to n bytes that was done, until the next sync: some length between the old and the new
pub record Shorter (n : ℕ) (old new : List ℕ) : Type 0 where
  pub no_shorter : min n (length old) ≤ length new
  pub front : new ≡ take (length new) old

-- a cut to n bytes that failed: such a length, and any bytes behind the first n
pub record Scrambled (n : ℕ) (old new : List ℕ) : Type 0 where
  pub no_shorter : min n (length old) ≤ length new
  pub no_longer : length new ≤ length old
  pub front : take n new ≡ take n old

-- where the bytes are told, such a step makes others of them, which are told too
abbrev pub Becomes : (List ℕ → List ℕ → Type 0) → Option (List ℕ) → Option (List ℕ) → Type 0
Becomes step old new = (xs : List ℕ) → old ≡ Some xs → (ys : List ℕ) × (new ≡ Some ys) × step xs ys

-- each image now is one of before after such a step
abbrev pub Follows : (List ℕ → List ℕ → Type 0) → (List ℕ → Type 0) → (List ℕ → Type 0) → Type 0
Follows step old new = (c : List ℕ) → new c → (d : List ℕ) × old d × step d c

-- no image is new
abbrev pub Within : (List ℕ → Type 0) → (List ℕ → Type 0) → Type 0
Within old new = (c : List ℕ) → new c → old c

-- a crash leaves what a read gives
abbrev pub Only : Option (List ℕ) → (List ℕ → Type 0) → Type 0
Only reads may_leave = (c : List ℕ) → may_leave c → reads ≡ Some c

-- Time goes on: a crash since t might have left what it might have left before, or what it may
-- leave now.
pub record Elapses (before now : ℕ) (past since : ℕ → List ℕ → Type 0)
    (may_leave : List ℕ → Type 0) : Type 0 where
  pub later : before ≤ now
  pub nothing_else : (t : ℕ) (c : List ℕ) → t ≤ before → since t c → past t c ⊎ may_leave c
  pub keeps : (t : ℕ) (c : List ℕ) → t ≤ before → past t c → since t c

-- time goes on from one state of a disk to the next
abbrev pub GoesOn : {D : Type 0} → (D → ℕ) → (D → ℕ → List ℕ → Type 0)
    → (D → List ℕ → Type 0) → D → D → Type 0
GoesOn moment left_since may_leave old new =
    Elapses (moment old) (moment new) (left_since old) (left_since new) (may_leave new)

-- a crash at any moment since old leaves bytes that have P
pub record LeavesOnly {D : Type 0} (moment : D → ℕ) (left_since : D → ℕ → List ℕ → Type 0)
    (old new : D) (P : List ℕ → Type 0) : Type 0 where
  pub later : moment old ≤ moment new
  pub each : (c : List ℕ) → left_since new (moment old) c → P c
  -- for a run that began earlier
  pub before : (t : ℕ) (c : List ℕ) → t ≤ moment old → left_since new t c → left_since old t c ⊎ P c
