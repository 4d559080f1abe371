-- Words of contracts and loops beside `specs/Held.antt`; no promise of the program rests on them.
use Rattle.std.specs.Prelude.{◌≡◌, ◌⊎◌, ℕ, ◌+◌, ◌<◌, List, [], ◌∷◌, ◌++◌, length, Bool, Option, None, Some, Result}
use Rattle.edit_journal.specs.declared.body.Body.{Body}
use Rattle.edit_journal.specs.declared.journal.Journal.{Journal}
use Rattle.edit_journal.specs.Store.{limit, start, bodies, IsSized, StandsFor}
use Rattle.edit_journal.specs.Held.{disk_of, Stands, Holds, Tells}

-- the place of a journal's last gate
abbrev pub end_of : {D : Type 0} → Journal D → ℕ
end_of journal = journal.end

-- whatever bodies a journal holds, and perhaps one in doubt, P is said of them
abbrev pub ForHeld : {D : Type 0} → (D → List ℕ → Type 0) → Journal D
    → (List (List ℕ) → Option (List ℕ) → Type 0) → Type 0
ForHeld may_leave journal P =
    (texts : List (List ℕ)) (lost : Option (List ℕ))
    → Holds may_leave texts lost journal → P texts lost

-- the same, where nothing is in doubt
abbrev pub ForSettled : {D : Type 0} → (D → List ℕ → Type 0) → Journal D
    → (List (List ℕ) → Type 0) → Type 0
ForSettled may_leave journal P =
    (texts : List (List ℕ)) → Holds may_leave texts None journal → P texts

-- each image of a journal's disk has P
abbrev pub EachImage : {D : Type 0} → (D → List ℕ → Type 0) → Journal D → (List ℕ → Type 0)
    → Type 0
EachImage may_leave journal P = (c : List ℕ) → may_leave (disk_of journal) c → P c

-- with one body more the store would pass its limit
abbrev pub PassesLimit : List (List ℕ) → List ℕ → Type 0
PassesLimit texts body = limit < length (start texts) + 6 + length body

-- the last append answered that the disk failed
abbrev pub has_failed : {D : Type 0} → Journal D → Bool
has_failed journal = journal.failed

-- it holds these bodies, and behind the gate stands one more
pub record IsStagedIn {D : Type 0} (may_leave : D → List ℕ → Type 0) (texts : List (List ℕ))
    (body : List ℕ) (journal : Journal D) : Type 0 where
  pub sized : IsSized body
  pub holds : Holds may_leave texts None journal
  pub staged : (c : List ℕ) → may_leave journal.disk c → Stands texts (Some body) c

-- whatever bodies a journal holds with this one behind the gate, P is said of them
abbrev pub ForStaged : {D : Type 0} → (D → List ℕ → Type 0) → List ℕ → Journal D
    → (List (List ℕ) → Type 0) → Type 0
ForStaged may_leave body journal P =
    (texts : List (List ℕ)) → IsStagedIn may_leave texts body journal → P texts

-- it holds some list
abbrev pub IsHeld : {D : Type 0} → (D → List ℕ → Type 0) → Journal D → Type 0
IsHeld may_leave journal =
    ∥ ((texts : List (List ℕ)) × (lost : Option (List ℕ)) × Holds may_leave texts lost journal) ∥₁

-- a crash leaves these bodies, or also the one in doubt
abbrev pub MayHave : List (List ℕ) → Option (List ℕ) → List ℕ → Type 0
MayHave texts None c = StandsFor texts c
MayHave texts (Some body) c = StandsFor texts c ⊎ StandsFor (texts ++ body ∷ []) c

-- while a body is appended a crash leaves the bodies from before, or also the one in doubt in the
-- new one's place, or these and the new one
abbrev pub DuringAppend : List (List ℕ) → Option (List ℕ) → List ℕ → List ℕ → Type 0
DuringAppend texts lost body c = MayHave texts lost c ⊎ StandsFor (texts ++ body ∷ []) c

-- A failed append leaves the list as it was. In doubt may be what was in doubt before, or the body
-- that failed.
pub record IsAsBefore {D : Type 0} (may_leave : D → List ℕ → Type 0) (texts : List (List ℕ))
    (lost : Option (List ℕ)) (body : List ℕ) (journal : Journal D) : Type 0 where
  pub left : Option (List ℕ)
  pub holds : Holds may_leave texts left journal
  pub which : (left ≡ None) ⊎ (left ≡ lost) ⊎ (left ≡ Some body)

-- the bytes of a disk stand for these bodies, or are damaged at that place
abbrev pub Reads : Option (List ℕ) → Result (List Body) ℕ → Type 0
Reads reads result = (bytes : List ℕ) × Tells reads bytes × (bodies bytes ≡ result)
