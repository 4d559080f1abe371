-- What opening a store, and making a book, give.
use Rattle.std.specs.Prelude.{◌≡◌, ◌⊎◌, ℕ, List, [], Bool, true, Option, None, Some}
use Rattle.emu_names.specs.Count.{Rose}
use Rattle.db_config.specs.declared.parts.ConfigParts.{ConfigParts}
use Rattle.live_book.specs.edit_code.Codes.{head_code}
use Rattle.edit_journal.specs.declared.journal.Journal.{Journal}
use Rattle.edit_journal.specs.Held.{Holds, disk_of}
use Rattle.book_opening.specs.declared.fault.OpenFault.{OpenFault}
use Rattle.book_opening.specs.declared.fault.OpenFault.TheVariants.{Disk, Damaged, StoreFull, Memory}
use Rattle.live_book.specs.Histories.{HeadPassesLimit, Stands, IsBare}
use Rattle.live_book.specs.Kept.{faults_in}
use Rattle.live_book.specs.Commits.{has_journal}

-- it has no bodies, and at most the code of this configuration is in doubt
abbrev pub IsEmptyOrLost : {D : Type 0} → (D → List ℕ → Type 0) → ConfigParts → Option (Journal D) → Type 0
IsEmptyOrLost may_leave config None = Unit {0}
IsEmptyOrLost may_leave config (Some journal) =
    Holds may_leave [] None journal ⊎ Holds may_leave [] (Some (head_code config)) journal

-- there is a store, and a configuration would bring it past its limit
abbrev pub IsHeadTooMuch : Bool → ConfigParts → Type 0
IsHeadTooMuch stored config = (stored ≡ true) × HeadPassesLimit config

-- while a book is made a crash leaves the store bare, or with the configuration alone
abbrev pub DuringNew : ConfigParts → List ℕ → Type 0
DuringNew config c = IsBare c ⊎ Stands config [] c

-- each image of a journal's disk, if there is one, is bare or has the configuration alone
abbrev pub LeavesNew : {D : Type 0} → (D → List ℕ → Type 0) → ConfigParts → Option (Journal D) → Type 0
LeavesNew may_leave config None = Unit {0}
LeavesNew may_leave config (Some journal) = (c : List ℕ) → may_leave (disk_of journal) c → DuringNew config c

-- why no book was made, and the journal then
abbrev pub IsNoBookFor : {D : Type 0} → (D → List ℕ → Type 0) → (D → ℕ) → ConfigParts → Option (Journal D)
    → OpenFault → Option (Journal D) → Type 0
IsNoBookFor may_leave faults config old Disk new =
    (has_journal old ≡ true) × (IsHeadTooMuch true config → ⊥) × Rose (faults_in faults old) (faults_in faults new)
    × IsEmptyOrLost may_leave config new × LeavesNew may_leave config new
IsNoBookFor may_leave faults config old (Damaged at) new = ⊥
IsNoBookFor may_leave faults config old StoreFull new =
    IsHeadTooMuch (has_journal old) config × (new ≡ old)
IsNoBookFor may_leave faults config old Memory new = new ≡ old

-- the same where the disk may not have been called: then the store stays bare
abbrev pub DuringNoBook : OpenFault → ConfigParts → List ℕ → Type 0
DuringNoBook Disk config c = DuringNew config c
DuringNoBook fault config c = IsBare c
