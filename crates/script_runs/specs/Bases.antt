-- What a run begins with: no store, a bare store, or a store with a history; and what it then leaves there.
use Rattle.std.specs.Prelude.{◌⊎◌, ◌≤◌, ℕ, Bool, true, false, List, [], ◌∷◌, length, take, Option, Some, None}
use Rattle.db_config.specs.declared.parts.ConfigParts.{ConfigParts}
use Rattle.live_run.specs.edit_rules.declared.acts.Entry.{Entry}
use Rattle.live_run.specs.session_core.declared.line.Line.{Line}
use Rattle.live_run.specs.session_core.InOrder.{Outage, one_turn}
use Rattle.live_run.specs.session_core.Steps.{State, start}
use Rattle.session_run.specs.Orders.{IsDiskRefused}
use Rattle.live_run.specs.live_book.Histories.{OfRead, Stands, IsBare}
use Rattle.live_run.specs.live_book.Kept.{StandsOrLost}

-- what a run begins with: no store; a store without a configuration; a store that stands for a configuration
-- and a history
pub data Base : Type 0 where
  no_store : Base
  bare_store : Base
  store_of : ConfigParts → List Entry → Base

-- the script has to give the configuration, in its first line
abbrev pub wants_by : Base → Bool
wants_by no_store = true
wants_by bare_store = true
wants_by (store_of config history) = false

-- there is a store
abbrev pub is_stored : Base → Bool
is_stored no_store = false
is_stored bare_store = true
is_stored (store_of config history) = true

-- the history before the run
abbrev pub opening_by : Base → List Entry
opening_by no_store = []
opening_by bare_store = []
opening_by (store_of config history) = history

-- the configuration of a run: the store's, or else the one that the script gives
abbrev pub config_by : Base → Option ConfigParts → Option ConfigParts
config_by no_store given = given
config_by bare_store given = given
config_by (store_of config history) given = Some config

-- a count of the disk, which is 0 where there is no store
abbrev pub counted : Base → ℕ → ℕ
counted no_store count = 0
counted bare_store count = count
counted (store_of config history) count = count

-- a call with or without a store begins with this, where the bytes of its disk are told, or else may be any
abbrev pub IsBaseOf : Bool → Option (List ℕ) → Base → Type 0
IsBaseOf false reads no_store = Unit {0}
IsBaseOf true reads bare_store = OfRead reads IsBare
IsBaseOf true reads (store_of config history) = OfRead reads (Stands config history)
IsBaseOf store reads base = ⊥

-- What a run leaves in its store. An image is what a crash may leave there.

-- each image has P
abbrev pub EachOf : (List ℕ → Type 0) → (List ℕ → Type 0) → Type 0
EachOf images P = (c : List ℕ) → images c → P c

-- in a run of these lines from a state, with or without a store, the disk refused the change that one of them wants over
-- the state that it finds, which would have been this entry; each line has its place among the outages
abbrev pub WasRefused : Bool → State → List Line → List Outage → Entry → Type 0
WasRefused store st (l ∷ lines) (outage ∷ outages) next =
    IsDiskRefused st l (one_turn store st l outage).0 next
    ⊎ WasRefused store (one_turn store st l outage).1 lines outages next
WasRefused store st _ _ next = ⊥

-- the same where there is such an entry
abbrev pub IfRefused : Bool → State → List Line → List Outage → Option Entry → Type 0
IfRefused store st lines outages None = Unit {0}
IfRefused store st lines outages (Some next) = WasRefused store st lines outages next

-- Each image stands for the configuration and the history, or also for these with one entry more, which is the
-- change of a line that the disk refused, in a run over a store with the history before it
pub record LeavesHistory (config : ConfigParts) (opening : List Entry) (lines : List Line) (outages : List Outage)
    (history : List Entry) (images : List ℕ → Type 0) : Type 0 where
  pub lost : Option Entry
  pub why : IfRefused true (start config opening) lines outages lost
  pub each : EachOf images (StandsOrLost config history lost)

-- what the store of a run holds: without a configuration it is bare
abbrev pub LeavesStore : Bool → Option ConfigParts → List Entry → List Line → List Outage → List Entry
    → (List ℕ → Type 0) → Type 0
LeavesStore false config opening lines outages history images = Unit {0}
LeavesStore true None opening lines outages history images = EachOf images IsBare
LeavesStore true (Some config) opening lines outages history images =
    LeavesHistory config opening lines outages history images

-- Every moment of a run.

-- An image stands for the configuration and a prefix of the history that a run leaves, no shorter than the one before
-- it; or for these with one entry more, which is the change of a line that the disk refused
pub record IsOfRun (store : Bool) (config : ConfigParts) (opening : List Entry) (lines : List Line)
    (outages : List Outage) (history : List Entry) (c : List ℕ) : Type 0 where
  pub count : ℕ
  pub from : length opening ≤ count
  pub to : count ≤ length history
  pub lost : Option Entry
  pub why : IfRefused store (start config opening) lines outages lost
  pub stands : StandsOrLost config (take count history) lost c

-- the same where the run has a configuration
abbrev pub IsOfRunIn : Bool → Option ConfigParts → List Entry → List Line → List Outage → List Entry → List ℕ → Type 0
IsOfRunIn store None opening lines outages history c = ⊥
IsOfRunIn store (Some config) opening lines outages history c = IsOfRun store config opening lines outages history c

-- an image is bare, and so was the store before the run
abbrev pub IsStillBare : Base → List ℕ → Type 0
IsStillBare bare_store c = IsBare c
IsStillBare base c = ⊥

-- what an image may be that a crash at some moment of a run leaves: it was possible before the run; or it is bare, as
-- the store was; or it is of the run
abbrev pub AtMoment : (List ℕ → Type 0) → Base → Option ConfigParts → List Line → List Outage → List Entry → List ℕ
    → Type 0
AtMoment before base config lines outages history c =
    before c ⊎ (IsStillBare base c ⊎ IsOfRunIn (is_stored base) config (opening_by base) lines outages history c)

-- each image of some moment has P, where there is a store
abbrev pub AtEach : Bool → (List ℕ → Type 0) → (List ℕ → Type 0) → Type 0
AtEach false since P = Unit {0}
AtEach true since P = EachOf since P
