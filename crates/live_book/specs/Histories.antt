-- Histories, and the stores that stand for them.
use Rattle.std.specs.Prelude.{◌≡◌, ◌⊎◌, ℕ, ◌+◌, ◌≤◌, ◌<◌, ◌^◌, min, List, [], ◌∷◌, ◌++◌, length, map, Option, Ok, Err}
use Rattle.emu_names.specs.declared.limits.TheConstants.{HISTORY_EDITS}
use Rattle.db_config.specs.declared.parts.ConfigParts.{ConfigParts}
use Rattle.version_steps.specs.edit_rules.declared.acts.Breach.{Breach}
use Rattle.version_steps.specs.edit_rules.declared.acts.Entry.{Entry}
use Rattle.version_steps.specs.edit_rules.Effects.{IsLegal, edited}
use Rattle.edit_code.specs.Codes.{entry_code, head_code, IsEntryCode, IsHeadCode}
use Rattle.edit_journal.specs.declared.body.Body.{Body}
use Rattle.edit_journal.specs.Store.{limit, bodies, start, StandsFor}
use Rattle.edit_journal.specs.Held.{texts_of, Tells}

-- a history of a configuration: at most 100,000 entries, none of which breaks a rule
pub record IsHistory (config : ConfigParts) (history : List Entry) : Type 0 where
  pub legal : IsLegal config history
  pub few : length history ≤ HISTORY_EDITS

-- the codes of a configuration and of the entries of a history, in order
abbrev pub codes_of : ConfigParts → List Entry → List (List ℕ)
codes_of config history = head_code config ∷ map entry_code history

-- an entry has a code, which is its own
abbrev pub IsCoded : Entry → Type 0
IsCoded entry = IsEntryCode (entry_code entry) entry

-- each of these entries has
abbrev pub AreCoded : List Entry → Type 0
AreCoded [] = Unit {0}
AreCoded (entry ∷ entries) = IsCoded entry × AreCoded entries

-- what can be stored: a valid configuration and a history of it, all with codes
pub record IsStorable (config : ConfigParts) (history : List Entry) : Type 0 where
  pub head : IsHeadCode (head_code config) config
  pub coded : AreCoded history
  pub is_history : IsHistory config history

-- The bytes of a store stand for a configuration and a history: their bodies are the codes of these, in
-- order
pub record Stands (config : ConfigParts) (history : List Entry) (c : List ℕ) : Type 0 where
  pub storable : IsStorable config history
  pub stands : StandsFor (codes_of config history) c

-- the bytes of a store without a configuration: there is no body
abbrev pub IsBare : List ℕ → Type 0
IsBare c = StandsFor [] c

-- the place of the last gate of a store of a configuration and a history, in bytes from 0
abbrev pub size : ConfigParts → List Entry → ℕ
size config history = length (start (codes_of config history))

-- the length of an entry's code, which is 2^32 where it is longer or there is none
abbrev pub entry_size : Entry → ℕ
entry_size entry = min (2 ^ 32) (length (entry_code entry))

-- the same for a configuration
abbrev pub head_size : ConfigParts → ℕ
head_size config = min (2 ^ 32) (length (head_code config))

-- with one entry more the store would pass its limit
abbrev pub PassesLimit : ConfigParts → List Entry → Entry → Type 0
PassesLimit config history entry = limit < size config history + 6 + entry_size entry

-- a store with the configuration alone would pass its limit
abbrev pub HeadPassesLimit : ConfigParts → Type 0
HeadPassesLimit config = limit < length (start []) + 6 + head_size config

-- these bytes are in order the codes of these entries
abbrev pub AreEntryCodes : List (List ℕ) → List Entry → Type 0
AreEntryCodes [] [] = Unit {0}
AreEntryCodes (text ∷ texts) (entry ∷ entries) = IsEntryCode text entry × AreEntryCodes texts entries
AreEntryCodes _ _ = ⊥

-- these bytes are no code of an entry
abbrev pub IsNoEntry : List ℕ → Type 0
IsNoEntry text = (entry : Entry) → IsEntryCode text entry → ⊥

-- these bytes are no code of a valid configuration
abbrev pub IsNoHead : List ℕ → Type 0
IsNoHead text = (config : ConfigParts) → IsHeadCode text config → ⊥

-- these bytes are the code of an entry whose act breaks a rule after a history
pub record IsBrokenEntry (config : ConfigParts) (history : List Entry) (text : List ℕ) : Type 0 where
  pub entry : Entry
  pub code : IsEntryCode text entry
  pub breach : Breach
  pub broken : edited config history entry.act ≡ Err breach

-- these bytes cannot be the next entry after a history: they are no code, their act breaks a rule, or it
-- would be entry 100,001
abbrev pub IsNoNext : ConfigParts → List Entry → List ℕ → Type 0
IsNoNext config history text =
    IsNoEntry text ⊎ IsBrokenEntry config history text ⊎ (length history ≡ HISTORY_EDITS)

-- bodies that stand for a configuration and a history
pub record AreCodes (head : List ℕ) (texts : List (List ℕ)) (config : ConfigParts) (history : List Entry)
    : Type 0 where
  pub is_head : IsHeadCode head config
  pub are_entries : AreEntryCodes texts history
  pub is_history : IsHistory config history

-- what cannot stand behind these bodies: first no configuration, then no next entry
abbrev pub IsWrongBehind : List (List ℕ) → List ℕ → Type 0
IsWrongBehind [] text = IsNoHead text
IsWrongBehind (head ∷ texts) text =
    (config : ConfigParts) × (history : List Entry) × AreCodes head texts config history
    × IsNoNext config history text

-- The first body that cannot stand where it stands has its gate at this place
pub record IsWrongAt (c : List ℕ) (at : ℕ) : Type 0 where
  pub front : List Body
  pub wrong : Body
  pub behind : List Body
  pub read : bodies c ≡ Ok (front ++ wrong ∷ behind)
  pub place : at ≡ wrong.at
  pub is_wrong : IsWrongBehind (texts_of front) wrong.bytes

-- The bytes of a store are damaged at a place: there the list of bodies breaks; else it is the gate of the
-- first body that is no code, whose act breaks a rule, or that would be entry 100,001
abbrev pub IsDamagedAt : List ℕ → ℕ → Type 0
IsDamagedAt c at = (bodies c ≡ Err at) ⊎ IsWrongAt c at

-- the bytes of a disk, where it tells what a read gives, have P; else some bytes have
abbrev pub OfRead : Option (List ℕ) → (List ℕ → Type 0) → Type 0
OfRead reads P = (c : List ℕ) × Tells reads c × P c
