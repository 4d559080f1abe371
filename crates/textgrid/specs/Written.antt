-- A grid written out as values, in the order of the file. (Praat manual, "TextGrid file formats".)
use Rattle.std.specs.Prelude.{◌≡◌, ℕ, ◌⊎◌, List, [], ◌∷◌, ◌++◌, true, length, Option, Some, None, codes}
use Rattle.sample_time.specs.declared.decimal.Decimal.{Decimal}
use Rattle.textgrid.specs.declared.fault.GridWhat.{GridWhat}
use Rattle.textgrid.specs.declared.fault.GridWhat.TheVariants as whats
use Rattle.textgrid.specs.declared.values.Value.{Value}
use Rattle.textgrid.specs.declared.values.Value.TheVariants.{Number, Quoted, Flag}
use Rattle.textgrid.specs.declared.values.Placed.{Placed}
use Rattle.textgrid.specs.declared.grid.GridInterval.{GridInterval}
use Rattle.textgrid.specs.declared.grid.GridPoint.{GridPoint}
use Rattle.textgrid.specs.declared.grid.GridEntries.{GridEntries}
use Rattle.textgrid.specs.declared.grid.GridEntries.TheVariants.{Intervals, Points}
use Rattle.textgrid.specs.declared.grid.GridTier.{GridTier}
use Rattle.textgrid.specs.declared.grid.Grid.{Grid}
use Rattle.textgrid.specs.Counts.{count_of}
use Rattle.textgrid.specs.Levels.{entry_count}

-- a value of a file, with what a TextGrid has to have there
abbrev pub Slot : Type 0
Slot = GridWhat × Value

-- the slots of an interval: its two times and its text
abbrev pub interval_slots : GridInterval → List Slot
interval_slots i = (whats.Number, Number i.xmin) ∷ (whats.Number, Number i.xmax) ∷ (whats.Text, Quoted i.text) ∷ []

-- the slots of a point: its time and its mark
abbrev pub point_slots : GridPoint → List Slot
point_slots p = (whats.Number, Number p.time) ∷ (whats.Text, Quoted p.mark) ∷ []

-- the slots of each, one behind another
abbrev pub all_slots : {A : Type 0} → (A → List Slot) → List A → List Slot
all_slots slots [] = []
all_slots slots (a ∷ ls) = slots a ++ all_slots slots ls

-- the slots of the entries of a tier
abbrev pub entry_slots : GridEntries → List Slot
entry_slots (Intervals list) = all_slots interval_slots list
entry_slots (Points list) = all_slots point_slots list

-- the word for the class of a tier
abbrev pub class_of : GridEntries → List ℕ
class_of (Intervals list) = codes "IntervalTier"
class_of (Points list) = codes "TextTier"

-- these slots are the tier written out; its number of entries may be written in many ways
pub record IsTierWritten (tier : GridTier) (slots : List Slot) : Type 0 where
  pub count : Decimal
  pub counts : count_of count ≡ Some (entry_count tier.entries)
  pub is : slots ≡ (whats.TierClass, Quoted (class_of tier.entries)) ∷ (whats.Text, Quoted tier.name)
      ∷ (whats.Number, Number tier.xmin) ∷ (whats.Number, Number tier.xmax) ∷ (whats.Count, Number count)
      ∷ entry_slots tier.entries

-- one part behind another
pub record AreParts (First Rest : List Slot → Type 0) (slots : List Slot) : Type 0 where
  pub first : List Slot
  pub rest : List Slot
  pub is : slots ≡ first ++ rest
  pub is_first : First first
  pub is_rest : Rest rest

-- each written out, one behind another
abbrev pub Each : (A : Type 0) → (A → List Slot → Type 0) → List A → List Slot → Type 0
Each A W [] slots = slots ≡ []
Each A W (a ∷ ls) slots = AreParts (W a) (Each A W ls) slots

-- each tier written out
abbrev pub AreTiersWritten : List GridTier → List Slot → Type 0
AreTiersWritten tiers slots = Each GridTier IsTierWritten tiers slots

-- these slots are the grid written out, with one of the two first texts
pub record IsGridWritten (grid : Grid) (slots : List Slot) : Type 0 where
  pub header : List ℕ
  pub is_header : (header ≡ codes "ooTextFile") ⊎ (header ≡ codes "ooTextFile short")
  pub count : Decimal
  pub counts : count_of count ≡ Some (length grid.tiers)
  pub tiers : List Slot
  pub are_tiers : AreTiersWritten grid.tiers tiers
  pub is : slots ≡ (whats.Header, Quoted header) ∷ (whats.Header, Quoted (codes "TextGrid"))
      ∷ (whats.Number, Number grid.xmin) ∷ (whats.Number, Number grid.xmax) ∷ (whats.Flag, Flag true)
      ∷ (whats.Count, Number count) ∷ tiers

-- the values begin with those of the slots, and `rest` is left of them
abbrev pub Begins : List Placed → List Slot → List Placed → Type 0
Begins vs [] rest = vs ≡ rest
Begins [] (s ∷ ss) rest = ⊥
Begins (p ∷ ps) (s ∷ ss) rest = (p.value ≡ s.1) × Begins ps ss rest

-- the list begins with a value like this one
pub record BeginsLike (p : Placed) (other : List Placed) : Type 0 where
  pub first : Placed
  pub behind : List Placed
  pub is : other ≡ first ∷ behind
  pub same : first.value ≡ p.value

-- the first values are alike, or both lists are at their end
abbrev pub Alike : List Placed → List Placed → Type 0
Alike [] other = other ≡ []
Alike (p ∷ ps) other = BeginsLike p other

-- the place of the first value, none at the end
abbrev pub place_of : List Placed → Option ℕ
place_of [] = None
place_of (p ∷ ps) = Some p.at

-- these values are the grid written out
pub record IsGrid (vs : List Placed) (grid : Grid) : Type 0 where
  pub slots : List Slot
  pub written : IsGridWritten grid slots
  pub begins : Begins vs slots []

-- a grid written out goes on behind the slots with what is wanted
pub record GoesOn (slots : List Slot) (what : GridWhat) : Type 0 where
  pub grid : Grid
  pub value : Value
  pub more : List Slot
  pub written : IsGridWritten grid (slots ++ (what, value) ∷ more)

-- what is wanted behind these slots: a grid written out goes on with it; or they are a whole grid, and the end
-- is wanted
abbrev pub IsWanted : List Slot → GridWhat → Type 0
IsWanted slots what = GoesOn slots what ⊎ ((grid : Grid) × IsGridWritten grid slots × (what ≡ whats.End))

-- At this place stands the first value with which no grid written out goes on: those before it are the
-- beginning of one; and no list that begins like them and goes on with this value, or ends there too, is
-- one.
pub record IsFirstFault (vs : List Placed) (place : Option ℕ) (what : GridWhat) : Type 0 where
  pub slots : List Slot
  pub rest : List Placed
  pub begins : Begins vs slots rest
  pub is : place ≡ place_of rest
  pub wanted : IsWanted slots what
  pub none : (ws other : List Placed) (grid : Grid) → Begins ws slots other → Alike rest other → IsGrid ws grid → ⊥
