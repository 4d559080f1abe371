-- What a reader of words says of a definition's value.
use Rattle.std.specs.Prelude.{◌≡◌, ◌≤◌, ◌<◌, ◌^◌, ⊤, Option, Some, None, Result, Ok, Err}
use Rattle.emu_names.specs.declared.limits.TheConstants.{BUNDLES, TOP_RATE}
use Rattle.cli_words.specs.declared.words.TheConstants.{WORKERS}
use Rattle.cli_words.specs.declared.words.Words.{Words}
use Rattle.cli_words.specs.declared.words.Words.TheVariants as forms
use Rattle.cli_words.specs.declared.words.WordsFault.{WordsFault}
use Rattle.cli_words.specs.declared.words.WordsFault.TheVariants as faults

-- The answer is what the words ask for, and `Usage` where they ask for nothing. Memory may run out at any words.
abbrev pub ReadsWords : Result Words WordsFault → Option Words → Type 0
ReadsWords (Ok words) there = there ≡ Some words
ReadsWords (Err faults.Usage) there = there ≡ None
ReadsWords (Err faults.Memory) there = ⊤

-- the numbers that words name are in their ranges
abbrev pub IsInRange : Words → Type 0
IsInRange (forms.Live store workers) = (1 ≤ workers) × (workers ≤ WORKERS)
IsInRange (forms.Import session bundle rate file) = (1 ≤ rate) × (rate ≤ TOP_RATE)
IsInRange (forms.Work number bundles) = (number < 2 ^ 64) × (1 ≤ bundles) × (bundles ≤ BUNDLES)
IsInRange _ = ⊤
