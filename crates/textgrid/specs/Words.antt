-- The words that a reply has for what a TextGrid has to have at a place.
use Rattle.std.specs.Prelude.{ℕ, List, codes}
use Rattle.textgrid.specs.declared.fault.GridWhat.{GridWhat}
use Rattle.textgrid.specs.declared.fault.GridWhat.TheVariants.{Header, Number, Text, Flag, Count, TierClass, End}

-- the word for it
abbrev pub word_of : GridWhat → List ℕ
word_of Header = codes "Header"
word_of Number = codes "Number"
word_of Text = codes "Text"
word_of Flag = codes "Flag"
word_of Count = codes "Count"
word_of TierClass = codes "TierClass"
word_of End = codes "End"
