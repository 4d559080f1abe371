-- The rules that an edit may break: the number of each, and the word that a reply has for it.
use Rattle.std.specs.Prelude.{ℕ, List, codes}
use Rattle.emu_names.specs.declared.rules.What.{What}
use Rattle.emu_names.specs.declared.rules.What.TheVariants.{Bundles, BundleItems, AllItems, BundleLinks, Levels, Attributes, LinkDefinitions}
use Rattle.emu_names.specs.declared.rules.Broken.{Broken}
use Rattle.emu_names.specs.declared.rules.Broken.TheVariants.{BundleTaken, NoBundle, TooMany, RateOut, NoLevel, TwoLevels, LevelKind, NoAttribute, TwoLabels, LabelTooLong, IllegalLabel, IdTaken, NoItem, PositionOut, TimeKind, TimeOut, Overlap, NotRising, NoNeighbour, CutOut, NoLinkDefinition, LinkExists, NoLink, OneParent, OneChild, DoubleName, UnknownLevel, DoubleLink, LevelCycle, NothingToLink}

-- the rule's name, without what broke it
abbrev pub word_of : Broken → List ℕ
word_of BundleTaken = codes "BundleTaken"
word_of NoBundle = codes "NoBundle"
word_of (TooMany _) = codes "TooMany"
word_of RateOut = codes "RateOut"
word_of (NoLevel _) = codes "NoLevel"
word_of (TwoLevels _) = codes "TwoLevels"
word_of (LevelKind _) = codes "LevelKind"
word_of (NoAttribute _) = codes "NoAttribute"
word_of (TwoLabels _) = codes "TwoLabels"
word_of LabelTooLong = codes "LabelTooLong"
word_of IllegalLabel = codes "IllegalLabel"
word_of (IdTaken _) = codes "IdTaken"
word_of (NoItem _) = codes "NoItem"
word_of PositionOut = codes "PositionOut"
word_of TimeKind = codes "TimeKind"
word_of TimeOut = codes "TimeOut"
word_of (Overlap _) = codes "Overlap"
word_of (NotRising _) = codes "NotRising"
word_of (NoNeighbour _) = codes "NoNeighbour"
word_of CutOut = codes "CutOut"
word_of NoLinkDefinition = codes "NoLinkDefinition"
word_of LinkExists = codes "LinkExists"
word_of NoLink = codes "NoLink"
word_of (OneParent _) = codes "OneParent"
word_of (OneChild _) = codes "OneChild"
word_of (DoubleName _) = codes "DoubleName"
word_of (UnknownLevel _) = codes "UnknownLevel"
word_of DoubleLink = codes "DoubleLink"
word_of LevelCycle = codes "LevelCycle"
word_of NothingToLink = codes "NothingToLink"

-- the name of what is counted
abbrev pub counted_of : What → List ℕ
counted_of Bundles = codes "Bundles"
counted_of BundleItems = codes "BundleItems"
counted_of AllItems = codes "AllItems"
counted_of BundleLinks = codes "BundleLinks"
counted_of Levels = codes "Levels"
counted_of Attributes = codes "Attributes"
counted_of LinkDefinitions = codes "LinkDefinitions"
