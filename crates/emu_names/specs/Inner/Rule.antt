-- Words of contracts and loops beside `specs/Rule.antt`; no promise of the program rests on them.
use Rattle.std.specs.Prelude.{ℕ}
use Rattle.emu_names.specs.declared.rules.Broken.{Broken}
use Rattle.emu_names.specs.declared.rules.Broken.TheVariants.{BundleTaken, NoBundle, TooMany, RateOut, NoLevel, TwoLevels, LevelKind, NoAttribute, TwoLabels, LabelTooLong, IllegalLabel, IdTaken, NoItem, PositionOut, TimeKind, TimeOut, Overlap, NotRising, NoNeighbour, CutOut, NoLinkDefinition, LinkExists, NoLink, OneParent, OneChild, DoubleName, UnknownLevel, DoubleLink, LevelCycle, NothingToLink}

-- the rules are numbered in the order in which they are listed; the numbers from 26 to 52 are those of
-- refusals that are not by a rule on edits
abbrev pub number_of : Broken → ℕ
number_of BundleTaken = 1
number_of NoBundle = 2
number_of (TooMany _) = 3
number_of RateOut = 4
number_of (NoLevel _) = 5
number_of (TwoLevels _) = 6
number_of (LevelKind _) = 7
number_of (NoAttribute _) = 8
number_of (TwoLabels _) = 9
number_of LabelTooLong = 10
number_of IllegalLabel = 11
number_of (IdTaken _) = 12
number_of (NoItem _) = 13
number_of PositionOut = 14
number_of TimeKind = 15
number_of TimeOut = 16
number_of (Overlap _) = 17
number_of (NotRising _) = 18
number_of (NoNeighbour _) = 19
number_of CutOut = 20
number_of NoLinkDefinition = 21
number_of LinkExists = 22
number_of NoLink = 23
number_of (OneParent _) = 24
number_of (OneChild _) = 25
number_of (DoubleName _) = 53
number_of (UnknownLevel _) = 54
number_of DoubleLink = 55
number_of LevelCycle = 56
number_of NothingToLink = 57
