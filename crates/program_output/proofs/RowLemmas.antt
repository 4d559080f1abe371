-- A reply that is written in parts.
use Rattle.std.proofs.Common.{◌≡◌, ℕ, List, ◌++◌, Option, Result, Ok, Err}
use Rattle.std.specs.Io.KnownBytes.{Appends}
use Rattle.emu_io.specs.Fronts.{WritesFront}
use Rattle.emu_io.proofs.Fronts.{front_longer, front_more, whole_more}

-- a front of the first of three
pub first_broke : (before now : Option (List ℕ)) (a b c : List ℕ) → WritesFront before now a → WritesFront before now (a ++ (b ++ c))
first_broke before now a b c front = front_longer before now a (b ++ c) front

-- the first of three, and a front of the second
pub second_broke : (before mid now : Option (List ℕ)) (a b c : List ℕ) → Appends before mid a → WritesFront mid now b → WritesFront before now (a ++ (b ++ c))
second_broke before mid now a b c first front = front_more before mid now a (b ++ c) first (front_longer mid now b c front)

-- two of three, and a front of the third
pub third_broke : (before mid later now : Option (List ℕ)) (a b c : List ℕ) → Appends before mid a → Appends mid later b → WritesFront later now c →
    WritesFront before now (a ++ (b ++ c))
third_broke before mid later now a b c first second front =
    front_more before mid now a (b ++ c) first (front_more mid later now b c second front)

-- all three
pub three_written : (before mid later now : Option (List ℕ)) (a b c : List ℕ) → Appends before mid a → Appends mid later b → Appends later now c →
    Appends before now (a ++ (b ++ c))
three_written before mid later now a b c first second third =
    whole_more before mid now a (b ++ c) first (whole_more mid later now b c second third)
