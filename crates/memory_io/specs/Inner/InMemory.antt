-- What sources, sinks and folders in memory are seen as.
use Rattle.std.specs.Prelude.{ℕ, List}
use Rattle.emu_io.specs.declared.tree.Stored.{Stored}

-- the bytes that are left to read, the number of calls so far, the calls that fail, counted from 1,
-- and the faults
pub record ListedSource : Type 0 where
  pub left : List ℕ
  pub calls : ℕ
  pub fails : List ℕ
  pub faults : ℕ

-- the bytes that were written, the number of calls so far, the calls that fail, counted from 1, and
-- the faults
pub record ListedSink : Type 0 where
  pub written : List ℕ
  pub calls : ℕ
  pub fails : List ℕ
  pub faults : ℕ

-- the bytes that were written, the most bytes that there is room for, and the faults
pub record RoomySink : Type 0 where
  pub written : List ℕ
  pub room : ℕ
  pub faults : ℕ

-- what is stored, the number of calls so far, the calls that fail, counted from 1, the faults and the misses
pub record ListedFolder : Type 0 where
  pub content : List Stored
  pub calls : ℕ
  pub fails : List ℕ
  pub faults : ℕ
  pub misses : ℕ

-- what is stored, and the misses
pub record CountedFolder : Type 0 where
  pub content : List Stored
  pub misses : ℕ
