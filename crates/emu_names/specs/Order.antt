-- The order of names and of the keys of bundles.
use Rattle.std.specs.Prelude.{ℕ, List}
use Rattle.std.specs.declared.cmp.Ordering.{Ordering}
use Rattle.std.specs.Ordering.{nat_cmp, ordering_then}
use Rattle.std.specs.Cmp.Lexicographic.{slice_cmp}
use Rattle.emu_names.specs.declared.names.BundleKey.{BundleKey}

-- by the first byte in which they differ; where one begins the other, the shorter stands first
abbrev pub name_cmp : List ℕ → List ℕ → Ordering
name_cmp = slice_cmp nat_cmp

-- by session, and then by bundle
abbrev pub key_cmp : BundleKey → BundleKey → Ordering
key_cmp a b = ordering_then (name_cmp a.session b.session) (name_cmp a.bundle b.bundle)
