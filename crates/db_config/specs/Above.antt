-- Which level is above which: a path of link definitions leads down from the one to the other
-- (EMU-SDMS Manual, "The emuDB format": `linkDefinitions`).
use Rattle.std.specs.Prelude.{◌≡◌, ℕ, Bool, false, ◌&&◌, ◌||◌, ◌==◌, List, [], ◌∷◌, Contains}
use Rattle.std.specs.List.{list_any}
use Rattle.db_config.specs.declared.parts.LinkDef.{LinkDef}

-- each definition of the path begins at the level where the one before it ends, from `upper` to `lower`
abbrev pub IsPath : List LinkDef → ℕ → List LinkDef → ℕ → Type 0
IsPath defs upper [] lower = upper ≡ lower
IsPath defs upper (d ∷ path) lower =
    Contains defs d × (d.upper ≡ upper) × IsPath defs d.lower path lower

-- a path of one or more definitions leads from `upper` to `lower`
abbrev pub IsAbove : List LinkDef → ℕ → ℕ → Type 0
IsAbove defs upper lower =
    (first : LinkDef) × ((rest : List LinkDef) × IsPath defs upper (first ∷ rest) lower)

-- the same as a test: a path either goes round a definition, or goes through it once
abbrev pub is_above : List LinkDef → ℕ → ℕ → Bool
is_above [] upper lower = false
is_above (d ∷ defs) upper lower =
    is_above defs upper lower
    || (((upper == d.upper) || is_above defs upper d.upper)
    && ((d.lower == lower) || is_above defs d.lower lower))

-- some path leads from a level to itself
abbrev pub leads_round : List LinkDef → Bool
leads_round defs = list_any (λ d. is_above defs d.upper d.upper) defs
