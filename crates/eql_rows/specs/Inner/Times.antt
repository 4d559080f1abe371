-- What a row needs of its samples.
use Rattle.std.specs.Prelude.{◌<◌, ◌^◌, ℕ, Option, IfSome}

-- samples are below 2^40
abbrev pub AreInTime : Option (ℕ × ℕ) → Type 0
AreInTime samples = IfSome samples (λ s. (s.0 < 2 ^ 40) × (s.1 < 2 ^ 40))
