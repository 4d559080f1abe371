-- Words of contracts and loops beside `specs/Tokens.antt`; no promise of the program rests on them.
use Rattle.std.specs.Prelude.{◌≡◌, ℕ, ◌-◌}
use Rattle.eql_tokens.specs.declared.token.Token.{Token}

-- the token that was found, with its length, is the one that there is
abbrev pub IsToken : Token × ℕ → Token → ℕ → Type 0
IsToken there token len = there ≡ (token, len)
