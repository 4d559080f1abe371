-- The tokens of an EQL text with the places in bytes at which they begin. (EMU-SDMS Manual, "The
-- EMU Query Language version 2".)
use Rattle.std.specs.Prelude.{ℕ, zero, suc, ◌+◌, ◌-◌, ◌==◌, nat_lt, ◌||◌, ◌&&◌, not, Bool, true, false, List, [], ◌∷◌, length, take, if◌then◌else◌, Option, Some, None}
use Rattle.std.specs.List.{prefix_len}
use Rattle.eql_tokens.specs.declared.token.Sign.TheVariants as signs
use Rattle.eql_tokens.specs.declared.token.Placed.{Placed}
use Rattle.eql_tokens.specs.declared.token.Token.{Token}
use Rattle.eql_tokens.specs.declared.token.Token.TheVariants.{Open, Close, LeftParen, RightParen, Comma, And, Or, Above, Arrow, Hash, Sign as Between, Word, Wrong}

-- space, tab, line feed and carriage return
abbrev pub is_space : ℕ → Bool
is_space b = b == 32 || b == 9 || b == 10 || b == 13

-- one of the characters  [ ] ( ) , & | ^ # ' = ! < >
abbrev pub is_mark : ℕ → Bool
is_mark b =
    b == 91 || b == 93 || b == 40 || b == 41 || b == 44 || b == 38 || b == 124 || b == 94 || b == 35
    || b == 39 || b == 61 || b == 33 || b == 60 || b == 62

-- the first byte of a text, 0 of an empty one
abbrev pub front : List ℕ → ℕ
front [] = 0
front (b ∷ bs) = b

-- the two bytes are an arrow
abbrev pub is_arrow : ℕ → ℕ → Bool
is_arrow b next = b == 45 && next == 62

-- the byte ends a bare word
abbrev pub ends_word : ℕ → ℕ → Bool
ends_word b next = is_space b || is_mark b || is_arrow b next

-- how many bytes at the front belong to a bare word
abbrev pub word_len : List ℕ → ℕ
word_len [] = 0
word_len (b ∷ bs) = if ends_word b (front bs) then 0 else 1 + word_len bs

-- the symbol at the front, by the first byte and the one behind it; the longer first
abbrev pub symbol : ℕ → ℕ → Option (Token × ℕ)
symbol b next =
    if b == 91 then Some (Open, 1)
    else (if b == 93 then Some (Close, 1)
    else (if b == 40 then Some (LeftParen, 1)
    else (if b == 41 then Some (RightParen, 1)
    else (if b == 44 then Some (Comma, 1)
    else (if b == 38 then Some (And, 1)
    else (if b == 124 then Some (Or, 1)
    else (if b == 94 then Some (Above, 1)
    else (if b == 35 then Some (Hash, 1)
    else (if b == 45 && next == 62 then Some (Arrow, 2)
    else (if b == 61 && next == 61 then Some (Between signs.Is, 2)
    else (if b == 61 && next == 126 then Some (Between signs.Like, 2)
    else (if b == 61 then Some (Between signs.Is, 1)
    else (if b == 33 && next == 61 then Some (Between signs.IsNot, 2)
    else (if b == 33 && next == 126 then Some (Between signs.NotLike, 2)
    else (if b == 33 then Some (Wrong, 1)
    else (if b == 60 && next == 61 then Some (Between signs.Le, 2)
    else (if b == 60 then Some (Between signs.Lt, 1)
    else (if b == 62 && next == 61 then Some (Between signs.Ge, 2)
    else (if b == 62 then Some (Between signs.Gt, 1)
    else None)))))))))))))))))))

-- the byte is no quote
abbrev pub is_unquoted : ℕ → Bool
is_unquoted b = not (b == 39)

-- how many bytes stand before the next quote
abbrev pub quoted_len : List ℕ → ℕ
quoted_len bs = prefix_len is_unquoted bs

-- a quoted word behind its first quote, with its length and that of both quotes; where it is not
-- closed, a token that no query has and that takes the rest
unfoldable pub quoted : List ℕ → Token × ℕ
quoted bs =
    if nat_lt (quoted_len bs) (length bs)
    then (Word false (take (quoted_len bs) bs), quoted_len bs + 2)
    else (Wrong, length bs + 1)

-- a bare word and its length
unfoldable pub bare : ℕ → List ℕ → Token × ℕ
bare b bs = (Word true (take (word_len bs + 1) (b ∷ bs)), word_len bs + 1)

-- the symbol, where there is one, or else the word
abbrev pub symbol_or_word : Option (Token × ℕ) → ℕ → List ℕ → Token × ℕ
symbol_or_word (Some found) b bs = found
symbol_or_word None b bs = if b == 39 then quoted bs else bare b bs

-- the token at the front of a text that begins with no white space, and its length
unfoldable pub token_at : ℕ → List ℕ → Token × ℕ
token_at b bs = symbol_or_word (symbol b (front bs)) b bs

-- the tokens of the text behind `skip` bytes, which begins at the place
abbrev pub tokens_from : List ℕ → ℕ → ℕ → List Placed
tokens_from [] skip place = []
tokens_from (b ∷ bs) (suc skip) place = tokens_from bs skip (place + 1)
tokens_from (b ∷ bs) zero place =
    if is_space b then tokens_from bs 0 (place + 1)
    else (record { at = place; token = (token_at b bs).0 }
    ∷ tokens_from bs ((token_at b bs).1 - 1) (place + 1))

-- the tokens of a text
unfoldable pub tokens_of : List ℕ → List Placed
tokens_of text = tokens_from text 0 0
