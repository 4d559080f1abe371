-- Lines of tokens, and the values that stand in them: what is no number, text or flag is not read.
use Rattle.std.specs.Prelude.{◌≡◌, ℕ, zero, suc, ◌==◌, not, ◌&&◌, ◌||◌, Bool, true, false, List, [], ◌∷◌, ◌++◌, map, if◌then◌else◌, IsTrue, Result, Ok, Err, codes}
use Rattle.std.specs.List.{list_all, flat_map}
use Rattle.sample_time.specs.declared.decimal.Decimal.{Decimal}
use Rattle.sample_time.specs.declared.decimal.NumberFault.{NumberFault}
use Rattle.sample_time.specs.declared.decimal.NumberFault.TheVariants.{NotANumber}
use Rattle.sample_time.specs.Reading.{decimal_of}
use Rattle.textgrid.specs.declared.values.Value.{Value}
use Rattle.textgrid.specs.declared.values.Value.TheVariants.{Number, Quoted, Flag}
use Rattle.textgrid.specs.declared.values.Placed.{Placed}
use Rattle.textgrid.specs.Values.{is_space, is_inside, values_from}
use Rattle.grid_writing.specs.Layout.{doubled}

-- what stands in a line: a word, a number as it is written, a text, or the flag
pub data Token : Type 0 where
  word : List ℕ → Token
  number : List ℕ → Token
  text : List ℕ → Token
  exists : Token

-- a line: its indent and its tokens
pub record Line : Type 0 where
  pub indent : ℕ
  pub tokens : List Token

-- a token written
abbrev pub token_text : Token → List ℕ
token_text (word w) = w
token_text (number w) = w
token_text (text t) = 34 ∷ (doubled t ++ (34 ∷ []))
token_text exists = codes "<exists>"

-- so many spaces in front of a text
abbrev pub indented : ℕ → List ℕ → List ℕ
indented zero bs = bs
indented (suc n) bs = 32 ∷ indented n bs

-- tokens with a space before each and a line feed behind them, in front of what follows
abbrev pub tokens_onto : List Token → List ℕ → List ℕ
tokens_onto [] rest = 10 ∷ rest
tokens_onto (t ∷ ts) rest = 32 ∷ (token_text t ++ tokens_onto ts rest)

-- the tokens of a line with a space between them
abbrev pub spread : List Token → List ℕ → List ℕ
spread [] rest = 10 ∷ rest
spread (t ∷ ts) rest = token_text t ++ tokens_onto ts rest

-- a line in front of what follows
abbrev pub line_onto : Line → List ℕ → List ℕ
line_onto line rest = indented line.indent (spread line.tokens rest)

-- lines, one behind another
abbrev pub lines_text : List Line → List ℕ
lines_text [] = []
lines_text (l ∷ ls) = line_onto l (lines_text ls)

-- the value of a number
abbrev pub number_value : Result Decimal NumberFault → List Value
number_value (Ok value) = Number value ∷ []
number_value (Err fault) = []

-- the value of a token, where it is one
abbrev pub token_values : Token → List Value
token_values (word w) = []
token_values (number w) = number_value (decimal_of w)
token_values (text t) = Quoted t ∷ []
token_values exists = Flag true ∷ []

-- the values of tokens
abbrev pub tokens_values : List Token → List Value → List Value
tokens_values [] rest = rest
tokens_values (t ∷ ts) rest = token_values t ++ tokens_values ts rest

-- the values of lines
abbrev pub lines_values : List Line → List Value
lines_values [] = []
lines_values (l ∷ ls) = tokens_values l.tokens (lines_values ls)

-- a word begins with no white space, comment, text or flag
abbrev pub begins_word : ℕ → Bool
begins_word b = not (is_space b) && (not (b == 33) && (not (b == 34) && not (b == 60)))

-- and it goes on up to white space or a quote
abbrev pub is_one_word : List ℕ → Bool
is_one_word [] = false
is_one_word (b ∷ bs) = begins_word b && list_all is_inside bs

-- the number that a text is
pub record IsNumber (w : List ℕ) : Type 0 where
  pub value : Decimal
  pub is : decimal_of w ≡ Ok value

-- a token that is read as it is meant
abbrev pub IsToken : Token → Type 0
IsToken (word w) = IsTrue (is_one_word w) × (decimal_of w ≡ Err NotANumber)
IsToken (number w) = IsTrue (is_one_word w) × IsNumber w
IsToken (text t) = Unit {0}
IsToken exists = Unit {0}

-- tokens, and lines, of such tokens
abbrev pub AreTokens : List Token → Type 0
AreTokens [] = Unit {0}
AreTokens (t ∷ ts) = IsToken t × AreTokens ts

abbrev pub AreLines : List Line → Type 0
AreLines [] = Unit {0}
AreLines (l ∷ ls) = AreTokens l.tokens × AreLines ls

-- a text, wherever it stands, holds these values
pub record HoldsValues (bytes : List ℕ) (values : List Value) : Type 0 where
  pub read : (place : ℕ) → (vs : List Placed) × ((values_from bytes 0 place ≡ Ok vs) × (map (λ p. p.value) vs ≡ values))
