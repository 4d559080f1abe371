-- The first fault of a text that is no query.
use Rattle.std.specs.Prelude.{◌≡◌, ℕ, ◌+◌, ◌-◌, ◌≤◌, ◌⊎◌, Bool, true, false, ◌&&◌, nat_lt, not, List, [], ◌∷◌, ◌++◌}
use Rattle.emu_names.specs.declared.limits.TheConstants.{OPEN_BRACKETS}
use Rattle.eql_syntax.specs.declared.query.QueryFault.{QueryFault}
use Rattle.eql_syntax.specs.declared.query.QueryFault.TheVariants.{Syntax, TooDeep, TwoMarks}
use Rattle.eql_tokens.specs.declared.token.Placed.{Placed}
use Rattle.eql_tokens.specs.declared.token.Token.{Token}
use Rattle.eql_tokens.specs.declared.token.Token.TheVariants.{Open, Close, Hash}
use Rattle.eql_syntax.specs.Tree.{Tree}
use Rattle.eql_syntax.specs.Grammar.{Spells, Begins}

-- the tokens without their places
abbrev pub kinds : List Placed → List Token
kinds [] = []
kinds (x ∷ xs) = x.token ∷ kinds xs

-- how many brackets are open behind a token, where so many were open before it
abbrev pub depth_step : ℕ → Token → ℕ
depth_step depth Open = depth + 1
depth_step depth Close = depth - 1
depth_step depth _ = depth

-- how many brackets are open behind the tokens, where so many were open before them
abbrev pub open_from : ℕ → List Token → ℕ
open_from depth [] = depth
open_from depth (t ∷ ts) = open_from (depth_step depth t) ts

-- whether the token is a mark, or a mark stood before it
abbrev pub mark_step : Bool → Token → Bool
mark_step marked Hash = true
mark_step marked _ = marked

-- whether a mark stands among the tokens, or stood before them
abbrev pub marked_from : Bool → List Token → Bool
marked_from marked [] = marked
marked_from marked (t ∷ ts) = marked_from (mark_step marked t) ts

-- the token keeps the limits, where so many brackets are open and a mark stands or not
abbrev pub fits : ℕ → Bool → Token → Bool
fits depth marked Open = nat_lt depth OPEN_BRACKETS
fits depth marked Hash = not marked
fits depth marked _ = true

-- the tokens keep the limits: never are more brackets open than may be, and there is one mark at most
abbrev pub is_within : ℕ → Bool → List Token → Bool
is_within depth marked [] = true
is_within depth marked (t ∷ ts) =
    fits depth marked t && is_within (depth_step depth t) (mark_step marked t) ts

-- what is at fault at a token, behind the tokens `done`, tested in this order
pub data FaultHere (done : List Token) (x : Placed) : QueryFault → Type 0 where
  no_query : ¬ Begins (done ++ x.token ∷ []) → FaultHere done x (Syntax x.at)
  too_deep : Begins (done ++ x.token ∷ []) → x.token ≡ Open → OPEN_BRACKETS ≤ open_from 0 done →
      FaultHere done x (TooDeep x.at)
  two_marks : Begins (done ++ x.token ∷ []) → x.token ≡ Hash → marked_from false done ≡ true →
      FaultHere done x (TwoMarks x.at)

-- the first fault from the left, in a text of so many bytes that has these tokens behind `done`;
-- where the text ends too early, it is at the text's length
abbrev pub FirstFault : List Token → List Placed → ℕ → QueryFault → Type 0
FirstFault done [] length fault = (fault ≡ Syntax length) × ((q : Tree) → ¬ Spells done q)
FirstFault done (x ∷ xs) length fault =
    FaultHere done x fault
    ⊎ (((other : QueryFault) → ¬ FaultHere done x other)
    × FirstFault (done ++ x.token ∷ []) xs length fault)
