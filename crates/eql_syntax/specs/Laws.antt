-- What brackets come to in the tokens of a query, each law said by itself.
use Rattle.std.specs.Prelude.{◌≡◌, ◌⊎◌, List, [], ◌∷◌, ◌++◌}
use Rattle.eql_tokens.specs.declared.token.Token.{Token}
use Rattle.eql_tokens.specs.declared.token.Token.TheVariants.{Open, Close, Above, Arrow}
use Rattle.eql_syntax.specs.Tree.{Tree, Conjunction, Sequence, Dominance}
use Rattle.eql_syntax.specs.Grammar.{SpellsThen, Spells}

-- the tokens begin with some that spell the query, and the rest follows them
abbrev pub HasInFront : List Token → Tree → List Token → Type 0
HasInFront tokens q rest = (ts : List Token) × ((tokens ≡ ts ++ rest) × Spells ts q)

-- a query stands in front of a rest exactly where the tokens in front of the rest spell it by themselves
abbrev pub QueriesStandAnywhere : Type 0
QueriesStandAnywhere =
    (tokens : List Token) (q : Tree) (rest : List Token) →
    (SpellsThen tokens q rest → HasInFront tokens q rest)
    × (HasInFront tokens q rest → SpellsThen tokens q rest)

-- the tokens with `[` before them and `]` behind them
abbrev pub bracketed : List Token → List Token
bracketed ts = Open ∷ ts ++ Close ∷ []

-- tokens that spell a query spell the same query in brackets
abbrev pub BracketsChangeNothing : Type 0
BracketsChangeNothing =
    (ts : List Token) (q : Tree) (rest : List Token) →
    Spells ts q → Spells (bracketed ts) q × SpellsThen (bracketed ts ++ rest) q rest

-- the tokens spell one query, the token, and another query
abbrev pub SpellTwo : Token → List Token → Tree → Tree → Type 0
SpellTwo between ts left right =
    (front : List Token) × ((back : List Token) × (
    (ts ≡ front ++ between ∷ back) × (Spells front left × Spells back right)
    ))

-- the tokens spell the query, or they spell its two parts with `->` or `^` between them
abbrev pub SpellInside : List Token → Tree → Type 0
SpellInside ts (Conjunction all) = Spells ts (Conjunction all)
SpellInside ts (Sequence left right) = Spells ts (Sequence left right) ⊎ SpellTwo Arrow ts left right
SpellInside ts (Dominance left right) = Spells ts (Dominance left right) ⊎ SpellTwo Above ts left right

-- tokens in brackets spell a query exactly where the tokens between the brackets spell it, or its two
-- parts with `->` or `^` between them
abbrev pub BracketsHoldOneOrTwo : Type 0
BracketsHoldOneOrTwo =
    (ts : List Token) (q : Tree) →
    (Spells (bracketed ts) q → SpellInside ts q) × (SpellInside ts q → Spells (bracketed ts) q)

-- tokens that begin with `[` and spell a query end with `]`
abbrev pub BracketsAreClosed : Type 0
BracketsAreClosed =
    (tokens : List Token) (q : Tree) →
    Spells (Open ∷ tokens) q → (ts : List Token) × (Open ∷ tokens ≡ bracketed ts)
