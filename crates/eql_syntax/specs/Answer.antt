-- What is answered of a text: the query that it is, or its first fault.
use Rattle.std.specs.Prelude.{◌≡◌, ℕ, ◌<◌, ◌≤◌, ◌⊎◌, true, false, List, [], length}
use Rattle.emu_names.specs.declared.limits.TheConstants.{QUERY_BYTES}
use Rattle.eql_syntax.specs.declared.query.QueryFault.{QueryFault}
use Rattle.eql_syntax.specs.declared.query.QueryFault.TheVariants.{TextTooLong}
use Rattle.eql_syntax.specs.Tree.{Tree}
use Rattle.eql_tokens.specs.Tokens.{tokens_of}
use Rattle.eql_syntax.specs.Grammar.{Spells}
use Rattle.eql_syntax.specs.Fault.{kinds, is_within, FirstFault}

-- The text's tokens spell the query, within the limits of bytes, of open brackets and of one mark.
pub record IsQuery (text : List ℕ) (q : Tree) : Type 0 where
  pub short : length text ≤ QUERY_BYTES
  pub spells : Spells (kinds (tokens_of text)) q
  pub within : is_within 0 false (kinds (tokens_of text)) ≡ true

-- The text is too long, or this is the first fault of its tokens.
abbrev pub IsFault : List ℕ → QueryFault → Type 0
IsFault text fault =
    ((QUERY_BYTES < length text) × (fault ≡ TextTooLong))
    ⊎ ((length text ≤ QUERY_BYTES) × FirstFault [] (tokens_of text) (length text) fault)
