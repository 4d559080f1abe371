-- How far the loops have come.
use Rattle.std.proofs.Common.{◌≡◌, ℕ, ◌≤◌, true, List, length, take, drop}
use Rattle.std.specs.List.{list_all}
use Rattle.json_view.specs.Steps.{with_front}
use Rattle.label_match.specs.Pattern.{are_patterns}
use Rattle.db_config.specs.declared.parts.ConfigParts.{ConfigParts}
use Rattle.eql_syntax.specs.declared.query.Term.{Term}
use Rattle.eql_resolve.specs.Asked.{AskedTerm}
use Rattle.eql_resolve.specs.Prepared.{terms_patterns}
use Rattle.eql_resolve.specs.Resolve.{asked_terms}
use Rattle.eql_resolve.specs.Sound.{AreTermsOf}

-- so many texts were compiled, and each is a pattern
pub record AreCompiled (texts patterns : List (List ℕ)) (place before now : ℕ) : Type 0 where
  pub made : patterns ≡ take place texts
  pub read : list_all are_patterns (take place texts) ≡ true
  pub counted : length patterns ≡ place
  pub later : before ≤ now

-- so many conditions have got their places, in front of the rest, whose patterns are left
pub record AreAsked (c : ConfigParts) (terms : List Term) (made : List AskedTerm) (patterns : List (List ℕ)) (place : ℕ) : Type 0 where
  pub whole : with_front made (asked_terms c (drop place terms)) ≡ asked_terms c terms
  pub within : AreTermsOf c made
  pub rest : patterns ≡ terms_patterns (drop place terms)
