-- What a search by a compiled pattern finds, in the words of the grammar.
use Rattle.std.proofs.Common.{◌≡◌, ◌≢◌, inl, inr, ◌≤◌, ◌<◌, ◌⊎◌, ℕ, true, false, List, Option, None, Some, All, IfSome, IsSomeAnd, is_some, get_or, length, refl, ap, sym, ◌∙◌}
use Rattle.std.proofs.lemmas.Bool.{le-leb, lt-leb}
use Rattle.std.proofs.lemmas.List.{get_or_default}
use Rattle.regex.specs.Patterns.{Re, find_str, default_config}
use Rattle.regex.specs.Strings.{regex_pattern, regex_source, regex_config, IsReadFromSource}
use Rattle.regex.specs.Failures.{IsPattern, IsRightKind}
use Rattle.regex.specs.Names.{names_of}
use Rattle.regex.specs.Sources.{IsRefusal}
use Rattle.regex.specs.declared.error.Error.{Error}
use Rattle.regex.specs.declared.error.Error.TheVariants.{Syntax, CompiledTooBig, Internal}
use Rattle.regex.specs.declared.string.regex.Regex.{Regex}
use Rattle.regex_hir.specs.Meaning.{meaning}
use Rattle.regex_syntax.specs.declared.error.Error as parser
use Rattle.regex_syntax.specs.Brackets.{Nested}
use Rattle.regex_syntax.specs.Captures.{SameCaptures}
use Rattle.regex_syntax.specs.Grammar.{Names, group_count}
use Rattle.regex_syntax.specs.Verdict.{Reads, Refuses}
use Rattle.regex_syntax.specs.declared.error.ErrorKind.{ErrorKind}
use Rattle.regex_syntax.specs.declared.error.ErrorKind.TheVariants.{OutOfMemory, NestLimitExceeded}
use Rattle.regex_syntax.proofs.CapturesLemmas.{spans, find_str_alike}
use Rattle.regex_syntax.proofs.Written.{is_some-option_map}
use Rattle.label_match.specs.Pattern.{read_in, is_shallow, is_found}

-- what was read within the limit
shallow : (o : Option (Nested Re × Names)) (a : Re) (names : Names) →
    IsSomeAnd o (λ (re, found). (re.depth ≤ default_config.nest_limit) × SameCaptures a re.value × (names ≡ found) × (group_count a ≤ length names)) →
    is_shallow o ≡ true
shallow None a names h = absurd h
shallow (Some found) a names h = le-leb _ _ h.0

found_alike : (o : Option (Nested Re × Names)) (a : Re) (names : Names) (label : List ℕ) → All (λ x. x < 256) label →
    IsSomeAnd o (λ (re, found). (re.depth ≤ default_config.nest_limit) × SameCaptures a re.value × (names ≡ found) × (group_count a ≤ length names)) →
    is_some (find_str a label 0) ≡ is_found o label
found_alike None a names label small h = absurd h
found_alike (Some found) a names label small h =
    sym (is_some-option_map spans (find_str a label 0))
    ∙ ap is_some (find_str_alike a found.0.value h.1 label small 0)
    ∙ is_some-option_map spans (find_str found.0.value label 0)

-- what refuses a text, other than memory
deep : (o : Option (Nested Re × Names)) (kind : ErrorKind) →
    (o ≡ None) ⊎ ((kind ≡ NestLimitExceeded) × IfSome o (λ (re, _). default_config.nest_limit < re.depth)) → is_shallow o ≡ false
deep None kind h = refl
deep (Some found) kind (inl h) = cc
deep (Some found) kind (inr h) = lt-leb _ _ h.1

refused_deep : (source : List ℕ) (kind : ErrorKind) → Refuses default_config source kind → kind ≢ OutOfMemory → is_shallow (read_in source) ≡ false
unfolding Refuses
refused_deep source kind (inl h) other = absurd (other h)
refused_deep source kind (inr h) other = deep (read_in source) kind h

-- an error of syntax is that of a text that is no pattern or is nested too deep
pub refused_syntax : (source : List ℕ) (error : Error) (e : parser.Error) → IsRefusal default_config source error →
    IsRightKind default_config source error → error ≡ Syntax e → is_shallow (read_in source) ≡ false
refused_syntax source error e refusal kind is = refused_deep source e.kind (refusal e is) (rw is at kind)

-- what the grammar reads within its limit of nesting
by_grammar : (source : List ℕ) → IsPattern default_config source → is_shallow (read_in source) ≡ true
unfolding Reads
by_grammar source is = shallow (read_in source) (meaning is.0) is.1 is.2

-- an error of size is that of a text that the grammar reads, and so is one of an internal check
pub read_too_big : (source : List ℕ) (error : Error) → IsRightKind default_config source error → error ≡ CompiledTooBig →
    is_shallow (read_in source) ≡ true
read_too_big source error kind is = by_grammar source (rw is at kind)

pub read_internal : (source : List ℕ) (error : Error) → IsRightKind default_config source error → error ≡ Internal →
    is_shallow (read_in source) ≡ true
read_internal source error kind is = by_grammar source (rw is at kind)

-- what `Regex::new` ensures of the regular expression of a text
module _ (r : Regex) (source : List ℕ) (is_source : regex_source r ≡ source) (is_default : regex_config r ≡ default_config) (is_read : IsReadFromSource r) where
  reads : Reads default_config source r.pattern.program.hir (names_of r.pattern.names.items)
  reads = rw (is_source, is_default) at is_read

  pub read_shallow : is_shallow (read_in source) ≡ true
  unfolding Reads
  read_shallow = shallow (read_in source) (meaning r.pattern.program.hir) (names_of r.pattern.names.items) reads

  pub found_as_read : (label : List ℕ) → ((k : ℕ) → get_or label k 0 < 256) → is_some (find_str (regex_pattern r) label 0) ≡ is_found (read_in source) label
  unfolding Reads
  found_as_read label bytes =
      let small : All (λ x. x < 256) label = λ k d h. rw (get_or_default label k d 0 h) (bytes k) in
      found_alike (read_in source) (meaning r.pattern.program.hir) (names_of r.pattern.names.items) label small reads
