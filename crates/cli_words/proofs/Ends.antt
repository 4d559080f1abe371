-- What is read at the end of the words: the values that were given.
use Rattle.std.proofs.Common.{◌≡◌, ◌∙◌, ◌&&◌, ◌||◌, ap, ap₂, sym, refl, ℕ, Bool, true, false, not, cond, List, [], ◌∷◌, ◌++◌, Option, Some, None, is_some}
use Rattle.std.specs.Prelude.{codes, find, fold, option_map, option_and_then, slice_get}
use Rattle.std.specs.List.{list_any}
use Rattle.std.specs.Option.{option_map_or}
use Rattle.std.specs.Str.{bytes_eq}
use Rattle.std.proofs.lemmas.Slice.Eq.{bytes_eq-Decides}
use Rattle.clap.specs.Kinds.{Kinds, or_else}
use Rattle.clap.specs.Facts.{explicit_source}
use Rattle.clap.specs.Simple.{Shape}
use Rattle.clap.specs.Takes.{is_given}
use Rattle.clap.specs.Walk.{Row, Rule, first_of, has_row, with_default}
use Rattle.clap.specs.Faults.{check_fault, default_fault, defaults_fault}
use Rattle.clap.specs.declared.builder.value_parser.Reading.TheVariants.{AsWritten}
use Rattle.clap.specs.declared.error.kind.ErrorKind.TheVariants as kind
use Rattle.clap.specs.declared.parser.matches.ValueSource.TheVariants.{DefaultValue}
use Rattle.cli_words.specs.declared.words.Words.{Words}
use Rattle.cli_words.specs.Lines.{Given, Text, is_true, value_of}
use Rattle.cli_words.specs.Forms.{CommandLine}
use Rattle.cli_words.specs.Inner.Readings.{read_by}
use Rattle.cli_words.proofs.Rows.{first_given, given_row, has_value, rows, with_none}
use Rattle.cli_words.proofs.Shapes.{flag_rule, option_rule, positional_rule, shape}
use Rattle.cli_words.proofs.Steps.{EndsWell, unless}

-- the argument has no default
pub record IsQuiet (a : Rule) : Type 0 where
  pub fault : (rs : List Row) → default_fault rs a ≡ []
  pub same : (rs : List Row) → with_default rs a ≡ rs

abbrev pub AreQuiet : List Rule → Type 0
AreQuiet [] = Unit {0}
AreQuiet (a ∷ rest) = IsQuiet a × AreQuiet rest

either_none : (b : Bool) {A : Type 0} (x y : A) → cond (b || true) x y ≡ x
either_none true x y = refl
either_none false x y = refl

same_both : (b : Bool) {A : Type 0} (x : A) → cond b x x ≡ x
same_both true x = refl
same_both false x = refl

pub option_quiet : (name : Text) → IsQuiet (option_rule name)
option_quiet name = record {
  fault = λ rs. either_none (has_row name rs) _ _;
  same = λ rs. same_both (has_row name rs) rs;
}

pub positional_quiet : (name : Text) (k : ℕ) → IsQuiet (positional_rule name k)
positional_quiet name k = record {
  fault = λ rs. either_none (has_row name rs) _ _;
  same = λ rs. same_both (has_row name rs) rs;
}

quiet_fault : (rules : List Rule) → AreQuiet rules → (rs : List Row) → defaults_fault rs rules ≡ []
unfolding defaults_fault
quiet_fault [] q rs = refl
quiet_fault (a ∷ rest) q rs = rw (q.0.fault rs) (quiet_fault rest q.1 (with_default rs a))

quiet_same : (rules : List Rule) → AreQuiet rules → (rs : List Row) → fold with_default rs rules ≡ rs
quiet_same [] q rs = refl
quiet_same (a ∷ rest) q rs = rw (q.0.same rs) (quiet_same rest q.1 rs)

-- a name has a value in the rows where words gave it one
given_is : (given : List Given) (name : Text) → is_given name (rows given) ≡ is_some (value_of given name)
given_is [] name = refl
given_is (g ∷ gs) name = go (bytes_eq g.name name) (given_is gs name)
  where
    go : (b : Bool) → is_given name (rows gs) ≡ is_some (value_of gs name)
        → option_map_or (λ (r : Row). explicit_source r.source) (cond b (Some (given_row g)) (find (λ r. bytes_eq r.id name) (rows gs))) false
        ≡ is_some (option_map (λ (x : Given). x.value) (cond b (Some g) (find (λ x. bytes_eq x.name name) gs)))
    go true e = refl
    go false e = e

-- the argument is wanted and not given
abbrev pub lacks : (Text → Option Text) → Rule → Bool
lacks value a = a.required && not (is_some (value a.id))

-- where a positional word is missing, nothing is asked for
abbrev pub WantsAll : CommandLine → Type 0
WantsAll line = (value : Text → Option Text) → unless (cond (list_any (lacks value) (shape line).rules) (kind.MissingRequiredArgument ∷ []) []) (line.asks value) ≡ line.asks value

-- what is read at the end, where no argument has a default
pub ends_quietly : (line : CommandLine) → AreQuiet (shape line).rules → WantsAll line
    → ((rs : List Row) → check_fault (shape line) rs false ≡ cond (list_any (λ a. a.required && not (is_given a.id rs)) (shape line).rules) (kind.MissingRequiredArgument ∷ []) [])
    → EndsWell (shape line) (read_by line) (λ given. line.asks (value_of given))
ends_quietly line quiet all checked given =
    let names : (λ name. first_of name (rows given)) ≡ value_of given = λ i name. first_given given name i in
    let wants : (λ (a : Rule). a.required && not (is_given a.id (rows given))) ≡ lacks (value_of given) = λ i a. a.required && not (given_is given a.id i) in
    rw (quiet_fault (shape line).rules quiet (rows given)) (rw (quiet_same (shape line).rules quiet (rows given)) (rw (checked (rows given))
    (ap₂ (λ (p : Rule → Bool) (value : Text → Option Text). unless (cond (list_any p (shape line).rules) (kind.MissingRequiredArgument ∷ []) []) (line.asks value)) wants names
    ∙ all (value_of given))))

-- ---- a flag in front, and then arguments with no default

first_more : (rs : List Row) (r : Row) (name : Text) → bytes_eq r.id name ≡ false → first_of name (rs ++ r ∷ []) ≡ first_of name rs
first_more [] r name e = rw e refl
first_more (x ∷ rs) r name e = go (bytes_eq x.id name) (first_more rs r name e)
  where
    go : (b : Bool) → first_of name (rs ++ r ∷ []) ≡ first_of name rs
        → option_and_then (λ (y : Row). slice_get y.values 0) (cond b (Some x) (find (λ y. bytes_eq y.id name) (rs ++ r ∷ [])))
        ≡ option_and_then (λ (y : Row). slice_get y.values 0) (cond b (Some x) (find (λ y. bytes_eq y.id name) rs))
    go true h = refl
    go false h = h

first_last : (rs : List Row) (r : Row) (name : Text) → has_row name rs ≡ false → bytes_eq r.id name ≡ true → first_of name (rs ++ r ∷ []) ≡ slice_get r.values 0
first_last [] r name none e = rw e refl
first_last (x ∷ rs) r name none e = go (bytes_eq x.id name) none (first_last rs r name)
  where
    go : (b : Bool) → (b || has_row name rs) ≡ false → (has_row name rs ≡ false → bytes_eq r.id name ≡ true → first_of name (rs ++ r ∷ []) ≡ slice_get r.values 0)
        → option_and_then (λ (y : Row). slice_get y.values 0) (cond b (Some x) (find (λ y. bytes_eq y.id name) (rs ++ r ∷ []))) ≡ slice_get r.values 0
    go true h rest = cc
    go false h rest = rest h e

abbrev default_row : Text → Row
default_row name = record { id = name; values = codes "false" ∷ []; count = None; source = Some DefaultValue; reading = AsWritten }

-- the rows with the default of a flag
abbrev flag_rows : Text → Bool → List Row → List Row
flag_rows name b rs = cond b rs (rs ++ default_row name ∷ [])

flag_default : (name : Text) (rs : List Row) (b : Bool) → has_row name rs ≡ b → with_default rs (flag_rule name) ≡ flag_rows name b rs
flag_default name rs true e = rw e refl
flag_default name rs false e = rw e (with_none rs name AsWritten DefaultValue (codes "false" ∷ []) e)

module _ (name : Text) (others : List Rule) (quiet : AreQuiet others) where
  pub flag_fault_none : (rs : List Row) → defaults_fault rs (flag_rule name ∷ others) ≡ []
  unfolding defaults_fault
  flag_fault_none rs = go (has_row name rs) refl
    where
      go : (b : Bool) → has_row name rs ≡ b → defaults_fault rs (flag_rule name ∷ others) ≡ []
      go true e = rw e (quiet_fault others quiet _)
      go false e = rw e (quiet_fault others quiet _)

  module _ (given : List Given) where
    with_flag : (b : Bool) → has_row name (rows given) ≡ b → fold with_default (rows given) (flag_rule name ∷ others) ≡ flag_rows name b (rows given)
    with_flag b e = quiet_same others quiet (with_default (rows given) (flag_rule name)) ∙ flag_default name (rows given) b e

    unset : (o : Option Text) → is_some o ≡ false → false ≡ is_true o
    unset None e = refl
    unset (Some value) e = cc

    set : (b : Bool) → has_row name (rows given) ≡ b → is_true (first_of name (flag_rows name b (rows given))) ≡ is_true (value_of given name)
    set true e = ap is_true (first_given given name)
    set false e = ap is_true (first_last (rows given) (default_row name) name e ((bytes_eq-Decides name name).1 refl))
        ∙ unset (value_of given name) (sym (has_value given name) ∙ e)

    -- a flag is read as it was given
    pub flag_found : is_true (first_of name (fold with_default (rows given) (flag_rule name ∷ others))) ≡ is_true (value_of given name)
    flag_found = ap (λ rs. is_true (first_of name rs)) (with_flag _ refl) ∙ set _ refl

    other : (x : Text) → bytes_eq name x ≡ false → (b : Bool) → has_row name (rows given) ≡ b → first_of x (flag_rows name b (rows given)) ≡ value_of given x
    other x e true h = first_given given x
    other x e false h = first_more (rows given) (default_row name) x e ∙ first_given given x

    -- and so is each other name
    pub other_found : (x : Text) → bytes_eq name x ≡ false → first_of x (fold with_default (rows given) (flag_rule name ∷ others)) ≡ value_of given x
    other_found x e = ap (first_of x) (with_flag _ refl) ∙ other x e _ refl
