-- The rows that a parse finds, by the values that words give.
use Rattle.std.proofs.Common.{◌≡◌, ◌∙◌, ◌||◌, ap, ap₂, sym, refl, ℕ, Bool, true, false, cond, List, [], ◌∷◌, ◌++◌, map, Option, Some, None, is_some}
use Rattle.std.specs.Prelude.{codes, find, slice_get, option_map, option_and_then}
use Rattle.std.specs.Str.{bytes_eq}
use Rattle.clap.specs.Kinds.{Kinds}
use Rattle.clap.specs.Faults.{use_fault}
use Rattle.clap.specs.Walk.{Row, Rule, first_of, has_row, one_of, used, with_values, without}
use Rattle.clap.specs.declared.builder.value_parser.Reading.{Reading}
use Rattle.clap.specs.declared.builder.value_parser.Reading.TheVariants.{AsWritten}
use Rattle.clap.specs.declared.error.kind.ErrorKind.TheVariants as kind
use Rattle.clap.specs.declared.parser.matches.ValueSource.{ValueSource}
use Rattle.clap.specs.declared.parser.matches.ValueSource.TheVariants.{CommandLine}
use Rattle.cli_words.specs.Lines.{Given, Text, value_of}
use Rattle.cli_words.proofs.Shapes.{flag_rule, option_rule, positional_rule}

abbrev pub row : Text → Text → Row
row name value = record { id = name; values = value ∷ []; count = None; source = Some CommandLine; reading = AsWritten }

abbrev pub given_row : Given → Row
given_row g = row g.name g.value

abbrev pub rows : List Given → List Row
rows given = map given_row given

-- a name has a row where it has a value
pub has_value : (given : List Given) (name : Text) → has_row name (rows given) ≡ is_some (value_of given name)
has_value [] name = refl
has_value (g ∷ gs) name = go (bytes_eq g.name name) (has_value gs name)
  where
    go : (b : Bool) → has_row name (rows gs) ≡ is_some (value_of gs name)
        → (b || has_row name (rows gs)) ≡ is_some (option_map (λ x. x.value) (cond b (Some g) (find (λ x. bytes_eq x.name name) gs)))
    go true e = refl
    go false e = e

more : (given : List Given) (name value : Text) → rows (given ++ record { name = name; value = value } ∷ []) ≡ rows given ++ row name value ∷ []
more [] name value = refl
more (g ∷ gs) name value = ap (λ rs. given_row g ∷ rs) (more gs name value)

without_step : (r : Row) (rs : List Row) (name : Text) (b : Bool) → bytes_eq r.id name ≡ b → (b || has_row name rs) ≡ false
    → (has_row name rs ≡ false → without name rs ≡ rs) → without name (r ∷ rs) ≡ r ∷ rs
without_step r rs name true is e rest = cc
without_step r rs name false is e rest = rw is (ap (λ xs. r ∷ xs) (rest e))

without_none : (rs : List Row) (name : Text) → has_row name rs ≡ false → without name rs ≡ rs
without_none [] name e = refl
without_none (r ∷ rs) name e = without_step r rs name (bytes_eq r.id name) refl e (without_none rs name)

abbrev new_row : Text → Reading → ValueSource → List Text → Row
new_row name how s vs = record { id = name; values = vs; count = None; source = Some s; reading = how }

with_step : (r : Row) (rs : List Row) (name : Text) (how : Reading) (s : ValueSource) (vs : List Text) (b : Bool) → bytes_eq r.id name ≡ b
    → (b || has_row name rs) ≡ false → (has_row name rs ≡ false → with_values name how s vs rs ≡ rs ++ new_row name how s vs ∷ [])
    → with_values name how s vs (r ∷ rs) ≡ r ∷ rs ++ new_row name how s vs ∷ []
with_step r rs name how s vs true is e rest = cc
with_step r rs name how s vs false is e rest = rw is (ap (λ xs. r ∷ xs) (rest e))

pub with_none : (rs : List Row) (name : Text) (how : Reading) (s : ValueSource) (vs : List Text) → has_row name rs ≡ false
    → with_values name how s vs rs ≡ rs ++ new_row name how s vs ∷ []
with_none [] name how s vs e = refl
with_none (r ∷ rs) name how s vs e = with_step r rs name how s vs (bytes_eq r.id name) refl e (with_none rs name how s vs)

-- the row of a value goes behind the others
added : (given : List Given) (name value : Text) → is_some (value_of given name) ≡ false
    → with_values name AsWritten CommandLine (value ∷ []) (without name (rows given)) ≡ rows (given ++ record { name = name; value = value } ∷ [])
added given name value e =
    let none = has_value given name ∙ e in
    ap (with_values name AsWritten CommandLine (value ∷ [])) (without_none (rows given) name none)
    ∙ with_none (rows given) name AsWritten CommandLine (value ∷ []) none ∙ sym (more given name value)

pub flag_used : (given : List Given) (name : Text) → is_some (value_of given name) ≡ false
    → used (flag_rule name) [] (rows given) ≡ rows (given ++ record { name = name; value = codes "true" } ∷ [])
flag_used given name e = added given name (codes "true") e

pub option_used : (given : List Given) (name value : Text) → is_some (value_of given name) ≡ false
    → used (option_rule name) (value ∷ []) (rows given) ≡ rows (given ++ record { name = name; value = value } ∷ [])
option_used given name value e = added given name value e

pub positional_used : (given : List Given) (name value : Text) (k : ℕ) → is_some (value_of given name) ≡ false
    → used (positional_rule name k) (value ∷ []) (rows given) ≡ rows (given ++ record { name = name; value = value } ∷ [])
positional_used given name value k e = added given name value e

-- a second use of a name is refused, and a first one is not
abbrev pub twice : Bool → Kinds
twice b = cond b (kind.ArgumentConflict ∷ []) []

pub flag_fault : (again : Bool) (given : List Given) (name : Text) → again ≡ false
    → use_fault again (flag_rule name) [] (rows given) ≡ twice (is_some (value_of given name))
flag_fault again given name once = rw once (go (has_row name (rows given)) refl ∙ ap twice (has_value given name))
  where
    go : (b : Bool) → has_row name (rows given) ≡ b → use_fault false (flag_rule name) [] (rows given) ≡ twice (has_row name (rows given))
    go true e = rw e refl
    go false e = rw e refl

pub option_fault : (again : Bool) (given : List Given) (name value : Text) → again ≡ false
    → use_fault again (option_rule name) (value ∷ []) (rows given) ≡ twice (is_some (value_of given name))
option_fault again given name value once = rw once (go (has_row name (rows given)) refl ∙ ap twice (has_value given name))
  where
    go : (b : Bool) → has_row name (rows given) ≡ b → use_fault false (option_rule name) (value ∷ []) (rows given) ≡ twice (has_row name (rows given))
    go true e = rw e refl
    go false e = rw e refl

pub positional_fault : (again : Bool) (given : List Given) (name value : Text) (k : ℕ) → again ≡ false
    → use_fault again (positional_rule name k) (value ∷ []) (rows given) ≡ twice (is_some (value_of given name))
positional_fault again given name value k once = rw once (go (has_row name (rows given)) refl ∙ ap twice (has_value given name))
  where
    go : (b : Bool) → has_row name (rows given) ≡ b → use_fault false (positional_rule name k) (value ∷ []) (rows given) ≡ twice (has_row name (rows given))
    go true e = rw e refl
    go false e = rw e refl

-- what is read of rows is what was given
pub first_given : (given : List Given) (name : Text) → first_of name (rows given) ≡ value_of given name
first_given [] name = refl
first_given (g ∷ gs) name = go (bytes_eq g.name name) (first_given gs name)
  where
    go : (b : Bool) → first_of name (rows gs) ≡ value_of gs name
        → option_and_then (λ (r : Row). slice_get r.values 0) (cond b (Some (given_row g)) (find (λ r. bytes_eq r.id name) (rows gs)))
        ≡ option_map (λ (x : Given). x.value) (cond b (Some g) (find (λ x. bytes_eq x.name name) gs))
    go true e = refl
    go false e = e
