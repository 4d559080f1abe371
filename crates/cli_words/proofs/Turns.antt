-- What a parse makes of one word, by how the word looks.
use Rattle.std.proofs.Common.{◌≡◌, ◌∙◌, ◌+◌, ◌&&◌, ap, sym, refl, ℕ, min, Bool, true, false, cond, List, [], ◌∷◌, Option, Some, None}
use Rattle.std.specs.Str.{bytes_eq}
use Rattle.clap.specs.Lexer.{usize_max}
use Rattle.clap.specs.Kinds.{Kinds, or_else}
use Rattle.clap.specs.declared.error.kind.ErrorKind.{ErrorKind}
use Rattle.clap.specs.declared.error.kind.ErrorKind.TheVariants as kind
use Rattle.clap.specs.Walk.{Held, Row, Rule, Waiting, Walk, idle, option, positional, arg_by_id, arg_by_index, arg_by_long, is_pending, pushed, reacted, settled, subcommand_met, walked}
use Rattle.clap.specs.Simple.{Shape}
use Rattle.clap.specs.Faults.{flags_fault, react_fault, settle_fault, turn_fault, word_fault}
use Rattle.cli_words.specs.Lines.{Form, Text, name_in, named, value_in}
use Rattle.cli_words.proofs.Looks.{IsLong, IsPlain, IsShort}
use Rattle.cli_words.proofs.Shapes.{HasForm, flag_rule, option_rule, positional_rule, rule_named}
use Rattle.cli_words.proofs.Steps.{at, or_else_none}

-- what is held, where the last value is not used yet
abbrev pub holding : List Row → Option (Text × List Text) → Held
holding rows pending = record { rows = rows; pending = pending; skip = 0 }

not_both : (b : Bool) {A : Type 0} (x y : A) → cond (b && false) x y ≡ y
not_both true x y = refl
not_both false x y = refl

-- nothing of the words below is a subcommand
unmet : (waiting : Waiting) (word : Text) → subcommand_met [] waiting word ≡ None
unmet idle word = refl
unmet (option id) word = refl
unmet positional word = refl

-- the word is refused
pub record IsRefused (s : Shape) (w : Walk) (word : Text) : Type 0 where
  pub kind : ErrorKind
  pub others : Kinds
  pub fault : turn_fault s [] w word ≡ kind ∷ others

module _ (s : Shape) (form : Form) (has : HasForm s form) (h : Held) where
  -- a positional word
  pub plain_turn : (k : ℕ) (word name : Text) → IsPlain word → arg_by_index s.rules k ≡ Some (positional_rule name k)
      → turn_fault s [] (at h idle k) word ≡ settle_fault s.rules s.args_override_self h
  plain_turn k word name v a = rw v.no_end (rw v.no_long (rw v.no_short (rw a (not_both (is_pending (positional_rule name k) h.pending) _ _))))

  pub plain_walked : (k : ℕ) (word name : Text) → IsPlain word → arg_by_index s.rules k ≡ Some (positional_rule name k)
      → walked s.rules [] (at h idle k) word ≡ at (pushed name word (settled s.rules h)) idle (min (k + 1) usize_max)
  unfolding walked
  plain_walked k word name v a = rw v.no_end (rw v.no_long (rw v.no_short (rw a
      (ap (λ x. at (pushed name word x) idle (min (k + 1) usize_max)) (not_both (is_pending (positional_rule name k) h.pending) h (settled s.rules h))))))

  -- a positional word too many
  pub stray_turn : (k : ℕ) (word : Text) → IsPlain word → arg_by_index s.rules k ≡ None
      → turn_fault s [] (at h idle k) word ≡ kind.UnknownArgument ∷ []
  stray_turn k word v a = rw v.no_end (rw v.no_long (rw v.no_short (rw a (rw has.leaf refl))))

  -- the value of an option that waits for it
  pub value_turn : (k : ℕ) (word name : Text) → IsPlain word → turn_fault s [] (at h (option name) k) word ≡ []
  value_turn k word name v = rw v.no_end (rw v.no_long (rw v.no_short refl))

  -- a flag or an option that the command lacks
  pub strange_fault : (waiting : Waiting) (k : ℕ) (word text : Text) → IsLong word text → named form.flags (name_in text) ≡ None → named form.options (name_in text) ≡ None
      → turn_fault s [] (at h waiting k) word ≡ kind.UnknownArgument ∷ []
  strange_fault waiting k word text l f o = go waiting
    where
      none : arg_by_long s.rules (name_in text) ≡ None
      none = has.long (name_in text) ∙ ap (λ x. rule_named x (named form.options (name_in text))) f ∙ ap (rule_named None) o

      go : (waiting : Waiting) → turn_fault s [] (at h waiting k) word ≡ kind.UnknownArgument ∷ []
      go idle = rw l.no_end (rw l.long (rw none refl))
      go (option id) = rw l.no_end (rw l.long (rw none refl))
      go positional = rw l.no_end (rw l.long (rw none refl))

  -- a short option
  pub short_fault : (waiting : Waiting) (k : ℕ) (word : Text) (x y : ℕ) (flags : Text) → IsShort word x y flags → h.skip ≡ 0
      → turn_fault s [] (at h waiting k) word ≡ kind.UnknownArgument ∷ []
  unfolding flags_fault
  short_fault idle k word x y flags l skip = rw l.no_end (rw l.no_long (rw l.short (rw skip (rw l.first (rw (has.no_short x) refl)))))
  short_fault (option id) k word x y flags l skip = rw l.no_end (rw l.no_long (rw l.short (rw skip (rw l.first (rw (has.no_short x) refl)))))
  short_fault positional k word x y flags l skip = rw l.no_end (rw l.no_long (rw l.short (rw skip (rw l.first (rw (has.no_short x) refl)))))

  module _ (k : ℕ) (word text : Text) (l : IsLong word text) (name : Text) where
    -- a flag of the command
    module _ (f : named form.flags (name_in text) ≡ Some name) where
      flag_found : arg_by_long s.rules (name_in text) ≡ Some (flag_rule name)
      flag_found = has.long (name_in text) ∙ ap (λ x. rule_named x (named form.options (name_in text))) f

      pub flag_turn : value_in text ≡ None → turn_fault s [] (at h idle k) word ≡ react_fault s.rules s.args_override_self (flag_rule name) [] h
      flag_turn v = rw l.no_end (rw l.long (rw flag_found (rw v (or_else_none _))))

      pub flag_walked : value_in text ≡ None → walked s.rules [] (at h idle k) word ≡ at (reacted s.rules (flag_rule name) [] h) idle k
      unfolding walked
      flag_walked v = rw l.no_end (rw l.long (rw flag_found (rw v refl)))

      pub flag_joined : (waiting : Waiting) (value : Text) → value_in text ≡ Some value → turn_fault s [] (at h waiting k) word ≡ kind.TooManyValues ∷ []
      flag_joined idle value v = rw l.no_end (rw l.long (rw flag_found (rw v refl)))
      flag_joined (option id) value v = rw l.no_end (rw l.long (rw flag_found (rw v refl)))
      flag_joined positional value v = rw l.no_end (rw l.long (rw flag_found (rw v refl)))

    -- an option of the command
    module _ (f : named form.flags (name_in text) ≡ None) (o : named form.options (name_in text) ≡ Some name) where
      option_found : arg_by_long s.rules (name_in text) ≡ Some (option_rule name)
      option_found = has.long (name_in text) ∙ ap (λ x. rule_named x (named form.options (name_in text))) f ∙ ap (rule_named None) o

      pub joined_turn : (value : Text) → value_in text ≡ Some value
          → turn_fault s [] (at h idle k) word ≡ react_fault s.rules s.args_override_self (option_rule name) (value ∷ []) h
      joined_turn value v = rw l.no_end (rw l.long (rw option_found (rw v (or_else_none _))))

      pub joined_walked : (value : Text) → value_in text ≡ Some value
          → walked s.rules [] (at h idle k) word ≡ at (reacted s.rules (option_rule name) (value ∷ []) h) idle k
      unfolding walked
      joined_walked value v = rw l.no_end (rw l.long (rw option_found (rw v refl)))

      pub alone_turn : value_in text ≡ None → turn_fault s [] (at h idle k) word ≡ settle_fault s.rules s.args_override_self h
      alone_turn v = rw l.no_end (rw l.long (rw option_found (rw v (or_else_none _))))

      pub alone_walked : value_in text ≡ None
          → walked s.rules [] (at h idle k) word ≡ at (record (settled s.rules h) { pending = Some (name, []) }) (option name) k
      unfolding walked
      alone_walked v = rw l.no_end (rw l.long (rw option_found (rw v refl)))

  -- where what is held is refused, so is each word that begins with a hyphen
  module _ (e : ErrorKind) (es : Kinds) (held : settle_fault s.rules s.args_override_self h ≡ e ∷ es) (waiting : Waiting) (k : ℕ) (word : Text) where
    module _ (text : Text) (l : IsLong word text) where
      refused_by : (flag option value : Option Text) → named form.flags (name_in text) ≡ flag → named form.options (name_in text) ≡ option → value_in text ≡ value
          → IsRefused s (at h waiting k) word
      refused_by (Some name) o None f _ v = record { kind = e; others = es; fault = rw (unmet waiting word) (rw l.no_end (rw l.long (rw (flag_found k word text l name f) (rw v (rw held refl))))) }
      refused_by (Some name) o (Some value) f _ v = record { kind = kind.TooManyValues; others = []; fault = flag_joined k word text l name f waiting value v }
      refused_by None (Some name) (Some value) f o v = record { kind = e; others = es; fault = rw (unmet waiting word) (rw l.no_end (rw l.long (rw (option_found k word text l name f o) (rw v (rw held refl))))) }
      refused_by None (Some name) None f o v = record { kind = e; others = es; fault = rw (unmet waiting word) (rw l.no_end (rw l.long (rw (option_found k word text l name f o) (rw v (rw held refl))))) }
      refused_by None None value f o v = record { kind = kind.UnknownArgument; others = []; fault = strange_fault waiting k word text l f o }

      pub long_refused : IsRefused s (at h waiting k) word
      long_refused = refused_by _ _ _ refl refl refl
