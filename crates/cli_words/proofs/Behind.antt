-- A parse of the words behind a command gives what the definition gives.
use Rattle.std.proofs.Common.{◌≡◌, ◌∙◌, ◌+◌, ap, sym, refl, ℕ, min, Bool, true, false, cond, List, [], ◌∷◌, ◌++◌, Option, Some, None, is_some}
use Rattle.std.specs.Prelude.{codes, fold, option_and_then}
use Rattle.std.specs.Str.{bytes_eq}
use Rattle.std.proofs.lemmas.Slice.Eq.{bytes_eq-Decides}
use Rattle.clap.specs.Lexer.{usize_max}
use Rattle.clap.specs.Kinds.{Kinds, or_else}
use Rattle.clap.specs.declared.error.kind.ErrorKind.{ErrorKind}
use Rattle.clap.specs.declared.error.kind.ErrorKind.TheVariants as kind
use Rattle.clap.specs.Walk.{Held, Row, Rule, Waiting, Walk, idle, option, arg_by_id, nothing_held, option_word, settled_rows, used, used_by_id, walked, with_default}
use Rattle.clap.specs.Simple.{Shape}
use Rattle.clap.specs.Faults.{check_fault, defaults_fault, settle_fault, turn_fault, use_fault, walk_fault}
use Rattle.cli_words.specs.declared.words.Words.{Words}
use Rattle.cli_words.specs.Lines.{Form, Given, Line, Text, ended, give, given_by, name_in, named, value_in, value_of, with_word, with_words}
use Rattle.cli_words.proofs.Looks.{IsLong, IsPlain, IsShort, Look, Looks, long, plain, short}
use Rattle.cli_words.proofs.Rows.{flag_fault, flag_used, option_fault, option_used, positional_fault, positional_used, rows, twice}
use Rattle.cli_words.proofs.Shapes.{HasForm, Positions, flag_rule, option_rule, positional_rule}
use Rattle.cli_words.proofs.Steps.{EndsWell, at, begun, end_fault, read_from, read_of, step, stop, unless}
use Rattle.cli_words.proofs.Turns.{IsRefused, holding, alone_turn, alone_walked, flag_joined, flag_turn, flag_walked, joined_turn, joined_walked, long_refused, plain_turn, plain_walked, short_fault, stray_turn, strange_fault, value_turn}

abbrev pub line : List Given → List Text → Option Text → Line
line given wanted waiting = record { given = given; wanted = wanted; waiting = waiting }

abbrev one : Text → Text → List Given
one name value = record { name = name; value = value } ∷ []

module _ (s : Shape) (form : Form) (has : HasForm s form) (read : List Row → Option Words) (ask : List Given → Option Words) where
  abbrev pub answer : Option Line → Option Words
  answer = option_and_then (λ l. option_and_then ask (ended l.waiting l.given))

  abbrev fault : Held → Kinds
  fault h = settle_fault s.rules s.args_override_self h

  -- from each state of a parse on these words are read as the definition says
  pub record ReadsAs (ws : List Text) : Type 0 where
    pub idly : (rs : List Row) (pending : Option (Text × List Text)) (given : List Given) (wanted : List Text) (k : ℕ) → Positions s.rules k wanted
        → fault (holding rs pending) ≡ [] → settled_rows s.rules pending rs ≡ rows given
        → read_from s read (at (holding rs pending) idle k) ws ≡ answer (with_words form ws (line given wanted None))
    pub waiting : (given : List Given) (wanted : List Text) (k : ℕ) (name : Text) → Positions s.rules k wanted → arg_by_id s.rules name ≡ Some (option_rule name)
        → read_from s read (at (holding (rows given) (Some (name, []))) (option name) k) ws ≡ answer (with_words form ws (line given wanted (Some name)))

  -- where what is held is refused, nothing is read
  doomed_end : (h : Held) (w : Waiting) (k : ℕ) (e : ErrorKind) (es : Kinds) → fault h ≡ e ∷ es → read_from s read (at h w k) [] ≡ None
  unfolding walk_fault
  doomed_end h w k e es held = rw held refl

  is_refused : (w : Walk) (x : Text) (ws : List Text) → IsRefused s w x → read_from s read w (x ∷ ws) ≡ None
  is_refused w x ws r = stop s read w x ws r.kind r.others r.fault

  doomed : (rs : List Row) (pending : Option (Text × List Text)) (wanted : List Text) (k : ℕ) (e : ErrorKind) (es : Kinds) → Positions s.rules k wanted
      → fault (holding rs pending) ≡ e ∷ es → (ws : List Text) → Looks ws → read_from s read (at (holding rs pending) idle k) ws ≡ None
  doomed rs pending wanted k e es p held [] l = doomed_end (holding rs pending) idle k e es held
  doomed rs pending [] k e es p held (x ∷ ws) (plain v, l) = stop s read _ x ws _ _ (stray_turn s form has (holding rs pending) k x v p)
  doomed rs pending (name ∷ wanted) k e es p held (x ∷ ws) (plain v, l) =
      stop s read _ x ws e es (plain_turn s form has (holding rs pending) k x name v p.0 ∙ held)
  doomed rs pending wanted k e es p held (x ∷ ws) (long text v, l) = is_refused _ x ws (long_refused s form has (holding rs pending) e es held idle k x text v)
  doomed rs pending wanted k e es p held (x ∷ ws) (short c y cs v, l) = stop s read _ x ws _ _ (short_fault s form has (holding rs pending) idle k x c y cs v refl)

  -- the words behind a line
  abbrev onward : List Text → Option Line → Option Words
  onward ws l = answer (option_and_then (λ next. with_words form ws next) l)

  module _ (x : Text) (ws : List Text) (looks : Looks ws) (next : ReadsAs ws) where
    -- a value is held that is used only later
    later : (b : Bool) (given : List Given) (wanted : List Text) (k : ℕ) (name value : Text) (waits : Option Text) (rule : Rule) → Positions s.rules k wanted
        → arg_by_id s.rules name ≡ Some rule → is_some (value_of given name) ≡ b
        → use_fault s.args_override_self rule (value ∷ []) (rows given) ≡ twice (is_some (value_of given name))
        → (is_some (value_of given name) ≡ false → used rule (value ∷ []) (rows given) ≡ rows (given ++ one name value))
        → read_from s read (at (holding (rows given) (Some (name, value ∷ []))) idle k) ws ≡ onward ws (give name value (line given wanted waits))
    later true given wanted k name value waits rule p a is fault_is used_is =
        doomed (rows given) (Some (name, value ∷ [])) wanted k kind.ArgumentConflict [] p (rw a (fault_is ∙ ap twice is)) ws looks ∙ rw is refl
    later false given wanted k name value waits rule p a is fault_is used_is =
        next.idly (rows given) (Some (name, value ∷ [])) (given ++ one name value) wanted k p (rw a (fault_is ∙ ap twice is)) (rw a (used_is is)) ∙ rw is refl

    -- a value is used at once
    now : (b : Bool) (rs : List Row) (pending : Option (Text × List Text)) (given : List Given) (wanted : List Text) (k : ℕ) (name value : Text) (vs : List Text) (rule : Rule)
        → Positions s.rules k wanted → fault (holding rs pending) ≡ [] → settled_rows s.rules pending rs ≡ rows given
        → turn_fault s [] (at (holding rs pending) idle k) x ≡ or_else (fault (holding rs pending)) (use_fault s.args_override_self rule vs (settled_rows s.rules pending rs))
        → walked s.rules [] (at (holding rs pending) idle k) x ≡ at (holding (used rule vs (settled_rows s.rules pending rs)) None) idle k
        → is_some (value_of given name) ≡ b → use_fault s.args_override_self rule vs (rows given) ≡ twice (is_some (value_of given name))
        → (is_some (value_of given name) ≡ false → used rule vs (rows given) ≡ rows (given ++ one name value))
        → read_from s read (at (holding rs pending) idle k) (x ∷ ws) ≡ onward ws (give name value (line given wanted None))
    now true rs pending given wanted k name value vs rule p fine same turn walk is fault_is used_is =
        stop s read _ x ws _ _ (turn ∙ ap (λ f. or_else f (use_fault s.args_override_self rule vs (settled_rows s.rules pending rs))) fine
        ∙ ap (use_fault s.args_override_self rule vs) same ∙ fault_is ∙ ap twice is) ∙ rw is refl
    now false rs pending given wanted k name value vs rule p fine same turn walk is fault_is used_is =
        step s read _ _ x ws (turn ∙ ap (λ f. or_else f (use_fault s.args_override_self rule vs (settled_rows s.rules pending rs))) fine
        ∙ ap (use_fault s.args_override_self rule vs) same ∙ fault_is ∙ ap twice is) walk
        ∙ next.idly (used rule vs (settled_rows s.rules pending rs)) None (given ++ one name value) wanted k p refl (ap (used rule vs) same ∙ used_is is) ∙ rw is refl

    module _ (rs : List Row) (pending : Option (Text × List Text)) (given : List Given) (fine : fault (holding rs pending) ≡ []) (same : settled_rows s.rules pending rs ≡ rows given) where
      -- a word that is no flag and no option, where nothing waits for it
      plain_read : (wanted : List Text) (k : ℕ) → Positions s.rules k wanted → IsPlain x
          → read_from s read (at (holding rs pending) idle k) (x ∷ ws) ≡ answer (with_words form (x ∷ ws) (line given wanted None))
      plain_read [] k p v = stop s read _ x ws _ _ (stray_turn s form has (holding rs pending) k x v p) ∙ rw v.dashed refl
      plain_read (name ∷ wanted) k p v =
          step s read _ _ x ws (plain_turn s form has (holding rs pending) k x name v p.0 ∙ fine) (plain_walked s form has (holding rs pending) k x name v p.0)
          ∙ ap (λ r. read_from s read (at (holding r (Some (name, x ∷ []))) idle (min (k + 1) usize_max)) ws) same
          ∙ later _ given wanted (min (k + 1) usize_max) name x None (positional_rule name k) p.2 p.1 refl
          (positional_fault s.args_override_self given name x k has.once) (positional_used given name x k) ∙ rw v.dashed refl

      -- a flag or an option
      long_read : (wanted : List Text) (k : ℕ) → Positions s.rules k wanted → (text : Text) → IsLong x text → (flag option value : Option Text)
          → named form.flags (name_in text) ≡ flag → named form.options (name_in text) ≡ option → value_in text ≡ value
          → read_from s read (at (holding rs pending) idle k) (x ∷ ws) ≡ answer (with_words form (x ∷ ws) (line given wanted None))
      long_read wanted k p text l (Some name) o None f _ v =
          now _ rs pending given wanted k name (codes "true") [] (flag_rule name) p fine same (flag_turn s form has (holding rs pending) k x text l name f v)
          (flag_walked s form has (holding rs pending) k x text l name f v) refl (flag_fault s.args_override_self given name has.once) (flag_used given name)
          ∙ rw l.dashed (rw l.behind (rw f (rw v refl)))
      long_read wanted k p text l (Some name) o (Some value) f _ v =
          stop s read _ x ws _ _ (flag_joined s form has (holding rs pending) k x text l name f idle value v) ∙ rw l.dashed (rw l.behind (rw f (rw v refl)))
      long_read wanted k p text l None (Some name) (Some value) f o v =
          now _ rs pending given wanted k name value (value ∷ []) (option_rule name) p fine same (joined_turn s form has (holding rs pending) k x text l name f o value v)
          (joined_walked s form has (holding rs pending) k x text l name f o value v) refl (option_fault s.args_override_self given name value has.once) (option_used given name value)
          ∙ rw l.dashed (rw l.behind (rw f (rw o (rw v refl))))
      long_read wanted k p text l None (Some name) None f o v =
          step s read _ _ x ws (alone_turn s form has (holding rs pending) k x text l name f o v ∙ fine) (alone_walked s form has (holding rs pending) k x text l name f o v)
          ∙ ap (λ r. read_from s read (at (holding r (Some (name, []))) (option name) k) ws) same
          ∙ next.waiting given wanted k name p (has.id (name_in text) name o) ∙ rw l.dashed (rw l.behind (rw f (rw o (rw v refl))))
      long_read wanted k p text l None None value f o v =
          stop s read _ x ws _ _ (strange_fault s form has (holding rs pending) idle k x text l f o) ∙ rw l.dashed (rw l.behind (rw f (rw o refl)))

      -- a word, where nothing waits for it
      word_read : Look x → (wanted : List Text) (k : ℕ) → Positions s.rules k wanted
          → read_from s read (at (holding rs pending) idle k) (x ∷ ws) ≡ answer (with_words form (x ∷ ws) (line given wanted None))
      word_read (plain v) wanted k p = plain_read wanted k p v
      word_read (long text v) wanted k p = long_read wanted k p text v _ _ _ refl refl refl
      word_read (short c y cs v) wanted k p =
          stop s read _ x ws _ _ (short_fault s form has (holding rs pending) idle k x c y cs v refl) ∙ rw v.dashed (rw v.behind refl)

    module _ (given : List Given) (wanted : List Text) (k : ℕ) (name : Text) (p : Positions s.rules k wanted) (a : arg_by_id s.rules name ≡ Some (option_rule name)) where
      lacks : fault (holding (rows given) (Some (name, []))) ≡ kind.InvalidValue ∷ []
      lacks = rw a refl

      -- the value that an option waits for
      value_walked : IsPlain x → walked s.rules [] (at (holding (rows given) (Some (name, []))) (option name) k) x
          ≡ at (holding (rows given) (Some (name, x ∷ []))) idle k
      unfolding walked
      value_walked v = rw v.no_end (rw v.no_long (rw v.no_short (rw a (rw ((bytes_eq-Decides name name).1 refl) refl))))

      waited : Look x → read_from s read (at (holding (rows given) (Some (name, []))) (option name) k) (x ∷ ws)
          ≡ answer (with_words form (x ∷ ws) (line given wanted (Some name)))
      waited (plain v) =
          step s read _ _ x ws (value_turn s form has (holding (rows given) (Some (name, []))) k x name v) (value_walked v)
          ∙ later _ given wanted k name x (Some name) (option_rule name) p a refl (option_fault s.args_override_self given name x has.once) (option_used given name x)
          ∙ rw v.dashed refl
      waited (long text v) =
          is_refused _ x ws (long_refused s form has (holding (rows given) (Some (name, []))) kind.InvalidValue [] lacks (option name) k x text v) ∙ rw v.dashed refl
      waited (short c y cs v) =
          stop s read _ x ws _ _ (short_fault s form has (holding (rows given) (Some (name, []))) (option name) k x c y cs v refl) ∙ rw v.dashed refl

  module _ (ends : EndsWell s read ask) where
    end_read : (rs : List Row) (pending : Option (Text × List Text)) (given : List Given) (k : ℕ) → fault (holding rs pending) ≡ [] → settled_rows s.rules pending rs ≡ rows given
        → read_from s read (at (holding rs pending) idle k) [] ≡ ask given
    unfolding walk_fault
    end_read rs pending given k fine same = rw fine (rw same (ends given))

    reads : (ws : List Text) → Looks ws → ReadsAs ws
    reads [] l = record {
      idly = λ rs pending given wanted k p fine same. end_read rs pending given k fine same;
      waiting = λ given wanted k name p a. doomed_end (holding (rows given) (Some (name, []))) (option name) k kind.InvalidValue [] (rw a refl);
    }
    reads (x ∷ ws) (look, looks) = record {
      idly = λ rs pending given wanted k p fine same. word_read x ws looks (reads ws looks) rs pending given fine same look wanted k p;
      waiting = λ given wanted k name p a. waited x ws looks (reads ws looks) given wanted k name p a look;
    }

    -- what a parse reads of the words is what they ask for
    pub behind : (ws : List Text) → Looks ws → read_of s read ws ≡ option_and_then ask (given_by form ws)
    behind ws looks = (reads ws looks).idly [] None [] form.positionals 1 has.positions refl refl ∙ whole (with_words form ws (line [] form.positionals None))
      where
        whole : (l : Option Line) → answer l ≡ option_and_then ask (option_and_then (λ l. ended l.waiting l.given) l)
        whole None = refl
        whole (Some l) = refl
