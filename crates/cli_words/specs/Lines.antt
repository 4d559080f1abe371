-- What the words behind a command's name give: flags, options with a value each, and positional words.
use Rattle.std.specs.Prelude.{ℕ, Bool, false, ◌&&◌, ◌==◌, cond, List, [], ◌∷◌, ◌++◌, length, nat_le, slice_index, codes, find, drop, take, Option, Some, None, is_some, option_map, option_and_then}
use Rattle.std.specs.List.{after_first, before_first, list_any}
use Rattle.std.specs.Str.{bytes_eq}

abbrev pub Text : Type 0
Text = List ℕ

-- what a command takes: its flags, its options and its positional words in their order, by their names
pub record Form : Type 0 where
  pub flags : List Text
  pub options : List Text
  pub positionals : List Text

-- a value under its name; the value of a flag is the text `true`
pub record Given : Type 0 where
  pub name : Text
  pub value : Text

-- the value under a name, where there is one
abbrev pub value_of : List Given → Text → Option Text
value_of given name = option_map (λ g. g.value) (find (λ g. bytes_eq g.name name) given)

-- the value of a flag that is set
abbrev pub is_true : Option Text → Bool
is_true None = false
is_true (Some value) = bytes_eq value (codes "true")

-- what words came to so far: the values, the names of the positional words still to come, and the option whose value the
-- next word is
pub record Line : Type 0 where
  pub given : List Given
  pub wanted : List Text
  pub waiting : Option Text

-- the word begins with `-` (the byte 45), and is not `-` alone
abbrev pub is_dashed : Text → Bool
is_dashed word = nat_le 2 (length word) && (slice_index word 0 == 45)

-- what stands behind the `--` of a word that begins so
abbrev pub behind_dashes : Text → Option Text
behind_dashes word = cond (bytes_eq (take 2 word) (codes "--")) (Some (drop 2 word)) None

-- what stands before the first `=` (the byte 61), or all
abbrev pub name_in : Text → Text
name_in text = before_first (λ b. b == 61) text

-- what stands behind the first `=`, where there is one
abbrev pub value_in : Text → Option Text
value_in text = cond (list_any (λ b. b == 61) text) (Some (after_first (λ b. b == 61) text)) None

-- the one of these names that the text is
abbrev pub named : List Text → Text → Option Text
named names text = find (λ name. bytes_eq name text) names

-- the line with one more value; no name gets two
abbrev pub give : Text → Text → Line → Option Line
give name value line = cond (is_some (value_of line.given name)) None
    (Some (record line { given = line.given ++ record { name = name; value = value } ∷ []; waiting = None }))

-- a word that names a flag, or an option with the value in the same word or in the next one
abbrev pub with_named : Option Text → Option Text → Option Text → Line → Option Line
with_named (Some flag) option None line = give flag (codes "true") line
with_named (Some flag) option (Some value) line = None
with_named None (Some option) (Some value) line = give option value line
with_named None (Some option) None line = Some (record line { waiting = Some option })
with_named None None value line = None

-- a word that begins with `-`: nothing but a flag or an option of the command, where no option waits for its value
abbrev pub with_dashed : Form → Option Text → Text → Line → Option Line
with_dashed form (Some option) word line = None
with_dashed form None word line = option_and_then (λ text.
    with_named (named form.flags (name_in text)) (named form.options (name_in text)) (value_in text) line) (behind_dashes word)

-- any other word: the value of the option that waits for one, or the next positional word
abbrev pub with_plain : Option Text → List Text → Text → Line → Option Line
with_plain (Some option) wanted word line = give option word line
with_plain None [] word line = None
with_plain None (name ∷ wanted) word line = give name word (record line { wanted = wanted })

-- the line with one more word
abbrev pub with_word : Form → Text → Line → Option Line
with_word form word line =
    cond (is_dashed word) (with_dashed form line.waiting word line) (with_plain line.waiting line.wanted word line)

-- the line with more words
abbrev pub with_words : Form → List Text → Line → Option Line
with_words form [] line = Some line
with_words form (word ∷ words) line = option_and_then (λ next. with_words form words next) (with_word form word line)

-- the values of a line that ends here
abbrev pub ended : Option Text → List Given → Option (List Given)
ended (Some option) given = None
ended None given = Some given

-- what words give a command of this form; there is nothing where they are not of this form
abbrev pub given_by : Form → List Text → Option (List Given)
given_by form words = option_and_then (λ line. ended line.waiting line.given)
    (with_words form words (record { given = []; wanted = form.positionals; waiting = None }))
