-- Texts of members that were read by their names alone, and what they are read as.
use Rattle.std.proofs.Common.{◌≡◌, List, [], ℕ, refl}
use Rattle.std.specs.Prelude.{true, false, Option, Some, None, Result, Ok, Err}
use Rattle.json_view.specs.declared.wants.Wanted.TheVariants as wanted
use Rattle.json_view.specs.declared.faults.Shape.{Shape}
use Rattle.json_view.specs.Inner.Parts as parts
use Rattle.json_view.specs.Parts.{optional_of, shape, text_at, text_there}
use Rattle.json_view.specs.Inner.Parts.{text_member_as}
use Rattle.json_view.specs.Paths.{member_path}
use Rattle.json_view.specs.Seen.{Seen}
use Rattle.json_view.specs.Steps.{◌>>=◌}
use Rattle.json_view.proofs.Members.{text_was_read, no_text_was_read}
use Rattle.emu_names.specs.Name.{is_name}
use Rattle.config_json.specs.Forms.{name_at, name_in, optional_text, text_or_empty}

-- a member that is a name
pub name_there : (name text : List ℕ) (s : Seen) → text_member_as wanted.Name name s ≡ Ok text
    → is_name text ≡ true → name_at name s ≡ Ok text
unfolding name_at name_in text_at
name_there name text s here good =
    text_was_read wanted.Name name text s name_in (Ok text) here λ d is. rw (is, good) refl

-- a text that is no name
pub name_bad : (name text : List ℕ) (s : Seen) → text_member_as wanted.Name name s ≡ Ok text
    → is_name text ≡ false → name_at name s ≡ Err (shape (member_path s.path name) wanted.Name)
unfolding name_at name_in text_at
name_bad name text s here bad =
    text_was_read wanted.Name name text s name_in _ here λ d is. rw (is, bad) refl

-- a member that is no text
pub name_none : (name : List ℕ) (e : Shape) (s : Seen) → text_member_as wanted.Name name s ≡ Err e
    → name_at name s ≡ Err e
unfolding name_at name_in text_at
name_none name e s none =
    no_text_was_read wanted.Name name e s name_in none λ d is. rw is refl

-- what was read of a member that may be missing
there_behind : (r : Result (Option Seen) Shape) (text : List ℕ) → (r >>= text_there) ≡ Ok (Some text)
    → (r >>= text_or_empty) ≡ Ok text
unfolding text_at
there_behind (Err e) text h = cc
there_behind (Ok None) text h = cc
there_behind (Ok (Some m)) text h = there_in (text_at m) text h
  where
    there_in : (t : Result (List ℕ) Shape) (text : List ℕ) → (t >>= λ x. Ok (Some x)) ≡ Ok (Some text) → t ≡ Ok text
    there_in (Err e) text h = cc
    there_in (Ok x) text h = cc

none_behind : (r : Result (Option Seen) Shape) → (r >>= text_there) ≡ Ok None → (r >>= text_or_empty) ≡ Ok []
none_behind (Err e) h = cc
none_behind (Ok None) h = refl
none_behind (Ok (Some m)) h = none_in (text_at m) h
  where
    none_in : (t : Result (List ℕ) Shape) → (t >>= λ x. Ok (Some x)) ≡ Ok None → t ≡ Ok []
    none_in (Err e) h = cc
    none_in (Ok x) h = cc

fault_behind : (r : Result (Option Seen) Shape) (e : Shape) → (r >>= text_there) ≡ Err e → (r >>= text_or_empty) ≡ Err e
fault_behind (Err f) e h = cc
fault_behind (Ok None) e h = cc
fault_behind (Ok (Some m)) e h = fault_in (text_at m) e h
  where
    fault_in : (t : Result (List ℕ) Shape) (e : Shape) → (t >>= λ x. Ok (Some x)) ≡ Err e → t ≡ Err e
    fault_in (Err f) e h = cc
    fault_in (Ok x) e h = cc

-- a member that is there and a text
pub text_there_read : (name text : List ℕ) (s : Seen) → parts.optional_text name s ≡ Ok (Some text)
    → optional_text name s ≡ Ok text
unfolding optional_text
text_there_read name text s h = there_behind (optional_of name s) text h

-- a member that is missing
pub text_none_read : (name : List ℕ) (s : Seen) → parts.optional_text name s ≡ Ok None → optional_text name s ≡ Ok []
unfolding optional_text
text_none_read name s h = none_behind (optional_of name s) h

-- a member that is there and no text, or of a value that is no object
pub text_fault_read : (name : List ℕ) (e : Shape) (s : Seen) → parts.optional_text name s ≡ Err e
    → optional_text name s ≡ Err e
unfolding optional_text
text_fault_read name e s h = fault_behind (optional_of name s) e h

pub ruleset names_read = (name_there, name_bad, name_none)

pub ruleset texts_read = (text_there_read, text_none_read, text_fault_read)
