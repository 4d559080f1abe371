-- Words of kinds that were read by the member's name alone, and what they are read as.
use Rattle.std.proofs.Common.{◌≡◌, List, ℕ, refl}
use Rattle.std.specs.Prelude.{Some, None, Ok, Err, codes}
use Rattle.json_view.specs.declared.wants.Wanted.TheVariants as wanted
use Rattle.json_view.specs.declared.faults.Shape.{Shape}
use Rattle.json_view.specs.Parts.{shape}
use Rattle.json_view.specs.Inner.Parts.{text_member_as}
use Rattle.json_view.specs.Paths.{member_path}
use Rattle.json_view.specs.Seen.{Seen}
use Rattle.json_view.proofs.Members.{text_was_read, no_text_was_read}
use Rattle.emu_names.specs.declared.kinds.LevelKind.{LevelKind}
use Rattle.emu_names.specs.declared.kinds.LinkKind.{LinkKind}
use Rattle.config_json.specs.Forms.{level_kind_named, level_kind_in, level_kind_at, link_kind_named, link_kind_in, link_kind_at}

-- a level of this kind
pub level_kind_there : (word : List ℕ) (kind : LevelKind) (s : Seen) → text_member_as wanted.Kind (codes "type") s ≡ Ok word
    → level_kind_named word ≡ Some kind → level_kind_at s ≡ Ok kind
unfolding level_kind_at level_kind_in
level_kind_there word kind s here known =
    text_was_read wanted.Kind (codes "type") word s level_kind_in (Ok kind) here λ d is. rw (is, known) refl

-- a word that is no kind of a level
pub level_kind_bad : (word : List ℕ) (s : Seen) → text_member_as wanted.Kind (codes "type") s ≡ Ok word
    → level_kind_named word ≡ None → level_kind_at s ≡ Err (shape (member_path s.path (codes "type")) wanted.Kind)
unfolding level_kind_at level_kind_in
level_kind_bad word s here unknown =
    text_was_read wanted.Kind (codes "type") word s level_kind_in _ here λ d is. rw (is, unknown) refl

-- a member that is no text
pub level_kind_none : (e : Shape) (s : Seen) → text_member_as wanted.Kind (codes "type") s ≡ Err e → level_kind_at s ≡ Err e
unfolding level_kind_at level_kind_in
level_kind_none e s none = no_text_was_read wanted.Kind (codes "type") e s level_kind_in none λ d is. rw is refl

-- a link definition of this kind
pub link_kind_there : (word : List ℕ) (kind : LinkKind) (s : Seen) → text_member_as wanted.Kind (codes "type") s ≡ Ok word
    → link_kind_named word ≡ Some kind → link_kind_at s ≡ Ok kind
unfolding link_kind_at link_kind_in
link_kind_there word kind s here known =
    text_was_read wanted.Kind (codes "type") word s link_kind_in (Ok kind) here λ d is. rw (is, known) refl

-- a word that is no kind of a link definition
pub link_kind_bad : (word : List ℕ) (s : Seen) → text_member_as wanted.Kind (codes "type") s ≡ Ok word
    → link_kind_named word ≡ None → link_kind_at s ≡ Err (shape (member_path s.path (codes "type")) wanted.Kind)
unfolding link_kind_at link_kind_in
link_kind_bad word s here unknown =
    text_was_read wanted.Kind (codes "type") word s link_kind_in _ here λ d is. rw (is, unknown) refl

-- a member that is no text
pub link_kind_none : (e : Shape) (s : Seen) → text_member_as wanted.Kind (codes "type") s ≡ Err e → link_kind_at s ≡ Err e
unfolding link_kind_at link_kind_in
link_kind_none e s none = no_text_was_read wanted.Kind (codes "type") e s link_kind_in none λ d is. rw is refl

pub ruleset level_kinds_read = (level_kind_there, level_kind_bad, level_kind_none)

pub ruleset link_kinds_read = (link_kind_there, link_kind_bad, link_kind_none)
