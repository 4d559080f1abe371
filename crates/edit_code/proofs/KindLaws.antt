-- The numbers of kinds: each kind of a list is found by its own, and no other number finds one.
use Rattle.std.proofs.Common.{◌≡◌, ◌≢◌, ℕ, suc, ◌<◌, ◌∙◌, Bool, true, false, List, [], ◌∷◌, length, refl, sym, ap, subst, arith, Some, None}
use Rattle.std.specs.Prelude.{◌==◌, ◌&&◌, Option, Result, Ok, Err}
use Rattle.std.specs.List.{find, list_all}
use Rattle.std.proofs.lemmas.Bool.Decides.{nat_tests}
use Rattle.bundle_edits.specs.declared.edit.Edit.{Edit}
use Rattle.bundle_edits.specs.declared.edit.Edit.TheVariants as edits
use Rattle.edit_rules.specs.declared.acts.Act.{Act}
use Rattle.edit_rules.specs.declared.acts.ConfigEdit.{ConfigEdit}
use Rattle.edit_rules.specs.declared.acts.ConfigEdit.TheVariants as config_edits
use Rattle.edit_rules.specs.Inner.Acts.{is_inner}
use Rattle.edit_code.specs.declared.kinds.Addition.{Addition}
use Rattle.edit_code.specs.declared.kinds.Addition.TheVariants as additions
use Rattle.edit_code.specs.declared.kinds.Body.{Body}
use Rattle.edit_code.specs.declared.kinds.Body.TheVariants as bodies
use Rattle.edit_code.specs.declared.kinds.Kind.{Kind}
use Rattle.edit_code.specs.declared.kinds.Kind.TheVariants as kinds
use Rattle.byte_forms.specs.Forms.{Form}
use Rattle.edit_code.specs.Additions.{addition_of}
use Rattle.edit_code.specs.Edits.{body_of}
use Rattle.edit_code.specs.Fields.{fields_of, kind_of}
use Rattle.edit_code.specs.Kinds.{all_additions, addition_number, all_bodies, body_number, all_kinds, inner_kinds, kind_number}
use Rattle.edit_code.specs.Tags.{kind_at, tag_form}

-- Each number is a byte.

pub body_is_byte : (b : Body) → body_number b < 256
body_is_byte bodies.One = omega arith
body_is_byte bodies.Several = omega arith
body_is_byte bodies.Config = omega arith

pub addition_is_byte : (a : Addition) → addition_number a < 256
addition_is_byte additions.Level = omega arith
addition_is_byte additions.Attribute = omega arith
addition_is_byte additions.Link = omega arith

pub kind_is_byte : (k : Kind) → kind_number k < 256
kind_is_byte kinds.AddBundle = omega arith
kind_is_byte kinds.DropBundle = omega arith
kind_is_byte kinds.AddItem = omega arith
kind_is_byte kinds.RemoveItem = omega arith
kind_is_byte kinds.SetLabel = omega arith
kind_is_byte kinds.SetSegment = omega arith
kind_is_byte kinds.MoveBoundary = omega arith
kind_is_byte kinds.SetPoint = omega arith
kind_is_byte kinds.Split = omega arith
kind_is_byte kinds.Merge = omega arith
kind_is_byte kinds.AddLink = omega arith
kind_is_byte kinds.RemoveLink = omega arith
kind_is_byte kinds.LinkTimes = omega arith
kind_is_byte kinds.PutItem = omega arith
kind_is_byte kinds.PutLabel = omega arith
kind_is_byte kinds.PutLink = omega arith

-- Each kind is found by its number.

pub body_there : (b : Body) → kind_at all_bodies body_number (body_number b) ≡ Some b
body_there bodies.One = refl
body_there bodies.Several = refl
body_there bodies.Config = refl

pub addition_there : (a : Addition) → kind_at all_additions addition_number (addition_number a) ≡ Some a
addition_there additions.Level = refl
addition_there additions.Attribute = refl
addition_there additions.Link = refl

pub kind_there : (k : Kind) → kind_at all_kinds kind_number (kind_number k) ≡ Some k
kind_there kinds.AddBundle = refl
kind_there kinds.DropBundle = refl
kind_there kinds.AddItem = refl
kind_there kinds.RemoveItem = refl
kind_there kinds.SetLabel = refl
kind_there kinds.SetSegment = refl
kind_there kinds.MoveBoundary = refl
kind_there kinds.SetPoint = refl
kind_there kinds.Split = refl
kind_there kinds.Merge = refl
kind_there kinds.AddLink = refl
kind_there kinds.RemoveLink = refl
kind_there kinds.LinkTimes = refl
kind_there kinds.PutItem = refl
kind_there kinds.PutLabel = refl
kind_there kinds.PutLink = refl

-- No other number finds one.

-- a number of none of the kinds
abbrev pub Differs : {K : Type 0} → (K → ℕ) → ℕ → List K → Type 0
Differs number n [] = Unit {0}
Differs number n (k ∷ ks) = (n ≡ number k → ⊥) × Differs number n ks

apart : (m n : ℕ) → (n ≡ m → ⊥) → (m == n) ≡ false
apart m n h = let ne : n ≢ m = h in grind (arith, nat_tests)

pub none_of : {K : Type 0} (number : K → ℕ) (n : ℕ) (ks : List K) → Differs number n ks → kind_at ks number n ≡ None
none_of number n [] d = refl
none_of number n (k ∷ ks) d = rw (apart (number k) n d.0) (none_of number n ks d.1)

pub no_body : (n : ℕ) → (n ≡ 1 → ⊥) → (n ≡ 2 → ⊥) → (n ≡ 3 → ⊥) → kind_at all_bodies body_number n ≡ None
no_body n h1 h2 h3 = none_of body_number n all_bodies (h1, (h2, (h3, tt)))

pub no_addition : (n : ℕ) → (n ≡ 13 → ⊥) → (n ≡ 14 → ⊥) → (n ≡ 15 → ⊥) → kind_at all_additions addition_number n ≡ None
no_addition n h13 h14 h15 = none_of addition_number n all_additions (h13, (h14, (h15, tt)))

pub no_kind : (n : ℕ) → (n ≡ 1 → ⊥) → (n ≡ 2 → ⊥) → (n ≡ 3 → ⊥) → (n ≡ 4 → ⊥) → (n ≡ 5 → ⊥) → (n ≡ 6 → ⊥) → (n ≡ 7 → ⊥) → (n ≡ 8 → ⊥) → (n ≡ 9 → ⊥) → (n ≡ 10 → ⊥) → (n ≡ 11 → ⊥) → (n ≡ 12 → ⊥) → (n ≡ 16 → ⊥) → (n ≡ 17 → ⊥) → (n ≡ 18 → ⊥) → (n ≡ 19 → ⊥) → kind_at all_kinds kind_number n ≡ None
no_kind n h1 h2 h3 h4 h5 h6 h7 h8 h9 h10 h11 h12 h16 h17 h18 h19 = none_of kind_number n all_kinds (h1, (h2, (h3, (h4, (h5, (h6, (h7, (h8, (h9, (h10, (h11, (h12, (h16, (h17, (h18, (h19, tt))))))))))))))))

-- What has a kind fits its form.

pub body_fits : (act : Act) → (tag_form all_bodies body_number).fits (body_of act)
unfolding tag_form
body_fits act = (body_is_byte (body_of act), body_there (body_of act))

pub addition_fits : (edit : ConfigEdit) → (tag_form all_additions addition_number).fits (addition_of edit)
unfolding tag_form
addition_fits edit = (addition_is_byte (addition_of edit), addition_there (addition_of edit))

pub kind_fits : (e : Edit) → (tag_form all_kinds kind_number).fits (kind_of (fields_of e))
unfolding tag_form
kind_fits e = (kind_is_byte (kind_of (fields_of e)), kind_there (kind_of (fields_of e)))

pub inner_fits : (e : Edit) → is_inner e ≡ true → (tag_form inner_kinds kind_number).fits (kind_of (fields_of e))
unfolding tag_form
inner_fits (edits.AddBundle key annot) h = absurd cc
inner_fits (edits.DropBundle key) h = absurd cc
inner_fits (edits.AddItem key level position item) h = (omega arith, refl)
inner_fits (edits.RemoveItem key id) h = (omega arith, refl)
inner_fits (edits.SetLabel key id attribute label) h = (omega arith, refl)
inner_fits (edits.SetSegment key id start dur) h = (omega arith, refl)
inner_fits (edits.MoveBoundary key id start) h = (omega arith, refl)
inner_fits (edits.SetPoint key id at) h = (omega arith, refl)
inner_fits (edits.Split key id new_id start) h = (omega arith, refl)
inner_fits (edits.Merge key id) h = (omega arith, refl)
inner_fits (edits.AddLink key from to) h = (omega arith, refl)
inner_fits (edits.RemoveLink key from to) h = (omega arith, refl)
inner_fits (edits.LinkTimes key upper lower) h = absurd cc
inner_fits (edits.PutItem key level position item) h = (omega arith, refl)
inner_fits (edits.PutLabel key id attribute label) h = (omega arith, refl)
inner_fits (edits.PutLink key from to place) h = (omega arith, refl)
