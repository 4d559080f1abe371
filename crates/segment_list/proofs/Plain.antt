-- Texts whose bytes stand for themselves, and names that are the same.
use Rattle.std.proofs.Common.{◌≡◌, ℕ, List, [], ◌∷◌, Bool, true, false, ◌&&◌, ◌==◌, refl, ap, ◌∙◌, arith}
use Rattle.std.specs.List.{list_all}
use Rattle.std.proofs.lemmas.Bool.Decides.{nat_tests}
use Rattle.std.proofs.lemmas.Slice.Eq.{bytes_eq-Decides}
use Rattle.emu_names.specs.Texts.{same_text}
use Rattle.json.specs.Print.{escape, escape_byte}
use Rattle.segment_list.specs.Inner.Pieces.{is_plain, Names, names, are_beside}

both : (a b : Bool) → (a && b) ≡ true → (a ≡ true) × (b ≡ true)
both true b e = (refl, e)
both false b e = absurd cc

plain_byte : (b : ℕ) → is_plain b ≡ true → escape_byte b ≡ b ∷ []
unfolding escape_byte
plain_byte b plain = grind (arith, nat_tests)

-- a text whose bytes stand for themselves has no escape
pub plain_text : (s : List ℕ) → list_all is_plain s ≡ true → escape s ≡ s
plain_text [] plain = refl
plain_text (b ∷ s) plain =
    let parts = both (is_plain b) (list_all is_plain s) plain in
    rw (plain_byte b parts.0, plain_text s parts.1) refl

pub same : (a b : List ℕ) → same_text a b ≡ true → a ≡ b
same a b e = (bytes_eq-Decides a b).0 e

-- names that were compared are the same
pub same_beside : (n : Names) (session bundle level attribute : List ℕ) → are_beside n session level attribute ≡ true →
    names n.session bundle n.level n.attribute ≡ names session bundle level attribute
same_beside n session bundle level attribute e =
    let second = both (same_text n.session session && same_text n.level level) (same_text n.attribute attribute) e in
    let first = both (same_text n.session session) (same_text n.level level) second.0 in
    ap (λ (s : List ℕ). names s bundle n.level n.attribute) (same n.session session first.0)
    ∙ ap (λ (s : List ℕ). names session bundle s n.attribute) (same n.level level first.1)
    ∙ ap (λ (s : List ℕ). names session bundle level s) (same n.attribute attribute second.1)

-- the same names, where the bundle was compared
pub same_bundle : (n : Names) (bundle : List ℕ) → same_text n.bundle bundle ≡ true →
    n ≡ names n.session bundle n.level n.attribute
same_bundle n bundle e = ap (λ (s : List ℕ). names n.session s n.level n.attribute) (same n.bundle bundle e)
