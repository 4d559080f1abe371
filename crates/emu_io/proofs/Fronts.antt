-- What a sink has taken of texts that are written one behind another.
use Rattle.std.proofs.Common.{◌≡◌, ℕ, zero, suc, ◌+◌, List, [], ◌∷◌, ◌++◌, length, take, Option, refl, ap, sym, subst}
use Rattle.std.proofs.Math.Seq.{take-append-add, take-length}
use Rattle.std.proofs.KnownBytes.{Appends-trans}
use Rattle.std.specs.Io.KnownBytes.{Appends}
use Rattle.emu_io.specs.Fronts.{WritesFront}

-- all of a text is a front of it
pub front_all : (before now : Option (List ℕ)) (text : List ℕ) → Appends before now text → WritesFront before now text
front_all before now text h = (length text, subst (λ t. Appends before now t) (sym (take-length text)) h)

-- a front of a text is one of a longer text
front_in : (n : ℕ) (text more : List ℕ) → (m : ℕ) × (take m (text ++ more) ≡ take n text)
front_in zero text more = (0, refl)
front_in (suc n) [] more = (0, refl)
front_in (suc n) (x ∷ xs) more = let r = front_in n xs more in (suc r.0, ap (λ t. x ∷ t) r.1)

pub front_longer : (before now : Option (List ℕ)) (text more : List ℕ) → WritesFront before now text → WritesFront before now (text ++ more)
front_longer before now text more (n, h) = let r = front_in n text more in (r.0, subst (λ t. Appends before now t) (sym r.1) h)

-- a text, and then a front of more
pub front_more : (before now after : Option (List ℕ)) (text more : List ℕ) → Appends before now text → WritesFront now after more → WritesFront before after (text ++ more)
front_more before now after text more h (n, k) =
    (length text + n, subst (λ t. Appends before after t) (sym (take-append-add text more n)) (Appends-trans before now after text (take n more) h k))

-- a text, and then all of more
pub whole_more : (before now after : Option (List ℕ)) (text more : List ℕ) → Appends before now text → Appends now after more → Appends before after (text ++ more)
whole_more before now after text more h k = Appends-trans before now after text more h k
