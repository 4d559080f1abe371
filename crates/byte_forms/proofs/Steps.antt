-- Readings by cases, lists of bytes, and what follows from the law of a form.
use Rattle.std.proofs.Common.{◌≡◌, ℕ, ◌+◌, ◌<◌, List, [], ◌∷◌, ◌++◌, length, sym, ap, subst, ◌∙◌, append_assoc}
use Rattle.std.specs.Prelude.{Result, Ok, Err}
use Rattle.std.proofs.lemmas.List.{get_or-append-add}
use Rattle.byte_forms.specs.Forms.{Form, ◌>>=◌, AreBytes, IsShut, IsStuck, IsForm}

-- behind a reading that gave a value
pub bind_ok : {A B E : Type 0} (r : Result A E) (x : A) (f : A → Result B E) → r ≡ Ok x → (r >>= f) ≡ f x
bind_ok r x f e = ap (λ q. q >>= f) e

-- behind a reading that stopped
pub bind_err : {A B E : Type 0} (r : Result A E) (n : E) (f : A → Result B E) → r ≡ Err n → (r >>= f) ≡ Err n
bind_err r n f e = ap (λ q. q >>= f) e

-- a fact of the first bytes of a byte list
pub bytes_behind : (front back : List ℕ) → AreBytes (front ++ back) → AreBytes back
bytes_behind front back h i = subst (λ n. n < 256) (get_or-append-add front back i 0) (h (length front + i))

-- where no code goes on, reading stops there, whatever follows
pub shut_in : {A B : Type 0} (read : List ℕ → Result (A × List ℕ) ℕ) (f : A × List ℕ → Result (B × List ℕ) ℕ)
    (front back : List ℕ) → IsShut read front back → IsShut (λ bytes. read bytes >>= f) front back
shut_in read f front [] h = tt
shut_in read f front (b ∷ back) h = λ rest. bind_err _ _ f (h rest)

-- a reading that stops behind a value that was read
pub shut_behind : {A B : Type 0} (read : List ℕ → Result (A × List ℕ) ℕ) (then_read : List ℕ → Result (B × List ℕ) ℕ)
    (f : A × List ℕ → Result (B × List ℕ) ℕ) (a : A) (code front back : List ℕ)
    → ((rest : List ℕ) → read (code ++ rest) ≡ Ok (a, rest)) → ((rest : List ℕ) → f (a, rest) ≡ then_read rest)
    → IsShut then_read front back → IsShut (λ bytes. read bytes >>= f) (code ++ front) back
shut_behind read then_read f a code front [] again is h = tt
shut_behind read then_read f a code front (b ∷ back) again is h = λ rest.
    ap (λ bytes. read bytes >>= f) (append_assoc code front (b ∷ rest))
    ∙ bind_ok _ _ f (again (front ++ b ∷ rest)) ∙ is (front ++ b ∷ rest) ∙ h rest

-- a code that is begun behind another one
pub begun_behind : (code front rest all inner : List ℕ) → all ≡ code ++ inner → inner ≡ front ++ rest
    → all ≡ (code ++ front) ++ rest
begun_behind code front rest all inner is split = is ∙ ap (λ l. code ++ l) split ∙ sym (append_assoc code front rest)

-- forms with the same values, codes and readings
pub alike : {A : Type 0} (f g : Form A) → ((v : A) → f.fits v → g.fits v) → ((v : A) → g.fits v → f.fits v)
    → ((v : A) → f.fits v → g.code v ≡ f.code v) → ((bytes : List ℕ) → g.read bytes ≡ f.read bytes)
    → IsForm f → IsForm g
alike f g to back code read h = record {
  some = (h.some.0, to h.some.0 h.some.1);
  again = λ v rest k. read _ ∙ ap (λ c. f.read (c ++ rest)) (code v (back v k)) ∙ h.again v rest (back v k);
  only = λ bytes x b e. let o = h.only bytes x b (sym (read bytes) ∙ e) in
      (to x.0 o.0, o.1 ∙ ap (λ c. c ++ x.1) (sym (code x.0 o.0)), o.2);
  stuck = λ bytes left b e. alike_stuck f g to code read bytes left (h.stuck bytes left b (sym (read bytes) ∙ e));
}
  where
    alike_shut : {A : Type 0} (f g : List ℕ → Result (A × List ℕ) ℕ) → ((bytes : List ℕ) → g bytes ≡ f bytes)
        → (front back : List ℕ) → IsShut f front back → IsShut g front back
    alike_shut f g read front [] h = tt
    alike_shut f g read front (b ∷ back) h = λ rest. read _ ∙ h rest

    alike_stuck : {A : Type 0} (f g : Form A) → ((v : A) → f.fits v → g.fits v) → ((v : A) → f.fits v → g.code v ≡ f.code v)
        → ((bytes : List ℕ) → g.read bytes ≡ f.read bytes) → (bytes : List ℕ) (left : ℕ) → IsStuck f bytes left
        → IsStuck g bytes left
    alike_stuck f g to code read bytes left s = record {
      front = s.front;
      back = s.back;
      split = s.split;
      len = s.len;
      begun = (s.begun.0, s.begun.1, to s.begun.0 s.begun.2, code s.begun.0 s.begun.2 ∙ s.begun.3);
      shut = alike_shut f.read g.read read s.front s.back s.shut;
    }
