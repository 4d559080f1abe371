-- The law of each part of which forms are made.
use Rattle.std.proofs.Common.{◌≡◌, ℕ, List, ◌++◌, refl, sym, ap, subst, ◌∙◌, append_assoc}
use Rattle.std.specs.Prelude.{Option, Some, None, Result, Ok, Err}
use Rattle.byte_forms.specs.Forms.{Form, ◌>>=◌, AreBytes, IsStuck, IsForm}
use Rattle.byte_forms.specs.Parts.{just, imaged, shaped, pair, led, read_as, FitsAs, code_as, led_on}
use Rattle.byte_forms.proofs.Steps.{bind_ok, shut_in, shut_behind, begun_behind, alike}

-- One value.

pub just_law : {A : Type 0} (x : A) → IsForm (just x)
unfolding just
just_law x = record {
  some = (x, refl);
  again = λ v rest k. ap (λ w. Ok (w, rest)) (sym k);
  only = λ bytes y b e. (let same : x ≡ y.0 = cc in sym same, cc, let same : bytes ≡ y.1 = cc in subst AreBytes same b);
  stuck = λ bytes left b e. absurd cc;
}

-- A variant.

module _ {A B : Type 0} (f : Form A) (of : A → B) (back : B → Option A) (h : IsForm f) (is : (a : A) → f.fits a → back (of a) ≡ Some a) where
  image_fits : (a : A) → f.fits a → FitsAs f of (of a) (back (of a))
  image_fits a k = subst (FitsAs f of (of a)) (sym (is a k)) (refl, k)

  image_code : (a : A) → f.fits a → code_as f (back (of a)) ≡ f.code a
  image_code a k = ap (code_as f) (is a k)

  image_again : (v : B) (rest : List ℕ) (o : Option A) → FitsAs f of v o → (f.read (code_as f o ++ rest) >>= read_as of) ≡ Ok (v, rest)
  image_again v rest None k = absurd k
  image_again v rest (Some a) k = bind_ok _ _ (read_as of) (h.again a rest k.1) ∙ ap (λ w. Ok (w, rest)) (sym k.0)

  image_only : (bytes : List ℕ) (x : B × List ℕ) → AreBytes bytes → (r : Result (A × List ℕ) ℕ) → f.read bytes ≡ r
      → (r >>= read_as of) ≡ Ok x → FitsAs f of x.0 (back x.0) × (bytes ≡ code_as f (back x.0) ++ x.1) × AreBytes x.1
  image_only bytes x b (Ok y) e made =
      let o = h.only bytes y b e in
      let same : (of y.0, y.1) ≡ x = cc in
      subst (λ (z : B × List ℕ). FitsAs f of z.0 (back z.0) × (bytes ≡ code_as f (back z.0) ++ z.1) × AreBytes z.1) same
      (image_fits y.0 o.0, o.1 ∙ ap (λ c. c ++ y.1) (sym (image_code y.0 o.0)), o.2)
  image_only bytes x b (Err n) e made = absurd cc

  pub imaged_law : IsForm (imaged f of back)
  unfolding imaged
  imaged_law = record {
    some = (of h.some.0, image_fits h.some.0 h.some.1);
    again = λ v rest k. image_again v rest (back v) k;
    only = λ bytes x b e. image_only bytes x b (f.read bytes) refl e;
    stuck = λ bytes left b e. image_stuck bytes left b (f.read bytes) refl e;
  }
    where
      image_stuck : (bytes : List ℕ) (left : ℕ) → AreBytes bytes → (r : Result (A × List ℕ) ℕ) → f.read bytes ≡ r
          → (r >>= read_as of) ≡ Err left → IsStuck (imaged f of back) bytes left
      image_stuck bytes left b (Ok y) e made = absurd cc
      image_stuck bytes left b (Err n) e made =
          let same : n ≡ left = cc in
          let s = h.stuck bytes left b (e ∙ ap Err same) in record {
            front = s.front;
            back = s.back;
            split = s.split;
            len = s.len;
            begun = (of s.begun.0, s.begun.1, image_fits s.begun.0 s.begun.2, image_code s.begun.0 s.begun.2 ∙ s.begun.3);
            shut = shut_in f.read (read_as of) s.front s.back s.shut;
          }

-- A record.

pub shaped_law : {A B : Type 0} (f : Form A) (of : A → B) (parts : B → A) → ((v : B) → of (parts v) ≡ v)
    → ((a : A) → parts (of a) ≡ a) → IsForm f → IsForm (shaped f of parts)
unfolding shaped imaged
shaped_law f of parts there here h =
    alike (imaged f of (λ v. Some (parts v))) (shaped f of parts) (λ v k. k.1) (λ v k. (sym (there v), k)) (λ v k. refl)
    (λ bytes. refl) (imaged_law f of (λ v. Some (parts v)) h (λ a k. ap Some (here a)))

-- A value behind something of it that tells its form.

module _ {X A : Type 0} (head : Form X) (of : A → X) (at : X → Form A) (h : IsForm head) (t : (x : X) → head.fits x → IsForm (at x)) (is : (x : X) (v : A) → head.fits x → (at x).fits v → of v ≡ x) where
  led_fits : (x : X) (v : A) → head.fits x → (at x).fits v → head.fits (of v) × (at (of v)).fits v
  led_fits x v k l = subst (λ y. head.fits y × (at y).fits v) (sym (is x v k l)) (k, l)

  led_code : (x : X) (v : A) → head.fits x → (at x).fits v → head.code (of v) ++ (at (of v)).code v ≡ head.code x ++ (at x).code v
  led_code x v k l = ap (λ y. head.code y ++ (at y).code v) (is x v k l)

  led_again : (v : A) (rest : List ℕ) → head.fits (of v) → (at (of v)).fits v
      → (head.read ((head.code (of v) ++ (at (of v)).code v) ++ rest) >>= led_on at) ≡ Ok (v, rest)
  led_again v rest k l =
      ap (λ bytes. head.read bytes >>= led_on at) (append_assoc (head.code (of v)) ((at (of v)).code v) rest)
      ∙ bind_ok _ _ (led_on at) (h.again (of v) ((at (of v)).code v ++ rest) k) ∙ (t (of v) k).again v rest l

  led_only : (bytes : List ℕ) (x : A × List ℕ) → AreBytes bytes → (r : Result (X × List ℕ) ℕ) → head.read bytes ≡ r
      → (r >>= led_on at) ≡ Ok x
      → (head.fits (of x.0) × (at (of x.0)).fits x.0) × (bytes ≡ (head.code (of x.0) ++ (at (of x.0)).code x.0) ++ x.1) × AreBytes x.1
  led_only bytes x b (Ok y) e made =
      let o = h.only bytes y b e in
      let p = (t y.0 o.0).only y.1 x o.2 made in (
        led_fits y.0 x.0 o.0 p.0,
        begun_behind (head.code y.0) ((at y.0).code x.0) x.1 bytes y.1 o.1 p.1
            ∙ ap (λ c. c ++ x.1) (sym (led_code y.0 x.0 o.0 p.0)),
        p.2,
      )
  led_only bytes x b (Err n) e made = absurd cc

  pub led_law : IsForm (led head of at)
  unfolding led
  led_law = record {
    some = let x = h.some in let v = (t x.0 x.1).some in (v.0, led_fits x.0 v.0 x.1 v.1);
    again = λ v rest k. led_again v rest k.0 k.1;
    only = λ bytes x b e. led_only bytes x b (head.read bytes) refl e;
    stuck = λ bytes left b e. led_stuck bytes left b (head.read bytes) refl e;
  }
    where
      led_stuck : (bytes : List ℕ) (left : ℕ) → AreBytes bytes → (r : Result (X × List ℕ) ℕ) → head.read bytes ≡ r
          → (r >>= led_on at) ≡ Err left → IsStuck (led head of at) bytes left
      led_stuck bytes left b (Ok y) e made =
          let o = h.only bytes y b e in
          let s = (t y.0 o.0).stuck y.1 left o.2 made in record {
            front = head.code y.0 ++ s.front;
            back = s.back;
            split = begun_behind (head.code y.0) s.front s.back bytes y.1 o.1 s.split;
            len = s.len;
            begun = (
              s.begun.0,
              s.begun.1,
              led_fits y.0 s.begun.0 o.0 s.begun.2,
              begun_behind (head.code y.0) s.front s.begun.1 _ _ (led_code y.0 s.begun.0 o.0 s.begun.2) s.begun.3,
            );
            shut = shut_behind head.read (at y.0).read (led_on at) y.0 (head.code y.0) s.front s.back
                (λ rest. h.again y.0 rest o.0) (λ rest. refl) s.shut;
          }
      led_stuck bytes left b (Err n) e made =
          let same : n ≡ left = cc in
          let s = h.stuck bytes left b (e ∙ ap Err same) in
          let x = s.begun in
          let v = (t x.0 x.2).some in record {
            front = s.front;
            back = s.back;
            split = s.split;
            len = s.len;
            begun = (
              v.0,
              x.1 ++ (at x.0).code v.0,
              led_fits x.0 v.0 x.2 v.1,
              led_code x.0 v.0 x.2 v.1 ∙ ap (λ c. c ++ (at x.0).code v.0) x.3 ∙ append_assoc s.front x.1 ((at x.0).code v.0),
            );
            shut = shut_in head.read (led_on at) s.front s.back s.shut;
          }

-- Two values, one behind the other.

-- a pair is led by its first value
abbrev behind : {A B : Type 0} → Form B → A → Form (A × B)
behind {A = A} {B = B} g a = imaged g (λ b. (a, b)) (λ p. Some p.1)

pub pair_law : {A B : Type 0} (f : Form A) (g : Form B) → IsForm f → IsForm g → IsForm (pair f g)
unfolding pair led imaged
pair_law {A = A} {B = B} f g h k =
    alike (led f (λ p. p.0) (behind {A = A} g)) (pair f g) (λ p l. (l.0, l.1.1)) (λ p l. (l.0, (refl, l.1))) (λ p l. refl)
    (λ bytes. refl)
    (led_law f (λ p. p.0) (behind {A = A} g) h (λ a l. imaged_law g (λ b. (a, b)) (λ p. Some p.1) k (λ b m. refl))
    (λ a p l m. ap (λ (q : A × B). q.0) m.0))
