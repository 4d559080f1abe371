-- Steps of the loops over lists: their length, their writing, their reading.
use Rattle.std.proofs.Common.{◌≡◌, ℕ, suc, ◌+◌, ◌-◌, ◌<◌, ◌≤◌, ◌^◌, List, [], ◌∷◌, ◌++◌, length, drop, get_or, min, refl, sym, ap, subst, ◌∙◌, arith, append_assoc, append-nil, length-append, drop-cons, drop_of_length-le}
use Rattle.std.specs.Prelude.{Result, Ok, Err}
use Rattle.byte_forms.specs.Forms.{Form, ◌>>=◌}
use Rattle.byte_forms.specs.Parts.{led, u32_form}
use Rattle.byte_forms.specs.Inner.Reading.{Gives}
use Rattle.byte_forms.specs.declared.rest.ReadFault.{ReadFault}
use Rattle.byte_forms.specs.declared.rest.ReadFault.TheVariants as faults
use Rattle.byte_forms.specs.Lists.{ItemsFit, items_code, items_at, consed, times, list_of}

-- the element at a place, and those behind it
item_at : {A : Type 0} (items : List A) (place : ℕ) (x : A) → place < length items → x ≡ get_or items place x
    → drop place items ≡ x ∷ drop (place + 1) items
item_at items place x h is =
    let p : suc place ≡ place + 1 = omega arith in
    drop-cons items place x h ∙ ap (λ y. y ∷ drop (suc place) items) (sym is) ∙ ap (λ n. x ∷ drop n items) p

-- Their length.

-- the bytes of the count and of the first elements are counted
pub record SizedTo {A : Type 0} (f : Form A) (items : List A) (place size : ℕ) : Type 0 where
  pub most : size ≤ 2 ^ 32
  pub few : min (2 ^ 32) (4 + place) ≤ size
  pub len : min (2 ^ 32) (size + length (items_code f (drop place items))) ≡ min (2 ^ 32) (4 + length (items_code f items))
  pub fit : size < 2 ^ 32 → ItemsFit f (drop place items) → ItemsFit f items

module _ {A : Type 0} (f : Form A) (items : List A) where
  pub sized_first : SizedTo f items 0 4
  sized_first = record { most = omega arith; few = omega arith; len = refl; fit = λ h k. k }

  pub sized_more : (place size more next : ℕ) (x : A) → SizedTo f items place size → place < length items
      → x ≡ get_or items place x → more ≡ min (2 ^ 32) (length (f.code x)) → 0 < more → (more < 2 ^ 32 → f.fits x)
      → next ≡ min (2 ^ 32) (size + more) → SizedTo f items (place + 1) next
  sized_more place size more next x s h is len some fit e =
      let d = item_at items place x h is in
      let rest = items_code f (drop (place + 1) items) in
      let codes : items_code f (drop place items) ≡ f.code x ++ rest = ap (items_code f) d in
      let lengths : length (items_code f (drop place items)) ≡ length (f.code x) + length rest =
      ap length codes ∙ length-append (f.code x) rest in record {
        most = omega arith;
        few = omega (arith, s.few);
        len = omega (arith, s.len, s.most);
        fit = λ (small : next < 2 ^ 32) k.
            s.fit (omega arith) (subst (ItemsFit f) (sym d) (fit (omega arith), k));
      }

  pub sized_done : (place size : ℕ) → SizedTo f items place size → length items ≤ place
      → (size ≡ min (2 ^ 32) (length ((list_of f).code items))) × (0 < size) × (size < 2 ^ 32 → (list_of f).fits items)
  unfolding list_of times led u32_form
  sized_done place size s h =
      let none = drop_of_length-le items h in
      let ends : length (items_code f (drop place items)) ≡ 0 = ap (λ l. length (items_code f l)) none in (
        omega (arith, s.len, s.most),
        omega (arith, s.few),
        λ small. (omega (arith, s.few), (refl, s.fit small (subst (ItemsFit f) (sym none) tt))),
      )

  -- Their writing.

  pub put_more : (place : ℕ) (x : A) (all out next : List ℕ) → out ++ items_code f (drop place items) ≡ all
      → place < length items → x ≡ get_or items place x → next ≡ out ++ f.code x
      → next ++ items_code f (drop (place + 1) items) ≡ all
  put_more place x all out next whole h is e =
      ap (λ l. l ++ items_code f (drop (place + 1) items)) e
      ∙ append_assoc out (f.code x) (items_code f (drop (place + 1) items))
      ∙ ap (λ l. out ++ items_code f l) (sym (item_at items place x h is)) ∙ whole

  pub put_done : (place : ℕ) (all out : List ℕ) → out ++ items_code f (drop place items) ≡ all → length items ≤ place
      → out ≡ all
  put_done place all out whole h =
      sym (append-nil out) ∙ ap (λ l. out ++ items_code f l) (sym (drop_of_length-le items h)) ∙ whole

-- Their reading.

-- elements that were read before
abbrev pub put_front : {A : Type 0} → List A → Result (List A × List ℕ) ℕ → Result (List A × List ℕ) ℕ
put_front front (Ok y) = Ok (front ++ y.0, y.1)
put_front front (Err n) = Err n

put_front_more : {A : Type 0} (front : List A) (x : A) (r : Result (List A × List ℕ) ℕ)
    → put_front front (r >>= consed x) ≡ put_front (front ++ x ∷ []) r
put_front_more front x (Ok y) = ap (λ l. Ok (l, y.1)) (sym (append_assoc front (x ∷ []) y.0))
put_front_more front x (Err n) = refl

module _ {A : Type 0} (f : Form A) (all : Result (List A × List ℕ) ℕ) where
  pub read_first : (count : ℕ) (from : List ℕ) → all ≡ items_at f count from → put_front [] (items_at f (count - 0) from) ≡ all
  read_first count from e =
      let same : count - 0 ≡ count = omega arith in
      ap (λ n. put_front [] (items_at f n from)) same ∙ none_before (items_at f count from) ∙ sym e
    where
      none_before : (r : Result (List A × List ℕ) ℕ) → put_front [] r ≡ r
      none_before (Ok y) = refl
      none_before (Err n) = refl

  next_is : (items : List A) (count place : ℕ) (from : List ℕ) → put_front items (items_at f (count - place) from) ≡ all
      → place < count
      → put_front items (f.read from >>= λ x. items_at f (count - (place + 1)) x.1 >>= consed x.0) ≡ all
  next_is items count place from whole h =
      let same : count - place ≡ suc (count - (place + 1)) = omega arith in
      ap (λ n. put_front items (items_at f n from)) (sym same) ∙ whole

  pub read_more : (items next : List A) (count place : ℕ) (from behind : List ℕ) (x : A)
      → put_front items (items_at f (count - place) from) ≡ all → place < count → f.read from ≡ Ok (x, behind)
      → next ≡ items ++ x ∷ [] → put_front next (items_at f (count - (place + 1)) behind) ≡ all
  read_more items next count place from behind x whole h read is =
      let inner = items_at f (count - (place + 1)) behind in
      ap (λ l. put_front l inner) is ∙ sym (put_front_more items x inner)
      ∙ ap (λ r. put_front items (r >>= λ y. items_at f (count - (place + 1)) y.1 >>= consed y.0)) (sym read)
      ∙ next_is items count place from whole h

  pub read_stops : (items : List A) (count place : ℕ) (from : List ℕ) (left : ℕ)
      → put_front items (items_at f (count - place) from) ≡ all → place < count → f.read from ≡ Err left → all ≡ Err left
  read_stops items count place from left whole h read =
      sym (next_is items count place from whole h)
      ∙ ap (λ r. put_front items (r >>= λ y. items_at f (count - (place + 1)) y.1 >>= consed y.0)) read

  pub read_done : (items : List A) (count place : ℕ) (from : List ℕ) → put_front items (items_at f (count - place) from) ≡ all
      → count ≤ place → all ≡ Ok (items, from)
  read_done items count place from whole h =
      let none : count - place ≡ 0 = omega arith in
      sym whole ∙ ap (λ n. put_front items (items_at f n from)) none ∙ ap (λ l. Ok (l, from)) (append-nil items)

  pub read_fails : (items : List A) (count place : ℕ) (from behind : List ℕ) (fault : ReadFault)
      → put_front items (items_at f (count - place) from) ≡ all → place < count
      → Gives {A = A} (Err fault) behind (f.read from) → Gives {A = List A} (Err fault) behind all
  read_fails items count place from behind (faults.Left n) whole h read = read_stops items count place from n whole h read
  read_fails items count place from behind faults.Memory whole h read = tt
