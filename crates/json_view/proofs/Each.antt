-- A reading of a list's elements one by one, with what was read before in front.
use Rattle.std.proofs.Common.{◌≡◌, ℕ, ◌+◌, ◌≤◌, List, [], ◌∷◌, ◌++◌, length, drop, refl, ap, ◌∙◌, sym, append_assoc, append-nil, suc, add-one, drop-cons}
use Rattle.std.specs.Prelude.{Option, Some, None, Result, Ok, Err, option_map}
use Rattle.std.specs.List.{slice_get}
use Rattle.std.proofs.lemmas.Option.{slice_get_within, get_or_from_slice_get}
use Rattle.std.proofs.Math.ListN.{drop_of_length-le}
use Rattle.serde_json.specs.Data.{Data}
use Rattle.json_view.specs.declared.faults.Shape.{Shape}
use Rattle.json_view.specs.declared.faults.ViewFault.{ViewFault}
use Rattle.json_view.specs.declared.faults.ViewFault.TheVariants as fault
use Rattle.json_view.specs.Lists.{each_from, each_of}
use Rattle.json_view.specs.Inner.Lists.{element_of}
use Rattle.json_view.specs.Parts.{elements_at, list_in}
use Rattle.json_view.specs.Paths.{element_path}
use Rattle.json_view.specs.Seen.{Seen, seen}
use Rattle.json_view.specs.Steps.{with_front, ◌>>=◌}

-- nothing in front
pub with_front_nil : {A E : Type 0} (r : Result (List A) E) → with_front [] r ≡ r
with_front_nil (Ok xs) = refl
with_front_nil (Err e) = refl

-- one more in front
pub with_front_more : {A E : Type 0} (front : List A) (x : A) (r : Result (List A) E)
    → with_front (front ++ x ∷ []) r ≡ with_front front (with_front (x ∷ []) r)
with_front_more front x (Ok xs) = ap Ok (append_assoc front (x ∷ []) xs)
with_front_more front x (Err e) = refl

-- the element at a place, and what is left behind it
drop_at : {A : Type 0} (xs : List A) (place : ℕ) (x : A) → slice_get xs place ≡ Some x
    → drop place xs ≡ x ∷ drop (place + 1) xs
drop_at xs place x here =
    let within = slice_get_within xs place x here in
    let got = get_or_from_slice_get xs place x x here in
    rw add-one (drop-cons xs place x within ∙ ap (λ y. y ∷ drop (suc place) xs) got)

-- the value of an element that is there
element_is : (o : Option Data) (path : List ℕ) (part : Seen) → option_map (λ d. seen d path) o ≡ Some part
    → (d : Data) × (o ≡ Some d) × (part ≡ seen d path)
element_is None path part h = cc
element_is (Some d) path part h = (d, refl, cc)

-- the readings from the place of an element on begin with that of the element
each_from_value : {A E : Type 0} (read : Seen → Result A E) (place : ℕ) (s part : Seen) (d : Data)
    → slice_get (list_in s.value) place ≡ Some d → part ≡ seen d (element_path s.path place)
    → each_from read place s ≡ (read part >>= λ x. with_front (x ∷ []) (each_from read (place + 1) s))
unfolding each_from
each_from_value read place s part d here is =
    rw (drop_at (list_in s.value) place d here, is) refl

pub each_at : {A E : Type 0} (read : Seen → Result A E) (place : ℕ) (s part : Seen) → element_of place s ≡ Some part
    → each_from read place s ≡ (read part >>= λ x. with_front (x ∷ []) (each_from read (place + 1) s))
unfolding element_of
each_at read place s part here =
    let is = element_is (slice_get (list_in s.value) place) (element_path s.path place) part here in
    each_from_value read place s part is.0 is.1 is.2

-- an element is read
pub each_more : {A E : Type 0} (read : Seen → Result A E) (place : ℕ) (s part : Seen) (front : List A) (x : A) (all : Result (List A) E)
    → with_front front (each_from read place s) ≡ all → element_of place s ≡ Some part → read part ≡ Ok x
    → with_front (front ++ x ∷ []) (each_from read (place + 1) s) ≡ all
each_more read place s part front x all before here got =
    with_front_more front x (each_from read (place + 1) s) ∙ (rw (each_at read place s part here, got) at before)

-- an element is at fault, and so the list is
pub each_fault : {A E : Type 0} (read : Seen → Result A E) (place : ℕ) (s part : Seen) (front : List A) (e : E) (all : Result (List A) E)
    → with_front front (each_from read place s) ≡ all → element_of place s ≡ Some part → read part ≡ Err e
    → all ≡ Err e
each_fault read place s part front e all before here got =
    sym (rw (each_at read place s part here, got) at before)

-- the same over the answer of a reader: what tells its fault tells that of the list
pub each_stop : {A : Type 0} (read : Seen → Result A Shape) (place : ℕ) (s part : Seen) (front : List A) (ds : List Data) (e : ViewFault)
    → elements_at s ≡ Ok ds → with_front front (each_from read place s) ≡ each_from read 0 s → element_of place s ≡ Some part
    → ((f : Shape) → e ≡ fault.Shape f → read part ≡ Err f)
    → (f : Shape) → e ≡ fault.Shape f → each_of read s ≡ Err f
unfolding each_of
each_stop read place s part front ds e list before here tells f is =
    rw list (each_fault read place s part front f (each_from read 0 s) before here (tells f is))

-- every element is read
pub each_end : {A E : Type 0} (read : Seen → Result A E) (place : ℕ) (s : Seen) (front : List A) (all : Result (List A) E)
    → with_front front (each_from read place s) ≡ all → length (list_in s.value) ≤ place → all ≡ Ok front
unfolding each_from
each_end read place s front all before past =
    sym (rw (drop_of_length-le (list_in s.value) past, append-nil front) at before)

-- the facts that close a loop over a list's elements but for the exit at a fault, which `each_stop` closes
pub ruleset each_steps = (with_front_nil, each_more, each_end)
