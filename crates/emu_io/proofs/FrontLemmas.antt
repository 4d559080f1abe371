-- What was taken from a source is the front of its text.
use Rattle.std.proofs.Common.{◌≡◌, ◌∙◌, ℕ, ◌<◌, ◌≤◌, Bool, true, false, IsTrue, List, [], ◌++◌, length, take, Option, None, Some, arith, rules, refl, sym, ap, append-nil, append_assoc, length-append, length-take, length-drop, take_all, OnErr, Result, Ok, Err, ◌-◌, ◌+◌, drop, take-add}
use Rattle.std.proofs.Math.Seq.{take-append_seam}
use Rattle.std.proofs.KnownBytes.{Consumes-trans, Appends-trans}
use Rattle.std.specs.Io.KnownBytes.{Appends, Consumes, IsAtEnd}
use Rattle.emu_io.specs.Fronts.{Tells}
use Rattle.emu_io.specs.Inner.Fronts.{TakesFront, IsFrontOf}

-- bytes that were taken begin what the source had
told_front : (old new : Option (List ℕ)) (bytes : List ℕ) → Consumes old new bytes → (rest : List ℕ) × Tells old (bytes ++ rest)
told_front None new bytes taken = ([], tt)
told_front (Some known) None bytes taken = absurd taken
told_front (Some known) (Some rest) bytes taken = (rest, taken)

-- bytes that were taken to the end are what the source had
told_whole : (old new : Option (List ℕ)) (bytes : List ℕ) → Consumes old new bytes → IsAtEnd new → Tells old bytes
told_whole None new bytes taken ends = tt
told_whole (Some known) None bytes taken ends = absurd taken
told_whole (Some known) (Some rest) bytes taken ends = taken ∙ ap (λ r. bytes ++ r) ends ∙ append-nil bytes

at_seam : (most : ℕ) (bytes more rest : List ℕ) → length bytes ≡ most → bytes ≡ take most ((bytes ++ more) ++ rest)
at_seam most bytes more rest full =
    rw (append_assoc bytes more rest, ← full) (sym (take-append_seam bytes (more ++ rest)))

-- what was taken is the front of the source's text
pub front_of_taken : (old new : Option (List ℕ)) (most : ℕ) (bytes : List ℕ) (past : Bool) → TakesFront old new bytes past
    → length bytes ≤ most → (IsTrue past → length bytes ≡ most) → IsFrontOf old most bytes past
front_of_taken old new most bytes false taken fits full = record {
  text = bytes;
  told = told_whole old new bytes taken.0 taken.1;
  front = sym (take_all most bytes fits);
  longer = grind (arith, fits);
}
front_of_taken old new most bytes true taken fits full =
    let known = told_front old new (bytes ++ taken.0) taken.2 in record {
      text = (bytes ++ taken.0) ++ known.0;
      told = known.1;
      front = at_seam most bytes taken.0 known.0 (full refl);
      longer = (λ it. omega (arith, full refl, taken.1, length-append (bytes ++ taken.0) known.0, length-append bytes taken.0), λ more. search rules);
    }

-- a read gave more than there was room for, and the front of it was kept
pub taken_past : (old mid new : Option (List ℕ)) (bytes grown buffer : List ℕ) (room count : ℕ) → Consumes old mid bytes → Consumes mid new (take count buffer)
    → grown ≡ bytes ++ take room buffer → room < count → count ≤ length buffer → TakesFront old new grown true
taken_past old mid new bytes grown buffer room count before now grew past bound =
    let more = take (count - room) (drop room buffer) in
    let sum : room + (count - room) ≡ count = omega (arith, past) in
    let given : take count buffer ≡ take room buffer ++ more = sym (ap (λ n. take n buffer) sum) ∙ take-add room (count - room) buffer in
    let whole : bytes ++ take count buffer ≡ grown ++ more = rw (given, grew) (sym (append_assoc bytes (take room buffer) more)) in
    (more, rw (length-take, length-drop) (omega (arith, past, bound)), rw (← whole) (Consumes-trans old mid new bytes (take count buffer) before now))

-- and then as many bytes are kept as are wanted
pub kept_past : (bytes grown buffer : List ℕ) (most room count : ℕ) → grown ≡ bytes ++ take room buffer → length bytes ≤ most → room ≡ most - length bytes
    → room < count → count ≤ length buffer → length grown ≡ most
kept_past bytes grown buffer most room count grew fits is past bound =
    rw (grew, length-append, length-take) (omega (arith, fits, is, past, bound))

-- what holds in any case holds after a refusal
pub on_any : {T E : Type 0} (r : Result T E) {P : Type 0} → P → OnErr r P
on_any (Ok x) p = tt
on_any (Err e) p = p

-- a sink took the front of a text, and then a front of the rest
pub appended_more : (old mid new : Option (List ℕ)) (text : List ℕ) (at count : ℕ) → Appends old mid (take at text)
    → Appends mid new (take count (take (length text - at) (drop at text))) → Appends old new (take (at + count) text)
appended_more old mid new text at count before now =
    let short : length (drop at text) ≤ length text - at = rw length-drop (omega arith) in
    let rest : take (length text - at) (drop at text) ≡ drop at text = take_all (length text - at) (drop at text) short in
    rw (take-add at count text) (Appends-trans old mid new (take at text) (take count (drop at text)) before (rw rest at now))
