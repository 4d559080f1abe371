-- What a live run writes, part after part, and what it leaves of its book.
use Rattle.std.proofs.Common.{◌≡◌, ℕ, zero, suc, ◌+◌, ◌≤◌, ◌<◌, List, [], ◌∷◌, ◌++◌, length, take, flat_map, get_or, Option, Result, Ok, Err, IfErr, refl, sym, ◌∙◌, ap, subst, arith, append-nil, append_assoc}
use Rattle.std.specs.Io.KnownBytes.{Appends}
use Rattle.std.proofs.KnownBytes.{Appends-nil}
use Rattle.emu_io.specs.Fronts.{WritesFront}
use Rattle.program_output.specs.declared.ended.Ended.{Ended}
use Rattle.program_output.specs.declared.ended.Ended.TheVariants as ends
use Rattle.emu_names.specs.Count.{Rose}
use Rattle.program_output.specs.Inner.Written.{EndHasCause, WritesText, WritesTexts}
use Rattle.emu_io.proofs.Fronts.{front_longer, front_more, whole_more}

pub texts_one : {A : Type 0} (result : Result A Ended) (before now : Option (List ℕ)) (text : List ℕ) → WritesText result before now text → WritesTexts result before now text
texts_one (Ok x) before now text w = w
texts_one (Err ends.Write) before now text w = w
texts_one (Err ends.Memory) before now text w = (0, w)
texts_one (Err ends.Limit) before now text w = absurd w
texts_one (Err (ends.AtFault number fault)) before now text w = absurd w
texts_one (Err ends.NoRoom) before now text w = absurd w
texts_one (Err ends.Disk) before now text w = absurd w

-- a text was written, and then more
pub texts_behind : {A : Type 0} (result : Result A Ended) (before mid now : Option (List ℕ)) (text more : List ℕ) → Appends before mid text → WritesTexts result mid now more → WritesTexts result before now (text ++ more)
texts_behind (Ok x) before mid now text more h w = whole_more before mid now text more h w
texts_behind (Err ends.Write) before mid now text more h w = front_more before mid now text more h w
texts_behind (Err ends.Memory) before mid now text more h w = front_more before mid now text more h w
texts_behind (Err ends.Limit) before mid now text more h w = absurd w
texts_behind (Err (ends.AtFault number fault)) before mid now text more h w = absurd w
texts_behind (Err ends.NoRoom) before mid now text more h w = absurd w
texts_behind (Err ends.Disk) before mid now text more h w = absurd w

-- a text was not written to its end
pub texts_broke : (A B : Type 0) (end : Ended) (before now : Option (List ℕ)) (text more : List ℕ) → WritesTexts {A = A} (Err end) before now text → WritesTexts {A = B} (Err end) before now (text ++ more)
texts_broke A B ends.Write before now text more w = front_longer before now text more w
texts_broke A B ends.Memory before now text more w = front_longer before now text more w
texts_broke A B ends.Limit before now text more w = absurd w
texts_broke A B (ends.AtFault number fault) before now text more w = absurd w
texts_broke A B ends.NoRoom before now text more w = absurd w
texts_broke A B ends.Disk before now text more w = absurd w

-- the texts of a list, one after another
record Split {A : Type 0} (f : A → List ℕ) (items : List A) (i : ℕ) (item : A) : Type 0 where
  rest : List ℕ
  is : flat_map f items ≡ flat_map f (take i items) ++ (f item ++ rest)

split_at_item : {A : Type 0} (f : A → List ℕ) (items : List A) (i : ℕ) (item : A) → i < length items → item ≡ get_or items i item → Split f items i item
split_at_item f [] i item low h = absurd (omega (arith, low))
split_at_item f (x ∷ xs) zero item low h = let same : x ≡ item = sym h in record { rest = flat_map f xs; is = ap (λ y. f y ++ flat_map f xs) same }
split_at_item f (x ∷ xs) (suc i) item low h =
    let r = split_at_item f xs i item (omega (arith, low)) h in
    record { rest = r.rest; is = ap (λ t. f x ++ t) r.is ∙ sym (append_assoc (f x) (flat_map f (take i xs)) (f item ++ r.rest)) }

item_more : {A : Type 0} (f : A → List ℕ) (items : List A) (i : ℕ) (item : A) → i < length items → item ≡ get_or items i item → flat_map f (take (suc i) items) ≡ flat_map f (take i items) ++ f item
item_more f [] i item low h = absurd (omega (arith, low))
item_more f (x ∷ xs) zero item low h = let same : x ≡ item = sym h in append-nil (f x) ∙ ap f same
item_more f (x ∷ xs) (suc i) item low h = ap (λ t. f x ++ t) (item_more f xs i item (omega (arith, low)) h) ∙ sym (append_assoc (f x) (flat_map f (take i xs)) (f item))

next_index : (i : ℕ) → suc i ≡ i + 1
next_index i = omega arith

-- the loop goes on by one text
pub loop_more : {A : Type 0} (f : A → List ℕ) (items : List A) (i : ℕ) (item : A) (before mid now : Option (List ℕ)) → i < length items → item ≡ get_or items i item → Appends before mid (flat_map f (take i items)) → Appends mid now (f item) → Appends before now (flat_map f (take (i + 1) items))
loop_more f items i item before mid now low here h k =
    subst (λ j. Appends before now (flat_map f (take j items))) (next_index i)
    (subst (λ t. Appends before now t) (sym (item_more f items i item low here)) (whole_more before mid now (flat_map f (take i items)) (f item) h k))

abbrev err_end : (A : Type 0) → Ended → Result A Ended
err_end A end = Err end

-- the loop breaks off in a text
pub loop_broke : {A : Type 0} (B C : Type 0) (f : A → List ℕ) (items : List A) (i : ℕ) (item : A) (end : Ended) (before mid now : Option (List ℕ)) → i < length items → item ≡ get_or items i item → Appends before mid (flat_map f (take i items)) → WritesText {A = B} (Err end) mid now (f item) →
    WritesTexts {A = C} (Err end) before now (flat_map f items)
loop_broke B C f items i item end before mid now low here h w =
    let s = split_at_item f items i item low here in
    subst (λ t. WritesTexts {A = C} (Err end) before now t) (sym s.is)
    (texts_behind (err_end C end) before mid now (flat_map f (take i items)) (f item ++ s.rest) h (texts_broke B C end mid now (f item) s.rest (texts_one (err_end B end) mid now (f item) w)))

pub loop_none : (now : Option (List ℕ)) → Appends now now []
loop_none now = Appends-nil now

take_past : {A : Type 0} (items : List A) (i : ℕ) → length items ≤ i → take i items ≡ items
take_past [] zero high = refl
take_past [] (suc i) high = refl
take_past (x ∷ xs) zero high = absurd (omega (arith, high))
take_past (x ∷ xs) (suc i) high = ap (λ t. x ∷ t) (take_past xs i (omega (arith, high)))

-- the loop has come to the end
pub loop_all : {A : Type 0} (f : A → List ℕ) (items : List A) (i : ℕ) (before now : Option (List ℕ)) → length items ≤ i → Appends before now (flat_map f (take i items)) → Appends before now (flat_map f items)
loop_all f items i before now high h = subst (λ t. Appends before now (flat_map f t)) (take_past items i high) h

pub texts_one_err : (A B : Type 0) (end : Ended) (before now : Option (List ℕ)) (text : List ℕ) → WritesText {A = A} (Err end) before now text → WritesTexts {A = A} (Err end) before now text
texts_one_err A B end before now text w = texts_one (err_end A end) before now text w

rose_earlier : (a b c : ℕ) → a ≤ b → Rose b c → Rose a c
rose_earlier a b c h g = omega arith

-- the cause of an end that comes later
pub end_later : (end : Ended) (a b c : ℕ) → a ≤ b → EndHasCause end b c → EndHasCause end a c
end_later ends.Write a b c h g = rose_earlier a b c h g
end_later (ends.AtFault number fault) a b c h g = g
end_later ends.Limit a b c h g = tt
end_later ends.NoRoom a b c h g = tt
end_later ends.Disk a b c h g = tt
end_later ends.Memory a b c h g = tt

pub cause_later : {A : Type 0} (result : Result A Ended) (a b c : ℕ) → a ≤ b → IfErr result (λ end. EndHasCause end b c) → IfErr result (λ end. EndHasCause end a c)
cause_later (Ok x) a b c h g = tt
cause_later (Err end) a b c h g = end_later end a b c h g
