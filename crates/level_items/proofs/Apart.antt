-- Items each of which is over before the next one begins.
use Rattle.std.proofs.Common.{◌≡◌, ℕ, zero, suc, ◌<◌, ◌≤◌, Bool, true, List, [], ◌∷◌, ◌++◌, length, get_or, refl, Option, Some, None, arith}
use Rattle.std.proofs.lemmas.Bool.{and_parts, and_from, ltb-true, lt-ltb}
use Rattle.level_items.specs.declared.times.Time.{Time}
use Rattle.level_items.specs.declared.times.Time.TheVariants.{NoTime, Span, Point}
use Rattle.level_items.specs.declared.items.Item.{Item}
use Rattle.level_items.specs.Times.{first_sample, last_sample, is_before}
use Rattle.level_items.specs.Levels.{is_before_first, are_apart, last_of}

pub first-le-last : (t : Time) → first_sample t ≤ last_sample t
first-le-last NoTime = omega arith
first-le-last (Span start dur) = omega arith
first-le-last (Point at) = omega arith

pub before_trans : (a b c : Time) → is_before a b ≡ true → is_before b c ≡ true → is_before a c ≡ true
before_trans a b c ab bc =
    let one = ltb-true (last_sample a) (first_sample b) ab in
    let two = ltb-true (last_sample b) (first_sample c) bc in
    let mid = first-le-last b in
    lt-ltb (last_sample a) (first_sample c) (omega arith)

-- an optional item is over before a time begins, and before the first of a list does
abbrev pub ends_before : Option Item → Time → Bool
ends_before None time = true
ends_before (Some item) time = is_before item.time time

abbrev pub ends_before_first : Option Item → List Item → Bool
ends_before_first None items = true
ends_before_first (Some item) items = is_before_first item.time items

-- of a time between, what lies before it lies before what is behind it
pub across : (previous : Option Item) (t : Time) (items : List Item) →
    ends_before previous t ≡ true → is_before_first t items ≡ true → ends_before_first previous items ≡ true
across None t items p q = refl
across (Some item) t [] p q = refl
across (Some item) t (next ∷ items) p q = before_trans item.time t next.time p q

pub record IsSplit (xs : List Item) (x : Item) (ys : List Item) : Type 0 where
  pub front : are_apart xs ≡ true
  pub behind : ends_before (last_of xs) x.time ≡ true
  pub ahead : is_before_first x.time ys ≡ true
  pub back : are_apart ys ≡ true

pub split : (xs : List Item) (x : Item) (ys : List Item) → are_apart (xs ++ x ∷ ys) ≡ true → IsSplit xs x ys
split [] x ys h =
    let parts = and_parts (is_before_first x.time ys) (are_apart ys) h in
    record { front = refl; behind = refl; ahead = parts.0; back = parts.1 }
split (p ∷ []) x ys h =
    let parts = and_parts (is_before p.time x.time) (are_apart (x ∷ ys)) h in
    let rest = and_parts (is_before_first x.time ys) (are_apart ys) parts.1 in
    record { front = refl; behind = parts.0; ahead = rest.0; back = rest.1 }
split (p ∷ q ∷ xs) x ys h =
    let parts = and_parts (is_before p.time q.time) (are_apart ((q ∷ xs) ++ x ∷ ys)) h in
    let rest = split (q ∷ xs) x ys parts.1 in
    record { front = and_from _ _ parts.0 rest.front; behind = rest.behind; ahead = rest.ahead; back = rest.back }

pub halves : (xs ys : List Item) → are_apart (xs ++ ys) ≡ true → (are_apart xs ≡ true) × (are_apart ys ≡ true)
halves [] ys h = (refl, h)
halves (p ∷ []) ys h = (refl, (and_parts (is_before_first p.time ys) (are_apart ys) h).1)
halves (p ∷ q ∷ xs) ys h =
    let parts = and_parts (is_before p.time q.time) (are_apart ((q ∷ xs) ++ ys)) h in
    let rest = halves (q ∷ xs) ys parts.1 in
    (and_from _ _ parts.0 rest.0, rest.1)

-- two lists one after the other
pub join : (xs ys : List Item) → are_apart xs ≡ true → ends_before_first (last_of xs) ys ≡ true → are_apart ys ≡ true → are_apart (xs ++ ys) ≡ true
join [] ys front meet back = back
join (p ∷ []) ys front meet back = and_from _ _ meet back
join (p ∷ q ∷ xs) ys front meet back =
    let parts = and_parts (is_before p.time q.time) (are_apart (q ∷ xs)) front in
    and_from _ _ parts.0 (join (q ∷ xs) ys parts.1 meet back)

-- two lists and an item between them
pub join_with : (xs : List Item) (x : Item) (ys : List Item) → IsSplit xs x ys → are_apart (xs ++ x ∷ ys) ≡ true
join_with xs x ys s = join xs (x ∷ ys) s.front (meets (last_of xs) s.behind) (and_from _ _ s.ahead s.back)
  where
    meets : (previous : Option Item) → ends_before previous x.time ≡ true → ends_before_first previous (x ∷ ys) ≡ true
    meets None h = refl
    meets (Some item) h = h

-- first samples do not fall
pub starts_rise : (items : List Item) (i j : ℕ) (d : Item) → are_apart items ≡ true → i ≤ j → j < length items →
    first_sample (get_or items i d).time ≤ first_sample (get_or items j d).time
starts_rise [] i j d h order within = absurd (omega arith)
starts_rise (x ∷ xs) zero zero d h order within = omega arith
starts_rise (x ∷ []) zero (suc j) d h order within = absurd (omega arith)
starts_rise (x ∷ y ∷ xs) zero (suc j) d h order within =
    let parts = and_parts (is_before x.time y.time) (are_apart (y ∷ xs)) h in
    let step = ltb-true (last_sample x.time) (first_sample y.time) parts.0 in
    let low = first-le-last x.time in
    let rest = starts_rise (y ∷ xs) zero j d parts.1 (omega arith) (omega arith) in
    omega arith
starts_rise (x ∷ xs) (suc i) zero d h order within = absurd (omega arith)
starts_rise (x ∷ xs) (suc i) (suc j) d h order within =
    let parts = and_parts (is_before_first x.time xs) (are_apart xs) h in
    starts_rise xs i j d parts.1 (omega arith) (omega arith)
