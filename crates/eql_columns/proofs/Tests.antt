-- Tests of labels by rows of bits and by numbers.
use Rattle.std.proofs.Common.{◌≡◌, ◌⊎◌, inl, inr, ℕ, zero, suc, ◌+◌, ◌<◌, ◌≤◌, Bool, false, ◌&&◌, List, [], ◌∷◌, length, map, take, drop, get_or, nat_eq, Option, None, Some, Result, Ok, Err, refl, sym, ap, subst, ◌∙◌, arith}
use Rattle.std.specs.Prelude.{All, IfOk, IsSome, is_some, replicate, slice_set, true}
use Rattle.std.specs.List.{list_any, list_all, range_with_len, slice_get}
use Rattle.std.specs.Option.{option_and_then}
use Rattle.std.specs.Simd.Lanes.{zip2}
use Rattle.std.specs.Str.{bytes_eq}
use Rattle.std.proofs.lemmas.Bool.{cases_eq}
use Rattle.std.proofs.lemmas.Bool.Decides.{nat_tests}
use Rattle.std.proofs.lemmas.List.{ext_get_or, get_or-map, get_or-replicate, get_or-set_other, get_or-set_same, length-map, length-replicate, length-set, take-append-drop, take_all}
use Rattle.std.proofs.lemmas.List.Folds.{list_all-append}
use Rattle.std.proofs.lemmas.List.FromFn.{fill_by_all, get_or-range_with_len, length-range_with_len}
use Rattle.std.proofs.lemmas.Option.{get_or_from_slice_get, same_Some, slice_get-get_or, slice_get_within}
use Rattle.emu_names.specs.declared.shortage.Memory.{Memory}
use Rattle.level_items.specs.declared.items.Item.{Item}
use Rattle.db_config.specs.declared.parts.AttributePlace.{AttributePlace}
use Rattle.db_config.specs.declared.parts.ConfigParts.{ConfigParts}
use Rattle.db_config.specs.declared.parts.LevelDef.{LevelDef}
use Rattle.db_config.specs.Lookups.{attribute_at}
use Rattle.emu_names.specs.Texts.{same_text}
use Rattle.bundle_state.specs.Bundle.{BundleParts}
use Rattle.bundle_state.specs.Built.{FitsConfig}
use Rattle.bundle_state.proofs.Calling.{level_within}
use Rattle.bundle_index.specs.Inner.Index.{attributes_on, has_label}
use Rattle.level_items.specs.Levels.{items_at, label_of}
use Rattle.bundle_index.specs.Inner.Numbered.{IsColumnOf}
use Rattle.bundle_index.proofs.Callers.{attributes_asked}
use Rattle.label_match.specs.Pattern.{matches_label}
use Rattle.eql_resolve.specs.Asked.{AskedTerm, term_level}
use Rattle.lane_bits.specs.Inner.Row.{IsFirst}
use Rattle.eql_rows.specs.Inner.Flags.{flag_at}
use Rattle.eql_model.specs.Labels.{is_as}
use Rattle.eql_model.specs.Inner.Labels.{matched_row}
use Rattle.eql_model.specs.Meaning.{meets}
use Rattle.eql_model.specs.Inner.Meaning.{met_row}
use Rattle.eql_model.proofs.MadeRows.{no_item}
use Rattle.eql_columns.specs.Inner.Labels.{is_among, label_row, labels_row, label_at, HasColumn, AreNumbersOf, AreAnswers}
use Rattle.eql_columns.specs.Inner.Rows.{any_bits, all_bits}
use Rattle.eql_columns.proofs.Bits.{IsFilled, filled_all, any_rows_are, rows_wide, all_long, all_first, all_none, all_step}

-- ---- columns that are there

some_within : {X : Type 0} (xs : List X) (i : ℕ) (o : Option X) → slice_get xs i ≡ o → IsSome o → i < length xs
some_within xs i None is there = absurd cc
some_within xs i (Some x) is there = slice_get_within xs i x is

pub has_column : (c : ConfigParts) (b : BundleParts) (place : AttributePlace) → FitsConfig c b → IsSome (attribute_at place c.levels) →
    HasColumn b place
has_column c b place fits there = by (slice_get c.levels place.level) refl there
  where
    by : (o : Option LevelDef) → slice_get c.levels place.level ≡ o →
        IsSome (option_and_then (λ (d : LevelDef). slice_get d.attributes place.attribute) o) → HasColumn b place
    by None is some = absurd cc
    by (Some d) is some = record {
      level = level_within c b place.level d fits is;
      attribute =
          let count : attributes_on b place.level ≡ length d.attributes = attributes_asked c b place.level d fits is in
          let within : place.attribute < length d.attributes =
          some_within d.attributes place.attribute (slice_get d.attributes place.attribute) refl some in
          omega arith;
    }

-- ---- one label

nat_swap : (x y : ℕ) → nat_eq x y ≡ nat_eq y x
nat_swap x y = grind (arith, nat_tests)

text_swap : (xs ys : List ℕ) → bytes_eq xs ys ≡ same_text ys xs
text_swap [] [] = refl
text_swap [] (y ∷ ys) = refl
text_swap (x ∷ xs) [] = refl
text_swap (x ∷ xs) (y ∷ ys) = λ i. nat_swap x y i && text_swap xs ys i

same_label : (attribute : ℕ) (label : List ℕ) (item : Item) → has_label attribute label item ≡ same_text (label_of attribute item) label
same_label attribute label item = text_swap label (label_of attribute item)

pub label_exit : (b : BundleParts) (place : AttributePlace) (label : List ℕ) (r : Result (List Bool) Memory) →
    IfOk r (λ row. row ≡ map (has_label place.attribute label) (items_at b.levels place.level)) → IfOk r (λ row. row ≡ label_row b place label)
label_exit b place label (Err e) told = tt
label_exit b place label (Ok row) told =
    told ∙ (λ i. map (λ item. same_label place.attribute label item i) (items_at b.levels place.level))

-- ---- rows of several patterns

pub any_exit : {X Y : Type 0} (p : Y → X → Bool) (xs : List X) (d : X) (n : ℕ) (ys : List Y) (rows : List (List Bool)) (any : List Bool) →
    rows ≡ map (λ y. map (p y) xs) ys → n ≡ length xs → any ≡ any_bits n rows → any ≡ map (λ x. list_any (λ y. p y x) ys) xs
any_exit p xs d n ys rows any are long told = told ∙ ap (any_bits n) are ∙ any_rows_are p xs d n ys long

pub wide_rows : {X Y : Type 0} (p : Y → X → Bool) (xs : List X) (n : ℕ) (ys : List Y) (rows : List (List Bool)) →
    rows ≡ map (λ y. map (p y) xs) ys → n ≡ length xs → All (λ row. length row ≡ n) rows
wide_rows p xs n ys rows are long =
    subst (λ (rs : List (List Bool)). All (λ row. length row ≡ n) rs) (sym are) (rows_wide p xs n long ys)

-- whether a pattern matches an item's label
abbrev pub is_match : ℕ → List ℕ → Item → Bool
is_match attribute pattern item = matches_label pattern (label_of attribute item)

-- ---- numbers of labels

abbrev some_label : List ℕ → Option (List ℕ)
some_label l = Some l

numbered_at : (numbered : List (List ℕ)) (column : List ℕ) (labels : List (List ℕ)) → IsColumnOf numbered column labels →
    (i : ℕ) → i < length labels → length column ≡ length labels → slice_get numbered (get_or column i 0) ≡ Some (get_or labels i [])
numbered_at numbered column labels is i h same =
    sym (get_or-map (slice_get numbered) column i 0 None (omega arith)) ∙ ap (λ os. get_or os i None) is
    ∙ get_or-map (λ l. Some l) labels i [] None h

numbers_by : (numbered : List (List ℕ)) (column : List ℕ) (labels : List (List ℕ)) → IsColumnOf numbered column labels →
    AreNumbersOf column labels
numbers_by numbered column labels is = record {
  count = count;
  alike = λ i j here there same.
      same_Some (get_or labels i []) (get_or labels j [])
      (sym (numbered_at numbered column labels is i here count) ∙ ap (slice_get numbered) same
      ∙ numbered_at numbered column labels is j there count);
}
  where
    count : length column ≡ length labels
    count = sym (length-map column (slice_get numbered)) ∙ ap length is ∙ length-map labels some_label

pub numbers_of : (numbered : List (List ℕ)) (column : List ℕ) (attribute : ℕ) (items : List Item) →
    IsColumnOf numbered column (map (label_of attribute) items) → AreNumbersOf column (map (label_of attribute) items)
numbers_of numbered column attribute items is = numbers_by numbered column (map (label_of attribute) items) is

-- the label of an item stands at its number
pub label_numbered : (numbered : List (List ℕ)) (column : List ℕ) (attribute : ℕ) (items : List Item) (at : ℕ) →
    IsColumnOf numbered column (map (label_of attribute) items) → at < length items →
    slice_get numbered (get_or column at 0) ≡ Some (label_at attribute items at)
label_numbered numbered column attribute items at is below =
    numbered_at numbered column (map (label_of attribute) items) is at (omega (arith, below, length-map items (label_of attribute)))
    (numbers_by numbered column (map (label_of attribute) items) is).count

-- a column has a number for each item
pub column_long : (numbered : List (List ℕ)) (column : List ℕ) (attribute : ℕ) (items : List Item) →
    IsColumnOf numbered column (map (label_of attribute) items) → length column ≡ length items
column_long numbered column attribute items is =
    (numbers_by numbered column (map (label_of attribute) items) is).count ∙ length-map items (label_of attribute)

-- ---- answers at numbers

abbrev pub no_answer : Option Bool
no_answer = None

none_noted : {A : Type 0} (n k : ℕ) (bit : Bool) → slice_get (replicate n no_answer) k ≡ Some (Some bit) → A
none_noted n k bit noted =
    let within = slice_get_within (replicate n no_answer) k (Some bit) noted in
    let there : get_or (replicate n no_answer) k no_answer ≡ Some bit =
    get_or_from_slice_get (replicate n no_answer) k (Some bit) no_answer noted in
    let out : get_or (replicate n no_answer) k no_answer ≡ no_answer =
    get_or-replicate n k no_answer no_answer (omega (arith, within, length-replicate n no_answer)) in
    absurd cc

pub answers_none : (pattern : List ℕ) (column : List ℕ) (labels : List (List ℕ)) (n : ℕ) (answers : List (Option Bool)) →
    answers ≡ replicate n no_answer → AreAnswers pattern column labels answers
answers_none pattern column labels n answers is = record {
  right = λ k bit h noted. none_noted n (get_or column k 0) bit (ap (λ os. slice_get os (get_or column k 0)) (sym is) ∙ noted);
}

pub answers_within : (column : List ℕ) (n : ℕ) (answers : List (Option Bool)) → answers ≡ replicate n no_answer → All (λ m. m < n) column →
    All (λ m. m < length answers) column
answers_within column n answers is all =
    subst (λ (k : ℕ). All (λ m. m < k) column) (sym (ap length is ∙ length-replicate n no_answer)) all

pub answers_more : (pattern : List ℕ) (column : List ℕ) (labels : List (List ℕ)) (answers more : List (Option Bool)) (at number : ℕ)
    (is : Bool) → AreNumbersOf column labels → AreAnswers pattern column labels answers → get_or column at 0 ≡ number →
    at < length labels → is ≡ matches_label pattern (get_or labels at []) → more ≡ slice_set answers number (Some is) →
    AreAnswers pattern column labels more
answers_more pattern column labels answers more at number is numbers right here h own put = record {
  right = λ k bit below noted. by k bit below noted (cases_eq (get_or column k 0) number);
}
  where
    by : (k : ℕ) (bit : Bool) → k < length labels → slice_get more (get_or column k 0) ≡ Some (Some bit) →
        (get_or column k 0 ≡ number) ⊎ (get_or column k 0 ≡ number → ⊥) → bit ≡ matches_label pattern (get_or labels k [])
    by k bit below noted (inl same) =
        let within : get_or column k 0 < length more = slice_get_within more (get_or column k 0) (Some bit) noted in
        let long : length more ≡ length answers = ap length put ∙ length-set answers number (Some is) in
        let noted_is : get_or (slice_set answers number (Some is)) number None ≡ Some bit =
        sym (λ i. get_or (put i) (same i) None) ∙ get_or_from_slice_get more (get_or column k 0) (Some bit) None noted in
        let set_is : get_or (slice_set answers number (Some is)) number None ≡ Some is =
        get_or-set_same answers number (Some is) None (omega (arith, within, long, same)) in
        let bit_is : bit ≡ is = same_Some bit is (sym noted_is ∙ set_is) in
        bit_is ∙ own ∙ ap (matches_label pattern) (numbers.alike at k h below (here ∙ sym same))
    by k bit below noted (inr other) =
        let within : get_or column k 0 < length more = slice_get_within more (get_or column k 0) (Some bit) noted in
        let long : length more ≡ length answers = ap length put ∙ length-set answers number (Some is) in
        let there : get_or answers (get_or column k 0) None ≡ Some bit =
        sym (get_or-set_other answers number (get_or column k 0) (Some is) None other)
        ∙ sym (ap (λ os. get_or os (get_or column k 0) None) put)
        ∙ get_or_from_slice_get more (get_or column k 0) (Some bit) None noted in
        right.right k bit below
        (slice_get-get_or answers (get_or column k 0) None (omega (arith, within, long)) ∙ ap (λ o. Some o) there)

-- the pattern is the same, what is noted is right, and the first bits are the answers
pub record Answered (pattern column : List ℕ) (attribute : ℕ) (items : List Item) (now : List ℕ) (answers : List (Option Bool))
    (row : List Bool) (at : ℕ) : Type 0 where
  pub same : now ≡ pattern
  pub noted : AreAnswers pattern column (map (label_of attribute) items) answers
  pub within : All (λ n. n < length answers) column
  pub bits : IsFilled (λ k. matches_label pattern (label_at attribute items k)) row (length items) at

-- the first places of a row are the answers for the items
pub matched_all : (pattern : List ℕ) (attribute : ℕ) (items : List Item) (row : List Bool) (n at : ℕ) →
    IsFilled (λ k. matches_label pattern (label_at attribute items k)) row n at → n ≡ length items → n ≡ at →
    row ≡ matched_row attribute items pattern
matched_all pattern attribute items row n at so_far long end =
    filled_all (λ k. matches_label pattern (label_at attribute items k)) row n at so_far end
    ∙ sym (fill_by_all (λ k. matches_label pattern (label_at attribute items k)) (matched_row attribute items pattern) n false
    (length-map items (λ item. matches_label pattern (label_of attribute item)) ∙ sym long)
    (λ k below.
    get_or-map (λ item. matches_label pattern (label_of attribute item)) items k no_item false (omega arith)
    ∙ ap (matches_label pattern) (sym (get_or-map (label_of attribute) items k no_item [] (omega arith)))))

-- lists of labels that are the same at each place
pub same_lists : (one other : List (List ℕ)) (at : ℕ) → length one ≡ length other → length one ≤ at →
    ((k : ℕ) → k < at → get_or one k [] ≡ get_or other k []) → one ≡ other
same_lists one other at long past each = ext_get_or [] one other long (λ k below. each k (omega arith))

-- the first places of a row are whether the items' labels are among some
pub held_all : (labels : List (List ℕ)) (attribute : ℕ) (items : List Item) (row : List Bool) (n at : ℕ) →
    IsFilled (λ k. is_among labels (label_at attribute items k)) row n at → n ≡ length items → n ≡ at →
    row ≡ map (λ item. is_among labels (label_of attribute item)) items
held_all labels attribute items row n at so_far long end =
    filled_all (λ k. is_among labels (label_at attribute items k)) row n at so_far end
    ∙ sym (fill_by_all (λ k. is_among labels (label_at attribute items k)) (map (λ item. is_among labels (label_of attribute item)) items) n
    false (length-map items (λ item. is_among labels (label_of attribute item)) ∙ sym long)
    (λ k below.
    get_or-map (λ item. is_among labels (label_of attribute item)) items k no_item false (omega arith)
    ∙ ap (is_among labels) (sym (get_or-map (label_of attribute) items k no_item [] (omega arith)))))

pub group_row : (b : BundleParts) (place : AttributePlace) (labels held : List (List ℕ)) (items : List Item) (row : List Bool) → held ≡ labels →
    items ≡ items_at b.levels place.level → row ≡ map (λ item. is_among held (label_of place.attribute item)) items →
    row ≡ labels_row b place labels
group_row b place labels held items row same its told =
    told ∙ (λ i. map (λ item. is_among (same i) (label_of place.attribute item)) (its i))

-- ---- conditions one after another

mapped_at : {X : Type 0} (f : X → List Bool) (ts : List X) (at : ℕ) (t : X) (row : List Bool) → at < length ts → t ≡ get_or ts at t →
    row ≡ f t → row ≡ get_or (map f ts) at row
mapped_at f ts at t row h here is = is ∙ ap f here ∙ sym (get_or-map f ts at t row h)

pub met_first : {X : Type 0} (f : X → List Bool) (ts : List X) (n : ℕ) (t : X) (row : List Bool) → 0 < length ts → t ≡ get_or ts 0 t →
    row ≡ f t → length (f t) ≡ n → row ≡ all_bits n (take 1 (map f ts))
met_first f ts n t row h here is wide =
    all_first n (map f ts) row (omega (arith, length-map ts f)) (mapped_at f ts 0 t row h here is) (ap length is ∙ wide)

pub met_more : {X : Type 0} (f : X → List Bool) (ts : List X) (n at : ℕ) (t : X) (met more : List Bool) →
    met ≡ all_bits n (take at (map f ts)) → at < length ts → t ≡ get_or ts at t → length (f t) ≡ n →
    more ≡ zip2 (λ a b. a && b) met (f t) → more ≡ all_bits n (take (at + 1) (map f ts))
met_more f ts n at t met more so_far h here wide put =
    all_step n (map f ts) at (f t) met more so_far (omega (arith, length-map ts f)) (mapped_at f ts at t (f t) h here refl) wide put

pub met_whole : {X : Type 0} (f : X → List Bool) (ts : List X) (n at : ℕ) (met : List Bool) → met ≡ all_bits n (take at (map f ts)) →
    length ts ≤ at → met ≡ all_bits n (map f ts)
met_whole f ts n at met so_far past = so_far ∙ ap (all_bits n) (take_all at (map f ts) (omega (arith, length-map ts f)))

-- conditions that no item meets, and others
pub met_nowhere : {X : Type 0} (f : X → List Bool) (ts : List X) (n at : ℕ) (met : List Bool) → met ≡ all_bits n (take at (map f ts)) →
    ((i : ℕ) → i < length met → slice_get met i ≡ Some false) → met ≡ all_bits n (map f ts)
met_nowhere f ts n at met so_far none =
    fill_by_all (λ k. list_all (flag_at k) (map f ts)) met n false long (λ k below. unset k below ∙ sym (whole k below))
  where
    long : length met ≡ n
    long = ap length so_far ∙ all_long n (take at (map f ts))

    unset : (k : ℕ) → k < n → get_or met k false ≡ false
    unset k below = get_or_from_slice_get met k false false (none k (omega (arith, long)))

    zero_plus : (k : ℕ) → 0 + k ≡ k
    zero_plus k = omega arith

    front : (k : ℕ) → k < n → list_all (flag_at k) (take at (map f ts)) ≡ false
    front k below =
        sym (ap (λ j. list_all (flag_at j) (take at (map f ts))) (get_or-range_with_len 0 n k 0 below ∙ zero_plus k))
        ∙ sym (get_or-map (λ j. list_all (flag_at j) (take at (map f ts))) (range_with_len 0 n) k 0 false (omega (arith, length-range_with_len 0 n)))
        ∙ sym (ap (λ row. get_or row k false) so_far) ∙ unset k below

    whole : (k : ℕ) → k < n → list_all (flag_at k) (map f ts) ≡ false
    whole k below =
        ap (list_all (flag_at k)) (sym (take-append-drop at (map f ts)))
        ∙ list_all-append (flag_at k) (take at (map f ts)) (drop at (map f ts))
        ∙ ap (λ b. b && list_all (flag_at k) (drop at (map f ts))) (front k below)

no_rows : {X : Type 0} (f : X → List Bool) (ts : List X) → length ts ≡ 0 → [] ≡ map f ts
no_rows f [] none = refl
no_rows f (t ∷ ts) none = absurd (omega arith)

pub met_none : {X : Type 0} (f : X → List Bool) (ts : List X) (n m : ℕ) (r : Result (List Bool) Memory) → length ts ≡ 0 → n ≡ m →
    IfOk r (λ row. row ≡ replicate n true) → IfOk r (λ met. met ≡ all_bits m (map f ts))
met_none f ts n m (Err e) none same told = tt
met_none f ts n m (Ok row) none same told =
    told ∙ ap (λ k. replicate k true) same ∙ all_none m (replicate m true) (map f ts) refl ∙ ap (all_bits m) (no_rows f ts none)

pub no_first : (row : List Bool) (o : Option ℕ) → IsFirst row o → is_some o ≡ false → (i : ℕ) → i < length row → slice_get row i ≡ Some false
no_first row None first none i within = first i within tt
no_first row (Some at) first none i within = absurd cc

pub some_terms : (n : ℕ) → nat_eq n 0 ≡ false → 0 < n
some_terms zero h = absurd cc
some_terms (suc n) h = omega arith

-- ---- what is found, or not

map_map : {X Y Z : Type 0} (f : Y → Z) (g : X → Y) (xs : List X) → map f (map g xs) ≡ map (λ x. f (g x)) xs
map_map f g [] = refl
map_map f g (x ∷ xs) = ap (λ ys. f (g x) ∷ ys) (map_map f g xs)

pub found_map : (found : Bool) (p : Item → Bool) (items : List Item) (row made : List Bool) → row ≡ map p items →
    made ≡ map (is_as found) row → made ≡ map (λ item. is_as found (p item)) items
found_map found p items row made is told = told ∙ ap (map (is_as found)) is ∙ map_map (is_as found) p items

-- ---- the level of a condition

pub met_at : (c : ConfigParts) (b : BundleParts) (level : ℕ) (t : AskedTerm) (row : List Bool) → term_level t ≡ level →
    row ≡ map (meets c b t) (items_at b.levels (term_level t)) → row ≡ met_row c b level t
met_at c b level t row same told = told ∙ ap (λ n. map (meets c b t) (items_at b.levels n)) same

pub unset_at : (b : BundleParts) (level : ℕ) (t : AskedTerm) (n : ℕ) (row : List Bool) → term_level t ≡ level → row ≡ replicate n false →
    n ≡ length (items_at b.levels level) → row ≡ replicate (length (items_at b.levels (term_level t))) false
unset_at b level t n row same is long =
    is ∙ ap (λ m. replicate m false) (long ∙ ap (λ m. length (items_at b.levels m)) (sym same))
