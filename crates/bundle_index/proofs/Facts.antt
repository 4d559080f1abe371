-- What the level rule says of the items, and of the columns of a level.
use Rattle.std.proofs.Common.{◌≡◌, ◌≢◌, ◌<◌, if◌then◌else◌, ℕ, Bool, true, All, IsTrue, IfOk, Result, Ok, Err, List, [], ◌∷◌, length, map, get_or, refl, sym, ap, subst, ◌∙◌, arith}
use Rattle.std.proofs.lemmas.List.{get_or_past}
use Rattle.std.proofs.lemmas.Option.{slice_get-get_or}
use Rattle.level_items.proofs.Changes.{IsFit, fit_at}
use Rattle.emu_names.specs.declared.kinds.LevelKind.{LevelKind}
use Rattle.emu_names.specs.declared.kinds.LevelKind.TheVariants as kinds
use Rattle.level_items.specs.declared.times.Time.{Time}
use Rattle.level_items.specs.declared.times.Time.TheVariants.{NoTime, Span, Point}
use Rattle.level_items.specs.declared.items.Item.{Item}
use Rattle.level_items.specs.Levels.{Level, KeepsLevelRule, label_of}
use Rattle.level_items.specs.Times.{fits_kind, ends_in_time}
use Rattle.bundle_index.specs.declared.columns.LevelColumns.{LevelColumns}
use Rattle.bundle_index.specs.Inner.Numbered.{IsColumnOf}
use Rattle.bundle_index.specs.Inner.Index.{has_time, if_timed, label_count}
use Rattle.bundle_index.specs.Inner.Columns.{AreColumnsOf, AreLabelColumns, starts_of, ends_of}

fits_at : (level : Level) → KeepsLevelRule level → (k : ℕ) (d : Item) → k < length level.items →
    IsFit level.kind level.attributes (get_or level.items k d)
fits_at level rule k d within =
    fit_at level.kind level.attributes level.items k (get_or level.items k d) rule
    (slice_get-get_or level.items k d within)

-- each item has as many labels as the first one
pub all_labelled : (level : Level) (items : List Item) (n : ℕ) → KeepsLevelRule level → items ≡ level.items →
    n ≡ label_count items → All (λ (i : Item). length i.labels ≡ n) items
all_labelled level items n rule is count k d within =
    subst (λ (its : List Item). length (get_or its k d).labels ≡ n) (sym is)
    (at.count ∙ sym (first level.items rule-first (subst (λ (its : List Item). k < length its) is within))
    ∙ sym (ap label_count is) ∙ sym count)
  where
    inside : k < length level.items
    inside = subst (λ (its : List Item). k < length its) is within

    at : IsFit level.kind level.attributes (get_or level.items k d)
    at = fits_at level rule k d inside

    rule-first : (e : Item) → 0 < length level.items → length (get_or level.items 0 e).labels ≡ level.attributes
    rule-first e some = (fits_at level rule 0 e some).count

    first : (its : List Item) → ((e : Item) → 0 < length its → length (get_or its 0 e).labels ≡ level.attributes) →
        k < length its → label_count its ≡ level.attributes
    first [] said some = absurd (omega arith)
    first (i ∷ its) said some = said i (omega arith)

pub all_in_time : (level : Level) (items : List Item) → KeepsLevelRule level → items ≡ level.items →
    All (λ (i : Item). IsTrue (ends_in_time i.time)) items
all_in_time level items rule is k d within =
    subst (λ (its : List Item). IsTrue (ends_in_time (get_or its k d).time)) (sym is)
    (fits_at level rule k d (subst (λ (its : List Item). k < length its) is within)).end

-- an item of a level with times has one
timed : (kind : LevelKind) (time : Time) → kind ≢ kinds.Item → fits_kind kind time ≡ true → has_time time ≡ true
timed kinds.Item time other form = absurd (other refl)
timed kinds.Segment NoTime other form = absurd cc
timed kinds.Segment (Span start dur) other form = refl
timed kinds.Segment (Point at) other form = absurd cc
timed kinds.Event NoTime other form = absurd cc
timed kinds.Event (Span start dur) other form = absurd cc
timed kinds.Event (Point at) other form = refl

-- the columns of times of a level with times are whole
all_timed : (level : Level) (f : List Item → List ℕ) → KeepsLevelRule level → f [] ≡ [] → level.kind ≢ kinds.Item →
    if_timed level.items (f level.items) ≡ f level.items
all_timed level f rule none other = by level.items (λ e some. (fits_at level rule 0 e some).form)
  where
    by : (items : List Item) → ((e : Item) → 0 < length items → fits_kind level.kind (get_or items 0 e).time ≡ true) →
        if_timed items (f items) ≡ f items
    by [] said = sym none
    by (i ∷ its) said =
        let has : has_time i.time ≡ true = timed level.kind i.time other (said i (omega arith)) in
        ap (λ (b : Bool). if b then f (i ∷ its) else []) has

-- the columns of labels of a level are those of all its attributes
all_columns : (numbered : List (List ℕ)) (level : Level) (columns : List (List ℕ)) → KeepsLevelRule level →
    AreLabelColumns numbered level.items (label_count level.items) columns → (attribute : ℕ) → attribute < level.attributes →
    IsColumnOf numbered (get_or columns attribute []) (map (label_of attribute) level.items)
all_columns numbered level columns rule made attribute below =
    by level.items (λ e some. (fits_at level rule 0 e some).count) made
  where
    by : (items : List Item) → ((e : Item) → 0 < length items → length (get_or items 0 e).labels ≡ level.attributes) →
        AreLabelColumns numbered items (label_count items) columns →
        IsColumnOf numbered (get_or columns attribute []) (map (label_of attribute) items)
    by [] said is =
        subst (λ (c : List ℕ). IsColumnOf numbered c []) (sym (get_or_past columns attribute [] (omega (arith, is.count)))) refl
    by (i ∷ its) said is =
        let count : length i.labels ≡ level.attributes = said i (omega arith) in
        is.each attribute (omega (arith, count))

pub are_columns : {E : Type 0} (numbered : List (List ℕ)) (level : Level) (items : List Item) (n : ℕ) (made : List (List ℕ))
    (r : Result LevelColumns E) → KeepsLevelRule level → items ≡ level.items → n ≡ label_count items →
    AreLabelColumns numbered items n made → IfOk r (λ c. c.labels ≡ made) →
    IfOk r (λ c. c.starts ≡ if_timed items (starts_of items)) → IfOk r (λ c. c.ends ≡ if_timed items (ends_of items)) →
    IfOk r (λ c. AreColumnsOf numbered level c)
are_columns numbered level items n made (Err e) rule is count labels kept starts ends = tt
are_columns numbered level items n made (Ok c) rule is count labels kept starts ends = record {
  labels = λ attribute below.
      subst (λ (cs : List (List ℕ)). IsColumnOf numbered (get_or cs attribute []) (map (label_of attribute) level.items))
      (sym kept) (all_columns numbered level made rule here attribute below);
  starts = λ other. starts ∙ ap (λ (its : List Item). if_timed its (starts_of its)) is ∙ all_timed level starts_of rule refl other;
  ends = λ other. ends ∙ ap (λ (its : List Item). if_timed its (ends_of its)) is ∙ all_timed level ends_of rule refl other;
}
  where
    here : AreLabelColumns numbered level.items (label_count level.items) made
    here = subst (λ (its : List Item). AreLabelColumns numbered its (label_count its) made) is
        (subst (λ (k : ℕ). AreLabelColumns numbered items k made) count labels)
