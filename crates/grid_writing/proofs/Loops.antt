-- Steps of the loops over items, entries and levels.
use Rattle.std.proofs.Common.{◌≡◌, ℕ, zero, suc, ◌+◌, ◌-◌, ◌<◌, ◌≤◌, Bool, true, false, cond, ltb, List, [], ◌∷◌, ◌++◌, length, map, take, drop, get_or, max, All, Option, Some, None, Result, Ok, Err, add-one, append_assoc, append-nil, arith, refl, sym, ap, ◌∙◌, subst}
use Rattle.std.proofs.Math.Seq.{drop-cons}
use Rattle.std.specs.Prelude.{codes, OnOk}
use Rattle.std.specs.Fmt.{decimal}
use Rattle.level_items.specs.declared.items.Item.{Item}
use Rattle.level_items.specs.Times.{first_sample, last_sample}
use Rattle.grid_writing.specs.declared.entries.Entry.{Entry}
use Rattle.grid_writing.specs.declared.levels.TimeLevel.{TimeLevel}
use Rattle.sample_time.specs.Printed.{time_text}
use Rattle.grid_writing.specs.Filled.{entry_of, entry_time, entry_label, gap, filled_from}
use Rattle.grid_writing.specs.Levels.{reach}
use Rattle.grid_writing.specs.Layout.{line, doubled, interval_lines, entry_lines, entries_lines, class_text, size_lead, tier_lines, tiers_lines, head_text, grid_text}
use Rattle.grid_writing.specs.Inner.Within.{AreWithin}
use Rattle.grid_writing.proofs.Fillers.{never_back}

-- a line behind a text
pub line_put : (old a b new lead value end rest : List ℕ) → a ≡ old ++ lead → b ≡ a ++ value → new ≡ b ++ end → new ++ rest ≡ old ++ line lead value end rest
unfolding line
line_put old a b new lead value end rest one two three =
    rw (three, two, one)
    (append_assoc ((old ++ lead) ++ value) end rest ∙ append_assoc (old ++ lead) value (end ++ rest) ∙ append_assoc old lead (value ++ (end ++ rest)))

-- the element at a place, and those behind it
pub at_place : {A : Type 0} (xs : List A) (i : ℕ) (x : A) → i < length xs → x ≡ get_or xs i x → drop i xs ≡ x ∷ drop (i + 1) xs
at_place xs i x within is =
    drop-cons xs i x within ∙ ap (λ y. y ∷ drop (suc i) xs) (sym is) ∙ ap (λ n. x ∷ drop n xs) (sym (add-one i))

-- the filled list so far
fill_step : (end from : ℕ) (x : Item) (items : List Item) (old mid new all : List Entry) → mid ≡ old ++ gap from (first_sample x.time) → new ≡ mid ++ entry_of x ∷ [] → old ++ filled_from end from (x ∷ items) ≡ all → new ++ filled_from end (last_sample x.time + 1) items ≡ all
fill_step end from x items old mid new all one two before =
    let rest : List Entry = filled_from end (last_sample x.time + 1) items in
    ap (λ ys. ys ++ rest) two ∙ append_assoc mid (entry_of x ∷ []) rest ∙ ap (λ ys. ys ++ entry_of x ∷ rest) one
    ∙ append_assoc old (gap from (first_sample x.time)) (entry_of x ∷ rest) ∙ before

pub fill_more : (end from i : ℕ) (items : List Item) (x : Item) (old mid new all : List Entry) → i < length items → x ≡ get_or items i x → mid ≡ old ++ gap from (first_sample x.time) → new ≡ mid ++ entry_of x ∷ [] → old ++ filled_from end from (drop i items) ≡ all → new ++ filled_from end (last_sample x.time + 1) (drop (i + 1) items) ≡ all
fill_more end from i items x old mid new all inside is one two before =
    fill_step end from x (drop (i + 1) items) old mid new all one two
    (ap (λ ys. old ++ filled_from end from ys) (sym (at_place items i x inside is)) ∙ before)

pub within_more : (end from i : ℕ) (items : List Item) (x : Item) → i < length items → x ≡ get_or items i x → AreWithin end from (drop i items) → AreWithin end (last_sample x.time + 1) (drop (i + 1) items)
within_more end from i items x inside is within =
    let both : AreWithin end from (x ∷ drop (i + 1) items) = subst (λ ys. AreWithin end from ys) (at_place items i x inside is) within in
    both.1

within_end : (end from : ℕ) (items : List Item) → AreWithin end from items → from ≤ end
within_end end from [] within = within
within_end end from (i ∷ is) within =
    let rest = within_end end (last_sample i.time + 1) is within.1 in
    let back = never_back i.time in
    omega (arith, within.0)

pub last_below : (end from i : ℕ) (items : List Item) (x : Item) → i < length items → x ≡ get_or items i x → AreWithin end from (drop i items) → last_sample x.time + 1 ≤ end
last_below end from i items x inside is within =
    within_end end (last_sample x.time + 1) (drop (i + 1) items) (within_more end from i items x inside is within)

-- the greatest sample so far
pub reach_more : (i old new all : ℕ) (items : List Item) (x : Item) → i < length items → x ≡ get_or items i x → new ≡ max (last_sample x.time + 1) old → max old (reach (drop i items)) ≡ all → max new (reach (drop (i + 1) items)) ≡ all
reach_more i old new all items x inside is grown before =
    let whole : max old (reach (x ∷ drop (i + 1) items)) ≡ all = ap (λ ys. max old (reach ys)) (sym (at_place items i x inside is)) ∙ before in
    omega (arith, grown, whole)

-- entries behind a text
pub entries_more : (segments : Bool) (rate i : ℕ) (es : List Entry) (e : Entry) (old new goal rest : List ℕ) → i < length es → e ≡ get_or es i e → ((more : List ℕ) → new ++ more ≡ old ++ entry_lines segments rate (i + 1) e more) → old ++ entries_lines segments rate i (drop i es) rest ≡ goal → new ++ entries_lines segments rate (i + 1) (drop (i + 1) es) rest ≡ goal
entries_more segments rate i es e old new goal rest inside is put before =
    put (entries_lines segments rate (i + 1) (drop (i + 1) es) rest)
    ∙ ap (λ ys. old ++ entries_lines segments rate i ys rest) (sym (at_place es i e inside is)) ∙ before

-- tiers behind a text
pub tiers_more : (rate end i : ℕ) (ls : List TimeLevel) (l : TimeLevel) (old new goal rest : List ℕ) → i < length ls → l ≡ get_or ls i l → ((more : List ℕ) → new ++ more ≡ old ++ tier_lines rate end (i + 1) l more) → old ++ tiers_lines rate end i (drop i ls) rest ≡ goal → new ++ tiers_lines rate end (i + 1) (drop (i + 1) ls) rest ≡ goal
tiers_more rate end i ls l old new goal rest inside is put before =
    put (tiers_lines rate end (i + 1) (drop (i + 1) ls) rest)
    ∙ ap (λ ys. old ++ tiers_lines rate end i ys rest) (sym (at_place ls i l inside is)) ∙ before

-- what follows from an answer that is there
pub on_ok : {A E : Type 0} {P Q : Type 0} (r : Result A E) → (P → Q) → OnOk r P → OnOk r Q
on_ok (Ok value) step given = step given
on_ok (Err fault) step given = given

-- the lines of an interval, one behind another
pub interval_put : (old a b d new : List ℕ) (rate number first end : ℕ) (label : List ℕ) (e : Entry) → first ≡ first_sample (entry_time e) → end ≡ last_sample (entry_time e) + 1 → label ≡ entry_label e
    → ((r : List ℕ) → a ++ r ≡ old ++ line (codes "        intervals [") (decimal number) (codes "]:\n") r)
    → ((r : List ℕ) → b ++ r ≡ a ++ line (codes "            xmin = ") (time_text first rate) (codes "\n") r)
    → ((r : List ℕ) → d ++ r ≡ b ++ line (codes "            xmax = ") (time_text end rate) (codes "\n") r)
    → ((r : List ℕ) → new ++ r ≡ d ++ line (codes "            text = \"") (doubled label) (codes "\"\n") r)
    → (r : List ℕ) → new ++ r ≡ old ++ interval_lines rate number e r
interval_put old a b d new rate number first end label e is_first is_end is_label one two three four r =
    rw (← is_first, ← is_end, ← is_label) (four r ∙ three _ ∙ two _ ∙ one _)

-- the lines of a tier
pub tier_put : (old a b d f g h new : List ℕ) (rate end number size : ℕ) (class_word name lead : List ℕ) (es : List Entry) (level : TimeLevel) → class_word ≡ class_text level.segments → name ≡ level.name → lead ≡ size_lead level.segments → es ≡ level.entries → size ≡ length es
    → ((r : List ℕ) → a ++ r ≡ old ++ line (codes "    item [") (decimal number) (codes "]:\n") r)
    → ((r : List ℕ) → b ++ r ≡ a ++ line (codes "        class = \"") class_word (codes "\"\n") r)
    → ((r : List ℕ) → d ++ r ≡ b ++ line (codes "        name = \"") (doubled name) (codes "\"\n") r)
    → ((r : List ℕ) → f ++ r ≡ d ++ line (codes "        xmin = ") (time_text 0 rate) (codes "\n") r)
    → ((r : List ℕ) → g ++ r ≡ f ++ line (codes "        xmax = ") (time_text end rate) (codes "\n") r)
    → ((r : List ℕ) → h ++ r ≡ g ++ line lead (decimal size) (codes "\n") r)
    → ((r : List ℕ) → new ++ r ≡ h ++ entries_lines level.segments rate 0 es r)
    → (r : List ℕ) → new ++ r ≡ old ++ tier_lines rate end number level r
tier_put old a b d f g h new rate end number size class_word name lead es level is_class is_name is_lead is_es is_size one two three four five six seven r =
    rw (← is_class, ← is_name, ← is_lead, ← is_es, ← is_size) (seven r ∙ six _ ∙ five _ ∙ four _ ∙ three _ ∙ two _ ∙ one _)

-- the lines of a grid
pub grid_put : (none a b d new : List ℕ) (rate end : ℕ) (levels : List TimeLevel) → none ≡ []
    → ((r : List ℕ) → a ++ r ≡ none ++ line head_text (time_text 0 rate) (codes "\n") r)
    → ((r : List ℕ) → b ++ r ≡ a ++ line (codes "xmax = ") (time_text end rate) (codes "\ntiers? <exists>\n") r)
    → ((r : List ℕ) → d ++ r ≡ b ++ line (codes "size = ") (decimal (length levels)) (codes "\nitem []:\n") r)
    → ((r : List ℕ) → new ++ r ≡ d ++ tiers_lines rate end 0 levels r)
    → new ≡ grid_text rate end levels
unfolding grid_text
grid_put none a b d new rate end levels empty one two three four =
    sym (append-nil new) ∙ four [] ∙ three _ ∙ two _ ∙ one _ ∙ ap (λ x. x ++ line head_text (time_text 0 rate) (codes "\n") (line (codes "xmax = ") (time_text end rate) (codes "\ntiers? <exists>\n") (line (codes "size = ") (decimal (length levels)) (codes "\nitem []:\n") (tiers_lines rate end 0 levels [])))) empty
