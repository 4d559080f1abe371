-- The reading of a grid is exact.
use Rattle.std.proofs.Common.{◌≡◌, ℕ, ◌⊎◌, inl, inr, Bool, true, false, cond, ◌||◌, List, [], ◌∷◌, ◌++◌, length, Option, Some, None, Ok, Err, refl, sym, ap, ◌∙◌, subst, append-nil}
use Rattle.std.specs.Prelude.{codes, pos}
use Rattle.std.specs.Cmp.Lexicographic.{same_text}
use Rattle.sample_time.specs.declared.decimal.Decimal.{Decimal}
use Rattle.textgrid.specs.declared.fault.GridWhat.{GridWhat}
use Rattle.textgrid.specs.declared.fault.GridWhat.TheVariants as whats
use Rattle.textgrid.specs.declared.values.Value.{Value}
use Rattle.textgrid.specs.declared.values.Value.TheVariants.{Number, Quoted, Flag}
use Rattle.textgrid.specs.declared.values.Placed.{Placed}
use Rattle.textgrid.specs.declared.grid.GridInterval.{GridInterval}
use Rattle.textgrid.specs.declared.grid.GridPoint.{GridPoint}
use Rattle.textgrid.specs.declared.grid.GridEntries.{GridEntries}
use Rattle.textgrid.specs.declared.grid.GridEntries.TheVariants.{Intervals, Points}
use Rattle.textgrid.specs.declared.grid.GridTier.{GridTier}
use Rattle.textgrid.specs.declared.grid.Grid.{Grid}
use Rattle.textgrid.specs.declared.tiers.TierHead.{TierHead}
use Rattle.textgrid.specs.declared.tiers.GridHead.{GridHead}
use Rattle.textgrid.specs.Counts.{count_of}
use Rattle.textgrid.specs.Levels.{entry_count}
use Rattle.textgrid.specs.Reading.{Answer, and_then, times_at, is_word, number_in, text_in, flag_in, count_in, header_in, title_in, class_in, end_at, interval_at, point_at, tier_head_at, entries_at, tier_at, grid_head_at, grid_at}
use Rattle.textgrid.specs.Written.{Slot, interval_slots, point_slots, all_slots, entry_slots, class_of, IsTierWritten, Each, IsGridWritten, Begins, BeginsLike, place_of, IsGrid, IsFirstFault}
use Rattle.textgrid.proofs.Exact.{Stops, Says, IsExact, exact_as, Goes, IsNothing, exact_known, goes_known, Sample, IsThen, exact_then, goes_then, IsLead, exact_lead, goes_lead, AreSoMany, exact_many, goes_many}

-- values that are taken
abbrev nought : Decimal
nought = record { negative = false; digits = 0; exponent = pos 0 }

abbrev a_number : Sample Decimal number_in
a_number = record { value = Number nought; made = nought; gives = refl }

abbrev a_text : Sample (List ℕ) text_in
a_text = record { value = Quoted []; made = []; gives = refl }

abbrev a_flag : Sample (Unit {0}) flag_in
a_flag = record { value = Flag true; made = tt; gives = refl }

abbrev a_count : Sample ℕ count_in
a_count = record { value = Number nought; made = 0; gives = refl }

abbrev a_header : Sample (Unit {0}) header_in
a_header = record { value = Quoted (codes "ooTextFile"); made = tt; gives = refl }

abbrev a_title : Sample (Unit {0}) title_in
a_title = record { value = Quoted (codes "TextGrid"); made = tt; gives = refl }

abbrev a_class : Sample Bool class_in
a_class = record { value = Quoted (codes "TextTier"); made = false; gives = refl }

-- what a value is that is taken
number_is : (v : Value) (a : Decimal) → number_in v ≡ Some a → v ≡ Number a
number_is (Number n) a is = cc
number_is (Quoted t) a is = cc
number_is (Flag b) a is = cc

text_is : (v : Value) (a : List ℕ) → text_in v ≡ Some a → v ≡ Quoted a
text_is (Number n) a is = cc
text_is (Quoted t) a is = cc
text_is (Flag b) a is = cc

flag_is : (v : Value) (a : Unit {0}) → flag_in v ≡ Some a → v ≡ Flag true
flag_is (Number n) a is = cc
flag_is (Quoted t) a is = cc
flag_is (Flag true) a is = refl
flag_is (Flag false) a is = cc

-- the number that a count is
pub record IsCounted (v : Value) (n : ℕ) : Type 0 where
  pub number : Decimal
  pub is : v ≡ Number number
  pub counts : count_of number ≡ Some n

count_is : (v : Value) (n : ℕ) → count_in v ≡ Some n → IsCounted v n
count_is (Number d) n is = record { number = d; is = refl; counts = is }
count_is (Quoted t) n is = cc
count_is (Flag b) n is = cc

abbrev class_word : Bool → List ℕ
class_word true = codes "IntervalTier"
class_word false = codes "TextTier"

class_if : (first second : Bool) (t : List ℕ) (b : Bool) → is_word t (codes "IntervalTier") ≡ first → is_word t (codes "TextTier") ≡ second → cond first (Some true) (cond second (Some false) None) ≡ Some b → t ≡ class_word b
class_if true second t true one two is = same_text t (codes "IntervalTier") (sym one)
class_if true second t false one two is = cc
class_if false true t true one two is = cc
class_if false true t false one two is = same_text t (codes "TextTier") (sym two)
class_if false false t b one two is = cc

class_is : (v : Value) (b : Bool) → class_in v ≡ Some b → v ≡ Quoted (class_word b)
class_is (Number n) b is = cc
class_is (Quoted t) b is = ap (λ (x : List ℕ). Quoted x) (class_if (is_word t (codes "IntervalTier")) (is_word t (codes "TextTier")) t b refl refl is)
class_is (Flag f) b is = cc

class_gives : (b : Bool) → class_in (Quoted (class_word b)) ≡ Some b
class_gives true = refl
class_gives false = refl

title_if : (b : Bool) (t : List ℕ) → is_word t (codes "TextGrid") ≡ b → cond b (Some (tt {0})) None ≡ Some (tt {0}) → t ≡ codes "TextGrid"
title_if true t one is = same_text t (codes "TextGrid") (sym one)
title_if false t one is = cc

title_is : (v : Value) (u : Unit {0}) → title_in v ≡ Some u → v ≡ Quoted (codes "TextGrid")
title_is (Number n) u is = cc
title_is (Quoted t) u is = ap (λ (x : List ℕ). Quoted x) (title_if (is_word t (codes "TextGrid")) t refl is)
title_is (Flag f) u is = cc

abbrev IsHeader : List ℕ → Type 0
IsHeader t = (t ≡ codes "ooTextFile") ⊎ (t ≡ codes "ooTextFile short")

header_if : (a b : Bool) (t : List ℕ) → is_word t (codes "ooTextFile") ≡ a → is_word t (codes "ooTextFile short") ≡ b → cond (a || b) (Some (tt {0})) None ≡ Some (tt {0}) → IsHeader t
header_if true b t one two is = inl (same_text t (codes "ooTextFile") (sym one))
header_if false true t one two is = inr (same_text t (codes "ooTextFile short") (sym two))
header_if false false t one two is = cc

pub record IsHeaded (v : Value) : Type 0 where
  pub header : List ℕ
  pub is : v ≡ Quoted header
  pub is_header : IsHeader header

header_is : (v : Value) (u : Unit {0}) → header_in v ≡ Some u → IsHeaded v
header_is (Number n) u is = cc
header_is (Quoted t) u is = record { header = t; is = refl; is_header = header_if (is_word t (codes "ooTextFile")) (is_word t (codes "ooTextFile short")) t refl refl is }
header_is (Flag f) u is = cc

header_gives : (t : List ℕ) → IsHeader t → header_in (Quoted t) ≡ Some (tt {0})
header_gives t (inl is) = rw is refl
header_gives t (inr is) = rw is refl

-- an interval
abbrev LeadInterval : GridInterval → List Slot → Type 0
LeadInterval = IsLead Decimal GridInterval number_in whats.Number (λ xmin. IsLead Decimal GridInterval number_in whats.Number (λ xmax. IsLead (List ℕ) GridInterval text_in whats.Text (λ text. IsNothing GridInterval (record { xmin = xmin; xmax = xmax; text = text }))))

abbrev IsIntervalWritten : GridInterval → List Slot → Type 0
IsIntervalWritten i slots = slots ≡ interval_slots i

interval_to : (i : GridInterval) (s : List Slot) → LeadInterval i s → IsIntervalWritten i s
interval_to i s lead =
    let l2 = lead.is_rest in
    let l3 = l2.is_rest in
    let l4 = l3.is_rest in
    let one = number_is lead.value lead.made lead.gives in
    let two = number_is l2.value l2.made l2.gives in
    let three = text_is l3.value l3.made l3.gives in
    let is1 = lead.is in let is2 = l2.is in let is3 = l3.is in let none = l4.none in
    let whole : s ≡ (whats.Number, Number lead.made) ∷ (whats.Number, Number l2.made) ∷ (whats.Text, Quoted l3.made) ∷ [] = cc in
    let P : GridInterval → Type 0 = λ j. s ≡ interval_slots j in
    subst P (sym l4.same) whole

interval_from : (i : GridInterval) (s : List Slot) → IsIntervalWritten i s → LeadInterval i s
interval_from i s is = record {
  value = Number i.xmin;
  made = i.xmin;
  gives = refl;
  rest = (whats.Number, Number i.xmax) ∷ (whats.Text, Quoted i.text) ∷ [];
  is = is;
  is_rest = record {
    value = Number i.xmax;
    made = i.xmax;
    gives = refl;
    rest = (whats.Text, Quoted i.text) ∷ [];
    is = refl;
    is_rest = record { value = Quoted i.text; made = i.text; gives = refl; rest = []; is = refl; is_rest = record { same = refl; none = refl } };
  };
}

interval_exact : IsExact GridInterval interval_at IsIntervalWritten
interval_exact = exact_as GridInterval interval_at LeadInterval IsIntervalWritten interval_to interval_from
    (exact_lead Decimal GridInterval number_in whats.Number _ _ a_number
    (λ xmin. exact_lead Decimal GridInterval number_in whats.Number _ _ a_number
    (λ xmax. exact_lead (List ℕ) GridInterval text_in whats.Text _ _ a_text
    (λ text. exact_known GridInterval (record { xmin = xmin; xmax = xmax; text = text }))
    (λ text. goes_known GridInterval (record { xmin = xmin; xmax = xmax; text = text })))
    (λ xmax. goes_lead (List ℕ) GridInterval text_in whats.Text _ a_text (goes_known GridInterval _)))
    (λ xmin. goes_lead Decimal GridInterval number_in whats.Number _ a_number (goes_lead (List ℕ) GridInterval text_in whats.Text _ a_text (goes_known GridInterval _))))

goes_interval : Goes GridInterval IsIntervalWritten
goes_interval = record { made = record { xmin = nought; xmax = nought; text = [] }; slots = _; writes = refl }

-- a point
abbrev LeadPoint : GridPoint → List Slot → Type 0
LeadPoint = IsLead Decimal GridPoint number_in whats.Number (λ time. IsLead (List ℕ) GridPoint text_in whats.Text (λ mark. IsNothing GridPoint (record { time = time; mark = mark })))

abbrev IsPointWritten : GridPoint → List Slot → Type 0
IsPointWritten p slots = slots ≡ point_slots p

point_to : (p : GridPoint) (s : List Slot) → LeadPoint p s → IsPointWritten p s
point_to p s lead =
    let l2 = lead.is_rest in
    let l3 = l2.is_rest in
    let one = number_is lead.value lead.made lead.gives in
    let two = text_is l2.value l2.made l2.gives in
    let is1 = lead.is in let is2 = l2.is in let none = l3.none in
    let whole : s ≡ (whats.Number, Number lead.made) ∷ (whats.Text, Quoted l2.made) ∷ [] = cc in
    let P : GridPoint → Type 0 = λ j. s ≡ point_slots j in
    subst P (sym l3.same) whole

point_from : (p : GridPoint) (s : List Slot) → IsPointWritten p s → LeadPoint p s
point_from p s is = record {
  value = Number p.time;
  made = p.time;
  gives = refl;
  rest = (whats.Text, Quoted p.mark) ∷ [];
  is = is;
  is_rest = record { value = Quoted p.mark; made = p.mark; gives = refl; rest = []; is = refl; is_rest = record { same = refl; none = refl } };
}

point_exact : IsExact GridPoint point_at IsPointWritten
point_exact = exact_as GridPoint point_at LeadPoint IsPointWritten point_to point_from
    (exact_lead Decimal GridPoint number_in whats.Number _ _ a_number
    (λ time. exact_lead (List ℕ) GridPoint text_in whats.Text _ _ a_text
    (λ mark. exact_known GridPoint (record { time = time; mark = mark }))
    (λ mark. goes_known GridPoint (record { time = time; mark = mark })))
    (λ time. goes_lead (List ℕ) GridPoint text_in whats.Text _ a_text (goes_known GridPoint _)))

goes_point : Goes GridPoint IsPointWritten
goes_point = record { made = record { time = nought; mark = [] }; slots = _; writes = refl }

-- the entries of a tier
abbrev IsOfClass : Bool → GridEntries → Type 0
IsOfClass true (Intervals list) = Unit {0}
IsOfClass true (Points list) = ⊥
IsOfClass false (Intervals list) = ⊥
IsOfClass false (Points list) = Unit {0}

pub record AreEntries (intervals : Bool) (count : ℕ) (entries : GridEntries) (slots : List Slot) : Type 0 where
  pub class : IsOfClass intervals entries
  pub size : entry_count entries ≡ count
  pub is : slots ≡ entry_slots entries

each_slots : (A : Type 0) (f : A → List Slot) (ls : List A) (slots : List Slot) → Each A (λ a s. s ≡ f a) ls slots → slots ≡ all_slots f ls
each_slots A f [] slots each = each
each_slots A f (a ∷ ls) slots each =
    each.is ∙ ap (λ (x : List Slot). x ++ each.rest) each.is_first ∙ ap (λ (x : List Slot). f a ++ x) (each_slots A f ls each.rest each.is_rest)

slots_each : (A : Type 0) (f : A → List Slot) (ls : List A) (slots : List Slot) → slots ≡ all_slots f ls → Each A (λ a s. s ≡ f a) ls slots
slots_each A f [] slots is = is
slots_each A f (a ∷ ls) slots is = record { first = f a; rest = all_slots f ls; is = is; is_first = refl; is_rest = slots_each A f ls (all_slots f ls) refl }

abbrev ThenEntries : Bool → ℕ → GridEntries → List Slot → Type 0
ThenEntries true count = IsThen (List GridInterval) GridEntries (AreSoMany GridInterval IsIntervalWritten count) (λ list. IsNothing GridEntries (Intervals list))
ThenEntries false count = IsThen (List GridPoint) GridEntries (AreSoMany GridPoint IsPointWritten count) (λ list. IsNothing GridEntries (Points list))

entries_to : (b : Bool) (count : ℕ) (es : GridEntries) (s : List Slot) → ThenEntries b count es s → AreEntries b count es s
entries_to true count es s then =
    let P : GridEntries → Type 0 = λ e. AreEntries true count e s in
    subst P (sym then.is_rest.same) (record {
      class = tt;
      size = then.is_first.size;
      is = then.is ∙ ap (λ (x : List Slot). then.first ++ x) then.is_rest.none ∙ append-nil then.first ∙ each_slots GridInterval interval_slots then.made then.first then.is_first.each;
    })
entries_to false count es s then =
    let P : GridEntries → Type 0 = λ e. AreEntries false count e s in
    subst P (sym then.is_rest.same) (record {
      class = tt;
      size = then.is_first.size;
      is = then.is ∙ ap (λ (x : List Slot). then.first ++ x) then.is_rest.none ∙ append-nil then.first ∙ each_slots GridPoint point_slots then.made then.first then.is_first.each;
    })

entries_from : (b : Bool) (count : ℕ) (es : GridEntries) (s : List Slot) → AreEntries b count es s → ThenEntries b count es s
entries_from true count (Intervals list) s are = record {
  made = list;
  first = s;
  rest = [];
  is = sym (append-nil s);
  is_first = record { size = are.size; each = slots_each GridInterval interval_slots list s are.is };
  is_rest = record { same = refl; none = refl };
}
entries_from true count (Points list) s are = absurd are.class
entries_from false count (Intervals list) s are = absurd are.class
entries_from false count (Points list) s are = record {
  made = list;
  first = s;
  rest = [];
  is = sym (append-nil s);
  is_first = record { size = are.size; each = slots_each GridPoint point_slots list s are.is };
  is_rest = record { same = refl; none = refl };
}

entries_exact0 : (b : Bool) (count : ℕ) → IsExact GridEntries (entries_at b count) (ThenEntries b count)
entries_exact0 true count = exact_then (List GridInterval) GridEntries (times_at interval_at count) (AreSoMany GridInterval IsIntervalWritten count) (λ list rest. Ok (Intervals list, rest)) (λ list. IsNothing GridEntries (Intervals list))
    (exact_many GridInterval interval_at IsIntervalWritten interval_exact goes_interval count) (λ list. exact_known GridEntries (Intervals list)) (λ list. goes_known GridEntries (Intervals list))
entries_exact0 false count = exact_then (List GridPoint) GridEntries (times_at point_at count) (AreSoMany GridPoint IsPointWritten count) (λ list rest. Ok (Points list, rest)) (λ list. IsNothing GridEntries (Points list))
    (exact_many GridPoint point_at IsPointWritten point_exact goes_point count) (λ list. exact_known GridEntries (Points list)) (λ list. goes_known GridEntries (Points list))

entries_exact : (b : Bool) (count : ℕ) → IsExact GridEntries (entries_at b count) (AreEntries b count)
entries_exact b count = exact_as GridEntries (entries_at b count) (ThenEntries b count) (AreEntries b count) (entries_to b count) (entries_from b count) (entries_exact0 b count)

goes_entries0 : (b : Bool) (count : ℕ) → Goes GridEntries (ThenEntries b count)
goes_entries0 true count = goes_then (List GridInterval) GridEntries (AreSoMany GridInterval IsIntervalWritten count) (λ list. IsNothing GridEntries (Intervals list)) (goes_many GridInterval IsIntervalWritten goes_interval count) (goes_known GridEntries _)
goes_entries0 false count = goes_then (List GridPoint) GridEntries (AreSoMany GridPoint IsPointWritten count) (λ list. IsNothing GridEntries (Points list)) (goes_many GridPoint IsPointWritten goes_point count) (goes_known GridEntries _)

goes_entries : (b : Bool) (count : ℕ) → Goes GridEntries (AreEntries b count)
goes_entries b count =
    let goes = goes_entries0 b count in record { made = goes.made; slots = goes.slots; writes = entries_to b count goes.made goes.slots goes.writes }

-- before the entries of a tier
abbrev head_of : Bool → List ℕ → Decimal → Decimal → ℕ → TierHead
head_of intervals name xmin xmax count = record { intervals = intervals; name = name; xmin = xmin; xmax = xmax; count = count }

abbrev LeadHead4 : Bool → List ℕ → Decimal → Decimal → TierHead → List Slot → Type 0
LeadHead4 b name xmin xmax = IsLead ℕ TierHead count_in whats.Count (λ count. IsNothing TierHead (head_of b name xmin xmax count))

abbrev LeadHead3 : Bool → List ℕ → Decimal → TierHead → List Slot → Type 0
LeadHead3 b name xmin = IsLead Decimal TierHead number_in whats.Number (λ xmax. LeadHead4 b name xmin xmax)

abbrev LeadHead2 : Bool → List ℕ → TierHead → List Slot → Type 0
LeadHead2 b name = IsLead Decimal TierHead number_in whats.Number (λ xmin. LeadHead3 b name xmin)

abbrev LeadHead1 : Bool → TierHead → List Slot → Type 0
LeadHead1 b = IsLead (List ℕ) TierHead text_in whats.Text (λ name. LeadHead2 b name)

abbrev LeadHead : TierHead → List Slot → Type 0
LeadHead = IsLead Bool TierHead class_in whats.TierClass (λ b. LeadHead1 b)

goes4 : (b : Bool) (name : List ℕ) (xmin xmax : Decimal) → Goes TierHead (LeadHead4 b name xmin xmax)
goes4 b name xmin xmax = goes_lead ℕ TierHead count_in whats.Count _ a_count (goes_known TierHead _)

goes3 : (b : Bool) (name : List ℕ) (xmin : Decimal) → Goes TierHead (LeadHead3 b name xmin)
goes3 b name xmin = goes_lead Decimal TierHead number_in whats.Number _ a_number (goes4 b name xmin nought)

goes2 : (b : Bool) (name : List ℕ) → Goes TierHead (LeadHead2 b name)
goes2 b name = goes_lead Decimal TierHead number_in whats.Number _ a_number (goes3 b name nought)

goes1 : (b : Bool) → Goes TierHead (LeadHead1 b)
goes1 b = goes_lead (List ℕ) TierHead text_in whats.Text _ a_text (goes2 b [])

lead_head_exact : IsExact TierHead tier_head_at LeadHead
lead_head_exact =
    exact_lead Bool TierHead class_in whats.TierClass _ _ a_class (λ b.
    exact_lead (List ℕ) TierHead text_in whats.Text _ _ a_text (λ name.
    exact_lead Decimal TierHead number_in whats.Number _ _ a_number (λ xmin.
    exact_lead Decimal TierHead number_in whats.Number _ _ a_number (λ xmax.
    exact_lead ℕ TierHead count_in whats.Count _ _ a_count
    (λ count. exact_known TierHead (head_of b name xmin xmax count)) (λ count. goes_known TierHead (head_of b name xmin xmax count)))
    (λ xmax. goes4 b name xmin xmax))
    (λ xmin. goes3 b name xmin))
    (λ name. goes2 b name))
    (λ b. goes1 b)

abbrev head_slots : TierHead → Decimal → List Slot
head_slots h count =
    (whats.TierClass, Quoted (class_word h.intervals)) ∷ (whats.Text, Quoted h.name) ∷ (whats.Number, Number h.xmin) ∷ (whats.Number, Number h.xmax) ∷ (whats.Count, Number count) ∷ []

pub record IsHeadWritten (head : TierHead) (slots : List Slot) : Type 0 where
  pub count : Decimal
  pub counts : count_of count ≡ Some head.count
  pub is : slots ≡ head_slots head count

head_to : (h : TierHead) (s : List Slot) → LeadHead h s → IsHeadWritten h s
head_to h s lead =
    let l2 = lead.is_rest in
    let l3 = l2.is_rest in
    let l4 = l3.is_rest in
    let l5 = l4.is_rest in
    let l6 = l5.is_rest in
    let one = class_is lead.value lead.made lead.gives in
    let two = text_is l2.value l2.made l2.gives in
    let three = number_is l3.value l3.made l3.gives in
    let four = number_is l4.value l4.made l4.gives in
    let five = count_is l5.value l5.made l5.gives in
    let five_is = five.is in
    let is1 = lead.is in let is2 = l2.is in let is3 = l3.is in let is4 = l4.is in let is5 = l5.is in let none = l6.none in
    let whole : s ≡ (whats.TierClass, Quoted (class_word lead.made)) ∷ (whats.Text, Quoted l2.made) ∷ (whats.Number, Number l3.made) ∷ (whats.Number, Number l4.made) ∷ (whats.Count, Number five.number) ∷ [] = cc in
    let P : TierHead → Type 0 = λ j. IsHeadWritten j s in
    subst P (sym l6.same) (record { count = five.number; counts = five.counts; is = whole })

head_from : (h : TierHead) (s : List Slot) → IsHeadWritten h s → LeadHead h s
head_from h s w = record {
  value = Quoted (class_word h.intervals);
  made = h.intervals;
  gives = class_gives h.intervals;
  rest = (whats.Text, Quoted h.name) ∷ (whats.Number, Number h.xmin) ∷ (whats.Number, Number h.xmax) ∷ (whats.Count, Number w.count) ∷ [];
  is = w.is;
  is_rest = record {
    value = Quoted h.name;
    made = h.name;
    gives = refl;
    rest = (whats.Number, Number h.xmin) ∷ (whats.Number, Number h.xmax) ∷ (whats.Count, Number w.count) ∷ [];
    is = refl;
    is_rest = record {
      value = Number h.xmin;
      made = h.xmin;
      gives = refl;
      rest = (whats.Number, Number h.xmax) ∷ (whats.Count, Number w.count) ∷ [];
      is = refl;
      is_rest = record {
        value = Number h.xmax;
        made = h.xmax;
        gives = refl;
        rest = (whats.Count, Number w.count) ∷ [];
        is = refl;
        is_rest = record {
          value = Number w.count;
          made = h.count;
          gives = w.counts;
          rest = [];
          is = refl;
          is_rest = record { same = refl; none = refl };
        };
      };
    };
  };
}

head_exact : IsExact TierHead tier_head_at IsHeadWritten
head_exact = exact_as TierHead tier_head_at LeadHead IsHeadWritten head_to head_from lead_head_exact

-- a tier
abbrev tier_with : TierHead → GridEntries → GridTier
tier_with head entries = record { name = head.name; xmin = head.xmin; xmax = head.xmax; entries = entries }

abbrev ThenTierEntries : TierHead → GridTier → List Slot → Type 0
ThenTierEntries head = IsThen GridEntries GridTier (AreEntries head.intervals head.count) (λ entries. IsNothing GridTier (tier_with head entries))

abbrev ThenTier : GridTier → List Slot → Type 0
ThenTier = IsThen TierHead GridTier IsHeadWritten ThenTierEntries

class_same : (b : Bool) (es : GridEntries) → IsOfClass b es → class_word b ≡ class_of es
class_same true (Intervals list) is = refl
class_same true (Points list) is = absurd is
class_same false (Intervals list) is = absurd is
class_same false (Points list) is = refl

abbrev is_intervals : GridEntries → Bool
is_intervals (Intervals list) = true
is_intervals (Points list) = false

of_class : (es : GridEntries) → IsOfClass (is_intervals es) es
of_class (Intervals list) = tt
of_class (Points list) = tt

some_size : (count : Decimal) (m n : ℕ) → count_of count ≡ Some m → n ≡ m → count_of count ≡ Some n
some_size count m n counts same = counts ∙ ap (λ (k : ℕ). Some k) (sym same)

tier_to : (t : GridTier) (s : List Slot) → ThenTier t s → IsTierWritten t s
tier_to t s then =
    let head = then.made in
    let written = then.is_first in
    let inner = then.is_rest in
    let es = inner.made in
    let are = inner.is_first in
    let rest : then.rest ≡ entry_slots es = inner.is ∙ ap (λ (x : List Slot). inner.first ++ x) inner.is_rest.none ∙ append-nil inner.first ∙ are.is in
    let whole : s ≡ head_slots head written.count ++ entry_slots es = then.is ∙ ap (λ (x : List Slot). x ++ then.rest) written.is ∙ ap (λ (x : List Slot). head_slots head written.count ++ x) rest in
    let W : List ℕ → Type 0 = λ word. s ≡ (whats.TierClass, Quoted word) ∷ (whats.Text, Quoted head.name) ∷ (whats.Number, Number head.xmin) ∷ (whats.Number, Number head.xmax) ∷ (whats.Count, Number written.count) ∷ entry_slots es in
    let P : GridTier → Type 0 = λ j. IsTierWritten j s in
    subst P (sym inner.is_rest.same) (record {
      count = written.count;
      counts = some_size written.count head.count (entry_count es) written.counts are.size;
      is = subst W (class_same head.intervals es are.class) whole;
    })

tier_from : (t : GridTier) (s : List Slot) → IsTierWritten t s → ThenTier t s
tier_from t s w =
    let head = head_of (is_intervals t.entries) t.name t.xmin t.xmax (entry_count t.entries) in
    let W : List ℕ → Type 0 = λ word. s ≡ (whats.TierClass, Quoted word) ∷ (whats.Text, Quoted t.name) ∷ (whats.Number, Number t.xmin) ∷ (whats.Number, Number t.xmax) ∷ (whats.Count, Number w.count) ∷ entry_slots t.entries in
    record {
      made = head;
      first = head_slots head w.count;
      rest = entry_slots t.entries;
      is = subst W (sym (class_same (is_intervals t.entries) t.entries (of_class t.entries))) w.is;
      is_first = record { count = w.count; counts = w.counts; is = refl };
      is_rest = record {
        made = t.entries;
        first = entry_slots t.entries;
        rest = [];
        is = sym (append-nil (entry_slots t.entries));
        is_first = record { class = of_class t.entries; size = refl; is = refl };
        is_rest = record { same = refl; none = refl };
      };
    }

tier_exact : IsExact GridTier tier_at IsTierWritten
tier_exact = exact_as GridTier tier_at ThenTier IsTierWritten tier_to tier_from
    (exact_then TierHead GridTier tier_head_at IsHeadWritten (λ head rest. and_then (entries_at head.intervals head.count rest) (λ entries after. Ok (tier_with head entries, after))) ThenTierEntries head_exact
    (λ head. exact_then GridEntries GridTier (entries_at head.intervals head.count) (AreEntries head.intervals head.count) (λ entries after. Ok (tier_with head entries, after)) (λ entries. IsNothing GridTier (tier_with head entries))
    (entries_exact head.intervals head.count) (λ entries. exact_known GridTier (tier_with head entries)) (λ entries. goes_known GridTier (tier_with head entries)))
    (λ head. goes_then GridEntries GridTier (AreEntries head.intervals head.count) (λ entries. IsNothing GridTier (tier_with head entries)) (goes_entries head.intervals head.count) (goes_known GridTier _)))

goes_tier : Goes GridTier IsTierWritten
goes_tier = record {
  made = record { name = []; xmin = nought; xmax = nought; entries = Points [] };
  slots = head_slots (head_of false [] nought nought 0) nought;
  writes = record { count = nought; counts = refl; is = refl };
}

-- before the tiers of a grid
abbrev grid_head_of : Decimal → Decimal → ℕ → GridHead
grid_head_of xmin xmax count = record { xmin = xmin; xmax = xmax; count = count }

abbrev LeadGrid6 : Decimal → Decimal → GridHead → List Slot → Type 0
LeadGrid6 xmin xmax = IsLead ℕ GridHead count_in whats.Count (λ count. IsNothing GridHead (grid_head_of xmin xmax count))

abbrev LeadGrid5 : Decimal → Decimal → GridHead → List Slot → Type 0
LeadGrid5 xmin xmax = IsLead (Unit {0}) GridHead flag_in whats.Flag (λ _. LeadGrid6 xmin xmax)

abbrev LeadGrid4 : Decimal → GridHead → List Slot → Type 0
LeadGrid4 xmin = IsLead Decimal GridHead number_in whats.Number (λ xmax. LeadGrid5 xmin xmax)

abbrev LeadGrid3 : GridHead → List Slot → Type 0
LeadGrid3 = IsLead Decimal GridHead number_in whats.Number (λ xmin. LeadGrid4 xmin)

abbrev LeadGrid2 : GridHead → List Slot → Type 0
LeadGrid2 = IsLead (Unit {0}) GridHead title_in whats.Header (λ _. LeadGrid3)

abbrev LeadGrid : GridHead → List Slot → Type 0
LeadGrid = IsLead (Unit {0}) GridHead header_in whats.Header (λ _. LeadGrid2)

grid_goes6 : (xmin xmax : Decimal) → Goes GridHead (LeadGrid6 xmin xmax)
grid_goes6 xmin xmax = goes_lead ℕ GridHead count_in whats.Count _ a_count (goes_known GridHead _)

grid_goes5 : (xmin xmax : Decimal) → Goes GridHead (LeadGrid5 xmin xmax)
grid_goes5 xmin xmax = goes_lead (Unit {0}) GridHead flag_in whats.Flag _ a_flag (grid_goes6 xmin xmax)

grid_goes4 : (xmin : Decimal) → Goes GridHead (LeadGrid4 xmin)
grid_goes4 xmin = goes_lead Decimal GridHead number_in whats.Number _ a_number (grid_goes5 xmin nought)

grid_goes3 : Goes GridHead LeadGrid3
grid_goes3 = goes_lead Decimal GridHead number_in whats.Number _ a_number (grid_goes4 nought)

grid_goes2 : Goes GridHead LeadGrid2
grid_goes2 = goes_lead (Unit {0}) GridHead title_in whats.Header _ a_title grid_goes3

lead_grid_exact : IsExact GridHead grid_head_at LeadGrid
lead_grid_exact =
    exact_lead (Unit {0}) GridHead header_in whats.Header _ _ a_header (λ _.
    exact_lead (Unit {0}) GridHead title_in whats.Header _ _ a_title (λ _.
    exact_lead Decimal GridHead number_in whats.Number _ _ a_number (λ xmin.
    exact_lead Decimal GridHead number_in whats.Number _ _ a_number (λ xmax.
    exact_lead (Unit {0}) GridHead flag_in whats.Flag _ _ a_flag (λ _.
    exact_lead ℕ GridHead count_in whats.Count _ _ a_count
    (λ count. exact_known GridHead (grid_head_of xmin xmax count)) (λ count. goes_known GridHead (grid_head_of xmin xmax count)))
    (λ _. grid_goes6 xmin xmax))
    (λ xmax. grid_goes5 xmin xmax))
    (λ xmin. grid_goes4 xmin))
    (λ _. grid_goes3))
    (λ _. grid_goes2)

abbrev grid_slots : List ℕ → GridHead → Decimal → List Slot
grid_slots header h count =
    (whats.Header, Quoted header) ∷ (whats.Header, Quoted (codes "TextGrid")) ∷ (whats.Number, Number h.xmin) ∷ (whats.Number, Number h.xmax) ∷ (whats.Flag, Flag true) ∷ (whats.Count, Number count) ∷ []

pub record IsGridHeadWritten (head : GridHead) (slots : List Slot) : Type 0 where
  pub header : List ℕ
  pub is_header : IsHeader header
  pub count : Decimal
  pub counts : count_of count ≡ Some head.count
  pub is : slots ≡ grid_slots header head count

grid_head_to : (h : GridHead) (s : List Slot) → LeadGrid h s → IsGridHeadWritten h s
grid_head_to h s lead =
    let l2 = lead.is_rest in
    let l3 = l2.is_rest in
    let l4 = l3.is_rest in
    let l5 = l4.is_rest in
    let l6 = l5.is_rest in
    let l7 = l6.is_rest in
    let one = header_is lead.value lead.made lead.gives in
    let one_is = one.is in
    let two = title_is l2.value l2.made l2.gives in
    let three = number_is l3.value l3.made l3.gives in
    let four = number_is l4.value l4.made l4.gives in
    let five = flag_is l5.value l5.made l5.gives in
    let six = count_is l6.value l6.made l6.gives in
    let six_is = six.is in
    let is1 = lead.is in let is2 = l2.is in let is3 = l3.is in let is4 = l4.is in let is5 = l5.is in let is6 = l6.is in let none = l7.none in
    let whole : s ≡ (whats.Header, Quoted one.header) ∷ (whats.Header, Quoted (codes "TextGrid")) ∷ (whats.Number, Number l3.made) ∷ (whats.Number, Number l4.made) ∷ (whats.Flag, Flag true) ∷ (whats.Count, Number six.number) ∷ [] = cc in
    let P : GridHead → Type 0 = λ j. IsGridHeadWritten j s in
    subst P (sym l7.same) (record { header = one.header; is_header = one.is_header; count = six.number; counts = six.counts; is = whole })

grid_head_from : (h : GridHead) (s : List Slot) → IsGridHeadWritten h s → LeadGrid h s
grid_head_from h s w = record {
  value = Quoted w.header;
  made = tt;
  gives = header_gives w.header w.is_header;
  rest = (whats.Header, Quoted (codes "TextGrid")) ∷ (whats.Number, Number h.xmin) ∷ (whats.Number, Number h.xmax) ∷ (whats.Flag, Flag true) ∷ (whats.Count, Number w.count) ∷ [];
  is = w.is;
  is_rest = record {
    value = Quoted (codes "TextGrid");
    made = tt;
    gives = refl;
    rest = (whats.Number, Number h.xmin) ∷ (whats.Number, Number h.xmax) ∷ (whats.Flag, Flag true) ∷ (whats.Count, Number w.count) ∷ [];
    is = refl;
    is_rest = record {
      value = Number h.xmin;
      made = h.xmin;
      gives = refl;
      rest = (whats.Number, Number h.xmax) ∷ (whats.Flag, Flag true) ∷ (whats.Count, Number w.count) ∷ [];
      is = refl;
      is_rest = record {
        value = Number h.xmax;
        made = h.xmax;
        gives = refl;
        rest = (whats.Flag, Flag true) ∷ (whats.Count, Number w.count) ∷ [];
        is = refl;
        is_rest = record {
          value = Flag true;
          made = tt;
          gives = refl;
          rest = (whats.Count, Number w.count) ∷ [];
          is = refl;
          is_rest = record {
            value = Number w.count;
            made = h.count;
            gives = w.counts;
            rest = [];
            is = refl;
            is_rest = record { same = refl; none = refl };
          };
        };
      };
    };
  };
}

grid_head_exact : IsExact GridHead grid_head_at IsGridHeadWritten
grid_head_exact = exact_as GridHead grid_head_at LeadGrid IsGridHeadWritten grid_head_to grid_head_from lead_grid_exact

-- a grid, whatever stands behind it
abbrev grid_with : GridHead → List GridTier → Grid
grid_with head tiers = record { xmin = head.xmin; xmax = head.xmax; tiers = tiers }

abbrev body_at : List Placed → Answer Grid
body_at vs = and_then (grid_head_at vs) (λ head rest. and_then (times_at tier_at head.count rest) (λ tiers after. Ok (grid_with head tiers, after)))

abbrev ThenTiers : GridHead → Grid → List Slot → Type 0
ThenTiers head = IsThen (List GridTier) Grid (AreSoMany GridTier IsTierWritten head.count) (λ tiers. IsNothing Grid (grid_with head tiers))

abbrev ThenGrid : Grid → List Slot → Type 0
ThenGrid = IsThen GridHead Grid IsGridHeadWritten ThenTiers

grid_to : (g : Grid) (s : List Slot) → ThenGrid g s → IsGridWritten g s
grid_to g s then =
    let head = then.made in
    let written = then.is_first in
    let inner = then.is_rest in
    let many = inner.is_first in
    let rest : then.rest ≡ inner.first = inner.is ∙ ap (λ (x : List Slot). inner.first ++ x) inner.is_rest.none ∙ append-nil inner.first in
    let P : Grid → Type 0 = λ j. IsGridWritten j s in
    subst P (sym inner.is_rest.same) (record {
      header = written.header;
      is_header = written.is_header;
      count = written.count;
      counts = some_size written.count head.count (length inner.made) written.counts many.size;
      tiers = inner.first;
      are_tiers = many.each;
      is = then.is ∙ ap (λ (x : List Slot). x ++ then.rest) written.is ∙ ap (λ (x : List Slot). grid_slots written.header head written.count ++ x) rest;
    })

grid_from : (g : Grid) (s : List Slot) → IsGridWritten g s → ThenGrid g s
grid_from g s w =
    let head = grid_head_of g.xmin g.xmax (length g.tiers) in
    record {
      made = head;
      first = grid_slots w.header head w.count;
      rest = w.tiers;
      is = w.is;
      is_first = record { header = w.header; is_header = w.is_header; count = w.count; counts = w.counts; is = refl };
      is_rest = record {
        made = g.tiers;
        first = w.tiers;
        rest = [];
        is = sym (append-nil w.tiers);
        is_first = record { size = refl; each = w.are_tiers };
        is_rest = record { same = refl; none = refl };
      };
    }

body_exact : IsExact Grid body_at IsGridWritten
body_exact = exact_as Grid body_at ThenGrid IsGridWritten grid_to grid_from
    (exact_then GridHead Grid grid_head_at IsGridHeadWritten (λ head rest. and_then (times_at tier_at head.count rest) (λ tiers after. Ok (grid_with head tiers, after))) ThenTiers grid_head_exact
    (λ head. exact_then (List GridTier) Grid (times_at tier_at head.count) (AreSoMany GridTier IsTierWritten head.count) (λ tiers after. Ok (grid_with head tiers, after)) (λ tiers. IsNothing Grid (grid_with head tiers))
    (exact_many GridTier tier_at IsTierWritten tier_exact goes_tier head.count) (λ tiers. exact_known Grid (grid_with head tiers)) (λ tiers. goes_known Grid (grid_with head tiers)))
    (λ head. goes_then (List GridTier) Grid (AreSoMany GridTier IsTierWritten head.count) (λ tiers. IsNothing Grid (grid_with head tiers)) (goes_many GridTier IsTierWritten goes_tier head.count) (goes_known Grid _)))

-- the end behind it
abbrev ended : Answer Grid → Answer Grid
ended (Ok r) = and_then (end_at r.1) (λ _ rest. Ok (r.0, rest))
ended (Err e) = Err e

ended_tiers : (head : GridHead) (r : Answer (List GridTier)) → and_then r (λ tiers v2. and_then (end_at v2) (λ _ v3. Ok (grid_with head tiers, v3))) ≡ ended (and_then r (λ tiers v2. Ok (grid_with head tiers, v2)))
ended_tiers head (Ok r) = refl
ended_tiers head (Err e) = refl

ended_head : (r : Answer GridHead) → and_then r (λ head v1. and_then (times_at tier_at head.count v1) (λ tiers v2. and_then (end_at v2) (λ _ v3. Ok (grid_with head tiers, v3)))) ≡ ended (and_then r (λ head v1. and_then (times_at tier_at head.count v1) (λ tiers v2. Ok (grid_with head tiers, v2))))
ended_head (Ok r) = ended_tiers r.0 (times_at tier_at r.0.count r.1)
ended_head (Err e) = refl

grid_is_body : (vs : List Placed) → grid_at vs ≡ ended (body_at vs)
grid_is_body vs = ended_head (grid_head_at vs)

abbrev ok_grid : Grid → List Placed → Answer Grid
ok_grid g rest = Ok (g, rest)

-- two answers that are one have one grid, one rest, one place and one thing that is wanted
abbrev grid_pair : Grid → List Placed → (Grid × List Placed)
grid_pair g rest = (g, rest)

abbrev fault_pair : Option ℕ → GridWhat → (Option ℕ × GridWhat)
fault_pair place what = (place, what)

same_grid : (g h : Grid) (rest mid : List Placed) → ok_grid h mid ≡ ok_grid g rest → h ≡ g
same_grid g h rest mid is =
    let pair : grid_pair h mid ≡ grid_pair g rest = cc in ap (λ (x : Grid × List Placed). x.0) pair

same_rest : (g h : Grid) (rest mid : List Placed) → ok_grid h mid ≡ ok_grid g rest → mid ≡ rest
same_rest g h rest mid is =
    let pair : grid_pair h mid ≡ grid_pair g rest = cc in ap (λ (x : Grid × List Placed). x.1) pair

abbrev fault_grid : Option ℕ → GridWhat → Answer Grid
fault_grid place what = Err (place, what)

same_place : (p q : Option ℕ) (v w : GridWhat) → fault_grid p v ≡ fault_grid q w → p ≡ q
same_place p q v w is =
    let pair : fault_pair p v ≡ fault_pair q w = cc in ap (λ (x : Option ℕ × GridWhat). x.0) pair

same_what : (p q : Option ℕ) (v w : GridWhat) → fault_grid p v ≡ fault_grid q w → v ≡ w
same_what p q v w is =
    let pair : fault_pair p v ≡ fault_pair q w = cc in ap (λ (x : Option ℕ × GridWhat). x.1) pair

read_is : (vs rest mid : List Placed) (g h : Grid) (slots : List Slot) → Begins vs slots mid → IsGridWritten h slots → ended (ok_grid h mid) ≡ Ok (g, rest) → IsGrid vs g
read_is vs rest [] g h slots begins written is =
    let same : h ≡ g = same_grid g h rest [] is in
    subst (λ (x : Grid). IsGrid vs x) same (record { slots = slots; written = written; begins = begins })
read_is vs rest (p ∷ ps) g h slots begins written is = cc

read_by : (vs rest : List Placed) (g : Grid) (r : Answer Grid) → Says Grid body_at IsGridWritten vs r → ended r ≡ Ok (g, rest) → IsGrid vs g
read_by vs rest g (Ok r) told is = read_is vs rest r.1 g r.0 told.0 told.1.0 told.1.1 is
read_by vs rest g (Err e) told is = cc

-- what is read is the grid that the values are, written out
pub read_is_written : (vs rest : List Placed) (g : Grid) → grid_at vs ≡ Ok (g, rest) → IsGrid vs g
read_is_written vs rest g is = read_by vs rest g (body_at vs) (body_exact.says vs) (sym (grid_is_body vs) ∙ is)

-- and what was written out is read
pub written_is_read : (vs : List Placed) (g : Grid) → IsGrid vs g → grid_at vs ≡ Ok (g, [])
written_is_read vs g grid =
    let found : body_at vs ≡ Ok (g, []) = body_exact.finds g grid.slots vs [] grid.begins grid.written in
    grid_is_body vs ∙ ap ended found

no_grid : (vs : List Placed) (e : Option ℕ × GridWhat) (g : Grid) → body_at vs ≡ Err e → IsGrid vs g → ⊥
no_grid vs e g stops grid =
    let found : body_at vs ≡ Ok (g, []) = body_exact.finds g grid.slots vs [] grid.begins grid.written in cc

no_more : (ws other : List Placed) (g h : Grid) (p : Placed) → body_at ws ≡ Ok (h, other) → BeginsLike p other → IsGrid ws g → ⊥
no_more ws other g h p found like grid =
    let whole : body_at ws ≡ Ok (g, []) = body_exact.finds g grid.slots ws [] grid.begins grid.written in
    let none : other ≡ [] = same_rest g h [] other (sym found ∙ whole) in
    let full : [] ≡ like.first ∷ like.behind = sym none ∙ like.is in cc

fault_body : (vs : List Placed) (e : Option ℕ × GridWhat) → Stops Grid body_at IsGridWritten vs e.0 e.1 → IsFirstFault vs e.0 e.1
fault_body vs e told = record {
  slots = told.slots;
  rest = told.rest;
  begins = told.begins;
  is = told.is;
  wanted = inl (record { grid = told.made; value = told.value; more = told.more; written = told.goes });
  none = λ ws other g begins alike grid. no_grid ws (place_of other, e.1) g (told.decides ws other begins alike) grid;
}

fault_end : (vs mid : List Placed) (h : Grid) (slots : List Slot) (place : Option ℕ) (what : GridWhat) → Begins vs slots mid → IsGridWritten h slots → ended (ok_grid h mid) ≡ Err (place, what) → IsFirstFault vs place what
fault_end vs [] h slots place what begins written is = cc
fault_end vs (p ∷ ps) h slots place what begins written is =
    let here : place ≡ Some p.at = same_place place (Some p.at) what whats.End (sym is) in
    let end : what ≡ whats.End = same_what place (Some p.at) what whats.End (sym is) in
    record {
      slots = slots;
      rest = p ∷ ps;
      begins = begins;
      is = here;
      wanted = inr (h, written, end);
      none = λ ws other g there alike grid. no_more ws other g h p (body_exact.finds h slots ws other there written) alike grid;
    }

fault_by : (vs : List Placed) (place : Option ℕ) (what : GridWhat) (r : Answer Grid) → Says Grid body_at IsGridWritten vs r → ended r ≡ Err (place, what) → IsFirstFault vs place what
fault_by vs place what (Ok r) told is = fault_end vs r.1 r.0 told.0 place what told.1.0 told.1.1 is
fault_by vs place what (Err e) told is =
    let where_is : e.0 ≡ place = same_place e.0 place e.1 what is in
    let what_is : e.1 ≡ what = same_what e.0 place e.1 what is in
    let P : GridWhat → Type 0 = λ w. IsFirstFault vs place w in
    let Q : Option ℕ → Type 0 = λ o. IsFirstFault vs o e.1 in
    subst P what_is (subst Q where_is (fault_body vs e told))

-- a fault is the first value with which no grid written out goes on
pub fault_is_first : (vs : List Placed) (place : Option ℕ) (what : GridWhat) → grid_at vs ≡ Err (place, what) → IsFirstFault vs place what
fault_is_first vs place what is = fault_by vs place what (body_at vs) (body_exact.says vs) (sym (grid_is_body vs) ∙ is)
