-- What was written is read again.
use Rattle.std.proofs.Common.{◌≡◌, ◌≢◌, ℕ, zero, suc, ◌+◌, ◌-◌, ◌*◌, ◌^◌, ◌<◌, ◌≤◌, ◌⊎◌, inl, inr, Bool, true, false, cond, eqb, ltb, leb, not, ◌&&◌, ◌||◌, IsTrue, List, [], ◌∷◌, ◌++◌, length, map, Option, Some, None, Result, Ok, Err, pos, refl, sym, ap, ◌∙◌, subst, arith, length-append, append_assoc, append-nil}
use Rattle.std.specs.Prelude.{codes}
use Rattle.std.specs.Fmt.{decimal}
use Rattle.std.specs.Char.{digit_value, is_ascii_digit}
use Rattle.std.specs.Str.Parse.{AllDigits}
use Rattle.std.specs.List.{list_all}
use Rattle.std.proofs.lemmas.Fmt.{decimal_is_IsNumeral_wide}
use Rattle.std.proofs.lemmas.Bool.Decides.{nat_tests}
use Rattle.std.proofs.lemmas.List.Folds.{list_all-append}
use Rattle.emu_names.specs.declared.limits.TheConstants.{GRID_ENTRIES, SAMPLES, TOP_RATE}
use Rattle.level_items.specs.declared.times.Time.{Time}
use Rattle.level_items.specs.declared.times.Time.TheVariants.{NoTime, Span, Point}
use Rattle.level_items.specs.declared.annot.AnnotItem.{AnnotItem}
use Rattle.level_items.specs.declared.annot.AnnotLevel.{AnnotLevel}
use Rattle.level_items.specs.declared.annot.Annot.{Annot}
use Rattle.level_items.specs.Times.{first_sample, last_sample}
use Rattle.sample_time.specs.declared.decimal.Decimal.{Decimal}
use Rattle.sample_time.specs.declared.decimal.NumberFault.{NumberFault}
use Rattle.sample_time.specs.declared.decimal.NumberFault.TheVariants.{NotANumber}
use Rattle.sample_time.specs.declared.sample.TimeFault.{TimeFault}
use Rattle.sample_time.specs.Reading.{numeral_at, parts_at, value_at, decimal_of}
use Rattle.sample_time.specs.Sample.{first_sample as sample_from, nearest_sample}
use Rattle.sample_time.specs.Printed.{time_text}
use Rattle.sample_time.specs.Inner.Printed.{is_time_byte, ReadsBack, TimesReadBack, CountsBack, CountsReadBack}
use Rattle.textgrid.specs.declared.fault.GridFault.{GridFault}
use Rattle.textgrid.specs.declared.fault.GridWhat.TheVariants as whats
use Rattle.textgrid.specs.declared.values.Value.{Value}
use Rattle.textgrid.specs.declared.values.Value.TheVariants.{Number, Quoted, Flag}
use Rattle.textgrid.specs.declared.values.Placed.{Placed}
use Rattle.textgrid.specs.declared.grid.GridInterval.{GridInterval}
use Rattle.textgrid.specs.declared.grid.GridPoint.{GridPoint}
use Rattle.textgrid.specs.declared.grid.GridEntries.{GridEntries}
use Rattle.textgrid.specs.declared.grid.GridEntries.TheVariants.{Intervals, Points}
use Rattle.textgrid.specs.declared.grid.GridTier.{GridTier}
use Rattle.textgrid.specs.declared.grid.Grid.{Grid}
use Rattle.textgrid.specs.Counts.{count_of}
use Rattle.textgrid.specs.Values.{is_inside, values_from, values_of}
use Rattle.textgrid.specs.Reading.{grid_at, Answer}
use Rattle.textgrid.specs.Grids.{grid_answer, grid_of_values, grid_of_text}
use Rattle.textgrid.specs.Levels.{span_between, span_of, point_at, point_of, item_of, with_item, segments_from, events_from, entry_count, level_of, with_level, levels_from, annot_of}
use Rattle.textgrid.specs.Written.{Slot, interval_slots, point_slots, all_slots, entry_slots, class_of, IsTierWritten, AreParts, AreTiersWritten, IsGridWritten, Begins, IsGrid}
use Rattle.grid_writing.proofs.Tokens.{Token, word, number, text, exists, Line, token_values, number_value, tokens_values, lines_text, lines_values, begins_word, is_one_word, IsToken, AreTokens, AreLines, HoldsValues}
use Rattle.grid_writing.specs.declared.entries.Entry.{Entry}
use Rattle.grid_writing.specs.declared.levels.TimeLevel.{TimeLevel}
use Rattle.grid_writing.specs.Filled.{entry_time, entry_label}
use Rattle.grid_writing.specs.Layout.{class_text, grid_text}
use Rattle.grid_writing.specs.Back.{AreItemsOf, kind_of, AreLevelsOf}
use Rattle.grid_writing.proofs.TokenLines.{bracketed, begins_part, says, interval_onto, point_onto, entries_onto, entry_word, size_line, tiers_onto, grid_lines, IsTimeIn, AreTimesIn, CanBeWritten}
use Rattle.grid_writing.proofs.Bridges.{grid_bridge}
use Rattle.grid_writing.proofs.Leaves.{lines_are_read, and_left, and_right}

-- words of the layout
abbrev is_name : List ℕ → Bool
is_name [] = false
is_name (b ∷ bs) = is_one_word (b ∷ bs) && (not (is_ascii_digit b) && (not (eqb b 43) && not (eqb b 45)))

false_of : (a : Bool) → not a ≡ true → a ≡ false
false_of true is = cc
false_of false is = refl

no_number : (b : ℕ) (bs : List ℕ) → is_ascii_digit b ≡ false → eqb b 43 ≡ false → eqb b 45 ≡ false → decimal_of (b ∷ bs) ≡ Err NotANumber
unfolding decimal_of value_at parts_at numeral_at
no_number b bs digit plus minus = rw (plus, minus, digit) refl

name_token : (w : List ℕ) → IsTrue (is_name w) → IsToken (word w)
name_token [] is = absurd cc
name_token (b ∷ bs) is =
    let one = and_right (is_one_word (b ∷ bs)) _ is in
    let two = and_right (not (is_ascii_digit b)) _ one in
    let digit : is_ascii_digit b ≡ false = false_of _ (and_left (not (is_ascii_digit b)) _ one) in
    let plus : eqb b 43 ≡ false = false_of _ (and_left (not (eqb b 43)) _ two) in
    let minus : eqb b 45 ≡ false = false_of _ (and_right (not (eqb b 43)) _ two) in
    (and_left (is_one_word (b ∷ bs)) _ is, no_number b bs digit plus minus)

digits_inside : (ds : List ℕ) → AllDigits 10 ds → list_all is_inside ds ≡ true
digits_inside [] all = refl
digits_inside (d ∷ ds) all =
    let rest = digits_inside ds all.1 in
    let digit = all.0 in
    let first : is_inside d ≡ true = grind (arith, nat_tests) in
    rw (first, rest) refl

bracket_token : (k : ℕ) → k < 10 ^ 64 → IsToken (word (bracketed k))
bracket_token k small =
    let whole = decimal_is_IsNumeral_wide k small in
    let front : list_all is_inside (decimal k) ≡ true = digits_inside (decimal k) whole.0.1 in
    let all : list_all is_inside (decimal k ++ (93 ∷ 58 ∷ [])) ≡ true = list_all-append is_inside (decimal k) (93 ∷ 58 ∷ []) ∙ rw front refl in
    name_token (bracketed k) (rw all refl)

-- texts of numbers are one word
bytes_inside : (w : List ℕ) → list_all is_time_byte w ≡ true → list_all is_inside w ≡ true
bytes_inside [] all = refl
bytes_inside (b ∷ bs) all =
    let here : is_time_byte b ≡ true = and_left (is_time_byte b) _ all in
    let rest = bytes_inside bs (and_right (is_time_byte b) _ all) in
    let first : is_inside b ≡ true = grind (arith, nat_tests) in
    rw (first, rest) refl

nothing_read : (d : Decimal) → decimal_of [] ≡ Ok d → ⊥
unfolding decimal_of value_at parts_at numeral_at
nothing_read d is = cc

one_word : (w : List ℕ) (d : Decimal) → list_all is_time_byte w ≡ true → decimal_of w ≡ Ok d → IsTrue (is_one_word w)
one_word [] d all is = absurd (nothing_read d is)
one_word (b ∷ bs) d all is =
    let here : is_time_byte b ≡ true = and_left (is_time_byte b) _ all in
    let first : begins_word b ≡ true = grind (arith, nat_tests) in
    let rest : list_all is_inside bs ≡ true = bytes_inside bs (and_right (is_time_byte b) _ all) in
    rw (first, rest) refl

-- the number that a text is
abbrev nought : Decimal
nought = record { negative = false; digits = 0; exponent = pos 0 }

abbrev number_or : Result Decimal NumberFault → Decimal
number_or (Ok d) = d
number_or (Err fault) = nought

abbrev ok_number : Decimal → Result Decimal NumberFault
ok_number d = Ok d

abbrev number_in : List ℕ → Decimal
number_in w = number_or (decimal_of w)

number_ok : (w : List ℕ) (d : Decimal) → decimal_of w ≡ Ok d → decimal_of w ≡ Ok (number_in w)
number_ok w d is = is ∙ ap ok_number (sym (ap number_or is))

number_token : (w : List ℕ) (d : Decimal) → list_all is_time_byte w ≡ true → decimal_of w ≡ Ok d → IsToken (number w)
number_token w d all is = (one_word w d all is, record { value = d; is = is })

-- times
abbrev time_of : ℕ → ℕ → Decimal
time_of rate s = number_in (time_text s rate)

abbrev count_in : ℕ → Decimal
count_in n = number_in (decimal n)

-- what is known of numbers that are written
pub record Known (rate end : ℕ) : Type 0 where
  pub token : (s : ℕ) → s ≤ end → IsToken (number (time_text s rate))
  pub read : (s : ℕ) → s ≤ end → decimal_of (time_text s rate) ≡ Ok (time_of rate s)
  pub first : (s : ℕ) → s ≤ end → sample_from (time_of rate s) rate ≡ Ok s
  pub nearest : (s : ℕ) → s < end → nearest_sample (time_of rate s) rate ≡ Ok s
  pub count_token : (n : ℕ) → n ≤ GRID_ENTRIES → IsToken (number (decimal n))
  pub count_read : (n : ℕ) → n ≤ GRID_ENTRIES → decimal_of (decimal n) ≡ Ok (count_in n)
  pub counts : (n : ℕ) → n ≤ GRID_ENTRIES → count_of (count_in n) ≡ Some n

count_is : (n : ℕ) (d : Decimal) (places : ℕ) → n ≤ GRID_ENTRIES → d.negative ≡ false → d.exponent ≡ pos places → d.digits * 10 ^ places ≡ n → count_of d ≡ Some n
count_is n d places small positive at is =
    let within : leb n GRID_ENTRIES ≡ true = grind (arith, nat_tests) in
    rw (positive, at, is, within) refl

known : TimesReadBack → CountsReadBack → (rate end : ℕ) → 1 ≤ rate → rate ≤ TOP_RATE → end ≤ SAMPLES → Known rate end
known times counts rate end some high within = record {
  token = λ s below. let t = times s rate (omega arith) some high in number_token (time_text s rate) t.time t.plain t.read;
  read = λ s below. let t = times s rate (omega arith) some high in number_ok (time_text s rate) t.time t.read;
  first = λ s below. let t = times s rate (omega arith) some high in
      subst (λ (d : Decimal). sample_from d rate ≡ Ok s) (sym (ap number_or t.read)) t.first;
  nearest = λ s below. let t = times s rate (omega arith) some high in
      subst (λ (d : Decimal). nearest_sample d rate ≡ Ok s) (sym (ap number_or t.read)) (t.nearest (omega arith));
  count_token = λ n small. let c = counts n (omega arith) in number_token (decimal n) c.number c.plain c.read;
  count_read = λ n small. let c = counts n (omega arith) in number_ok (decimal n) c.number c.read;
  counts = λ n small. let c = counts n (omega arith) in
      subst (λ (d : Decimal). count_of d ≡ Some n) (sym (ap number_or c.read)) (count_is n c.number c.places small c.positive c.at c.is);
}

-- the times of an entry
ends_by : (b : Bool) (end : ℕ) (t : Time) → IsTimeIn b end t → (first_sample t ≤ last_sample t) × (last_sample t < end)
ends_by true end NoTime is = absurd is
ends_by true end (Span start dur) is = (omega arith, is)
ends_by true end (Point at) is = absurd is
ends_by false end NoTime is = absurd is
ends_by false end (Span start dur) is = absurd is
ends_by false end (Point at) is = (omega arith, is)

-- the lines are such as are read
entries_are_lines : (rate end : ℕ) (b : Bool) (k : ℕ) (es : List Entry) (rest : List Line) → Known rate end → AreTimesIn b end es → k + length es ≤ GRID_ENTRIES → AreLines rest → AreLines (entries_onto rate b k es rest)
entries_are_lines rate end b k [] rest facts times few lines = lines
entries_are_lines rate end true k (e ∷ es) rest facts times few lines =
    let by = ends_by true end (entry_time e) times.0 in (
      (name_token (codes "intervals") refl, (bracket_token (k + 1) (omega arith), tt)),
      (
        (name_token (codes "xmin") refl, (name_token (codes "=") refl, (facts.token (first_sample (entry_time e)) (omega (arith, by.0, by.1)), tt))),
        (
          (name_token (codes "xmax") refl, (name_token (codes "=") refl, (facts.token (last_sample (entry_time e) + 1) (omega (arith, by.1)), tt))),
          (
            (name_token (codes "text") refl, (name_token (codes "=") refl, (tt, tt))),
            entries_are_lines rate end true (k + 1) es rest facts times.1 (omega arith) lines,
          ),
        ),
      ),
    )
entries_are_lines rate end false k (e ∷ es) rest facts times few lines =
    let by = ends_by false end (entry_time e) times.0 in (
      (name_token (codes "points") refl, (bracket_token (k + 1) (omega arith), tt)),
      (
        (name_token (codes "number") refl, (name_token (codes "=") refl, (facts.token (first_sample (entry_time e)) (omega (arith, by.0, by.1)), tt))),
        (
          (name_token (codes "mark") refl, (name_token (codes "=") refl, (tt, tt))),
          entries_are_lines rate end false (k + 1) es rest facts times.1 (omega arith) lines,
        ),
      ),
    )

size_tokens : (rate end : ℕ) (b : Bool) (n : ℕ) → Known rate end → n ≤ GRID_ENTRIES → AreTokens (size_line 8 b n).tokens
size_tokens rate end true n facts few = (name_token (codes "intervals:") refl, (name_token (codes "size") refl, (name_token (codes "=") refl, (facts.count_token n few, tt))))
size_tokens rate end false n facts few = (name_token (codes "points:") refl, (name_token (codes "size") refl, (name_token (codes "=") refl, (facts.count_token n few, tt))))

tiers_lines : (rate end k : ℕ) (ls : List TimeLevel) → Known rate end → CanBeWritten end ls → k + length ls ≤ GRID_ENTRIES → AreLines (tiers_onto rate end k ls)
tiers_lines rate end k [] facts can few = tt
tiers_lines rate end k (l ∷ ls) facts can few = (
  (name_token (codes "item") refl, (bracket_token (k + 1) (omega arith), tt)),
  (
    (name_token (codes "class") refl, (name_token (codes "=") refl, (tt, tt))),
    (
      (name_token (codes "name") refl, (name_token (codes "=") refl, (tt, tt))),
      (
        (name_token (codes "xmin") refl, (name_token (codes "=") refl, (facts.token 0 (omega arith), tt))),
        (
          (name_token (codes "xmax") refl, (name_token (codes "=") refl, (facts.token end (omega arith), tt))),
          (
            size_tokens rate end l.segments (length l.entries) facts can.1,
            entries_are_lines rate end l.segments 0 l.entries (tiers_onto rate end (k + 1) ls) facts can.0 (let few_entries = can.1 in omega arith) (tiers_lines rate end (k + 1) ls facts can.2 (omega arith)),
          ),
        ),
      ),
    ),
  ),
)

all_lines : (rate end : ℕ) (ls : List TimeLevel) → Known rate end → CanBeWritten end ls → length ls ≤ GRID_ENTRIES → AreLines (grid_lines rate end ls)
all_lines rate end ls facts can few = (
  (name_token (codes "File") refl, (name_token (codes "type") refl, (name_token (codes "=") refl, (tt, tt)))),
  (
    (name_token (codes "Object") refl, (name_token (codes "class") refl, (name_token (codes "=") refl, (tt, tt)))),
    (
      tt,
      (
        (name_token (codes "xmin") refl, (name_token (codes "=") refl, (facts.token 0 (omega arith), tt))),
        (
          (name_token (codes "xmax") refl, (name_token (codes "=") refl, (facts.token end (omega arith), tt))),
          (
            (name_token (codes "tiers?") refl, (tt, tt)),
            (
              (name_token (codes "size") refl, (name_token (codes "=") refl, (facts.count_token (length ls) few, tt))),
              (
                (name_token (codes "item") refl, (name_token (codes "[]:") refl, tt)),
                tiers_lines rate end 0 ls facts can (omega arith),
              ),
            ),
          ),
        ),
      ),
    ),
  ),
)

-- the grid that is written
abbrev interval_of : ℕ → Entry → GridInterval
interval_of rate e = record { xmin = time_of rate (first_sample (entry_time e)); xmax = time_of rate (last_sample (entry_time e) + 1); text = entry_label e }

abbrev mark_of : ℕ → Entry → GridPoint
mark_of rate e = record { time = time_of rate (first_sample (entry_time e)); mark = entry_label e }

abbrev intervals_of : ℕ → List Entry → List GridInterval
intervals_of rate [] = []
intervals_of rate (e ∷ es) = interval_of rate e ∷ intervals_of rate es

abbrev marks_of : ℕ → List Entry → List GridPoint
marks_of rate [] = []
marks_of rate (e ∷ es) = mark_of rate e ∷ marks_of rate es

abbrev grid_entries : ℕ → Bool → List Entry → GridEntries
grid_entries rate true es = Intervals (intervals_of rate es)
grid_entries rate false es = Points (marks_of rate es)

abbrev tier_of : ℕ → ℕ → TimeLevel → GridTier
tier_of rate end l = record { name = l.name; xmin = time_of rate 0; xmax = time_of rate end; entries = grid_entries rate l.segments l.entries }

abbrev tiers_of : ℕ → ℕ → List TimeLevel → List GridTier
tiers_of rate end [] = []
tiers_of rate end (l ∷ ls) = tier_of rate end l ∷ tiers_of rate end ls

abbrev grid_of : ℕ → ℕ → List TimeLevel → Grid
grid_of rate end ls = record { xmin = time_of rate 0; xmax = time_of rate end; tiers = tiers_of rate end ls }

abbrev some_size : ℕ → Option ℕ
some_size n = Some n

-- its slots
abbrev tier_slots : ℕ → ℕ → TimeLevel → List Slot
tier_slots rate end l =
    (whats.TierClass, Quoted (class_text l.segments)) ∷ (whats.Text, Quoted l.name) ∷ (whats.Number, Number (time_of rate 0))
    ∷ (whats.Number, Number (time_of rate end)) ∷ (whats.Count, Number (count_in (length l.entries)))
    ∷ entry_slots (grid_entries rate l.segments l.entries)

abbrev tiers_slots : ℕ → ℕ → List TimeLevel → List Slot
tiers_slots rate end [] = []
tiers_slots rate end (l ∷ ls) = tier_slots rate end l ++ tiers_slots rate end ls

abbrev grid_slots : ℕ → ℕ → List TimeLevel → List Slot
grid_slots rate end ls =
    (whats.Header, Quoted (codes "ooTextFile")) ∷ (whats.Header, Quoted (codes "TextGrid")) ∷ (whats.Number, Number (time_of rate 0))
    ∷ (whats.Number, Number (time_of rate end)) ∷ (whats.Flag, Flag true) ∷ (whats.Count, Number (count_in (length ls))) ∷ tiers_slots rate end ls

abbrev values_in : List Slot → List Value
values_in [] = []
values_in (s ∷ ss) = s.1 ∷ values_in ss

entries_values : (rate end : ℕ) (b : Bool) (k : ℕ) (es : List Entry) (rest : List Line) (slots : List Slot) → Known rate end → AreTimesIn b end es → lines_values rest ≡ values_in slots → lines_values (entries_onto rate b k es rest) ≡ values_in (entry_slots (grid_entries rate b es) ++ slots)
entries_values rate end true k [] rest slots facts times is = is
entries_values rate end false k [] rest slots facts times is = is
entries_values rate end true k (e ∷ es) rest slots facts times is =
    let by = ends_by true end (entry_time e) times.0 in
    let one = facts.read (first_sample (entry_time e)) (omega (arith, by.0, by.1)) in
    let two = facts.read (last_sample (entry_time e) + 1) (omega (arith, by.1)) in
    let others = entries_values rate end true (k + 1) es rest slots facts times.1 is in
    rw (one, two, others) refl
entries_values rate end false k (e ∷ es) rest slots facts times is =
    let by = ends_by false end (entry_time e) times.0 in
    let one = facts.read (first_sample (entry_time e)) (omega (arith, by.0, by.1)) in
    let others = entries_values rate end false (k + 1) es rest slots facts times.1 is in
    rw (one, others) refl

tiers_values : (rate end k : ℕ) (ls : List TimeLevel) → Known rate end → CanBeWritten end ls → lines_values (tiers_onto rate end k ls) ≡ values_in (tiers_slots rate end ls)
tiers_values rate end k [] facts can = refl
tiers_values rate end k (l ∷ ls) facts can =
    let none = facts.read 0 (omega arith) in
    let last = facts.read end (omega arith) in
    let size = facts.count_read (length l.entries) can.1 in
    let others = tiers_values rate end (k + 1) ls facts can.2 in
    let own = entries_values rate end l.segments 0 l.entries (tiers_onto rate end (k + 1) ls) (tiers_slots rate end ls) facts can.0 others in
    rw (none, last, size, own) refl

all_values : (rate end : ℕ) (ls : List TimeLevel) → Known rate end → CanBeWritten end ls → length ls ≤ GRID_ENTRIES → lines_values (grid_lines rate end ls) ≡ values_in (grid_slots rate end ls)
all_values rate end ls facts can few =
    let none = facts.read 0 (omega arith) in
    let last = facts.read end (omega arith) in
    let size = facts.count_read (length ls) few in
    let tiers = tiers_values rate end 0 ls facts can in
    rw (none, last, size, tiers) refl

-- the slots are the grid written out
intervals_size : (rate : ℕ) (es : List Entry) → length (intervals_of rate es) ≡ length es
intervals_size rate [] = refl
intervals_size rate (e ∷ es) = ap (λ (n : ℕ). suc n) (intervals_size rate es)

marks_size : (rate : ℕ) (es : List Entry) → length (marks_of rate es) ≡ length es
marks_size rate [] = refl
marks_size rate (e ∷ es) = ap (λ (n : ℕ). suc n) (marks_size rate es)

entries_size : (rate : ℕ) (b : Bool) (es : List Entry) → entry_count (grid_entries rate b es) ≡ length es
entries_size rate true es = intervals_size rate es
entries_size rate false es = marks_size rate es

class_is : (rate : ℕ) (b : Bool) (es : List Entry) → class_text b ≡ class_of (grid_entries rate b es)
class_is rate true es = refl
class_is rate false es = refl

tiers_size : (rate end : ℕ) (ls : List TimeLevel) → length (tiers_of rate end ls) ≡ length ls
tiers_size rate end [] = refl
tiers_size rate end (l ∷ ls) = ap (λ (n : ℕ). suc n) (tiers_size rate end ls)

tier_written : (rate end : ℕ) (l : TimeLevel) → Known rate end → length l.entries ≤ GRID_ENTRIES → IsTierWritten (tier_of rate end l) (tier_slots rate end l)
tier_written rate end l facts few = record {
  count = count_in (length l.entries);
  counts = facts.counts (length l.entries) few ∙ ap some_size (sym (entries_size rate l.segments l.entries));
  is = ap (λ (c : List ℕ). (whats.TierClass, Quoted c) ∷ (whats.Text, Quoted l.name) ∷ (whats.Number, Number (time_of rate 0))
      ∷ (whats.Number, Number (time_of rate end)) ∷ (whats.Count, Number (count_in (length l.entries)))
      ∷ entry_slots (grid_entries rate l.segments l.entries)) (class_is rate l.segments l.entries);
}

tiers_written : (rate end : ℕ) (ls : List TimeLevel) → Known rate end → CanBeWritten end ls → AreTiersWritten (tiers_of rate end ls) (tiers_slots rate end ls)
tiers_written rate end [] facts can = refl
tiers_written rate end (l ∷ ls) facts can = record {
  first = tier_slots rate end l;
  rest = tiers_slots rate end ls;
  is = refl;
  is_first = tier_written rate end l facts can.1;
  is_rest = tiers_written rate end ls facts can.2;
}

grid_written : (rate end : ℕ) (ls : List TimeLevel) → Known rate end → CanBeWritten end ls → length ls ≤ GRID_ENTRIES → IsGridWritten (grid_of rate end ls) (grid_slots rate end ls)
grid_written rate end ls facts can few = record {
  header = codes "ooTextFile";
  is_header = inl refl;
  count = count_in (length ls);
  counts = facts.counts (length ls) few ∙ ap some_size (sym (tiers_size rate end ls));
  tiers = tiers_slots rate end ls;
  are_tiers = tiers_written rate end ls facts can;
  is = refl;
}

begins_with : (vs : List Placed) (ss : List Slot) → map (λ p. p.value) vs ≡ values_in ss → Begins vs ss []
begins_with [] [] is = refl
begins_with [] (s ∷ ss) is = absurd cc
begins_with (p ∷ ps) [] is = absurd cc
begins_with (p ∷ ps) (s ∷ ss) is =
    let first : p.value ≡ s.1 = cc in
    let rest : map (λ q. q.value) ps ≡ values_in ss = cc in
    (first, begins_with ps ss rest)

-- the times of entries that are read
span_read : (end rate tier entry : ℕ) (t : Time) (x y : Decimal) → IsTimeIn true end t → sample_from x rate ≡ Ok (first_sample t) → sample_from y rate ≡ Ok (last_sample t + 1) → span_between tier entry (sample_from x rate) (sample_from y rate) ≡ Ok t
span_read end rate tier entry NoTime x y is one two = absurd is
span_read end rate tier entry (Point at) x y is one two = absurd is
span_read end rate tier entry (Span start dur) x y is one two =
    let less : ltb start (start + dur + 1) ≡ true = grind (arith, nat_tests) in
    let size : start + dur + 1 - start - 1 ≡ dur = omega arith in
    rw (one, two, less, size) refl

mark_read : (end rate tier entry : ℕ) (t : Time) (x : Decimal) → IsTimeIn false end t → nearest_sample x rate ≡ Ok (first_sample t) → point_at tier entry (nearest_sample x rate) ≡ Ok t
mark_read end rate tier entry NoTime x is one = absurd is
mark_read end rate tier entry (Span start dur) x is one = absurd is
mark_read end rate tier entry (Point at) x is one = rw one refl

pub record ItemsRead (answer : Result (List AnnotItem) GridFault) (es : List Entry) : Type 0 where
  pub items : List AnnotItem
  pub is : answer ≡ Ok items
  pub same : AreItemsOf es items

segments_read : (rate end tier before : ℕ) (name : List ℕ) (n : ℕ) (es : List Entry) → Known rate end → AreTimesIn true end es → ItemsRead (segments_from rate tier before name n (intervals_of rate es)) es
segments_read rate end tier before name n [] facts times = record { items = []; is = refl; same = tt }
segments_read rate end tier before name n (e ∷ es) facts times =
    let by = ends_by true end (entry_time e) times.0 in
    let rest = segments_read rate end tier before name (n + 1) es facts times.1 in
    let rest_is = rest.is in
    let one = facts.first (first_sample (entry_time e)) (omega (arith, by.0, by.1)) in
    let two = facts.first (last_sample (entry_time e) + 1) (omega (arith, by.1)) in
    let time : span_of rate tier (n + 1) (interval_of rate e) ≡ Ok (entry_time e) = span_read end rate tier (n + 1) (entry_time e) (time_of rate (first_sample (entry_time e))) (time_of rate (last_sample (entry_time e) + 1)) times.0 one two in
    record { items = item_of name (before + (n + 1)) (entry_time e) (entry_label e) ∷ rest.items; is = rw (time, rest_is) refl; same = (refl, refl, rest.same) }

events_read : (rate end tier before : ℕ) (name : List ℕ) (n : ℕ) (es : List Entry) → Known rate end → AreTimesIn false end es → ItemsRead (events_from rate tier before name n (marks_of rate es)) es
events_read rate end tier before name n [] facts times = record { items = []; is = refl; same = tt }
events_read rate end tier before name n (e ∷ es) facts times =
    let by = ends_by false end (entry_time e) times.0 in
    let rest = events_read rate end tier before name (n + 1) es facts times.1 in
    let rest_is = rest.is in
    let one = facts.nearest (first_sample (entry_time e)) (omega (arith, by.0, by.1)) in
    let time : point_of rate tier (n + 1) (mark_of rate e) ≡ Ok (entry_time e) = mark_read end rate tier (n + 1) (entry_time e) (time_of rate (first_sample (entry_time e))) times.0 one in
    record { items = item_of name (before + (n + 1)) (entry_time e) (entry_label e) ∷ rest.items; is = rw (time, rest_is) refl; same = (refl, refl, rest.same) }

pub record LevelRead (answer : Result AnnotLevel GridFault) (name : List ℕ) (b : Bool) (es : List Entry) : Type 0 where
  pub level : AnnotLevel
  pub is : answer ≡ Ok level
  pub name_is : level.name ≡ name
  pub kind_is : level.kind ≡ kind_of b
  pub same : AreItemsOf es level.items

level_read : (rate end k before : ℕ) (name : List ℕ) (b : Bool) (es : List Entry) (x y : Decimal) → Known rate end → AreTimesIn b end es → LevelRead (level_of rate k before (record { name = name; xmin = x; xmax = y; entries = grid_entries rate b es })) name b es
level_read rate end k before name true es x y facts times =
    let items = segments_read rate end k before name 0 es facts times in
    let items_is = items.is in
    record { level = record { name = name; kind = kind_of true; items = items.items }; is = rw items_is refl; name_is = refl; kind_is = refl; same = items.same }
level_read rate end k before name false es x y facts times =
    let items = events_read rate end k before name 0 es facts times in
    let items_is = items.is in
    record { level = record { name = name; kind = kind_of false; items = items.items }; is = rw items_is refl; name_is = refl; kind_is = refl; same = items.same }

pub record LevelsRead (answer : Result (List AnnotLevel) GridFault) (ls : List TimeLevel) : Type 0 where
  pub levels : List AnnotLevel
  pub is : answer ≡ Ok levels
  pub same : AreLevelsOf ls levels

levels_read : (rate end k before : ℕ) (ls : List TimeLevel) → Known rate end → CanBeWritten end ls → LevelsRead (levels_from rate k before (tiers_of rate end ls)) ls
levels_read rate end k before [] facts can = record { levels = []; is = refl; same = tt }
levels_read rate end k before (l ∷ ls) facts can =
    let one = level_read rate end (k + 1) before l.name l.segments l.entries (time_of rate 0) (time_of rate end) facts can.0 in
    let rest = levels_read rate end (k + 1) (before + entry_count (grid_entries rate l.segments l.entries)) ls facts can.2 in
    let one_is = one.is in
    let rest_is = rest.is in
    record { levels = one.level ∷ rest.levels; is = rw (one_is, rest_is) refl; same = (one.name_is, one.kind_is, one.same, rest.same) }

abbrev pub WrittenIsRead : Type 0
WrittenIsRead = (vs : List Placed) (grid : Grid) → IsGrid vs grid → grid_at vs ≡ Ok (grid, [])

-- what is read of the text of levels
pub record GridComesBack (rate : ℕ) (levels : List TimeLevel) (bytes : List ℕ) : Type 0 where
  pub grid : Grid
  pub annot : Annot
  pub read : grid_of_text bytes ≡ Ok grid
  pub gives : annot_of rate grid ≡ Ok annot
  pub same : AreLevelsOf levels annot.levels

lines_come_back : TimesReadBack → CountsReadBack → WrittenIsRead → (rate end : ℕ) (levels : List TimeLevel) → 1 ≤ rate → rate ≤ TOP_RATE → end ≤ SAMPLES → length levels ≤ GRID_ENTRIES → CanBeWritten end levels → GridComesBack rate levels (lines_text (grid_lines rate end levels))
unfolding grid_of_text values_of
lines_come_back times counts written rate end ls some high within few can =
    let facts = known times counts rate end some high within in
    let holds = lines_are_read (grid_lines rate end ls) (all_lines rate end ls facts can few) in
    let found = holds.read 0 in
    let values : map (λ p. p.value) found.0 ≡ values_in (grid_slots rate end ls) = found.1.1 ∙ all_values rate end ls facts can few in
    let is : IsGrid found.0 (grid_of rate end ls) = record { slots = grid_slots rate end ls; written = grid_written rate end ls facts can few; begins = begins_with found.0 (grid_slots rate end ls) values } in
    let at : grid_at found.0 ≡ Ok (grid_of rate end ls, []) = written found.0 (grid_of rate end ls) is in
    let whole : values_from (lines_text (grid_lines rate end ls)) 0 0 ≡ Ok found.0 = found.1.0 in
    let len : ℕ = length (lines_text (grid_lines rate end ls)) in
    let levels = levels_read rate end 0 0 ls facts can in
    let levels_is = levels.is in
    record {
      grid = grid_of rate end ls;
      annot = record { annotates = []; rate = rate; levels = levels.levels; links = [] };
      read = ap (grid_of_values len) whole ∙ ap (grid_answer len) at;
      gives = rw levels_is refl;
      same = levels.same;
    }

pub grids_come_back : TimesReadBack → CountsReadBack → WrittenIsRead → (rate end : ℕ) (levels : List TimeLevel) → 1 ≤ rate → rate ≤ TOP_RATE → end ≤ SAMPLES → length levels ≤ GRID_ENTRIES → CanBeWritten end levels → GridComesBack rate levels (grid_text rate end levels)
grids_come_back times counts written rate end levels some high within few can =
    subst (λ (x : List ℕ). GridComesBack rate levels x) (sym (grid_bridge rate end levels))
    (lines_come_back times counts written rate end levels some high within few can)
