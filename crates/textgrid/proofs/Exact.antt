-- Readings that are exact: what is read is what was written out, and what was written out is read.
use Rattle.std.proofs.Common.{◌≡◌, ℕ, zero, suc, List, [], ◌∷◌, ◌++◌, length, Option, Some, None, Ok, Err, refl, sym, ap, ◌∙◌, subst, arith, append_assoc, append-nil}
use Rattle.textgrid.specs.declared.fault.GridWhat.{GridWhat}
use Rattle.textgrid.specs.declared.values.Value.{Value}
use Rattle.textgrid.specs.declared.values.Placed.{Placed}
use Rattle.textgrid.specs.Reading.{Answer, and_then, times_at, given, taken}
use Rattle.textgrid.specs.Written.{Slot, Each, Begins, BeginsLike, Alike, place_of}

-- values begin with the slots of both, one behind the other, where they begin with each in turn
pub begins_join : (s t : List Slot) (vs mid rest : List Placed) → Begins vs s mid → Begins mid t rest → Begins vs (s ++ t) rest
begins_join [] t vs mid rest first then = subst (λ (x : List Placed). Begins x t rest) (sym first) then
begins_join (a ∷ s) t [] mid rest first then = absurd first
begins_join (a ∷ s) t (p ∷ ps) mid rest first then = (first.0, begins_join s t ps mid rest first.1 then)

pub begins_split : (s t : List Slot) (vs rest : List Placed) → Begins vs (s ++ t) rest → (mid : List Placed) × (Begins vs s mid × Begins mid t rest)
begins_split [] t vs rest both = (vs, (refl, both))
begins_split (a ∷ s) t [] rest both = absurd both
begins_split (a ∷ s) t (p ∷ ps) rest both =
    let tail = begins_split s t ps rest both.1 in (tail.0, ((both.0, tail.1.0), tail.1.1))

-- reading stops: the slots were read, and with what stands there, whatever follows, nothing written out
-- goes on
pub record Stops (A : Type 0) (read : List Placed → Answer A) (W : A → List Slot → Type 0) (vs : List Placed) (place : Option ℕ) (what : GridWhat) : Type 0 where
  pub slots : List Slot
  pub rest : List Placed
  pub begins : Begins vs slots rest
  pub is : place ≡ place_of rest
  pub decides : (ws other : List Placed) → Begins ws slots other → Alike rest other → read ws ≡ Err (place_of other, what)
  pub made : A
  pub value : Value
  pub more : List Slot
  pub goes : W made (slots ++ (what, value) ∷ more)

abbrev pub Says : (A : Type 0) → (List Placed → Answer A) → (A → List Slot → Type 0) → List Placed → Answer A → Type 0
Says A read W vs (Ok r) = (slots : List Slot) × (Begins vs slots r.1 × W r.0 slots)
Says A read W vs (Err e) = Stops A read W vs e.0 e.1

pub record IsExact (A : Type 0) (read : List Placed → Answer A) (W : A → List Slot → Type 0) : Type 0 where
  pub says : (vs : List Placed) → Says A read W vs (read vs)
  pub finds : (a : A) (slots : List Slot) (vs rest : List Placed) → Begins vs slots rest → W a slots → read vs ≡ Ok (a, rest)

-- the same, said otherwise of what is written out
says_as : (A : Type 0) (read : List Placed → Answer A) (W V : A → List Slot → Type 0) → ((a : A) (s : List Slot) → W a s → V a s) → (vs : List Placed) (r : Answer A) → Says A read W vs r → Says A read V vs r
says_as A read W V to vs (Ok r) told = (told.0, (told.1.0, to r.0 told.0 told.1.1))
says_as A read W V to vs (Err e) told = record {
  slots = told.slots;
  rest = told.rest;
  begins = told.begins;
  is = told.is;
  decides = told.decides;
  made = told.made;
  value = told.value;
  more = told.more;
  goes = to told.made (told.slots ++ (e.1, told.value) ∷ told.more) told.goes;
}

pub exact_as : (A : Type 0) (read : List Placed → Answer A) (W V : A → List Slot → Type 0) → ((a : A) (s : List Slot) → W a s → V a s) → ((a : A) (s : List Slot) → V a s → W a s) → IsExact A read W → IsExact A read V
exact_as A read W V to from exact = record {
  says = λ vs. says_as A read W V to vs (read vs) (exact.says vs);
  finds = λ a slots vs rest begins written. exact.finds a slots vs rest begins (from a slots written);
}

-- something that is written out
pub record Goes (A : Type 0) (W : A → List Slot → Type 0) : Type 0 where
  pub made : A
  pub slots : List Slot
  pub writes : W made slots

-- nothing is read
pub record IsNothing (A : Type 0) (known a : A) (slots : List Slot) : Type 0 where
  pub same : a ≡ known
  pub none : slots ≡ []

abbrev pub the_known : (A : Type 0) → A → List Placed → Answer A
the_known A known vs = Ok (known, vs)

nothing_found : (A : Type 0) (known a : A) (slots : List Slot) (vs rest : List Placed) → Begins vs slots rest → IsNothing A known a slots → the_known A known vs ≡ Ok (a, rest)
nothing_found A known a slots vs rest begins written =
    let left : vs ≡ rest = subst (λ (s : List Slot). Begins vs s rest) written.none begins in
    rw (left, written.same) refl

pub exact_known : (A : Type 0) (known : A) → IsExact A (the_known A known) (IsNothing A known)
exact_known A known = record {
  says = λ vs. ([], (refl, record { same = refl; none = refl }));
  finds = λ a slots vs rest begins written. nothing_found A known a slots vs rest begins written;
}

pub goes_known : (A : Type 0) (known : A) → Goes A (IsNothing A known)
goes_known A known = record { made = known; slots = []; writes = record { same = refl; none = refl } }

-- one value is taken
pub record IsTaken (A : Type 0) (get : Value → Option A) (what : GridWhat) (a : A) (slots : List Slot) : Type 0 where
  pub value : Value
  pub gives : get value ≡ Some a
  pub is : slots ≡ (what, value) ∷ []

-- a value that is taken
pub record Sample (A : Type 0) (get : Value → Option A) : Type 0 where
  pub value : Value
  pub made : A
  pub gives : get value ≡ Some made

given_none : (A : Type 0) (get : Value → Option A) (what : GridWhat) (p : Placed) (ws other : List Placed) → get p.value ≡ None → ws ≡ other → BeginsLike p other → taken get what ws ≡ Err (place_of other, what)
given_none A get what p ws other none same like =
    let here : given (get like.first.value) like.first.at what like.behind ≡ Err (Some like.first.at, what) = rw (ap get like.same ∙ none) refl in
    let there : taken get what other ≡ Err (place_of other, what) = subst (λ (o : List Placed). taken get what o ≡ Err (place_of o, what)) (sym like.is) here in
    rw same there

at_end : (A : Type 0) (get : Value → Option A) (what : GridWhat) (ws other : List Placed) → ws ≡ other → other ≡ [] → taken get what ws ≡ Err (place_of other, what)
at_end A get what ws other same none = rw (same, none) refl

taken_says : (A : Type 0) (get : Value → Option A) (what : GridWhat) (sample : Sample A get) (p : Placed) (ps : List Placed) (o : Option A) → get p.value ≡ o → Says A (taken get what) (IsTaken A get what) (p ∷ ps) (given o p.at what ps)
taken_says A get what sample p ps None is = record {
  slots = [];
  rest = p ∷ ps;
  begins = refl;
  is = refl;
  decides = λ ws other begins alike. given_none A get what p ws other is begins alike;
  made = sample.made;
  value = sample.value;
  more = [];
  goes = record { value = sample.value; gives = sample.gives; is = refl };
}
taken_says A get what sample p ps (Some a) is =
    ((what, p.value) ∷ [], ((refl, refl), record { value = p.value; gives = is; is = refl }))

taken_says_all : (A : Type 0) (get : Value → Option A) (what : GridWhat) (sample : Sample A get) (vs : List Placed) → Says A (taken get what) (IsTaken A get what) vs (taken get what vs)
taken_says_all A get what sample [] = record {
  slots = [];
  rest = [];
  begins = refl;
  is = refl;
  decides = λ ws other begins alike. at_end A get what ws other begins alike;
  made = sample.made;
  value = sample.value;
  more = [];
  goes = record { value = sample.value; gives = sample.gives; is = refl };
}
taken_says_all A get what sample (p ∷ ps) = taken_says A get what sample p ps (get p.value) refl

abbrev ok_of : (A : Type 0) → A → List Placed → Answer A
ok_of A a rest = Ok (a, rest)

taken_found : (A : Type 0) (get : Value → Option A) (what : GridWhat) (a : A) (value : Value) (vs rest : List Placed) → get value ≡ Some a → Begins vs ((what, value) ∷ []) rest → taken get what vs ≡ Ok (a, rest)
taken_found A get what a value [] rest gives begins = absurd begins
taken_found A get what a value (p ∷ ps) rest gives begins =
    rw (ap get begins.0 ∙ gives) (ap (λ (x : List Placed). ok_of A a x) begins.1)

pub exact_taken : (A : Type 0) (get : Value → Option A) (what : GridWhat) → Sample A get → IsExact A (taken get what) (IsTaken A get what)
exact_taken A get what sample = record {
  says = taken_says_all A get what sample;
  finds = λ a slots vs rest begins written. taken_found A get what a written.value vs rest written.gives (subst (λ (s : List Slot). Begins vs s rest) written.is begins);
}

-- one reading behind another
pub record IsThen (A B : Type 0) (W : A → List Slot → Type 0) (V : A → B → List Slot → Type 0) (b : B) (slots : List Slot) : Type 0 where
  pub made : A
  pub first : List Slot
  pub rest : List Slot
  pub is : slots ≡ first ++ rest
  pub is_first : W made first
  pub is_rest : V made b rest

module _ (A B : Type 0) (p : List Placed → Answer A) (W : A → List Slot → Type 0) (q : A → List Placed → Answer B) (V : A → B → List Slot → Type 0) (first : IsExact A p W) (second : (a : A) → IsExact B (q a) (V a)) (ends : (a : A) → Goes B (V a)) where
  abbrev both : List Placed → Answer B
  both vs = and_then (p vs) q

  stops_second : (a : A) (s t : List Slot) (ws other : List Placed) (e : Option ℕ × GridWhat) → W a s → Begins ws (s ++ t) other → ((mid : List Placed) → Begins mid t other → q a mid ≡ Err e) → both ws ≡ Err e
  stops_second a s t ws other e written begins stops =
      let cut = begins_split s t ws other begins in
      let found : p ws ≡ Ok (a, cut.0) = first.finds a s ws cut.0 cut.1.0 written in
      rw found (stops cut.0 cut.1.1)

  second_says : (vs mid : List Placed) (a : A) (s : List Slot) → Begins vs s mid → W a s → (r : Answer B) → Says B (q a) (V a) mid r → Says B both (IsThen A B W V) vs r
  second_says vs mid a s begins written (Ok r) told =
      (s ++ told.0, (begins_join s told.0 vs mid r.1 begins told.1.0, record { made = a; first = s; rest = told.0; is = refl; is_first = written; is_rest = told.1.1 }))
  second_says vs mid a s begins written (Err e) told = record {
    slots = s ++ told.slots;
    rest = told.rest;
    begins = begins_join s told.slots vs mid told.rest begins told.begins;
    is = told.is;
    decides = λ ws other there alike. stops_second a s told.slots ws other (place_of other, e.1) written there (λ m b. told.decides m other b alike);
    made = told.made;
    value = told.value;
    more = told.more;
    goes = record { made = a; first = s; rest = told.slots ++ (e.1, told.value) ∷ told.more; is = append_assoc s told.slots ((e.1, told.value) ∷ told.more); is_first = written; is_rest = told.goes };
  }

  first_says : (vs : List Placed) (r : Answer A) → Says A p W vs r → Says B both (IsThen A B W V) vs (and_then r q)
  first_says vs (Ok r) told = second_says vs r.1 r.0 told.0 told.1.0 told.1.1 (q r.0 r.1) ((second r.0).says r.1)
  first_says vs (Err e) told = record {
    slots = told.slots;
    rest = told.rest;
    begins = told.begins;
    is = told.is;
    decides = λ ws other there alike. rw (told.decides ws other there alike) refl;
    made = (ends told.made).made;
    value = told.value;
    more = told.more ++ (ends told.made).slots;
    goes = record {
      made = told.made;
      first = told.slots ++ (e.1, told.value) ∷ told.more;
      rest = (ends told.made).slots;
      is = sym (append_assoc told.slots ((e.1, told.value) ∷ told.more) (ends told.made).slots);
      is_first = told.goes;
      is_rest = (ends told.made).writes;
    };
  }

  both_found : (b : B) (slots : List Slot) (vs rest : List Placed) → Begins vs slots rest → IsThen A B W V b slots → both vs ≡ Ok (b, rest)
  both_found b slots vs rest begins written =
      let there : Begins vs (written.first ++ written.rest) rest = subst (λ (s : List Slot). Begins vs s rest) written.is begins in
      let cut = begins_split written.first written.rest vs rest there in
      let found : p vs ≡ Ok (written.made, cut.0) = first.finds written.made written.first vs cut.0 cut.1.0 written.is_first in
      rw found ((second written.made).finds b written.rest cut.0 rest cut.1.1 written.is_rest)

  pub exact_then : IsExact B (λ vs. and_then (p vs) q) (IsThen A B W V)
  exact_then = record {
    says = λ vs. first_says vs (p vs) (first.says vs);
    finds = both_found;
  }

-- something is written out behind something
pub goes_then : (A B : Type 0) (W : A → List Slot → Type 0) (V : A → B → List Slot → Type 0) (first : Goes A W) → Goes B (V first.made) → Goes B (IsThen A B W V)
goes_then A B W V first second = record {
  made = second.made;
  slots = first.slots ++ second.slots;
  writes = record { made = first.made; first = first.slots; rest = second.slots; is = refl; is_first = first.writes; is_rest = second.writes };
}

-- one value and what is read behind it
pub record IsLead (A B : Type 0) (get : Value → Option A) (what : GridWhat) (V : A → B → List Slot → Type 0) (b : B) (slots : List Slot) : Type 0 where
  pub value : Value
  pub made : A
  pub gives : get value ≡ Some made
  pub rest : List Slot
  pub is : slots ≡ (what, value) ∷ rest
  pub is_rest : V made b rest

pub exact_lead : (A B : Type 0) (get : Value → Option A) (what : GridWhat) (q : A → List Placed → Answer B) (V : A → B → List Slot → Type 0) → Sample A get → ((a : A) → IsExact B (q a) (V a)) → ((a : A) → Goes B (V a)) → IsExact B (λ vs. and_then (taken get what vs) q) (IsLead A B get what V)
exact_lead A B get what q V sample second ends =
    exact_as B (λ vs. and_then (taken get what vs) q) (IsThen A B (IsTaken A get what) V) (IsLead A B get what V)
    (λ b s then. record { value = then.is_first.value; made = then.made; gives = then.is_first.gives; rest = then.rest; is = then.is ∙ ap (λ (x : List Slot). x ++ then.rest) then.is_first.is; is_rest = then.is_rest })
    (λ b s lead. record { made = lead.made; first = (what, lead.value) ∷ []; rest = lead.rest; is = lead.is; is_first = record { value = lead.value; gives = lead.gives; is = refl }; is_rest = lead.is_rest })
    (exact_then A B (taken get what) (IsTaken A get what) q V (exact_taken A get what sample) second ends)

pub goes_lead : (A B : Type 0) (get : Value → Option A) (what : GridWhat) (V : A → B → List Slot → Type 0) (sample : Sample A get) → Goes B (V sample.made) → Goes B (IsLead A B get what V)
goes_lead A B get what V sample rest = record {
  made = rest.made;
  slots = (what, sample.value) ∷ rest.slots;
  writes = record { value = sample.value; made = sample.made; gives = sample.gives; rest = rest.slots; is = refl; is_rest = rest.writes };
}

-- the same reading n times
abbrev pub AreTimes : (A : Type 0) → (A → List Slot → Type 0) → ℕ → List A → List Slot → Type 0
AreTimes A W zero ls slots = IsNothing (List A) [] ls slots
AreTimes A W (suc n) ls slots =
    IsThen A (List A) W (λ a. IsThen (List A) (List A) (AreTimes A W n) (λ more. IsNothing (List A) (a ∷ more))) ls slots

goes_times : (A : Type 0) (W : A → List Slot → Type 0) → Goes A W → (n : ℕ) → Goes (List A) (AreTimes A W n)
goes_times A W some zero = goes_known (List A) []
goes_times A W some (suc n) =
    goes_then A (List A) W (λ a. IsThen (List A) (List A) (AreTimes A W n) (λ more. IsNothing (List A) (a ∷ more))) some
    (goes_then (List A) (List A) (AreTimes A W n) (λ more. IsNothing (List A) (some.made ∷ more)) (goes_times A W some n) (goes_known (List A) (some.made ∷ (goes_times A W some n).made)))

pub exact_times : (A : Type 0) (one : List Placed → Answer A) (W : A → List Slot → Type 0) → IsExact A one W → Goes A W → (n : ℕ) → IsExact (List A) (times_at one n) (AreTimes A W n)
exact_times A one W exact some zero = exact_known (List A) []
exact_times A one W exact some (suc n) =
    exact_then A (List A) one W (λ a rest. and_then (times_at one n rest) (λ more after. Ok (a ∷ more, after))) (λ a. IsThen (List A) (List A) (AreTimes A W n) (λ more. IsNothing (List A) (a ∷ more))) exact
    (λ a. exact_then (List A) (List A) (times_at one n) (AreTimes A W n) (λ more. the_known (List A) (a ∷ more)) (λ more. IsNothing (List A) (a ∷ more)) (exact_times A one W exact some n) (λ more. exact_known (List A) (a ∷ more)) (λ more. goes_known (List A) (a ∷ more)))
    (λ a. goes_then (List A) (List A) (AreTimes A W n) (λ more. IsNothing (List A) (a ∷ more)) (goes_times A W some n) (goes_known (List A) (a ∷ (goes_times A W some n).made)))

-- so many written out, one behind another
pub record AreSoMany (A : Type 0) (W : A → List Slot → Type 0) (n : ℕ) (ls : List A) (slots : List Slot) : Type 0 where
  pub size : length ls ≡ n
  pub each : Each A W ls slots

times_to : (A : Type 0) (W : A → List Slot → Type 0) (n : ℕ) (ls : List A) (slots : List Slot) → AreTimes A W n ls slots → AreSoMany A W n ls slots
times_to A W zero ls slots times =
    subst (λ (x : List A). AreSoMany A W zero x slots) (sym times.same) (record { size = refl; each = times.none })
times_to A W (suc n) ls slots times =
    let inner = times.is_rest in
    let many = times_to A W n inner.made inner.first inner.is_first in
    let rest : times.rest ≡ inner.first = inner.is ∙ ap (λ (x : List Slot). inner.first ++ x) inner.is_rest.none ∙ append-nil inner.first in
    let whole : AreSoMany A W (suc n) (times.made ∷ inner.made) slots = record {
      size = ap suc many.size;
      each = record { first = times.first; rest = inner.first; is = times.is ∙ ap (λ (x : List Slot). times.first ++ x) rest; is_first = times.is_first; is_rest = many.each };
    } in
    subst (λ (x : List A). AreSoMany A W (suc n) x slots) (sym inner.is_rest.same) whole

times_from : (A : Type 0) (W : A → List Slot → Type 0) (n : ℕ) (ls : List A) (slots : List Slot) → length ls ≡ n → Each A W ls slots → AreTimes A W n ls slots
times_from A W zero [] slots size each = record { same = refl; none = each }
times_from A W zero (a ∷ ls) slots size each = absurd (omega arith)
times_from A W (suc n) [] slots size each = absurd (omega arith)
times_from A W (suc n) (a ∷ ls) slots size each = record {
  made = a;
  first = each.first;
  rest = each.rest;
  is = each.is;
  is_first = each.is_first;
  is_rest = record { made = ls; first = each.rest; rest = []; is = sym (append-nil each.rest); is_first = times_from A W n ls each.rest (omega arith) each.is_rest; is_rest = record { same = refl; none = refl } };
}

pub exact_many : (A : Type 0) (one : List Placed → Answer A) (W : A → List Slot → Type 0) → IsExact A one W → Goes A W → (n : ℕ) → IsExact (List A) (times_at one n) (AreSoMany A W n)
exact_many A one W exact some n =
    exact_as (List A) (times_at one n) (AreTimes A W n) (AreSoMany A W n) (λ ls s times. times_to A W n ls s times) (λ ls s many. times_from A W n ls s many.size many.each) (exact_times A one W exact some n)

pub goes_many : (A : Type 0) (W : A → List Slot → Type 0) → Goes A W → (n : ℕ) → Goes (List A) (AreSoMany A W n)
goes_many A W some n =
    let goes = goes_times A W some n in
    record { made = goes.made; slots = goes.slots; writes = times_to A W n goes.made goes.slots goes.writes }
