-- The lines of the script of work come in order.
use Rattle.std.proofs.Common.{◌≡◌, inl, inr, ℕ, zero, suc, ◌+◌, ◌-◌, ◌%◌, ◌<◌, ◌≤◌, Bool, true, false, ◌||◌, List, [], ◌∷◌, ◌++◌, length, refl, sym, ◌∙◌, ap, subst, arith, nat_eq, eq-eqb, append_assoc, append-nil, length-append}
use Rattle.std.specs.List.{list_any}
use Rattle.std.proofs.Math.Nat.{mul-div-le, mod-lt}
use Rattle.live_run.specs.session_core.declared.line.Line.{Line}
use Rattle.live_run.specs.session_core.InOrder.{ComeInOrder, ComesNext, IsBelow, NamesEarlier}
use Rattle.live_run.specs.session_core.Worlds.{Each, NamesChange}
use Rattle.work_script.specs.Script.{each, work_queries}
use Rattle.work_script.specs.Inner.Script.{adding, last_of, others, wait_of, waits}
use Rattle.work_script.specs.Inner.Lines.{AreAsking, IsScript}
use Rattle.work_script.specs.Inner.Replies.{Has}
use Rattle.work_script.proofs.Lists.{each_has}
use Rattle.work_script.proofs.Numbered.{each_length}

-- Lists of lines behind one another.

come_both : (before xs ys : List Line) → ComeInOrder before xs → ComeInOrder (before ++ xs) ys → ComeInOrder before (xs ++ ys)
come_both before [] ys come rest = subst (λ (b : List Line). ComeInOrder b ys) (append-nil before) rest
come_both before (x ∷ xs) ys come rest =
    (come.0, come_both (before ++ x ∷ []) xs ys come.1 (subst (λ (b : List Line). ComeInOrder b ys) (sym (append_assoc before (x ∷ []) xs)) rest))

each_both : {A : Type 0} (P : A → Type 0) (xs ys : List A) → Each P xs → Each P ys → Each P (xs ++ ys)
each_both P [] ys first second = second
each_both P (x ∷ xs) ys first second = (first.0, each_both P xs ys first.1 second)

each_each : {A : Type 0} (P : A → Type 0) (f : ℕ → A) (count : ℕ) → ((k : ℕ) → k < count → P (f k)) → Each P (each f count)
each_each P f zero all = tt
each_each P f (suc count) all =
    each_both P (each f count) (f count ∷ []) (each_each P f count (λ k low. all k (omega (arith, low)))) (all count (omega arith), tt)

below_more : (low high : ℕ) (xs : List Line) → low ≤ high → Each (IsBelow low) xs → Each (IsBelow high) xs
below_more low high [] more all = tt
below_more low high (x ∷ xs) more all =
    let first = all.0 in
    (omega (arith, more, first), below_more low high xs more all.1)

any_has : {A : Type 0} (p : A → Bool) (xs : List A) (x : A) → Has xs x → p x ≡ true → list_any p xs ≡ true
any_has p [] x has pass = absurd has
any_has p (y ∷ ys) x (inl same) pass = ap (λ (t : Bool). t || list_any p ys) (ap p same ∙ pass)
any_has {A = A} p (y ∷ ys) x (inr more) pass = by (p y) (any_has p ys x more pass)
  where
    by : (t : Bool) → list_any p ys ≡ true → (t || list_any p ys) ≡ true
    by true rest = refl
    by false rest = rest

-- Additions.

added_below : (number count : ℕ) → Each (IsBelow (count + 2)) (each (adding number) count)
added_below number count = each_each (IsBelow (count + 2)) (adding number) count (λ k low. omega (arith, low))

added_come : (number count : ℕ) → ComeInOrder [] (each (adding number) count)
added_come number zero = tt
added_come number (suc count) =
    let bound : count % 4 < 4 = mod-lt count (omega arith) in
    let next : ComesNext (each (adding number) count) (adding number count) = record {
      rises = added_below number count;
      place = omega (arith, bound);
      command = refl;
      earlier = tt;
      names = tt;
    } in
    come_both [] (each (adding number) count) (adding number count ∷ []) (added_come number count) (next, tt)

-- Waits.

-- a line of this number stands before
abbrev Names : List Line → ℕ → Type 0
Names before earlier = list_any (λ (l : Line). nat_eq l.line earlier) before ≡ true

last_low : (count session : ℕ) → 1 ≤ session → session ≤ count → last_of count session < count
last_low count session some adds =
    let whole = mul-div-le (count - session) 4 in
    omega (arith, some, adds, whole)

awaited_named : (number count session : ℕ) → 1 ≤ session → session ≤ count → Names (each (adding number) count) (last_of count session + 2)
awaited_named number count session some adds =
    let k : ℕ = last_of count session in
    let low = last_low count session some adds in
    any_has (λ (l : Line). nat_eq l.line (k + 2)) (each (adding number) count) (adding number k) (each_has (adding number) count k low) (eq-eqb (k + 2) (k + 2) refl)

any_left : {A : Type 0} (p : A → Bool) (xs ys : List A) → list_any p xs ≡ true → list_any p (xs ++ ys) ≡ true
any_left p [] ys is = absurd cc
any_left {A = A} p (x ∷ xs) ys is = by (p x) is (λ rest. any_left p xs ys rest)
  where
    by : (t : Bool) → (t || list_any p xs) ≡ true → (list_any p xs ≡ true → list_any p (xs ++ ys) ≡ true) → (t || list_any p (xs ++ ys)) ≡ true
    by true first more = refl
    by false first more = more first

waits_come : (number count n : ℕ) → n ≤ others count → ComeInOrder (each (adding number) count) (each (wait_of count) n)
waits_come number count zero few = tt
waits_come number count (suc n) few =
    let added : List Line = each (adding number) count in
    let earlier : ℕ = last_of count (n + 2) + 2 in
    let next : ComesNext (added ++ each (wait_of count) n) (wait_of count n) = record {
      rises = each_both (IsBelow (count + 2 + n)) added (each (wait_of count) n)
          (below_more (count + 2) (count + 2 + n) added (omega arith) (added_below number count))
          (each_each (IsBelow (count + 2 + n)) (wait_of count) n (λ i low. omega (arith, low)));
      place = omega arith;
      command = refl;
      earlier = any_left (λ (l : Line). nat_eq l.line earlier) added (each (wait_of count) n)
          (awaited_named number count (n + 2) (omega arith) (omega (arith, few)));
      names = tt;
    } in
    come_both added (each (wait_of count) n) (wait_of count n ∷ []) (waits_come number count n (omega (arith, few))) (next, tt)

waits_below : (count : ℕ) → Each (IsBelow (count + 2 + others count)) (waits count)
waits_below count = each_each (IsBelow (count + 2 + others count)) (wait_of count) (others count) (λ i low. omega (arith, low))

-- Queries.

asks_come : (before : List Line) (line : ℕ) (texts : List (List ℕ)) (ls : List Line) → Each (IsBelow line) before → AreAsking line texts ls → ComeInOrder before ls
asks_come before line [] [] below asking = tt
asks_come before line [] (l ∷ ls) below asking = absurd asking
asks_come before line (text ∷ texts) [] below asking = absurd asking
asks_come before line (text ∷ texts) (l ∷ ls) below asking =
    let own = asking.0.number in
    let session = asking.0.session in
    let next : ComesNext before l = record {
      rises = subst (λ (n : ℕ). Each (IsBelow n) before) (sym own) below;
      place = omega (arith, session);
      command = rw (asking.0.command, asking.0.request) refl;
      earlier = subst (NamesEarlier before) (sym asking.0.request) tt;
      names = subst (NamesChange before l.session.0) (sym asking.0.request) tt;
    } in (
      next,
      asks_come (before ++ l ∷ []) (suc line) texts ls
          (each_both (IsBelow (suc line)) before (l ∷ []) (below_more line (suc line) before (omega arith) below) (omega (arith, own), tt)) asking.1,
    )

-- the lines of the script come in order
pub script_comes : (number count : ℕ) (lines : List Line) → IsScript number count lines → ComeInOrder [] lines
script_comes number count lines script =
    let added : List Line = each (adding number) count in
    let wait : List Line = waits count in
    let first : ComeInOrder [] (added ++ wait) =
    come_both [] added wait (added_come number count) (waits_come number count (others count) (omega arith)) in
    let size = each_length (adding number) count in
    let rest = each_length (wait_of count) (others count) in
    let sum = length-append added wait in
    let below : Each (IsBelow (length (added ++ wait) + 2)) (added ++ wait) =
    each_both (IsBelow (length (added ++ wait) + 2)) added wait
    (below_more (count + 2) (length (added ++ wait) + 2) added (omega (arith, sum, size)) (added_below number count))
    (below_more (count + 2 + others count) (length (added ++ wait) + 2) wait (omega (arith, sum, size, rest)) (waits_below count)) in
    subst (ComeInOrder []) (sym script.whole)
    (come_both [] (added ++ wait) script.asks first (asks_come (added ++ wait) (length (added ++ wait) + 2) work_queries script.asks below script.asking))
