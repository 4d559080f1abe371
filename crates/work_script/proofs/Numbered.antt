-- Which line of the script of work has a number.
use Rattle.std.proofs.Common.{◌≡◌, ◌⊎◌, inl, inr, ℕ, zero, suc, ◌+◌, ◌<◌, ◌≤◌, List, [], ◌∷◌, ◌++◌, length, slice_get, Some, refl, sym, ◌∙◌, ap, subst, arith, length-append}
use Rattle.live_run.specs.session_core.declared.line.Line.{Line}
use Rattle.work_script.specs.Script.{each, work_queries}
use Rattle.work_script.specs.Inner.Script.{adding, others, wait_of, waits}
use Rattle.work_script.specs.Inner.Lines.{AreAsking, IsAsking, IsScript}
use Rattle.work_script.specs.Inner.Replies.{Has}
use Rattle.work_script.proofs.Lists.{IsEach, has_each, has_either}

pub each_length : {A : Type 0} (f : ℕ → A) (count : ℕ) → length (each f count) ≡ count
each_length f zero = refl
each_length f (suc count) =
    let rest = each_length f count in
    let sum = length-append (each f count) (f count ∷ []) in
    omega (arith, rest, sum)

pub asking_length : (line : ℕ) (texts : List (List ℕ)) (ls : List Line) → AreAsking line texts ls → length ls ≡ length texts
asking_length line [] [] asking = refl
asking_length line [] (l ∷ ls) asking = absurd asking
asking_length line (text ∷ texts) [] asking = absurd asking
asking_length line (text ∷ texts) (l ∷ ls) asking = ap suc (asking_length (suc line) texts ls asking.1)

wait_low : (count : ℕ) (l : Line) → Has (waits count) l → l.line < count + 2 + length (waits count)
wait_low count l has =
    let from : IsEach (wait_of count) (others count) l = has_each (wait_of count) (others count) l has in
    let own : count + 2 + from.at ≡ l.line = ap (λ (k : Line). k.line) from.value in
    let low = from.low in
    let size = each_length (wait_of count) (others count) in
    omega (arith, own, low, size)

ask_low : (line : ℕ) (texts : List (List ℕ)) (ls : List Line) (l : Line) → AreAsking line texts ls → Has ls l → line ≤ l.line
ask_low line [] [] l asking has = absurd has
ask_low line [] (k ∷ ks) l asking has = absurd asking
ask_low line (text ∷ texts) [] l asking has = absurd has
ask_low line (text ∷ texts) (k ∷ ks) l asking (inl same) =
    let own : l.line ≡ line = ap (λ (x : Line). x.line) (sym same) ∙ asking.0.number in
    omega (arith, own)
ask_low line (text ∷ texts) (k ∷ ks) l asking (inr more) =
    let rest = ask_low (suc line) texts ks l asking.1 more in
    omega (arith, rest)

some_text : (x y : List ℕ) → Some x ≡ Some y → x ≡ y
some_text x y same = cc

ask_at : (line : ℕ) (texts : List (List ℕ)) (ls : List Line) (l : Line) (i : ℕ) (text : List ℕ) → AreAsking line texts ls → Has ls l → l.line ≡ line + i → slice_get texts i ≡ Some text → IsAsking (line + i) text l
ask_at line [] [] l i text asking has own there = absurd has
ask_at line [] (k ∷ ks) l i text asking has own there = absurd asking
ask_at line (first ∷ texts) [] l i text asking has own there = absurd has
ask_at line (first ∷ texts) (k ∷ ks) l zero text asking (inl same) own there =
    let place : line ≡ line + 0 = omega arith in
    subst (λ (n : ℕ). IsAsking n text l) place
    (subst (λ (t : List ℕ). IsAsking line t l) (some_text first text there) (subst (IsAsking line first) same asking.0))
ask_at line (first ∷ texts) (k ∷ ks) l (suc i) text asking (inl same) own there =
    let number : l.line ≡ line = ap (λ (x : Line). x.line) (sym same) ∙ asking.0.number in
    absurd (omega (arith, own, number))
ask_at line (first ∷ texts) (k ∷ ks) l zero text asking (inr more) own there =
    let low = ask_low (suc line) texts ks l asking.1 more in
    absurd (omega (arith, own, low))
ask_at line (first ∷ texts) (k ∷ ks) l (suc i) text asking (inr more) own there =
    let place : suc line + i ≡ line + suc i = omega arith in
    subst (λ (n : ℕ). IsAsking n text l) place (ask_at (suc line) texts ks l i text asking.1 more (own ∙ sym place) there)

module _ (number count : ℕ) (lines : List Line) (script : IsScript number count lines) where
  abbrev pub added : List Line
  added = each (adding number) count

  abbrev pub front : List Line
  front = added ++ waits count

  front_length : length front ≡ count + length (waits count)
  front_length = length-append added (waits count) ∙ ap (λ n. n + length (waits count)) (each_length (adding number) count)

  front_low : (l : Line) → Has added l ⊎ Has (waits count) l → l.line < length front + 2
  front_low l (inl add) =
      let from : IsEach (adding number) count l = has_each (adding number) count l add in
      let own : from.at + 2 ≡ l.line = ap (λ (k : Line). k.line) from.value in
      let low = from.low in
      let size = front_length in
      omega (arith, own, low, size)
  front_low l (inr wait) =
      let low = wait_low count l wait in
      let size = front_length in
      omega (arith, low, size)

  -- the line of this number asks the query of this place
  pub asks_at : (l : Line) (i : ℕ) (text : List ℕ) → Has lines l → l.line ≡ length front + 2 + i → slice_get work_queries i ≡ Some text → IsAsking (length front + 2 + i) text l
  asks_at l i text has own there = by (has_either front script.asks l (subst (λ (ls : List Line). Has ls l) script.whole has))
    where
      by : Has front l ⊎ Has script.asks l → IsAsking (length front + 2 + i) text l
      by (inl before) =
          let low = front_low l (has_either added (waits count) l before) in
          absurd (omega (arith, own, low))
      by (inr ask) = ask_at (length front + 2) work_queries script.asks l i text script.asking ask own there
