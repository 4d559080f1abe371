-- The lines of the script of work, put together from their parts.
use Rattle.std.proofs.Common.{◌≡◌, ℕ, ◌+◌, ◌≤◌, List, ◌++◌, length, ◌∙◌, ap, subst, arith, length-append}
use Rattle.work_script.proofs.Numbered.{asking_length}
use Rattle.live_run.specs.session_core.declared.line.Line.{Line}
use Rattle.work_script.specs.Script.{each, work_queries}
use Rattle.work_script.specs.Inner.Script.{adding, others, wait_of, waits}
use Rattle.work_script.specs.Inner.Lines.{AreAsking, IsScript}
use Rattle.work_script.proofs.Numbered.{each_length}

module _ (number count : ℕ) (added wait front : List Line) (adds : added ≡ each (adding number) count) (awaits : wait ≡ waits count) (both : front ≡ added ++ wait) where
  pub front_size : length front ≤ count + 3
  front_size =
      let sum : length front ≡ length added + length wait = ap length both ∙ length-append added wait in
      let first : length added ≡ count = ap length adds ∙ each_length (adding number) count in
      let second : length wait ≡ others count = ap length awaits ∙ each_length (wait_of count) (others count) in
      omega (arith, sum, first, second)

  front_is : front ≡ each (adding number) count ++ waits count
  front_is = both ∙ ap (λ (ls : List Line). ls ++ wait) adds ∙ ap (λ (ls : List Line). each (adding number) count ++ ls) awaits

  pub is_script : (asks whole : List Line) (size : ℕ) → size ≡ length front → AreAsking (size + 2) work_queries asks → whole ≡ front ++ asks → IsScript number count whole
  is_script asks whole size is asking all = record {
    asks = asks;
    whole = all ∙ ap (λ (ls : List Line). ls ++ asks) front_is;
    asking = subst (λ (n : ℕ). AreAsking (n + 2) work_queries asks) (is ∙ ap length front_is) asking;
  }

  pub whole_size : (asks whole : List Line) (size : ℕ) → AreAsking (size + 2) work_queries asks → whole ≡ front ++ asks → (3 ≤ length whole) × (length whole ≤ count + 7)
  whole_size asks whole size asking all =
      let low = front_size in
      let sum : length whole ≡ length front + length asks = ap length all ∙ length-append front asks in
      let four : length asks ≡ 4 = asking_length (size + 2) work_queries asks asking in
      (omega (arith, sum, four), omega (arith, low, sum, four))
