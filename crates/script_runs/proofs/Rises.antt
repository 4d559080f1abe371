-- The numbers of the requests so far are at most the number of the lines so far.
use Rattle.std.proofs.Common.{◌≡◌, ℕ, ◌+◌, ◌<◌, ◌≤◌, List, [], ◌∷◌, ◌++◌, All, arith, subst, sym}
use Rattle.std.proofs.lemmas.List.Elements.{All-weaker, All-push}
use Rattle.script_lines.specs.declared.line_set.EarlierLine.{EarlierLine}

-- the number of a line is at most this one
abbrev IsUpTo : ℕ → EarlierLine → Type 0
IsUpTo n it = it.line ≤ n

-- the number of a line is below this one
abbrev IsUnder : ℕ → EarlierLine → Type 0
IsUnder n it = it.line < n

pub below_next : (n line : ℕ) (earlier : List EarlierLine) → line ≡ n + 1 → All (λ it. it.line ≤ n) earlier → All (λ it. it.line < line) earlier
below_next n line earlier same low = All-weaker (IsUpTo n) (IsUnder line) (λ it h. omega arith) earlier low

pub rises_blank : (n m : ℕ) (earlier : List EarlierLine) → m ≡ n + 1 → All (λ it. it.line ≤ n) earlier → All (λ it. it.line ≤ m) earlier
rises_blank n m earlier same low = All-weaker (IsUpTo n) (IsUpTo m) (λ it h. omega arith) earlier low

pub rises_request : (n m : ℕ) (line : EarlierLine) (earlier new : List EarlierLine) → new ≡ earlier ++ line ∷ [] → m ≡ n + 1 → line.line ≡ n + 1 →
    All (λ it. it.line ≤ n) earlier → All (λ it. it.line ≤ m) new
rises_request n m line earlier new pushed same here low =
    subst (λ xs. All (IsUpTo m) xs) (sym pushed) (All-push (IsUpTo m) earlier line (rises_blank n m earlier same low) (omega arith))
