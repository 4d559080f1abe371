-- What is looked up in the replies to the script of work.
use Rattle.std.specs.Prelude.{◌≡◌, ◌⊎◌, ℕ, ◌-◌, Bool, true, false, List, [], ◌∷◌, length, Some}
use Rattle.std.specs.List.{list_all}
use Rattle.db_config.specs.declared.parts.ConfigParts.{ConfigParts}
use Rattle.edit_rules.specs.declared.acts.Entry.{Entry}
use Rattle.bundle_edits.specs.declared.bundle_change.Counts.{Counts}
use Rattle.edit_rules.specs.Database.{counts_of}
use Rattle.edit_rules.specs.Effects.{database_after}
use Rattle.requery.specs.eql_rows.declared.row.Row.{Row}
use Rattle.live_run.specs.session_core.declared.line.Answer.{Answer}
use Rattle.live_run.specs.session_core.declared.line.Answer.TheVariants.{Done, Segments, Refused}
use Rattle.live_run.specs.session_core.declared.line.Reply.{Reply}
use Rattle.work_script.specs.declared.summary.Summary.{Summary}

-- an element of a list
abbrev pub Has : {A : Type 0} → List A → A → Type 0
Has [] x = ⊥
Has (y ∷ ys) x = (y ≡ x) ⊎ Has ys x

-- the answer is no refusal
abbrev pub is_taken : Answer → Bool
is_taken (Refused refusal) = false
is_taken (Done command) = true
is_taken (Segments rows) = true

-- a reply is to this line, over the state after so many edits, and has so many rows
pub record GivesRows (reply : Reply) (line edits count : ℕ) : Type 0 where
  pub own : reply.line ≡ line
  pub number : reply.n ≡ Some edits
  pub rows : List Row
  pub answer : reply.answer ≡ Segments rows
  pub counted : count ≡ length rows

-- so is one of the replies
pub record HasRows (replies : List Reply) (line edits count : ℕ) : Type 0 where
  pub reply : Reply
  pub there : Has replies reply
  pub gives : GivesRows reply line edits count

-- no line was refused, and a summary has these counts, and the rows of the last four lines up to this one, which were
-- answered over the state after so many edits
pub record HasAllRows (counts : Counts) (replies : List Reply) (last edits : ℕ) (s : Summary) : Type 0 where
  pub taken : list_all (λ r. is_taken r.answer) replies ≡ true
  pub bundles : s.bundles ≡ counts.bundles
  pub items : s.items ≡ counts.items
  pub first : HasRows replies (last - 3) edits s.first
  pub second : HasRows replies (last - 2) edits s.second
  pub third : HasRows replies (last - 1) edits s.third
  pub fourth : HasRows replies last edits s.fourth

-- the summary is so of the state after all entries
abbrev pub IsSummedUp : ConfigParts → List Entry → List Reply → ℕ → Summary → Type 0
IsSummedUp config history replies last s =
    HasAllRows (counts_of (database_after config history).bundles) replies last (length history) s
