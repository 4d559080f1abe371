-- The word that a refusal prints for each form that may be wanted, and what a fault prints.
use Rattle.std.specs.Prelude.{ℕ, List, codes}
use Rattle.json_view.specs.declared.wants.Wanted.{Wanted}
use Rattle.json_view.specs.declared.wants.Wanted.TheVariants as wanted

-- the word of a form
abbrev pub word_of : Wanted → List ℕ
word_of wanted.Object = codes "object"
word_of wanted.List = codes "list"
word_of wanted.FilledList = codes "non-empty list"
word_of wanted.Text = codes "text"
word_of wanted.Whole = codes "whole number"
word_of wanted.Name = codes "name"
word_of wanted.Kind = codes "kind"
word_of wanted.Session = codes "session"
