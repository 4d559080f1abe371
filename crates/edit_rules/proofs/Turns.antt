-- Edits one after another: they keep the rules, and are all or none.
use Rattle.std.proofs.Common.{◌≡◌, ℕ, suc, ◌+◌, List, [], ◌∷◌, ◌++◌, length, Result, Ok, Err, refl, sym, ◌∙◌, ap, subst, arith}
use Rattle.emu_names.specs.declared.rules.Broken.{Broken}
use Rattle.emu_names.specs.Steps.{onward}
use Rattle.bundle_edits.specs.declared.edit.Edit.{Edit}
use Rattle.edit_rules.specs.Database.{DatabaseParts, KeepsDatabaseRules}
use Rattle.edit_rules.specs.Acts.{config_changed}
use Rattle.edit_rules.specs.Effects.{edit_effect as one, at_place, in_turn, fitted_database, effect}
use Rattle.edit_rules.proofs.Fits.{config_valid, config_extends, fitted_keeps}
use Rattle.edit_rules.proofs.Stays.{edits_keep_rules}
use Rattle.edit_rules.specs.declared.acts.Act.{Act}
use Rattle.edit_rules.specs.declared.acts.Act.TheVariants as acts
use Rattle.edit_rules.specs.declared.acts.Breach.{Breach}
use Rattle.edit_rules.specs.Laws.{ActsKeepRules, LeadTo, AreStopped, IsAllOrNothing, AllOrNothing}

abbrev pub told : {A : Type 0} → A → Result A Breach
told x = Ok x

abbrev pub broken_at : {A : Type 0} → ℕ → Broken → Result A Breach
broken_at place rule = Err (record { place = place; rule = rule })

abbrev pub fine : {A : Type 0} → A → Result A Broken
fine x = Ok x

pub told_same : {A : Type 0} (x y : A) → told x ≡ Ok y → x ≡ y
told_same x y e = cc

pub record GoesOn {A B E : Type 0} (r : Result A E) (next : A → Result B E) (value : B) : Type 0 where
  pub middle : A
  pub first : r ≡ Ok middle
  pub second : next middle ≡ Ok value

pub goes_on : {A B E : Type 0} (r : Result A E) (next : A → Result B E) (value : B) → onward r next ≡ Ok value → GoesOn r next value
goes_on (Ok middle) next value is = record { middle = middle; first = refl; second = is }
goes_on (Err rule) next value is = cc

pub at_ok : {A : Type 0} (place : ℕ) (r : Result A Broken) (x : A) → at_place place r ≡ Ok x → r ≡ Ok x
at_ok place (Ok y) x is = ap fine (told_same y x is)
at_ok place (Err rule) x is = cc

-- The rules are kept.

pub turn_keeps : (es : List Edit) (place : ℕ) (d next : DatabaseParts) → KeepsDatabaseRules d → in_turn place d es ≡ Ok next → KeepsDatabaseRules next
turn_keeps [] place d next keeps is = subst KeepsDatabaseRules (told_same d next is) keeps
turn_keeps (e ∷ es) place d next keeps is =
    let on = goes_on (at_place place (one d e)) (λ mid. in_turn (suc place) mid es) next is in
    turn_keeps es (suc place) on.middle next (edits_keep_rules d on.middle e keeps (at_ok place (one d e) on.middle on.first)) on.second

pub acts_keep_rules : ActsKeepRules
acts_keep_rules d next (acts.Edits es) keeps is = turn_keeps es 1 d next keeps is
acts_keep_rules d next (acts.Config edit) keeps is =
    let on = goes_on (at_place 1 (config_changed edit d.config)) (λ config. told (fitted_database d config)) next is in
    let made = at_ok 1 (config_changed edit d.config) on.middle on.first in
    subst KeepsDatabaseRules (told_same (fitted_database d on.middle) next on.second)
    (fitted_keeps d on.middle keeps (config_extends edit d.config on.middle made) (config_valid edit d.config on.middle keeps.config made))

-- All or nothing.

-- edits are stopped, where the first has this place
pub record AreStoppedFrom (from : ℕ) (d : DatabaseParts) (es : List Edit) (breach : Breach) : Type 0 where
  pub before : List Edit
  pub edit : Edit
  pub behind : List Edit
  pub all : es ≡ before ++ edit ∷ behind
  pub place : breach.place ≡ from + length before
  pub state : DatabaseParts
  pub fine_before : LeadTo d before state
  pub breaks : one state edit ≡ Err breach.rule

abbrev IsWalked : ℕ → DatabaseParts → List Edit → Result DatabaseParts Breach → Type 0
IsWalked from d es (Ok next) = LeadTo d es next
IsWalked from d es (Err breach) = AreStoppedFrom from d es breach

stopped_later : (place : ℕ) (d mid : DatabaseParts) (e : Edit) (es : List Edit) (breach : Breach) → one d e ≡ Ok mid → AreStoppedFrom (suc place) mid es breach → AreStoppedFrom place d (e ∷ es) breach
stopped_later place d mid e es breach made rest =
    let later = rest.place in
    record {
      before = e ∷ rest.before;
      edit = rest.edit;
      behind = rest.behind;
      all = ap (λ (xs : List Edit). e ∷ xs) rest.all;
      place = omega (arith, later);
      state = rest.state;
      fine_before = (mid, (made, rest.fine_before));
      breaks = rest.breaks;
    }

walked_later : (place : ℕ) (d mid : DatabaseParts) (e : Edit) (es : List Edit) (r : Result DatabaseParts Breach) → one d e ≡ Ok mid → IsWalked (suc place) mid es r → IsWalked place d (e ∷ es) r
walked_later place d mid e es (Ok next) made rest = (mid, (made, rest))
walked_later place d mid e es (Err breach) made rest = stopped_later place d mid e es breach made rest

stopped_here : (place : ℕ) (d : DatabaseParts) (e : Edit) (es : List Edit) (rule : Broken) → one d e ≡ Err rule → AreStoppedFrom place d (e ∷ es) (record { place = place; rule = rule })
stopped_here place d e es rule broke = record {
  before = [];
  edit = e;
  behind = es;
  all = refl;
  place = omega arith;
  state = d;
  fine_before = refl;
  breaks = broke;
}

walked_on : (place : ℕ) (d : DatabaseParts) (e : Edit) (es : List Edit) → ((mid : DatabaseParts) → IsWalked (suc place) mid es (in_turn (suc place) mid es)) →
    (s : Result DatabaseParts Broken) → one d e ≡ s → IsWalked place d (e ∷ es) (onward (at_place place s) (λ mid. in_turn (suc place) mid es))
walked_on place d e es rest (Ok mid) made = walked_later place d mid e es (in_turn (suc place) mid es) made (rest mid)
walked_on place d e es rest (Err rule) broke = stopped_here place d e es rule broke

walked : (es : List Edit) (place : ℕ) (d : DatabaseParts) → IsWalked place d es (in_turn place d es)
walked [] place d = refl
walked (e ∷ es) place d = walked_on place d e es (λ mid. walked es (suc place) mid) (one d e) refl

from_one : (d : DatabaseParts) (es : List Edit) (r : Result DatabaseParts Breach) → IsWalked 1 d es r → IsAllOrNothing d es r
from_one d es (Ok next) lead = lead
from_one d es (Err breach) stop =
    let place = stop.place in
    record {
      before = stop.before;
      edit = stop.edit;
      behind = stop.behind;
      all = stop.all;
      place = omega (arith, place);
      state = stop.state;
      fine = stop.fine_before;
      breaks = stop.breaks;
    }

pub all_or_nothing : AllOrNothing
all_or_nothing d es = from_one d es (in_turn 1 d es) (walked es 1 d)
