use Rattle.std.proofs.Common.{arith}
use Rattle.std.proofs.lemmas.Slice.Eq.{bytes_eq-Decides}
use Rattle.std.specs.String.{string_bytes}
use Rattle.std.specs.Str.{bytes_eq}
use Rattle.bundle_index.proofs.Numbers.{apart_seen, few_more, label_put, grown_put}
use Rattle.bundle_index.proofs.labels.LabelSet.put.Goals as goal

pub invariant_of-self-2 : goal.invariant_of-self-2
invariant_of-self-2 c = record {
  apart = λ i j l.
      apart_seen string_bytes (λ a b. bytes_eq (string_bytes a) (string_bytes b))
      (λ a b same. (bytes_eq-Decides (string_bytes a) (string_bytes b)).1 same)
      c.insert_full.new.self.keys i j l c.in_ok-place.ensures.unique;
  few = few_more string_bytes c.self.inside.set.keys c.insert_full.new.self.keys c.in_ok-place.field-0-1
      c.in_ok-place.ensures.len (omega arith);
}

pub returns-clause-number : goal.returns-clause-number
returns-clause-number c =
    let stored = c.in_ok-place.ensures.stored in
    label_put string_bytes c.insert_full.new.self.keys c.in_ok-place.place stored.0 c.in_ok-text.text c.args.label.now
    stored.1 stored.2 c.in_ok-text.ensures.ok

pub returns-clause-grown : goal.returns-clause-grown
returns-clause-grown c =
    grown_put string_bytes (λ a b. bytes_eq (string_bytes a) (string_bytes b)) c.self.inside.set.keys
    c.insert_full.new.self.keys c.in_ok-text.text c.args.self.now c.self.view_is c.in_ok-place.ensures.keys
