use Rattle.std.proofs.Common.{◌≡◌, ◌/◌, ◌∙◌, ap, set, length, List, ℕ, sym, subst}
use Rattle.std.proofs.lemmas.List.{length-set}
use Rattle.lane_bits.specs.Inner.Words.{Hold}
use Rattle.lane_bits.proofs.Rows.{seen_held, set_held, written_held, written_is}
use Rattle.lane_bits.proofs.row.BitRow.set.Goals as goal

abbrev written : (c : goal.After-self-1) → List ℕ
written c = set c.as_mut_slice-words.result.now (c.args.at / 64) c.with_bit.result

held : (c : goal.After-self-1) → Hold (written c) (set c.args.self.now c.args.at c.args.bit)
held c =
    let row = seen_held c.self.inside.words.items c.self.inside.len c.args.self.now c.self.invariant c.self.view_is in
    let before : Hold c.as_mut_slice-words.result.now c.args.self.now =
    subst (λ (ws : List ℕ). Hold ws c.args.self.now) (sym c.as_mut_slice-words.ensures.value) row.0 in
    set_held c.as_mut_slice-words.result.now c.args.self.now c.args.at c.with_bit.result c.args.bit before c.requires
    c.with_bit.ensures.here c.with_bit.ensures.others

long : (c : goal.After-self-1) → length (set c.args.self.now c.args.at c.args.bit) ≡ c.self.inside.len
long c =
    length-set c.args.self.now c.args.at c.args.bit
    ∙ (seen_held c.self.inside.words.items c.self.inside.len c.args.self.now c.self.invariant c.self.view_is).1

all : (c : goal.After-self-1) → length (written c) ≡ length c.self.inside.words.items
all c =
    length-set c.as_mut_slice-words.result.now (c.args.at / 64) c.with_bit.result
    ∙ ap length c.as_mut_slice-words.ensures.value

pub invariant_of-self : goal.invariant_of-self
invariant_of-self c =
    written_held c.self.inside.len (length c.self.inside.words.items) (written c) c.self.inside.words.items _ (all c) (held c) (long c)

pub returns : goal.returns
returns c =
    written_is c.self.inside.len (length c.self.inside.words.items) (written c) c.self.inside.words.items _ (all c) (held c) (long c)
