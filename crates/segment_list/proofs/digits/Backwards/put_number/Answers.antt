use Rattle.std.proofs.Common.{length, decimal, drop, IsAscii, sym, subst, ap, ℕ, List, arith, length-drop}
use Rattle.std.proofs.lemmas.Fmt.{length-decimal-le, IsAscii-decimal}
use Rattle.std.proofs.lemmas.List.{length-append}
use Rattle.std.proofs.lemmas.Str.{IsAscii-append}
use Rattle.segment_list.proofs.digits.Backwards.put_number.Goals as goal

pub write_digits-self-inside-requires : goal.write_digits-self-inside-requires
write_digits-self-inside-requires c =
    let s = c.self.inside in
    let long = length-decimal-le 20 c.args.n (omega arith) (omega arith) (omega arith) in
    let seen = ap (λ (t : List ℕ). length t) c.self.view_is in
    (omega (arith, long, seen, length-drop s.at s.bytes), omega arith)

pub invariant_of-self : goal.invariant_of-self
invariant_of-self c =
    let s = c.self.inside in
    let w = c.write_digits-self-inside in
    record {
      within = omega (arith, w.ensures.start);
      ascii = subst (λ (t : List ℕ). IsAscii t) (sym w.ensures.written)
          (IsAscii-append (decimal c.args.n) (drop s.at s.bytes) (IsAscii-decimal c.args.n (omega arith)) c.self.invariant.ascii);
    }

pub returns-clause-room : goal.returns-clause-room
returns-clause-room c =
    let s = c.self.inside in
    let w = c.write_digits-self-inside in
    let long = length-decimal-le 20 c.args.n (omega arith) (omega arith) (omega arith) in
    let seen = ap (λ (t : List ℕ). length t) c.self.view_is in
    let written = ap (λ (t : List ℕ). length t) w.ensures.written in
    omega (arith, long, seen, written, length-append (decimal c.args.n) (drop s.at s.bytes))
