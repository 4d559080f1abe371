use Rattle.std.proofs.Common.{◌≡◌, Ok, sym, ◌∙◌, ap, subst, arith}
use Rattle.version_tree.specs.edit_rules.Effects.{effect}
use Rattle.version_tree.specs.Version.{VersionParts, state_of}
use Rattle.live_book.specs.Commits.{HasRoom}
use Rattle.live_book.specs.Histories.{IsNoNext}
use Rattle.live_book.proofs.States.{state_keeps}
use Rattle.book_opening.specs.Inner.Prepared.{BreaksRule}
use Rattle.book_opening.proofs.Readings.{replay_next, broken_next, wrong_weaker}
use Rattle.book_opening.proofs.replay.add.Goals as goal

pub version_behind-requires : goal.version_behind-requires
version_behind-requires c =
    let config = c.requires.0 in
    let is = c.requires.2 in
    state_keeps config c.args.replayed.now.entries c.args.replayed.now.version is.valid is.state

pub returns-in_ok-put-in-Ok-clause-ok : goal.returns-in_ok-put-in-Ok-clause-ok
returns-in_ok-put-in-Ok-clause-ok c = λ config texts is.
    let old = c.args.replayed.now in
    let new = c.put.new.replayed in
    let room : HasRoom old.entries = omega (arith, c.if-len-ge-HISTORY_EDITS.false, c.len.ensures) in
    let own : new.version ≡ c.in-Ok.version = c.in_ok-put-in-Ok.ensures.version in
    replay_next config texts old is c.args.body.now.bytes c.in_ok-entry.entry new room c.in_ok-entry.ensures.ok c.in_ok-put-in-Ok.ensures.entries
    c.in_ok-put-in-Ok.ensures.opening (ap (λ (v : VersionParts). v.number) own ∙ c.in-Ok.ensures.number)
    (subst (λ (v : VersionParts). effect (state_of old.version) c.in_ok-entry.entry.act ≡ Ok (state_of v)) (sym own) c.in-Ok.ensures.state)

pub returns-in-Err-clause-err : goal.returns-in-Err-clause-err
returns-in-Err-clause-err c = λ config texts is.
    wrong_weaker (λ at. (at ≡ c.args.body.now.at) × BreaksRule c.args.replayed.now.version c.in_ok-entry.entry.act)
    (λ at. (at ≡ c.args.body.now.at) × IsNoNext config c.args.replayed.now.entries c.args.body.now.bytes)
    (broken_next config texts c.args.replayed.now is c.args.body.now c.in_ok-entry.entry c.in_ok-entry.ensures.ok) c.in-Err.fault c.in-Err.ensures.err
