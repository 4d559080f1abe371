use Rattle.std.proofs.Common.{◌≡◌, ◌∙◌, ◌∷◌, IsTrue, ap, sym, subst}
use Rattle.std.proofs.lemmas.Result.{IfOk-weaker, IfErr-weaker}
use Rattle.db_config.specs.declared.parts.ConfigParts.{ConfigParts}
use Rattle.db_config.specs.Valid.{is_valid}
use Rattle.live_book.specs.edit_code.Codes.{IsHeadCode}
use Rattle.edit_journal.specs.Held.{texts_of}
use Rattle.version_tree.specs.Version.{VersionParts}
use Rattle.version_tree.specs.Inner.Version.{first_version}
use Rattle.live_book.specs.Histories.{IsNoHead}
use Rattle.book_opening.specs.Inner.Opens.{IsReplay, IsWrong, IsWrongIn}
use Rattle.book_opening.specs.Inner.Prepared.{IsHistoryOf, IsWrongTail}
use Rattle.book_opening.proofs.HeadCodes.{valid_of}
use Rattle.book_opening.proofs.Readings.{still_wrong, wrong_head, wrong_in, wrong_weaker}
use Rattle.book_opening.proofs.replay.replay_behind.Goals as goal

pub returns-in_err-config-clause-err : goal.returns-in_err-config-clause-err
returns-in_err-config-clause-err c =
    let head = c.args.head.now in
    still_wrong c.from_residual.result c.in_err-config.field-0.0 (λ at. (at ≡ head.at) × IsNoHead head.bytes) (IsWrongIn (head ∷ c.args.rest.now))
    c.from_residual.ensures.1 (λ at is. wrong_head head c.args.rest.now at is.0 is.1) c.in_err-config.ensures.err

pub add_all-requires-clause-first : goal.add_all-requires-clause-first
add_all-requires-clause-first c =
    let own : c.in_ok-opening.opening ≡ c.in_ok-config.config = c.in_ok-opening.ensures ∙ ap (λ (v : VersionParts). v.config) c.in_ok-version.ensures.version in
    c.in_ok-version.ensures.version ∙ ap first_version (sym own)

pub add_all-requires-clause-valid : goal.add_all-requires-clause-valid
add_all-requires-clause-valid c =
    let own : c.in_ok-opening.opening ≡ c.in_ok-config.config = c.in_ok-opening.ensures ∙ ap (λ (v : VersionParts). v.config) c.in_ok-version.ensures.version in
    subst (λ (p : ConfigParts). IsTrue (is_valid p)) (sym own) (valid_of c.args.head.now.bytes c.in_ok-config.config c.in_ok-config.ensures.ok)

pub returns-clause-ok : goal.returns-clause-ok
returns-clause-ok c =
    let own : c.in_ok-opening.opening ≡ c.in_ok-config.config = c.in_ok-opening.ensures ∙ ap (λ (v : VersionParts). v.config) c.in_ok-version.ensures.version in
    let code = subst (IsHeadCode c.args.head.now.bytes) (sym own) c.in_ok-config.ensures.ok in
    IfOk-weaker c.add_all.result (IsReplay c.in_ok-opening.opening (texts_of c.args.rest.now)) (IsHistoryOf (c.args.head.now.bytes ∷ texts_of c.args.rest.now))
    (λ r is. (c.in_ok-opening.opening, code, is)) c.add_all.ensures.ok

pub returns-clause-err : goal.returns-clause-err
returns-clause-err c =
    let own : c.in_ok-opening.opening ≡ c.in_ok-config.config = c.in_ok-opening.ensures ∙ ap (λ (v : VersionParts). v.config) c.in_ok-version.ensures.version in
    let code = subst (IsHeadCode c.args.head.now.bytes) (sym own) c.in_ok-config.ensures.ok in
    let P = IsWrongTail c.in_ok-opening.opening c.args.rest.now in
    let Q = IsWrongIn (c.args.head.now ∷ c.args.rest.now) in
    IfErr-weaker c.add_all.result (IsWrong P) (IsWrong Q)
    (λ fault is. wrong_weaker P Q (λ at w. wrong_in c.in_ok-opening.opening c.args.head.now c.args.rest.now at code w) fault is) c.add_all.ensures.err
