use Rattle.std.proofs.Common.{ℕ, List, false, subst, ◌∙◌}
use Rattle.std.specs.Io.KnownBytes.{Appends}
use Rattle.emu_io.specs.Fronts.{WritesFront}
use Rattle.script_lines.specs.session_core.segment_list.Inner.Pieces.{row_texts}
use Rattle.store_texts.specs.reply_texts.Inner.Rows.{after_rows}
use Rattle.program_output.proofs.RowLemmas.{first_broke, second_broke, third_broke}
use Rattle.program_output.proofs.output.write_around.Goals as goal

pub returns-in_err-write_all-clause-front : goal.returns-in_err-write_all-clause-front
returns-in_err-write_all-clause-front g c =
    first_broke _ _ c.args.before.now (row_texts false c.args.rows.now) after_rows
    (subst (λ (t : List ℕ). WritesFront (g.K.Sink.written c.args.out.now) (g.K.Sink.written c.write_all.new.sink) t)
    c.as_bytes.ensures.value c.in_err-write_all.ensures.front)

pub returns-in_err-write_to-clause-front : goal.returns-in_err-write_to-clause-front
returns-in_err-write_to-clause-front g c =
    second_broke _ (g.K.Sink.written c.write_all.new.sink) _ c.args.before.now (row_texts false c.args.rows.now) after_rows
    (subst (λ (t : List ℕ). Appends (g.K.Sink.written c.args.out.now) (g.K.Sink.written c.write_all.new.sink) t)
    c.as_bytes.ensures.value c.in_ok-write_all.ensures.ok)
    c.in_err-write_to.ensures.front

pub returns-clause-front : goal.returns-clause-front
returns-clause-front g c =
    third_broke _ (g.K.Sink.written c.write_all.new.sink) (g.K.Sink.written c.write_to.new.out) _ c.args.before.now
    (row_texts false c.args.rows.now) after_rows
    (subst (λ (t : List ℕ). Appends (g.K.Sink.written c.args.out.now) (g.K.Sink.written c.write_all.new.sink) t)
    c.as_bytes.ensures.value c.in_ok-write_all.ensures.ok)
    c.in_ok-write_to.ensures.ok
    (subst (λ (t : List ℕ). WritesFront (g.K.Sink.written c.write_to.new.out) (g.K.Sink.written c.write_all-2.new.sink) t)
    (c.as_bytes-2.ensures.value ∙ c.after_rows.ensures) c.write_all-2.ensures.front)
