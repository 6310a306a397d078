-- `paint_screen`: a picture that was written, or could not be, or none (`PrintedPictures`).
use Rattle.std.specs.Prelude.{◌≡◌}
use Rattle.curspan.specs.{false, true, Some, ap, inl, inr, refl, subst, sym, ◌∙◌, is_some, World, no_rendition, printed_picture, IsNotWritten, IsWritten}
use Rattle.curspan.proofs.PrintedPictures.{of-some, without}
use Rattle.curspan.proofs.serve.Streams.paint_screen.Goals as goal

pub returns-else-print_desk-clause-painted : goal.returns-else-print_desk-clause-painted
returns-else-print_desk-clause-painted g c =
    let fault : is_some c.run_script-end.result.fault ≡ false = sym c.is_some.ensures ∙ c.if-is_some.false in
    let text = ap (λ (w : World). printed_picture w.virtual.picture (Some w.virtual.cursor) no_rendition) c.take_picture.ensures in
    let not_written = subst (IsNotWritten (g.O.Sink.seen c.args.self.now.out) (g.O.Sink.seen c.print_desk.new.out)) text (rw (c.desk.ensures, c.if-print_desk.false) at c.print_desk.ensures) in
    record {
      last = c.run_script-end.new.screen;
      end = c.run_script-end.result;
      log_after = g.L.Sink.seen c.run_script-end.new.log;
      runs = c.run_script-end.ensures.ran;
      prints = without _ _ fault (inr (c.complain.ensures.status, not_written, c.complain.ensures.logs));
    }

pub returns-then-print_desk-clause-painted : goal.returns-then-print_desk-clause-painted
returns-then-print_desk-clause-painted g c =
    let fault : is_some c.run_script-end.result.fault ≡ false = sym c.is_some.ensures ∙ c.if-is_some.false in
    let text = ap (λ (w : World). printed_picture w.virtual.picture (Some w.virtual.cursor) no_rendition) c.take_picture.ensures in
    let written = subst (IsWritten (g.O.Sink.seen c.args.self.now.out) (g.O.Sink.seen c.print_desk.new.out)) text (rw (c.desk.ensures, c.if-print_desk.true) at c.print_desk.ensures) in
    record {
      last = c.run_script-end.new.screen;
      end = c.run_script-end.result;
      log_after = g.L.Sink.seen c.run_script-end.new.log;
      runs = c.run_script-end.ensures.ran;
      prints = without _ _ fault (inl (c.status_of-then-print_desk.ensures.status, written, refl));
    }

pub returns-then-is_some-clause-painted : goal.returns-then-is_some-clause-painted
returns-then-is_some-clause-painted g c =
    let fault : is_some c.run_script-end.result.fault ≡ true = sym c.is_some.ensures ∙ c.if-is_some.true in
    record {
      last = c.run_script-end.new.screen;
      end = c.run_script-end.result;
      log_after = g.L.Sink.seen c.run_script-end.new.log;
      runs = c.run_script-end.ensures.ran;
      prints = of-some _ _ _ fault (λ _. (c.status_of.ensures.status, refl, refl));
    }
