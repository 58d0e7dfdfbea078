-- The first two lines are those that the cursor gave.
use Rattle.std.proofs.Common.{◌∷◌, inl, inr, sym, ◌∙◌}
use Rattle.edt_text.specs.LineCursor.{line_text, lines_left}
use Rattle.grid_header.proofs.ShapeLaws.{if_none, shape-no_line, shape-one_line, shape-long, shape-few, shape-whole, two_given, grid_words-first, source_words-second}
use Rattle.grid_header.proofs.words.header_words.Goals as goal

pub returns-in_err-first-clause-none : goal.returns-in_err-first-clause-none
returns-in_err-first-clause-none c =
    if_none _ (shape-no_line c.args.bytes.now (sym c.new-lines.ensures.lines ∙ c.in_err-first.ensures.end.0))

pub returns-in_err-second-clause-none : goal.returns-in_err-second-clause-none
returns-in_err-second-clause-none c =
    if_none _ (shape-one_line c.args.bytes.now (line_text c.in_ok-first.field-0) (rw c.in_err-second.ensures.end.0 at (sym c.new-lines.ensures.lines ∙ c.in_ok-first.ensures.line)))

pub returns-then-first-gt-LONGEST_LINE-clause-none : goal.returns-then-first-gt-LONGEST_LINE-clause-none
returns-then-first-gt-LONGEST_LINE-clause-none c =
    let two = two_given _ _ _ _ _ _ c.new-lines.ensures.lines c.in_ok-first.ensures.line c.in_ok-second.ensures.line in
    shape-long _ _ _ _ two c.then-first-gt-LONGEST_LINE.either

pub returns-then-not-has-clause-none : goal.returns-then-not-has-clause-none
returns-then-not-has-clause-none c =
    let two = two_given _ _ _ _ _ _ c.new-lines.ensures.lines c.in_ok-first.ensures.line c.in_ok-second.ensures.line in
    shape-few _ _ _ _ two (inl (rw (c.new-grid.ensures ∙ c.new.ensures) at (sym c.has.ensures ∙ c.if-not-has.true)))

pub returns-then-not-has-2-clause-none : goal.returns-then-not-has-2-clause-none
returns-then-not-has-2-clause-none c =
    let two = two_given _ _ _ _ _ _ c.new-lines.ensures.lines c.in_ok-first.ensures.line c.in_ok-second.ensures.line in
    shape-few _ _ _ _ two (inr (rw (c.new-source.ensures ∙ c.new-2.ensures) at (sym c.has-2.ensures ∙ c.if-not-has-2.true)))

pub returns-clause-some : goal.returns-clause-some
returns-clause-some c =
    let two = two_given _ _ _ _ _ _ c.new-lines.ensures.lines c.in_ok-first.ensures.line c.in_ok-second.ensures.line in
    let grid = c.new-grid.ensures ∙ c.new.ensures in
    let source = c.new-source.ensures ∙ c.new-2.ensures in
    record {
      shape =
          shape-whole _ _ _ _ two c.if-first-gt-LONGEST_LINE.false c.if-second-gt-LONGEST_LINE.false
          (rw grid at (sym c.has.ensures ∙ c.if-not-has.false)) (rw source at (sym c.has-2.ensures ∙ c.if-not-has-2.false));
      grid = grid ∙ sym (grid_words-first c.args.bytes.now (line_text c.in_ok-first.field-0) (line_text c.in_ok-second.field-0 ∷ lines_left c.next-2.new.self) two);
      source = source ∙ sym (source_words-second c.args.bytes.now (line_text c.in_ok-first.field-0) (line_text c.in_ok-second.field-0) (lines_left c.next-2.new.self) two);
    }
