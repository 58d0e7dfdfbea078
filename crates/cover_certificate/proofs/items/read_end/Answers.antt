use Rattle.edt_text.specs.LineCursor.{line_text}
use Rattle.std.proofs.Common.{◌≡◌, List, true, sym, ◌∙◌, ap, ◌∷◌, []}
use Rattle.std.specs.Prelude.{codes}
use Rattle.text_terms.specs.Lines.{LineText}
use Rattle.cover_certificate.specs.BlockLines.{ended_line}
use Rattle.cover_certificate.specs.Inside.FirstFaults.{is_last}
use Rattle.cover_certificate.specs.LineForms.{LastLine}
use Rattle.cover_certificate.proofs.LineLaws.{last_line, other_line}
use Rattle.cover_certificate.proofs.FirstFaultLaws.{fault_here}
use Rattle.cover_certificate.proofs.items.read_end.Goals as goal

-- lines that begin with the last one
begins : (line : LineText) (lines rest : List LineText) → lines ≡ line ∷ rest → is_last line ≡ true → lines ≡ ended_line (codes "END") ∷ rest
begins line lines rest is last = is ∙ ap (λ l. l ∷ rest) (last_line line last)

pub returns-then-is_last-clause-value : goal.returns-then-is_last-clause-value
returns-then-is_last-clause-value c =
    begins (line_text c.in_ok-line.line) _ _ c.in_ok-line.ensures.value (sym c.is_last.ensures ∙ c.if-is_last.true)

pub returns-clause-fault : goal.returns-clause-fault
returns-clause-fault c =
    fault_here LastLine [] _ _ (line_text c.in_ok-line.line) _ _ _ c.in_ok-line.ensures.value c.in_ok-line.ensures.number
    (other_line (line_text c.in_ok-line.line) (sym c.is_last.ensures ∙ c.if-is_last.false))
