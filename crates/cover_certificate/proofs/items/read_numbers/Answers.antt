use Rattle.std.proofs.Common.{◌≡◌, ℕ, List, ◌∷◌, true, None, ap, sym, ◌∙◌}
use Rattle.text_terms.specs.Lines.{LineText}
use Rattle.edt_text.specs.LineCursor.{line_text}
use Rattle.cover_certificate.specs.declared.line_form.LineForm.{LineForm}
use Rattle.cover_certificate.specs.LineForms.{Numbered, are_allowed, slots_of}
use Rattle.cover_certificate.specs.LineFaults.{line_fault, numbers_in}
use Rattle.cover_certificate.specs.BlockLines.{numbers_line}
use Rattle.cover_certificate.proofs.LineLaws.{line_once}
use Rattle.cover_certificate.proofs.items.read_numbers.Goals as goal

-- a line without a fault is that of its numbers
spelled : (form : LineForm) (line : LineText) (lines rest : List LineText) (numbers : List ℕ) → line_fault (Numbered form) line ≡ None
    → numbers ≡ numbers_in form line.bytes → lines ≡ line ∷ rest → lines ≡ numbers_line form numbers ∷ rest
spelled form line lines rest numbers fine are is = is ∙ ap (λ l. l ∷ rest) ((line_once form line fine).0 ∙ ap (numbers_line form) (sym are))

allowed_numbers : (form : LineForm) (line : LineText) (numbers : List ℕ) → line_fault (Numbered form) line ≡ None
    → numbers ≡ numbers_in form line.bytes → are_allowed (slots_of form) numbers ≡ true
allowed_numbers form line numbers fine are = rw are ((line_once form line fine).1)

pub returns-in-Ok-clause-value : goal.returns-in-Ok-clause-value
returns-in-Ok-clause-value c =
    spelled c.args.form (line_text c.in_ok-line.line) _ _ c.in-Ok.numbers c.in-Ok.ensures.good c.in-Ok.ensures.value
    c.in_ok-line.ensures.value

pub returns-in-Ok-clause-typed : goal.returns-in-Ok-clause-typed
returns-in-Ok-clause-typed c =
    allowed_numbers c.args.form (line_text c.in_ok-line.line) c.in-Ok.numbers c.in-Ok.ensures.good c.in-Ok.ensures.value
