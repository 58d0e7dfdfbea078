use Rattle.std.proofs.Common.{◌≡◌, true, false, Option, Some, None, refl, sym}
use Rattle.std.specs.Prelude.{IfNone, IfSome}
use Rattle.text_terms.specs.Lines.{LineText}
use Rattle.edt_text.specs.LineCursor.{line_text}
use Rattle.cover_certificate.specs.declared.block.BlockCause.TheVariants.{Form}
use Rattle.cover_certificate.specs.declared.kind.Kind.{Kind}
use Rattle.cover_certificate.specs.Kinds.{first_bytes, kind_of}
use Rattle.cover_certificate.specs.LineForms.{FirstLine}
use Rattle.cover_certificate.specs.LineFaults.{line_fault}
use Rattle.cover_certificate.specs.BlockLines.{ended_line}
use Rattle.cover_certificate.proofs.LineLaws.{kind_of-Some}
use Rattle.cover_certificate.proofs.items.line_kind.Goals as goal

-- a line of no kind
no_kind : (line : LineText) (found : Option Kind) → line.ended ≡ true → found ≡ kind_of line.bytes
    → IfNone found (line_fault FirstLine line ≡ Some Form)
unfolding line_fault
no_kind line None ended is = rw (ended, ← is) refl
no_kind line (Some kind) ended is = tt

-- a line of a kind
some_kind : (line : LineText) (found : Option Kind) → line.ended ≡ true → found ≡ kind_of line.bytes
    → IfSome found (λ kind. line ≡ ended_line (first_bytes kind))
some_kind line None ended is = tt
some_kind line (Some kind) ended is = rw (kind_of-Some line.bytes kind (sym is), ← ended) refl

open_line : (line : LineText) → line.ended ≡ false → line_fault FirstLine line ≡ Some Form
unfolding line_fault
open_line line h = rw h refl

pub returns-then-line-clause-none : goal.returns-then-line-clause-none
returns-then-line-clause-none c = no_kind (line_text c.args.line.now) c.of_line.result c.if-line.true c.of_line.ensures

pub returns-then-line-clause-some : goal.returns-then-line-clause-some
returns-then-line-clause-some c = some_kind (line_text c.args.line.now) c.of_line.result c.if-line.true c.of_line.ensures

pub returns-else-line-clause-none : goal.returns-else-line-clause-none
returns-else-line-clause-none c = open_line (line_text c.args.line.now) c.if-line.false
