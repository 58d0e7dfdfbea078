use Rattle.std.proofs.Common.{◌≡◌, ℕ, List, [], ◌∷◌, ◌++◌, ◌∙◌, append_assoc, append-nil}
use Rattle.cover_certificate.specs.declared.line_form.LineForm.{LineForm}
use Rattle.cover_certificate.specs.LineForms.{head_of}
use Rattle.cover_certificate.specs.BlockLines.{numbers_line, spaced}
use Rattle.cover_certificate.proofs.writing.push_numbers.Goals as goal

-- head, numbers and line feed, one after another
written : (form : LineForm) (numbers before head one two all : List ℕ) → head ≡ head_of form → one ≡ before ++ head → two ≡ one ++ spaced numbers
    → all ≡ two ++ 10 ∷ [] → all ≡ before ++ (((numbers_line form numbers).bytes ++ 10 ∷ []) ++ [])
unfolding numbers_line
written form numbers before head one two all head_is a b d =
    d ∙ rw (b, a, head_is) (simp (append_assoc, append-nil))

pub returns-clause-ok : goal.returns-clause-ok
returns-clause-ok c =
    written c.args.form c.args.numbers.now c.args.out.now.items c.head.result.now c.extend_from_slice.new.self.items c.push_spaced.new.out.items
    c.push.new.self.items c.head.ensures c.in_ok-extend_from_slice.ensures.items c.in_ok-push_spaced.ensures.ok c.in_ok-push.ensures.items
