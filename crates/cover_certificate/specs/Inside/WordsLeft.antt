-- The words that a cursor still has to give.
use Rattle.std.specs.Prelude.{ℕ, List, [], Option, Some, None}
use Rattle.std.specs.Borrow.{Bor}
use Rattle.cover_certificate.specs.LineWords.{parts}

-- the parts of the rest, if there is one
abbrev pub words_left : Option (Bor (List ℕ)) → List (List ℕ)
words_left None = []
words_left (Some rest) = parts rest.now
