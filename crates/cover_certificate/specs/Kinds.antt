-- The six kinds of certificates.
use Rattle.std.specs.Prelude.{ℕ, List, [], ◌∷◌, Option, codes, find}
use Rattle.std.specs.Str.{bytes_eq}
use Rattle.cover_certificate.specs.declared.kind.Kind.{Kind}
use Rattle.cover_certificate.specs.declared.kind.Kind.TheVariants.{Located, NoFit, Few, Many, Budget, NearLimit}

-- all kinds
abbrev pub kinds : List Kind
kinds = Located ∷ NoFit ∷ Few ∷ Many ∷ Budget ∷ NearLimit ∷ []

-- the bytes of the first line of a certificate
abbrev pub first_bytes : Kind → List ℕ
first_bytes Located = codes "CERT LOCATED"
first_bytes NoFit = codes "CERT NOFIT"
first_bytes Few = codes "CERT FEW"
first_bytes Many = codes "CERT MANY"
first_bytes Budget = codes "CERT BUDGET"
first_bytes NearLimit = codes "CERT NEARLIMIT"

-- the kind of certificate with this first line
abbrev pub kind_of : List ℕ → Option Kind
kind_of bytes = find (λ kind. bytes_eq (first_bytes kind) bytes) kinds
