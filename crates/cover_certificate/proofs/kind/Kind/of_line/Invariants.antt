use Rattle.std.proofs.Common.{◌≡◌, drop, find}
use Rattle.std.specs.Str.{bytes_eq}
use Rattle.cover_certificate.specs.Kinds.{first_bytes, kind_of, kinds}
use Rattle.cover_certificate.proofs.kind.Kind.of_line.Given as goal

abbrev pub invariant-loop-kind : goal.invariant-loop-kind
invariant-loop-kind l = record {
  left : find (λ kind. bytes_eq (first_bytes kind) l.bytes) (drop l.kind-index kinds) ≡ kind_of l.bytes;
}
