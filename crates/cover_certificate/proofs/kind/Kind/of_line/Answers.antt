use Rattle.std.proofs.Common.{◌≡◌, ℕ, ◌+◌, ◌<◌, Bool, false, List, length, get_or, drop, find, arith, drop-cons, add-one, sym, ◌∙◌, refl}
use Rattle.std.specs.Str.{bytes_eq}
use Rattle.cover_certificate.specs.declared.kind.Kind.{Kind}
use Rattle.cover_certificate.specs.declared.kind.Kind.TheVariants.{Located}
use Rattle.cover_certificate.specs.Kinds.{first_bytes, kinds}
use Rattle.cover_certificate.proofs.kind.Kind.of_line.Goals as goal

-- a kind that fails is passed
passed : (test : Kind → Bool) (choice : List Kind) (i : ℕ) (d : Kind) → i < length choice → test (get_or choice i d) ≡ false
    → find test (drop i choice) ≡ find test (drop (i + 1) choice)
passed test choice i d within other = rw (drop-cons choice i d within, add-one, other) refl

pub loop-kind-preserved : goal.loop-kind-preserved
loop-kind-preserved c =
    let other : bytes_eq (first_bytes (get_or kinds c.loop-kind.kind-index Located)) c.args.bytes.now ≡ false =
    rw c.first_line.ensures at (sym c.eq.ensures ∙ c.if-eq.false) in
    record {
      left =
          sym (passed (λ kind. bytes_eq (first_bytes kind) c.args.bytes.now) kinds c.loop-kind.kind-index Located
          (omega (arith, c.loop-kind-test.true)) other)
          ∙ c.loop-kind.invariant.left;
    }
