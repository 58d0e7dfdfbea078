-- A first fault is the only one, and it excludes that there is none.
use Rattle.std.proofs.Common.{◌≡◌, ℕ, ◌<◌, Option, Some, None, arith}
use Rattle.text_terms.specs.Faults.{HasNoFault, IsFirstFault}

-- a list with a first fault isn't free of faults
pub excluded_by_fault : {Cause : Type 0} (fault_at : ℕ → Option Cause) (n place : ℕ) (cause : Cause)
    → HasNoFault fault_at n → IsFirstFault fault_at n place cause → ⊥
excluded_by_fault fault_at n place cause free first =
    let none : fault_at place ≡ None = free place first.within in
    let some : fault_at place ≡ Some cause = first.here in
    cc

-- a place before a first fault has none, so no first fault stands there
pub not_before_first : {Cause : Type 0} (fault_at : ℕ → Option Cause) (n p q : ℕ) (c d : Cause)
    → IsFirstFault fault_at n p c → IsFirstFault fault_at n q d → p < q → ⊥
not_before_first fault_at n p q c d first other less =
    let none : fault_at p ≡ None = other.before p less in
    let some : fault_at p ≡ Some c = first.here in
    cc

-- two first faults stand at one place
pub first_place : {Cause : Type 0} (fault_at : ℕ → Option Cause) (n p q : ℕ) (c d : Cause)
    → IsFirstFault fault_at n p c → IsFirstFault fault_at n q d → p ≡ q
first_place fault_at n p q c d first other =
    let not_less : p < q → ⊥ = not_before_first fault_at n p q c d first other in
    let not_more : q < p → ⊥ = not_before_first fault_at n q p d c other first in
    omega arith

-- and have one cause
pub one_cause : {Cause : Type 0} (fault_at : ℕ → Option Cause) (n p q : ℕ) (c d : Cause)
    → IsFirstFault fault_at n p c → IsFirstFault fault_at n q d → c ≡ d
one_cause fault_at n p q c d first other =
    let same : p ≡ q = first_place fault_at n p q c d first other in
    let here : fault_at p ≡ Some c = first.here in
    let there : fault_at q ≡ Some d = other.here in
    cc
