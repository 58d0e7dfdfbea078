-- The first fault of a list, and refusals.
use Rattle.std.proofs.Common.{◌≡◌, ℕ, zero, suc, List, [], ◌∷◌, map, take, Option, Some, None, refl}
use Rattle.std.specs.List.{slice_get}
use Rattle.event_assembly.specs.declared.faults.AssembleFault.{AssembleFault}
use Rattle.event_assembly.specs.declared.faults.AssembleFault.TheVariants.{Absent, Failed, Header as faulty_header, HeaderLong, Body, Align, Cells, Memory}
use Rattle.event_assembly.specs.Inside.Reads.{IsRefusal}
use Rattle.event_assembly.specs.Answers.{IfToldFault}
use Rattle.text_terms.specs.Faults.{first_cause}

-- what follows of each fault follows of those that the files tell
pub told_weaker : (P Q : AssembleFault → Type 0) → ((fault : AssembleFault) → P fault → Q fault) → (fault : AssembleFault)
    → IfToldFault P fault → IfToldFault Q fault
told_weaker P Q weaker (Absent name) holds = weaker _ holds
told_weaker P Q weaker (Failed name) holds = tt
told_weaker P Q weaker (faulty_header name cause) holds = weaker _ holds
told_weaker P Q weaker (HeaderLong name) holds = weaker _ holds
told_weaker P Q weaker (Body name cause) holds = weaker _ holds
told_weaker P Q weaker (Align name axis) holds = weaker _ holds
told_weaker P Q weaker Cells holds = weaker _ holds
told_weaker P Q weaker Memory holds = tt

-- a refusal by a first fault is one by another first fault that is the same where there is one
pub refusal_by : (a b : Option AssembleFault) (fault : AssembleFault) → ((f : AssembleFault) → a ≡ Some f → b ≡ Some f) → IsRefusal a fault → IsRefusal b fault
refusal_by a b fault same refused = told_weaker (λ f. a ≡ Some f) (λ f. b ≡ Some f) same fault refused

-- an item before the others that has no fault
none_in_front : (o : Option AssembleFault) (xs ys : List (Option AssembleFault)) → (first_cause xs ≡ None → first_cause ys ≡ None)
    → first_cause (o ∷ xs) ≡ None → first_cause (o ∷ ys) ≡ None
none_in_front None xs ys later none = later none
none_in_front (Some fault) xs ys later none = absurd cc

-- one more item that has no fault
pub none_more : {A : Type 0} (f : A → Option AssembleFault) (i : ℕ) (xs : List A) (x : A) → slice_get xs i ≡ Some x
    → first_cause (map f (take i xs)) ≡ None → f x ≡ None → first_cause (map f (take (suc i) xs)) ≡ None
none_more f i [] x here before none = absurd cc
none_more f zero (y ∷ ys) x here before none = let same : y ≡ x = cc in rw (same, none) refl
none_more f (suc i) (y ∷ ys) x here before none =
    none_in_front (f y) (map f (take i ys)) (map f (take (suc i) ys)) (λ rest. none_more f i ys x here rest none) before

-- an item before the others that has no fault, where a later one has
some_behind : (o : Option AssembleFault) (xs ys : List (Option AssembleFault)) (fault : AssembleFault) → (first_cause xs ≡ None → first_cause ys ≡ Some fault)
    → first_cause (o ∷ xs) ≡ None → first_cause (o ∷ ys) ≡ Some fault
some_behind None xs ys fault later none = later none
some_behind (Some first) xs ys fault later none = absurd cc

-- the first item that has a fault decides
pub first_here : {A : Type 0} (f : A → Option AssembleFault) (i : ℕ) (xs : List A) (x : A) (fault : AssembleFault) → slice_get xs i ≡ Some x
    → first_cause (map f (take i xs)) ≡ None → f x ≡ Some fault → first_cause (map f xs) ≡ Some fault
first_here f i [] x fault here before some = absurd cc
first_here f zero (y ∷ ys) x fault here before some = let same : y ≡ x = cc in rw (same, some) refl
first_here f (suc i) (y ∷ ys) x fault here before some =
    some_behind (f y) (map f (take i ys)) (map f ys) fault (λ rest. first_here f i ys x fault here rest some) before

-- so the refusal of an item is that of the list
pub refusal_here : {A : Type 0} (f : A → Option AssembleFault) (i : ℕ) (xs : List A) (x : A) (fault : AssembleFault) → slice_get xs i ≡ Some x
    → first_cause (map f (take i xs)) ≡ None → IsRefusal (f x) fault → IsRefusal (first_cause (map f xs)) fault
refusal_here f i xs x fault here before refused =
    refusal_by (f x) (first_cause (map f xs)) fault (λ other some. first_here f i xs x other here before some) refused
