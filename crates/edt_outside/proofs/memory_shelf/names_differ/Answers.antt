use Rattle.std.proofs.Common.{◌≡◌, true, false, sym, ◌∙◌, subst, List, ℕ, ◌∷◌}
use Rattle.std.specs.Global.{Vec}
use Rattle.std.specs.List.{list_any}
use Rattle.std.specs.Str.{bytes_eq}
use Rattle.edt_outside.specs.MemoryShelves.{NamesDiffer}
use Rattle.edt_outside.proofs.EntryLemmas.{NamesDiffer-cons, NamesDiffer-tail, NamesDiffer-first}
use Rattle.edt_outside.proofs.memory_shelf.names_differ.Goals as goal

pub returns-then-is_among : goal.returns-then-is_among
returns-then-is_among c =
    let first = c.in-Some.first.now in
    let others = c.in-Some.others.now in
    let parts : c.loop-first.rest.now ≡ first ∷ others = c.in-Some.ensures.cases.0 in
    let found : list_any (λ (f : List ℕ × Vec ℕ). bytes_eq f.0 first.0) others ≡ true = rw c.as_bytes.ensures at (sym c.is_among.ensures ∙ c.if-is_among.true) in
    (λ (no : false ≡ true). absurd (cc), λ differ. absurd (NamesDiffer-first first others found (subst NamesDiffer parts (c.loop-first.invariant.part differ))))

pub loop-first-preserved : goal.loop-first-preserved
loop-first-preserved c =
    let first = c.in-Some.first.now in
    let others = c.in-Some.others.now in
    let parts : c.loop-first.rest.now ≡ first ∷ others = c.in-Some.ensures.cases.0 in
    let none : list_any (λ (f : List ℕ × Vec ℕ). bytes_eq f.0 first.0) others ≡ false = rw c.as_bytes.ensures at (sym c.is_among.ensures ∙ c.if-is_among.false) in
    record {
      differ = λ rest. c.loop-first.invariant.differ (subst NamesDiffer (sym parts) (NamesDiffer-cons first others none rest));
      part = λ all. NamesDiffer-tail first others (subst NamesDiffer parts (c.loop-first.invariant.part all));
    }
