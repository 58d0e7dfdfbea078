use Rattle.std.proofs.Common.{◌≤◌, length, sym, ◌∙◌, ap, arith}
use Rattle.std.proofs.lemmas.Result.{err_from_is_err_and}
use Rattle.std.proofs.lemmas.Grind.{common_steps}
use Rattle.edt_text.specs.PlacedWords.{placed_words}
use Rattle.control_reader.specs.Keywords.{least_of}
use Rattle.control_reader.specs.Inside.Said.{Said, said_of}
use Rattle.control_reader.proofs.StatementFaults.{MayStand, fault_nested, fault_not_yet, fault_repeated, fault_few, fault_words, fault_limit, fault_none}
use Rattle.control_reader.proofs.draft.ControlDraft.take_statement.Goals as goal

pub returns-then-is_nested-clause-fault : goal.returns-then-is_nested-clause-fault
returns-then-is_nested-clause-fault c =
    λ other. fault_nested _ _ _ _ (sym c.is_nested.ensures ∙ c.if-is_nested.true)

pub returns-then-is_not_yet-clause-fault : goal.returns-then-is_not_yet-clause-fault
returns-then-is_not_yet-clause-fault c =
    λ other. fault_not_yet _ _ _ _ (sym c.is_nested.ensures ∙ c.if-is_nested.false) (sym c.is_not_yet.ensures ∙ c.if-is_not_yet.true)

pub returns-then-was_said-clause-fault : goal.returns-then-was_said-clause-fault
returns-then-was_said-clause-fault c =
    λ other. fault_repeated _ _ _ _ (sym c.is_nested.ensures ∙ c.if-is_nested.false) (sym c.is_not_yet.ensures ∙ c.if-is_not_yet.false)
    (sym c.was_said.ensures ∙ c.if-was_said.true)

pub returns-then-not-has-clause-fault : goal.returns-then-not-has-clause-fault
returns-then-not-has-clause-fault c =
    let may : MayStand (said_of c.args.self.now) c.args.file c.args.statement = record {
      outer = sym c.is_nested.ensures ∙ c.if-is_nested.false;
      known = sym c.is_not_yet.ensures ∙ c.if-is_not_yet.false;
      new = sym c.was_said.ensures ∙ c.if-was_said.false;
    } in
    λ other. fault_few _ _ _ _ may (grind (arith, common_steps))

pub returns-in_err-take_words-clause-fault : goal.returns-in_err-take_words-clause-fault
returns-in_err-take_words-clause-fault c =
    let may : MayStand (said_of c.args.self.now) c.args.file c.args.statement = record {
      outer = sym c.is_nested.ensures ∙ c.if-is_nested.false;
      known = sym c.is_not_yet.ensures ∙ c.if-is_not_yet.false;
      new = sym c.was_said.ensures ∙ c.if-was_said.false;
    } in
    let enough : least_of c.args.statement ≤ length (placed_words c.args.arguments.now) = grind (arith, common_steps) in
    let out = err_from_is_err_and c.from_residual.result c.from_residual.ensures.1 in
    rw (out.1, out.2) (λ other. fault_words _ _ _ _ _ may enough (c.in_err-take_words.ensures.fault other))

pub returns-then-self-gt-MOST_FILES-clause-fault : goal.returns-then-self-gt-MOST_FILES-clause-fault
returns-then-self-gt-MOST_FILES-clause-fault c =
    let may : MayStand (said_of c.args.self.now) c.args.file c.args.statement = record {
      outer = sym c.is_nested.ensures ∙ c.if-is_nested.false;
      known = sym c.is_not_yet.ensures ∙ c.if-is_not_yet.false;
      new = sym c.was_said.ensures ∙ c.if-was_said.false;
    } in
    let enough : least_of c.args.statement ≤ length (placed_words c.args.arguments.now) = grind (arith, common_steps) in
    λ other. fault_limit _ _ _ _ _ may enough c.in_ok-take_words.ensures.good c.requires.includes
    (ap (λ (said : Said). said.includes) c.in_ok-take_words.ensures.value) c.if-self-gt-MOST_FILES.true

pub returns-clause-good : goal.returns-clause-good
returns-clause-good c =
    let may : MayStand (said_of c.args.self.now) c.args.file c.args.statement = record {
      outer = sym c.is_nested.ensures ∙ c.if-is_nested.false;
      known = sym c.is_not_yet.ensures ∙ c.if-is_not_yet.false;
      new = sym c.was_said.ensures ∙ c.if-was_said.false;
    } in
    let enough : least_of c.args.statement ≤ length (placed_words c.args.arguments.now) = grind (arith, common_steps) in
    fault_none _ _ _ _ _ may enough c.in_ok-take_words.ensures.good (ap (λ (said : Said). said.includes) c.in_ok-take_words.ensures.value)
    c.if-self-gt-MOST_FILES.false
