use Rattle.std.proofs.Common.{◌≡◌, Some, length, refl, sym, ◌∙◌, ap}
use Rattle.std.specs.Prelude.{map}
use Rattle.std.proofs.lemmas.Result.{err_from_is_err_and, on_ok_weaker, IfErr-weaker}
use Rattle.edt_text.specs.WordCursor.{words_left}
use Rattle.text_terms.specs.Lines.{NumberedLine}
use Rattle.phase_reader.specs.declared.kind.LineKind.TheVariants.{Blank, Comment, PublicId, PickLine}
use Rattle.phase_reader.specs.declared.phases.Pick.{Pick}
use Rattle.phase_reader.specs.PickFields.{pick_of, pick_of_words}
use Rattle.phase_reader.specs.PickFaults.{words_fault}
use Rattle.phase_reader.specs.PhaseEvents.{event_lines, open_lines, passes_limit}
use Rattle.phase_reader.proofs.ListLaws.{ok_is, both_ok}
use Rattle.phase_reader.proofs.DraftSteps.{follows_blank, follows_comment, follows_passed, follows_pick, limit_follows}
use Rattle.phase_reader.proofs.FaultSteps.{kind_by_words, fault_kind, fault_few, fault_words, fault_limit, fault_none}
use Rattle.phase_reader.proofs.draft.PhaseDraft.take_line.Goals as goal

pub returns-then-not-has-clause-fault : goal.returns-then-not-has-clause-fault
returns-then-not-has-clause-fault c =
    let line : NumberedLine = (c.args.number, c.args.line.now) in
    let kind = kind_by_words line (words_left c.new-words.result) PickLine c.new-words.ensures c.in-PickLine.ensures in
    let few = rw (c.new-placed.ensures ∙ c.new-words.ensures) at (sym c.has.ensures ∙ c.if-not-has.true) in
    λ other before follows. fault_kind before line PickLine c.if-line-gt-LONGEST_LINE.false kind ∙ fault_few before line few

pub returns-in_err-pick-in-PickLine-clause-fault : goal.returns-in_err-pick-in-PickLine-clause-fault
returns-in_err-pick-in-PickLine-clause-fault c =
    let line : NumberedLine = (c.args.number, c.args.line.now) in
    let kind = kind_by_words line (words_left c.new-words.result) PickLine c.new-words.ensures c.in-PickLine.ensures in
    let same = c.new-placed.ensures ∙ c.new-words.ensures in
    let enough = rw same at (sym c.has.ensures ∙ c.if-not-has.false) in
    let out = err_from_is_err_and c.from_residual.result c.from_residual.ensures.1 in
    rw (out.1, out.2)
    (λ other before follows.
    fault_kind before line PickLine c.if-line-gt-LONGEST_LINE.false kind
    ∙ fault_words before line _ enough (ap words_fault (sym same) ∙ c.in_err-pick-in-PickLine.ensures.fault other))

pub returns-in-Blank-clause-follows : goal.returns-in-Blank-clause-follows
returns-in-Blank-clause-follows c =
    let line : NumberedLine = (c.args.number, c.args.line.now) in
    let kind = kind_by_words line (words_left c.new-words.result) Blank c.new-words.ensures c.in-Blank.ensures in
    both_ok c.end_event.result c.end_event.ensures.events c.end_event.ensures.picks
    (λ events picks before follows. follows_blank before line c.args.self.now c.end_event.new.self follows kind events picks c.end_event.ensures.passed)

pub returns-in-Blank-clause-good : goal.returns-in-Blank-clause-good
returns-in-Blank-clause-good c =
    let line : NumberedLine = (c.args.number, c.args.line.now) in
    let kind = kind_by_words line (words_left c.new-words.result) Blank c.new-words.ensures c.in-Blank.ensures in
    ok_is c.end_event.result (λ before follows. fault_kind before line Blank c.if-line-gt-LONGEST_LINE.false kind)

pub returns-in-Comment-clause-follows : goal.returns-in-Comment-clause-follows
returns-in-Comment-clause-follows c =
    let line : NumberedLine = (c.args.number, c.args.line.now) in
    let kind = kind_by_words line (words_left c.new-words.result) Comment c.new-words.ensures c.in-Comment.ensures in
    λ before follows. follows_comment before line c.args.self.now follows kind

pub returns-in-Comment-clause-good : goal.returns-in-Comment-clause-good
returns-in-Comment-clause-good c =
    let line : NumberedLine = (c.args.number, c.args.line.now) in
    let kind = kind_by_words line (words_left c.new-words.result) Comment c.new-words.ensures c.in-Comment.ensures in
    λ before follows. fault_kind before line Comment c.if-line-gt-LONGEST_LINE.false kind

pub returns-in-PublicId-clause-follows : goal.returns-in-PublicId-clause-follows
returns-in-PublicId-clause-follows c =
    let line : NumberedLine = (c.args.number, c.args.line.now) in
    let kind = kind_by_words line (words_left c.new-words.result) PublicId c.new-words.ensures c.in-PublicId.ensures in
    λ before follows. follows_passed before line c.args.self.now _ follows kind refl refl refl

pub returns-in-PublicId-clause-good : goal.returns-in-PublicId-clause-good
returns-in-PublicId-clause-good c =
    let line : NumberedLine = (c.args.number, c.args.line.now) in
    let kind = kind_by_words line (words_left c.new-words.result) PublicId c.new-words.ensures c.in-PublicId.ensures in
    λ before follows. fault_kind before line PublicId c.if-line-gt-LONGEST_LINE.false kind

pub returns-in_ok-pick-in-PickLine-clause-follows : goal.returns-in_ok-pick-in-PickLine-clause-follows
returns-in_ok-pick-in-PickLine-clause-follows c =
    let line : NumberedLine = (c.args.number, c.args.line.now) in
    let kind = kind_by_words line (words_left c.new-words.result) PickLine c.new-words.ensures c.in-PickLine.ensures in
    let same = c.new-placed.ensures ∙ c.new-words.ensures in
    let means : c.in_ok-pick-in-PickLine.pick ≡ pick_of line = c.in_ok-pick-in-PickLine.ensures.pick ∙ ap (pick_of_words c.args.number) same in
    on_ok_weaker c.take_pick.result
    (λ more before follows.
    follows_pick before line c.in_ok-pick-in-PickLine.pick c.args.self.now c.take_pick.new.self follows kind c.take_pick.ensures.events more means
    c.take_pick.ensures.passed)
    c.take_pick.ensures.picks

pub returns-in_ok-pick-in-PickLine-clause-good : goal.returns-in_ok-pick-in-PickLine-clause-good
returns-in_ok-pick-in-PickLine-clause-good c =
    let line : NumberedLine = (c.args.number, c.args.line.now) in
    let kind = kind_by_words line (words_left c.new-words.result) PickLine c.new-words.ensures c.in-PickLine.ensures in
    let same = c.new-placed.ensures ∙ c.new-words.ensures in
    let enough = rw same at (sym c.has.ensures ∙ c.if-not-has.false) in
    let means : c.in_ok-pick-in-PickLine.pick ≡ pick_of line = c.in_ok-pick-in-PickLine.ensures.pick ∙ ap (pick_of_words c.args.number) same in
    on_ok_weaker c.take_pick.result
    (λ good before follows.
    fault_kind before line PickLine c.if-line-gt-LONGEST_LINE.false kind
    ∙ fault_none before line enough (ap words_fault (sym same) ∙ c.in_ok-pick-in-PickLine.ensures.good)
    (ap (λ (pick : Pick). passes_limit (length (event_lines before)) (map pick_of (open_lines before)) pick.time) (sym means)
    ∙ sym (limit_follows before c.args.self.now c.in_ok-pick-in-PickLine.pick.time follows) ∙ good))
    c.take_pick.ensures.good

pub returns-in_ok-pick-in-PickLine-clause-fault : goal.returns-in_ok-pick-in-PickLine-clause-fault
returns-in_ok-pick-in-PickLine-clause-fault c =
    let line : NumberedLine = (c.args.number, c.args.line.now) in
    let kind = kind_by_words line (words_left c.new-words.result) PickLine c.new-words.ensures c.in-PickLine.ensures in
    let same = c.new-placed.ensures ∙ c.new-words.ensures in
    let enough = rw same at (sym c.has.ensures ∙ c.if-not-has.false) in
    let means : c.in_ok-pick-in-PickLine.pick ≡ pick_of line = c.in_ok-pick-in-PickLine.ensures.pick ∙ ap (pick_of_words c.args.number) same in
    IfErr-weaker c.take_pick.result _ _
    (λ cause fault other before follows.
    fault_kind before line PickLine c.if-line-gt-LONGEST_LINE.false kind
    ∙ fault_limit before line enough (ap words_fault (sym same) ∙ c.in_ok-pick-in-PickLine.ensures.good)
    (ap (λ (pick : Pick). passes_limit (length (event_lines before)) (map pick_of (open_lines before)) pick.time) (sym means)
    ∙ sym (limit_follows before c.args.self.now c.in_ok-pick-in-PickLine.pick.time follows) ∙ (fault other).1)
    ∙ ap Some (sym (fault other).0))
    c.take_pick.ensures.fault
