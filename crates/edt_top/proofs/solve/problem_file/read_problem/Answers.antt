use Rattle.std.proofs.Common.{◌≡◌, ◌∙◌, ap, sym, subst, List, []}
use Rattle.text_terms.specs.Faults.{NoFaultBelow}
use Rattle.node_boxes.specs.declared.node_box.NodeBox.{NodeBox}
use Rattle.node_boxes.specs.Grid.{GridSize}
use Rattle.node_boxes.specs.Roots.{roots_of}
use Rattle.edt_score.specs.Field.{FieldTimes}
use Rattle.edt_score.specs.Problem.{IsValidProblem}
use Rattle.edt_score.specs.declared.problem.Problem.{Problem}
use Rattle.edt_top.specs.declared.solve.problem_file.Head.{Head}
use Rattle.edt_top.specs.Solve.ProblemFile.{Words, IsProblemFile, first_time, fault_at}
use Rattle.edt_top.specs.Inside.ProblemCursor.{Reading}
use Rattle.edt_top.specs.Solve.ProblemValues.{rows_in, field_in, picks_of}
use Rattle.edt_top.specs.Inside.ProblemParts.{IsHead, IsReadFrom}
use Rattle.edt_top.proofs.SolveLaws.ProblemValid.{valid}
use Rattle.text_terms.specs.Words.{file_words}
use Rattle.edt_top.proofs.solve.problem_file.read_problem.Goals as goal

-- the field that a head and its rows make
field_is : (words : Words) (head : Head) (empty field : FieldTimes) → IsHead words head → empty ≡ record { grid = head.grid; roots = roots_of head.grid 1 1 1; rows = [] }
    → field ≡ record empty { rows = rows_in words } → field ≡ field_in words
field_is words head empty field is made filled =
    filled ∙ (ap (λ (f : FieldTimes). record f { rows = rows_in words }) made ∙ ap (λ (g : GridSize). record { grid = g; roots = roots_of g 1 1 1; rows = rows_in words }) is.grid)

-- what the parts of a file make
built : (words : Words) (head : Head) (empty field : FieldTimes) (problem : Problem) → IsHead words head → problem.picks.items ≡ picks_of words
    → NoFaultBelow (fault_at words) (first_time words) → empty ≡ record { grid = head.grid; roots = roots_of head.grid 1 1 1; rows = [] } → field ≡ record empty { rows = rows_in words }
    → IsProblemFile words → IsReadFrom words (record { field = field; problem = problem })
built words head empty field problem is picks sound made filled whole =
    let made_of : field ≡ field_in words = field_is words head empty field is made filled in
    record {
      whole = whole;
      some = is.some_node;
      few = is.nodes;
      field = made_of;
      picks = picks;
      valid = subst (λ f. IsValidProblem f problem) (sym made_of) (valid words problem picks sound is.some is.few);
    }

pub returns-clause-value : goal.returns-clause-value
returns-clause-value c =
    let words : Words = file_words c.args.bytes.now in
    let w0 : c.new-cursor.result.words ≡ words = ap (λ (r : Reading). r.words) c.new-cursor.ensures in
    let w1 : c.read_head.new.cursor.words ≡ words = ap (λ (r : Reading). r.words) c.in_ok-head.ensures.moved ∙ w0 in
    let w2 : c.read_picks.new.cursor.words ≡ words = ap (λ (r : Reading). r.words) c.in_ok-picks.ensures.moved ∙ w1 in
    let w3 : c.push_rows.new.cursor.words ≡ words = ap (λ (r : Reading). r.words) c.in_ok-push_rows.ensures.moved ∙ w2 in
    let place : c.read_picks.new.cursor.place ≡ first_time words = ap (λ (r : Reading). r.place) c.in_ok-picks.ensures.moved ∙ ap first_time w1 in
    let sound : NoFaultBelow (fault_at words) (first_time words) =
    subst (λ ws. NoFaultBelow (fault_at ws) (first_time words)) w2 (subst (NoFaultBelow (fault_at c.read_picks.new.cursor.words)) place c.in_ok-picks.ensures.sound.sound) in
    built words c.in_ok-head.head c.in_ok-field.field c.push_rows.new.field (record { picks = c.in_ok-picks.picks })
    (subst (λ ws. IsHead ws c.in_ok-head.head) w0 c.in_ok-head.ensures.head) (c.in_ok-picks.ensures.picks ∙ ap picks_of w1) sound
    (c.in_ok-field.ensures ∙ ap (λ (r : List NodeBox). record { grid = c.in_ok-head.head.grid; roots = r; rows = [] }) c.in_ok-roots.ensures.value) (c.in_ok-push_rows.ensures.rows ∙ ap (λ ws. record c.in_ok-field.field { rows = rows_in ws }) w2) (subst IsProblemFile w3 c.in_ok-end.ensures.whole)
