use Rattle.std.proofs.Common.{◌<◌, ◌≤◌, length, ◌∙◌, arith}
use Rattle.std.specs.Prelude.{vec_len}
use Rattle.std.proofs.lemmas.Result.{err_from_is_err_and}
use Rattle.std.proofs.lemmas.Grind.{common_steps}
use Rattle.edt_text.specs.PlacedWords.{placed_words}
use Rattle.control_reader.specs.ControlLines.{ControlLine, arguments_of}
use Rattle.control_reader.proofs.NameSteps.{IsIncludeLine, include_by_kind, names_other, good_other, name_long, name_few, name_words, name_limit, name_good, names_more, pushed_value, pushed_good, pushed_fault, pushed_length}
use Rattle.control_reader.proofs.includes.take_name.Goals as goal

pub returns-then-not-includes_file-clause-value : goal.returns-then-not-includes_file-clause-value
returns-then-not-includes_file-clause-value c = λ number.
    let line : ControlLine = record { file = 0; number = number; bytes = c.args.line.now } in
    names_other line c.args.names.now.items
    (include_by_kind line _ _ c.split_line-kind.ensures.kind c.includes_file.ensures ∙ c.if-not-includes_file.true)

pub returns-then-not-includes_file-clause-good : goal.returns-then-not-includes_file-clause-good
returns-then-not-includes_file-clause-good c = λ number.
    let line : ControlLine = record { file = 0; number = number; bytes = c.args.line.now } in
    good_other _ line (include_by_kind line _ _ c.split_line-kind.ensures.kind c.includes_file.ensures ∙ c.if-not-includes_file.true)

pub returns-then-line-gt-LONGEST_LINE-clause-fault : goal.returns-then-line-gt-LONGEST_LINE-clause-fault
returns-then-line-gt-LONGEST_LINE-clause-fault c = λ other number.
    let line : ControlLine = record { file = 0; number = number; bytes = c.args.line.now } in
    name_long _ line (include_by_kind line _ _ c.split_line-kind.ensures.kind c.includes_file.ensures ∙ c.if-not-includes_file.false)
    c.if-line-gt-LONGEST_LINE.true

pub returns-then-not-has-clause-fault : goal.returns-then-not-has-clause-fault
unfolding arguments_of
returns-then-not-has-clause-fault c = λ other number.
    let line : ControlLine = record { file = 0; number = number; bytes = c.args.line.now } in
    let include : IsIncludeLine line (placed_words c.new-arguments.result) = record {
      is = include_by_kind line _ _ c.split_line-kind.ensures.kind c.includes_file.ensures ∙ c.if-not-includes_file.false;
      short = c.if-line-gt-LONGEST_LINE.false;
      same = c.new-arguments.ensures ∙ c.split_line-kind.ensures.words;
    } in
    name_few _ line _ include (grind (arith, common_steps))

pub returns-in_err-push-clause-fault : goal.returns-in_err-push-clause-fault
unfolding arguments_of
returns-in_err-push-clause-fault c =
    let out = err_from_is_err_and c.from_residual.result c.from_residual.ensures.1 in
    let enough : 1 ≤ length (placed_words c.new-arguments.result) = grind (arith, common_steps) in
    rw (out.1, out.2)
    (λ other number.
    let line : ControlLine = record { file = 0; number = number; bytes = c.args.line.now } in
    let include : IsIncludeLine line (placed_words c.new-arguments.result) = record {
      is = include_by_kind line _ _ c.split_line-kind.ensures.kind c.includes_file.ensures ∙ c.if-not-includes_file.false;
      short = c.if-line-gt-LONGEST_LINE.false;
      same = c.new-arguments.ensures ∙ c.split_line-kind.ensures.words;
    } in
    name_words _ line _ _ include enough (pushed_fault _ c.read_include.result _ _ _ _ c.in_err-push.ensures other c.read_include.ensures.fault))

pub returns-then-len-clause-fault : goal.returns-then-len-clause-fault
unfolding arguments_of
returns-then-len-clause-fault c = λ other number.
    let line : ControlLine = record { file = 0; number = number; bytes = c.args.line.now } in
    let include : IsIncludeLine line (placed_words c.new-arguments.result) = record {
      is = include_by_kind line _ _ c.split_line-kind.ensures.kind c.includes_file.ensures ∙ c.if-not-includes_file.false;
      short = c.if-line-gt-LONGEST_LINE.false;
      same = c.new-arguments.ensures ∙ c.split_line-kind.ensures.words;
    } in
    let enough : 1 ≤ length (placed_words c.new-arguments.result) = grind (arith, common_steps) in
    let value = pushed_value c.read_include.result _ _ _ _ c.in_ok-push.ensures c.read_include.ensures.value in
    let more = pushed_length c.args.names.now.items c.push.new.list.items _ value in
    let good = pushed_good c.read_include.result _ _ _ c.in_ok-push.ensures c.read_include.ensures.good in
    let past : 16 ≤ vec_len c.args.names.now =
    omega (arith, more, c.len.ensures, c.if-len.true, c.push.new.list.ok.0, c.args.names.now.ok.0) in
    name_limit _ line _ include enough good past

pub returns-clause-value : goal.returns-clause-value
unfolding arguments_of
returns-clause-value c = λ number.
    let line : ControlLine = record { file = 0; number = number; bytes = c.args.line.now } in
    let include : IsIncludeLine line (placed_words c.new-arguments.result) = record {
      is = include_by_kind line _ _ c.split_line-kind.ensures.kind c.includes_file.ensures ∙ c.if-not-includes_file.false;
      short = c.if-line-gt-LONGEST_LINE.false;
      same = c.new-arguments.ensures ∙ c.split_line-kind.ensures.words;
    } in
    names_more line _ _ _ include (pushed_value c.read_include.result _ _ _ _ c.in_ok-push.ensures c.read_include.ensures.value)

pub returns-clause-good : goal.returns-clause-good
unfolding arguments_of
returns-clause-good c = λ number.
    let line : ControlLine = record { file = 0; number = number; bytes = c.args.line.now } in
    let include : IsIncludeLine line (placed_words c.new-arguments.result) = record {
      is = include_by_kind line _ _ c.split_line-kind.ensures.kind c.includes_file.ensures ∙ c.if-not-includes_file.false;
      short = c.if-line-gt-LONGEST_LINE.false;
      same = c.new-arguments.ensures ∙ c.split_line-kind.ensures.words;
    } in
    let enough : 1 ≤ length (placed_words c.new-arguments.result) = grind (arith, common_steps) in
    let value = pushed_value c.read_include.result _ _ _ _ c.in_ok-push.ensures c.read_include.ensures.value in
    let more = pushed_length c.args.names.now.items c.push.new.list.items _ value in
    let good = pushed_good c.read_include.result _ _ _ c.in_ok-push.ensures c.read_include.ensures.good in
    let few : vec_len c.args.names.now < 16 =
    omega (arith, more, c.len.ensures, c.if-len.false, c.push.new.list.ok.0, c.args.names.now.ok.0) in
    name_good _ line _ include enough good few
