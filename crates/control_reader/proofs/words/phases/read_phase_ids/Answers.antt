use Rattle.std.proofs.Common.{◌≡◌, ◌++◌, ◌∷◌, [], true, Some, subst, sym, ◌∙◌, ap, rules}
use Rattle.std.proofs.lemmas.Result.{err_from_is_err_and}
use Rattle.edt_text.specs.WordCursor.{words_left}
use Rattle.text_terms.specs.Names.{is_name}
use Rattle.edt_text.specs.PlacedWords.{placed_words}
use Rattle.control_reader.specs.Limits.{IsPhaseId}
use Rattle.text_terms.specs.Words.{word_at}
use Rattle.control_reader.proofs.PhaseIdSteps.{id_of, are_names, one_more, one_more_good, no_more, name_passes, name_fails, first_fault, code_fault, no_fault}
use Rattle.control_reader.proofs.words.phases.read_phase_ids.Goals as goal

pub returns-in_err-standard-clause-fault : goal.returns-in_err-standard-clause-fault
returns-in_err-standard-clause-fault c =
    let out = err_from_is_err_and c.from_residual.result c.from_residual.ensures.1 in
    rw (out.1, out.2)
    (λ other. first_fault (placed_words c.args.arguments.now) _ c.requires (c.in_err-standard.ensures.fault other))

pub returns-in_err-id-clause-fault : goal.returns-in_err-id-clause-fault
returns-in_err-id-clause-fault c =
    let words = placed_words c.args.arguments.now in
    let first : is_name 64 (word_at 0 words) ≡ true = rw c.in_ok-standard.ensures.value at c.in_ok-standard.ensures.form in
    let out = err_from_is_err_and c.from_residual-in_err-id.result c.from_residual-in_err-id.ensures.1 in
    rw (out.1, out.2)
    (λ other.
    let fault = c.in_err-id.ensures.fault other in
    let fails = name_fails c.in-Some.code.now (words_left c.loop-code.codes) (words_left c.next.new.self) c.in-Some.ensures.word fault.1 in
    code_fault words c.requires first (sym c.loop-code.invariant.good ∙ fails) ∙ ap Some (sym fault.0))

pub loop-code-preserved : goal.loop-code-preserved
loop-code-preserved c =
    let words = placed_words c.args.arguments.now in
    let pushed : c.push.new.self.items ≡ c.loop-code.into.items ++ id_of (word_at 0 words) c.in-Some.code.now ∷ [] = search rules in
    let id : c.in_ok-id.id ≡ id_of (word_at 0 words) c.in-Some.code.now = c.in_ok-id.ensures.value ∙ ap (λ standard. id_of standard c.in-Some.code.now) c.in_ok-standard.ensures.value in
    record {
      value = one_more (word_at 0 words) c.in-Some.code.now (words_left c.loop-code.codes) (words_left c.next.new.self) c.loop-code.into.items c.push.new.self.items _ c.in-Some.ensures.word pushed c.loop-code.invariant.value;
      good = name_passes c.in-Some.code.now (words_left c.loop-code.codes) (words_left c.next.new.self) c.in-Some.ensures.word c.in_ok-id.ensures.good ∙ c.loop-code.invariant.good;
      limits = λ all. one_more_good c.loop-code.into.items c.push.new.self.items (id_of (word_at 0 words) c.in-Some.code.now) pushed (c.loop-code.invariant.limits all) (subst IsPhaseId id c.in_ok-id.ensures.limits);
    }

pub returns-clause-value : goal.returns-clause-value
returns-clause-value c =
    no_more (placed_words c.args.arguments.now) (words_left c.loop-code.codes) c.loop-code.into.items c.args.into.now.items c.in_default.ensures.end.0 c.loop-code.invariant.value

pub returns-clause-good : goal.returns-clause-good
returns-clause-good c =
    let words = placed_words c.args.arguments.now in
    let first : is_name 64 (word_at 0 words) ≡ true = rw c.in_ok-standard.ensures.value at c.in_ok-standard.ensures.form in
    no_fault words c.requires first (sym c.loop-code.invariant.good ∙ ap are_names c.in_default.ensures.end.0)
