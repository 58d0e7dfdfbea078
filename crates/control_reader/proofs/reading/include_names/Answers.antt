use Rattle.std.proofs.Common.{◌≡◌, None, Some, length, vec_len, ap, arith}
use Rattle.control_reader.specs.Inside.Said.{control_line}
use Rattle.control_reader.specs.Inside.IncludeNames.{name_fault_by}
use Rattle.control_reader.proofs.IncludeSteps.{reads_no_names, names_next, names_fault, names_all, names_count}
use Rattle.control_reader.proofs.reading.include_names.Goals as goal

pub loop-line-init : goal.loop-line-init
loop-line-init c = record {
  reads = reads_no_names c.args.main.now c.new-lines.result c.new-names.result.items c.new-lines.ensures.lines c.new-lines.ensures.start c.new-names.ensures.items;
  few = omega (arith, c.new-names.ensures.len);
  files = λ k d less. absurd (omega (arith, less, ap length c.new-names.ensures.items));
}

pub loop-line-preserved : goal.loop-line-preserved
loop-line-preserved c =
    let same : length c.loop-line.names.items ≡ vec_len c.loop-line.names = omega (arith, c.loop-line.names.ok.0) in
    let good : name_fault_by (length c.loop-line.names.items) (control_line 0 c.in-Some.line) ≡ None =
    rw same (c.in-Ok.ensures.good c.in-Some.line.number) in
    record {
      reads =
          names_next c.args.main.now c.loop-line.lines c.next.new.self c.loop-line.names.items c.take_name.new.names.items c.in-Some.line
          c.loop-line.invariant.reads c.in-Some.ensures.line c.in-Some.ensures.number c.in-Some.ensures.passed
          (c.in-Ok.ensures.value c.in-Some.line.number) good;
      few = c.in-Ok.ensures.few;
      files = c.in-Ok.ensures.files;
    }

pub returns-in-Err-clause-fault : goal.returns-in-Err-clause-fault
returns-in-Err-clause-fault c = λ other.
    let same : length c.loop-line.names.items ≡ vec_len c.loop-line.names = omega (arith, c.loop-line.names.ok.0) in
    let fault : name_fault_by (length c.loop-line.names.items) (control_line 0 c.in-Some.line) ≡ Some c.in-Err.cause =
    rw same (c.in-Err.ensures.fault other c.in-Some.line.number) in
    names_fault c.args.main.now c.loop-line.lines c.next.new.self c.loop-line.names.items c.in-Some.line c.in-Err.cause c.loop-line.invariant.reads
    c.in-Some.ensures.line c.in-Some.ensures.number c.in-Some.ensures.passed fault

pub returns-clause-value : goal.returns-clause-value
returns-clause-value c =
    names_all c.args.main.now c.loop-line.lines c.loop-line.names.items c.loop-line.invariant.reads c.in_default.ensures.end.0

pub returns-clause-count : goal.returns-clause-count
returns-clause-count c =
    let count = names_count c.args.main.now c.loop-line.lines c.loop-line.names.items c.loop-line.invariant.reads c.in_default.ensures.end.0 in
    omega (arith, count, c.loop-line.names.ok.0)
