use Rattle.std.specs.Prelude.{codes}
use Rattle.std.proofs.Common.{refl, lit≤, ◌≡◌, ◌∙◌}
use Rattle.control_reader.specs.ControlValues.{values_of}
use Rattle.event_assembly.specs.Names.{header_name}
use Rattle.event_assembly.proofs.NameLaws.{header_name-joined, file_name, named}
use Rattle.event_assembly.proofs.names.header_name.Goals as goal

pub of_valid-requires : goal.of_valid-requires
of_valid-requires c = record {
  form =
      file_name c.as_str-root.result.now c.as_str-phase.result.now c.as_str-station.result.now (codes ".time.hdr") c.as_bytes.result.now
      (c.as_bytes.ensures.value ∙ c.in_ok-text.ensures.ok) (rw c.as_str-root.ensures.text c.requires.root)
      (rw c.as_str-phase.ensures.text c.requires.key.grid_phase) (rw c.as_str-station.ensures.text c.requires.key.station) (lit≤ tt) refl;
}

pub returns : goal.returns
returns c =
    let text = c.in_ok-text.ensures.ok in
    named c.of_valid.result (λ name. name ≡ c.as_bytes.result.now) (λ name. name ≡ header_name (values_of c.args.control.now) c.args.key.now) c.of_valid.ensures.name
    (λ name same. same ∙ c.as_bytes.ensures.value ∙ text
    ∙ rw (c.as_str-root.ensures.text, c.as_str-phase.ensures.text, c.as_str-station.ensures.text) (header_name-joined (values_of c.args.control.now) c.args.key.now))
