use Rattle.std.proofs.Common.{arith}
use Rattle.kernel_table.proofs.KernelLaws.{kernel_value-le, kernel_value-never_rises, kernel_value-never_falls}
use Rattle.kernel_table.proofs.stored.Falloff.value.Goals as goal

pub returns : goal.returns
returns g c =
    let shape = c.args.self.now.shape in
    let misfit = c.args.misfit in
    let scale = c.args.scale in
    let value = c.requires.answers.answers misfit scale c.closure.result (record { misfit_fits = omega arith; some_scale = omega arith; scale_fits = omega arith }) c.closure.ensures in
    record {
      value = value;
      at_most = omega (arith, value, kernel_value-le shape misfit scale);
      never_rises = λ other h. omega (arith, value, kernel_value-never_rises shape misfit other scale (omega arith) h);
      never_falls = λ other h. omega (arith, value, kernel_value-never_falls shape misfit scale other (omega arith) h);
    }
