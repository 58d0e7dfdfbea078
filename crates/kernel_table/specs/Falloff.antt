-- What is known of a closure that stands for a kernel.
use Rattle.std.specs.Prelude.{◌≡◌, ℕ, ◌^◌, ◌<◌, ◌≤◌}
use Rattle.std.specs.Fn.{Shared}
use Rattle.kernel_table.specs.declared.kernels.Shape.{Shape}
use Rattle.kernel_table.specs.declared.stored.Falloff.{Falloff}
use Rattle.kernel_table.specs.Kernel.{kernel_value}

-- a misfit and a scale that the program can pass: any misfit, and any scale from 1
pub record InRange (misfit scale : ℕ) : Type 0 where
  pub misfit_fits : misfit < 2 ^ 64
  pub some_scale : 1 ≤ scale
  pub scale_fits : scale < 2 ^ 64

-- the shape that a falloff was made with
abbrev pub shape_of : {F : Type 0} → Falloff F → Shape
shape_of falloff = falloff.shape

module _ {F : Type 0} (calls : Shared F (ℕ × (ℕ × Unit {0})) ℕ) where
  -- the closure may be called at every misfit and scale, and answers their value
  pub record Computes (closure : F) (value : ℕ → ℕ → ℕ) : Type 0 where
    pub callable : (misfit scale : ℕ) → InRange misfit scale → calls.pre closure (misfit, (scale, tt))
    pub answers : (misfit scale answer : ℕ) → InRange misfit scale → calls.post closure (misfit, (scale, tt)) answer → answer ≡ value misfit scale

  -- the closure of a falloff answers the value of its shape
  abbrev pub AnswersItsShape : Falloff F → Type 0
  AnswersItsShape falloff = Computes falloff.closure (kernel_value falloff.shape)
