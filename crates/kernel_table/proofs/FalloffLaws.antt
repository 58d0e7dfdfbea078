-- What is known of any two answers of the closure in a falloff.
use Rattle.std.proofs.Common.{ℕ, ◌≤◌, arith}
use Rattle.std.specs.Fn.{Shared}
use Rattle.kernel_table.specs.declared.stored.Falloff.{Falloff}
use Rattle.kernel_table.specs.Falloff.{InRange, AnswersItsShape}
use Rattle.kernel_table.proofs.KernelLaws.{kernel_value-never_rises, kernel_value-never_falls}

module _ {F : Type 0} (calls : Shared F (ℕ × (ℕ × Unit {0})) ℕ) (falloff : Falloff F) (kept : AnswersItsShape calls falloff) where
  -- they never rise with the misfit
  pub answers-never_rise : (misfit other scale near far : ℕ) → InRange misfit scale → InRange other scale → misfit ≤ other
      → calls.post falloff.closure (misfit, (scale, tt)) near → calls.post falloff.closure (other, (scale, tt)) far → far ≤ near
  answers-never_rise misfit other scale near far p q h gave_near gave_far =
      omega (arith, kept.answers misfit scale near p gave_near, kept.answers other scale far q gave_far, kernel_value-never_rises falloff.shape misfit other scale p.some_scale h)

  -- and never fall with the scale
  pub answers-never_fall : (misfit scale other narrow wide : ℕ) → InRange misfit scale → InRange misfit other → scale ≤ other
      → calls.post falloff.closure (misfit, (scale, tt)) narrow → calls.post falloff.closure (misfit, (other, tt)) wide → narrow ≤ wide
  answers-never_fall misfit scale other narrow wide p q h gave_narrow gave_wide =
      omega (arith, kept.answers misfit scale narrow p gave_narrow, kept.answers misfit other wide q gave_wide, kernel_value-never_falls falloff.shape misfit scale other p.some_scale h)
