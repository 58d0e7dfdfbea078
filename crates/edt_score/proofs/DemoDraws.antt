-- The generator: its step, and its states after draws on draws.
use Rattle.std.proofs.Common.{◌≡◌, ◌∙◌, ℕ, ◌+◌, ◌*◌, ◌%◌, ◌^◌, zero, suc, refl, ap, arith}
use Rattle.std.proofs.Math.Nat.{mod-add-mod}
use Rattle.edt_score.specs.Demo.{draw, draw_at, next_state, state_after}

-- a product and a sum that wrap around make the next state
pub step_is : (state : ℕ) → (state * 6364136223846793005 % 2 ^ 64 + 1442695040888963407) % 2 ^ 64 ≡ next_state state
unfolding next_state
step_is state = mod-add-mod (state * 6364136223846793005) (2 ^ 64) 1442695040888963407

-- no draw leaves the state
pub no_draws : (seed : ℕ) → state_after seed 0 ≡ seed
unfolding state_after
no_draws seed = refl

-- one more draw
pub one_draw : (seed draws : ℕ) → next_state (state_after seed draws) ≡ state_after seed (draws + 1)
unfolding state_after
one_draw seed draws = rw (draws_more draws) refl
  where
    draws_more : (n : ℕ) → n + 1 ≡ suc n
    draws_more n = omega arith

-- the state after draws from a state after draws
pub states_add : (seed first more : ℕ) → state_after (state_after seed first) more ≡ state_after seed (first + more)
unfolding state_after
states_add seed first zero = rw (add_zero first) refl
  where
    add_zero : (n : ℕ) → n + zero ≡ n
    add_zero n = omega arith
states_add seed first (suc more) = ap next_state (states_add seed first more) ∙ rw (add_suc first more) refl
  where
    add_suc : (n m : ℕ) → n + suc m ≡ suc (n + m)
    add_suc n m = omega arith

-- a draw by its number, from a state after draws
pub draws_add : (seed first k : ℕ) → draw_at (state_after seed first) k ≡ draw_at seed (first + k)
draws_add seed first k = ap draw (states_add seed first k)
