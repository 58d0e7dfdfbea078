use Rattle.std.proofs.Common.{All, rules, subst, sym, Vec, Global}
use Rattle.std.proofs.lemmas.List.Elements.{All-push}
use Rattle.control_reader.specs.Limits.{IsControl, IsDelay}
use Rattle.control_reader.specs.declared.control.Control.{Control}
use Rattle.control_reader.specs.declared.control.Delay.{Delay}
use Rattle.event_trials.proofs.used_picks.add_delay.Goals as goal

-- a control with other delays
with_delays : (control : Control) (delays : Vec Delay Global) → IsControl control → All IsDelay delays.items → IsControl (record control { delays = delays })
with_delays control delays is all = search rules

pub returns : goal.returns
returns c =
    with_delays c.args.control.now c.push.new.self c.requires.control
    (subst (All IsDelay) (sym c.in_ok-push.ensures.items) (All-push IsDelay c.args.control.now.delays.items _ c.requires.control.delays c.in_ok-delay_of.ensures))
