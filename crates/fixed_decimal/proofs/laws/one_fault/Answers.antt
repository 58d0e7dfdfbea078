use Rattle.fixed_decimal.proofs.LeavingLaws.{one_place}
use Rattle.fixed_decimal.proofs.ReadingLaws.{unread_at}
use Rattle.fixed_decimal.proofs.laws.one_fault.Goals as goal

pub returns : goal.returns
returns c = λ text j k leaves. (unread_at text j leaves, λ other. one_place text j k leaves other)
