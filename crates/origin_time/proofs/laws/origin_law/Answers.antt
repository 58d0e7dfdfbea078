use Rattle.origin_time.proofs.Functions.{origin_is, rms_is}
use Rattle.origin_time.proofs.Uniqueness.{one_origin, one_rms}
use Rattle.origin_time.proofs.laws.origin_law.Goals as goal

pub returns-clause-origin : goal.returns-clause-origin
returns-clause-origin c = one_origin

pub returns-clause-rms : goal.returns-clause-rms
returns-clause-rms c = one_rms

pub returns-clause-origin_value : goal.returns-clause-origin_value
returns-clause-origin_value c = origin_is

pub returns-clause-rms_value : goal.returns-clause-rms_value
returns-clause-rms_value c = rms_is
