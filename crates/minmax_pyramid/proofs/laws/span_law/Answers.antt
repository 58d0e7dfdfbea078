use Rattle.minmax_pyramid.proofs.Enclosing.{span-node, span-part, span-single}
use Rattle.minmax_pyramid.proofs.laws.span_law.Goals as goal

pub returns-clause-node : goal.returns-clause-node
returns-clause-node c g time a node below held = span-node g time a node below held

pub returns-clause-part : goal.returns-clause-part
returns-clause-part c g time a part inside is = span-part g time a part inside is

pub returns-clause-single : goal.returns-clause-single
returns-clause-single c g time a inside single = span-single g time a inside single
