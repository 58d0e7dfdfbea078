-- What a check finds of an event: what its certificate is worth.
use Rattle.std.specs.Prelude.{ℕ, Bool, true, false, List}
use Rattle.kernel_table.specs.declared.kernels.Shape.{Shape}
use Rattle.node_boxes.specs.Grid.{node_count}
use Rattle.edt_score.specs.Field.{FieldTimes, time_at}
use Rattle.edt_score.specs.Score.{score_of}
use Rattle.edt_score.specs.declared.problem.ProblemPick.{ProblemPick}
use Rattle.event_assembly.specs.AssemblyValues.{EventCase, Ready, Few, Many}
use Rattle.cover_certificate.specs.Blocks.{BlockValue, LocatedValue, IsLocated, FitsNowhere, HasFew, HasMany, PassesBudget, PassesNearLimit, located_value}
use Rattle.cover_checker.specs.declared.verdict.Verdict.{Verdict}
use Rattle.cover_checker.specs.declared.verdict.Verdict.TheVariants.{NoClaim, Outside, Twice, Uncovered, WrongBound, NotClosed, WrongScore, NotFirst, NearWrong, Proved}
use Rattle.cover_checker.specs.Locations.{IsLocation, NoneScores}
use Rattle.cover_checker.specs.Scorings.{field_scoring}
use Rattle.cover_checker.specs.Verdicts.{verdict_of}
use Rattle.check_top.specs.declared.answer.Answer.{Answer}
use Rattle.check_top.specs.declared.answer.Answer.TheVariants.{Event as answer_event, NoFit as answer_no_fit, Few as answer_few, Many as answer_many, Budget as answer_budget, NearLimit as answer_near_limit, Refused as answer_refused, Kind as answer_kind}

-- the certificate proves where the event is, or that no node scores; it agrees that few or many picks are used; it claims nothing that
-- could be proved; or it is refused, by a verdict or since it is none of such an event
pub data AnswerValue : Type 0 where
  ProvesEvent : LocatedValue → AnswerValue
  ProvesNoFit : AnswerValue
  AgreesFew : AnswerValue
  AgreesMany : AnswerValue
  UnprovedBudget : AnswerValue
  UnprovedNearLimit : AnswerValue
  RefusedBy : Verdict → AnswerValue
  RefusedKind : AnswerValue

-- the value of an answer
abbrev pub answer_value : Answer → AnswerValue
answer_value (answer_event event) = ProvesEvent (located_value event.now)
answer_value answer_no_fit = ProvesNoFit
answer_value answer_few = AgreesFew
answer_value answer_many = AgreesMany
answer_value answer_budget = UnprovedBudget
answer_value answer_near_limit = UnprovedNearLimit
answer_value (answer_refused verdict) = RefusedBy verdict
answer_value answer_kind = RefusedKind

-- a claim that is proved, or refused by the verdict over it
abbrev pub unless_refused : AnswerValue → Verdict → AnswerValue
unless_refused claim NoClaim = RefusedBy NoClaim
unless_refused claim (Outside place) = RefusedBy (Outside place)
unless_refused claim (Twice node) = RefusedBy (Twice node)
unless_refused claim (Uncovered node) = RefusedBy (Uncovered node)
unless_refused claim (WrongBound place) = RefusedBy (WrongBound place)
unless_refused claim (NotClosed place) = RefusedBy (NotClosed place)
unless_refused claim (WrongScore node) = RefusedBy (WrongScore node)
unless_refused claim (NotFirst node) = RefusedBy (NotFirst node)
unless_refused claim (NearWrong place) = RefusedBy (NearWrong place)
unless_refused claim Proved = claim

-- the answer for an event that has a problem, given the verdict over its certificate
abbrev pub ready_answer : BlockValue → Verdict → AnswerValue
ready_answer (IsLocated event) verdict = unless_refused (ProvesEvent event) verdict
ready_answer (FitsNowhere boxes) verdict = unless_refused ProvesNoFit verdict
ready_answer HasFew verdict = RefusedKind
ready_answer HasMany verdict = RefusedKind
ready_answer PassesBudget verdict = UnprovedBudget
ready_answer PassesNearLimit verdict = UnprovedNearLimit

-- for an event of few used picks
abbrev pub few_answer : BlockValue → AnswerValue
few_answer (IsLocated event) = RefusedKind
few_answer (FitsNowhere boxes) = RefusedKind
few_answer HasFew = AgreesFew
few_answer HasMany = RefusedKind
few_answer PassesBudget = RefusedKind
few_answer PassesNearLimit = RefusedKind

-- for an event of many
abbrev pub many_answer : BlockValue → AnswerValue
many_answer (IsLocated event) = RefusedKind
many_answer (FitsNowhere boxes) = RefusedKind
many_answer HasFew = RefusedKind
many_answer HasMany = AgreesMany
many_answer PassesBudget = RefusedKind
many_answer PassesNearLimit = RefusedKind

-- for any event, by a kernel, the travel times of a field and a margin
unfoldable pub answer_of : Shape → FieldTimes → ℕ → EventCase → BlockValue → AnswerValue
answer_of shape field margin (Ready picks) block =
    ready_answer block (verdict_of (field_scoring shape field picks) margin block)
answer_of shape field margin Few block = few_answer block
answer_of shape field margin Many block = many_answer block

-- the certificate is refused
abbrev pub is_refused : AnswerValue → Bool
is_refused (ProvesEvent event) = false
is_refused ProvesNoFit = false
is_refused AgreesFew = false
is_refused AgreesMany = false
is_refused UnprovedBudget = false
is_refused UnprovedNearLimit = false
is_refused (RefusedBy verdict) = true
is_refused RefusedKind = true

-- what is proved of picks is true of all nodes: the hypocentre is the first that no node exceeds in score, and the near list is that
-- of all nodes; or every node scores 0
abbrev pub IsTrueOfPicks : Shape → FieldTimes → ℕ → List ProblemPick → AnswerValue → Type 0
IsTrueOfPicks shape field margin picks (ProvesEvent event) =
    IsLocation (node_count field.grid) (score_of shape (time_at field) picks) margin event
IsTrueOfPicks shape field margin picks ProvesNoFit = NoneScores (node_count field.grid) (score_of shape (time_at field) picks)
IsTrueOfPicks shape field margin picks AgreesFew = ⊥
IsTrueOfPicks shape field margin picks AgreesMany = ⊥
IsTrueOfPicks shape field margin picks UnprovedBudget = Unit {0}
IsTrueOfPicks shape field margin picks UnprovedNearLimit = Unit {0}
IsTrueOfPicks shape field margin picks (RefusedBy verdict) = Unit {0}
IsTrueOfPicks shape field margin picks RefusedKind = Unit {0}

-- an event of few or many used picks is agreed to be so, or its certificate is refused
abbrev pub IsFewAnswer : AnswerValue → Type 0
IsFewAnswer (ProvesEvent event) = ⊥
IsFewAnswer ProvesNoFit = ⊥
IsFewAnswer AgreesFew = Unit {0}
IsFewAnswer AgreesMany = ⊥
IsFewAnswer UnprovedBudget = ⊥
IsFewAnswer UnprovedNearLimit = ⊥
IsFewAnswer (RefusedBy verdict) = ⊥
IsFewAnswer RefusedKind = Unit {0}

abbrev pub IsManyAnswer : AnswerValue → Type 0
IsManyAnswer (ProvesEvent event) = ⊥
IsManyAnswer ProvesNoFit = ⊥
IsManyAnswer AgreesFew = ⊥
IsManyAnswer AgreesMany = Unit {0}
IsManyAnswer UnprovedBudget = ⊥
IsManyAnswer UnprovedNearLimit = ⊥
IsManyAnswer (RefusedBy verdict) = ⊥
IsManyAnswer RefusedKind = Unit {0}

-- what an answer says of an event is true
abbrev pub IsTrueAnswer : Shape → FieldTimes → ℕ → EventCase → AnswerValue → Type 0
IsTrueAnswer shape field margin (Ready picks) answer = IsTrueOfPicks shape field margin picks answer
IsTrueAnswer shape field margin Few answer = IsFewAnswer answer
IsTrueAnswer shape field margin Many answer = IsManyAnswer answer
