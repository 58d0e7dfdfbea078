-- The lines of a check, one for each event.
use Rattle.std.specs.Prelude.{ℕ, ◌++◌, List, [], ◌∷◌, length, flat_map, Option, Some, None, codes, decimal}
use Rattle.std.specs.Fmt.{signed_decimal}
use Rattle.std.specs.List.{enumerate_from}
use Rattle.node_boxes.specs.declared.frame.Frame.{Frame}
use Rattle.node_boxes.specs.GridOrder.{place_of}
use Rattle.cover_certificate.specs.Blocks.{LocatedValue}
use Rattle.cover_checker.specs.declared.verdict.Verdict.{Verdict}
use Rattle.cover_checker.specs.declared.verdict.Verdict.TheVariants.{NoClaim, Outside, Twice, Uncovered, WrongBound, NotClosed, WrongScore, NotFirst, NearWrong, Proved}
use Rattle.location_report.specs.Lines.{coordinate}
use Rattle.run_input.specs.Lines.{told_line}
use Rattle.check_top.specs.EventAnswers.{AnswerValue, ProvesEvent, ProvesNoFit, AgreesFew, AgreesMany, UnprovedBudget, UnprovedNearLimit, RefusedBy, RefusedKind}

-- a node: its number, its place on the three axes, and where it lies in millimetres
unfoldable pub node_words : Frame → ℕ → List (List ℕ)
node_words frame node =
    let place : ℕ × ℕ × ℕ = place_of frame.grid node in
    decimal node
    ∷ decimal place.0
    ∷ decimal place.1
    ∷ decimal place.2
    ∷ signed_decimal (coordinate frame.ox frame.dx place.0)
    ∷ signed_decimal (coordinate frame.oy frame.dy place.1)
    ∷ signed_decimal (coordinate frame.oz frame.dz place.2)
    ∷ []

-- a located event: its hypocentre, the score there, and how many nodes are near
abbrev pub event_words : Frame → LocatedValue → List (List ℕ)
event_words frame event = node_words frame event.hyp ++ decimal event.score ∷ decimal (length event.near) ∷ []

-- the name of a verdict
abbrev pub verdict_name : Verdict → List ℕ
verdict_name NoClaim = codes "NOCLAIM"
verdict_name (Outside place) = codes "OUTSIDE"
verdict_name (Twice node) = codes "TWICE"
verdict_name (Uncovered node) = codes "UNCOVERED"
verdict_name (WrongBound place) = codes "WRONGBOUND"
verdict_name (NotClosed place) = codes "NOTCLOSED"
verdict_name (WrongScore node) = codes "WRONGSCORE"
verdict_name (NotFirst node) = codes "NOTFIRST"
verdict_name (NearWrong place) = codes "NEARWRONG"
verdict_name Proved = codes "PROVED"

-- the number that a verdict shows
abbrev pub verdict_number : Verdict → Option ℕ
verdict_number NoClaim = None
verdict_number (Outside place) = Some place
verdict_number (Twice node) = Some node
verdict_number (Uncovered node) = Some node
verdict_number (WrongBound place) = Some place
verdict_number (NotClosed place) = Some place
verdict_number (WrongScore node) = Some node
verdict_number (NotFirst node) = Some node
verdict_number (NearWrong place) = Some place
verdict_number Proved = None

-- the words of a number, where there is one
abbrev pub number_words : Option ℕ → List (List ℕ)
number_words None = []
number_words (Some number) = decimal number ∷ []

-- the words of an answer
abbrev pub answer_words : Frame → AnswerValue → List (List ℕ)
answer_words frame (ProvesEvent event) = codes "PROVED" ∷ event_words frame event
answer_words frame ProvesNoFit = codes "PROVED" ∷ codes "NOFIT" ∷ []
answer_words frame AgreesFew = codes "AGREED" ∷ codes "FEW" ∷ []
answer_words frame AgreesMany = codes "AGREED" ∷ codes "MANY" ∷ []
answer_words frame UnprovedBudget = codes "UNPROVED" ∷ codes "BUDGET" ∷ []
answer_words frame UnprovedNearLimit = codes "UNPROVED" ∷ codes "NEARLIMIT" ∷ []
answer_words frame (RefusedBy verdict) = codes "REFUSED" ∷ verdict_name verdict ∷ number_words (verdict_number verdict)
answer_words frame RefusedKind = codes "REFUSED" ∷ codes "KIND" ∷ []

-- the line of an event, by its number and the answer for it
unfoldable pub check_line : Frame → ℕ × AnswerValue → List ℕ
check_line frame event = told_line (codes "CHECK") (decimal event.0 ∷ answer_words frame event.1)

-- the lines of the events of these answers, numbered from 1
abbrev pub check_lines : Frame → List AnswerValue → List ℕ
check_lines frame answers = flat_map (check_line frame) (enumerate_from 1 answers)
