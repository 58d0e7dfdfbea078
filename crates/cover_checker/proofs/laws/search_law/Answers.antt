use Rattle.cover_checker.proofs.SearchLaws.{field_search_proved, search_proved}
use Rattle.cover_checker.proofs.laws.search_law.Goals as goal

pub returns-clause-found : goal.returns-clause-found
returns-clause-found c = search_proved

pub returns-clause-field : goal.returns-clause-field
returns-clause-field c = field_search_proved
