-- Days of the calendar.
use Rattle.location_report.specs.declared.dates.CivilDay.{CivilDay}
use Rattle.location_report.specs.Dates.{CivilDate}

-- the date of a day of the calendar
abbrev pub civil_value : CivilDay → CivilDate
civil_value day = record { year = day.year; month = day.month; day = day.day }
