-- The HTTP date of a moment, by the calendar of `httpdate`.
use Rattle.std.specs.Prelude.{ℕ, zero, suc, ◌+◌, ◌/◌, ◌%◌, nat_lt, if◌then◌else◌, List, []}
use Rattle.httpdate.specs.declared.parts.Parts.{Parts}
use Rattle.httpdate.specs.Calendar.{days_in_month, weekday}
use Rattle.httpdate.specs.Text.{imf_fixdate}

-- a day of the calendar
pub record Day : Type 0 where
  pub year : ℕ
  pub month : ℕ
  pub day : ℕ

-- the day after it: the next of its month, or the first of the next month, or the first of the next year
abbrev pub next_day : Day → Day
next_day d =
    if nat_lt d.day (days_in_month d.year d.month) then record { year = d.year; month = d.month; day = d.day + 1 }
    else (if nat_lt d.month 12 then record { year = d.year; month = d.month + 1; day = 1 } else record { year = d.year + 1; month = 1; day = 1 })

-- the day so many days after 1 January 1970
unfoldable pub day_after : ℕ → Day
day_after zero = record { year = 1970; month = 1; day = 1 }
day_after (suc days) = next_day (day_after days)

-- the date and the time of day of a moment, in seconds after the beginning of that day
abbrev pub date_parts : ℕ → Parts
date_parts moment = record {
  year = (day_after (moment / 86400)).year;
  mon = (day_after (moment / 86400)).month;
  day = (day_after (moment / 86400)).day;
  hour = moment % 86400 / 3600;
  min = moment % 3600 / 60;
  sec = moment % 60;
  wday = weekday (moment / 86400);
}

-- the HTTP date of a moment; no text from the year 10000 on
unfoldable pub date_at : ℕ → List ℕ
date_at moment = if nat_lt moment 253402300800 then imf_fixdate (date_parts moment) else []
