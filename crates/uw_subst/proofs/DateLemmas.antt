-- The day so many days after 1 January 1970, and the date of a moment, against the calendar of `httpdate`.
use Rattle.std.proofs.Common.{◌≡◌, ℕ, zero, suc, ◌+◌, ◌-◌, ◌*◌, ◌/◌, ◌%◌, ◌<◌, ◌≤◌, Bool, true, false, if◌then◌else◌, nat_lt, [], refl, sym, ap, ◌∙◌, arith, Result, Ok, Err, IsOk, IfOk, MatchOption}
use Rattle.std.specs.Result.{result_ok}
use Rattle.std.proofs.lemmas.Bool.{false≢true}
use Rattle.std.proofs.lemmas.Bool.Decides.{nat_tests}
use Rattle.std.specs.Int.{IsInRange}
use Rattle.httpdate.specs.declared.date.HttpDate.{HttpDate}
use Rattle.httpdate.specs.Calendar.{days_in_month, days_in_year, days_of_months, days_of_years, days_from_civil, weekday}
use Rattle.httpdate.specs.Date.{date_text, unix_secs}
use Rattle.httpdate.specs.Text.{imf_fixdate}
use Rattle.httpdate.proofs.CalendarLemmas.{days_from_civil_bound, days_of_months_all, days_of_months_more, days_of_years_closed}
use Rattle.httpdate.proofs.Theorems.{unix_secs_injective}
use Rattle.uw_subst.specs.Dates.{Day, day_after, date_at, date_parts}

-- a day of the calendar with so many days before it
record IsDay (n : ℕ) (d : Day) : Type 0 where
  year : 1970 ≤ d.year
  month : IsInRange 1 12 d.month
  day : IsInRange 1 (days_in_month d.year d.month) d.day
  days : days_from_civil d.year d.month d.day ≡ n

some_days : (y m : ℕ) → 1 ≤ days_in_month y m
some_days y m = grind (arith, nat_tests)

year_more : (y : ℕ) → 1970 ≤ y → days_of_years (y + 1 - 1970) ≡ days_of_years (y - 1970) + days_in_year y
unfolding days_of_years
year_more y h =
    let next : y + 1 - 1970 ≡ suc (y - 1970) = omega arith in
    let same : 1970 + (y - 1970) ≡ y = omega arith in
    ap days_of_years next ∙ ap (λ (z : ℕ). days_of_years (y - 1970) + days_in_year z) same

no_months : (y : ℕ) → days_of_months y (1 - 1) ≡ 0
unfolding days_of_months
no_months y = refl

next_case : (day_left month_left : Bool) (n : ℕ) (d : Day) → nat_lt d.day (days_in_month d.year d.month) ≡ day_left → nat_lt d.month 12 ≡ month_left → IsDay n d
    → IsDay (suc n) (if day_left then record { year = d.year; month = d.month; day = d.day + 1 }
    else (if month_left then record { year = d.year; month = d.month + 1; day = 1 } else record { year = d.year + 1; month = 1; day = 1 }))
next_case true month_left n d left _ h =
    let below : d.day < days_in_month d.year d.month = grind (arith, nat_tests) in
    let first = h.day.0 in
    let days = h.days in
    record { year = h.year; month = h.month; day = (omega arith, omega arith); days = omega arith }
next_case false true n d left months h =
    let last : days_in_month d.year d.month ≤ d.day = grind (arith, nat_tests) in
    let below : d.month < 12 = grind (arith, nat_tests) in
    let within = h.day.1 in
    let first = h.day.0 in
    let month = h.month.0 in
    let days = h.days in
    let more = days_of_months_more d.year d.month month in
    let back : d.month + 1 - 1 ≡ d.month = omega arith in
    record {
      year = h.year;
      month = (omega arith, omega arith);
      day = (omega arith, some_days d.year (d.month + 1));
      days = rw back (omega arith);
    }
next_case false false n d left months h =
    let last : days_in_month d.year d.month ≤ d.day = grind (arith, nat_tests) in
    let above : 12 ≤ d.month = grind (arith, nat_tests) in
    let within = h.day.1 in
    let first = h.day.0 in
    let days = h.days in
    let month : d.month ≡ 12 = omega (arith, h.month.1) in
    let more = days_of_months_more d.year d.month h.month.0 in
    let all = ap (days_of_months d.year) month ∙ days_of_months_all d.year in
    let year = year_more d.year h.year in
    let none = no_months (d.year + 1) in
    record { year = omega (arith, h.year); month = (omega arith, omega arith); day = (omega arith, some_days (d.year + 1) 1); days = omega arith }

first_day : IsDay 0 (record { year = 1970; month = 1; day = 1 })
unfolding days_of_years days_of_months
first_day = record { year = omega arith; month = (omega arith, omega arith); day = (omega arith, some_days 1970 1); days = refl }

IsDay-day_after : (n : ℕ) → IsDay n (day_after n)
unfolding day_after
IsDay-day_after zero = first_day
IsDay-day_after (suc n) =
    let d = day_after n in
    next_case (nat_lt d.day (days_in_month d.year d.month)) (nat_lt d.month 12) n d refl refl (IsDay-day_after n)

-- a day before the year 10000 lies in one of four digits
four_digits : (n : ℕ) (d : Day) → IsDay n d → n < 2932897 → d.year ≤ 9999
four_digits n d h before = omega (arith, h.days, h.year, days_of_years_closed (d.year - 1970))

clock_back : (n : ℕ) → n / 86400 * 86400 + n % 86400 / 3600 * 3600 + n % 3600 / 60 * 60 + n % 60 ≡ n
clock_back n = omega arith

-- the date of a moment
pub date_of_moment : (n : ℕ) → n < 253402300800 → (date : HttpDate) × (unix_secs date ≡ n) × (date.parts ≡ date_parts n)
date_of_moment n before =
    let h = IsDay-day_after (n / 86400) in
    let year = four_digits (n / 86400) (day_after (n / 86400)) h (omega arith) in
    let date : HttpDate = record {
      parts = date_parts n;
      civil = ((h.year, year), h.month, h.day);
      time = (omega arith, omega arith, omega arith);
      right_day = ap weekday (sym h.days);
    } in
    (date, ap (λ (days : ℕ). days * 86400 + n % 86400 / 3600 * 3600 + n % 3600 / 60 * 60 + n % 60) h.days ∙ clock_back n, refl)

second_bound : (date : HttpDate) → unix_secs date < 253402300800
second_bound date = omega (arith, days_from_civil_bound _ _ _ date.civil, date.time.0, date.time.1, date.time.2)

date_at_before : (n : ℕ) → n < 253402300800 → date_at n ≡ imf_fixdate (date_parts n)
unfolding date_at
date_at_before n h = grind (arith, nat_tests)

-- the date at the moment of a date of `httpdate` is its text
pub date_at_date : (date : HttpDate) (n : ℕ) → unix_secs date ≡ n → date_at n ≡ date_text date
date_at_date date n same =
    let before : n < 253402300800 = omega (arith, second_bound date) in
    let other = date_of_moment n before in
    date_at_before n before ∙ ap imf_fixdate (sym other.2 ∙ unix_secs_injective other.0 date (other.1 ∙ sym same))

-- there is none from the year 10000 on
pub date_at_none : (n : ℕ) → 253402300800 ≤ n → date_at n ≡ []
unfolding date_at
date_at_none n h = grind (arith, nat_tests)

-- what the reading of a moment's date answers
pub date_result : {E : Type 0} (r : Result HttpDate E) (m n : ℕ) → m ≡ n → (m < 253402300800 → IsOk r) → IfOk r (λ date. unix_secs date ≡ m) → MatchOption (result_ok r) (date_at n ≡ []) (λ date. date_at n ≡ date_text date)
date_result (Ok date) m n same some second = date_at_date date n (second ∙ same)
date_result (Err e) m n same some second = let never : m < 253402300800 → ⊥ = λ before. false≢true (some before) in date_at_none n (omega arith)
