-- What a report says of a configuration (own rule).
use Rattle.std.specs.Prelude.{◌≡◌, ◌⊎◌, ℕ, ◌-◌, ◌*◌, ◌==◌, nat_lt, Bool, not, ◌&&◌, ◌||◌, if◌then◌else◌, List, [], ◌∷◌, ◌++◌, filter, length, codes, decimal, Result, Ok}
use Rattle.std.specs.List.{flat_map}
use Rattle.uw_model.specs.declared.conf.CacheConf.{CacheConf}
use Rattle.uw_model.specs.AreaLayout.{area_words}
use Rattle.uw_model.specs.Layout.{words_of}
use Rattle.uw_rules.specs.declared.compiled.RuleTable.{RuleTable}
use Rattle.uw_rules.specs.Compiled.{rules_of}
use Rattle.uw_conf.specs.declared.conf.Conf.{Conf}
use Rattle.uw_conf.specs.declared.conf.ConfFault.{ConfFault}
use Rattle.uw_conf.specs.Given.{ReadsConf}
use Rattle.uw_ends.specs.Ends.{name_of}
use Rattle.uw_check.specs.declared.reporting.Report.{Report}
use Rattle.uw_check.specs.Checking.{TellsRefused, most_told}

-- a byte as a report shows it: a `?` (63) for each that would move the cursor
abbrev pub shown_byte : ℕ → ℕ
shown_byte byte = if nat_lt byte 32 || byte == 127 then 63 else byte

-- a byte that goes on with a character of UTF-8
abbrev pub goes_on : ℕ → Bool
goes_on byte = nat_lt 127 byte && nat_lt byte 192

-- so many bytes of a text, with the rest of the character that they end in, as a report shows them; `..` stands for more
abbrev pub shown_part : ℕ → List ℕ → List ℕ
shown_part ahead [] = []
shown_part ahead (byte ∷ text) =
    if ahead == 0 && not (goes_on byte) then codes ".." else shown_byte byte ∷ shown_part (ahead - 1) text

-- a text as a report shows it
abbrev pub shown : List ℕ → List ℕ
shown text = codes "`" ++ shown_part 60 text ++ codes "`"

-- a number and what it counts: one of them, or another number
abbrev pub count_text : ℕ → List ℕ → List ℕ → List ℕ
count_text count one more = decimal count ++ codes " " ++ (if count == 1 then one else more)

-- a cache as a report shows it: its name, its items and the bytes of its region
abbrev pub shown_cache : CacheConf → List ℕ
shown_cache cache =
    shown cache.name ++ codes " " ++ count_text cache.items (codes "item") (codes "items") ++ codes " in "
    ++ decimal (8 * words_of cache) ++ codes " bytes"

-- an area as a report shows it: its bytes, and those of its region
abbrev pub shown_area : ℕ → List ℕ
shown_area size = decimal size ++ codes " in " ++ decimal (8 * area_words size) ++ codes " bytes"

-- each cache in brackets, parted by commas; nothing where there is none
abbrev pub caches_listed : List CacheConf → List ℕ
caches_listed [] = []
caches_listed (cache ∷ caches) =
    codes " (" ++ shown_cache cache ++ flat_map (λ (more : CacheConf). codes ", " ++ shown_cache more) caches ++ codes ")"

-- the same of areas
abbrev pub areas_listed : List ℕ → List ℕ
areas_listed [] = []
areas_listed (size ∷ sizes) =
    codes " (" ++ shown_area size ++ flat_map (λ (more : ℕ). codes ", " ++ shown_area more) sizes ++ codes ")"

-- how many caches and areas there are, and each of them
abbrev pub parts_text : List CacheConf → List ℕ → List ℕ
parts_text caches areas =
    count_text (length caches) (codes "cache") (codes "caches") ++ caches_listed caches ++ codes ", "
    ++ count_text (length areas) (codes "area") (codes "areas") ++ areas_listed areas

-- how many rules of requests and of tasks there are
abbrev pub rules_text : RuleTable → RuleTable → List ℕ
rules_text routes tasks =
    codes ", " ++ count_text (length (rules_of routes)) (codes "rule of requests") (codes "rules of requests") ++ codes ", "
    ++ count_text (length (rules_of tasks)) (codes "rule of tasks") (codes "rules of tasks")

-- the socket, if there is one
abbrev pub socket_text : List ℕ → List ℕ
socket_text socket = if length socket == 0 then codes ", no socket" else codes ", socket " ++ shown socket

-- the line that says what a site has
abbrev pub site_line : List ℕ → Conf → List ℕ
site_line path conf =
    path ++ codes ": taken: " ++ parts_text conf.caches conf.areas ++ rules_text conf.routes conf.tasks ++ codes ", "
    ++ count_text conf.workers (codes "worker") (codes "workers") ++ socket_text conf.socket ++ codes "\n"

-- the line of a refused line: where it stands, its cause as a run names it, and a sentence without its line feeds (10)
abbrev pub fault_line : List ℕ → ConfFault → List ℕ → List ℕ
fault_line path fault sentence =
    path ++ codes ":" ++ decimal fault.line ++ codes ": " ++ name_of fault.kind ++ codes ": "
    ++ filter (λ byte. not (byte == 10)) sentence ++ codes "\n"

-- a text has a line for each of the faults, in their order, and no other
abbrev pub TellsEach : List ℕ → List ConfFault → List ℕ → Type 0
TellsEach path [] text = text ≡ []
TellsEach path (fault ∷ faults) text =
    (sentence : List ℕ) × (rest : List ℕ) × (text ≡ fault_line path fault sentence ++ rest) × TellsEach path faults rest

-- the line behind the others where as many are told as may be
abbrev pub more_line : List ℕ → ℕ → List ℕ
more_line path count =
    if count == most_told then path ++ codes ": these are the first 50 lines, and there may be more\n" else []

-- the report on a text that is taken: what the site has, and then what no clause says
pub record SaysTaken (path text : List ℕ) (before after : ℕ) (report : Report) : Type 0 where
  pub conf : Conf
  pub taken : ReadsConf text before after (Ok conf)
  pub rest : List ℕ
  pub says : report.text ≡ site_line path conf ++ rest
  pub status : report.status ≡ 0

-- the report on a text that is not taken: a line for each of its refused lines
pub record SaysRefused (path text : List ℕ) (before after : ℕ) (report : Report) : Type 0 where
  pub faults : List ConfFault
  pub refused : TellsRefused text before after faults
  pub lines : List ℕ
  pub each : TellsEach path faults lines
  pub says : report.text ≡ lines ++ more_line path (length faults)
  pub status : report.status ≡ 2

-- a report says of a text what a check finds
abbrev pub Reports : List ℕ → List ℕ → ℕ → ℕ → Report → Type 0
Reports path text before after report = SaysTaken path text before after report ⊎ SaysRefused path text before after report
