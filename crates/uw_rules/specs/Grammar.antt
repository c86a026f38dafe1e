-- The grammar of rules, as tables ("InternalRouting").
use Rattle.std.specs.Prelude.{ℕ, Bool, true, false, if◌then◌else◌, List, [], ◌∷◌, codes, Option, None, Some}
use Rattle.std.specs.Str.{bytes_eq}
use Rattle.uw_rules.specs.declared.grammar.Subject.{Subject}
use Rattle.uw_rules.specs.declared.grammar.Subject.TheVariants as subjects
use Rattle.uw_rules.specs.declared.grammar.Table.{Table}
use Rattle.uw_rules.specs.declared.grammar.Table.TheVariants as tables
use Rattle.uw_rules.specs.declared.grammar.LineKind.{LineKind}
use Rattle.uw_rules.specs.declared.grammar.LineKind.TheVariants as kinds
use Rattle.uw_rules.specs.declared.grammar.TextKind.{TextKind}
use Rattle.uw_rules.specs.declared.grammar.TextKind.TheVariants as texts
use Rattle.uw_rules.specs.declared.grammar.ConditionName.{ConditionName}
use Rattle.uw_rules.specs.declared.grammar.ConditionName.TheVariants as conditions
use Rattle.uw_rules.specs.declared.grammar.ActionName.{ActionName}
use Rattle.uw_rules.specs.declared.grammar.ActionName.TheVariants as actions

-- ---- options

-- the options of rules: the table of each, and what a line of it is
abbrev pub option_rows : List (List ℕ × (Table × LineKind))
option_rows =
    (codes "route", (tables.Requests, kinds.Pattern subjects.PathInfo))
    ∷ (codes "route-host", (tables.Requests, kinds.Pattern subjects.HttpHost))
    ∷ (codes "route-uri", (tables.Requests, kinds.Pattern subjects.RequestUri))
    ∷ (codes "route-qs", (tables.Requests, kinds.Pattern subjects.QueryString))
    ∷ (codes "route-remote-addr", (tables.Requests, kinds.Pattern subjects.RemoteAddr))
    ∷ (codes "route-run", (tables.Requests, kinds.Always))
    ∷ (codes "route-if", (tables.Requests, kinds.Condition false))
    ∷ (codes "route-if-not", (tables.Requests, kinds.Condition true))
    ∷ (codes "route-label", (tables.Requests, kinds.Label))
    ∷ (codes "spool-run", (tables.Tasks, kinds.Always))
    ∷ (codes "spool-if", (tables.Tasks, kinds.Condition false))
    ∷ (codes "spool-if-not", (tables.Tasks, kinds.Condition true))
    ∷ (codes "spool-label", (tables.Tasks, kinds.Label))
    ∷ []

-- the variable of a request that a pattern is matched with
abbrev pub subject_variable : Subject → List ℕ
subject_variable subjects.PathInfo = codes "PATH_INFO"
subject_variable subjects.HttpHost = codes "HTTP_HOST"
subject_variable subjects.RequestUri = codes "REQUEST_URI"
subject_variable subjects.QueryString = codes "QUERY_STRING"
subject_variable subjects.RemoteAddr = codes "REMOTE_ADDR"

-- what stands beside a name in a table
abbrev pub named : {X : Type 0} → List (List ℕ × X) → List ℕ → Option X
named [] name = None
named (row ∷ rows) name = if bytes_eq row.0 name then Some row.1 else named rows name

-- the table of an option, and what a line of it is
unfoldable pub kind_of_line : List ℕ → Option (Table × LineKind)
kind_of_line option = named option_rows option

-- ---- arguments

-- a key of an argument list: the kind of its text, and whether it must stand
pub record KeyRow : Type 0 where
  pub key : List ℕ
  pub kind : TextKind
  pub required : Bool

-- what stands behind the `:` of a condition or an action: nothing, and no `:`; a text that may be left out; a text; two texts, before and behind the first such byte;
-- pairs `key=text` of these keys, joined by commas; or such pairs of any keys
pub data ArgumentShape : Type 0 where
  bare : ArgumentShape
  optional_text : TextKind → ArgumentShape
  whole_text : TextKind → ArgumentShape
  divided_text : ℕ → TextKind → TextKind → ArgumentShape
  keyed_texts : List KeyRow → ArgumentShape
  free_texts : TextKind → ArgumentShape

-- a key that must stand
abbrev pub needed : List ℕ → TextKind → KeyRow
needed key kind = record { key = key; kind = kind; required = true }

-- a key that may be left out
abbrev pub allowed : List ℕ → TextKind → KeyRow
allowed key kind = record { key = key; kind = kind; required = false }

-- the pairs of an action that writes an entry
abbrev pub writing_keys : List KeyRow
writing_keys =
    needed (codes "key") texts.Template ∷ needed (codes "value") texts.Template ∷ allowed (codes "expires") texts.Decimal ∷ allowed (codes "name") texts.Cache
    ∷ allowed (codes "var") texts.Fixed ∷ []

-- the pairs of an action that calculates with an entry
abbrev pub calculating_keys : List KeyRow
calculating_keys =
    needed (codes "key") texts.Template ∷ allowed (codes "amount") texts.Signed ∷ allowed (codes "expires") texts.Decimal ∷ allowed (codes "name") texts.Cache
    ∷ allowed (codes "var") texts.Fixed ∷ []

-- the pairs of an action that adds to a number of an area, or takes from it
abbrev pub counting_keys : List KeyRow
counting_keys =
    needed (codes "area") texts.Area ∷ needed (codes "at") texts.Decimal ∷ needed (codes "width") texts.Width ∷ allowed (codes "by") texts.Decimal
    ∷ allowed (codes "var") texts.Fixed ∷ []

-- ---- conditions and actions

-- the conditions: name, what is asked, and what stands behind the `:`; texts are parted by the first `;` (59)
abbrev pub condition_rows : List (List ℕ × ConditionName × ArgumentShape)
condition_rows =
    (codes "equal", conditions.Equal, divided_text 59 texts.Template texts.Template)
    ∷ (codes "startswith", conditions.StartsWith, divided_text 59 texts.Template texts.Template)
    ∷ (codes "endswith", conditions.EndsWith, divided_text 59 texts.Template texts.Template)
    ∷ (codes "contains", conditions.Contains, divided_text 59 texts.Template texts.Template)
    ∷ (codes "empty", conditions.Empty, whole_text texts.Undivided)
    ∷ (codes "regexp", conditions.Regexp, divided_text 59 texts.Template texts.Pattern)
    ∷ (codes "incache", conditions.InCache, keyed_texts (needed (codes "key") texts.Template ∷ allowed (codes "name") texts.Cache ∷ []))
    ∷ []

-- the actions: name, what is done, and what stands behind the `:`; the key of `addvar` ends at the first `=` (61)
abbrev pub action_rows : List (List ℕ × ActionName × ArgumentShape)
action_rows =
    (codes "continue", actions.Continue, bare)
    ∷ (codes "last", actions.Continue, bare)
    ∷ (codes "break", actions.Break, optional_text texts.Fixed)
    ∷ (codes "return", actions.Return, whole_text texts.Code)
    ∷ (codes "goto", actions.Goto, whole_text texts.Label)
    ∷ (codes "redirect", actions.Redirect, whole_text texts.Template)
    ∷ (codes "redirect-permanent", actions.RedirectPermanent, whole_text texts.Template)
    ∷ (codes "rewrite", actions.Rewrite, whole_text texts.Template)
    ∷ (codes "addvar", actions.AddVar, divided_text 61 texts.Fixed texts.Template)
    ∷ (codes "addheader", actions.AddHeader, whole_text texts.Header)
    ∷ (codes "send", actions.Send, whole_text texts.Template)
    ∷ (
      codes "cache",
      actions.Cache,
      keyed_texts (needed (codes "key") texts.Template ∷ allowed (codes "content_type") texts.Template ∷ allowed (codes "name") texts.Cache ∷ []),
    )
    ∷ (codes "cachevar", actions.CacheVar, keyed_texts (needed (codes "key") texts.Template ∷ allowed (codes "name") texts.Cache ∷ needed (codes "var") texts.Fixed ∷ []))
    ∷ (codes "cacheset", actions.CacheSet, keyed_texts writing_keys)
    ∷ (codes "cacheupdate", actions.CacheUpdate, keyed_texts writing_keys)
    ∷ (codes "cachedel", actions.CacheDel, keyed_texts (needed (codes "key") texts.Template ∷ allowed (codes "name") texts.Cache ∷ allowed (codes "var") texts.Fixed ∷ []))
    ∷ (codes "cacheinc", actions.CacheInc, keyed_texts calculating_keys)
    ∷ (codes "cachedec", actions.CacheDec, keyed_texts calculating_keys)
    ∷ (codes "cachemul", actions.CacheMul, keyed_texts calculating_keys)
    ∷ (codes "cachediv", actions.CacheDiv, keyed_texts calculating_keys)
    ∷ (
      codes "arearead",
      actions.AreaRead,
      keyed_texts (
          needed (codes "area") texts.Area ∷ needed (codes "at") texts.Decimal ∷ needed (codes "len") texts.Length ∷ needed (codes "var") texts.Fixed ∷ []
          ),
    )
    ∷ (
      codes "areawrite",
      actions.AreaWrite,
      keyed_texts (
          needed (codes "area") texts.Area ∷ needed (codes "at") texts.Decimal ∷ needed (codes "value") texts.Template ∷ allowed (codes "var") texts.Fixed ∷ []
          ),
    )
    ∷ (
      codes "areanum",
      actions.AreaNum,
      keyed_texts (
          needed (codes "area") texts.Area ∷ needed (codes "at") texts.Decimal ∷ needed (codes "width") texts.Width ∷ needed (codes "var") texts.Fixed ∷ []
          ),
    )
    ∷ (
      codes "areaset",
      actions.AreaSet,
      keyed_texts (
          needed (codes "area") texts.Area ∷ needed (codes "at") texts.Decimal ∷ needed (codes "width") texts.Width ∷ needed (codes "value") texts.Decimal
          ∷ allowed (codes "var") texts.Fixed ∷ []
          ),
    )
    ∷ (codes "areainc", actions.AreaInc, keyed_texts counting_keys)
    ∷ (codes "areadec", actions.AreaDec, keyed_texts counting_keys)
    ∷ (codes "areaupdates", actions.AreaUpdates, keyed_texts (needed (codes "area") texts.Area ∷ needed (codes "var") texts.Fixed ∷ []))
    ∷ (codes "spool", actions.Spool, free_texts texts.Template)
    ∷ (codes "spool-end", actions.SpoolEnd, whole_text texts.Signed)
    ∷ []

-- the action is one of the table's: a task has no reply, and a request no status of a task
abbrev pub is_of_table : Table → ActionName → Bool
is_of_table tables.Requests actions.SpoolEnd = false
is_of_table tables.Tasks actions.Break = false
is_of_table tables.Tasks actions.Return = false
is_of_table tables.Tasks actions.Redirect = false
is_of_table tables.Tasks actions.RedirectPermanent = false
is_of_table tables.Tasks actions.AddHeader = false
is_of_table tables.Tasks actions.Send = false
is_of_table tables.Tasks actions.Cache = false
is_of_table table action = true

-- the row of a name
abbrev pub row_of : {N : Type 0} → List (List ℕ × N × ArgumentShape) → List ℕ → Option (N × ArgumentShape)
row_of [] name = None
row_of (row ∷ rows) name = if bytes_eq row.0 name then Some (row.1, row.2) else row_of rows name

-- what a condition of this name asks, and what stands behind its `:`
unfoldable pub condition_of : List ℕ → Option (ConditionName × ArgumentShape)
condition_of name = row_of condition_rows name

-- the row of an action, where it is one of the table's
abbrev pub row_in_table : Table → Option (ActionName × ArgumentShape) → Option (ActionName × ArgumentShape)
row_in_table table None = None
row_in_table table (Some row) = if is_of_table table row.0 then Some row else None

-- what an action of this name does in a table, and what stands behind its `:`
unfoldable pub action_of : Table → List ℕ → Option (ActionName × ArgumentShape)
action_of table name = row_in_table table (row_of action_rows name)

-- the codes that `return` takes (own rule)
abbrev pub status_codes : List ℕ
status_codes = 200 ∷ 204 ∷ 301 ∷ 302 ∷ 304 ∷ 400 ∷ 401 ∷ 403 ∷ 404 ∷ 405 ∷ 410 ∷ 413 ∷ 429 ∷ 500 ∷ 503 ∷ []
