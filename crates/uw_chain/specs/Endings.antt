-- How rules end: a request's reply (own rule, in the form of HTTP/1.1), and a task's status.
use Rattle.std.specs.Prelude.{ℕ, ◌==◌, Bool, false, not, if◌then◌else◌, List, [], ◌∷◌, ◌++◌, codes, Option, None, Some, ℤ, pos, negsuc}
use Rattle.std.specs.Str.{bytes_eq}
use Rattle.uw_base.specs.declared.variables.Pair.{Pair}
use Rattle.uw_base.specs.Variables.{value_of}
use Rattle.uw_chain.specs.declared.request.Request.{Request}
use Rattle.uw_chain.specs.declared.outcome.Ending.{Ending}
use Rattle.uw_chain.specs.declared.outcome.Ending.TheVariants as endings
use Rattle.uw_chain.specs.declared.outcome.RouteEnd.{RouteEnd}

-- the statuses of the codes that `return` takes
abbrev pub status_rows : List (ℕ × List ℕ)
status_rows =
    (200, codes "200 OK")
    ∷ (204, codes "204 No Content")
    ∷ (301, codes "301 Moved Permanently")
    ∷ (302, codes "302 Found")
    ∷ (304, codes "304 Not Modified")
    ∷ (400, codes "400 Bad Request")
    ∷ (401, codes "401 Unauthorized")
    ∷ (403, codes "403 Forbidden")
    ∷ (404, codes "404 Not Found")
    ∷ (405, codes "405 Method Not Allowed")
    ∷ (410, codes "410 Gone")
    ∷ (413, codes "413 Content Too Large")
    ∷ (429, codes "429 Too Many Requests")
    ∷ (500, codes "500 Internal Server Error")
    ∷ (503, codes "503 Service Unavailable")
    ∷ []

-- what stands beside a code; a code that is not there counts as 500
abbrev pub status_beside : List (ℕ × List ℕ) → ℕ → List ℕ
status_beside [] code = codes "500 Internal Server Error"
status_beside (row ∷ rows) code = if row.0 == code then row.1 else status_beside rows code

-- the status of a code
unfoldable pub status_of_code : ℕ → List ℕ
status_of_code code = status_beside status_rows code

-- the head alone is asked for
abbrev pub asks_for_head : List Pair → Bool
asks_for_head vars = bytes_eq (value_of vars (codes "REQUEST_METHOD")) (codes "HEAD")

-- the end with a status and the body so far, or without a reply
abbrev pub end_with : List ℕ → Bool → Request → RouteEnd
end_with status closed request = record {
  reply = record { status = status; headers = request.headers; body = request.body; closed = closed };
  head_only = asks_for_head request.vars;
}

-- a header line more
abbrev pub with_header : Request → List ℕ → Request
with_header request line = record request { headers = request.headers ++ line ∷ [] }

-- the page of a status, in place of a body
abbrev pub with_page : Request → List ℕ → Request
with_page request status = record (with_header request (codes "Content-Type: text/plain")) { body = status ++ 10 ∷ [] }

-- the end with a status: the body so far where something was sent, else the status's page
unfoldable pub end_with_page : List ℕ → Request → RouteEnd
end_with_page status request = if request.sent then end_with status false request else end_with status false (with_page request status)

-- the end of the table: what was sent, or that nothing was found
unfoldable pub end_of_table : Request → RouteEnd
end_of_table request = if request.sent then end_with (codes "200 OK") false request else end_with_page (codes "404 Not Found") request

-- the end by `break`: with a status; or with what was sent, or without a reply
unfoldable pub end_by_break : Option (List ℕ) → Request → RouteEnd
end_by_break (Some status) request = end_with status false request
end_by_break None request = end_with (codes "200 OK") (not request.sent) request

-- the end of a request, by how its rules ended; rules of requests give no status of a task
abbrev pub end_of_request : Ending → Request → RouteEnd
end_of_request endings.OfTable request = end_of_table request
end_of_request (endings.Break status) request = end_by_break status request
end_of_request (endings.Page code) request = end_with_page (status_of_code code) request
end_of_request endings.Failing request = end_with_page (status_of_code 500) request
end_of_request (endings.Task number) request = end_of_table request

-- the status of a task, by how its rules ended: its own, or 0 at the end of the table, or -1 (negsuc 0)
abbrev pub status_of_task : Ending → ℤ
status_of_task endings.OfTable = pos 0
status_of_task (endings.Task number) = number
status_of_task ending = negsuc 0

-- a value that a cache has, behind the body so far
abbrev pub with_cached_value : List ℕ → List ℕ → Request → Request
with_cached_value content_type value request = record (with_header request (codes "Content-Type: " ++ content_type)) { body = request.body ++ value }
