-- The bytes of a reply to a request (own rule, in the form of HTTP/1.1).
use Rattle.std.specs.Prelude.{ℕ, ◌==◌, Bool, not, ◌||◌, if◌then◌else◌, List, [], ◌++◌, filter, length, take, codes, decimal}
use Rattle.std.specs.List.{flat_map}
use Rattle.std.specs.Str.{bytes_eq}
use Rattle.uw_reply.specs.declared.reply.Reply.{Reply}

-- a byte that no status and no header line may bring into a reply: 0, a line feed or a carriage return
abbrev pub is_break : ℕ → Bool
is_break byte = byte == 0 || byte == 10 || byte == 13

-- a status or a header line as it is written out
abbrev pub without_breaks : List ℕ → List ℕ
without_breaks text = filter (λ byte. not (is_break byte)) text

-- a status or a header line as it is written out, and its end
abbrev pub ended_line : List ℕ → List ℕ
ended_line line = without_breaks line ++ codes "\r\n"

-- the text begins with the front
abbrev pub begins_with : List ℕ → List ℕ → Bool
begins_with text front = bytes_eq front (take (length front) text)

-- a reply whose status is written out so has a length line and a body: it begins with neither 1 nor 204 nor 304
abbrev pub has_body : List ℕ → Bool
has_body status = not (begins_with status (codes "1") || begins_with status (codes "204") || begins_with status (codes "304"))

-- the line of the status, and the header lines in their order
abbrev pub head_of_reply : Reply → List ℕ
head_of_reply reply = codes "HTTP/1.1 " ++ ended_line reply.status ++ flat_map ended_line reply.headers

-- the line that tells the length of a body
abbrev pub length_line : List ℕ → List ℕ
length_line body = codes "Content-Length: " ++ decimal (length body) ++ codes "\r\n"

-- what follows the header lines: the length line, the empty line and the body where there may be one, else the empty line alone
abbrev pub rest_of_reply : Bool → List ℕ → Bool → List ℕ
rest_of_reply with_body body head_only =
    if with_body then length_line body ++ codes "\r\n" ++ (if head_only then [] else body) else codes "\r\n"

-- the bytes of a reply, to a request for the head only or for all of it; a closed reply has none
abbrev pub reply_text_of : Reply → Bool → List ℕ
reply_text_of reply head_only =
    if reply.closed then []
    else head_of_reply reply ++ rest_of_reply (has_body (without_breaks reply.status)) reply.body head_only

-- the body that the bytes of a reply end with
abbrev pub written_body : Reply → List ℕ
written_body reply = if reply.closed then [] else if has_body (without_breaks reply.status) then reply.body else []
