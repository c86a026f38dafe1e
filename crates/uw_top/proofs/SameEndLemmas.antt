-- The bytes of a run tell its packets and how it ends.
use Rattle.std.proofs.Common.{◌≡◌, refl, sym, ap, ap₂, ◌∙◌, subst, ℕ, ◌+◌, ◌<◌, ◌≤◌, ◌^◌, Bool, true, false, cond, leb, ltb, List, [], ◌∷◌, ◌++◌, length, map, take, drop, Option, None, Some, append_assoc, arith, length-append}
use Rattle.std.specs.List.{AllByRecursion}
use Rattle.std.proofs.lemmas.Bool.{le-leb, lt-leb, lt-ltb, le-ltb}
use Rattle.std.proofs.lemmas.List.{append-nil, take_at, drop_at}
use Rattle.uw_outside.specs.Streams.{Inflow, Outflow, IsExhausted, Takes}
use Rattle.uw_packet.specs.declared.packet.Header.{Header}
use Rattle.uw_packet.specs.Packet.{header_bytes}
use Rattle.uw_packet.proofs.Arrays.{text_length}
use Rattle.uw_packet.proofs.BlockLaws.{text_length-bytes}
use Rattle.uw_model.specs.Asks.{Asking}
use Rattle.uw_ends.specs.declared.ends.Brief.{Brief}
use Rattle.uw_ends.specs.declared.ends.RunFault.{RunFault}
use Rattle.uw_ends.specs.declared.ends.RunFault.TheVariants as faults
use Rattle.uw_ends.specs.declared.ends.BadPacket.TheVariants as bad
use Rattle.uw_conf.specs.declared.conf.Options.{Options}
use Rattle.uw_session.specs.declared.faults.Refusal.{Refusal}
use Rattle.uw_session.specs.declared.faults.Refusal.TheVariants as refusals
use Rattle.uw_session.specs.Exchange.{Exchange, IsAccepted, Site, body_length, broken_at, exchange_bytes, header_refusal}
use Rattle.uw_session.specs.Serving.{IsBlockOf, IsCutPart, IsRefused, Part, of_block, of_body, of_header, part_bytes}
use Rattle.uw_top.specs.Laws.{IsOfBytes, as_read}
use Rattle.uw_top.specs.Pipe.{Ending, EndsBy, PipeRun, Turn, TurnsLead, bad_packet_of, bytes_of, most_packets}

-- ---- what stands at the front of bytes

-- a run ends there by a fault or by none, or it goes on with a packet: its header, its block, its body and the bytes behind it
data Step : Type 0 where
  ends_by : Option RunFault → Step
  goes_by : Header → List ℕ → List ℕ → List ℕ → Step

abbrev cut_at : ℕ → ℕ → Step
cut_at got want = ends_by (Some (faults.Truncated got want))

-- the body behind a block in its grammar
abbrev body_front : Header → List ℕ → Option ℕ → List ℕ → Step
body_front head block None bytes = ends_by (Some (faults.BadPacket bad.BadLength))
body_front head block (Some want) bytes = cond (ltb (length bytes) want) (cut_at (length bytes) want) (goes_by head block (take want bytes) (drop want bytes))

-- a whole block, which may be out of its grammar
abbrev grammar_front : Header → List ℕ → Option ℕ → List ℕ → Step
grammar_front head block (Some at) bytes = ends_by (Some (faults.BadPacket (bad.BadBlock at)))
grammar_front head block None bytes = body_front head block (body_length head block) bytes

-- the block behind a header that is not refused
abbrev block_front : Options → Header → List ℕ → Step
block_front options head bytes =
    cond (ltb (length bytes) head.size) (cut_at (length bytes) head.size)
    (grammar_front head (take head.size bytes) (broken_at options head (take head.size bytes)) (drop head.size bytes))

-- a whole header, which may be refused
abbrev head_front : Options → Header → Option Refusal → List ℕ → Step
head_front options head (Some refusal) bytes = ends_by (Some (faults.BadPacket (bad_packet_of refusal)))
head_front options head None bytes = block_front options head bytes

abbrev headed : Options → ℕ → ℕ → ℕ → List ℕ → Step
headed options m1 size m2 bytes =
    head_front options (record { m1 = m1; size = size; m2 = m2 }) (header_refusal options (record { m1 = m1; size = size; m2 = m2 })) bytes

abbrev front : Options → List ℕ → Step
front options [] = ends_by None
front options (a ∷ []) = cut_at 1 4
front options (a ∷ b ∷ []) = cut_at 2 4
front options (a ∷ b ∷ c ∷ []) = cut_at 3 4
front options (a ∷ b ∷ c ∷ d ∷ bytes) = headed options a (text_length b c) d bytes

-- likewise, where it is told whether the most packets were served
abbrev step : Options → Bool → List ℕ → Step
step options full [] = ends_by None
step options true (byte ∷ bytes) = ends_by (Some faults.TooMany)
step options false (byte ∷ bytes) = front options (byte ∷ bytes)

-- ---- the parts of a packet

head_read : (options : Options) (head : Header) (bytes : List ℕ) → head.size < 2 ^ 16
    → front options (header_bytes head ++ bytes) ≡ head_front options head (header_refusal options head) bytes
head_read options head bytes fits = ap (λ (size : ℕ). headed options head.m1 size head.m2 bytes) (text_length-bytes head.size fits)

accepted_read : (options : Options) (head : Header) (bytes : List ℕ) → head.size < 2 ^ 16 → header_refusal options head ≡ None
    → front options (header_bytes head ++ bytes) ≡ block_front options head bytes
accepted_read options head bytes fits accepted = head_read options head bytes fits ∙ ap (λ (r : Option Refusal). head_front options head r bytes) accepted

block_whole : (options : Options) (head : Header) (block bytes : List ℕ) → length block ≡ head.size
    → block_front options head (block ++ bytes) ≡ grammar_front head block (broken_at options head block) bytes
block_whole options head block bytes size =
    let lengths = length-append block bytes in
    rw (le-ltb (length (block ++ bytes)) head.size (omega arith), take_at block bytes head.size size, drop_at block bytes head.size size) refl

block_cut : (options : Options) (head : Header) (bytes : List ℕ) → length bytes < head.size → block_front options head bytes ≡ cut_at (length bytes) head.size
block_cut options head bytes short = rw (lt-ltb (length bytes) head.size short) refl

block_read : (options : Options) (head : Header) (block bytes : List ℕ) → IsBlockOf options head block
    → front options (header_bytes head ++ block ++ bytes) ≡ grammar_front head block (broken_at options head block) bytes
block_read options head block bytes is = accepted_read options head (block ++ bytes) is.fits is.accepted ∙ block_whole options head block bytes is.size

body_read : (options : Options) (head : Header) (block bytes : List ℕ) → IsBlockOf options head block → broken_at options head block ≡ None
    → front options (header_bytes head ++ block ++ bytes) ≡ body_front head block (body_length head block) bytes
body_read options head block bytes is grammar = block_read options head block bytes is ∙ ap (λ (b : Option ℕ). grammar_front head block b bytes) grammar

body_whole : (head : Header) (block body bytes : List ℕ) → body_front head block (Some (length body)) (body ++ bytes) ≡ goes_by head block body bytes
body_whole head block body bytes =
    let lengths = length-append body bytes in
    rw (le-ltb (length (body ++ bytes)) (length body) (omega arith), take_at body bytes (length body) refl, drop_at body bytes (length body) refl) refl

body_cut : (head : Header) (block bytes : List ℕ) (want : ℕ) → length bytes < want → body_front head block (Some want) bytes ≡ cut_at (length bytes) want
body_cut head block bytes want short = rw (lt-ltb (length bytes) want short) refl

-- ---- packets at the front

-- a packet that is answered
whole_front : (options : Options) (x : Exchange) (bytes : List ℕ) → IsAccepted options x → front options (exchange_bytes x ++ bytes) ≡ goes_by x.head x.block x.body bytes
whole_front options x bytes is =
    ap (λ (b : List ℕ). front options (header_bytes x.head ++ b)) (append_assoc x.block x.body bytes)
    ∙ body_read options x.head x.block (x.body ++ bytes) (record { accepted = is.accepted; fits = is.fits; size = is.size }) is.grammar
    ∙ ap (λ (l : Option ℕ). body_front x.head x.block l (x.body ++ bytes)) is.body
    ∙ body_whole x.head x.block x.body bytes

-- a packet that the end of the bytes cut
cut_front : (options : Options) (part : Part) (got want : ℕ) → 1 ≤ length (part_bytes part) → IsCutPart options part got want
    → front options (part_bytes part) ≡ cut_at got want
cut_front options (of_header []) got want some cut = absurd (omega arith)
cut_front options (of_header (a ∷ [])) got want some cut = ap₂ cut_at cut.1 (sym cut.0)
cut_front options (of_header (a ∷ b ∷ [])) got want some cut = ap₂ cut_at cut.1 (sym cut.0)
cut_front options (of_header (a ∷ b ∷ c ∷ [])) got want some cut = ap₂ cut_at cut.1 (sym cut.0)
cut_front options (of_header (a ∷ b ∷ c ∷ d ∷ bytes)) got want some cut = absurd (omega (arith, cut.0, cut.1, cut.2))
cut_front options (of_block head bytes) got want some cut =
    accepted_read options head bytes cut.1 cut.0 ∙ block_cut options head bytes (omega (arith, cut.2, cut.3, cut.4)) ∙ ap₂ cut_at cut.3 (sym cut.2)
cut_front options (of_body head block bytes) got want some cut =
    body_read options head block bytes cut.0 cut.1
    ∙ ap (λ (l : Option ℕ). body_front head block l bytes) cut.2
    ∙ body_cut head block bytes want (omega (arith, cut.3, cut.4))
    ∙ ap (λ (n : ℕ). cut_at n want) cut.3

abbrev refused_by : Refusal → Step
refused_by refusal = ends_by (Some (faults.BadPacket (bad_packet_of refusal)))

-- a header that is refused
head_refused : (options : Options) (head : Header) (bytes behind : List ℕ) (refusal : Refusal) → head.size < 2 ^ 16 → bytes ≡ header_bytes head
    → header_refusal options head ≡ Some refusal → front options (bytes ++ behind) ≡ refused_by refusal
head_refused options head bytes behind refusal fits is why =
    ap (λ (b : List ℕ). front options (b ++ behind)) is
    ∙ head_read options head behind fits
    ∙ ap (λ (r : Option Refusal). head_front options head r behind) why

-- a packet that is refused
refused_front : (options : Options) (bytes behind : List ℕ) (refusal : Refusal) → IsRefused options bytes refusal
    → front options (bytes ++ behind) ≡ refused_by refusal
refused_front options bytes behind (refusals.TooBig size limit) is = head_refused options is.0 bytes behind (refusals.TooBig size limit) is.1 is.2 is.3
refused_front options bytes behind (refusals.NoModifier m1 m2) is = head_refused options is.0 bytes behind (refusals.NoModifier m1 m2) is.1 is.2 is.3
refused_front options bytes behind (refusals.BadBlock at) is =
    ap (λ (b : List ℕ). front options (b ++ behind)) is.3
    ∙ block_read options is.0 is.1 behind is.2
    ∙ ap (λ (b : Option ℕ). grammar_front is.0 is.1 b behind) is.4
refused_front options bytes behind refusals.BadLength is =
    ap (λ (b : List ℕ). front options (b ++ behind)) is.3
    ∙ body_read options is.0 is.1 behind is.2 is.4
    ∙ ap (λ (l : Option ℕ). body_front is.0 is.1 l behind) is.5

-- ---- a run at its end, and one that goes on

step_below : (options : Options) (count : ℕ) (bytes : List ℕ) → count < most_packets → step options (leb most_packets count) bytes ≡ front options bytes
step_below options count bytes below = ap (λ (full : Bool). step options full bytes) (lt-leb most_packets count below) ∙ not_full bytes
  where
    not_full : (bytes : List ℕ) → step options false bytes ≡ front options bytes
    not_full [] = refl
    not_full (byte ∷ bytes) = refl

step_full : (options : Options) (count : ℕ) (bytes : List ℕ) → count ≡ most_packets → 1 ≤ length bytes
    → step options (leb most_packets count) bytes ≡ ends_by (Some faults.TooMany)
step_full options count bytes all some = ap (λ (full : Bool). step options full bytes) (le-leb most_packets count (omega arith)) ∙ one_more bytes some
  where
    one_more : (bytes : List ℕ) → 1 ≤ length bytes → step options true bytes ≡ ends_by (Some faults.TooMany)
    one_more [] some = absurd (omega arith)
    one_more (byte ∷ bytes) some = refl

-- a run goes on with a packet that is answered
goes_on : (options : Options) (count : ℕ) (x : Exchange) (bytes behind : List ℕ) → IsAccepted options x → count < most_packets → bytes ≡ exchange_bytes x ++ behind
    → step options (leb most_packets count) bytes ≡ goes_by x.head x.block x.body behind
goes_on options count x bytes behind is below whole =
    ap (λ (b : List ℕ). step options (leb most_packets count) b) whole
    ∙ step_below options count (exchange_bytes x ++ behind) below
    ∙ whole_front options x behind is

none_left : (now : Option (List ℕ)) (left : List ℕ) → now ≡ Some left → IsExhausted now → left ≡ []
none_left now left is over = subst (λ (n : Option (List ℕ)). IsExhausted n) is over

-- a run ends so
ends_so : (led : List Asking → ℕ → Type 0) (site : Site) (e : Ending) (fault : Option RunFault) (left : List ℕ) → e.src.now ≡ Some left → IsOfBytes fault
    → EndsBy led site e fault → step site.options (leb most_packets e.count) (e.rest ++ left) ≡ ends_by fault
ends_so led site e None left now of ends =
    ap₂ (λ (r l : List ℕ). step site.options (leb most_packets e.count) (r ++ l)) ends.0 (none_left e.src.now left now ends.1.1)
ends_so led site e (Some (faults.Truncated got want)) left now of ends =
    let part = ends.0.1 in
    let all : e.rest ++ left ≡ part_bytes part.0 =
    ap (λ (l : List ℕ). e.rest ++ l) (none_left e.src.now left now ends.1.1) ∙ append-nil e.rest ∙ part.1 in
    let some : 1 ≤ length (part_bytes part.0) = subst (λ (b : List ℕ). 1 ≤ length b) part.1 ends.0.0 in
    step_below site.options e.count (e.rest ++ left) ends.2.0 ∙ ap (front site.options) all ∙ cut_front site.options part.0 got want some part.2
ends_so led site e (Some (faults.BadPacket packet)) left now of ends =
    let refused = ends.0 in
    step_below site.options e.count (e.rest ++ left) ends.1.0
    ∙ refused_front site.options e.rest left refused.0 refused.2
    ∙ ap (λ p. ends_by (Some (faults.BadPacket p))) (sym refused.1)
ends_so led site e (Some faults.TooMany) left now of ends =
    step_full site.options e.count (e.rest ++ left) ends.1.0 (omega (arith, ends.0, length-append e.rest left))
ends_so led site e (Some _) left now of ends = absurd of

-- ---- two runs over the same bytes

same_read : (t u : Turn) → t.packet.head ≡ u.packet.head → t.packet.block ≡ u.packet.block → t.packet.body ≡ u.packet.body → as_read t ≡ as_read u
same_read t u head block body =
    let made : Header → List ℕ → List ℕ → Header × List ℕ × List ℕ = λ h b d. (h, b, d) in
    ap (λ (h : Header). made h t.packet.block t.packet.body) head
    ∙ ap (λ (b : List ℕ). made u.packet.head b t.packet.body) block
    ∙ ap (λ (d : List ℕ). made u.packet.head u.packet.block d) body

-- behind so many packets, two runs over the same bytes
same_from : (options : Options) (turns others : List Turn) (served count counted : ℕ) (bytes rest left : List ℕ) (fault other : Option RunFault)
    → AllByRecursion (λ (t : Turn). IsAccepted options t.packet) turns → AllByRecursion (λ (t : Turn). IsAccepted options t.packet) others
    → count ≡ served + length turns → counted ≡ served + length others → count ≤ most_packets → counted ≤ most_packets
    → bytes ≡ bytes_of turns ++ rest → bytes ≡ bytes_of others ++ left
    → step options (leb most_packets count) rest ≡ ends_by fault → step options (leb most_packets counted) left ≡ ends_by other
    → (map as_read turns ≡ map as_read others) × (fault ≡ other)
same_from options [] [] served count counted bytes rest left fault other all each c d few low whole again one two =
    let counts : count ≡ counted = omega arith in
    let same : ends_by fault ≡ ends_by other =
    sym one ∙ ap₂ (λ (n : ℕ) (b : List ℕ). step options (leb most_packets n) b) counts (sym whole ∙ again) ∙ two in
    (refl, cc)
same_from options [] (u ∷ others) served count counted bytes rest left fault other all each c d few low whole again one two =
    let behind : rest ≡ exchange_bytes u.packet ++ (bytes_of others ++ left) = sym whole ∙ again ∙ append_assoc (exchange_bytes u.packet) (bytes_of others) left in
    let goes = goes_on options count u.packet rest (bytes_of others ++ left) each.0 (omega arith) behind in
    absurd (cc)
same_from options (t ∷ turns) [] served count counted bytes rest left fault other all each c d few low whole again one two =
    let behind : left ≡ exchange_bytes t.packet ++ (bytes_of turns ++ rest) = sym again ∙ whole ∙ append_assoc (exchange_bytes t.packet) (bytes_of turns) rest in
    let goes = goes_on options counted t.packet left (bytes_of turns ++ rest) all.0 (omega arith) behind in
    absurd (cc)
same_from options (t ∷ turns) (u ∷ others) served count counted bytes rest left fault other all each c d few low whole again one two =
    let first = goes_on options served t.packet bytes (bytes_of turns ++ rest) all.0 (omega arith) (whole ∙ append_assoc (exchange_bytes t.packet) (bytes_of turns) rest) in
    let second = goes_on options served u.packet bytes (bytes_of others ++ left) each.0 (omega arith) (again ∙ append_assoc (exchange_bytes u.packet) (bytes_of others) left) in
    let head : t.packet.head ≡ u.packet.head = cc (first, second) in
    let block : t.packet.block ≡ u.packet.block = cc (first, second) in
    let body : t.packet.body ≡ u.packet.body = cc (first, second) in
    let behind : bytes_of turns ++ rest ≡ bytes_of others ++ left = cc (first, second) in
    let later = same_from options turns others (served + 1) count counted (bytes_of turns ++ rest) rest left fault other all.1 each.1
    (omega arith) (omega arith) few low refl behind one two in
    (ap₂ (λ p l. p ∷ l) (same_read t u head block body) later.0, later.1)

-- the packets of turns are answered
all_accepted : {S : Type 0} → (leads : S → S → List Asking → ℕ → Type 0) (site : Site) (turns : List Turn) (start after : S) (allowed left : Option (List ℕ))
    → TurnsLead leads site start allowed turns after left → AllByRecursion (λ (t : Turn). IsAccepted site.options t.packet) turns
all_accepted leads site [] start after allowed left passed = tt
all_accepted leads site (t ∷ turns) start after allowed left passed =
    (passed.0.whole, all_accepted leads site turns passed.1.0 after passed.1.1 left passed.1.4)

-- the bytes that a source has left, where it told all that it had
left_behind : (before now : Option (List ℕ)) (bytes taken : List ℕ) → Takes before now taken → before ≡ Some bytes
    → (left : List ℕ) × (now ≡ Some left) × (bytes ≡ taken ++ left)
left_behind before None bytes taken takes is = absurd (cc)
left_behind before (Some left) bytes taken takes is = (left, refl, cc)

pub same_end : {S R : Type 0} → (leads : S → S → List Asking → ℕ → Type 0) (others : R → R → List Asking → ℕ → Type 0) (start last : S) (begin finish : R)
    (allowed more : Option (List ℕ)) (site : Site) (src from : Inflow) (snk into : Outflow) (gave given : List ℕ → Type 0) (told said : List Brief)
    (fault other : Option RunFault) (bytes : List ℕ)
    → (run : PipeRun leads start last allowed site src snk gave told fault) (again : PipeRun others begin finish more site from into given said other)
    → src.before ≡ Some bytes → from.before ≡ Some bytes → IsOfBytes fault → IsOfBytes other
    → (map as_read run.turns ≡ map as_read again.turns) × (fault ≡ other)
same_end leads others start last begin finish allowed more site src from snk into gave given told said fault other bytes run again is same of too =
    let first = left_behind src.before src.now bytes (bytes_of run.turns ++ run.rest) run.read is in
    let second = left_behind from.before from.now bytes (bytes_of again.turns ++ again.rest) again.read same in
    let one = ends_so (leads run.behind last) site
    (record { src = src; snk = snk; allowed = run.left; still = run.still; count = length run.turns; rest = run.rest; part = run.part; late = run.late }) fault first.0 first.1 of run.ending in
    let two = ends_so (others again.behind finish) site
    (record { src = from; snk = into; allowed = again.left; still = again.still; count = length again.turns; rest = again.rest; part = again.part; late = again.late }) other second.0 second.1 too again.ending in
    same_from site.options run.turns again.turns 0 (length run.turns) (length again.turns) bytes (run.rest ++ first.0) (again.rest ++ second.0) fault other
    (all_accepted leads site run.turns start run.behind allowed run.left run.passed)
    (all_accepted others site again.turns begin again.behind more again.left again.passed)
    (omega arith) (omega arith) run.few again.few
    (first.2 ∙ append_assoc (bytes_of run.turns) run.rest first.0) (second.2 ∙ append_assoc (bytes_of again.turns) again.rest second.0) one two
