-- Packets, part by part, as they are taken.
use Rattle.std.proofs.Common.{◌≡◌, inl, inr, refl, sym, ◌∙◌, subst, ℕ, ◌<◌, ◌≤◌, ◌^◌, Bool, true, false, List, [], ◌∷◌, ◌++◌, length, Option, None, Some, Result, Ok, Err, append_assoc, arith}
use Rattle.std.specs.Prelude.{if◌then◌else◌, nat_lt, IsSome}
use Rattle.std.specs.List.{list_all}
use Rattle.std.proofs.lemmas.Bool.{lt-ltb}
use Rattle.uw_outside.specs.Faults.{Rose}
use Rattle.uw_outside.specs.Streams.{Inflow, Takes, inflow}
use Rattle.uw_outside.proofs.Streams.{Takes-append}
use Rattle.uw_base.specs.declared.variables.Pair.{Pair}
use Rattle.uw_packet.specs.BlockReads.{AreBytes, vars_block}
use Rattle.uw_packet.specs.Blocks.{AreShort, texts_of_pairs, vars_read}
use Rattle.uw_packet.proofs.BlockLaws.{IsVarsBlock-read}
use Rattle.uw_packet.specs.declared.packet.Header.{Header}
use Rattle.uw_packet.specs.declared.packet.PacketFault.{PacketFault}
use Rattle.uw_packet.specs.declared.packet.PacketFault.TheVariants as packets
use Rattle.uw_packet.specs.Packet.{header_bytes}
use Rattle.uw_packet.specs.Reads.{ReadsBlock, SkipsBody}
use Rattle.uw_model.specs.declared.asks.Ask.{Ask}
use Rattle.uw_model.specs.declared.asks.Ask.TheVariants as asks
use Rattle.uw_model.specs.Asks.{DeskParts, IsOfPart}
use Rattle.uw_chain.specs.Spooling.{CanBeAsked}
use Rattle.uw_conf.specs.declared.conf.Options.{Options}
use Rattle.uw_session.specs.declared.faults.Refusal.{Refusal}
use Rattle.uw_session.specs.declared.faults.Refusal.TheVariants as refusals
use Rattle.uw_session.specs.declared.taking.Content.{Content}
use Rattle.uw_session.specs.declared.taking.Content.TheVariants as contents
use Rattle.uw_session.specs.declared.taking.TakeFault.{TakeFault}
use Rattle.uw_session.specs.declared.taking.TakeFault.TheVariants as takes
use Rattle.uw_session.specs.Exchange.{body_length, header_refusal, is_served}
use Rattle.uw_session.specs.Serving.{IsBlockOf, IsRefused, of_body, of_header, of_block}
use Rattle.uw_session.specs.SessionSteps.{GivesContent, GivesLength, IsContentOf, TakesHeader, TakesPacket, length_behind, take_fault_of}

-- a count that rose since later rose since earlier
Rose-since : (early late now : ℕ) → early ≤ late → Rose late now → Rose early now
Rose-since early late now later rose = omega arith

-- ---- the header

-- why a header is refused, by its size and its modifiers
abbrev refusal_by : Options → Header → Bool → Bool → Option Refusal
refusal_by options head large served =
    if large then Some (refusals.TooBig head.size options.buffer_size) else (if served then None else Some (refusals.NoModifier head.m1 head.m2))

-- it is never refused for a block
not_for_block : (options : Options) (head : Header) (at : ℕ) (large served : Bool) → refusal_by options head large served ≡ Some (refusals.BadBlock at) → ⊥
not_for_block options head at true served e = cc
not_for_block options head at false true e = cc
not_for_block options head at false false e = cc

-- nor for the length of a body
not_for_length : (options : Options) (head : Header) (large served : Bool) → refusal_by options head large served ≡ Some refusals.BadLength → ⊥
not_for_length options head true served e = cc
not_for_length options head false true e = cc
not_for_length options head false false e = cc

-- a header that is refused
header_refused : (options : Options) (head : Header) (refusal : Refusal) → head.size < 2 ^ 16 → header_refusal options head ≡ Some refusal
    → IsRefused options (header_bytes head) refusal
header_refused options head (refusals.TooBig size limit) fits why = (head, fits, refl, why)
header_refused options head (refusals.NoModifier m1 m2) fits why = (head, fits, refl, why)
header_refused options head (refusals.BadBlock at) fits why =
    absurd (not_for_block options head at (nat_lt options.buffer_size head.size) (is_served head.m1 head.m2) why)
header_refused options head refusals.BadLength fits why = absurd (not_for_length options head (nat_lt options.buffer_size head.size) (is_served head.m1 head.m2) why)

-- no header came, or a refused one
pub header_fault : (options : Options) (r : Inflow) (fault : TakeFault) → TakesHeader options r (Err fault) → TakesPacket options r (Err fault)
header_fault options r (takes.Refused refusal) h = (header_bytes h.0, h.2, header_refused options h.0 refusal h.1 h.3)
header_fault options r (takes.Truncated got want) h =
    let came = h.1 in
    (h.0, (came.0, came.1, (came.2, (of_header came.0, refl, (came.3, came.4, came.5)))))
header_fault options r takes.ReadFault h = let came = h.1 in (h.0, (came.0, came.1, (of_header came.0, length came.0, 4, refl, (refl, refl, came.2))))
header_fault options r takes.Memory h = absurd h

-- ---- the block

-- what has a header in front has a byte
has_byte : (head : Header) (bytes : List ℕ) → 1 ≤ length (header_bytes head ++ bytes)
has_byte head bytes = omega arith

-- no block came behind a header
pub block_fault : {S : Type 0} → (options : Options) (left : S → Option (List ℕ)) (ended : S → Bool) (faults : S → ℕ) (old middle new : S) (head : Header)
    (fault : PacketFault) → head.size < 2 ^ 16 → header_refusal options head ≡ None → Takes (left old) (left middle) (header_bytes head)
    → faults old ≤ faults middle → ReadsBlock (inflow left ended faults middle new) head.size (Err fault)
    → TakesPacket options (inflow left ended faults old new) (Err (take_fault_of fault))
block_fault options left ended faults old middle new head (packets.Truncated got want) fits accepted taken later h =
    let cut = h.1 in
    let came = cut.bytes in (
      cut.over,
      (
        header_bytes head ++ came.0,
        Takes-append (left old) (left middle) (left new) (header_bytes head) came.0 taken came.2,
        (has_byte head came.0, (of_block head came.0, refl, (accepted, fits, h.0, came.1, cut.short))),
      ),
    )
block_fault options left ended faults old middle new head packets.ReadFault fits accepted taken later h =
    let came = h.bytes in (
      Rose-since (faults old) (faults middle) (faults new) later h.rose,
      (
        header_bytes head ++ came.0,
        Takes-append (left old) (left middle) (left new) (header_bytes head) came.0 taken came.2,
        (of_block head came.0, length came.0, head.size, refl, (accepted, fits, refl, refl, came.1)),
      ),
    )
block_fault options left ended faults old middle new head packets.Memory fits accepted taken later h = (
  header_bytes head,
  subst (λ (now : Option (List ℕ)). Takes (left old) now (header_bytes head)) (sym h.0) taken,
  inr (inl (head, fits, refl, accepted)),
)
block_fault options left ended faults old middle new head (packets.TooBig size limit) fits accepted taken later h = absurd h
block_fault options left ended faults old middle new head (packets.BadBlock at) fits accepted taken later h = absurd h

-- ---- what the block says

-- whether texts are short, as the test finds it
short_are_tested : (texts : List (List ℕ)) → AreShort texts → list_all (λ text. nat_lt (length text) 65536) texts ≡ true
short_are_tested [] short = refl
short_are_tested (text ∷ texts) short = rw (lt-ltb (length text) 65536 short.0, short_are_tested texts short.1) refl

-- pairs that were read from a short block have a block
pub pairs_have_block : (block : List ℕ) (pairs : List Pair) → AreBytes block → length block < 2 ^ 16 → vars_read block ≡ Ok pairs → IsSome (vars_block pairs)
pairs_have_block block pairs bytes short read =
    let is = IsVarsBlock-read block pairs bytes read in
    rw (short_are_tested (texts_of_pairs pairs) is.short, ← is.whole, lt-ltb (length block) 65536 short) refl

-- an ask of a part can be asked
pub part_can_be_asked : (parts : DeskParts) (ask : Ask) → IsOfPart parts ask → CanBeAsked parts ask
part_can_be_asked parts (asks.Cache cache call) h = h
part_can_be_asked parts (asks.Area area op) h = h
part_can_be_asked parts (asks.Spool vars body) h = absurd h

-- a block is out of its grammar, or no memory was left for what it says
pub content_fault : (options : Options) (r : Inflow) (head : Header) (block : List ℕ) (fault : TakeFault) → IsBlockOf options head block
    → Takes r.before r.now (header_bytes head ++ block) → GivesContent options head block (Err fault) → TakesPacket options r (Err fault)
content_fault options r head block (takes.Refused (refusals.TooBig size limit)) is taken h = absurd h
content_fault options r head block (takes.Refused (refusals.NoModifier m1 m2)) is taken h = absurd h
content_fault options r head block (takes.Refused (refusals.BadBlock at)) is taken h = (header_bytes head ++ block, taken, (head, block, is, refl, h))
content_fault options r head block (takes.Refused refusals.BadLength) is taken h = absurd h
content_fault options r head block (takes.Truncated got want) is taken h = absurd h
content_fault options r head block takes.ReadFault is taken h = absurd h
content_fault options r head block takes.Memory is taken h = (header_bytes head ++ block, taken, inr (inr (head, block, is, refl)))

-- ---- the body

-- the length of the body behind a block, by what it says
pub body_behind : (options : Options) (head : Header) (block : List ℕ) (content : Content) → IsContentOf options head block content
    → body_length head block ≡ length_behind content
body_behind options head block (contents.Request vars) h = rw (h.0, h.1) refl
body_behind options head block (contents.Task vars body) h = rw h.0 refl
body_behind options head block (contents.Command ask) h = rw h.0 refl
body_behind options head block (contents.Refused fault) h = rw h.0 refl

-- the length of the body can't be read
pub length_fault : (options : Options) (r : Inflow) (head : Header) (block : List ℕ) (content : Content) (refusal : Refusal) → IsBlockOf options head block
    → Takes r.before r.now (header_bytes head ++ block) → GivesContent options head block (Ok content) → GivesLength content (Err refusal)
    → TakesPacket options r (Err (takes.Refused refusal))
length_fault options r head block content (refusals.TooBig size limit) is taken said h = absurd h
length_fault options r head block content (refusals.NoModifier m1 m2) is taken said h = absurd h
length_fault options r head block content (refusals.BadBlock at) is taken said h = absurd h
length_fault options r head block content refusals.BadLength is taken said h =
    (header_bytes head ++ block, taken, (head, block, is, refl, said.1, body_behind options head block content said.0 ∙ h))

-- a body behind a block
body_taken : (before middle now : Option (List ℕ)) (head : Header) (block body : List ℕ) → Takes before middle (header_bytes head ++ block)
    → Takes middle now body → Takes before now (header_bytes head ++ block ++ body)
body_taken before middle now head block body taken more =
    subst (λ (bytes : List ℕ). Takes before now bytes) (append_assoc (header_bytes head) block body)
    (Takes-append before middle now (header_bytes head ++ block) body taken more)

-- no body came behind a block
pub body_fault : {S : Type 0} → (options : Options) (left : S → Option (List ℕ)) (ended : S → Bool) (faults : S → ℕ) (old middle new : S) (head : Header)
    (block : List ℕ) (content : Content) (len : ℕ) (fault : PacketFault) → IsBlockOf options head block
    → Takes (left old) (left middle) (header_bytes head ++ block) → GivesContent options head block (Ok content) → GivesLength content (Ok len)
    → faults old ≤ faults middle → SkipsBody (inflow left ended faults middle new) len (Err fault)
    → TakesPacket options (inflow left ended faults old new) (Err (take_fault_of fault))
body_fault options left ended faults old middle new head block content len (packets.Truncated got want) is taken said length_is later h =
    let cut = h.1 in
    let came = cut.bytes in (
      cut.over,
      (
        header_bytes head ++ block ++ came.0,
        body_taken (left old) (left middle) (left new) head block came.0 taken came.2,
        (
          has_byte head (block ++ came.0),
          (
            of_body head block came.0,
            refl,
            (is, said.1, subst (λ (n : ℕ). body_length head block ≡ Some n) (sym h.0) (body_behind options head block content said.0 ∙ length_is), came.1, cut.short),
          ),
        ),
      ),
    )
body_fault options left ended faults old middle new head block content len packets.ReadFault is taken said length_is later h =
    let came = h.bytes in (
      Rose-since (faults old) (faults middle) (faults new) later h.rose,
      (
        header_bytes head ++ block ++ came.0,
        body_taken (left old) (left middle) (left new) head block came.0 taken came.2,
        (of_body head block came.0, length came.0, len, refl, (is, said.1, body_behind options head block content said.0 ∙ length_is, refl, came.1)),
      ),
    )
body_fault options left ended faults old middle new head block content len (packets.TooBig size limit) is taken said length_is later h = absurd h
body_fault options left ended faults old middle new head block content len (packets.BadBlock at) is taken said length_is later h = absurd h
body_fault options left ended faults old middle new head block content len packets.Memory is taken said length_is later h = absurd h
