use Rattle.std.proofs.Common.{◌≤◌, arith, sym, subst, Option, Ok, Err}
use Rattle.uw_outside.specs.Streams.{inflow}
use Rattle.uw_outside.proofs.Streams.{Takes-append}
use Rattle.uw_packet.specs.declared.packet.Header.{Header}
use Rattle.uw_packet.specs.Packet.{header_bytes}
use Rattle.uw_conf.specs.Given.{options_in}
use Rattle.uw_session.specs.declared.taking.TakeFault.{TakeFault}
use Rattle.uw_session.specs.SessionSteps.{TakesHeader, TakesPacket}
use Rattle.uw_session.proofs.TakingLemmas.{header_fault, block_fault, content_fault, length_fault, body_fault}
use Rattle.uw_session.proofs.taking.take_packet.Goals as goal

pub returns-in-Err-clause-taken : goal.returns-in-Err-clause-taken
returns-in-Err-clause-taken g c =
    header_fault (options_in c.args.conf.now) (inflow g.S.Source.left g.S.Source.ended g.S.Source.faults c.args.src.now c.take_header.new.src) c.in-Err.fault
    c.in-Err.ensures.taken

pub returns-in-Err-read_block-clause-taken : goal.returns-in-Err-read_block-clause-taken
returns-in-Err-read_block-clause-taken g c =
    let options = options_in c.args.conf.now in
    let s = g.S.Source in
    let head =
    subst (λ (came : Option Header). TakesHeader options (inflow s.left s.ended s.faults c.args.src.now c.take_header.new.src) (Ok came)) c.in-Ok-Some.field-0-is
    c.in-Ok-Some.ensures.taken
    in
    subst (λ (fault : TakeFault). TakesPacket options (inflow s.left s.ended s.faults c.args.src.now c.read_block.new.src) (Err fault)) (sym c.take_fault.ensures)
    (block_fault options s.left s.ended s.faults c.args.src.now c.take_header.new.src c.read_block.new.src c.in-Ok-Some.head c.in-Err-read_block.fault head.0 head.2
    head.1 c.take_header.ensures.cause.later c.in-Err-read_block.ensures.block)

pub returns-in-Err-content_of-clause-taken : goal.returns-in-Err-content_of-clause-taken
returns-in-Err-content_of-clause-taken g c =
    let options = options_in c.args.conf.now in
    let s = g.S.Source in
    let head =
    subst (λ (came : Option Header). TakesHeader options (inflow s.left s.ended s.faults c.args.src.now c.take_header.new.src) (Ok came)) c.in-Ok-Some.field-0-is
    c.in-Ok-Some.ensures.taken
    in
    let block = c.in-Ok.ensures.block in
    content_fault options (inflow s.left s.ended s.faults c.args.src.now c.read_block.new.src) c.in-Ok-Some.head c.in-Ok.block c.in-Err-content_of.fault
    (record { accepted = head.2; fits = head.0; size = block.0 })
    (Takes-append (s.left c.args.src.now) (s.left c.take_header.new.src) (s.left c.read_block.new.src) (header_bytes c.in-Ok-Some.head) c.in-Ok.block head.1 block.1)
    c.in-Err-content_of.ensures.content

pub returns-in-Err-body_length-clause-taken : goal.returns-in-Err-body_length-clause-taken
returns-in-Err-body_length-clause-taken g c =
    let options = options_in c.args.conf.now in
    let s = g.S.Source in
    let head =
    subst (λ (came : Option Header). TakesHeader options (inflow s.left s.ended s.faults c.args.src.now c.take_header.new.src) (Ok came)) c.in-Ok-Some.field-0-is
    c.in-Ok-Some.ensures.taken
    in
    let block = c.in-Ok.ensures.block in
    length_fault options (inflow s.left s.ended s.faults c.args.src.now c.read_block.new.src) c.in-Ok-Some.head c.in-Ok.block c.in-Ok-content_of.content
    c.in-Err-body_length.refusal (record { accepted = head.2; fits = head.0; size = block.0 })
    (Takes-append (s.left c.args.src.now) (s.left c.take_header.new.src) (s.left c.read_block.new.src) (header_bytes c.in-Ok-Some.head) c.in-Ok.block head.1 block.1)
    c.in-Ok-content_of.ensures.content c.in-Err-body_length.ensures

pub returns-in-Err-skip_body-clause-taken : goal.returns-in-Err-skip_body-clause-taken
returns-in-Err-skip_body-clause-taken g c =
    let options = options_in c.args.conf.now in
    let s = g.S.Source in
    let head =
    subst (λ (came : Option Header). TakesHeader options (inflow s.left s.ended s.faults c.args.src.now c.take_header.new.src) (Ok came)) c.in-Ok-Some.field-0-is
    c.in-Ok-Some.ensures.taken
    in
    let block = c.in-Ok.ensures.block in
    let later : s.faults c.args.src.now ≤ s.faults c.read_block.new.src = omega (arith, c.take_header.ensures.cause.later, c.read_block.ensures.cause.later) in
    subst (λ (fault : TakeFault). TakesPacket options (inflow s.left s.ended s.faults c.args.src.now c.skip_body.new.src) (Err fault))
    (sym c.take_fault-in-Err-skip_body.ensures)
    (body_fault options s.left s.ended s.faults c.args.src.now c.read_block.new.src c.skip_body.new.src c.in-Ok-Some.head c.in-Ok.block c.in-Ok-content_of.content
    c.in-Ok-body_length.length c.in-Err-skip_body.fault (record { accepted = head.2; fits = head.0; size = block.0 })
    (Takes-append (s.left c.args.src.now) (s.left c.take_header.new.src) (s.left c.read_block.new.src) (header_bytes c.in-Ok-Some.head) c.in-Ok.block head.1 block.1)
    c.in-Ok-content_of.ensures.content c.in-Ok-body_length.ensures later c.in-Err-skip_body.ensures.body)
