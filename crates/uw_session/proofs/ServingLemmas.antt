-- What was taken, followed and written, taken together.
use Rattle.std.proofs.Common.{inl, inr, refl, sym, subst, ℕ, List, [], Some, Result, Ok, Err}
use Rattle.uw_outside.specs.Streams.{Gives}
use Rattle.uw_packet.specs.declared.packet.Packet.{Packet}
use Rattle.uw_model.specs.declared.asks.Asked.{Asked}
use Rattle.uw_chain.specs.declared.faults.ChainEnd.{ChainEnd}
use Rattle.uw_chain.specs.declared.faults.ChainEnd.TheVariants as chains
use Rattle.uw_chain.specs.Courses.{ended}
use Rattle.uw_chain.specs.Runs.{Follows, Stops}
use Rattle.uw_session.specs.declared.faults.Form.{Form}
use Rattle.uw_session.specs.declared.faults.Refusal.TheVariants as refusals
use Rattle.uw_session.specs.declared.faults.ServeFault.{ServeFault}
use Rattle.uw_session.specs.declared.faults.ServeFault.TheVariants as serves
use Rattle.uw_session.specs.declared.faults.Served.{Served}
use Rattle.uw_session.specs.declared.taking.Content.{Content}
use Rattle.uw_session.specs.declared.taking.TakeFault.{TakeFault}
use Rattle.uw_session.specs.declared.taking.TakeFault.TheVariants as takes
use Rattle.uw_session.specs.Exchange.{Site, course_of_packet}
use Rattle.uw_session.specs.Serving.{Flow, IsServed, IsSilent, IsUnwritten, Serves, TakesWhole}
use Rattle.uw_session.specs.SessionSteps.{TakesPacket, WritesReply, broken_by, fault_before_asks}

-- no packet was taken: nothing was asked, and nothing was written
pub serves_untaken : (site : Site) (form : Form) (moment : ℕ) (f : Flow) (fault : TakeFault) → IsSilent f → Gives f.snk.before f.snk.now []
    → TakesPacket site.options f.src (Err fault) → Serves site form moment f (Err (fault_before_asks fault))
serves_untaken site form moment f (takes.Refused (refusals.TooBig size limit)) silent unwritten h = (unwritten, (silent, h))
serves_untaken site form moment f (takes.Refused (refusals.NoModifier m1 m2)) silent unwritten h = (unwritten, (silent, h))
serves_untaken site form moment f (takes.Refused (refusals.BadBlock at)) silent unwritten h = (unwritten, (silent, h))
serves_untaken site form moment f (takes.Refused refusals.BadLength) silent unwritten h = (unwritten, (silent, h))
serves_untaken site form moment f (takes.Truncated got want) silent unwritten h = (unwritten, (silent, h.0, h.1))
serves_untaken site form moment f takes.ReadFault silent unwritten h = (unwritten, (silent, h.0, h.1))
serves_untaken site form moment f takes.Memory silent unwritten h = (unwritten, inl (refl, silent, h))

-- a packet was taken whole, with its body
taken_whole : (site : Site) (moment : ℕ) (f : Flow) (packet : Packet) (content : Content) → TakesPacket site.options f.src (Ok (Some (packet, content)))
    → (body : List ℕ) × TakesWhole site.options moment f (record { moment = moment; head = packet.head; block = packet.block; body = body })
taken_whole site moment f packet content h =
    let body = h.3 in
    (body.0, (refl, record { accepted = h.0.accepted; fits = h.0.fits; size = h.0.size; grammar = h.2; body = body.1 }, body.2))

-- its asks were not followed to a reply
pub serves_stopped : (site : Site) (form : Form) (moment : ℕ) (f : Flow) (packet : Packet) (content : Content) (done : List Asked) (end : ChainEnd)
    → TakesPacket site.options f.src (Ok (Some (packet, content))) → Gives f.snk.before f.snk.now []
    → Stops f.led f.before f.now moment (course_of_packet site moment packet.head packet.block) done end → Serves site form moment f (Err (broken_by end done))
serves_stopped site form moment f packet content done (chains.Died whole) taken unwritten h =
    let x = taken_whole site moment f packet content taken in
    (unwritten, (record { moment = moment; head = packet.head; block = packet.block; body = x.0 }, x.1, h))
serves_stopped site form moment f packet content done chains.Memory taken unwritten h =
    let x = taken_whole site moment f packet content taken in
    (unwritten, inr (record { moment = moment; head = packet.head; block = packet.block; body = x.0 }, x.1, h))

-- they were followed to a reply, which was written, or a part of it
pub serves_written : (site : Site) (form : Form) (moment : ℕ) (f : Flow) (packet : Packet) (content : Content) (asks : List Asked) (reply : List ℕ)
    (result : Result Served ServeFault) → TakesPacket site.options f.src (Ok (Some (packet, content)))
    → Follows f.led f.before f.now moment (course_of_packet site moment packet.head packet.block) asks reply
    → WritesReply form packet moment asks reply f.snk result → Serves site form moment f result
serves_written site form moment f packet content asks reply (Ok served) taken followed h =
    let x = taken_whole site moment f packet content taken in
    subst (λ (s : Served). IsServed site form moment f s) (sym h.0) (record { body = x.0; taken = x.1; followed = followed; written = h.1 })
serves_written site form moment f packet content asks reply (Err (serves.WriteFault done)) taken followed h =
    let x = taken_whole site moment f packet content taken in
    subst (λ (made : List Asked). IsUnwritten site form moment f made) (sym h.0)
    (record {
      packet = record { moment = moment; head = packet.head; block = packet.block; body = x.0 };
      reply = reply;
      count = h.2.0;
      taken = x.1;
      followed = followed;
      short = h.2.1;
      part = h.2.2;
      rose = h.1;
    })
serves_written site form moment f packet content asks reply (Err (serves.Memory done)) taken followed h =
    let stopped : Stops f.led f.before f.now moment (course_of_packet site moment packet.head packet.block) asks chains.Memory =
    inl (ended reply, followed.0, followed.1)
    in
    serves_stopped site form moment f packet content done chains.Memory taken h.1
    (subst (λ (made : List Asked). Stops f.led f.before f.now moment (course_of_packet site moment packet.head packet.block) made chains.Memory) (sym h.0) stopped)
serves_written site form moment f packet content asks reply (Err serves.Nothing) taken followed h = absurd h
serves_written site form moment f packet content asks reply (Err (serves.Truncated got want)) taken followed h = absurd h
serves_written site form moment f packet content asks reply (Err (serves.TooBig size limit)) taken followed h = absurd h
serves_written site form moment f packet content asks reply (Err (serves.NoModifier m1 m2)) taken followed h = absurd h
serves_written site form moment f packet content asks reply (Err (serves.BadBlock at)) taken followed h = absurd h
serves_written site form moment f packet content asks reply (Err serves.BadLength) taken followed h = absurd h
serves_written site form moment f packet content asks reply (Err serves.ReadFault) taken followed h = absurd h
serves_written site form moment f packet content asks reply (Err (serves.Died whole done)) taken followed h = absurd h
