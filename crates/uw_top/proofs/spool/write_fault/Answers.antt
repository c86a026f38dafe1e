use Rattle.uw_top.proofs.spool.write_fault.Goals as goal

pub returns-in-KeeperFault-clause-written : goal.returns-in-KeeperFault-clause-written
returns-in-KeeperFault-clause-written g c = λ spooler. rw c.in-KeeperFault.is (c.write_short_round.ensures.written spooler)
