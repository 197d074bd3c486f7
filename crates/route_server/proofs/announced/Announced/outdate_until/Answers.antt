use Rattle.route_server.proofs.announced.Announced.outdate_until.Goals as goal

pub loop-next-preserved : goal.loop-next-preserved
loop-next-preserved c n p l = c.outdate.ensures n p (c.loop-next.invariant n p l)
