-- A request that begins has a reply.
use Rattle.qs_transmission_phase.proofs.Fits.{begun_fits}
use Rattle.qs_transmission_phase.proofs.requests.LiveRequests.begin.Goals as goal

pub invariant_of-self : goal.invariant_of-self
invariant_of-self c =
    begun_fits c.args.export c.args.ask c.args.body c.self.inside.crew _ c.add.new.self c.self.invariant c.request_for-request.ensures.read c.in-Ok.ensures
