use Rattle.qs_nbd_handshake.proofs.handshake.Handshake.answer.Goals as goal

pub invariant_of-self : goal.invariant_of-self
invariant_of-self c = (c.stage_behind-self-inside.ensures.sound _ _, c.self.invariant.1)
