-- A stripe is clean as its history says.
use Rattle.std.proofs.Common.{◌≡◌, List, [], ◌∷◌, sym, ap, ◌∙◌}
use Rattle.std.specs.Prelude.{Some, None}
use Rattle.qs_part.specs.declared.stripe.StripeOp.{StripeOp}
use Rattle.qs_part.specs.declared.stripe.StripeOp.TheVariants.{Load, Hold, Store, Free, Sync}
use Rattle.qs_part.specs.declared.stripe.StripeReply.{StripeReply}
use Rattle.qs_part.specs.declared.stripe.StripeReply.TheVariants.{Filled, Fault, HeldBy, Taken, Done, Freed, NotHeld, Clean, Synced}
use Rattle.qs_part.specs.Histories.{Call, lawful, StandsFor}
use Rattle.qs_stripe.specs.Table.{StripeValue, Fits, answers, geometry}
use Rattle.qs_stripe.specs.History.{clean_after, clean_behind}

still : (old new : StripeValue) → new ≡ old → new.clean ≡ old.clean
still old new same = ap (λ (v : StripeValue). v.clean) same

-- each answer
behind : (old : StripeValue) (op : StripeOp) (reply : StripeReply) (new : StripeValue) → answers old op reply new →
    new.clean ≡ clean_behind old.clean op reply
behind old (Load b k buf) (Filled got) new row = row.3
behind old (Load b k buf) (Fault (Some back)) new row = row.3
behind old (Hold b k side buf) (HeldBy j back) new row = still old new row.2
behind old (Hold b k side buf) (Taken c back) new row = still old new row.3
behind old (Hold b k side buf) (Filled got) new row = row.5
behind old (Hold b k side buf) (Fault (Some back)) new row = row.5
behind old (Store b k buf) (HeldBy j back) new row = still old new row.3
behind old (Store b k buf) (Done back) new row = row.5
behind old (Store b k buf) (Fault (Some back)) new row = row.5
behind old (Free b k) Freed new row = row.3
behind old (Free b k) NotHeld new row = still old new row.1
behind old Sync Clean new row = still old new row.1
behind old Sync Synced new row = row.4
behind old Sync (Fault None) new row = row.4 ∙ sym row.0
behind old _ _ new row = absurd row

-- and each history
pub clean_in : (opening : StripeValue) (cs : List (Call StripeOp StripeReply)) (v : StripeValue) →
    StandsFor (lawful geometry Fits answers) opening cs v → v.clean ≡ clean_after opening.clean cs
clean_in opening [] v stands = sym (ap (λ (s : StripeValue). s.clean) stands)
clean_in opening (c ∷ cs) v stands =
    clean_in stands.0 cs v stands.2 ∙ ap (λ d. clean_after d cs) (behind opening c.op c.reply stands.0 stands.1.1)
