-- What is asked of the graph, and told.
use Rattle.std.proofs.Common.{◌≡◌, ℕ, true, false, true≢false, List, [], ◌∷◌, ◌++◌, refl, sym, ap, ◌∙◌, subst}
use Rattle.std.specs.Prelude.{Option, Some, None, IsSome}
use Rattle.qs_bytes.specs.declared.ask.Mode.{Mode}
use Rattle.qs_nbd_handshake.specs.Answers.{CanTell, hand_step_of}
use Rattle.qs_nbd_handshake.specs.Wishes.{want_of}
use Rattle.qs_nbd_handshake.specs.declared.event.HandStep.TheVariants.{Transmit}
use Rattle.qs_nbd_handshake.specs.declared.event.Told.{Told}
use Rattle.qs_nbd_handshake.specs.declared.event.Told.TheVariants as told
use Rattle.qs_nbd_handshake.specs.declared.event.Want.{Want}
use Rattle.qs_nbd_handshake.specs.declared.event.Want.TheVariants as want
use Rattle.qs_nbd_handshake.specs.declared.wish.Wish.{Wish}
use Rattle.qs_nbd_handshake.specs.declared.wish.Wish.TheVariants as wish
use Rattle.qs_part.specs.declared.graph.GraphOp.{GraphOp}
use Rattle.qs_part.specs.declared.graph.GraphOp.TheVariants as op
use Rattle.qs_part.specs.declared.graph.GraphReply.{GraphReply}
use Rattle.qs_part.specs.declared.graph.GraphReply.TheVariants as reply
use Rattle.qs_serving.specs.Graphs.{GraphMay, IsSessionOp}
use Rattle.qs_handshake_phase.specs.Asks.{Joined, LeftBy}
use Rattle.qs_handshake_phase.specs.Tellings.{LosesBy, OwnCall, TellsBy, TellsFor, client_by, op_for, told_by, told_without}

pub session_op : (w : Want) (o : GraphOp) → op_for w ≡ Some o → IsSessionOp o
session_op want.Nothing o is = absurd (cc)
session_op (want.Find None) o is = absurd (cc)
session_op (want.Find (Some name)) o is = subst IsSessionOp (some_is is) tt
  where
    some_is : Some (op.Find name) ≡ Some o → op.Find name ≡ o
    some_is e = cc
session_op (want.Attach None) o is = absurd (cc)
session_op (want.Attach (Some name)) o is = subst IsSessionOp (some_is is) tt
  where
    some_is : Some (op.Attach name) ≡ Some o → op.Attach name ≡ o
    some_is e = cc
session_op want.Names o is = subst IsSessionOp (some_is is) tt
  where
    some_is : Some (op.ListExports []) ≡ Some o → op.ListExports [] ≡ o
    some_is e = cc

find_can : (name : List ℕ) (r : GraphReply) → GraphMay (op.Find name) r → CanTell (want.Find (Some name)) (told_by r)
find_can name reply.NoExport may = tt
find_can name (reply.Found info) may = tt
find_can name r may = absurd may

attach_can : (name : List ℕ) (r : GraphReply) → GraphMay (op.Attach name) r → CanTell (want.Attach (Some name)) (told_by r)
attach_can name reply.NoExport may = tt
attach_can name reply.Crowded may = tt
attach_can name (reply.Attached info) may = tt
attach_can name r may = absurd may

names_can : (r : GraphReply) → GraphMay (op.ListExports []) r → CanTell want.Names (told_by r)
names_can (reply.Exports rows) may = tt
names_can r may = absurd may

-- a reply of the graph may be told for what is wanted
pub reply_can : (w : Want) (o : GraphOp) (r : GraphReply) → op_for w ≡ Some o → GraphMay o r → CanTell w (told_by r)
reply_can want.Nothing o r is may = absurd (cc)
reply_can (want.Find None) o r is may = absurd (cc)
reply_can (want.Find (Some name)) o r is may = find_can name r (subst (λ (p : GraphOp). GraphMay p r) (sym (some_is is)) may)
  where
    some_is : Some (op.Find name) ≡ Some o → op.Find name ≡ o
    some_is e = cc
reply_can (want.Attach None) o r is may = absurd (cc)
reply_can (want.Attach (Some name)) o r is may = attach_can name r (subst (λ (p : GraphOp). GraphMay p r) (sym (some_is is)) may)
  where
    some_is : Some (op.Attach name) ≡ Some o → op.Attach name ≡ o
    some_is e = cc
reply_can want.Names o r is may = names_can r (subst (λ (p : GraphOp). GraphMay p r) (sym (some_is is)) may)
  where
    some_is : Some (op.ListExports []) ≡ Some o → op.ListExports [] ≡ o
    some_is e = cc

attach_joins : (name : List ℕ) (r : GraphReply) → GraphMay (op.Attach name) r → Joined (want.Attach (Some name)) (told_by r) (client_by r)
attach_joins name reply.NoExport may = tt
attach_joins name reply.Crowded may = tt
attach_joins name (reply.Attached info) may = refl
attach_joins name r may = absurd may

pub reply_joins : (w : Want) (o : GraphOp) (r : GraphReply) → op_for w ≡ Some o → GraphMay o r → Joined w (told_by r) (client_by r)
reply_joins (want.Attach (Some name)) o r is may =
    attach_joins name r (subst (λ (p : GraphOp). GraphMay p r) (sym (some_is is)) may)
  where
    some_is : Some (op.Attach name) ≡ Some o → op.Attach name ≡ o
    some_is e = cc
reply_joins (want.Attach None) o r is may = absurd (cc)
reply_joins want.Nothing o r is may = tt
reply_joins (want.Find name) o r is may = tt
reply_joins want.Names o r is may = tt

pub bare_can : (w : Want) → op_for w ≡ None → CanTell w (told_without w)
bare_can want.Nothing is = tt
bare_can (want.Find None) is = tt
bare_can (want.Find (Some name)) is = absurd (cc)
bare_can (want.Attach None) is = tt
bare_can (want.Attach (Some name)) is = absurd (cc)
bare_can want.Names is = absurd (cc)

pub bare_joins : (w : Want) → Joined w (told_without w) None
bare_joins (want.Attach name) = tt
bare_joins want.Nothing = tt
bare_joins (want.Find name) = tt
bare_joins want.Names = tt

pub bare_tells : (w : Want) → op_for w ≡ None → TellsFor w [] (told_without w) None
bare_tells w is = subst (λ (o : Option GraphOp). TellsBy w o [] (told_without w) None) (sym is) (refl, refl)

pub call_tells : (w : Want) (o : GraphOp) (r : GraphReply) → op_for w ≡ Some o →
    TellsFor w (record { op = o; reply = r } ∷ []) (told_by r) (client_by r)
call_tells w o r is =
    subst (λ (p : Option GraphOp). TellsBy w p (record { op = o; reply = r } ∷ []) (told_by r) (client_by r)) (sym is) (refl, refl, refl)

-- requests follow only where the session is a client
pub transmit_joined : (mode after : Mode) (w : Wish) (t : Told) (client : Option ℕ) → Joined (want_of w) t client →
    hand_step_of mode w t ≡ Transmit after → IsSome client
transmit_joined mode after (wish.Export name) (told.Info info) client joined is = joined
transmit_joined mode after (wish.Export name) told.Crowded client joined is = absurd (cc)
transmit_joined mode after (wish.Export name) told.Nothing client joined is = absurd (cc)
transmit_joined mode after (wish.Export name) told.Missing client joined is = absurd (cc)
transmit_joined mode after (wish.Export name) (told.Names names) client joined is = absurd (cc)
transmit_joined mode after wish.Abort t client joined is = absurd (cc)
transmit_joined mode after wish.List t client joined is = absurd (cc)
transmit_joined mode after (wish.Info inquiry) t client joined is = absurd (cc)
transmit_joined mode after (wish.Go inquiry) (told.Info info) client joined is = joined
transmit_joined mode after (wish.Go inquiry) told.Crowded client joined is = absurd (cc)
transmit_joined mode after (wish.Go inquiry) told.Nothing client joined is = absurd (cc)
transmit_joined mode after (wish.Go inquiry) told.Missing client joined is = absurd (cc)
transmit_joined mode after (wish.Go inquiry) (told.Names names) client joined is = absurd (cc)
transmit_joined mode after wish.Structured t client joined is = absurd (cc)
transmit_joined mode after (wish.Malformed number) t client joined is = absurd (cc)
transmit_joined mode after (wish.Unknown number) t client joined is = absurd (cc)

-- what was asked, and left again
pub left_loses : (w : Want) (o : Option GraphOp) (calls more : List OwnCall) (t : Told) (client : Option ℕ) → TellsBy w o calls t client →
    LeftBy client more → LosesBy o (calls ++ more)
left_loses w None [] [] t client tells left = tt
left_loses w None [] (d ∷ more) t None tells left = absurd left
left_loses w None [] (d ∷ more) t (Some e) tells left = absurd (cc)
left_loses w None (c ∷ calls) more t client tells left = absurd tells
left_loses w (Some o) [] more t client tells left = absurd tells
left_loses w (Some o) (c ∷ []) [] t None tells left = (ap (λ (p : GraphOp). Some p) (sym tells.0), sym tells.2)
left_loses w (Some o) (c ∷ []) [] t (Some e) tells left = absurd left
left_loses w (Some o) (c ∷ []) (d ∷ more) t None tells left = absurd left
left_loses w (Some o) (c ∷ []) (d ∷ []) t (Some e) tells left = (ap (λ (p : GraphOp). Some p) (sym tells.0), (e, sym tells.2, left))
left_loses w (Some o) (c ∷ []) (d ∷ f ∷ more) t (Some e) tells left = absurd left
left_loses w (Some o) (c ∷ d ∷ calls) more t client tells left = absurd tells
