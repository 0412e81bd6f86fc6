-- Over a read-only file node no export is writable, so no request's way is, and nothing is stored.
use Rattle.std.proofs.Common.{◌≡◌, ℕ, ◌<◌, inl, inr, Bool, true, false, ◌&&◌, ◌==◌, List, [], ◌∷◌, Option, Some, None, refl, sym, ap, ◌∙◌, subst, true≢false}
use Rattle.qs_part.specs.declared.graph.GraphOp.{GraphOp}
use Rattle.qs_part.specs.declared.graph.GraphOp.TheVariants.{AddRaw, AddThrottle, Del, ReopenRaw, ReopenThrottle, GroupAdd, GroupDel, ExportAdd, ExportDel, Find, Attach, Detach, Route, ListNodes, ListExports}
use Rattle.qs_part.specs.declared.graph.GraphReply.TheVariants.{Added}
use Rattle.qs_graph.specs.declared.export.Export.{Export}
use Rattle.qs_graph.specs.Exports.{clients_counted, export_at, new_export}
use Rattle.qs_graph.specs.Table.{GraphValue, May as GraphMay, after as graph_after, export_placed}
use Rattle.qs_graph.proofs.Standing.{at_set, nobody}
use Rattle.qs_model.specs.Requests.{Client, Pads, Req, Stage, abandon, new_request}
use Rattle.qs_model.specs.Worlds.{World, Opening, new_world}
use Rattle.qs_model.specs.Acts.{Act, Answers, Waits, Enters, Routes, Shuts, Lists, Starts, Loads, LoadFails, Holds, HoldFails, Stores, StoreFails, Syncs, Cleans, SyncFails, Frees, Ends, Element, Attached, NoExport, Crowded, Left, Detached, NotAttached, Asked, Did, Exported, Planned, Crashed}
use Rattle.qs_model.specs.Guards.{MayDo, CanCome}
use Rattle.qs_model.specs.Histories.{IsStoreRow}
use Rattle.qs_model.specs.Steps.{crashed, moved, leaves, happens, world_after, Runs}
use Rattle.qs_model.specs.Laws.{NoStore}
use Rattle.qs_model.proofs.Basics.{choose, put_tells}
use Rattle.qs_model.proofs.Facts.{Shaped, Ok}
use Rattle.qs_model.proofs.Holders.{some_none}
use Rattle.qs_model.proofs.Kept.{for_moved, run_ok, split_run}
use Rattle.qs_model.proofs.Machine.{ForMoved}

-- nobody may write here
abbrev pub IsBarred : Option Export → Type 0
IsBarred None = Unit {0}
IsBarred (Some x) = x.writable ≡ false

-- the file node is read-only, no export over it is writable, and no request has a way that is
pub record Barred (w : World) : Type 0 where
  pub read_only : w.graph.read_only ≡ true
  pub exports : (e : ℕ) → IsBarred (export_at w.graph.places e)
  pub ways : (r : ℕ) (q : Req) → w.req r ≡ Some q → q.client.route.writable ≡ false

-- the graph alone
record GraphBarred (v : GraphValue) : Type 0 where
  read_only : v.read_only ≡ true
  exports : (e : ℕ) → IsBarred (export_at v.places e)

of_graph : (w : World) → Barred w → GraphBarred w.graph
of_graph w h = record { read_only = h.read_only; exports = h.exports }

placed_barred : (v : GraphValue) (e : ℕ) (p : Option Export) → GraphBarred v → IsBarred p → GraphBarred (export_placed v e p)
placed_barred v e p h new = record { read_only = h.read_only; exports = λ d. at_set IsBarred v.places e p d (h.exports d) (λ _. new) }

counted_barred : (p : Option Export) (n : ℕ) → IsBarred p → IsBarred (clients_counted p n)
counted_barred None n h = tt
counted_barred (Some x) n h = h

-- a new export over a read-only file node isn't writable
added_barred : (v : GraphValue) (op : GraphOp) (e : ℕ) → GraphMay v op (Added e) → GraphBarred v → GraphBarred (graph_after v op (Added e))
added_barred v (ExportAdd id name node writable share) e may h =
    placed_barred v e (Some (new_export id name writable share)) h (closed writable v.read_only may.0.0.1 h.read_only)
  where
    closed : (a b : Bool) → (a && b) ≡ false → b ≡ true → a ≡ false
    closed true true e f = absurd (true≢false e)
    closed true false e f = absurd (true≢false (sym f))
    closed false b e f = refl
added_barred v (AddRaw name child offset size read_only) e may h = absurd may
added_barred v (AddThrottle name child group read_only) e may h = absurd may
added_barred v (Del name) e may h = absurd may
added_barred v (ReopenRaw name child offset size) e may h = absurd may
added_barred v (ReopenThrottle name child group) e may h = absurd may
added_barred v (GroupAdd id) e may h = absurd may
added_barred v (GroupDel id) e may h = absurd may
added_barred v (ExportDel id hard) e may h = absurd may
added_barred v (ListNodes table) e may h = absurd may
added_barred v (ListExports table) e may h = absurd may
added_barred v (Find name) e may h = absurd may
added_barred v (Attach name) e may h = absurd may
added_barred v (Detach d) e may h = absurd may
added_barred v (Route d) e may h = absurd may

-- with another graph, that is barred too
with_graph : (w v : World) → v.req ≡ w.req → GraphBarred v.graph → Barred w → Barred v
with_graph w v same graph h = record {
  read_only = graph.read_only;
  exports = graph.exports;
  ways = λ r q is. h.ways r q (sym (ap (λ (f : ℕ → Option Req). f r) same) ∙ is);
}

-- the way that the graph gives
given_barred : (p : Option Export) (x : Export) → IsBarred p → p ≡ Some x → x.writable ≡ false
given_barred None x h is = absurd (some_none (sym is))
given_barred (Some y) x h is = let same : y ≡ x = cc in ap (λ (z : Export). z.writable) (sym same) ∙ h

-- a request's way after a row
way_moved : (A : ℕ) (w : World) (c : Client) (d : Bool) (p : Pads) {stage : Stage} (act : Act stage) → MayDo A w c p act → Barred w → c.route.writable ≡ false →
    ForMoved (λ q. q.client.route.writable ≡ false) (moved A c d p act)
way_moved A w c d p (Routes route) may h closed =
    ap (λ r. r.writable) may.1.1 ∙ given_barred (export_at w.graph.places c.export) may.0 (h.exports c.export) may.1.0
way_moved A w c d p Answers may h closed = tt
way_moved A w c d p (Waits wait) may h closed = closed
way_moved A w c d p (Enters k) may h closed = closed
way_moved A w c d p Shuts may h closed = closed
way_moved A w c d p (Lists n) may h closed = closed
way_moved A w c d p Starts may h closed = closed
way_moved A w c d p (Loads bytes) may h closed = closed
way_moved A w c d p LoadFails may h closed = closed
way_moved A w c d p (Holds bytes) may h closed = closed
way_moved A w c d p HoldFails may h closed = closed
way_moved A w c d p (Stores bytes past) may h closed = closed
way_moved A w c d p (StoreFails bytes took past) may h closed = closed
way_moved A w c d p Syncs may h closed = closed
way_moved A w c d p Cleans may h closed = closed
way_moved A w c d p SyncFails may h closed = closed
way_moved A w c d p Frees may h closed = closed
way_moved A w c d p Ends may h closed = tt

some_same : (q p : Req) → Some q ≡ Some p → q ≡ p
some_same q p e = cc

left_barred : (s : ℕ) (o : Option Req) (x : Req) → leaves s o ≡ Some x → ((q : Req) → o ≡ Some q → q.client.route.writable ≡ false) → x.client.route.writable ≡ false
left_barred s None x is h = absurd (some_none (sym is))
left_barred s (Some q) x is h =
    subst (λ (p : Req). p.client.route.writable ≡ false) (some_same _ x is)
    (choose (λ p. p.client.route.writable ≡ false) (q.client.session == s) (abandon q) q (λ _. h q refl) (λ _. h q refl))

new_barred : (n : ℕ) (o : Opening) → o.read_only ≡ true → Barred (new_world n o)
new_barred n o is = record {
  read_only = is;
  exports = λ e. subst IsBarred (sym (nobody 64 e)) tt;
  ways = λ r q none. absurd (some_none (sym none));
}

-- each step keeps it
step_barred : (A : ℕ) (w : World) (e : Element) → CanCome A w e → Barred w → Barred (happens A w e)
step_barred A w (Attached s name info) may h =
    with_graph w (happens A w (Attached s name info)) refl
    (placed_barred w.graph info.e _ (of_graph w h) (counted_barred (export_at w.graph.places info.e) _ (h.exports info.e))) h
step_barred A w (NoExport s name) may h = h
step_barred A w (Crowded s name) may h = h
step_barred A w (Left s e) may h = record {
  read_only = h.read_only;
  exports = h.exports;
  ways = λ r x is. left_barred s (w.req r) x is (λ q there. h.ways r q there);
}
step_barred A w (Detached s e) may h =
    with_graph w (happens A w (Detached s e)) refl
    (placed_barred w.graph e _ (of_graph w h) (counted_barred (export_at w.graph.places e) _ (h.exports e))) h
step_barred A w (NotAttached s e) may h = h
step_barred A w (Asked r c) may h = record {
  read_only = h.read_only;
  exports = h.exports;
  ways = λ s q is. elim (put_tells w.req r (Some (new_request c)) s (Some q) is) [
    | inl e ↦ subst (λ (p : Req). p.client.route.writable ≡ false) (some_same (new_request c) q e.1) (ap (λ r. r.writable) may.unrouted)
    | inr e ↦ h.ways s q e.1
  ];
}
step_barred A w (Did r q act) may h = record {
  read_only = h.read_only;
  exports = h.exports;
  ways = λ s x is. elim (put_tells w.req r (moved A q.client q.dropped q.pads act) s (Some x) is) [
    | inl e ↦ for_moved (λ y. y.client.route.writable ≡ false) _ x (way_moved A w q.client q.dropped q.pads act may.1 h (h.ways r q may.0)) e.1
    | inr e ↦ h.ways s x e.1
  ];
}
step_barred A w (Exported op e) may h = with_graph w (happens A w (Exported op e)) refl (added_barred w.graph op e may (of_graph w h)) h
step_barred A w (Planned j fail) may h = record { read_only = h.read_only; exports = h.exports; ways = h.ways }
step_barred A w (Crashed left) may h = new_barred w.next (crashed w left) h.read_only

run_barred : (A : ℕ) (w : World) (es : List Element) → Runs A w es → Barred w → Barred (world_after A w es)
run_barred A w [] run h = h
run_barred A w (e ∷ es) run h = run_barred A (happens A w e) es run.1 (step_barred A w e run.0 h)

-- a store wants a way that may be written
store_writable : (A : ℕ) (c : Client) {stage : Stage} (act : Act stage) → Shaped A c stage → IsStoreRow act → c.route.writable ≡ true
store_writable A c (Stores bytes past) fit is = fit.sound.writable fit.writing
store_writable A c (StoreFails bytes took past) fit is = fit.sound.writable fit.writing
store_writable A c _ fit is = absurd is

pub no_store : (A : ℕ) (w : World) (es : List Element) → 0 < A → Ok A w → Barred w → Runs A w es → NoStore es
no_store A w es pos ok barred run r c before (Did s q act) at is =
    let (front, may) = split_run A w es before (Did s q act) run at in
    let here : Ok A (world_after A w before) = run_ok A w before pos ok front in
    let closed : q.client.route.writable ≡ false = (run_barred A w before front barred).ways s q may.0 in
    true≢false (sym (store_writable A q.client act (here.well s q may.0).shaped is.2) ∙ closed)
no_store A w es pos ok barred run r c before _ at is = absurd is

pub opened_barred : (o : Opening) → o.read_only ≡ true → Barred (new_world 0 o)
opened_barred o is = new_barred 0 o is
