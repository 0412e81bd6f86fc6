-- What each answer keeps of a graph.
use Rattle.std.proofs.Common.{◌≡◌, ◌≢◌, ℕ, ◌+◌, ◌-◌, List, Bool, true, false, refl, sym, ◌∙◌, ap, subst, inl, inr, ◌⊎◌}
use Rattle.std.specs.Prelude.{Option, Some, None, IsTrue, position, ◌&&◌}
use Rattle.std.proofs.lemmas.List.Quantifiers.{position-Some}
use Rattle.qs_part.specs.declared.graph.Route.{Route as Way}
use Rattle.qs_part.specs.declared.graph.GraphOp.{GraphOp}
use Rattle.qs_part.specs.declared.graph.GraphOp.TheVariants.{ExportAdd, Attach, Detach, Route}
use Rattle.qs_part.specs.declared.graph.GraphReply.{GraphReply}
use Rattle.qs_part.specs.declared.graph.GraphReply.TheVariants.{Added, Attached, Detached, Shutting, Routed}
use Rattle.qs_part.specs.Histories.{Call, StandsFor}
use Rattle.qs_part.proofs.Histories.{stands_fixed, stands_keeps}
use Rattle.qs_graph.specs.declared.export.Export.{Export}
use Rattle.qs_graph.specs.declared.export.Right.{Right}
use Rattle.qs_graph.specs.Exports.{clients_of, clients_counted, export_at, is_vacant, new_export, shares, takes}
use Rattle.qs_graph.specs.Table.{GraphValue, Fits, IsShared, May, after, answers, fresh, export_placed, route_of}
use Rattle.qs_graph.specs.History.{lawful_call, StandsForFresh, IsAllowed, SameExport, StandsAt}
use Rattle.qs_graph.proofs.Standing.{at_set, nobody, none_against, none_not, same_export}
use Rattle.qs_graph.proofs.Rights.{same-shares, same-takes, same-writable, together}

-- an export stood at this place before, with some number of clients
abbrev pub Before : GraphValue → ℕ → Export → Type 0
Before v e y = (x : Export) × (StandsAt v e x × SameExport x y)

-- an export stands at this place still, with some number of clients
abbrev pub Still : GraphValue → ℕ → Export → Type 0
Still v e x = (y : Export) × (StandsAt v e y × SameExport x y)

pub same_more : (x y z : Export) → SameExport x y → SameExport y z → SameExport x z
same_more x y z a b = b ∙ ap (λ (t : Export). record t { clients = z.clients }) a

-- a place with another number of clients
pub counted_before : (v : GraphValue) (k n e : ℕ) (y : Export) → StandsAt (export_placed v k (clients_counted (export_at v.places k) n)) e y → Before v e y
counted_before v k n e y =
    at_set (λ (p : Option Export). p ≡ Some y → Before v e y) v.places k (clients_counted (export_at v.places k) n) e
    (λ at. (y, (at, refl))) (λ same. here (export_at v.places k) (ap (export_at v.places) same))
  where
    here : (p : Option Export) → export_at v.places e ≡ p → clients_counted p n ≡ Some y → Before v e y
    here None at is = absurd (none_not y is)
    here (Some x) at is =
        let same : record x { clients = n } ≡ y = same_export (record x { clients = n }) y is in
        (x, (at, sym same ∙ ap (λ (m : ℕ). record x { clients = m }) (ap (λ (t : Export). t.clients) same)))

pub counted_still : (v : GraphValue) (k n e : ℕ) (x : Export) → StandsAt v e x → Still (export_placed v k (clients_counted (export_at v.places k) n)) e x
counted_still v k n e x at =
    at_set (λ (p : Option Export). (y : Export) × ((p ≡ Some y) × SameExport x y)) v.places k (clients_counted (export_at v.places k) n) e
    (x, (at, refl)) (λ same. here (export_at v.places k) (sym (ap (export_at v.places) same) ∙ at))
  where
    here : (p : Option Export) → p ≡ Some x → (y : Export) × ((clients_counted p n ≡ Some y) × SameExport x y)
    here None is = absurd (none_not x is)
    here (Some z) is =
        let same : z ≡ x = same_export z x is in
        (record z { clients = n }, (refl, ap (λ (t : Export). record t { clients = n }) same))

-- where each standing export stood before, the graph is still allowed
pub kept_allowed : (v w : GraphValue) → w.read_only ≡ v.read_only → ((e : ℕ) (y : Export) → StandsAt w e y → Before v e y) →
    IsAllowed v → IsAllowed w
kept_allowed v w file before ok = record {
  shared = λ d e x y right apart a b h. shared d e x y right apart (before d x a) (before e y b) h;
  writable = λ e y at h. writable e y (before e y at) h;
}
  where
    shared : (d e : ℕ) (x y : Export) (right : Right) → d ≢ e → Before v d x → Before v e y → IsTrue (takes x right) → IsTrue (shares y right)
    shared d e x y right apart a b h =
        same-shares b.0 y b.1.1 right
        ∙ ok.shared d e a.0 b.0 right apart a.1.0 b.1.0 (sym (same-takes a.0 x a.1.1 right) ∙ h)

    writable : (e : ℕ) (y : Export) → Before v e y → w.read_only ≡ true → y.writable ≡ false
    writable e y b h = same-writable b.0 y b.1.1 ∙ ok.writable e b.0 b.1.0 (sym file ∙ h)

-- a new export, or one that stood before
abbrev pub NewOrOld : GraphValue → ℕ → Export → ℕ → Export → Type 0
NewOrOld v k x e y = StandsAt v e y ⊎ ((e ≡ k) × (x ≡ y))

pub placed_was : (v : GraphValue) (k : ℕ) (x : Export) (e : ℕ) (y : Export) → StandsAt (export_placed v k (Some x)) e y → NewOrOld v k x e y
placed_was v k x e y =
    at_set (λ (p : Option Export). p ≡ Some y → NewOrOld v k x e y) v.places k (Some x) e
    (λ at. inl at) (λ same is. inr (same, same_export x y is))

pub added_allowed : (v : GraphValue) (k : ℕ) (x : Export) (node : List ℕ) → IsShared v x node → IsAllowed v → IsAllowed (export_placed v k (Some x))
added_allowed v k x node new ok = record {
  shared = λ d e y z right apart a b h. shared d e y z right apart (placed_was v k x d y a) (placed_was v k x e z b) h;
  writable = λ e y at h. writable e y (placed_was v k x e y at) h;
}
  where
    shared : (d e : ℕ) (y z : Export) (right : Right) → d ≢ e → NewOrOld v k x d y → NewOrOld v k x e z →
        IsTrue (takes y right) → IsTrue (shares z right)
    shared d e y z right apart (inl a) (inl b) h = ok.shared d e y z right apart a b h
    shared d e y z right apart (inl a) (inr b) h =
        subst (λ (t : Export). IsTrue (shares t right)) b.1 ((together x y (none_against v.places x new.1 d y a) right).1 h)
    shared d e y z right apart (inr a) (inl b) h =
        (together x z (none_against v.places x new.1 e z b) right).0 (subst (λ (t : Export). IsTrue (takes t right)) (sym a.1) h)
    shared d e y z right apart (inr a) (inr b) h = absurd (apart (a.0 ∙ sym b.0))

    never : (a b : Bool) → (a && b) ≡ false → b ≡ true → a ≡ false
    never true true f h = f
    never true false f h = cc
    never false b f h = refl

    writable : (e : ℕ) (y : Export) → NewOrOld v k x e y → v.read_only ≡ true → y.writable ≡ false
    writable e y (inl a) h = ok.writable e y a h
    writable e y (inr a) h = subst (λ (t : Export). t.writable ≡ false) a.1 (never x.writable v.read_only new.0.1 h)

-- each answer keeps the graph allowed
pub after_allowed : (v : GraphValue) (op : GraphOp) (reply : GraphReply) → May v op reply → IsAllowed v → IsAllowed (after v op reply)
after_allowed v (ExportAdd id name node writable share) (Added e) may ok =
    added_allowed v e (new_export id name writable share) node may.0 ok
after_allowed v (Attach name) (Attached info) may ok =
    kept_allowed v (after v (Attach name) (Attached info)) refl
    (counted_before v info.e (clients_of (export_at v.places info.e) + 1)) ok
after_allowed v (Detach e) Detached may ok =
    kept_allowed v (after v (Detach e) Detached) refl (counted_before v e (clients_of (export_at v.places e) - 1)) ok
after_allowed v _ _ may ok = ok

pub fresh_allowed : (size : ℕ) (file : List ℕ) (read_only : Bool) → IsAllowed (fresh size file read_only)
fresh_allowed size file read_only = record {
  shared = λ d e x y right apart a b h. absurd (none_not x (sym (nobody 64 d) ∙ a));
  writable = λ e x at h. absurd (none_not x (sym (nobody 64 e) ∙ at));
}

pub stands_allowed : (size : ℕ) (file : List ℕ) (read_only : Bool) (cs : List (Call GraphOp GraphReply)) (v : GraphValue)
    → StandsForFresh size file read_only cs v → IsAllowed v
stands_allowed size file read_only cs v stands =
    stands_keeps lawful_call IsAllowed
    (λ old op reply new call ok. subst IsAllowed (sym call.1.1) (after_allowed old op reply call.1.0 ok))
    (fresh size file read_only) cs v stands (fresh_allowed size file read_only)

-- the image keeps its size
pub stands_size : (opening : GraphValue) (cs : List (Call GraphOp GraphReply)) (v : GraphValue) → StandsFor lawful_call opening cs v
    → v.size ≡ opening.size
stands_size opening cs v stands = stands_fixed (λ (g : GraphValue). g.size) Fits answers opening cs v stands

-- each answer leaves an export where it stands
pub placed_still : (v : GraphValue) (k : ℕ) (p : Option Export) (e : ℕ) (x : Export) → position is_vacant v.places ≡ Some k → StandsAt v e x →
    Still (export_placed v k p) e x
placed_still v k p e x free at =
    at_set (λ (q : Option Export). (y : Export) × ((q ≡ Some y) × SameExport x y)) v.places k p e
    (x, (at, refl)) (λ same. absurd (taken (export_at v.places k) (sym (ap (export_at v.places) same) ∙ at) (position-Some is_vacant v.places k None free).1))
  where
    taken : (q : Option Export) → q ≡ Some x → is_vacant q ≡ true → ⊥
    taken None is f = none_not x is
    taken (Some y) is f = cc

pub after_still : (v : GraphValue) (op : GraphOp) (reply : GraphReply) (e : ℕ) (x : Export) → May v op reply → StandsAt v e x →
    Still (after v op reply) e x
after_still v (ExportAdd id name node writable share) (Added k) e x may at =
    placed_still v k (Some (new_export id name writable share)) e x may.1 at
after_still v (Attach name) (Attached info) e x may at =
    counted_still v info.e (clients_of (export_at v.places info.e) + 1) e x at
after_still v (Detach k) Detached e x may at = counted_still v k (clients_of (export_at v.places k) - 1) e x at
after_still v _ _ e x may at = (x, (at, refl))

pub still_more : (v w : GraphValue) (e : ℕ) (x : Export) → ((y : Export) → StandsAt v e y → Still w e y) → Still v e x → Still w e x
still_more v w e x later s = let t : Still w e s.0 = later s.0 s.1.0 in (t.0, (t.1.0, same_more x s.0 t.0 s.1.1 t.1.1))

pub call_still : (e : ℕ) (x : Export) (old : GraphValue) (op : GraphOp) (reply : GraphReply) (new : GraphValue) → lawful_call old op reply new
    → Still old e x → Still new e x
call_still e x old op reply new call still =
    still_more old new e x
    (λ y at. subst (λ (v : GraphValue). Still v e y) (sym call.1.1) (after_still old op reply e y call.1.0 at)) still

pub stands_still : (opening : GraphValue) (cs : List (Call GraphOp GraphReply)) (v : GraphValue) (e : ℕ) (x : Export)
    → StandsFor lawful_call opening cs v → StandsAt opening e x → Still v e x
stands_still opening cs v e x stands at =
    stands_keeps lawful_call (λ (w : GraphValue). Still w e x) (call_still e x) opening cs v stands (x, (at, refl))

-- a Route answers for the export that stands there
pub route_for : (v : GraphValue) (e : ℕ) (x : Export) (reply : GraphReply) → StandsAt v e x → May v (Route e) reply →
    reply ≡ Routed (route_of v.size x)
route_for v e x Shutting at may = absurd (none_not x (sym may ∙ at))
route_for v e x (Routed way) at may =
    ap (λ (w : Way). Routed w) (may.1.1 ∙ ap (λ (y : Export). route_of v.size y) (same_export may.0 x (sym may.1.0 ∙ at)))
route_for v e x _ at may = absurd may

pub still_way : (opening v : GraphValue) (e : ℕ) (x : Export) (reply : GraphReply) → v.size ≡ opening.size → Still v e x →
    May v (Route e) reply → reply ≡ Routed (route_of opening.size x)
still_way opening v e x reply same still may =
    route_for v e still.0 reply still.1.0 may
    ∙ ap (λ (size : ℕ). Routed (route_of size still.0)) same
    ∙ ap (λ (writable : Bool). Routed (record (route_of opening.size x) { writable = writable })) (same-writable x still.0 still.1.1)
