-- What the table's rows say of each place, for the crate above.
use Rattle.std.proofs.Common.{◌≡◌, ◌≢◌, ℕ, ◌+◌, ◌-◌, ◌<◌, ◌≤◌, List, [], ◌∷◌, length, Bool, true, false, refl, sym, ◌∙◌, ap, subst, arith, inl, inr, ◌⊎◌}
use Rattle.std.specs.Prelude.{nat_lt, Option, Some, None, position, ◌||◌, cond}
use Rattle.std.specs.List.{position_or_len}
use Rattle.std.specs.Str.{bytes_eq}
use Rattle.std.proofs.lemmas.Bool.Decides.{nat_tests}
use Rattle.std.proofs.lemmas.List.{get_or-set_same, get_or-set_other, get_or_past, length-set}
use Rattle.std.proofs.lemmas.List.Quantifiers.{position-Some}
use Rattle.std.proofs.lemmas.List.Sums.{fails_before_first}
use Rattle.std.proofs.lemmas.Slice.Eq.{bytes_eq-Decides}
use Rattle.qs_part.specs.declared.graph.ExportInfo.{ExportInfo}
use Rattle.qs_part.specs.declared.graph.GraphOp.{GraphOp}
use Rattle.qs_part.specs.declared.graph.GraphOp.TheVariants.{AddRaw, AddThrottle, Del, ReopenRaw, ReopenThrottle, GroupAdd, GroupDel, ExportAdd, ExportDel, Find, Attach, Detach, Route, ListNodes, ListExports}
use Rattle.qs_part.specs.declared.graph.GraphReply.{GraphReply}
use Rattle.qs_part.specs.declared.graph.GraphReply.TheVariants.{Added, Attached, Detached}
use Rattle.qs_graph.specs.declared.export.Export.{Export}
use Rattle.qs_graph.specs.Exports.{clients_of, clients_counted, export_at, found_at, has_alike, has_name, is_standing, is_vacant, new_export}
use Rattle.qs_graph.specs.Table.{GraphValue, IsShared, May, after, export_placed}
use Rattle.qs_graph.proofs.Standing.{at_set, none_not, same_export}

-- a test that passes nowhere fails at each place
pub fails_at : (p : Option Export → Bool) (places : List (Option Export)) → p None ≡ false → position p places ≡ None →
    (e : ℕ) → p (export_at places e) ≡ false
fails_at p places out none e = go (nat_lt e (length places)) refl (nat_lt (position_or_len p places) (length places)) refl none
  where
    go : (a : Bool) → nat_lt e (length places) ≡ a → (b : Bool) → nat_lt (position_or_len p places) (length places) ≡ b →
        cond b (Some (position_or_len p places)) None ≡ None → p (export_at places e) ≡ false
    go false h b f is =
        let past : length places ≤ e = grind (arith, nat_tests) in
        subst (λ (q : Option Export). p q ≡ false) (sym (get_or_past places e None past)) out
    go true h false f is =
        let within : e < position_or_len p places = grind (arith, nat_tests) in
        fails_before_first p places e None within
    go true h true f is = cc

-- the export at this place is the one that a name means
pub record Means (places : List (Option Export)) (name : List ℕ) (e : ℕ) : Type 0 where
  pub export : Export
  pub stands : export_at places e ≡ Some export
  pub named : (name ≡ export.name) ⊎ ((name ≡ []) × ((d : ℕ) → d < e → export_at places d ≡ None))

vacant_none : (p : Option Export) → is_standing p ≡ false → p ≡ None
vacant_none None h = refl
vacant_none (Some x) h = cc

named_here : (places : List (Option Export)) (name : List ℕ) (e : ℕ) (p : Option Export) → export_at places e ≡ p →
    has_name name p ≡ true → Means places name e
named_here places name e None at is = cc
named_here places name e (Some x) at is = record { export = x; stands = at; named = inl (sym ((bytes_eq-Decides x.name name).0 is)) }

first_here : (places : List (Option Export)) (e : ℕ) (p : Option Export) → export_at places e ≡ p →
    is_standing p ≡ true → ((d : ℕ) → d < e → export_at places d ≡ None) → Means places [] e
first_here places e None at is below = cc
first_here places e (Some x) at is below = record { export = x; stands = at; named = inr (refl, below) }

-- what is found is what the name means
pub found_means : (places : List (Option Export)) (name : List ℕ) (e : ℕ) → found_at places name ≡ Some e → Means places name e
found_means places [] e is =
    let at = position-Some is_standing places e None is in
    first_here places e (export_at places e) refl at.1 (λ d h. vacant_none (export_at places d) (at.2 d h))
found_means places (byte ∷ bytes) e is =
    let at = position-Some (has_name (byte ∷ bytes)) places e None is in
    named_here places (byte ∷ bytes) e (export_at places e) refl at.1

standing_true : (x : Export) (p : Option Export) → p ≡ Some x → is_standing p ≡ false → ⊥
standing_true x None at is = none_not x at
standing_true x (Some y) at is = cc

named_true : (name : List ℕ) (x : Export) (p : Option Export) → p ≡ Some x → name ≡ x.name → has_name name p ≡ false → ⊥
named_true name x None at same is = none_not x at
named_true name x (Some y) at same is =
    never ((bytes_eq-Decides y.name name).1 (ap (λ (z : Export). z.name) (same_export y x at) ∙ sym same)) is
  where
    never : {b : Bool} → b ≡ true → b ≡ false → ⊥
    never e f = cc

-- where nothing is found the name means no export
pub none_means : (places : List (Option Export)) (name : List ℕ) → found_at places name ≡ None → (e : ℕ) → Means places name e → ⊥
none_means places [] is e m = standing_true m.export (export_at places e) m.stands (fails_at is_standing places refl is e)
none_means places (byte ∷ bytes) is e m = go m.named
  where
    go : ((byte ∷ bytes) ≡ m.export.name) ⊎ (((byte ∷ bytes) ≡ []) × ((d : ℕ) → d < e → export_at places d ≡ None)) → ⊥
    go (inl same) = named_true (byte ∷ bytes) m.export (export_at places e) m.stands same (fails_at (has_name (byte ∷ bytes)) places refl is e)
    go (inr other) = let f : (byte ∷ bytes) ≡ [] = other.0 in cc

-- a new export takes the lowest free place, and no standing one has its id or its name
pub record IsFresh (places : List (Option Export)) (x : Export) (e : ℕ) : Type 0 where
  pub room : e < length places
  pub free : export_at places e ≡ None
  pub lowest : (d : ℕ) → d < e → export_at places d ≢ None
  pub id : (d : ℕ) (y : Export) → export_at places d ≡ Some y → y.id ≢ x.id
  pub name : (d : ℕ) (y : Export) → export_at places d ≡ Some y → y.name ≢ x.name

free_none : (p : Option Export) → is_vacant p ≡ true → p ≡ None
free_none None h = refl
free_none (Some x) h = cc

taken_some : (p : Option Export) → is_vacant p ≡ false → p ≢ None
taken_some None h f = cc
taken_some (Some x) h f = none_not x (sym f)

unlike : (x y : Export) (p : Option Export) → p ≡ Some y → has_alike x.id x.name p ≡ false → (y.id ≢ x.id) × (y.name ≢ x.name)
unlike x y None at is = absurd (none_not y at)
unlike x y (Some z) at is =
    let same = same_export z y at in (
      λ h. never (bytes_eq z.id x.id) (bytes_eq z.name x.name) is (inl ((bytes_eq-Decides z.id x.id).1 (ap (λ (t : Export). t.id) same ∙ h))),
      λ h. never (bytes_eq z.id x.id) (bytes_eq z.name x.name) is (inr ((bytes_eq-Decides z.name x.name).1 (ap (λ (t : Export). t.name) same ∙ h))),
    )
  where
    never : (a b : Bool) → (a || b) ≡ false → (a ≡ true) ⊎ (b ≡ true) → ⊥
    never true b is h = cc
    never false true is h = cc
    never false false is (inl h) = cc
    never false false is (inr h) = cc

pub shared_fresh : (v : GraphValue) (x : Export) (node : List ℕ) (e : ℕ) → IsShared v x node → position is_vacant v.places ≡ Some e →
    IsFresh v.places x e
shared_fresh v x node e new free =
    let at = position-Some is_vacant v.places e None free in
    let other : (d : ℕ) (y : Export) → export_at v.places d ≡ Some y → (y.id ≢ x.id) × (y.name ≢ x.name) =
    λ d y h. unlike x y (export_at v.places d) h (fails_at (has_alike x.id x.name) v.places refl new.0.0.0 d) in
    record {
      room = at.0;
      free = free_none (export_at v.places e) at.1;
      lowest = λ d h. taken_some (export_at v.places d) (at.2 d h);
      id = λ d y h. (other d y h).0;
      name = λ d y h. (other d y h).1;
    }

-- a place after a write: what was written, or what was there
pub placed_here : (v : GraphValue) (e : ℕ) (p : Option Export) → e < length v.places → export_at (export_placed v e p).places e ≡ p
placed_here v e p inside = get_or-set_same v.places e p None inside

pub placed_other : (v : GraphValue) (e : ℕ) (p : Option Export) (d : ℕ) → d ≢ e → export_at (export_placed v e p).places d ≡ export_at v.places d
placed_other v e p d apart = get_or-set_other v.places e d p None apart

-- an export with a client stands
pub counted_stands : (places : List (Option Export)) (e : ℕ) → 0 < clients_of (export_at places e) → (x : Export) × (export_at places e ≡ Some x)
counted_stands places e some = go (export_at places e) refl some
  where
    go : (p : Option Export) → export_at places e ≡ p → 0 < clients_of p → (x : Export) × (export_at places e ≡ Some x)
    go None at h = absurd (omega (arith, h))
    go (Some x) at h = (x, at)

-- the places stay as many as they are
pub after_length : (v : GraphValue) (op : GraphOp) (reply : GraphReply) → length (after v op reply).places ≡ length v.places
after_length v (ExportAdd id name node writable share) (Added e) = length-set v.places e _
after_length v (Attach name) (Attached info) = length-set v.places info.e _
after_length v (Detach e) Detached = length-set v.places e _
after_length v _ _ = refl

-- an export that stands has a place in the list
pub stands_inside : (places : List (Option Export)) (e : ℕ) (x : Export) → export_at places e ≡ Some x → e < length places
stands_inside places e x at = go (nat_lt e (length places)) refl
  where
    go : (b : Bool) → nat_lt e (length places) ≡ b → e < length places
    go true f = grind (arith, nat_tests)
    go false f = absurd (none_not x (sym (get_or_past places e None (grind (arith, nat_tests))) ∙ at))

-- a place whose export is given another number of clients has that many
pub counted_here : (v : GraphValue) (e n : ℕ) → e < length v.places → (x : Export) → export_at v.places e ≡ Some x →
    clients_of (export_at (export_placed v e (clients_counted (export_at v.places e) n)).places e) ≡ n
counted_here v e n inside x at = ap clients_of (placed_here v e _ inside) ∙ ap (λ (p : Option Export). clients_of (clients_counted p n)) at

-- how many clients the export at a place has, after a client more, a client less, and a new export
pub attach_here : (v : GraphValue) (name : List ℕ) (info : ExportInfo) → found_at v.places name ≡ Some info.e →
    clients_of (export_at (after v (Attach name) (Attached info)).places info.e) ≡ clients_of (export_at v.places info.e) + 1
attach_here v name info is = counted_here v info.e _ (stands_inside v.places info.e m.export m.stands) m.export m.stands
  where
    m : Means v.places name info.e
    m = found_means v.places name info.e is

pub attach_other : (v : GraphValue) (name : List ℕ) (info : ExportInfo) (d : ℕ) → d ≢ info.e →
    clients_of (export_at (after v (Attach name) (Attached info)).places d) ≡ clients_of (export_at v.places d)
attach_other v name info d apart = ap clients_of (placed_other v info.e _ d apart)

pub detach_here : (v : GraphValue) (e : ℕ) → 0 < clients_of (export_at v.places e) →
    clients_of (export_at (after v (Detach e) Detached).places e) ≡ clients_of (export_at v.places e) - 1
detach_here v e some =
    let (x, stands) = counted_stands v.places e some in counted_here v e _ (stands_inside v.places e x stands) x stands

pub detach_other : (v : GraphValue) (e d : ℕ) → d ≢ e →
    clients_of (export_at (after v (Detach e) Detached).places d) ≡ clients_of (export_at v.places d)
detach_other v e d apart = ap clients_of (placed_other v e _ d apart)

pub added_counts : (v : GraphValue) (op : GraphOp) (e d : ℕ) → May v op (Added e) →
    clients_of (export_at (after v op (Added e)).places d) ≡ clients_of (export_at v.places d)
added_counts v (ExportAdd id name node writable share) e d may =
    at_set (λ (p : Option Export). clients_of p ≡ clients_of (export_at v.places d)) v.places e _ d refl
    (λ same. sym (ap clients_of (ap (export_at v.places) same ∙ (shared_fresh v (new_export id name writable share) node e may.0 may.1).free)))
added_counts v (AddRaw name child offset size read_only) e d may = absurd may
added_counts v (AddThrottle name child group read_only) e d may = absurd may
added_counts v (Del name) e d may = absurd may
added_counts v (ReopenRaw name child offset size) e d may = absurd may
added_counts v (ReopenThrottle name child group) e d may = absurd may
added_counts v (GroupAdd id) e d may = absurd may
added_counts v (GroupDel id) e d may = absurd may
added_counts v (ExportDel id hard) e d may = absurd may
added_counts v (ListNodes table) e d may = absurd may
added_counts v (ListExports table) e d may = absurd may
added_counts v (Find name) e d may = absurd may
added_counts v (Attach name) e d may = absurd may
added_counts v (Detach k) e d may = absurd may
added_counts v (Route k) e d may = absurd may
