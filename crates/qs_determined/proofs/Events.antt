-- An event of a session has one step: an Attach, a Leave, an Ask, a Detach.
use Rattle.std.proofs.Common.{◌≡◌, ℕ, ◌<◌, ◌≤◌, inl, inr, true, List, Option, Some, None, sym, ap, ◌∙◌, subst, arith}
use Rattle.qs_bytes.specs.declared.ask.Ask.{Ask}
use Rattle.qs_part.specs.declared.event.Actor.{Actor}
use Rattle.qs_part.specs.declared.event.Actor.TheVariants.{Session as ASession}
use Rattle.qs_part.specs.declared.graph.ExportInfo.{ExportInfo}
use Rattle.qs_model.specs.Requests.{Client, brings_bytes}
use Rattle.qs_part.specs.declared.graph.GraphOp.TheVariants.{Attach}
use Rattle.qs_part.specs.declared.graph.GraphReply.TheVariants.{Attached as AttachedReply, Crowded as CrowdedReply}
use Rattle.qs_graph.specs.Exports.{clients_of, export_at, found_at}
use Rattle.qs_graph.specs.Table.{GraphValue, info_at, May as GraphMay}
use Rattle.qs_model.specs.Worlds.{Session, Live, Leaving, World}
use Rattle.qs_model.specs.Guards.{CanAsk}
use Rattle.qs_model.specs.Events.{BringsBytes}
use Rattle.qs_model.proofs.Basics.{either}

-- an Attach by one name has one answer: what the client learns of one export
pub info_one : (v : GraphValue) (name given : List ℕ) (a b : ExportInfo) → given ≡ name → GraphMay v (Attach name) (AttachedReply a) →
    GraphMay v (Attach given) (AttachedReply b) → b ≡ a
info_one v name given a b same can too =
    let there : found_at v.places name ≡ Some b.e = subst (λ (n : List ℕ). found_at v.places n ≡ Some b.e) same too.0 in
    let here : found_at v.places name ≡ Some a.e = can.0 in
    let e : b.e ≡ a.e = cc in
    too.1 ∙ ap (info_at v) e ∙ sym can.1

-- an export isn't crowded and has room
pub crowded_never : (v : GraphValue) (name given : List ℕ) (info : ExportInfo) → given ≡ name → GraphMay v (Attach name) (AttachedReply info) →
    GraphMay v (Attach given) CrowdedReply → ⊥
crowded_never v name given info same can (d, (found, full)) =
    let there : found_at v.places name ≡ Some d = subst (λ (n : List ℕ). found_at v.places n ≡ Some d) same found in
    let here : found_at v.places name ≡ Some info.e = can.0 in
    let e : d ≡ info.e = cc in
    let room : clients_of (export_at v.places info.e) < 1024 = can.2 in
    let many : 1024 ≤ clients_of (export_at v.places info.e) = subst (λ (n : ℕ). 1024 ≤ clients_of (export_at v.places n)) e full in
    omega arith

-- where a name means no export it means none
pub found_never : (v : GraphValue) (name given : List ℕ) (e : ℕ) → given ≡ name → found_at v.places name ≡ None → found_at v.places given ≡ Some e → ⊥
found_never v name given e same none found = never (sym none ∙ subst (λ (n : List ℕ). found_at v.places n ≡ Some e) same found)
  where
    never : None ≡ Some e → ⊥
    never f = cc

-- the export that a session is at
pub live_one : (session : ℕ → Session) (s t e d : ℕ) → t ≡ s → session s ≡ Live e → session t ≡ Live d → d ≡ e
live_one session s t e d same a b = let there : session s ≡ Live d = subst (λ (n : ℕ). session n ≡ Live d) same b in cc

pub leaving_one : (session : ℕ → Session) (s t e d : ℕ) → t ≡ s → session s ≡ Leaving e → session t ≡ Leaving d → d ≡ e
leaving_one session s t e d same a b = let there : session s ≡ Leaving d = subst (λ (n : ℕ). session n ≡ Leaving d) same b in cc

pub session_one : (actor : Actor) (s t : ℕ) → actor ≡ ASession s → actor ≡ ASession t → t ≡ s
session_one actor s t a b = cc

-- the bytes of a WRITE are those that came with it
pub write_one : (c d : Client) (body : Option (List ℕ)) → d.ask ≡ c.ask → brings_bytes c.ask.kind ≡ true → brings_bytes d.ask.kind ≡ true → BringsBytes body c → BringsBytes body d → d.body ≡ c.body
write_one c d None same writing too a b = b.empty ∙ sym a.empty
write_one c d (Some body) same writing too (inl a) (inl b) = sym (b.1 too) ∙ a.1 writing
write_one c d (Some body) same writing too (inl a) (inr b) = absurd (b.0 (a.0 ∙ sym (ap (λ (x : Ask). x.length) same)))
write_one c d (Some body) same writing too (inr a) (inl b) = absurd (a.0 (b.0 ∙ ap (λ (x : Ask). x.length) same))
write_one c d (Some body) same writing too (inr a) (inr b) = b.1.empty ∙ sym a.1.empty

-- what a client asked for
pub asked_one : (w : World) (r s : ℕ) (c d : Client) (body : Option (List ℕ)) → d.session ≡ c.session → d.ask ≡ c.ask → d.buffered ≡ c.buffered →
    CanAsk w r c → CanAsk w s d → BringsBytes body c → BringsBytes body d → d ≡ c
asked_one w r s c d body session ask given can too a b = λ i. record {
  session = session i;
  export = live_one w.session c.session d.session c.export d.export session can.live too.live i;
  ask = ask i;
  body = same_body i;
  buffered = given i;
  route = (too.unrouted ∙ sym can.unrouted) i;
}
  where
    kind : brings_bytes d.ask.kind ≡ brings_bytes c.ask.kind
    kind = ap (λ (x : Ask). brings_bytes x.kind) ask

    same_body : d.body ≡ c.body
    same_body = elim (either (brings_bytes c.ask.kind)) [
      | inl writing ↦ let too_writing : brings_bytes d.ask.kind ≡ true = kind ∙ writing in
          write_one c d body ask writing too_writing a b
      | inr bare ↦ too.other (kind ∙ bare) ∙ sym (can.other bare)
    ]
