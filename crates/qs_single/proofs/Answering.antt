-- One request, from its Ask to its answer.
use Rattle.std.proofs.Common.{◌≡◌, ◌↔◌, ℕ, ◌+◌, ◌-◌, ◌*◌, ◌/◌, ◌^◌, ◌<◌, ◌≤◌, inl, inr, Bool, false, List, [], ◌∷◌, ◌++◌, length, map, refl, sym, ap, subst, ◌∙◌, arith, append_assoc}
use Rattle.std.specs.Prelude.{Option, Some, None}
use Rattle.std.specs.List.{AllByRecursion}
use Rattle.qs_bytes.specs.declared.ask.Ask.{Ask}
use Rattle.qs_bytes.specs.declared.ask.Verdict.{Verdict}
use Rattle.qs_outside.specs.Blocks.{Seen, Same}
use Rattle.qs_outside.specs.Faults.{Rose}
use Rattle.qs_image.specs.Image.{AllTell, RoseAt, SameDisks, block_past, content, disk, size_of}
use Rattle.qs_image.specs.Opening.{IsAlign, IsAlike, IsImage}
use Rattle.qs_part.specs.declared.event.Actor.TheVariants.{Request as ARequest}
use Rattle.qs_part.specs.declared.event.Event.TheVariants.{Ask as AskEvent, Step}
use Rattle.qs_part.specs.declared.event.Note.{Note}
use Rattle.qs_part.specs.declared.event.Outcome.{Outcome}
use Rattle.qs_part.specs.declared.event.Outcome.TheVariants.{Answered, Made, Memory, NotNext}
use Rattle.qs_part.specs.declared.stripe.Side.TheVariants.{Head, Tail}
use Rattle.qs_graph.specs.Exports.{export_at}
use Rattle.qs_graph.specs.Table.{GraphValue}
use Rattle.qs_model.specs.Acts.{Element, Attached, NoExport, Crowded, Left, Detached, NotAttached, Asked, Did, Exported, Planned, Crashed}
use Rattle.qs_model.specs.Events.{BringsBytes, IsEvent, outcome_of}
use Rattle.qs_model.specs.Guards.{CanAsk}
use Rattle.qs_model.specs.Laws.{opening_world}
use Rattle.qs_model.specs.Requests.{Client, Req, edge, is_flush, stores_bytes}
use Rattle.qs_model.specs.Steps.{Runs, world_after, happens}
use Rattle.qs_model.specs.Worlds.{Image, Live, Opening, Session, World}
use Rattle.qs_model.proofs.Basics.{block_high, block_low, blocks_le, put_here}
use Rattle.qs_request_state.specs.declared.shape.Shape.{Shape}
use Rattle.qs_stripe.specs.Table.{StripeState}
use Rattle.qs_verdicts.specs.Stories.{Given, Way, route_by}
use Rattle.qs_verdicts.specs.Verdicts.{IsAnswered, Meets, verdict_by_way}
use Rattle.qs_alone.specs.Alone.{AreOf, AnswerChanges, HasFailed, IsAlone, IsOff, IsServed, routed_in, way_by, way_in}
use Rattle.qs_alone.proofs.Waits.{never_waits}
use Rattle.qs_alone.proofs.Served.{served}
use Rattle.qs_world.specs.declared.live.Live.{Live as LiveRequest}
use Rattle.qs_world.specs.Events.{HasCause, IsNotNext, Steps, StepsTo}
use Rattle.qs_world.specs.Stands.{Stands}
use Rattle.qs_world.specs.Values.{WorldValue, disks_of, request_at}
use Rattle.qs_world.proofs.Keyed.{find_head}
use Rattle.qs_calls.specs.Calls.{AreCalls, Call, Happened, Plays, Walks}
use Rattle.qs_calls.specs.Goings.{RunsOut}
use Rattle.qs_calls.proofs.Plays.{after_more, leads, plays_of, runs_more}
use Rattle.qs_single.specs.Resting.{IsBody, IsResting}
use Rattle.qs_single.specs.Service.{Called, HasRisen, LeadsTo, MayGet, whole_route}
use Rattle.qs_single.proofs.Asked.{own_bytes, some_length}
use Rattle.qs_single.proofs.Contents.{byte_is, content_length, past_is, told_model}
use Rattle.qs_single.proofs.Leading.{AreContents, leading, sent}
use Rattle.qs_single.proofs.Segments.{asks, closes, parted, step_ends}
use Rattle.qs_single.proofs.Walking.{AreEvents, IsQuiet, ask_quiet, off_quiet, risen, run_events, walk_disks, walk_off, walk_shape}

pub some_bytes : (align : ℕ) → IsAlign align → 0 < align
some_bytes align (inl e) = omega (arith, e)
some_bytes align (inr e) = omega (arith, e)

pub has_bytes : {D : Type 0} (seen : D → Seen) (session : ℕ) (writable : Bool) (w : WorldValue D) → IsResting seen session writable w → 0 < w.shape.align
has_bytes seen session writable w rests = some_bytes w.shape.align (subst IsAlign (sym rests.align) rests.image.1.0)

-- a request's steps in the model, from its Ask on
pub record Ran {D : Type 0} (seen : D → Seen) (session : ℕ) (a : Ask) (body : Option (List ℕ)) (w : WorldValue D) (o : Opening) (before : List Element) (number : ℕ)
    (calls : List Call) (v : Verdict) (w' : WorldValue D) : Type 0 where
  pub client : Client
  pub front : List Element
  pub step : Element
  pub session_is : session ≡ client.session
  pub ask_is : a ≡ client.ask
  pub brings : BringsBytes body client
  pub may : CanAsk (world_after w.shape.align (opening_world o) before) number client
  pub alone : IsAlone w.shape.align o before number client (front ++ step ∷ [])
  pub answers : IsAnswered number v step
  pub fulls : List (ℕ → Option Bool)
  pub walked : Walks seen w calls (Asked number client ∷ (front ++ step ∷ [])) fulls w'
  pub stands : Stands seen w' (world_after w.shape.align (opening_world o) (before ++ Asked number client ∷ (front ++ step ∷ [])))

-- a run of a request that is alone ends in its answer
pub ran : {D : Type 0} (seen : D → Seen) (session : ℕ) (writable : Bool) (a : Ask) (body : Option (List ℕ)) (now : ℕ) (w w' : WorldValue D) (number : ℕ) (steps : List Call) (last : Outcome) →
    (rests : IsResting seen session writable w) → RunsOut (Step (ARequest number) now) steps last → Plays seen w (Happened (AskEvent session a body) (Made number) ∷ steps) w' →
    (v : Verdict) × (n : Option Note) × ((last ≡ Answered v n)
    × Ran seen session a body w rests.opened rests.steps number (Happened (AskEvent session a body) (Made number) ∷ steps) v w')
ran {D} seen session writable a body now w w' number steps last rests out plays =
    let A : ℕ = w.shape.align in
    let o : Opening = rests.opened in
    let before : List Element = rests.steps in
    let m : World = world_after A (opening_world o) before in
    let calls : List Call = Happened (AskEvent session a body) (Made number) ∷ steps in
    let led = leads seen A w calls w' m refl rests.stands plays in
    let p = parted A (AskEvent session a body) (Made number) steps led.elements led.are in
    let asked = asks A session a body number p.first p.answers p.out in
    let c = closes A number now out.front last p.rest out.on (subst (λ (cs : List Call). AreCalls A cs p.rest) out.whole p.are) in
    let its : List Element = c.front ++ c.step ∷ [] in
    let all_is : led.elements ≡ Asked number asked.client ∷ its =
    p.is ∙ ap (λ (e : Element). e ∷ p.rest) asked.is ∙ ap (λ (l : List Element). Asked number asked.client ∷ l) c.whole in
    let alone : IsAlone A o before number asked.client its = record {
      run = subst (λ (es : List Element). Runs A (opening_world o) (before ++ es)) all_is (runs_more A (opening_world o) before led.elements rests.run led.run);
      idle = λ s. rests.stands.request s ∙ ap (λ (ls : List LiveRequest). request_at ls s) rests.idle;
      own = subst (AreOf number) c.whole c.own;
    } in
    let may : Runs A m (Asked number asked.client ∷ its) = subst (Runs A m) all_is led.run in
    elim (step_ends A number c.step last c.act c.out out.ends) [
      | inl waits ↦ absurd (never_waits A o before number asked.client its (has_bytes seen session writable w rests) alone c.front c.step ([], refl) waits)
      | inr is ↦ (
        is.0,
        is.1,
        (
          is.2.0,
          record {
            client = asked.client;
            front = c.front;
            step = c.step;
            session_is = asked.session_is;
            ask_is = asked.ask_is;
            brings = asked.brings;
            may = may.0;
            alone = alone;
            answers = is.2.1;
            fulls = led.fulls;
            walked = subst (λ (es : List Element). Walks seen w calls es led.fulls w') all_is led.walked;
            stands = subst (λ (es : List Element). Stands seen w' (world_after A (opening_world o) (before ++ es))) all_is
                (subst (Stands seen w') (after_more A (opening_world o) before led.elements) led.stands);
          },
        ),
      )
    ]

one_place : (d e : ℕ) → Live d ≡ Live e → d ≡ e
one_place d e same = cc

-- no request stands where none is found
pub none_left : (ls : List LiveRequest) → ((r : ℕ) → request_at ls r ≡ None) → ls ≡ []
none_left [] none = refl
none_left (l ∷ ls) none =
    absurd (never l.request.value.request (sym (find_head (λ x. x.number) (λ x. x.request.value.request) l ls l.number refl) ∙ none l.number))
  where
    never : (q : Req) → Some q ≡ None → ⊥
    never q e = cc

-- the same disks are an image still
pub image_kept : (old new : List Seen) → SameDisks old new → IsImage old → IsImage new
image_kept old new same image = (
  (
    same.count ∙ image.0.0,
    λ k below. let like : IsAlike old k = image.0.1 k below in record {
      align = same.align k ∙ like.align ∙ sym (same.align 0);
      size = same.size k ∙ like.size ∙ sym (same.size 0);
      stripe = same.stripe k ∙ like.stripe;
    },
  ),
  rw (same.align 0, same.size 0) image.1,
)

-- a block that a request reaches has one of its bytes
reached : (A off len b : ℕ) → 0 < A → 0 < len → (0 + off) / A ≤ b → b ≤ ((0 + off + len) - 1) / A → (off < (b + 1) * A) × (b * A < off + len)
reached A off len b pos some low high =
    let up : off < off / A * A + A = block_high off A pos in
    let none : 0 + off ≡ off = omega arith in
    let first : off / A * A ≤ b * A = blocks_le (off / A) b A (subst (λ (n : ℕ). n / A ≤ b) none low) in
    let last : b * A ≤ ((0 + off + len) - 1) / A * A = blocks_le b (((0 + off + len) - 1) / A) A high in
    let down : ((0 + off + len) - 1) / A * A ≤ (0 + off + len) - 1 = block_low ((0 + off + len) - 1) A pos in
    let next : (b + 1) * A ≡ b * A + A = grind arith in
    (omega (arith, up, first, next), omega (arith, last, down, some))

module _ {D : Type 0} (seen : D → Seen) (session : ℕ) (writable : Bool) (a : Ask) (given : List ℕ) (body : Option (List ℕ)) (w : WorldValue D) (number : ℕ) (calls : List Call) (v : Verdict)
    (w' : WorldValue D) (rests : IsResting seen session writable w) (is_body : IsBody a given body) (events : AreEvents calls)
    (t : Ran seen session a body w rests.opened rests.steps number calls v w') where
  abbrev pub A : ℕ
  A = w.shape.align

  abbrev pub m : World
  m = world_after A (opening_world rests.opened) rests.steps

  abbrev pub its : List Element
  its = t.front ++ t.step ∷ []

  abbrev pub m' : World
  m' = world_after A (opening_world rests.opened) (rests.steps ++ Asked number t.client ∷ its)

  abbrev pub size : ℕ
  size = size_of (disks_of seen w)

  pub is_served : IsServed A m t.client its v m'
  is_served = served A rests.opened rests.steps number t.client t.front t.step v (has_bytes seen session writable w rests) t.alone t.answers

  pub same : SameDisks (disks_of seen w) (disks_of seen w')
  same = walk_disks seen w calls (Asked number t.client ∷ its) t.fulls w' events t.walked

  place_is : t.client.export ≡ rests.place
  place_is = one_place t.client.export rests.place (sym t.may.live ∙ ap m.session (sym t.session_is) ∙ rests.stands.session session ∙ rests.live)

  way_is : way_in m.graph t.client.export ≡ Given (whole_route size writable)
  way_is =
      ap (λ (g : GraphValue). way_in g t.client.export) rests.stands.graph ∙ ap (way_in w.graph) place_is
      ∙ ap (way_by w.graph.size) rests.is ∙ ap (λ (n : ℕ). Given (whole_route n rests.export.writable)) rests.size ∙ ap (λ (b : Bool). Given (whole_route size b)) rests.leave

  pub routed_is : routed_in m.graph t.client ≡ sent t.client size writable
  routed_is = ap (λ (way : Way). record t.client { route = route_by way }) way_is

  pub line : verdict_by_way t.client.ask t.client.buffered (Given (whole_route size writable)) is_served.fault is_served.got ≡ Some v
  line = subst (λ (way : Way). verdict_by_way t.client.ask t.client.buffered way is_served.fault is_served.got ≡ Some v) way_is is_served.reply

  pub may_get : MayGet size writable a v
  may_get = record {
    buffered = t.client.buffered;
    fault = is_served.fault;
    got = is_served.got;
    line = subst (λ (q : Ask). verdict_by_way q t.client.buffered (Given (whole_route size writable)) is_served.fault is_served.got ≡ Some v) (sym t.ask_is) line;
    long = λ bytes is. subst (λ (q : Ask). length bytes ≡ q.length) (sym t.ask_is) (is_served.whole bytes is);
    wants = λ none. subst (λ (q : Ask). 0 < q.length) (sym t.ask_is) (some_length t.client.ask t.client.buffered t.may.buffered none);
  }

  pub contents : AllTell (disks_of seen w) → AreContents A size m.image m'.image (content (disks_of seen w)) (content (disks_of seen w'))
  contents told =
      let image : IsImage (disks_of seen w') = image_kept (disks_of seen w) (disks_of seen w') same rests.image in
      let told' : AllTell (disks_of seen w') = λ k h. rw (same.tells k) (told k h) in
      record {
        long = content_length seen w m rests.stands rests.image;
        long_too = content_length seen w' m' t.stands image ∙ same.size 0;
        was = λ x below. byte_is seen w m rests.stands rests.image A rests.align told x below;
        is = λ x below. byte_is seen w' m' t.stands image A (rests.align ∙ sym (same.align 0)) told' x (rw (same.size 0) below);
      }

  leads_on : AllTell (disks_of seen w) → LeadsTo (content (disks_of seen w)) a given v (content (disks_of seen w'))
  leads_on told =
      subst (λ (q : Ask). LeadsTo (content (disks_of seen w)) q given v (content (disks_of seen w'))) (sym t.ask_is)
      (leading A size writable t.client given m.image m'.image (content (disks_of seen w)) (content (disks_of seen w')) (contents told) v is_served.fault is_served.got
      (own_bytes m number a t.client given body t.ask_is t.may t.brings is_body) line
      (subst (λ (c : Client). AnswerChanges A m.image c v m'.image) routed_is (is_served.changes (told_model seen w m rests.stands rests.image told))))

  past_as : AllTell (disks_of seen w) → m'.image ≡ m.image → Same (block_past (disks_of seen w)) (block_past (disks_of seen w'))
  past_as told image_is b =
      let image : IsImage (disks_of seen w') = image_kept (disks_of seen w) (disks_of seen w') same rests.image in
      let told' : AllTell (disks_of seen w') = λ k h. rw (same.tells k) (told k h) in
      past_is seen w' m' t.stands image told' b ∙ ap (λ (i : Image). i.past b) image_is ∙ sym (past_is seen w m rests.stands rests.image told b)

  reach : (j : ℕ) → 0 < t.client.ask.length → Meets (edge A (sent t.client size writable) Head) (edge A (sent t.client size writable) Tail) j →
      Rose (disk (disks_of seen w) j).faults (disk (disks_of seen w') j).faults → RoseAt (disks_of seen w) t.client.ask.offset t.client.ask.length (disks_of seen w')
  unfolding edge
  reach j some meets rose =
      let both = reached A t.client.ask.offset t.client.ask.length meets.0 (has_bytes seen session writable w rests) some meets.1 meets.2 in (
        meets.0,
        (
          record {
            behind = subst (λ (n : ℕ). t.client.ask.offset < (meets.0 + 1) * n) rests.align both.0;
            before = subst (λ (n : ℕ). meets.0 * n < t.client.ask.offset + t.client.ask.length) rests.align both.1;
          },
          subst (λ (i : ℕ). Rose (disk (disks_of seen w) i).faults (disk (disks_of seen w') i).faults) (sym meets.3) rose,
        ),
      )

  failed : HasFailed A (sent t.client size writable) its → HasRisen (disks_of seen w) t.client.ask (disks_of seen w')
  failed f =
      let rose : Rose (disk (disks_of seen w) f.stripe).faults (disk (disks_of seen w') f.stripe).faults =
      risen seen A w calls (Asked number t.client ∷ its) t.fulls w' refl events t.walked (Asked number t.client ∷ f.front) f.step
      (f.comes.0, ap (λ (l : List Element). Asked number t.client ∷ l) f.comes.1) f.stripe f.fails in
      elim f.reach [
        | inl flush ↦ inl (flush, (f.stripe, (f.small, rose)))
        | inr meets ↦ inr (reach f.stripe meets.0 meets.1 rose)
      ]

  -- no step of it waits, and none that is on no stripe calls one
  all_quiet : (before es : List Element) → before ++ es ≡ its → AllByRecursion IsOff es → AllByRecursion (IsQuiet A) es
  all_quiet before [] whole_route off = tt
  all_quiet before (e ∷ es) whole_route off = (
    off_quiet A e off.0 (λ waits. never_waits A rests.opened rests.steps number t.client its (has_bytes seen session writable w rests) t.alone before e (es, sym whole_route) waits),
    all_quiet (before ++ e ∷ []) es (append_assoc before (e ∷ []) es ∙ whole_route) off.1,
  )

  pub called : Called (disks_of seen w) a given v (disks_of seen w')
  called = record {
    leads = leads_on;
    past = λ told stores flush.
        past_as told (is_served.past (subst (λ (q : Ask). stores_bytes q.kind ≡ false) t.ask_is stores) (subst (λ (q : Ask). is_flush q.kind ≡ false) t.ask_is flush));
    uncalled = λ not_may. ap (λ (ss : List (StripeState D)). map seen (map (λ (s : StripeState D). s.disk) ss))
        (walk_off seen A w calls (Asked number t.client ∷ its) t.fulls w' refl events t.walked (ask_quiet A number t.client, all_quiet [] its refl (is_served.off not_may)));
    same = same;
    fault = λ io. subst (λ (q : Ask). HasRisen (disks_of seen w) q (disks_of seen w')) (sym t.ask_is)
        (failed (subst (λ (c : Client). HasFailed A c its) routed_is (is_served.failed io)));
  }

  pub rests_again : IsResting seen session writable w'
  rests_again =
      let shape : w'.shape ≡ w.shape = walk_shape seen w calls (Asked number t.client ∷ its) t.fulls w' events t.walked in
      let align : w'.shape.align ≡ A = ap (λ (s : Shape). s.align) shape in
      let graph : w'.graph ≡ w.graph = sym t.stands.graph ∙ is_served.graph ∙ rests.stands.graph in
      record {
        opened = rests.opened;
        steps = rests.steps ++ Asked number t.client ∷ its;
        run = subst (λ (n : ℕ). Runs n (opening_world rests.opened) (rests.steps ++ Asked number t.client ∷ its)) (sym align) t.alone.run;
        stands = subst (λ (n : ℕ). Stands seen w' (world_after n (opening_world rests.opened) (rests.steps ++ Asked number t.client ∷ its))) (sym align) t.stands;
        idle = none_left w'.requests (λ r. sym (t.stands.request r) ∙ is_served.idle r);
        place = rests.place;
        live = sym (t.stands.session session) ∙ ap (λ (f : ℕ → Session). f session) is_served.session ∙ rests.stands.session session ∙ rests.live;
        export = rests.export;
        is = ap (λ (g : GraphValue). export_at g.places rests.place) graph ∙ rests.is;
        leave = rests.leave;
        image = image_kept (disks_of seen w) (disks_of seen w') same rests.image;
        align = align ∙ rests.align ∙ sym (same.align 0);
        size = ap (λ (g : GraphValue). g.size) graph ∙ rests.size ∙ sym (same.size 0);
      }

  pub next_is : w'.next ≡ w.next + 1
  next_is = sym t.stands.next ∙ is_served.next ∙ ap (λ (n : ℕ). n + 1) rests.stands.next

-- the events of an exchange
pub its_events : (session : ℕ) (a : Ask) (body : Option (List ℕ)) (number now : ℕ) (steps : List Call) (last : Outcome) → RunsOut (Step (ARequest number) now) steps last →
    AreEvents (Happened (AskEvent session a body) (Made number) ∷ steps)
its_events session a body number now steps last out =
    subst AreEvents (sym out.whole) (run_events (Step (ARequest number) now) out.front last out.on)

-- an Ask of a session that is live is made, unless memory is refused
pub never_other : {D : Type 0} (seen : D → Seen) (session : ℕ) (writable : Bool) (a : Ask) (body : Option (List ℕ)) (w w' : WorldValue D) (out : Outcome) →
    IsResting seen session writable w → w.next < 2 ^ 64 - 1 → StepsTo seen w (AskEvent session a body) out w' → (out ≡ NotNext) ↔ IsNotNext w (AskEvent session a body) →
    HasCause seen w out w' → ((r : ℕ) → out ≡ Made r → ⊥) → (out ≡ Memory → ⊥) → ⊥
never_other {D} seen session writable a body w w' out rests room steps iff cause not_made not_memory =
    let step = (plays_of seen w (AskEvent session a body) out w' next not_memory steps cause).0 in
    go step.element step.answers_event step.outcome_is
  where
    next : out ≡ NotNext → ⊥
    next e = elim (iff.0 e) [ inl away ↦ away rests.place rests.live | inr far ↦ omega (arith, far, room) ]

    go : (e : Element) → IsEvent (AskEvent session a body) e → outcome_of w.shape.align e ≡ Some out → ⊥
    go (Asked r c) is told = not_made r (one told)
      where
        one : Some (Made r) ≡ Some out → out ≡ Made r
        one f = cc
    go (Attached s name info) is told = is
    go (NoExport s name) is told = is
    go (Crowded s name) is told = is
    go (Left s e) is told = is
    go (Detached s e) is told = is
    go (NotAttached s e) is told = is
    go (Did s q act) is told = is
    go (Exported op e) is told = is
    go (Planned j fail) is told = is
    go (Crashed left) is told = is

-- a request that was just made can step
pub never_gone : {D : Type 0} (seen : D → Seen) (session : ℕ) (writable : Bool) (a : Ask) (body : Option (List ℕ)) (w mid : WorldValue D) (number now : ℕ) →
    IsResting seen session writable w → Steps seen w (AskEvent session a body) (Made number) mid → IsNotNext mid (Step (ARequest number) now) → ⊥
never_gone {D} seen session writable a body w mid number now rests step gone =
    let m : World = world_after w.shape.align (opening_world rests.opened) rests.steps in
    let asked = asks w.shape.align session a body number step.element step.answers_event step.outcome_is in
    let does : Stands seen mid (happens w.shape.align m (Asked number asked.client)) =
    subst (λ (e : Element). Stands seen mid (happens w.shape.align m e)) asked.is (step.does m rests.stands).1 in
    never (sym (put_here m.req number _) ∙ does.request number ∙ gone)
  where
    never : {q : Req} → Some q ≡ None → ⊥
    never e = cc

-- the last step of its run is its answer
pub never_stuck : {D : Type 0} (seen : D → Seen) (session : ℕ) (writable : Bool) (a : Ask) (body : Option (List ℕ)) (now : ℕ) (w w' : WorldValue D) (number : ℕ) (steps : List Call) (last : Outcome) →
    IsResting seen session writable w → RunsOut (Step (ARequest number) now) steps last → Plays seen w (Happened (AskEvent session a body) (Made number) ∷ steps) w' →
    ((v : Verdict) (n : Option Note) → last ≡ Answered v n → ⊥) → ⊥
never_stuck seen session writable a body now w w' number steps last rests out plays other =
    let is = ran seen session writable a body now w w' number steps last rests out plays in other is.0 is.1 is.2.0
