-- What a crash may leave behind one request.
use Rattle.std.proofs.Common.{◌≡◌, ℕ, ◌+◌, ◌-◌, ◌/◌, ◌%◌, ◌<◌, ◌≤◌, ◌⊎◌, inl, inr, Bool, true, false, not, ◌&&◌, cond, nat_lt, List, [], ◌∷◌, ◌++◌, get_or, IsTrue, refl, sym, ap, ◌∙◌, subst, arith, true≢false}
use Rattle.std.specs.Prelude.{Option, Some}
use Rattle.std.specs.List.{Contains}
use Rattle.qs_bytes.specs.Geometry.{stripe_of}
use Rattle.qs_bytes.specs.declared.ask.Ask.{Ask}
use Rattle.qs_bytes.specs.declared.ask.Errno.TheVariants.{Perm, Io, NoMem, Inval, NoSpace}
use Rattle.qs_bytes.specs.declared.ask.Kind.{Kind}
use Rattle.qs_bytes.specs.declared.ask.Kind.TheVariants.{Read, Write, Zero, Trim, Flush, Unknown}
use Rattle.qs_bytes.specs.declared.ask.Verdict.{Verdict}
use Rattle.qs_bytes.specs.declared.ask.Verdict.TheVariants.{Got, Fine, Refused, Dropped}
use Rattle.qs_outside.specs.Blocks.{Seen}
use Rattle.qs_image.specs.Image.{AllTell, SameDisks, align_of, block_past, content, size_of}
use Rattle.qs_image.specs.Opening.{IsImage}
use Rattle.qs_model.specs.Acts.{Element, Asked}
use Rattle.qs_model.specs.Laws.{opening_world}
use Rattle.qs_model.specs.Requests.{Client, body_at, covers, is_read, span_of, stores_bytes, writes}
use Rattle.qs_model.specs.Steps.{world_after}
use Rattle.qs_model.specs.Worlds.{Image, World, byte_at}
use Rattle.qs_model.proofs.Geometry.{covers_high, covers_low}
use Rattle.qs_model.proofs.Kept.{after_append}
use Rattle.qs_verdicts.specs.Stories.{Given}
use Rattle.qs_verdicts.specs.Verdicts.{IsAnswered, MayWork, is_malformed, needs_leave, needs_places, needs_room, passes, verdict_by_way}
use Rattle.qs_durable.specs.Ages.{MayBeLeft}
use Rattle.qs_alone.specs.Alone.{AnswerChanges, IsServed, routed_in, written_to}
use Rattle.qs_remains.specs.Remains.{IsStoredAt as HasStored, IsCleanSettled as IsCleanAlone, Remains}
use Rattle.qs_remains.proofs.Remains.{clean_settled, flushed, remains}
use Rattle.qs_world.specs.Stands.{Stands}
use Rattle.qs_world.specs.Values.{WorldValue, disks_of}
use Rattle.qs_calls.specs.Calls.{Call}
use Rattle.qs_single.specs.Remaining.{IsCleanSettled, IsLeftAt, IsSettled, IsStoredAt, Outlasts}
use Rattle.qs_single.specs.Resting.{IsBody, IsResting}
use Rattle.qs_single.specs.Service.{whole_route}
use Rattle.qs_single.proofs.Answering.{Ran, contents, has_bytes, image_kept, is_served, line, routed_is, same}
use Rattle.qs_single.proofs.Asked.{own_bytes}
use Rattle.qs_single.proofs.Contents.{now_is, past_is, told_model}
use Rattle.qs_single.proofs.Leading.{AreContents, IsOwn, sent}
use Rattle.qs_single.proofs.Lines.{got_reads, was_buffered}
use Rattle.qs_single.proofs.Walking.{AreEvents}

-- a READ stores nothing
read_stores : (k : Kind) → is_read k ≡ true → stores_bytes k ≡ true → ⊥
read_stores Read reads stores = true≢false (sym stores)
read_stores Write reads stores = true≢false (sym reads)
read_stores Zero reads stores = true≢false (sym reads)
read_stores Trim reads stores = true≢false (sym reads)
read_stores Flush reads stores = true≢false (sym reads)
read_stores (Unknown n) reads stores = true≢false (sym reads)

-- no line of the table answers Dropped
not_dropped : (a : Ask) (buffered : Bool) (size : ℕ) (writable fault : Bool) (got : List ℕ) → verdict_by_way a buffered (Given (whole_route size writable)) fault got ≡ Some Dropped → ⊥
not_dropped a buffered size writable fault got is =
    go (is_malformed a) buffered (needs_leave a.kind && not writable) (needs_places a.kind && passes a (whole_route size writable)) (needs_room a.kind && passes a (whole_route size writable)) fault
    (is_read a.kind) is
  where
    go : (b1 b2 b3 b4 b5 b6 b7 : Bool) → cond b1 (Some (Refused Inval)) (cond (not b2) (Some (Refused NoMem))
        (Some (cond b3 (Refused Perm) (cond b4 (Refused Inval) (cond b5 (Refused NoSpace) (cond b6 (Refused Io) (cond b7 (Got got) Fine))))))) ≡ Some Dropped → ⊥
    go true b2 b3 b4 b5 b6 b7 e = cc
    go false false b3 b4 b5 b6 b7 e = cc
    go false true true b4 b5 b6 b7 e = cc
    go false true false true b5 b6 b7 e = cc
    go false true false false true b6 b7 e = cc
    go false true false false false true b7 e = cc
    go false true false false false false true e = cc
    go false true false false false false false e = cc

-- the byte that the whole request leaves at a place that it stores to
written_whole : (A : ℕ) (old : Image) (d : Client) (x : ℕ) → writes d ≡ true → covers d x ≡ true → written_to A old d (span_of d).hi x ≡ body_at d x
written_whole A old d x stores covered =
    let high : x < (span_of d).hi = covers_high d x covered in
    ap (λ (b : Bool). cond b (body_at d x) (byte_at A old x)) (test (writes d) (covers d x) (nat_lt x (span_of d).hi) stores covered (grind (arith, high)))
  where
    test : (b1 b2 b3 : Bool) → b1 ≡ true → b2 ≡ true → b3 ≡ true → (b1 && b2 && b3) ≡ true
    test true true true e f g = refl
    test true true false e f g = g
    test true false b3 e f g = f
    test false b2 b3 e f g = e

-- what the request stores, at a place that it covers
stored_byte : (size : ℕ) (writable : Bool) (c : Client) (given : List ℕ) (x u : ℕ) → IsOwn c given → c.buffered ≡ true → HasStored (sent c size writable) x u →
    IsStoredAt c.ask given x u
stored_byte size writable c given x u own buffered h =
    let off : ℕ = c.ask.offset in
    let low : 0 + off ≤ x = covers_low (sent c size writable) x h.covered in
    let high : x < 0 + off + c.ask.length = covers_high (sent c size writable) x h.covered in
    let none : 0 + off ≡ off = omega arith in
    record {
      stores = h.stores;
      from = omega (arith, low);
      below = omega (arith, high);
      byte = sym (own.byte h.stores buffered (x - off) (omega (arith, low, high))) ∙ sym (ap (λ (lo : ℕ). get_or c.body (x - lo) 0) none) ∙ h.byte;
    }

-- by the answer: what may be left where the request stores
left_by : (A size : ℕ) (writable : Bool) (c : Client) (given : List ℕ) (old new : Image) (before behind : List ℕ) → AreContents A size old new before behind → (v : Verdict) (fault : Bool) (got : List ℕ) →
    IsOwn c given → verdict_by_way c.ask c.buffered (Given (whole_route size writable)) fault got ≡ Some v → AnswerChanges A old (sent c size writable) v new → ((MayWork v → ⊥) → new ≡ old) →
    (x u : ℕ) → x < size → HasStored (sent c size writable) x u → MayBeLeft A new x u →
    MayBeLeft A old x u ⊎ ((get_or before x 0 ≡ u) ⊎ ((get_or behind x 0 ≡ u) ⊎ ((v ≡ Refused Io) × IsStoredAt c.ask given x u)))
left_by A size writable c given old new before behind contents Fine fault got own reply changes still x u below h may =
    inr (inr (inl (contents.is x below ∙ changes x ∙ written_whole A old (sent c size writable) x h.stores h.covered ∙ h.byte)))
left_by A size writable c given old new before behind contents (Refused Io) fault got own reply changes still x u below h may =
    inr (inr (inr (refl, stored_byte size writable c given x u own (was_buffered c.ask c.buffered (whole_route size writable) fault got (Refused Io) tt reply) h)))
left_by A size writable c given old new before behind contents (Got bytes) fault got own reply changes still x u below h may =
    absurd (read_stores c.ask.kind (got_reads c.ask c.buffered (whole_route size writable) fault got bytes reply) h.stores)
left_by A size writable c given old new before behind contents Dropped fault got own reply changes still x u below h may =
    absurd (not_dropped c.ask c.buffered size writable fault got reply)
left_by A size writable c given old new before behind contents _ fault got own reply changes still x u below h may =
    inl (subst (λ (i : Image). MayBeLeft A i x u) (still (λ none. none)) may)

module _ {D : Type 0} (seen : D → Seen) (session : ℕ) (writable : Bool) (a : Ask) (given : List ℕ) (body : Option (List ℕ)) (w : WorldValue D) (number : ℕ) (calls : List Call) (v : Verdict)
    (w' : WorldValue D) (rests : IsResting seen session writable w) (is_body : IsBody a given body) (events : AreEvents calls)
    (t : Ran seen session a body w rests.opened rests.steps number calls v w') where
  abbrev A : ℕ
  A = w.shape.align

  abbrev m : World
  m = world_after A (opening_world rests.opened) rests.steps

  abbrev its : List Element
  its = t.front ++ t.step ∷ []

  abbrev m' : World
  m' = world_after A (opening_world rests.opened) (rests.steps ++ Asked number t.client ∷ its)

  abbrev size : ℕ
  size = size_of (disks_of seen w)

  served_so : IsServed A m t.client its v m'
  served_so = is_served seen session writable a given body w number calls v w' rests is_body events t

  same_so : SameDisks (disks_of seen w) (disks_of seen w')
  same_so = same seen session writable a given body w number calls v w' rests is_body events t

  routed_so : routed_in m.graph t.client ≡ sent t.client size writable
  routed_so = routed_is seen session writable a given body w number calls v w' rests is_body events t

  image_too : IsImage (disks_of seen w')
  image_too = image_kept (disks_of seen w) (disks_of seen w') same_so rests.image

  align_too : A ≡ align_of (disks_of seen w')
  align_too = rests.align ∙ sym (same_so.align 0)

  tell_too : AllTell (disks_of seen w) → AllTell (disks_of seen w')
  tell_too told k h = rw (same_so.tells k) (told k h)

  from_disks : (x : World) (y : WorldValue D) → Stands seen y x → IsImage (disks_of seen y) → A ≡ align_of (disks_of seen y) → AllTell (disks_of seen y) → (place u : ℕ) →
      IsLeftAt (disks_of seen y) place u → MayBeLeft A x.image place u
  from_disks x y stands image align told place u h = record {
    content = h.block;
    left = subst (λ (l : List (List ℕ)). Contains l h.block) (past_is seen y x stands image told (place / A))
        (subst (λ (n : ℕ). Contains (block_past (disks_of seen y) (place / n)) h.block) (sym align) h.left);
    byte = ap (λ (n : ℕ). get_or h.block (place % n) 0) align ∙ h.byte;
  }

  to_disks : (x : World) (y : WorldValue D) → Stands seen y x → IsImage (disks_of seen y) → A ≡ align_of (disks_of seen y) → AllTell (disks_of seen y) → (place u : ℕ) →
      MayBeLeft A x.image place u → IsLeftAt (disks_of seen y) place u
  to_disks x y stands image align told place u h = record {
    block = h.content;
    left = subst (λ (n : ℕ). Contains (block_past (disks_of seen y) (place / n)) h.content) align
        (subst (λ (l : List (List ℕ)). Contains l h.content) (sym (past_is seen y x stands image told (place / A))) h.left);
    byte = ap (λ (n : ℕ). get_or h.content (place % n) 0) (sym align) ∙ h.byte;
  }

  left_so : AllTell (disks_of seen w) → (x u : ℕ) → x < size → IsLeftAt (disks_of seen w') x u →
      IsLeftAt (disks_of seen w) x u
      ⊎ ((get_or (content (disks_of seen w)) x 0 ≡ u) ⊎ ((get_or (content (disks_of seen w')) x 0 ≡ u) ⊎ ((v ≡ Refused Io) × IsStoredAt t.client.ask given x u)))
  unfolding served_so
  left_so told x u below h =
      let are = contents seen session writable a given body w number calls v w' rests is_body events t told in
      let telling : IsTrue m.tells = told_model seen w m rests.stands rests.image told in
      let may : MayBeLeft A m'.image x u = from_disks m' w' t.stands image_too align_too (tell_too told) x u h in
      let back : MayBeLeft A m.image x u → IsLeftAt (disks_of seen w) x u = to_disks m w rests.stands rests.image rests.align told x u in
      let law : Remains A m.image (routed_in m.graph t.client) m'.image =
      remains A rests.opened rests.steps number t.client t.front t.step v (has_bytes seen session writable w rests) telling t.alone t.answers in
      elim (law x u may) [
        | inl old ↦ inl (back old)
        | inr other ↦ elim other [
          | inl is ↦ inr (inl (are.was x below ∙ is))
          | inr has ↦ elim (left_by A size writable t.client given m.image m'.image (content (disks_of seen w)) (content (disks_of seen w')) are v served_so.fault served_so.got
              (own_bytes m number a t.client given body t.ask_is t.may t.brings is_body)
              (line seen session writable a given body w number calls v w' rests is_body events t)
              (subst (λ (c : Client). AnswerChanges A m.image c v m'.image) routed_so (served_so.changes telling))
              served_so.uncalled x u below (subst (λ (c : Client). HasStored c x u) routed_so has) may) [
                | inl old ↦ inl (back old)
                | inr more ↦ inr more
              ]
        ]
      ]

  clean_in : AllTell (disks_of seen w) → IsCleanSettled seen w → IsCleanAlone m.image
  clean_in told clean b is =
      sym (past_is seen w m rests.stands rests.image told b) ∙ clean b (sym (rests.stands.image.clean (stripe_of b)) ∙ is)
      ∙ ap (λ (l : List ℕ). l ∷ []) (now_is seen w m rests.stands rests.image told b)

  clean_so : AllTell (disks_of seen w) → IsCleanSettled seen w → IsCleanSettled seen w'
  clean_so told clean b is =
      let law : IsCleanAlone m'.image = subst (λ (x : World). IsCleanAlone x.image) (sym (after_append A (opening_world rests.opened) rests.steps (Asked number t.client ∷ its)))
      (clean_settled A m (Asked number t.client ∷ its) (clean_in told clean)) in
      past_is seen w' m' t.stands image_too (tell_too told) b ∙ law b (t.stands.image.clean (stripe_of b) ∙ is)
      ∙ ap (λ (l : List ℕ). l ∷ []) (sym (now_is seen w' m' t.stands image_too (tell_too told) b))

  flushed_so : AllTell (disks_of seen w) → IsCleanSettled seen w → t.client.ask.kind ≡ Flush → v ≡ Fine → IsSettled (disks_of seen w')
  flushed_so told clean flush fine b =
      past_is seen w' m' t.stands image_too (tell_too told) b
      ∙ flushed A rests.opened rests.steps number t.client t.front t.step (has_bytes seen session writable w rests) (told_model seen w m rests.stands rests.image told) (clean_in told clean)
      flush t.alone (subst (λ (x : Verdict). IsAnswered number x t.step) fine t.answers) b
      ∙ ap (λ (l : List ℕ). l ∷ []) (sym (now_is seen w' m' t.stands image_too (tell_too told) b))

  pub outlasts : AllTell (disks_of seen w) → IsCleanSettled seen w → Outlasts (disks_of seen w) a given v (disks_of seen w') × IsCleanSettled seen w'
  outlasts told clean = (
    subst (λ (q : Ask). Outlasts (disks_of seen w) q given v (disks_of seen w')) (sym t.ask_is) (record { left = left_so told; flushed = flushed_so told clean }),
    clean_so told clean,
  )
