-- The answer of a request alone.
use Rattle.std.proofs.Common.{◌≡◌, ℕ, ◌<◌, inl, inr, Bool, true, false, not, cond, List, [], ◌∷◌, ◌++◌, Option, Some, None, IsTrue, length, refl, sym, ap, ◌∙◌, subst, append_assoc}
use Rattle.qs_bytes.specs.declared.ask.Ask.{Ask}
use Rattle.qs_bytes.specs.declared.ask.Errno.TheVariants.{Inval, NoMem}
use Rattle.qs_bytes.specs.declared.ask.Verdict.{Verdict}
use Rattle.qs_bytes.specs.declared.ask.Verdict.TheVariants.{Got, Refused, Dropped}
use Rattle.qs_model.specs.Requests.{Client, Pads, Stage, verdict}
use Rattle.qs_model.specs.Worlds.{Image, Opening, World}
use Rattle.qs_model.specs.Acts.{Act, Answers, Waits, Enters, Routes, Shuts, Lists, Starts, Loads, LoadFails, Holds, HoldFails, Stores, StoreFails, Syncs, Cleans, SyncFails, Frees, Ends, Element, Asked, Did}
use Rattle.qs_model.specs.Guards.{CanCome}
use Rattle.qs_model.specs.Histories.{answer_of}
use Rattle.qs_model.specs.Laws.{opening_world}
use Rattle.qs_model.specs.Steps.{world_after, happens, imaged, moved}
use Rattle.qs_model.proofs.Basics.{either, put_here, same_or}
use Rattle.qs_model.proofs.Holders.{some_none}
use Rattle.qs_model.proofs.Kept.{after_append, new_ok, split_run}
use Rattle.qs_verdicts.specs.Stories.{Story, Way, Unknown, begun, told, told_from, told_step}
use Rattle.qs_verdicts.specs.Verdicts.{IsAnswered, IsByTable, is_malformed, reply_by_way, verdict_by_way, verdict_of}
use Rattle.qs_verdicts.proofs.Folds.{if_same}
use Rattle.qs_verdicts.proofs.Stories.{ask_step}
use Rattle.qs_verdicts.proofs.Verdicts.{verdicts}
use Rattle.std.specs.List.{AllByRecursion}
use Rattle.qs_alone.specs.Alone.{AreOf, AnswerChanges, IsAlone, IsOff, IsOffRow, IsServed, routed_in, way_in}
use Rattle.qs_alone.proofs.Frame.{Frame, frame_step, own_front, own_run}
use Rattle.qs_alone.proofs.Stages.{Stands}
use Rattle.qs_alone.proofs.Unworked.{got_whole, off_steps}
use Rattle.qs_alone.proofs.Follows.{Follows, Tracks, failed_more, tracks_asked, tracks_run}

some_one : (u v : Verdict) → Some u ≡ Some v → u ≡ v
some_one u v e = cc

same_story : (a b : Story) → Some a ≡ Some b → a ≡ b
same_story a b e = cc

-- the story of the request, from its Ask on
told_append : (A r : ℕ) (o : Option Story) (xs ys : List Element) → told_from A r o (xs ++ ys) ≡ told_from A r (told_from A r o xs) ys
told_append A r o [] ys = refl
told_append A r o (x ∷ xs) ys = told_append A r (told_step A r o x) xs ys

told_own : (A r : ℕ) (c : Client) (before steps : List Element) → told A r (before ++ Asked r c ∷ steps) ≡ told_from A r (Some (begun c)) steps
told_own A r c before steps =
    told_append A r None before (Asked r c ∷ steps)
    ∙ ap (λ (o : Option Story). told_from A r o steps) (ask_step A r r c (told A r before) ∙ if_same r r (Some (begun c)) (told A r before) refl)

-- an answer that hangs on no way is the same over each
reply_unknown : (a : Ask) (buffered : Bool) (way : Way) (fault : Bool) (got : List ℕ) (v : Verdict) → verdict_by_way a buffered Unknown fault got ≡ Some v →
    verdict_by_way a buffered way fault got ≡ Some v
reply_unknown a buffered way fault got v is = go (is_malformed a) buffered is
  where
    go : (m b : Bool) → cond m (Some (Refused Inval)) (cond (not b) (Some (Refused NoMem)) (reply_by_way a Unknown fault got)) ≡ Some v →
        cond m (Some (Refused Inval)) (cond (not b) (Some (Refused NoMem)) (reply_by_way a way fault got)) ≡ Some v
    go true b h = h
    go false false h = h
    go false true h = absurd (some_none (sym h))

-- the line of the table, over the way that the graph gives
own_reply : (A : ℕ) (w : World) (c : Client) (steps : List Element) (i : Image) (n : Story) (v : Verdict) → Follows A w c steps i n → verdict_of n ≡ Some v →
    verdict_by_way c.ask c.buffered (way_in w.graph c.export) n.fault n.got ≡ Some v
own_reply A w c steps i n v f line = subst (λ (d : Client). verdict_by_way d.ask d.buffered (way_in w.graph c.export) n.fault n.got ≡ Some v) f.made (elim f.way [
  | inl unknown ↦ reply_unknown n.client.ask n.client.buffered (way_in w.graph c.export) n.fault n.got v
      (ap (λ (way : Way). verdict_by_way n.client.ask n.client.buffered way n.fault n.got) (sym unknown) ∙ known)
  | inr given ↦ ap (λ (way : Way). verdict_by_way n.client.ask n.client.buffered way n.fault n.got) (sym given) ∙ known
])
  where
    known : verdict_by_way n.client.ask n.client.buffered n.way n.fault n.got ≡ Some v
    known = sym (ap (λ (b : Bool). cond b (Some Dropped) (verdict_by_way n.client.ask n.client.buffered n.way n.fault n.got)) f.here) ∙ line

-- the row that answers changes nothing, and the request is gone
record Ending (A : ℕ) (w : World) (c d : Client) (b : Bool) (p : Pads) (i : Image) {stage : Stage} (act : Act stage) (v : Verdict) : Type 0 where
  image : imaged A i d act ≡ i
  gone : moved A d b p act ≡ None
  changes : IsTrue w.tells → AnswerChanges A w.image (routed_in w.graph c) v i

ending : (A : ℕ) (w : World) (c d : Client) (b : Bool) (p : Pads) (i : Image) {stage : Stage} (act : Act stage) (v : Verdict) → b ≡ false → answer_of b act ≡ Some v →
    Stands A w c d i stage → Ending A w c d b p i act v
ending A w c d b p i (Answers {v = u}) v here is at = record {
  image = refl;
  gone = refl;
  changes = λ told. subst (λ (x : Verdict). AnswerChanges A w.image (routed_in w.graph c) x i) (some_one u v is) (at (routed_in w.graph c) told);
}
ending A w c d b p i (Ends {v = u}) v here is at =
    let same : u ≡ v = some_one u v (ap (λ (t : Bool). Some (verdict t u)) (sym here) ∙ is) in
    record {
      image = refl;
      gone = refl;
      changes = λ told. subst (λ (x : Verdict). AnswerChanges A w.image (routed_in w.graph c) x i) same (subst (λ (e : Client). AnswerChanges A w.image e u i) at.0 (at.1 told));
    }
ending A w c d b p i (Waits wait) v here is at = absurd (some_none (sym is))
ending A w c d b p i (Enters k) v here is at = absurd (some_none (sym is))
ending A w c d b p i (Routes route) v here is at = absurd (some_none (sym is))
ending A w c d b p i Shuts v here is at = absurd (some_none (sym is))
ending A w c d b p i (Lists m) v here is at = absurd (some_none (sym is))
ending A w c d b p i Starts v here is at = absurd (some_none (sym is))
ending A w c d b p i (Loads bytes) v here is at = absurd (some_none (sym is))
ending A w c d b p i LoadFails v here is at = absurd (some_none (sym is))
ending A w c d b p i (Holds bytes) v here is at = absurd (some_none (sym is))
ending A w c d b p i HoldFails v here is at = absurd (some_none (sym is))
ending A w c d b p i (Stores bytes past) v here is at = absurd (some_none (sym is))
ending A w c d b p i (StoreFails bytes took past) v here is at = absurd (some_none (sym is))
ending A w c d b p i Syncs v here is at = absurd (some_none (sym is))
ending A w c d b p i Cleans v here is at = absurd (some_none (sym is))
ending A w c d b p i SyncFails v here is at = absurd (some_none (sym is))
ending A w c d b p i Frees v here is at = absurd (some_none (sym is))

-- a row that answers is on no stripe
off_answer : (b : Bool) {stage : Stage} (act : Act stage) (v : Verdict) → answer_of b act ≡ Some v → IsOffRow act
off_answer b (Answers {v = u}) v is = tt
off_answer b (Ends {v = u}) v is = tt
off_answer b (Waits wait) v is = absurd (some_none (sym is))
off_answer b (Enters k) v is = absurd (some_none (sym is))
off_answer b (Routes route) v is = absurd (some_none (sym is))
off_answer b Shuts v is = absurd (some_none (sym is))
off_answer b (Lists m) v is = absurd (some_none (sym is))
off_answer b Starts v is = absurd (some_none (sym is))
off_answer b (Loads bytes) v is = absurd (some_none (sym is))
off_answer b LoadFails v is = absurd (some_none (sym is))
off_answer b (Holds bytes) v is = absurd (some_none (sym is))
off_answer b HoldFails v is = absurd (some_none (sym is))
off_answer b (Stores bytes past) v is = absurd (some_none (sym is))
off_answer b (StoreFails bytes took past) v is = absurd (some_none (sym is))
off_answer b Syncs v is = absurd (some_none (sym is))
off_answer b Cleans v is = absurd (some_none (sym is))
off_answer b SyncFails v is = absurd (some_none (sym is))
off_answer b Frees v is = absurd (some_none (sym is))

off_all : (front : List Element) (e : Element) → AllByRecursion IsOff front → IsOff e → AllByRecursion IsOff (front ++ e ∷ [])
off_all [] e all is = (is, tt)
off_all (x ∷ xs) e all is = (all.0, off_all xs e all.1 is)

-- the answer behind the request's own steps
answered : (A : ℕ) (w : World) (r : ℕ) (c : Client) (front : List Element) (x : World) (e : Element) (v : Verdict) → CanCome A x e → IsAnswered r v e → (t : Tracks A w r c front x) →
    IsByTable A t.story v → ((bytes : List ℕ) → v ≡ Got bytes → length bytes ≡ c.ask.length) → AreOf r (front ++ e ∷ []) →
    told_from A r (Some (begun c)) front ≡ Some t.story → IsServed A w c (front ++ e ∷ []) v (happens A x e)
answered A w r c front x (Did s q act) v may is t table whole own tells =
    let n : Story = t.story in
    let there : x.req r ≡ Some q = subst (λ (k : ℕ). x.req k ≡ Some q) is.0 may.0 in
    let (here, at) = t.stands q there in
    let end : Ending A w c q.client q.dropped q.pads x.image act v = ending A w c q.client q.dropped q.pads x.image act v here is.1 at in
    let f : Frame w r (happens A x (Did s q act)) = frame_step A w r x (Did s q act) is.0 t.frame in
    record {
      fault = n.fault;
      got = n.got;
      reply = own_reply A w c front x.image n v t.follows table.line;
      changes = λ told. subst (λ (i : Image). AnswerChanges A w.image (routed_in w.graph c) v i) (sym end.image) (end.changes told);
      whole = whole;
      off = λ none. elim (either n.worked) [
        | inl worked ↦ absurd (none (table.idle worked))
        | inr idle ↦ off_all front (Did s q act) (off_steps A r (begun c) n front (own_front r front (Did s q act ∷ []) own) tells idle).0 (off_answer q.dropped act v is.1)
      ];
      uncalled = λ none. elim (either n.worked) [ inl worked ↦ absurd (none (table.idle worked)) | inr idle ↦ end.image ∙ t.follows.still idle ];
      past = λ plain other. end.image ∙ t.follows.past plain other;
      failed = λ io. failed_more A _ front (Did s q act) (t.follows.fault ((table.io t.follows.here).0 io));
      idle = λ k. elim (same_or k r) [
        | inl e ↦ ap (happens A x (Did s q act)).req (e ∙ sym is.0) ∙ put_here x.req s _ ∙ end.gone
        | inr other ↦ f.others k other
      ];
      next = f.next;
      session = f.session;
      graph = f.graph;
      clients = f.clients;
      tells = f.tells;
    }
answered A w r c front x _ v may is t table whole own tells = absurd is

-- the law
pub served : (A : ℕ) (o : Opening) (before : List Element) (r : ℕ) (c : Client) (front : List Element) (e : Element) (v : Verdict) → 0 < A →
    IsAlone A o before r c (front ++ e ∷ []) → IsAnswered r v e →
    IsServed A (world_after A (opening_world o) before) c (front ++ e ∷ []) v (world_after A (opening_world o) (before ++ Asked r c ∷ (front ++ e ∷ [])))
served A o before r c front e v pos alone is =
    let w : World = world_after A (opening_world o) before in
    let (ok, run) = own_run A o before r c (front ++ e ∷ []) pos alone in
    let w1 : World = happens A w (Asked r c) in
    let (up, may) = split_run A w1 (front ++ e ∷ []) front e run.1 ([], refl) in
    let t : Tracks A w r c front (world_after A w1 front) =
    tracks_run A w r c [] w1 front pos run.0.unrouted up (own_front r front (e ∷ []) alone.own) (tracks_asked A w r c pos ok alone.idle run.0) in
    let (n, (tells, table)) = verdicts A (opening_world o) (before ++ Asked r c ∷ (front ++ e ∷ [])) pos (new_ok A 0 o) (λ s. refl) alone.run r v
    (before ++ Asked r c ∷ front) e ([], sym (append_assoc before (Asked r c ∷ front) (e ∷ []))) is in
    let same : n ≡ t.story = same_story n t.story (sym tells ∙ told_own A r c before front ∙ t.told) in
    let there : world_after A (opening_world o) (before ++ Asked r c ∷ (front ++ e ∷ [])) ≡ happens A (world_after A w1 front) e =
    after_append A (opening_world o) before (Asked r c ∷ (front ++ e ∷ [])) ∙ after_append A w1 front (e ∷ []) in
    subst (λ (x : World). IsServed A w c (front ++ e ∷ []) v x) (sym there)
    (answered A w r c front (world_after A w1 front) e v may is t (subst (λ (m : Story). IsByTable A m v) same table)
    (λ bytes got. got_whole A o (before ++ Asked r c ∷ (front ++ e ∷ [])) r c (before ++ Asked r c ∷ front) t.story e bytes pos alone.run
    ([], sym (append_assoc before (Asked r c ∷ front) (e ∷ []))) (subst (λ (x : Verdict). IsAnswered r x e) got is) (told_own A r c before front ∙ t.told) t.follows.made)
    alone.own t.told)
