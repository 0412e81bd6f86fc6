-- Every run keeps what is told of its requests' stories.
use Rattle.std.proofs.Common.{◌≡◌, ℕ, ◌<◌, inl, inr, Bool, true, false, cond, ◌==◌, List, [], ◌∷◌, ◌++◌, Option, Some, None, refl, sym, ap, ◌∙◌, subst, true≢false, append-nil, append_assoc}
use Rattle.qs_model.specs.Requests.{Client, Req, Stage, form_error, no_route, new_request, abandoned, abandon, brings_bytes}
use Rattle.qs_model.specs.Worlds.{World}
use Rattle.qs_bytes.specs.declared.ask.Errno.TheVariants.{Inval, NoMem}
use Rattle.qs_part.specs.declared.graph.Route.{Route}
use Rattle.qs_model.specs.Acts.{Act, Routes, Shuts, Lists, Loads, LoadFails, Holds, HoldFails, Stores, StoreFails, Syncs, Cleans, SyncFails, Frees, Element, Attached, NoExport, Crowded, Left, Detached, NotAttached, Asked, Did, Exported, Planned, Crashed}
use Rattle.qs_model.specs.Guards.{MayDo, CanCome}
use Rattle.qs_model.specs.Steps.{moved, leaves, happens, world_after, Runs}
use Rattle.qs_model.specs.Laws.{Begins}
use Rattle.qs_model.proofs.Basics.{choose, put_tells}
use Rattle.qs_model.proofs.Facts.{Shaped, Ok}
use Rattle.qs_model.proofs.Holders.{some_none}
use Rattle.qs_model.proofs.Kept.{for_moved, front_run, step_ok}
use Rattle.qs_model.proofs.Machine.{ForMoved}
use Rattle.qs_verdicts.specs.Stories.{Story, Unknown, begun, sent, told, told_row, told_step}
use Rattle.qs_verdicts.specs.Verdicts.{WasAskedAs, is_malformed}
use Rattle.qs_verdicts.proofs.Folds.{asked_more, asked_now, if_other, if_same, told_more}
use Rattle.qs_verdicts.proofs.Lines.{bad_reply, no_room_reply}
use Rattle.qs_verdicts.proofs.TableKinds.{malformed_is}
use Rattle.qs_verdicts.proofs.Telling.{IsSteady, Stands, left_at, left_steady, refused_fine, row_at, row_steady}

-- what the story of a live request says of it
pub record Told (A r : ℕ) (before : List Element) (q : Req) : Type 0 where
  pub story : Story
  pub is : told A r before ≡ Some story
  pub client : q.client ≡ sent story
  pub dropped : q.dropped ≡ story.left
  pub was_asked : WasAskedAs r story.client before
  pub bare : brings_bytes story.client.ask.kind ≡ false → story.client.body ≡ []
  pub stands : Stands A story q.stage
  pub steady : IsSteady story

abbrev pub AllTold : ℕ → World → List Element → Type 0
AllTold A w before = (r : ℕ) (q : Req) → w.req r ≡ Some q → Told A r before q

-- a step that tells nothing of the request
pub same_told : (A r : ℕ) (before : List Element) (e : Element) (q : Req) → ((n : Story) → told_step A r (Some n) e ≡ Some n) → Told A r before q → Told A r (before ++ e ∷ []) q
same_told A r before e q same t = record {
  story = t.story;
  is = told_more A r None before e ∙ ap (λ (o : Option Story). told_step A r o e) t.is ∙ same t.story;
  client = t.client;
  dropped = t.dropped;
  was_asked = asked_more r t.story.client before e t.was_asked;
  bare = t.bare;
  stands = t.stands;
  steady = t.steady;
}

-- the request's own row
pub own_told : (A : ℕ) (w : World) (r : ℕ) (q p : Req) (act : Act q.stage) (before : List Element) → 0 < A → MayDo A w q.client q.pads act → Shaped A q.client q.stage →
    moved A q.client q.dropped q.pads act ≡ Some p → Told A r before q → Told A r (before ++ Did r q act ∷ []) p
own_told A w r q p act before pos may fit is t =
    let n : Story = t.story in
    let m : Story = told_row A n act in
    let rows : ForMoved (λ x. (x.client ≡ sent m) × (x.dropped ≡ q.dropped) × Stands A m x.stage) (moved A q.client q.dropped q.pads act) =
    subst (λ (c : Client). MayDo A w c q.pads act → Shaped A c q.stage →
    ForMoved (λ x. (x.client ≡ sent m) × (x.dropped ≡ q.dropped) × Stands A m x.stage) (moved A c q.dropped q.pads act)) (sym t.client)
    (λ can shape. row_at A w n q.dropped q.pads act pos can shape t.stands) may fit in
    let row : (p.client ≡ sent m) × (p.dropped ≡ q.dropped) × Stands A m p.stage =
    for_moved (λ x. (x.client ≡ sent m) × (x.dropped ≡ q.dropped) × Stands A m x.stage) _ p rows is in
    record {
      story = m;
      is = told_more A r None before (Did r q act) ∙ ap (λ (o : Option Story). told_step A r o (Did r q act)) t.is ∙ ap Some (if_same r r m n refl);
      client = row.0;
      dropped = row.1 ∙ t.dropped ∙ sym (left_row A n act);
      was_asked = subst (λ (c : Client). WasAskedAs r c (before ++ Did r q act ∷ [])) (sym (client_row A n act)) (asked_more r n.client before (Did r q act) t.was_asked);
      bare = subst (λ (c : Client). brings_bytes c.ask.kind ≡ false → c.body ≡ []) (sym (client_row A n act)) t.bare;
      stands = row.2;
      steady = row_steady A n act t.stands t.steady;
    }
  where
    left_row : (A : ℕ) (n : Story) {stage : Stage} (act : Act stage) → (told_row A n act).left ≡ n.left
    left_row A n (Routes route) = refl
    left_row A n Shuts = refl
    left_row A n (Lists m) = refl
    left_row A n (Loads bytes) = refl
    left_row A n LoadFails = refl
    left_row A n (Holds bytes) = refl
    left_row A n HoldFails = refl
    left_row A n (Stores bytes past) = refl
    left_row A n (StoreFails bytes took past) = refl
    left_row A n Syncs = refl
    left_row A n Cleans = refl
    left_row A n SyncFails = refl
    left_row A n Frees = refl
    left_row A n _ = refl

    client_row : (A : ℕ) (n : Story) {stage : Stage} (act : Act stage) → (told_row A n act).client ≡ n.client
    client_row A n (Routes route) = refl
    client_row A n Shuts = refl
    client_row A n (Lists m) = refl
    client_row A n (Loads bytes) = refl
    client_row A n LoadFails = refl
    client_row A n (Holds bytes) = refl
    client_row A n HoldFails = refl
    client_row A n (Stores bytes past) = refl
    client_row A n (StoreFails bytes took past) = refl
    client_row A n Syncs = refl
    client_row A n Cleans = refl
    client_row A n SyncFails = refl
    client_row A n Frees = refl
    client_row A n _ = refl

-- a request that is made
pub ask_step : (A r s : ℕ) (c : Client) (o : Option Story) → told_step A r o (Asked s c) ≡ cond (s == r) (Some (begun c)) o
ask_step A r s c None = refl
ask_step A r s c (Some n) = refl

pub made_told : (A r : ℕ) (c : Client) (before : List Element) → c.route ≡ no_route → (brings_bytes c.ask.kind ≡ false → c.body ≡ []) → Told A r (before ++ Asked r c ∷ []) (new_request c)
made_told A r c before unrouted bare = record {
  story = begun c;
  is = told_more A r None before (Asked r c) ∙ ask_step A r r c (told A r before) ∙ if_same r r (Some (begun c)) (told A r before) refl;
  client = ap (λ (x : Route). record c { route = x }) unrouted;
  dropped = refl;
  was_asked = asked_now r c before;
  bare = bare;
  stands = stage;
  steady = record { worked = λ h. absurd (true≢false (sym h)); fault = λ h. absurd (true≢false (sym h)); unsynced = λ _ _. refl };
}
  where
    stage : Stands A (begun c) (new_request c).stage
    stage = choose (λ g. Stands A (begun c) g) (form_error c.ask) _ _
        (λ bad. (bad_reply c.ask c.buffered Unknown false [] (malformed_is c.ask ∙ bad), refl, refl, refl, refused_fine Inval))
        (λ good. let form : is_malformed c.ask ≡ false = malformed_is c.ask ∙ good in
        choose (λ g. Stands A (begun c) g) c.buffered _ _
        (λ room. record { good = record { form = form; room = room }; here = refl; way = refl; listed = refl; worked = refl; fault = refl; got = refl; synced = refl })
        (λ room. (no_room_reply c.ask c.buffered Unknown false [] form room, refl, refl, refl, refused_fine NoMem)))

-- a session that leaves
pub left_told : (A r s e : ℕ) (before : List Element) (q x : Req) → leaves s (Some q) ≡ Some x → Told A r before q → Told A r (before ++ Left s e ∷ []) x
left_told A r s e before q x is t = go (q.client.session == s) refl
  where
    inside : (a b : Req) → Some a ≡ Some b → a ≡ b
    inside a b h = cc

    same : x ≡ cond (q.client.session == s) (abandon q) q
    same = sym (inside _ x is)

    session : q.client.session ≡ t.story.client.session
    session = ap (λ (c : Client). c.session) t.client

    step : told A r (before ++ Left s e ∷ []) ≡ Some (cond (t.story.client.session == s) (record t.story { left = true }) t.story)
    step = told_more A r None before (Left s e) ∙ ap (λ (o : Option Story). told_step A r o (Left s e)) t.is

    go : (b : Bool) → (q.client.session == s) ≡ b → Told A r (before ++ Left s e ∷ []) x
    go true at =
        let there : (t.story.client.session == s) ≡ true = ap (λ (k : ℕ). k == s) (sym session) ∙ at in
        let gone : x ≡ abandon q = same ∙ ap (λ (b : Bool). cond b (abandon q) q) at in
        subst (λ (y : Req). Told A r (before ++ Left s e ∷ []) y) (sym gone) (record {
          story = record t.story { left = true };
          is = step ∙ ap (λ (b : Bool). Some (cond b (record t.story { left = true }) t.story)) there;
          client = t.client;
          dropped = refl;
          was_asked = asked_more r t.story.client before (Left s e) t.was_asked;
          bare = t.bare;
          stands = subst (λ (c : Client). Stands A (record t.story { left = true }) (abandoned c q.stage)) (sym t.client) (left_at A t.story q.stage t.stands);
          steady = left_steady t.story t.steady;
        })
    go false at =
        let there : (t.story.client.session == s) ≡ false = ap (λ (k : ℕ). k == s) (sym session) ∙ at in
        let stays : x ≡ q = same ∙ ap (λ (b : Bool). cond b (abandon q) q) at in
        subst (λ (y : Req). Told A r (before ++ Left s e ∷ []) y) (sym stays) (record {
          story = t.story;
          is = step ∙ ap (λ (b : Bool). Some (cond b (record t.story { left = true }) t.story)) there;
          client = t.client;
          dropped = t.dropped;
          was_asked = asked_more r t.story.client before (Left s e) t.was_asked;
          bare = t.bare;
          stands = t.stands;
          steady = t.steady;
        })

-- each step keeps what is told
pub step_told : (A : ℕ) (w : World) (e : Element) (before : List Element) → 0 < A → Ok A w → CanCome A w e → AllTold A w before → AllTold A (happens A w e) (before ++ e ∷ [])
step_told A w (Attached s name info) before pos ok may all r q is = same_told A r before (Attached s name info) q (λ n. refl) (all r q is)
step_told A w (NoExport s name) before pos ok may all r q is = same_told A r before (NoExport s name) q (λ n. refl) (all r q is)
step_told A w (Crowded s name) before pos ok may all r q is = same_told A r before (Crowded s name) q (λ n. refl) (all r q is)
step_told A w (Left s e) before pos ok may all r x is = go (w.req r) refl is
  where
    go : (o : Option Req) → w.req r ≡ o → leaves s o ≡ Some x → Told A r (before ++ Left s e ∷ []) x
    go None there gone = absurd (some_none (sym gone))
    go (Some q) there gone = left_told A r s e before q x gone (all r q there)
step_told A w (Detached s e) before pos ok may all r q is = same_told A r before (Detached s e) q (λ n. refl) (all r q is)
step_told A w (NotAttached s e) before pos ok may all r q is = same_told A r before (NotAttached s e) q (λ n. refl) (all r q is)
step_told A w (Asked s c) before pos ok may all r q is = elim (put_tells w.req s (Some (new_request c)) r (Some q) is) [
  | inl h ↦ subst (λ (x : Req). Told A r (before ++ Asked s c ∷ []) x) (inside (new_request c) q h.1)
      (subst (λ (k : ℕ). Told A r (before ++ Asked k c ∷ []) (new_request c)) h.0 (made_told A r c before may.unrouted may.other))
  | inr h ↦ same_told A r before (Asked s c) q (λ n. ask_step A r s c (Some n) ∙ if_other s r (Some (begun c)) (Some n) (λ f. h.0 (sym f))) (all r q h.1)
]
  where
    inside : (a b : Req) → Some a ≡ Some b → a ≡ b
    inside a b h = cc
step_told A w (Did s q act) before pos ok may all r x is = elim (put_tells w.req s (moved A q.client q.dropped q.pads act) r (Some x) is) [
  | inl h ↦ subst (λ (k : ℕ). Told A k (before ++ Did s q act ∷ []) x) (sym h.0)
      (own_told A w s q x act before pos may.1 (ok.well s q may.0).shaped h.1 (all s q may.0))
  | inr h ↦ same_told A r before (Did s q act) x (λ n. ap Some (if_other s r (told_row A n act) n (λ f. h.0 (sym f)))) (all r x h.1)
]
step_told A w (Exported op e) before pos ok may all r q is = same_told A r before (Exported op e) q (λ n. refl) (all r q is)
step_told A w (Planned j fail) before pos ok may all r q is = same_told A r before (Planned j fail) q (λ n. refl) (all r q is)
step_told A w (Crashed left) before pos ok may all r q is = absurd (some_none (sym is))

-- and so does a run
pub run_told : (A : ℕ) (w : World) (front es : List Element) → 0 < A → Ok A w → Runs A w es → AllTold A w front → AllTold A (world_after A w es) (front ++ es)
run_told A w front [] pos ok run all = subst (λ (xs : List Element). AllTold A w xs) (sym (append-nil front)) all
run_told A w front (e ∷ es) pos ok run all =
    subst (λ (xs : List Element). AllTold A (world_after A (happens A w e) es) xs) (append_assoc front (e ∷ []) es)
    (run_told A (happens A w e) (front ++ e ∷ []) es pos (step_ok A w e pos ok run.0) run.1 (step_told A w e front pos ok run.0 all))

-- what is told at a position of a run
pub all_told : (A : ℕ) (w : World) (es before : List Element) → 0 < A → Ok A w → ((r : ℕ) → w.req r ≡ None) → Runs A w es → Begins before es →
    AllTold A (world_after A w before) before
all_told A w es before pos ok none run at =
    run_told A w [] before pos ok (front_run A w es before run at) (λ r q is. absurd (some_none (sym is ∙ none r)))
