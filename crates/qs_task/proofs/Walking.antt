-- A poll, move by move.
use Rattle.std.proofs.Common.{◌≡◌, ℕ, List, [], ◌∷◌, ◌++◌, Some, None, refl, sym, ap, ◌∙◌, subst}
use Rattle.qs_bytes.specs.declared.ask.Verdict.{Verdict}
use Rattle.qs_model.specs.Requests.{Req}
use Rattle.qs_request_state.specs.declared.shape.Shape.{Shape}
use Rattle.qs_request.specs.Table.{followed}
use Rattle.qs_task.specs.declared.need.Need.{Need}
use Rattle.qs_task.specs.declared.need.Polled.{Polled}
use Rattle.qs_task.specs.declared.need.Polled.TheVariants.{Ready as IsReady, Pending as IsPending}
use Rattle.qs_task.specs.Books.{Book, RequestCall, notes, noted}
use Rattle.qs_task.specs.Walks.{IsNextCall, WalksTo, GoOn, wait_after}
use Rattle.qs_task.specs.Tasks.{TaskValue, IsAnsweredTask, RunsTo, Moves, Polls}

-- one call more at the end of a walk
pub walks_more : (shape : Shape) (n : ℕ) (q : Req) (calls : List RequestCall) (t : Req) (c : RequestCall) →
    WalksTo shape n q calls t → IsNextCall shape n t c → WalksTo shape n q (calls ++ c ∷ []) (followed shape.align t c.reply)
walks_more shape n q [] t c at next = (subst (λ x. IsNextCall shape n x c) at next, ap (λ x. followed shape.align x c.reply) at)
walks_more shape n q (d ∷ calls) t c (first, rest) next =
    (first, walks_more shape n (followed shape.align q d.reply) calls t c rest next)

pub noted_more : (calls : List RequestCall) (c : RequestCall) (book : Book) →
    noted (calls ++ c ∷ []) book ≡ notes c (noted calls book)
noted_more [] c book = refl
noted_more (d ∷ calls) c book = noted_more calls c (notes d book)

pub go_on_more : (calls : List RequestCall) (c : RequestCall) → GoOn calls → wait_after c ≡ None → GoOn (calls ++ c ∷ [])
go_on_more [] c went on = (on, tt)
go_on_more (d ∷ calls) c (first, rest) on = (first, go_on_more calls c rest on)

-- so far a poll has made these calls, and had to wait after none
pub record Polling (old now : TaskValue) (before after : Book) : Type 0 where
  pub calls : List RequestCall
  pub walks : WalksTo old.shape old.number old.request calls now.request
  pub booked : after ≡ noted calls before
  pub went : GoOn calls
  pub rest : now ≡ record old { request = now.request }

pub polling_none : (old : TaskValue) (before : Book) → Polling old old before before
polling_none old before = record { calls = []; walks = refl; booked = refl; went = tt; rest = refl }

-- a call of the task as it stands, in the words of the task as it was polled
next_of : (old now : TaskValue) (c : RequestCall) → now ≡ record old { request = now.request } →
    IsNextCall now.shape now.number now.request c → IsNextCall old.shape old.number now.request c
next_of old now c rest next =
    let number : now.number ≡ old.number = ap (λ t. t.number) rest in
    let shape : now.shape ≡ old.shape = ap (λ t. t.shape) rest in
    subst (λ n. IsNextCall old.shape n now.request c) number (subst (λ s. IsNextCall s now.number now.request c) shape next)

moved_of : (old now : TaskValue) (q : Req) (c : RequestCall) → now ≡ record old { request = now.request } →
    q ≡ followed now.shape.align now.request c.reply → q ≡ followed old.shape.align now.request c.reply
moved_of old now q c rest is = is ∙ ap (λ t. followed t.shape.align now.request c.reply) rest

rest_of : (old now new : TaskValue) → now ≡ record old { request = now.request } → new ≡ record now { request = new.request } →
    new ≡ record old { request = new.request }
rest_of old now new a b =
    let with_new : TaskValue → TaskValue = λ t. record t { request = new.request } in
    b ∙ ap with_new a

walks_on : (old now new : TaskValue) (calls : List RequestCall) (c : RequestCall) → now ≡ record old { request = now.request } →
    WalksTo old.shape old.number old.request calls now.request → IsNextCall now.shape now.number now.request c →
    new.request ≡ followed now.shape.align now.request c.reply →
    WalksTo old.shape old.number old.request (calls ++ c ∷ []) new.request
walks_on old now new calls c rest walks next moved =
    subst (λ t. WalksTo old.shape old.number old.request (calls ++ c ∷ []) t) (sym (moved_of old now new.request c rest moved))
    (walks_more old.shape old.number old.request calls now.request c walks (next_of old now c rest next))

booked_on : (calls : List RequestCall) (c : RequestCall) (before mid after : Book) → mid ≡ noted calls before →
    after ≡ notes c mid → after ≡ noted (calls ++ c ∷ []) before
booked_on calls c before mid after a b = b ∙ ap (notes c) a ∙ sym (noted_more calls c before)

-- the task made a call, and goes on
pub polling_on : (old now new : TaskValue) (before mid after : Book) → Polling old now before mid →
    Moves None now new mid after → Polling old new before after
polling_on old now new before mid after so move =
    let c = move.makes.made in
    record {
      calls = so.calls ++ c ∷ [];
      walks = walks_on old now new so.calls c so.rest so.walks move.makes.next move.makes.moved;
      booked = booked_on so.calls c before mid after so.booked move.makes.booked;
      went = go_on_more so.calls c so.went move.makes.waits;
      rest = rest_of old now new so.rest move.rest;
    }

-- it had to wait, or gave its answer
pub polling_ends : (polled : Polled) (old now new : TaskValue) (before mid after : Book) → Polling old now before mid →
    Moves (Some polled) now new mid after → Polls polled old new before after
polling_ends (IsReady v) old now new before mid after so move = record {
  calls = so.calls;
  end = now.request;
  walks = so.walks;
  booked = move.booked ∙ so.booked;
  ends = (
    so.went,
    move.ready,
    record {
      over = move.answered.over;
      number = move.answered.number ∙ ap (λ t. t.number) so.rest;
      shape = move.answered.shape ∙ ap (λ t. t.shape) so.rest;
    },
  );
}
polling_ends (IsPending need) old now new before mid after so move =
    let c = move.makes.made in
    record {
      calls = so.calls ++ c ∷ [];
      end = new.request;
      walks = walks_on old now new so.calls c so.rest so.walks move.makes.next move.makes.moved;
      booked = booked_on so.calls c before mid after so.booked move.makes.booked;
      ends = (
        record { before = so.calls; stop = c; all = refl; went = so.went; waits = move.makes.waits },
        rest_of old now new so.rest move.rest,
      );
    }

-- two walks, one after the other
pub walks_join : (shape : Shape) (n : ℕ) (q : Req) (calls : List RequestCall) (t : Req) (others : List RequestCall) (u : Req) →
    WalksTo shape n q calls t → WalksTo shape n t others u → WalksTo shape n q (calls ++ others) u
walks_join shape n q [] t others u at rest = subst (λ x. WalksTo shape n x others u) at rest
walks_join shape n q (c ∷ calls) t others u (first, behind) rest =
    (first, walks_join shape n (followed shape.align q c.reply) calls t others u behind rest)

pub noted_join : (calls others : List RequestCall) (book : Book) → noted (calls ++ others) book ≡ noted others (noted calls book)
noted_join [] others book = refl
noted_join (c ∷ calls) others book = noted_join calls others (notes c book)

-- polls so far: these calls were made, and the request isn't answered
pub record PolledOn (old now : TaskValue) (before after : Book) : Type 0 where
  pub calls : List RequestCall
  pub walks : WalksTo old.shape old.number old.request calls now.request
  pub booked : after ≡ noted calls before
  pub rest : now ≡ record old { request = now.request }

pub polled_none : (old : TaskValue) (before : Book) → PolledOn old old before before
polled_none old before = record { calls = []; walks = refl; booked = refl; rest = refl }

-- the walk of one poll more
walks_then : (polled : Polled) (old now new : TaskValue) (before mid after : Book) (so : PolledOn old now before mid) (one : Polls polled now new mid after) →
    WalksTo old.shape old.number old.request (so.calls ++ one.calls) one.end
walks_then polled old now new before mid after so one =
    walks_join old.shape old.number old.request so.calls now.request one.calls one.end so.walks
    (subst (λ t. WalksTo t.shape t.number now.request one.calls one.end) so.rest one.walks)

booked_then : (polled : Polled) (old now new : TaskValue) (before mid after : Book) (so : PolledOn old now before mid) (one : Polls polled now new mid after) →
    after ≡ noted (so.calls ++ one.calls) before
booked_then polled old now new before mid after so one =
    one.booked ∙ ap (noted one.calls) so.booked ∙ sym (noted_join so.calls one.calls before)

pub polled_more : (need : Need) (old now new : TaskValue) (before mid after : Book) → PolledOn old now before mid →
    Polls (IsPending need) now new mid after → PolledOn old new before after
polled_more need old now new before mid after so one =
    let requested : new.request ≡ one.end = ap (λ t. t.request) one.ends.1 in
    let with_new : TaskValue → TaskValue = λ t. record t { request = one.end } in
    let same : new ≡ record old { request = one.end } = one.ends.1 ∙ ap with_new so.rest in
    let with_old : Req → TaskValue = λ q. record old { request = q } in
    record {
      calls = so.calls ++ one.calls;
      walks = subst (λ q. WalksTo old.shape old.number old.request (so.calls ++ one.calls) q) (sym requested)
          (walks_then (IsPending need) old now new before mid after so one);
      booked = booked_then (IsPending need) old now new before mid after so one;
      rest = same ∙ ap with_old (sym requested);
    }

pub polled_over : (v : Verdict) (old now new : TaskValue) (before mid after : Book) → PolledOn old now before mid →
    Polls (IsReady v) now new mid after → RunsTo v old before after × IsAnsweredTask old new
polled_over v old now new before mid after so one = (
  record {
    calls = so.calls ++ one.calls;
    end = one.end;
    walks = walks_then (IsReady v) old now new before mid after so one;
    ready = one.ends.1;
    booked = booked_then (IsReady v) old now new before mid after so one;
  },
  record {
    over = one.ends.2.over;
    number = one.ends.2.number ∙ ap (λ t. t.number) so.rest;
    shape = one.ends.2.shape ∙ ap (λ t. t.shape) so.rest;
  },
)
