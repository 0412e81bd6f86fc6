-- A request as it is made.
use Rattle.std.proofs.Common.{◌≡◌, ℕ, Bool, true, false, not, ◌&&◌, ◌||◌, ◌==◌, cond, List, [], length, Option, Some, None, is_some, IsSome, refl, sym, ap, ◌∙◌, subst, arith, true≢false}
use Rattle.std.specs.Option.{ForSome}
use Rattle.qs_bytes.specs.declared.ask.Ask.{Ask}
use Rattle.qs_bytes.specs.declared.ask.Errno.TheVariants.{Inval, NoMem}
use Rattle.qs_bytes.specs.declared.ask.Verdict.TheVariants.{Refused}
use Rattle.qs_bytes.specs.declared.ask.Kind.{Kind}
use Rattle.qs_bytes.specs.declared.ask.Kind.TheVariants.{Read, Write, Zero, Trim, Flush, Unknown}
use Rattle.qs_model.specs.Requests.{Client, Pads, Req, Ready, Entering, Stage, new_request, brings_bytes, form_error, is_read, no_route, stores_bytes, takes_body, wants_buffers}
use Rattle.qs_model.proofs.Kept.{kind_of}
use Rattle.qs_request_state.specs.declared.shape.Blocks.{Blocks}
use Rattle.qs_request_state.specs.declared.stage.Ending.TheVariants.{Failed}
use Rattle.qs_request_state.specs.declared.stage.Stage.{Stage as At}
use Rattle.qs_request_state.specs.declared.stage.Stage.TheVariants.{Ready as ReadyAt, Entering as EnteringAt}
use Rattle.qs_request.specs.declared.machine.Machine.{Machine}
use Rattle.qs_request_state.specs.Shapes.{IsShape}
use Rattle.qs_request.specs.Value.{bytes_of, given_bytes, has_buffers, client_for}
use Rattle.qs_request.specs.Inside.{IsFree, IsAtStage, client_of, first_stage, request_of, stage_of}

pub first_is : (m : Machine) (a : Ask) (buffered : Bool) →
    stage_of m (first_stage a buffered) ≡ cond (form_error a) (Ready (Refused Inval)) (cond buffered Entering (Ready (Refused NoMem)))
first_is m a buffered = go (form_error a) buffered
  where
    go : (f d : Bool) → stage_of m (cond f (ReadyAt (Failed Inval)) (cond d EnteringAt (ReadyAt (Failed NoMem)))) ≡ cond f (Ready (Refused Inval)) (cond d Entering (Ready (Refused NoMem)))
    go true d = refl
    go false true = refl
    go false false = refl

pub first_stands : (m : Machine) → IsAtStage m (first_stage m.ask m.buffered)
first_stands m = go (form_error m.ask) m.buffered refl refl
  where
    go : (f d : Bool) → form_error m.ask ≡ f → m.buffered ≡ d → IsAtStage m (cond f (ReadyAt (Failed Inval)) (cond d EnteringAt (ReadyAt (Failed NoMem))))
    go true d e g = tt
    go false true e g = record { kind = kind_of m.ask e; buffered = g }
    go false false e g = tt

abbrev with_parts : Client → Bool → Pads → Stage → Req
with_parts c d p stage = record { client = c; dropped = d; pads = p; stage = stage }

abbrev empty_pads : Pads
empty_pads = record { head = []; tail = [] }

pub made_request : (m : Machine) (c : Client) → client_of m ≡ c → m.dropped ≡ false → m.pads.pads ≡ empty_pads → m.stage ≡ first_stage m.ask m.buffered →
    request_of m ≡ new_request c
made_request m c client dropped pads stage =
    ap (λ (d : Bool). with_parts (client_of m) d m.pads.pads (stage_of m m.stage)) dropped
    ∙ ap (λ (p : Pads). with_parts (client_of m) false p (stage_of m m.stage)) pads
    ∙ ap (λ (s : Stage). with_parts (client_of m) false empty_pads s) (ap (λ (s : At). stage_of m s) stage ∙ first_is m m.ask m.buffered)
    ∙ ap new_request client

abbrev client_with : ℕ → Ask → ℕ → List ℕ → Bool → Client
client_with session ask e bytes buffered =
    record { session = session; export = e; ask = ask; body = bytes_of ask.kind bytes; buffered = buffered; route = no_route }

pub made_client : (session : ℕ) (ask : Ask) (e : ℕ) (body : Option (List ℕ)) (blocks : Option Blocks) (bytes : List ℕ) (buffered : Bool) →
    bytes ≡ given_bytes body → buffered ≡ has_buffers ask body blocks → client_with session ask e bytes buffered ≡ client_for session ask e body blocks
made_client session ask e body blocks bytes buffered bytes_is buffered_is =
    ap (λ (xs : List ℕ). client_with session ask e xs buffered) bytes_is
    ∙ ap (λ (t : Bool). client_with session ask e (given_bytes body) t) buffered_is

-- what brings bytes has its own, and another request has none
pub brought : (k : Kind) (bytes : List ℕ) → brings_bytes k ≡ true → bytes ≡ bytes_of k bytes
brought Write bytes is = refl
brought Read bytes is = absurd (true≢false (sym is))
brought Zero bytes is = absurd (true≢false (sym is))
brought Trim bytes is = absurd (true≢false (sym is))
brought Flush bytes is = absurd (true≢false (sym is))
brought (Unknown n) bytes is = absurd (true≢false (sym is))

pub unbrought : (k : Kind) (bytes : List ℕ) → brings_bytes k ≡ false → bytes_of k bytes ≡ []
unbrought Write bytes is = absurd (true≢false is)
unbrought Read bytes is = refl
unbrought Zero bytes is = refl
unbrought Trim bytes is = refl
unbrought Flush bytes is = refl
unbrought (Unknown n) bytes is = refl

-- it takes a body
pub brings_takes : (k : Kind) → brings_bytes k ≡ true → takes_body k ≡ true
brings_takes Write is = refl
brings_takes Read is = refl
brings_takes Zero is = absurd (true≢false (sym is))
brings_takes Trim is = absurd (true≢false (sym is))
brings_takes Flush is = absurd (true≢false (sym is))
brings_takes (Unknown n) is = absurd (true≢false (sym is))

-- what takes a body reads or stores
pub body_works : (k : Kind) → takes_body k ≡ true → is_read k || stores_bytes k ≡ true
body_works Read is = refl
body_works Write is = refl
body_works Zero is = absurd (true≢false (sym is))
body_works Trim is = absurd (true≢false (sym is))
body_works Flush is = absurd (true≢false (sym is))
body_works (Unknown n) is = absurd (true≢false (sym is))

pub given_length : (ask : Ask) (body : Option (List ℕ)) (blocks : Option Blocks) → ForSome body (λ bytes. length bytes ≡ ask.length) →
    has_buffers ask body blocks ≡ true → takes_body ask.kind ≡ true → length (given_bytes body) ≡ ask.length
given_length ask None blocks given is wants = go (ask.length == 0) (is_read ask.kind || stores_bytes ask.kind) (is_some blocks) (takes_body ask.kind) refl (body_works ask.kind wants) wants is
  where
    go : (t w s b : Bool) → (ask.length == 0) ≡ t → w ≡ true → b ≡ true → not (not t && w) || (s && (false || not b)) ≡ true → 0 ≡ ask.length
    go true w s b e f g h = grind (arith, e)
    go false true true true e f g h = absurd (true≢false (sym h))
    go false true false true e f g h = absurd (true≢false (sym h))
    go false true s false e f g h = absurd (true≢false (sym g))
    go false false s b e f g h = absurd (true≢false (sym f))
given_length ask (Some bytes) blocks given is wants = given bytes refl

pub some_blocks : (ask : Ask) (body : Option (List ℕ)) (blocks : Option Blocks) → wants_buffers ask ≡ true → has_buffers ask body blocks ≡ true → IsSome blocks
some_blocks ask body blocks wants is = go (wants_buffers ask) _ blocks wants is
  where
    go : (t s : Bool) (given : Option Blocks) → t ≡ true → not t || (is_some given && s) ≡ true → IsSome given
    go true s (Some x) e f = refl
    go true s None e f = absurd (true≢false (sym f))
    go false s given e f = absurd (true≢false (sym e))

pub made_free : (m : Machine) → IsShape m.shape → m.waits ≡ false → m.answered ≡ false → m.stage ≡ first_stage m.ask m.buffered →
    (m.buffered ≡ true → takes_body m.ask.kind ≡ true → length m.body ≡ m.ask.length) →
    (m.buffered ≡ true → wants_buffers m.ask ≡ true → m.pads.align ≡ m.shape.align) →
    (m.buffered ≡ true → wants_buffers m.ask ≡ true → length m.work ≡ m.shape.align) → IsFree m
made_free m shape waits answered stage body pads work = record {
  sound = record {
    shape = shape;
    buffers = record { body = body; pads = pads; work = λ buffered wants _. work buffered wants };
    stands = subst (λ (s : At). IsAtStage m s) (sym stage) (first_stands m);
  };
  waits = waits;
  answered = answered;
}
