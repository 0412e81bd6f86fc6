-- What the definitions of this crate mean together.
use Rattle.std.specs.Prelude.{◌≡◌, ℕ, ◌<◌, Bool, true, false, List, [], ◌++◌, length, All, Option, Some, None}
use Rattle.std.specs.List.{flat_map}
use Rattle.qs_bytes.specs.declared.ask.Ask.{Ask}
use Rattle.qs_bytes.specs.declared.ask.Verdict.{Verdict}
use Rattle.qs_nbd_wire.specs.declared.request.RequestHead.{RequestHead}
use Rattle.qs_nbd_transmission.specs.declared.event.Room.TheVariants.{Keep, Drop}
use Rattle.qs_nbd_transmission.specs.declared.event.WireEvent.{WireEvent}
use Rattle.qs_nbd_transmission.specs.declared.event.WireEvent.TheVariants as event
use Rattle.qs_nbd_wire.specs.Requests.{FitsHead, head_bytes, disc, has_body, Message, IsMessage, BeginsNone, spelling}
use Rattle.qs_nbd_transmission.specs.Heads.{IsHeadFront, ask_of, has_data}
use Rattle.qs_nbd_transmission.specs.Phases.{Phase, InHead, Wants, Fills, Skips, Over, Reaches, IsServed, behind_head, need}
use Rattle.qs_nbd_transmission.specs.Replies.{CanReply, reply_of}

-- a piece that brought no event, and the next one, lead where both together do
abbrev pub JoinsPieces : Type 0
JoinsPieces =
    (structured : Bool) → (old middle new : Phase) → (first second : List ℕ) → (told : Option WireEvent) →
    Reaches structured old first None middle → Reaches structured middle second told new →
    Reaches structured old (first ++ second) told new

-- where two streams begin alike, the first event of each stands at the same place, and it is the same
pub record ReadsOnce : Type 0 where
  pub same : (structured : Bool) → (old one other : Phase) → (first second more rest : List ℕ) →
      (told again : WireEvent) →
      Reaches structured old first (Some told) one → Reaches structured old second (Some again) other →
      first ++ more ≡ second ++ rest → (first ≡ second) × (told ≡ again) × (one ≡ other)
  pub none : (structured : Bool) → (old one other : Phase) → (first more : List ℕ) → (told : WireEvent) →
      Reaches structured old first (Some told) one → Reaches structured old (first ++ more) None other → ⊥

-- a message is told whole: its head with what it asks for, and the data of a WRITE in the room given
pub record TellsMessages : Type 0 where
  pub head : (structured : Bool) → (m : Message) → IsMessage m →
      Reaches structured (InHead []) (head_bytes m.head) (Some (event.Head (ask_of structured m.head)))
      (behind_head m.head)
  pub kept : (structured : Bool) → (m : Message) → IsMessage m → has_body m.head ≡ true →
      Reaches structured (Fills m.head []) m.body (Some (event.Body (Keep m.body))) (InHead [])
  pub dropped : (structured : Bool) → (m : Message) → IsMessage m → has_body m.head ≡ true →
      Reaches structured (Skips m.head m.head.size) m.body (Some (event.Body (Drop m.head.size))) (InHead [])
  pub bare : (m : Message) → IsMessage m → has_body m.head ≡ false → m.body ≡ []
  pub leave : (structured : Bool) → (h : RequestHead) → FitsHead h → h.kind ≡ disc →
      Reaches structured (InHead []) (head_bytes h) (Some event.Disc) Over

-- behind the head of a request with data, room for exactly these is awaited; behind every other one, the next head
pub record AsksRoom : Type 0 where
  pub some : (structured : Bool) → (bytes : List ℕ) → (ask : Ask) → (new : Phase) → IsServed structured bytes ask new →
      has_data ask ≡ true → (h : RequestHead) × ((new ≡ Wants h) × (h.size ≡ ask.length))
  pub none : (structured : Bool) → (bytes : List ℕ) → (ask : Ask) → (new : Phase) → IsServed structured bytes ask new →
      has_data ask ≡ false → new ≡ InHead []

-- a stream is these messages and no others, up to a rest that begins with no whole message
abbrev pub HasOneReading : Type 0
HasOneReading =
    (xs ys : List Message) → (rest other : List ℕ) → All IsMessage xs → All IsMessage ys → BeginsNone rest →
    BeginsNone other →
    flat_map spelling xs ++ rest ≡ flat_map spelling ys ++ other → (xs ≡ ys) × (rest ≡ other)

-- an event by which a session ends
abbrev pub IsEnding : WireEvent → Type 0
IsEnding event.Disc = Unit {0}
IsEnding (event.Bad bad) = Unit {0}
IsEnding other = ⊥

-- what begins with no whole message: less than a head, a WRITE's head with less than its data, and
-- what is refused or leaves, whatever follows it
pub record RestsBegin : Type 0 where
  pub front : (bytes : List ℕ) → IsHeadFront bytes → BeginsNone bytes
  pub partial : (h : RequestHead) → (got : List ℕ) → FitsHead h → has_body h ≡ true → length got < h.size →
      BeginsNone (head_bytes h ++ got)
  pub refused : (structured : Bool) → (bytes more : List ℕ) → (told : WireEvent) → (new : Phase) → IsEnding told →
      Reaches structured (InHead []) bytes (Some told) new → BeginsNone (bytes ++ more)

-- of two replies to one request, neither is the beginning of the other, unless they are equal
abbrev pub RepliesStandApart : Type 0
RepliesStandApart =
    (structured : Bool) → (ask : Ask) → (verdict other : Verdict) → (more : List ℕ) → CanReply ask verdict →
    CanReply ask other →
    reply_of structured ask other ≡ reply_of structured ask verdict ++ more → more ≡ []

-- what is wanted until the next event falls with each byte that brings none
abbrev pub WantsLess : Type 0
WantsLess =
    (structured : Bool) → (old new : Phase) → (bytes : List ℕ) → 0 < length bytes →
    Reaches structured old bytes None new →
    need new < need old
