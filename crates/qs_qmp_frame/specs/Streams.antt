-- What a stream of objects is, above the cutting: blanks and objects in any order, and a rest.
use Rattle.std.specs.Prelude.{◌≡◌, ℕ, ◌-◌, ◌<◌, ◌≤◌, true, false, ◌==◌, List, [], ◌∷◌, ◌++◌, length, take, Option, Some, None}
use Rattle.std.specs.List.{flat_map}
use Rattle.qs_qmp_frame.specs.declared.stage.FrameEvent.{FrameEvent}
use Rattle.qs_qmp_frame.specs.declared.stage.FrameEvent.TheVariants.{Object, NotObject, TooLong}
use Rattle.qs_qmp_frame.specs.Objects.{open_brace, is_blank, is_beginning, is_object, limit}
use Rattle.qs_qmp_frame.specs.Phases.{Phase, Gap, IsFed, is_refused, object_of, objects, refusal_of, run}

pub data Item : Type 0 where
  Blank : (byte : ℕ) → Item
  Framed : (object : List ℕ) → Item

abbrev pub item_bytes : Item → List ℕ
item_bytes (Blank b) = b ∷ []
item_bytes (Framed object) = object

-- a blank, or an object within the limit
abbrev pub IsItem : Item → Type 0
IsItem (Blank b) = is_blank b ≡ true
IsItem (Framed object) = (is_object object ≡ true) × (length object ≤ limit)

abbrev pub AreItems : List Item → Type 0
AreItems [] = Unit {0}
AreItems (item ∷ items) = IsItem item × AreItems items

-- the objects among the items
abbrev pub framed : List Item → List (List ℕ)
framed [] = []
framed (Blank b ∷ items) = framed items
framed (Framed object ∷ items) = object ∷ framed items

-- What follows the items. Bare: nothing. Begun: the beginning of an object. Stray: a byte that is
-- neither blank nor a brace. Endless: the beginning of an object that is as long as an object may be.
-- Behind Stray and Endless more may follow.
pub data Rest : Type 0 where
  Bare : Rest
  Begun : (front : List ℕ) → Rest
  Stray : (byte : ℕ) (more : List ℕ) → Rest
  Endless : (front : List ℕ) (more : List ℕ) → Rest

abbrev pub rest_bytes : Rest → List ℕ
rest_bytes Bare = []
rest_bytes (Begun front) = front
rest_bytes (Stray b more) = b ∷ more
rest_bytes (Endless front more) = front ++ more

abbrev pub IsRest : Rest → Type 0
IsRest Bare = Unit {0}
IsRest (Begun front) = (is_beginning front ≡ true) × (length front < limit)
IsRest (Stray b more) = (is_blank b ≡ false) × ((b == open_brace) ≡ false)
IsRest (Endless front more) = (is_beginning front ≡ true) × (length front ≡ limit)

-- what is refused in the rest
abbrev pub refused_in : Rest → Option FrameEvent
refused_in (Stray b more) = Some (NotObject b)
refused_in (Endless front more) = Some TooLong
refused_in other = None

pub record Stream : Type 0 where
  pub items : List Item
  pub rest : Rest

abbrev pub stream_bytes : Stream → List ℕ
stream_bytes s = flat_map item_bytes s.items ++ rest_bytes s.rest

pub record IsStream (s : Stream) : Type 0 where
  pub items : AreItems s.items
  pub rest : IsRest s.rest

-- the bytes are cut into the objects of this stream, and refused where it is
pub record IsCut (s : Stream) (bytes : List ℕ) : Type 0 where
  pub objects : objects Gap bytes ≡ framed s.items
  pub refusal : refusal_of (run Gap bytes) ≡ refused_in s.rest

-- the bytes are a stream's, and cut as it is
pub record IsSpelled (bytes : List ℕ) : Type 0 where
  pub stream : Stream
  pub is : IsStream stream
  pub spelled : bytes ≡ stream_bytes stream
  pub cut : IsCut stream bytes

-- what is cut is a stream's bytes, and every stream's bytes are cut so
pub record CutsStreams : Type 0 where
  pub what_is_cut : (bytes : List ℕ) → IsSpelled bytes
  pub what_is_spelled : (s : Stream) → IsStream s → IsCut s (stream_bytes s)

-- a call of `feed`
pub record FramerCall : Type 0 where
  pub piece : List ℕ
  pub taken : ℕ
  pub event : Option FrameEvent
  pub new : Phase

-- calls one after the other, the first at this phase
abbrev pub AreFramerCalls : Phase → List FramerCall → Type 0
AreFramerCalls old [] = Unit {0}
AreFramerCalls old (call ∷ calls) = IsFed old call.piece call.taken call.event call.new × AreFramerCalls call.new calls

-- the bytes that a call took
abbrev pub fed_bytes : FramerCall → List ℕ
fed_bytes call = take call.taken call.piece

-- the object that a call told
abbrev pub objects_told : Option FrameEvent → Phase → List (List ℕ)
objects_told (Some Object) new = object_of new ∷ []
objects_told other new = []

abbrev pub told_by : FramerCall → List (List ℕ)
told_by call = objects_told call.event call.new

-- the phase behind the calls
abbrev pub reached : Phase → List FramerCall → Phase
reached old [] = old
reached old (call ∷ calls) = reached call.new calls

-- However the bytes are cut into pieces, the objects told and the phase reached are those of the bytes.
pub record JoinsPieces : Type 0 where
  pub objects : (old : Phase) → (calls : List FramerCall) → AreFramerCalls old calls →
      flat_map told_by calls ≡ objects old (flat_map fed_bytes calls)
  pub phase : (old : Phase) → (calls : List FramerCall) → AreFramerCalls old calls →
      reached old calls ≡ run old (flat_map fed_bytes calls)

-- a call that takes bytes takes none behind a refused one
abbrev pub RefusesAtOnce : Type 0
RefusesAtOnce =
    (old new : Phase) → (piece : List ℕ) → (taken : ℕ) → (event : Option FrameEvent) → IsFed old piece taken event new →
    0 < taken → is_refused (run old (take (taken - 1) piece)) ≡ false
