-- What a framer has taken of the stream, and what each byte and each piece makes of it.
use Rattle.std.specs.Prelude.{◌≡◌, ℕ, ◌<◌, ◌≤◌, Bool, true, false, ◌==◌, if◌then◌else◌, List, [], ◌∷◌, ◌++◌, length, take, Option, Some, None}
use Rattle.std.specs.List.{fold}
use Rattle.qs_qmp_frame.specs.declared.place.Place.{Place}
use Rattle.qs_qmp_frame.specs.declared.place.Place.TheVariants.{Outside}
use Rattle.qs_qmp_frame.specs.declared.stage.Stage.{Stage}
use Rattle.qs_qmp_frame.specs.declared.stage.Stage.TheVariants as stage
use Rattle.qs_qmp_frame.specs.declared.stage.FrameEvent.{FrameEvent}
use Rattle.qs_qmp_frame.specs.declared.stage.FrameEvent.TheVariants.{Object, NotObject, TooLong}
use Rattle.qs_qmp_frame.specs.Objects.{open_brace, is_blank, limit, braces, ends, next}

-- Gap: an object is awaited. Part: these bytes of an object came, and its next byte stands at this place.
-- Whole: this object has just come. Wrong: this byte stood in the place of an object. Long: an object was too long.
pub data Phase : Type 0 where
  Gap : Phase
  Part : (place : Place) (kept : List ℕ) → Phase
  Whole : (object : List ℕ) → Phase
  Wrong : (byte : ℕ) → Phase
  Long : Phase

-- behind a byte between objects
abbrev pub begin : ℕ → Phase
begin b = if is_blank b then Gap else (if b == open_brace then Part (Outside 0) (open_brace ∷ []) else Wrong b)

-- behind the byte b of an object, with which so many bytes of it came
abbrev pub go_on : Place → List ℕ → ℕ → Phase
go_on place kept b = if ends place b then Whole kept
    else (if length kept == limit then Long else Part (next place b) kept)

-- behind one more byte
abbrev pub phase_after : Phase → ℕ → Phase
phase_after Gap b = begin b
phase_after (Part place kept) b = go_on place (kept ++ b ∷ []) b
phase_after (Whole object) b = begin b
phase_after (Wrong byte) b = Wrong byte
phase_after Long b = Long

-- behind these bytes
abbrev pub run : Phase → List ℕ → Phase
run phase bytes = fold phase_after phase bytes

-- what a phase tells at the byte that led to it
abbrev pub frame_event_of : Phase → Option FrameEvent
frame_event_of Gap = None
frame_event_of (Part place kept) = None
frame_event_of (Whole object) = Some Object
frame_event_of (Wrong byte) = Some (NotObject byte)
frame_event_of Long = Some TooLong

-- what a refused stream tells again
abbrev pub refusal_of : Phase → Option FrameEvent
refusal_of (Wrong byte) = Some (NotObject byte)
refusal_of Long = Some TooLong
refusal_of other = None

abbrev pub is_refused : Phase → Bool
is_refused (Wrong byte) = true
is_refused Long = true
is_refused other = false

-- the object that has just come
abbrev pub object_of : Phase → List ℕ
object_of (Whole object) = object
object_of other = []

-- the object that a byte ended, where it ended one
abbrev pub whole_object : Phase → List (List ℕ)
whole_object (Whole object) = object ∷ []
whole_object other = []

-- the objects that end within these bytes, in order
abbrev pub objects : Phase → List ℕ → List (List ℕ)
objects phase [] = []
objects phase (b ∷ bytes) = whole_object (phase_after phase b) ++ objects (phase_after phase b) bytes

-- A piece was fed: bytes from its front were taken up to the first event, or all where there is none.
-- A refused stream takes none and tells its refusal again.
pub record IsFed (old : Phase) (piece : List ℕ) (taken : ℕ) (event : Option FrameEvent) (new : Phase) : Type 0 where
  pub within : taken ≤ length piece
  pub now : new ≡ run old (take taken piece)
  pub quiet : (k : ℕ) → 0 < k → k < taken → frame_event_of (run old (take k piece)) ≡ None
  pub told : event ≡ (if taken == 0 then refusal_of new else frame_event_of new)
  pub all : event ≡ None → taken ≡ length piece
  pub stuck : is_refused old ≡ true → taken ≡ 0

-- the phase that a stage and the kept bytes stand for
abbrev pub phase_of : Stage → List ℕ → Phase
phase_of stage.Gap kept = Gap
phase_of (stage.Part place) kept = Part place kept
phase_of stage.Whole kept = Whole kept
phase_of (stage.Wrong byte) kept = Wrong byte
phase_of stage.Long kept = Long

-- another byte may be kept; each open brace is a kept byte
abbrev pub HasStageRoom : Stage → List ℕ → Type 0
HasStageRoom (stage.Part place) kept = (length kept < limit) × (braces place < length kept)
HasStageRoom other kept = Unit {0}
