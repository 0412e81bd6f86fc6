-- The core between the requests of its one client.
use Rattle.std.specs.Prelude.{◌≡◌, ℕ, ◌+◌, Bool, true, List, [], ◌∷◌, length, Option, Some, IfSome}
use Rattle.qs_bytes.specs.declared.ask.Ask.{Ask}
use Rattle.qs_bytes.specs.declared.ask.Verdict.{Verdict}
use Rattle.qs_outside.specs.Blocks.{Seen}
use Rattle.qs_image.specs.Image.{AllTell, align_of, size_of}
use Rattle.qs_image.specs.Opening.{IsImage}
use Rattle.qs_graph.specs.declared.export.Export.{Export}
use Rattle.qs_graph.specs.Exports.{export_at}
use Rattle.qs_part.specs.declared.event.Actor.TheVariants.{Request as ARequest}
use Rattle.qs_part.specs.declared.event.Event.TheVariants.{Ask as AskEvent, Attach, Step}
use Rattle.qs_part.specs.declared.event.Note.{Note}
use Rattle.qs_part.specs.declared.graph.ExportInfo.{ExportInfo}
use Rattle.qs_part.specs.declared.event.Outcome.TheVariants.{Answered, Attached, Made}
use Rattle.qs_model.specs.Acts.{Element}
use Rattle.qs_model.specs.Laws.{opening_world}
use Rattle.qs_model.specs.Requests.{brings_bytes}
use Rattle.qs_model.specs.Steps.{Runs, world_after}
use Rattle.qs_model.specs.Worlds.{Live, Opening}
use Rattle.qs_world.specs.Running.{meant}
use Rattle.qs_world.specs.Stands.{Stands}
use Rattle.qs_world.specs.Values.{WorldValue, disks_of, session_at}
use Rattle.qs_calls.specs.Calls.{Call, Happened, Plays}
use Rattle.qs_calls.specs.Goings.{RunsOut}
use Rattle.qs_single.specs.Remaining.{IsCleanSettled, Outlasts}
use Rattle.qs_single.specs.Service.{Called, MayGet}

-- No request is live, and a session is, at an export that stands over the whole image; a run of the model led here.
pub record IsResting {D : Type 0} (seen : D → Seen) (session : ℕ) (writable : Bool) (w : WorldValue D) : Type 0 where
  pub opened : Opening
  pub steps : List Element
  pub run : Runs w.shape.align (opening_world opened) steps
  pub stands : Stands seen w (world_after w.shape.align (opening_world opened) steps)
  pub idle : w.requests ≡ []
  pub place : ℕ
  pub live : session_at w.sessions session ≡ Live place
  pub export : Export
  pub is : export_at w.graph.places place ≡ Some export
  pub leave : export.writable ≡ writable
  pub image : IsImage (disks_of seen w)
  pub align : w.shape.align ≡ align_of (disks_of seen w)
  pub size : w.graph.size ≡ size_of (disks_of seen w)

-- The body that comes with a request: a WRITE's data, or none of them where memory was refused for them.
pub record IsBody (a : Ask) (given : List ℕ) (body : Option (List ℕ)) : Type 0 where
  pub whole : brings_bytes a.kind ≡ true → length given ≡ a.length
  pub is : brings_bytes a.kind ≡ true → IfSome body (λ bytes. bytes ≡ given)

-- A request was asked and answered: these calls of the core happened, its own steps alone, over what the disks mean.
pub record Exchanged {D : Type 0} (seen : D → Seen) (session : ℕ) (writable : Bool) (a : Ask) (given : List ℕ)
    (body : Option (List ℕ)) (now : ℕ)
    (w : WorldValue D) (v : Verdict) (w' : WorldValue D) : Type 0 where
  pub may : MayGet (size_of (disks_of seen w)) writable a v
  pub number : ℕ
  pub steps : List Call
  pub note : Option Note
  pub ran : RunsOut (Step (ARequest number) now) steps (Answered v note)
  pub plays : Plays (λ d. d) (meant seen w) (Happened (AskEvent session a body) (Made number) ∷ steps) (meant seen w')
  pub called : Called (disks_of seen w) a given v (disks_of seen w')
  pub outlasts : AllTell (disks_of seen w) → IsCleanSettled seen w →
      Outlasts (disks_of seen w) a given v (disks_of seen w') × IsCleanSettled seen w'
  pub next : w'.next ≡ w.next + 1

-- A session was attached to the export, which no client had: it tells the image's bytes, and whether it may be written.
pub record Attaches {D : Type 0} (seen : D → Seen) (session : ℕ) (writable : Bool) (w : WorldValue D) (name : List ℕ)
    (info : ExportInfo) (w' : WorldValue D) : Type 0 where
  pub plays : Plays (λ d. d) (meant seen w) (Happened (Attach session name) (Attached info) ∷ []) (meant seen w')
  pub size : info.size ≡ size_of (disks_of seen w)
  pub leave : info.writable ≡ writable
  pub disks : disks_of seen w' ≡ disks_of seen w
  pub rests : IsResting seen session writable w'
  pub next : w'.next ≡ 0
