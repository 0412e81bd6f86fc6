-- Live requests, each of whose answers has a reply.
use Rattle.std.proofs.Common.{ℕ, ◌<◌, inl, inr, List, sym, subst, arith}
use Rattle.std.specs.Prelude.{Option}
use Rattle.qs_bytes.specs.declared.ask.Ask.{Ask}
use Rattle.qs_model.specs.Requests.{Req}
use Rattle.qs_request.specs.Value.{client_for}
use Rattle.qs_request_state.specs.Shapes.{IsShape}
use Rattle.qs_request_state.specs.declared.shape.Shape.{Shape}
use Rattle.qs_task.specs.Books.{Book}
use Rattle.qs_task.specs.Crews.{Began, CrewPolls, CrewStep, CrewValue}
use Rattle.qs_task.specs.Tasks.{TaskValue}
use Rattle.qs_task.specs.declared.crew.CrewPoll.{CrewPoll}
use Rattle.qs_serving.proofs.Crewed.{PollKeeps, fit_more, poll_keeps}
use Rattle.qs_serving.proofs.Fitting.{new_fits}
use Rattle.qs_serving.specs.Fitting.{AllFit, RequestFits}
use Rattle.qs_serving.specs.Steps.{IsAsRead}

abbrev pub Fitting : CrewValue → Type 0
Fitting crew = AllFit crew.shape.align crew.live × IsShape crew.shape

align_some : (shape : Shape) → IsShape shape → 0 < shape.align
align_some shape is = elim is.align [ inl small ↦ omega (arith, small) | inr large ↦ omega (arith, large) ]

pub poll_fits : (result : CrewPoll) (n : ℕ) (old new : CrewValue) (before after : Book) → Fitting old →
    CrewPolls result n old new before after → PollKeeps result old new
poll_fits result n old new before after fits polls =
    poll_keeps result n old new before after (align_some old.shape fits.1) fits.0 polls

pub still_fits : (result : CrewPoll) (old new : CrewValue) → Fitting old → PollKeeps result old new → Fitting new
still_fits result old new fits keeps = (
  subst (λ (s : Shape). AllFit s.align new.live) (sym keeps.shape) keeps.fit,
  subst (λ (s : Shape). IsShape s) (sym keeps.shape) fits.1,
)

pub begun_fits : (export : ℕ) (ask : Ask) (body : Option (List ℕ)) (old : CrewValue) (t : TaskValue) (new : CrewValue) → Fitting old →
    IsAsRead export ask body t.request → CrewStep old (Began t) new → Fitting new
begun_fits export ask body old t new fits read step =
    subst Fitting (sym step.1) (
      fit_more old.shape.align old.live t fits.0
          (subst (λ (q : Req). RequestFits old.shape.align q) (sym read.is) (new_fits old.shape.align (client_for 0 ask export read.given read.blocks))),
      fits.1,
    )
