-- One more kept call.
use Rattle.std.proofs.Common.{◌≡◌, List, [], ◌∷◌, ◌++◌, refl, ap, ◌∙◌, ℕ}
use Rattle.std.specs.Prelude.{Option, Some, None}
use Rattle.qs_part.specs.declared.graph.GraphOp.{GraphOp}
use Rattle.qs_part.specs.declared.graph.GraphOp.TheVariants.{Find, Attach, Detach, ListExports}
use Rattle.qs_part.specs.Histories.{call}
use Rattle.qs_request.specs.declared.todo.Todo.{Todo}
use Rattle.qs_request.specs.declared.todo.PartReply.{PartReply}
use Rattle.qs_task.specs.Books.{Book, notes}
use Rattle.qs_serving.specs.Graphs.{GraphMay, IsSessionOp, graph_noted}
use Rattle.qs_task_trials.specs.Kept.{no_calls}
use Rattle.qs_session_trials.specs.Trials.{noted_from, op_of, session_reply, trial_book, trial_noted}
use Rattle.qs_session_trials.specs.declared.station.OwnCall.{OwnCall}
use Rattle.qs_session_trials.specs.declared.station.TrialCall.{TrialCall}
use Rattle.qs_session_trials.specs.declared.station.TrialCall.TheVariants.{ForRequest, ForSession}

more : (stands : Option (List ℕ)) (calls : List TrialCall) (c : TrialCall) (book : Book) →
    noted_from stands book (calls ++ c ∷ []) ≡ trial_noted stands c (noted_from stands book calls)
more stands [] c book = refl
more stands (x ∷ calls) c book = more stands calls c (trial_noted stands x book)

pub kept_more : (stands : Option (List ℕ)) (calls : List TrialCall) (n : ℕ) (todo : Todo) (reply : PartReply) →
    trial_book stands (calls ++ ForRequest n todo reply ∷ []) ≡ notes (call n todo reply) (trial_book stands calls)
kept_more stands calls n todo reply = more stands calls (ForRequest n todo reply) no_calls

pub session_more : (stands : Option (List ℕ)) (calls : List TrialCall) (own : OwnCall) (o : GraphOp) → op_of own ≡ o →
    trial_book stands (calls ++ ForSession own ∷ []) ≡ graph_noted o (session_reply stands o) (trial_book stands calls)
session_more stands calls own o is =
    more stands calls (ForSession own) no_calls ∙ ap (λ (p : GraphOp). graph_noted p (session_reply stands p) (trial_book stands calls)) is

pub session_may : (stands : Option (List ℕ)) (o : GraphOp) → IsSessionOp o → GraphMay o (session_reply stands o)
session_may stands (Detach e) is = tt
session_may None (ListExports table) is = tt
session_may (Some name) (ListExports table) is = tt
session_may None (Find name) is = tt
session_may (Some disk) (Find name) is = tt
session_may None (Attach name) is = tt
session_may (Some disk) (Attach name) is = tt
session_may stands o is = absurd is
