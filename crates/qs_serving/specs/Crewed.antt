-- What a poll of a crew answers with.
use Rattle.qs_task.specs.declared.crew.CrewPoll.{CrewPoll}
use Rattle.qs_task.specs.declared.crew.CrewPoll.TheVariants.{NoSuch, Pending, Answered}
use Rattle.qs_serving.specs.Fitting.{IsAnswerTo}

-- an answer has a reply, or was dropped and needs none
abbrev pub HasReply : CrewPoll → Type 0
HasReply NoSuch = Unit {0}
HasReply (Pending need) = Unit {0}
HasReply (Answered ask v) = IsAnswerTo ask v
