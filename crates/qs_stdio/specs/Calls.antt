-- What one request made of the core and of the output.
use Rattle.std.specs.Prelude.{ℕ, Bool, List, Option}
use Rattle.qs_bytes.specs.declared.ask.Ask.{Ask}
use Rattle.qs_bytes.specs.declared.ask.Verdict.{Verdict}
use Rattle.qs_outside.specs.Blocks.{Seen}
use Rattle.qs_nbd_transmission.specs.Replies.{reply_of}
use Rattle.qs_stream.specs.Buffers.{Buffers}
use Rattle.qs_stream.specs.Flows.{Side, Puts}
use Rattle.qs_single.specs.Resting.{Exchanged, IsBody, IsResting}
use Rattle.qs_world.specs.Values.{WorldValue}

-- a request was asked of the core and answered
pub record Does {D : Type 0} (seen : D → Seen) (session : ℕ) (writable : Bool) (a : Ask) (given : List ℕ)
    (old : WorldValue D) (verdict : Verdict) (new : WorldValue D) : Type 0 where
  pub body : Option (List ℕ)
  pub is_body : IsBody a given body
  pub now : ℕ
  pub exchanged : Exchanged seen session writable a given body now old verdict new
  pub rests : IsResting seen session writable new

-- and its reply was put
pub record Answers {D : Type 0} (seen : D → Seen) (session : ℕ) (writable structured : Bool) (a : Ask)
    (given : List ℕ) (old new : WorldValue D) (output : Side) (stream : Buffers) (output' : Side)
    (stream' : Buffers) : Type 0 where
  pub verdict : Verdict
  pub does : Does seen session writable a given old verdict new
  pub puts : Puts (reply_of structured a verdict) output stream output' stream'
