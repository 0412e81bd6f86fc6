-- A stream with its two sides, and what a run of calls does to it.
use Rattle.std.specs.Prelude.{◌≡◌, ◌≢◌, ℕ, ◌⊎◌, List, [], length, Option, Result, Ok, Err, IfOk, OnErr, OnOk}
use Rattle.std.specs.Io.KnownBytes.{IsAtEnd}
use Rattle.qs_outside.specs.Faults.{Rose}
use Rattle.qs_stream.specs.declared.state.State.{State}
use Rattle.qs_stream.specs.declared.state.State.TheVariants.{Open, ReadFault, WriteFault}
use Rattle.qs_stream.specs.Buffers.{Buffers}
use Rattle.qs_stream.specs.Bytes.{Takes, Gives}
use Rattle.qs_stream.specs.Faults.{Stays}

-- A source or a sink: the bytes that it has left, or was sent, and its count of faults.
pub record Side : Type 0 where
  pub bytes : Option (List ℕ)
  pub faults : ℕ

abbrev pub side : {X : Type 0} → (X → Option (List ℕ)) → (X → ℕ) → X → Side
side bytes faults x = record { bytes = bytes x; faults = faults x }

-- all that is seen of a stream
pub record Flow : Type 0 where
  pub input : Side
  pub output : Side
  pub stream : Buffers

-- by the meanings of the source and of the sink
abbrev pub flow : {I O : Type 0} → (I → Option (List ℕ)) → (I → ℕ) → (O → Option (List ℕ)) → (O → ℕ) → I → O →
    Buffers → Flow
flow left read_faults sent write_faults input output stream = record {
  input = side left read_faults input;
  output = side sent write_faults output;
  stream = stream;
}

-- The counts of the source and of the sink over a run from an open stream to this state: the one of the side that
-- failed rose.
abbrev pub Rises : State → ℕ → ℕ → ℕ → ℕ → Type 0
Rises Open read read' write write' = Stays read read' × Stays write write'
Rises ReadFault read read' write write' = Rose read read' × Stays write write'
Rises WriteFault read read' write write' = Stays read read' × Rose write write'

-- From one state to the other: a stream that failed stays so, and nothing more is done.
abbrev pub Proceeds : State → State → Flow → Flow → Type 0
Proceeds Open to old new = Rises to old.input.faults new.input.faults old.output.faults new.output.faults
Proceeds ReadFault ReadFault old new = new ≡ old
Proceeds WriteFault WriteFault old new = new ≡ old
Proceeds from to old new = ⊥

-- A run of calls: these bytes were taken off the input, and those given to the output. What of them wasn't sent waits,
-- unless the stream failed.
pub record Moved (taken given : List ℕ) (old new : Flow) : Type 0 where
  pub takes : Takes old.input.bytes old.stream.waiting taken new.input.bytes new.stream.waiting
  pub rest : List ℕ
  pub gives : Gives old.output.bytes old.stream.held given new.output.bytes rest
  pub waits : new.stream.state ≡ Open → rest ≡ new.stream.held
  pub runs : Proceeds old.stream.state new.stream.state old new

-- the input has no byte more
abbrev pub IsUsedUp : Flow → Type 0
IsUsedUp flow = IsAtEnd flow.input.bytes × (flow.stream.waiting ≡ [])

-- a call failed exactly where the stream failed, in that call or before
abbrev pub Tells : {T E : Type 0} → Result T E → State → Type 0
Tells (Ok x) state = state ≡ Open
Tells (Err e) state = state ≢ Open

-- bytes were put, whatever the input is
pub record Puts (given : List ℕ) (output : Side) (old : Buffers) (output' : Side) (new : Buffers) : Type 0 where
  pub waiting : new.waiting ≡ old.waiting
  pub moved : (input : Side) →
      Moved [] given (record { input = input; output = output; stream = old })
      (record { input = input; output = output'; stream = new })

-- More was read, once. The source was called only where nothing waited to be written, so behind a read nothing waits.
pub record Fills {E : Type 0} (old : Flow) (result : Result ℕ E) (new : Flow) : Type 0 where
  pub moved : Moved [] [] old new
  pub tells : Tells result new.stream.state
  pub count : IfOk result (λ n. n ≡ length new.stream.waiting)
  pub at_end : IfOk result (λ n. n ≡ 0 → IsAtEnd new.input.bytes)
  pub nothing : OnErr result (new.stream.waiting ≡ [])
  pub written : (new.input ≡ old.input) ⊎ (new.stream.held ≡ [])
  pub emptied : OnOk result (new.stream.held ≡ [])
