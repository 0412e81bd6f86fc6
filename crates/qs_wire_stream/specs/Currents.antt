-- A stream over a wire, and what a run of calls does to it.
use Rattle.std.specs.Prelude.{◌≡◌, ℕ, ◌<◌, ◌≤◌, Bool, true, false, List, [], length, Option, ⊤}
use Rattle.std.specs.Io.KnownBytes.{IsAtEnd}
use Rattle.qs_links.specs.Tries.{CountsIf, is_failed, is_not_ready}
use Rattle.qs_links.specs.declared.wire.Tried.{Tried}
use Rattle.qs_links.specs.declared.wire.Tried.TheVariants.{Did, NotReady, Ended, Failed}
use Rattle.qs_stream.specs.Bytes.{Takes, Gives}
use Rattle.qs_wire_stream.specs.Pending.{WireBuffers}
use Rattle.qs_wire_stream.specs.declared.gathered.Sending.{Sending}
use Rattle.qs_wire_stream.specs.declared.gathered.Sending.TheVariants.{Written, NotReady as Stopped, Failed as Broken}

-- All that is seen of a stream: what its wire has left and was sent, where these are told; the counts of failed reads,
-- of failed writes and of tries that found it not ready; the bytes that were read and wait, and those that wait to be
-- written.
pub record Current : Type 0 where
  pub left : Option (List ℕ)
  pub sent : Option (List ℕ)
  pub read_faults : ℕ
  pub write_faults : ℕ
  pub waits : ℕ
  pub waiting : List ℕ
  pub held : List ℕ

-- by the meanings of the wire
abbrev pub current : {W : Type 0} → (W → Option (List ℕ)) → (W → Option (List ℕ)) → (W → ℕ) → (W → ℕ) → (W → ℕ) →
    WireBuffers W → Current
current left sent read_faults write_faults waits s = record {
  left = left s.wire;
  sent = sent s.wire;
  read_faults = read_faults s.wire;
  write_faults = write_faults s.wire;
  waits = waits s.wire;
  waiting = s.waiting;
  held = s.held;
}

-- a stream of which nothing was read, and to which nothing was put
abbrev pub fresh_stream : {W : Type 0} → W → WireBuffers W
fresh_stream wire = record { wire = wire; waiting = []; held = []; room = 65536 }

-- A run of calls: these bytes were taken off the input, and those given to the output, in their order. No count fell.
pub record Advanced (taken given : List ℕ) (old new : Current) : Type 0 where
  pub takes : Takes old.left old.waiting taken new.left new.waiting
  pub gives : Gives old.sent old.held given new.sent new.held
  pub reads : old.read_faults ≤ new.read_faults
  pub writes : old.write_faults ≤ new.write_faults
  pub waits : old.waits ≤ new.waits

-- what a read brought: so many bytes and some, or none
abbrev pub CameBy : Tried → List ℕ → Type 0
CameBy (Did n) came = (n ≡ length came) × (0 < n)
CameBy NotReady came = came ≡ []
CameBy Ended came = came ≡ []
CameBy Failed came = came ≡ []

-- a read that ended left no byte
abbrev pub EndsAfter : Tried → Option (List ℕ) → Type 0
EndsAfter (Did n) left = ⊤
EndsAfter NotReady left = ⊤
EndsAfter Ended left = IsAtEnd left
EndsAfter Failed left = ⊤

-- A try to read. It found the wire not ready, or failed, exactly where that count rose, and the output is as before.
pub record TriesRead (tried : Tried) (old new : Current) : Type 0 where
  pub advanced : Advanced [] [] old new
  pub came : CameBy tried new.waiting
  pub at_end : EndsAfter tried new.left
  pub cause : CountsIf (is_failed tried) old.read_faults new.read_faults
  pub wait : CountsIf (is_not_ready tried) old.waits new.waits
  pub sent : new.sent ≡ old.sent
  pub held : new.held ≡ old.held
  pub write_faults : new.write_faults ≡ old.write_faults

abbrev pub is_broken : Sending → Bool
is_broken Written = false
is_broken Stopped = false
is_broken Broken = true

abbrev pub is_stopped : Sending → Bool
is_stopped Written = false
is_stopped Stopped = true
is_stopped Broken = false

-- where all was written, this holds
abbrev pub WritesAll : Sending → Type 0 → Type 0
WritesAll Written P = P
WritesAll Stopped P = Unit {0}
WritesAll Broken P = Unit {0}

-- A try to write all that waits. It was cut short by the wire, or failed, exactly where that count rose, and the input
-- is as before.
pub record TriesWrite (how : Sending) (old new : Current) : Type 0 where
  pub advanced : Advanced [] [] old new
  pub written : WritesAll how (new.held ≡ [])
  pub cause : CountsIf (is_broken how) old.write_faults new.write_faults
  pub wait : CountsIf (is_stopped how) old.waits new.waits
  pub left : new.left ≡ old.left
  pub waiting : new.waiting ≡ old.waiting
  pub read_faults : new.read_faults ≡ old.read_faults
