-- Which input is served to its end.
use Rattle.std.specs.Prelude.{◌≡◌, ℕ, ◌<◌, ◌^◌, ◌⊎◌, List, [], ◌++◌, length, All}
use Rattle.std.specs.List.{flat_map}
use Rattle.qs_status.specs.declared.status.Status.{Status}
use Rattle.qs_status.specs.declared.status.Status.TheVariants as status
use Rattle.qs_nbd_wire.specs.Requests.{Message, IsMessage, spelling}
use Rattle.qs_stdio.specs.Scenes.{IsLeave}

-- a DISC, and whatever follows it
pub record Leaves (bytes : List ℕ) : Type 0 where
  pub leave : List ℕ
  pub more : List ℕ
  pub whole : bytes ≡ leave ++ more
  pub is : IsLeave leave

-- fewer than 2^32 requests that are read, and then a DISC or the end
pub record IsValidStream (stream : List ℕ) : Type 0 where
  pub messages : List Message
  pub each : All IsMessage messages
  pub few : length messages < 2 ^ 32
  pub last : List ℕ
  pub whole : stream ≡ flat_map spelling messages ++ last
  pub ends : (last ≡ []) ⊎ Leaves last

-- the end that a valid stream brings, unless memory was refused before
abbrev pub IsServed : Status → Type 0
IsServed result = (result ≡ status.Done) ⊎ (result ≡ status.Memory)
