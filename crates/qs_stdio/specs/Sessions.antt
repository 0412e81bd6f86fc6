-- Which input is served to its end, behind a handshake or without one.
use Rattle.std.specs.Prelude.{◌≡◌, ℕ, ◌<◌, ◌^◌, Bool, true, false, not, List, [], ◌∷◌, ◌++◌, length, codes, All, Option, Some, None}
use Rattle.std.specs.List.{flat_map}
use Rattle.std.specs.Str.{bytes_eq}
use Rattle.qs_bytes.specs.Numbers.{number32}
use Rattle.qs_nbd_wire.specs.declared.opening.ClientFlags.{ClientFlags}
use Rattle.qs_nbd_wire.specs.Greetings.{flags_of}
use Rattle.qs_nbd_handshake.specs.declared.wish.Wish.{Wish}
use Rattle.qs_nbd_handshake.specs.declared.wish.Wish.TheVariants as wish
use Rattle.qs_nbd_handshake.specs.Phases.{wish_in}
use Rattle.qs_nbd_handshake.specs.Sessions.{IsOption, sent_bytes}
use Rattle.qs_stdio.specs.Streams.{IsValidStream}

-- the name means the export `disk`: it is `disk`, or it is empty, which means the first export and so the only one
abbrev pub means_disk : Option (List ℕ) → Bool
means_disk None = false
means_disk (Some []) = true
means_disk (Some (byte ∷ bytes)) = bytes_eq (codes "disk") (byte ∷ bytes)

-- requests follow it: it is EXPORT_NAME of the export, or GO to it
abbrev pub attaches : Wish → Bool
attaches (wish.Export name) = means_disk name
attaches (wish.Go inquiry) = means_disk inquiry.name
attaches other = false

-- options go on behind it: it is neither EXPORT_NAME nor ABORT, nor GO to the export
abbrev pub wish_goes_on : Wish → Bool
wish_goes_on (wish.Export name) = false
wish_goes_on wish.Abort = false
wish_goes_on (wish.Go inquiry) = not (means_disk inquiry.name)
wish_goes_on other = true

-- a whole option behind which options go on
pub record IsAnswered (fixed : Bool) (option : List ℕ) : Type 0 where
  pub whole : IsOption fixed option
  pub on : wish_goes_on (wish_in option) ≡ true

-- The client's flags, none of them unknown; fewer than 2^32 options behind which options go on, and one that attaches
-- the export; and then a valid stream of requests (NBD proto.md, "Newstyle negotiation" and "Option types").
pub record IsValidSession (stream : List ℕ) : Type 0 where
  -- the flags
  pub flags : List ℕ
  pub known : ClientFlags
  pub four : length flags ≡ 4
  pub read : flags_of (number32 flags 0) ≡ Some known
  -- the options that are answered
  pub options : List (List ℕ)
  pub each : All (IsAnswered known.fixed) options
  pub few : length options < 2 ^ 32
  -- the last one
  pub final : List ℕ
  pub is_final : IsOption known.fixed final
  pub attached : attaches (wish_in final) ≡ true
  -- and what follows it
  pub requests : List ℕ
  pub valid : IsValidStream requests
  pub whole : stream ≡ flags ++ (flat_map sent_bytes options ++ (final ++ requests))

-- requests alone, where the words say so, and else a session
abbrev pub IsValidInput : Bool → List ℕ → Type 0
IsValidInput true stream = IsValidStream stream
IsValidInput false stream = IsValidSession stream
