-- What a handshake has taken of the next message, and what each feed makes of it.
use Rattle.std.specs.Prelude.{◌≡◌, ℕ, ◌+◌, ◌<◌, Bool, true, false, nat_lt, if◌then◌else◌, List, [], ◌∷◌, ◌++◌, length, drop, Option, Some, None}
use Rattle.qs_bytes.specs.Numbers.{number32}
use Rattle.qs_status.specs.declared.status.SessionEnd.{SessionEnd}
use Rattle.qs_status.specs.declared.status.SessionEnd.TheVariants.{Done, Truncated, BadFlags}
use Rattle.qs_nbd_wire.specs.declared.opening.ClientFlags.{ClientFlags}
use Rattle.qs_nbd_wire.specs.Greetings.{flags_of}
use Rattle.qs_nbd_wire.specs.Options.{option_head_of}
use Rattle.qs_nbd_handshake.specs.declared.event.HandEvent.{HandEvent}
use Rattle.qs_nbd_handshake.specs.declared.event.HandEvent.TheVariants as event
use Rattle.qs_nbd_handshake.specs.declared.stage.Terms.{Terms}
use Rattle.qs_nbd_handshake.specs.declared.wish.Wish.{Wish}
use Rattle.qs_nbd_handshake.specs.Wishes.{option_fault, wish_of, want_of}

-- InFlags: these bytes of the client's flags were taken. InOption: these bytes of the next option.
-- Asked: an option came, and its answer is awaited. Over: the handshake is over, and so is the session
-- where it ended otherwise than as Done. Stuck: a refusal came.
pub data Phase : Type 0 where
  InFlags : (held : List ℕ) → Phase
  InOption : (held : List ℕ) → Phase
  Asked : (w : Wish) → Phase
  Over : (how : SessionEnd) → Phase
  Stuck : (bad : SessionEnd) → Phase

-- a handshake, with what was agreed on so far
pub record Reader : Type 0 where
  pub terms : Terms
  pub phase : Phase

-- nothing is agreed on yet
abbrev pub opening_reader : Reader
opening_reader = record {
  terms = record { fixed = false; mode = record { no_zeroes = false; structured = false } };
  phase = InFlags [];
}

-- bytes are awaited, or all that follows is refused
abbrev pub CanFeed : Phase → Type 0
CanFeed (Asked w) = ⊥
CanFeed (Over how) = ⊥
CanFeed other = Unit {0}

-- what the client's flags tell
abbrev pub flags_event : ℕ → Option ClientFlags → HandEvent
flags_event flags (Some known) = event.Flags flags
flags_event flags None = event.Bad (BadFlags flags)

-- and the handshake behind them
abbrev pub behind_flags : Terms → ℕ → Option ClientFlags → Reader
behind_flags terms flags (Some known) = record {
  terms = record {
    fixed = known.fixed;
    mode = record {
      no_zeroes = known.no_zeroes;
      structured = terms.mode.structured;
    };
  };
  phase = InOption [];
}
behind_flags terms flags None = record { terms = terms; phase = Stuck (BadFlags flags) }

-- how many bytes of data are read behind a head: none where it is refused
abbrev pub data_size : Option SessionEnd → ℕ → ℕ
data_size (Some bad) size = 0
data_size None size = size

-- how many bytes the option has that begins with these, or what is refused of it; its head's 16 until
-- they are there
abbrev pub option_size : Bool → List ℕ → ℕ
option_size fixed bytes = let h = option_head_of bytes in if nat_lt (length bytes) 16 then 16
    else 16 + data_size (option_fault fixed h) h.length

-- what a whole option tells, or a refused head
abbrev pub event_of : Option SessionEnd → Wish → HandEvent
event_of (Some bad) w = event.Bad bad
event_of None w = event.Wanted (want_of w)

abbrev pub phase_of_option : Option SessionEnd → Wish → Phase
phase_of_option (Some bad) w = Stuck bad
phase_of_option None w = Asked w

-- what an option asks: by its number, and the data behind its head
abbrev pub wish_in : List ℕ → Wish
wish_in bytes = wish_of (option_head_of bytes).number (drop 16 bytes)

abbrev pub option_event : Bool → List ℕ → HandEvent
option_event fixed bytes = event_of (option_fault fixed (option_head_of bytes)) (wish_in bytes)

abbrev pub option_phase : Bool → List ℕ → Phase
option_phase fixed bytes = phase_of_option (option_fault fixed (option_head_of bytes)) (wish_in bytes)

-- What stands at the end of these bytes of the client's flags, and the handshake there.
abbrev pub FlagsTell : Terms → List ℕ → Option HandEvent → Reader → Type 0
FlagsTell terms bytes None new = (length bytes < 4) × (new ≡ record { terms = terms; phase = InFlags bytes })
FlagsTell terms bytes (Some told) new =
    (length bytes ≡ 4) × (told ≡ flags_event (number32 bytes 0) (flags_of (number32 bytes 0)))
    × (new ≡ behind_flags terms (number32 bytes 0) (flags_of (number32 bytes 0)))

-- What stands at the end of these bytes of an option, and the handshake there.
abbrev pub OptionTells : Terms → List ℕ → Option HandEvent → Reader → Type 0
OptionTells terms bytes None new = (length bytes < option_size terms.fixed bytes)
    × (new ≡ record { terms = terms; phase = InOption bytes })
OptionTells terms bytes (Some told) new =
    (length bytes ≡ option_size terms.fixed bytes) × (told ≡ option_event terms.fixed bytes)
    × (new ≡ record { terms = terms; phase = option_phase terms.fixed bytes })

-- A refusal stays: nothing is taken, and it is told again.
abbrev pub StaysStuck : Terms → SessionEnd → List ℕ → Option HandEvent → Reader → Type 0
StaysStuck terms bad bytes told new = (bytes ≡ []) × (told ≡ Some (event.Bad bad))
    × (new ≡ record { terms = terms; phase = Stuck bad })

-- From this phase, these bytes, with this event at their end and none before it, lead to `new`.
-- Without an event, they are less than what leads to one.
abbrev pub Leads : Terms → Phase → List ℕ → Option HandEvent → Reader → Type 0
Leads terms (InFlags held) bytes told new = FlagsTell terms (held ++ bytes) told new
Leads terms (InOption held) bytes told new = OptionTells terms (held ++ bytes) told new
Leads terms (Asked w) bytes told new = ⊥
Leads terms (Over how) bytes told new = ⊥
Leads terms (Stuck bad) bytes told new = StaysStuck terms bad bytes told new

abbrev pub Reaches : Reader → List ℕ → Option HandEvent → Reader → Type 0
Reaches old bytes told new = Leads old.terms old.phase bytes told new

-- how the session ended, where the input ends here
abbrev pub end_at : Phase → SessionEnd
end_at (InFlags []) = Done
end_at (InFlags (byte ∷ held)) = Truncated
end_at (InOption []) = Done
end_at (InOption (byte ∷ held)) = Truncated
end_at (Asked w) = Done
end_at (Over how) = how
end_at (Stuck bad) = bad

-- a refusal came
abbrev pub is_stuck : Phase → Bool
is_stuck (Stuck bad) = true
is_stuck other = false
