-- What a handshake waits for behind an event, and behind an answer.
use Rattle.std.proofs.Common.{◌≡◌, ℕ, List, ◌++◌, Option, Some, None, sym, ap, subst}
use Rattle.qs_status.specs.declared.status.SessionEnd.{SessionEnd}
use Rattle.qs_bytes.specs.Numbers.{number32}
use Rattle.qs_nbd_wire.specs.declared.opening.ClientFlags.{ClientFlags}
use Rattle.qs_nbd_wire.specs.Greetings.{flags_of}
use Rattle.qs_nbd_wire.specs.Options.{option_head_of}
use Rattle.qs_nbd_handshake.specs.declared.event.HandEvent.{HandEvent}
use Rattle.qs_nbd_handshake.specs.declared.event.HandEvent.TheVariants as event
use Rattle.qs_nbd_handshake.specs.declared.event.HandStep.{HandStep}
use Rattle.qs_nbd_handshake.specs.declared.event.HandStep.TheVariants.{Stay}
use Rattle.qs_nbd_handshake.specs.declared.event.Told.{Told}
use Rattle.qs_nbd_handshake.specs.declared.event.Want.{Want}
use Rattle.qs_nbd_handshake.specs.declared.event.Want.TheVariants.{Nothing}
use Rattle.qs_nbd_handshake.specs.declared.stage.Terms.{Terms}
use Rattle.qs_nbd_handshake.specs.declared.wish.Wish.{Wish}
use Rattle.qs_nbd_handshake.specs.Answers.{CanTell, CanAnswer, IsStep, IsBehind, phase_behind}
use Rattle.qs_nbd_handshake.specs.Phases.{Phase, InFlags, InOption, Asked, Over, Stuck, Reader, CanFeed, Leads, behind_flags, flags_event, event_of, phase_of_option, wish_in}
use Rattle.qs_nbd_handshake.specs.Wishes.{option_fault}
use Rattle.qs_nbd_handshake.specs.Laws.{GoesOn}

-- what an event wants
want_in : HandEvent → Want
want_in (event.Wanted w) = w
want_in other = Nothing

-- an event that wants something is no event of flags
no_want : (flags : ℕ) (known : Option ClientFlags) (w : Want) → event.Wanted w ≡ flags_event flags known → ⊥
no_want flags (Some known) w e = cc
no_want flags None w e = cc

-- an option that wants this can be told what one may be told who wants this
option_waits : (fault : Option SessionEnd) (wish : Wish) (w : Want) (t : Told) → event.Wanted w ≡ event_of fault wish → CanTell w t → CanAnswer (phase_of_option fault wish) t
unfolding want_in
option_waits (Some bad) wish w t e can = absurd (cc)
option_waits None wish w t e can = subst (λ (x : Want). CanTell x t) (ap want_in e) can

waits : (terms : Terms) (phase : Phase) (bytes : List ℕ) (w : Want) (new : Reader) (t : Told) →
    Leads terms phase bytes (Some (event.Wanted w)) new → CanTell w t → CanAnswer new.phase t
waits terms (InFlags held) bytes w new t p can =
    absurd (no_want (number32 (held ++ bytes) 0) (flags_of (number32 (held ++ bytes) 0)) w p.1)
waits terms (InOption held) bytes w new t p can =
    let all = held ++ bytes in
    subst (λ (r : Reader). CanAnswer r.phase t) (sym p.2)
    (option_waits (option_fault terms.fixed (option_head_of all)) (wish_in all) w t p.1 can)
waits terms (Asked a) bytes w new t p can = absurd p
waits terms (Over how) bytes w new t p can = absurd p
waits terms (Stuck bad) bytes w new t p can = let e = p.1 in absurd (cc)

-- behind flags that are told, an option is awaited
flags_feed : (terms : Terms) (flags told : ℕ) (known : Option ClientFlags) → event.Flags told ≡ flags_event flags known → CanFeed (behind_flags terms flags known).phase
flags_feed terms flags told (Some known) e = tt
flags_feed terms flags told None e = tt

no_flags : (fault : Option SessionEnd) (wish : Wish) (told : ℕ) → event.Flags told ≡ event_of fault wish → ⊥
no_flags (Some bad) wish told e = cc
no_flags None wish told e = cc

after_flags : (terms : Terms) (phase : Phase) (bytes : List ℕ) (flags : ℕ) (new : Reader) → Leads terms phase bytes (Some (event.Flags flags)) new → CanFeed new.phase
after_flags terms (InFlags held) bytes flags new p =
    let n = number32 (held ++ bytes) 0 in
    subst (λ (r : Reader). CanFeed r.phase) (sym p.2) (flags_feed terms n flags (flags_of n) p.1)
after_flags terms (InOption held) bytes flags new p =
    let all = held ++ bytes in
    absurd (no_flags (option_fault terms.fixed (option_head_of all)) (wish_in all) flags p.1)
after_flags terms (Asked a) bytes flags new p = absurd p
after_flags terms (Over how) bytes flags new p = absurd p
after_flags terms (Stuck bad) bytes flags new p = let e = p.1 in absurd (cc)

after_none : (terms : Terms) (phase : Phase) (bytes : List ℕ) (new : Reader) → Leads terms phase bytes None new → CanFeed new.phase
after_none terms (InFlags held) bytes new p = subst (λ (r : Reader). CanFeed r.phase) (sym p.1) tt
after_none terms (InOption held) bytes new p = subst (λ (r : Reader). CanFeed r.phase) (sym p.1) tt
after_none terms (Asked a) bytes new p = absurd p
after_none terms (Over how) bytes new p = absurd p
after_none terms (Stuck bad) bytes new p = let e = p.1 in absurd (cc)

after_answer : (terms : Terms) (phase : Phase) (t : Told) (new : Reader) → IsStep terms.mode phase t Stay → IsBehind terms phase t new → CanFeed new.phase
after_answer terms (Asked w) t new p q =
    subst (λ (r : Reader). CanFeed r.phase) (sym q) (subst (λ (s : HandStep). CanFeed (phase_behind s)) p tt)
after_answer terms (InFlags held) t new p q = absurd p
after_answer terms (InOption held) t new p q = absurd p
after_answer terms (Over how) t new p q = absurd p
after_answer terms (Stuck bad) t new p q = absurd p

pub goes_on : GoesOn
goes_on = record {
  none = λ old new bytes p. after_none old.terms old.phase bytes new p;
  flags = λ old new bytes flags p. after_flags old.terms old.phase bytes flags new p;
  wanted = λ old new bytes w t p can. waits old.terms old.phase bytes w new t p can;
  stays = after_answer;
}
