-- What an event tells of the option that led to it.
use Rattle.std.proofs.Common.{◌≡◌, ℕ, ◌+◌, inr, Bool, true, false, List, [], length, refl, ap, ◌∙◌, subst}
use Rattle.std.specs.Prelude.{Option, None, Some, Ok, nat_lt, if◌then◌else◌}
use Rattle.qs_status.specs.declared.status.SessionEnd.{SessionEnd}
use Rattle.qs_status.specs.declared.status.Status.TheVariants.{Ended}
use Rattle.qs_nbd_wire.specs.Options.{option_head_of}
use Rattle.qs_nbd_handshake.specs.declared.event.HandEvent.{HandEvent}
use Rattle.qs_nbd_handshake.specs.declared.event.HandEvent.TheVariants as event
use Rattle.qs_nbd_handshake.specs.declared.event.Want.{Want}
use Rattle.qs_nbd_handshake.specs.declared.stage.Terms.{Terms}
use Rattle.qs_nbd_handshake.specs.declared.wish.Wish.{Wish}
use Rattle.qs_nbd_handshake.specs.Phases.{Phase, Reader, InOption, Leads, OptionTells, data_size, event_of, option_size, phase_of_option, wish_in}
use Rattle.qs_nbd_handshake.specs.Wishes.{option_fault, want_of}
use Rattle.qs_stream.specs.Flows.{Flow}
use Rattle.qs_opening.specs.declared.turn.Came.TheVariants as came
use Rattle.qs_opening.specs.Events.{Finds, Seeks}
use Rattle.qs_opening.specs.Turns.{Asking, IsAsked, IsBad}

wanted_of : (fault : Option SessionEnd) (w : Wish) (wanted : Want) → event.Wanted wanted ≡ event_of fault w → (fault ≡ None) × (wanted ≡ want_of w)
wanted_of (Some bad) w wanted is = absurd (cc)
wanted_of None w wanted is = (refl, cc)

bad_of : (fault : Option SessionEnd) (w : Wish) (bad : SessionEnd) → event.Bad bad ≡ event_of fault w → fault ≡ Some bad
bad_of (Some found) w bad is = cc
bad_of None w bad is = absurd (cc)

size_by : (short : Bool) (fault : Option SessionEnd) (n : ℕ) (bad : SessionEnd) → fault ≡ Some bad → (if short then 16 else 16 + data_size fault n) ≡ 16
size_by true fault n bad is = refl
size_by false (Some found) n bad is = refl
size_by false None n bad is = absurd (cc)

size_refused : (fixed : Bool) (bytes : List ℕ) (bad : SessionEnd) → option_fault fixed (option_head_of bytes) ≡ Some bad → option_size fixed bytes ≡ 16
size_refused fixed bytes bad is = size_by (nat_lt (length bytes) 16) (option_fault fixed (option_head_of bytes)) ((option_head_of bytes).length) bad is

-- a whole option, in an event
option_came : (terms : Terms) (taken : List ℕ) (wanted : Want) (new : Reader) → OptionTells terms taken (Some (event.Wanted wanted)) new →
    IsAsked terms taken new × (wanted ≡ want_of (wish_in taken))
option_came terms taken wanted new tells =
    let is = wanted_of (option_fault terms.fixed (option_head_of taken)) (wish_in taken) wanted tells.1 in (
      record {
        option = record { whole = tells.0; served = is.0 };
        reader = tells.2 ∙ ap (λ (f : Option SessionEnd). record { terms = terms; phase = phase_of_option f (wish_in taken) }) is.0;
      },
      is.1,
    )

-- a refused head, in an event
refused_came : (terms : Terms) (taken : List ℕ) (bad : SessionEnd) (new : Reader) → OptionTells terms taken (Some (event.Bad bad)) new → IsBad terms.fixed (Ended bad) taken
refused_came terms taken bad new tells =
    let is = bad_of (option_fault terms.fixed (option_head_of taken)) (wish_in taken) bad tells.1 in
    record { bad = bad; status_is = refl; refused = record { whole = tells.0 ∙ size_refused terms.fixed taken bad is; fault = is } }

module _ {E : Type 0} (old new : Reader) (before after : Flow) (told : Option HandEvent) (awaits : old.phase ≡ InOption []) (seeks : Seeks {E = E} old before (Ok told) new after) where
  -- what stands at the end of what was taken
  tells : (found : HandEvent) → told ≡ Some found → OptionTells old.terms seeks.taken (Some found) new
  tells found is =
      subst (λ (p : Phase). Leads old.terms p seeks.taken (Some found) new) awaits
      (subst (λ (t : Option HandEvent). Finds {E = E} old seeks.taken (Ok t) new after) is seeks.finds)

  pub asks : {F : Type 0} (wanted : Want) → told ≡ Some (event.Wanted wanted) → Asking {E = F} old.terms before (Ok (came.Asked wanted)) new after
  asks wanted is = record { taken = seeks.taken; moved = seeks.moved; comes = option_came old.terms seeks.taken wanted new (tells (event.Wanted wanted) is) }

  pub asks_bad : {F : Type 0} (bad : SessionEnd) → told ≡ Some (event.Bad bad) → Asking {E = F} old.terms before (Ok (came.Ended (Ended bad))) new after
  asks_bad bad is = record { taken = seeks.taken; moved = seeks.moved; comes = inr (refused_came old.terms seeks.taken bad new (tells (event.Bad bad) is)) }
