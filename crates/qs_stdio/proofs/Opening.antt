-- A valid session is opened, unless memory is refused: requests follow its handshake.
use Rattle.std.proofs.Common.{◌≡◌, ℕ, ◌^◌, inl, inr, Bool, List, ◌++◌, length, sym, ap, ◌∙◌, subst, append_assoc, arith}
use Rattle.std.proofs.lemmas.Option.{none-some}
use Rattle.std.specs.Prelude.{Result, Ok}
use Rattle.std.specs.List.{flat_map}
use Rattle.std.proofs.lemmas.List.{length-append}
use Rattle.qs_bytes.specs.Numbers.{number32}
use Rattle.qs_bytes.specs.declared.ask.Mode.{Mode}
use Rattle.qs_status.specs.declared.status.Status.{Status}
use Rattle.qs_status.specs.declared.status.Status.TheVariants as status
use Rattle.qs_outside.specs.Blocks.{Seen}
use Rattle.qs_nbd_wire.specs.Greetings.{flags_of}
use Rattle.qs_nbd_handshake.specs.Sessions.{sent_bytes}
use Rattle.qs_nbd_handshake.specs.declared.stage.Terms.{Terms}
use Rattle.qs_nbd_handshake.proofs.Reading.{same_front}
use Rattle.qs_stream.specs.Flows.{Flow}
use Rattle.qs_world.specs.Values.{WorldValue}
use Rattle.qs_calls.specs.Runs.{Begins}
use Rattle.qs_opening.specs.declared.turn.Opened.{Opened}
use Rattle.qs_opening.specs.declared.turn.Opened.TheVariants.{Transmit, Ends as Ended}
use Rattle.qs_opening.specs.Openings.{Agrees, LacksFlags, OpensSession, terms_of}
use Rattle.qs_opening.specs.Options.{terms_after}
use Rattle.qs_opening.specs.Turns.{Concludes, status_at}
use Rattle.qs_stdio.specs.Sessions.{IsValidSession}
use Rattle.qs_stdio.proofs.Awaiting.{Awaits, Split, split, used_up}
use Rattle.qs_stdio.proofs.Handshaking.{never_transmits}
use Rattle.qs_stdio.proofs.Meaning.{stays, transmits}
use Rattle.qs_stdio.proofs.Welcoming.{Next, never_closes, next_long, next_of, next_served, requests_follow}

told_one : (a b : Status) → Ended a ≡ Ended b → a ≡ b
told_one a b e = cc

module _ {D : Type 0} (seen : D → Seen) (disks : List D) (read_only : Bool) (session : ℕ) (writable : Bool) (before : Flow) (old : WorldValue D) (after : Flow) (new : WorldValue D)
    (begins : Begins seen disks read_only old) (stream : List ℕ) (awaits : Awaits stream before) (valid : IsValidSession stream) where
  -- what is to come behind its options
  record Rests (options : List (List ℕ)) (terms : Terms) (rest : List ℕ) : Type 0 where
    remaining : List ℕ
    left : Awaits remaining after
    next : Next terms.fixed (length options) (length valid.options) valid.requests (rest ++ remaining)

  rests_of : {E : Type 0} (result : Result Opened E) (agrees : Agrees {E = E} seen session writable (2 ^ 32) before old result after new) →
      Rests agrees.options (terms_after (terms_of agrees.known) agrees.options) agrees.rest
  rests_of result agrees =
      let options : List ℕ = flat_map sent_bytes agrees.options in
      let s : Split stream (agrees.flags ++ (options ++ agrees.rest)) after = split stream (agrees.flags ++ (options ++ agrees.rest)) _ before after awaits agrees.moved in
      record {
        remaining = s.remaining;
        left = s.awaits;
        next = next_of old.graph (transmits seen disks read_only old begins) (stays seen disks read_only old begins) stream agrees.flags agrees.known agrees.options
            (agrees.rest ++ s.remaining) valid agrees.four agrees.read agrees.stay
            (s.whole ∙ append_assoc agrees.flags (options ++ agrees.rest) s.remaining ∙ ap (λ (xs : List ℕ). agrees.flags ++ xs) (append_assoc options agrees.rest s.remaining));
      }

  -- not all options are spent
  unspent : (options : List (List ℕ)) (terms : Terms) (rest : List ℕ) → Rests options terms rest → length options ≡ 2 ^ 32 → ⊥
  unspent options terms rest rests all = omega (arith, rests.next.few, valid.few, all)

  -- its flags come, and are known
  flags_come : (taken : List ℕ) (told : Status) → Split stream taken after → LacksFlags {E = Unit {0}} taken (Ok told) after → ⊥
  flags_come taken told s (inl cut) =
      omega (
        arith,
        cut.1,
        valid.four,
        ap length (used_up s.remaining after s.awaits cut.2),
        ap length (sym s.whole ∙ valid.whole),
        length-append taken s.remaining,
        length-append valid.flags (flat_map sent_bytes valid.options ++ (valid.final ++ valid.requests)),
      )
  flags_come taken told s (inr bad) =
      let same : taken ≡ valid.flags = same_front taken valid.flags s.remaining _ (bad.1 ∙ sym valid.four) (sym s.whole ∙ valid.whole) in
      none-some valid.known (sym bad.2 ∙ ap (λ (xs : List ℕ). flags_of (number32 xs 0)) same ∙ valid.read)

  module _ (options : List (List ℕ)) (terms : Terms) (rest given : List ℕ) (rests : Rests options terms rest) where
    -- behind its options the session ends for want of memory alone
    concludes_memory : (told : Status) → Concludes seen session writable terms old (Ended told) rest given after new → told ≡ status.Memory
    concludes_memory told (inl follows) = absurd (never_transmits told follows.mode follows.opened_is)
    concludes_memory told (inr (inl closes)) =
        absurd (never_closes old.graph (transmits seen disks read_only old begins) (stays seen disks read_only old begins) terms closes.how (length options) (length valid.options) valid.requests
        rest rests.remaining rests.next closes.option closes.step)
    concludes_memory told (inr (inr (inl starves))) = told_one told status.Memory starves.opened_is
    concludes_memory told (inr (inr (inr stops))) = absurd (elim stops.cause [
      | inl cut ↦ next_long terms.fixed (length options) (length valid.options) valid.requests rest rests.remaining rests.next cut.short (used_up rests.remaining after rests.left cut.used_up)
      | inr bad ↦ next_served terms.fixed (length options) (length valid.options) valid.requests rest rests.remaining bad.bad rests.next bad.refused
    ])

    -- or its requests are to come
    concludes_requests : (mode : Mode) → Concludes seen session writable terms old (Transmit mode) rest given after new → Awaits valid.requests after
    concludes_requests mode (inl follows) =
        subst (λ (xs : List ℕ). Awaits xs after)
        (requests_follow old.graph (transmits seen disks read_only old begins) (stays seen disks read_only old begins) terms follows.mode (length options) (length valid.options) valid.requests
        rest rests.remaining rests.next follows.option follows.step) rests.left
    concludes_requests mode (inr (inl closes)) = absurd (never_transmits (status_at closes.how) mode (sym closes.opened_is))
    concludes_requests mode (inr (inr (inl starves))) = absurd (never_transmits status.Memory mode (sym starves.opened_is))
    concludes_requests mode (inr (inr (inr stops))) = absurd (never_transmits stops.status mode (sym stops.opened_is))

  -- the handshake ends the session for want of memory alone
  pub ends_memory : {E : Type 0} (told : Status) → OpensSession {E = E} seen session writable (2 ^ 32) before old (Ok (Ended told)) after new → told ≡ status.Memory
  ends_memory {E} told (inl agrees) =
      let rests = rests_of {E = E} (Ok (Ended told)) agrees in
      elim agrees.finishes [
        | inl concludes ↦ concludes_memory agrees.options (terms_after (terms_of agrees.known) agrees.options) agrees.rest agrees.given rests told concludes
        | inr spends ↦ absurd (unspent agrees.options (terms_after (terms_of agrees.known) agrees.options) agrees.rest rests spends.all)
      ]
  ends_memory told (inr (inl greets)) =
      let (given, (opened_is, lacks)) = greets.fruitless in
      absurd (flags_come greets.taken given (split stream greets.taken _ before after awaits greets.moved) lacks)
  ends_memory {E} told (inr (inr forgoes)) = one forgoes.result_is
    where
      one : ◌≡◌ {A = Result Opened E} (Ok (Ended told)) (Ok (Ended status.Memory)) → told ≡ status.Memory
      one e = cc

  -- where requests follow, those of the session are to come
  pub requests_come : {E : Type 0} (mode : Mode) → OpensSession {E = E} seen session writable (2 ^ 32) before old (Ok (Transmit mode)) after new → Awaits valid.requests after
  requests_come {E} mode (inl agrees) = elim agrees.finishes [
    | inl concludes ↦ concludes_requests agrees.options (terms_after (terms_of agrees.known) agrees.options) agrees.rest agrees.given (rests_of {E = E} (Ok (Transmit mode)) agrees) mode concludes
    | inr spends ↦ absurd (never_transmits status.Spent mode (sym spends.opened_is))
  ]
  requests_come mode (inr (inl greets)) = let (given, (opened_is, lacks)) = greets.fruitless in absurd (never_transmits given mode (sym opened_is))
  requests_come {E} mode (inr (inr forgoes)) = absurd (never forgoes.result_is)
    where
      never : ◌≡◌ {A = Result Opened E} (Ok (Transmit mode)) (Ok (Ended status.Memory)) → ⊥
      never e = cc
