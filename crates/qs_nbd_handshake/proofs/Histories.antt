-- What the calls of a handshake tell together, by induction on them.
use Rattle.std.proofs.Common.{◌≡◌, ℕ, ◌+◌, ◌<◌, Bool, List, [], ◌∷◌, ◌++◌, length, replicate, Option, Some, None, refl, ap, sym, ◌∙◌, subst, append_assoc, arith, inl, inr}
use Rattle.std.specs.List.{flat_map}
use Rattle.std.proofs.lemmas.List.{append-nil, replicate_more}
use Rattle.std.proofs.lemmas.List.Elements.{All-append, All-cons, All-nil}
use Rattle.std.proofs.lemmas.Grind.{flat_map-append}
use Rattle.qs_bytes.specs.Numbers.{number32}
use Rattle.qs_status.specs.declared.status.SessionEnd.{SessionEnd}
use Rattle.qs_status.specs.declared.status.SessionEnd.TheVariants.{BadFlags}
use Rattle.qs_nbd_wire.specs.declared.opening.ClientFlags.{ClientFlags}
use Rattle.qs_nbd_wire.specs.Greetings.{flags_of}
use Rattle.qs_nbd_wire.specs.Options.{option_head_of}
use Rattle.qs_nbd_handshake.specs.declared.event.HandEvent.{HandEvent}
use Rattle.qs_nbd_handshake.specs.declared.event.HandEvent.TheVariants as event
use Rattle.qs_nbd_handshake.specs.declared.event.HandStep.{HandStep}
use Rattle.qs_nbd_handshake.specs.declared.event.HandStep.TheVariants.{Stay, Transmit, Close}
use Rattle.qs_nbd_handshake.specs.declared.event.Told.{Told}
use Rattle.qs_nbd_handshake.specs.declared.stage.Terms.{Terms}
use Rattle.qs_nbd_handshake.specs.declared.wish.Wish.{Wish}
use Rattle.qs_nbd_handshake.specs.Answers.{IsBehind, reader_behind, phase_behind, hand_step_of}
use Rattle.qs_nbd_handshake.specs.Phases.{Phase, InFlags, InOption, Asked, Over, Stuck, Reader, Leads, FlagsTell, OptionTells, behind_flags, data_size, event_of, flags_event, option_size, phase_of_option, wish_in, opening_reader}
use Rattle.qs_nbd_handshake.specs.Wishes.{option_fault}
use Rattle.qs_nbd_handshake.specs.Sessions.{HandshakeCall, Took, Answered, CallLeads, CallsLead, taken_by, told_by, IsOption, IsRefused, told_of, sent_bytes, EndsWith, TellsOptions, RefusesFlags, AwaitsFlags, TellsEvents, ReadsSessions}
use Rattle.qs_nbd_handshake.proofs.Sizes.{size-least, size-long}

-- the same options, and more behind them
longer : (old new : Reader) (bytes more : List ℕ) (events further : List HandEvent) → (p : TellsOptions old bytes events) →
    new.terms.fixed ≡ p.known.fixed → EndsWith p.known.fixed new.phase (p.rest ++ more) (p.last ++ further) →
    TellsOptions new (bytes ++ more) (events ++ further)
longer old new bytes more events further p fixed leaves =
    let options = flat_map sent_bytes p.options in
    let told = flat_map told_of p.options in
    record {
      flags = p.flags;
      known = p.known;
      options = p.options;
      rest = p.rest ++ more;
      last = p.last ++ further;
      four = p.four;
      read = p.read;
      fixed = fixed;
      each = p.each;
      taken = ap (λ xs. xs ++ more) p.taken ∙ append_assoc p.flags (options ++ p.rest) more
          ∙ ap (λ xs. p.flags ++ xs) (append_assoc options p.rest more);
      told = ap (λ xs. xs ++ further) p.told
          ∙ ap (λ xs. event.Flags (number32 p.flags 0) ∷ xs) (append_assoc told p.last further);
      leaves = leaves;
    }

-- one option more, and nothing behind it
whole : (old new : Reader) (bytes more all : List ℕ) (events further : List HandEvent) → (p : TellsOptions old bytes events) →
    new.terms.fixed ≡ p.known.fixed → IsOption p.known.fixed all → p.rest ++ more ≡ all → p.last ++ further ≡ told_of all →
    EndsWith p.known.fixed new.phase [] [] → TellsOptions new (bytes ++ more) (events ++ further)
whole old new bytes more all events further p fixed is spelled tells leaves =
    let options = flat_map sent_bytes p.options in
    let told = flat_map told_of p.options in
    let one : List (List ℕ) = all ∷ [] in
    record {
      flags = p.flags;
      known = p.known;
      options = p.options ++ one;
      rest = [];
      last = [];
      four = p.four;
      read = p.read;
      fixed = fixed;
      each = All-append (IsOption p.known.fixed) p.options one p.each (All-cons (IsOption p.known.fixed) all [] is (All-nil (IsOption p.known.fixed)));
      taken = ap (λ xs. xs ++ more) p.taken ∙ append_assoc p.flags (options ++ p.rest) more
          ∙ ap (λ xs. p.flags ++ xs) (append_assoc options p.rest more ∙ ap (λ xs. options ++ xs) (spelled ∙ sym (append-nil all))
          ∙ sym (flat_map-append sent_bytes p.options one) ∙ sym (append-nil (flat_map sent_bytes (p.options ++ one))));
      told = ap (λ xs. xs ++ further) p.told
          ∙ ap (λ xs. event.Flags (number32 p.flags 0) ∷ xs) (append_assoc told p.last further ∙ ap (λ xs. told ++ xs) (tells ∙ sym (append-nil (told_of all)))
          ∙ sym (flat_map-append told_of p.options one) ∙ sym (append-nil (flat_map told_of (p.options ++ one))));
      leaves = leaves;
    }

reader : Terms → Phase → Reader
reader terms phase = record { terms = terms; phase = phase }

-- a refused head has no data
refused_size : (fixed : Bool) (bytes : List ℕ) (bad : SessionEnd) → length bytes ≡ option_size fixed bytes → option_fault fixed (option_head_of bytes) ≡ Some bad → length bytes ≡ 16
refused_size fixed bytes bad e fault =
    e ∙ size-long fixed bytes (omega (arith, e, size-least fixed bytes))
    ∙ ap (λ (o : Option SessionEnd). 16 + data_size o (option_head_of bytes).length) fault

-- the end of an option, or of a head that is refused
ends : (terms : Terms) (held bytes more : List ℕ) (events : List HandEvent) → (p : TellsOptions (reader terms (InOption held)) bytes events) →
    (d : Option SessionEnd) → option_fault p.known.fixed (option_head_of (held ++ more)) ≡ d →
    length (held ++ more) ≡ option_size p.known.fixed (held ++ more) →
    TellsOptions (reader terms (phase_of_option d (wish_in (held ++ more)))) (bytes ++ more) (events ++ event_of d (wish_in (held ++ more)) ∷ [])
unfolding reader
ends terms held bytes more events p None fault size =
    whole (reader terms (InOption held)) (reader terms (Asked (wish_in (held ++ more)))) bytes more (held ++ more) events (told_of (held ++ more)) p p.fixed
    (record { whole = size; served = fault })
    (ap (λ xs. xs ++ more) p.leaves.0) (ap (λ (xs : List HandEvent). xs ++ told_of (held ++ more)) p.leaves.2) (refl, refl)
ends terms held bytes more events p (Some bad) fault size =
    let all = held ++ more in
    let same : p.rest ++ more ≡ all = ap (λ xs. xs ++ more) p.leaves.0 in
    longer (reader terms (InOption held)) (reader terms (Stuck bad)) bytes more events (event.Bad bad ∷ []) p p.fixed (
      subst (λ (xs : List ℕ). IsRefused p.known.fixed xs bad) (sym same)
          (record { whole = refused_size p.known.fixed all bad size fault; fault = fault }),
      (0, ap (λ (xs : List HandEvent). xs ++ event.Bad bad ∷ []) p.leaves.2),
    )

-- bytes of an option that bring no event
more_option : (terms : Terms) (held bytes more : List ℕ) (events : List HandEvent) (new : Reader) → TellsOptions (reader terms (InOption held)) bytes events →
    OptionTells terms (held ++ more) None new → TellsOptions new (bytes ++ more) (events ++ [])
unfolding reader
more_option terms held bytes more events new p r =
    subst (λ (q : Reader). TellsOptions q (bytes ++ more) (events ++ [])) (sym r.1)
    (longer (reader terms (InOption held)) (reader terms (InOption (held ++ more))) bytes more events [] p p.fixed (
      ap (λ xs. xs ++ more) p.leaves.0,
      subst (λ (b : Bool). length (held ++ more) < option_size b (held ++ more)) p.fixed r.0,
      append-nil p.last ∙ p.leaves.2,
    ))

all_option : (terms : Terms) (held bytes more : List ℕ) (events : List HandEvent) (told : HandEvent) (new : Reader) → TellsOptions (reader terms (InOption held)) bytes events →
    OptionTells terms (held ++ more) (Some told) new → TellsOptions new (bytes ++ more) (events ++ told ∷ [])
unfolding reader
all_option terms held bytes more events told new p r =
    let all = held ++ more in
    let size : length all ≡ option_size p.known.fixed all = subst (λ (b : Bool). length all ≡ option_size b all) p.fixed r.0 in
    let tells : told ≡ event_of (option_fault p.known.fixed (option_head_of all)) (wish_in all) =
    r.1 ∙ ap (λ (b : Bool). event_of (option_fault b (option_head_of all)) (wish_in all)) p.fixed in
    let behind : new ≡ reader terms (phase_of_option (option_fault p.known.fixed (option_head_of all)) (wish_in all)) =
    r.2 ∙ ap (λ (b : Bool). reader terms (phase_of_option (option_fault b (option_head_of all)) (wish_in all))) p.fixed in
    subst (λ (q : Reader). TellsOptions q (bytes ++ more) (events ++ told ∷ [])) (sym behind)
    (subst (λ (e : HandEvent). TellsOptions (reader terms (phase_of_option (option_fault p.known.fixed (option_head_of all)) (wish_in all))) (bytes ++ more) (events ++ e ∷ [])) (sym tells)
    (ends terms held bytes more events p (option_fault p.known.fixed (option_head_of all)) refl size))

-- what is behind an answer
behind_step : (fixed : Bool) (s : HandStep) → EndsWith fixed (phase_behind s) [] []
behind_step fixed Stay = (refl, omega (arith, size-least fixed []), refl)
behind_step fixed (Transmit mode) = (refl, refl)
behind_step fixed (Close how) = (refl, refl)

answers : (terms : Terms) (w : Wish) (t : Told) (bytes : List ℕ) (events : List HandEvent) (new : Reader) → TellsOptions (reader terms (Asked w)) bytes events →
    new ≡ reader_behind terms w t → TellsOptions new (bytes ++ []) (events ++ [])
unfolding reader
answers terms w t bytes events new p r =
    let s = hand_step_of terms.mode w t in
    subst (λ (q : Reader). TellsOptions q (bytes ++ []) (events ++ [])) (sym r)
    (longer (reader terms (Asked w)) (reader_behind terms w t) bytes [] events [] p p.fixed
    (subst (λ (xs : List ℕ). EndsWith p.known.fixed (phase_behind s) xs (p.last ++ [])) (sym p.leaves.0 ∙ sym (append-nil p.rest))
    (subst (λ (xs : List HandEvent). EndsWith p.known.fixed (phase_behind s) [] xs) (sym p.leaves.1 ∙ sym (append-nil p.last)) (behind_step p.known.fixed s))))

again : (terms : Terms) (bad : SessionEnd) (bytes more : List ℕ) (events : List HandEvent) (told : HandEvent) (new : Reader) → TellsOptions (reader terms (Stuck bad)) bytes events →
    more ≡ [] → told ≡ event.Bad bad → new ≡ reader terms (Stuck bad) → TellsOptions new (bytes ++ more) (events ++ told ∷ [])
unfolding reader
again terms bad bytes more events told new p none same r =
    let n = p.leaves.1.0 in
    subst (λ (q : Reader). TellsOptions q (bytes ++ more) (events ++ told ∷ [])) (sym r)
    (longer (reader terms (Stuck bad)) (reader terms (Stuck bad)) bytes more events (told ∷ []) p p.fixed (
      subst (λ (xs : List ℕ). IsRefused p.known.fixed xs bad) (sym (append-nil p.rest) ∙ ap (λ xs. p.rest ++ xs) (sym none)) p.leaves.0,
      (n + 1, ap (λ (xs : List HandEvent). xs ++ told ∷ []) p.leaves.1.1 ∙ ap (λ (k : HandEvent). replicate (n + 1) (event.Bad bad) ++ k ∷ []) same ∙ replicate_more (n + 1) (event.Bad bad)),
    ))

some_of : (told other : HandEvent) → Some told ≡ Some other → told ≡ other
some_of told other e = cc

on_options : (terms : Terms) (phase : Phase) (new : Reader) (bytes : List ℕ) (events : List HandEvent) (call : HandshakeCall) → TellsOptions (reader terms phase) bytes events →
    CallLeads (reader terms phase) call new → TellsOptions new (bytes ++ taken_by call) (events ++ told_by call)
unfolding reader
on_options terms (InFlags held) new bytes events call p r = absurd p.leaves
on_options terms (InOption held) new bytes events (Took more None) p r = more_option terms held bytes more events new p r
on_options terms (InOption held) new bytes events (Took more (Some told)) p r = all_option terms held bytes more events told new p r
on_options terms (InOption held) new bytes events (Answered t) p r = absurd r.0
on_options terms (Asked w) new bytes events (Took more told) p r = absurd r
on_options terms (Asked w) new bytes events (Answered t) p r = answers terms w t bytes events new p r.1
on_options terms (Over how) new bytes events (Took more told) p r = absurd r
on_options terms (Over how) new bytes events (Answered t) p r = absurd r.0
on_options terms (Stuck bad) new bytes events (Took more None) p r = let e = r.1 in absurd (cc)
on_options terms (Stuck bad) new bytes events (Took more (Some told)) p r = again terms bad bytes more events told new p r.0 (some_of told (event.Bad bad) r.1) r.2
on_options terms (Stuck bad) new bytes events (Answered t) p r = absurd r.0

-- the whole flags, by what they say
flags_end : (terms : Terms) (bytes : List ℕ) (events : List HandEvent) → events ≡ [] → (d : Option ClientFlags) → flags_of (number32 bytes 0) ≡ d → length bytes ≡ 4 →
    TellsEvents (behind_flags terms (number32 bytes 0) d) bytes (events ++ flags_event (number32 bytes 0) d ∷ [])
flags_end terms bytes events none (Some known) e four = inr (inr (record {
  flags = bytes;
  known = known;
  options = [];
  rest = [];
  last = [];
  four = four;
  read = e;
  fixed = refl;
  each = All-nil (IsOption known.fixed);
  taken = sym (append-nil bytes);
  told = ap (λ (xs : List HandEvent). xs ++ event.Flags (number32 bytes 0) ∷ []) none;
  leaves = (refl, omega (arith, size-least known.fixed []), refl);
}))
flags_end terms bytes events none None e four = inr (inl (record {
  four = four;
  unknown = e;
  stuck = refl;
  told = (0, ap (λ (xs : List HandEvent). xs ++ event.Bad (BadFlags (number32 bytes 0)) ∷ []) none);
}))

on_flags : (terms : Terms) (bytes more : List ℕ) (events : List HandEvent) (told : Option HandEvent) (new : Reader) → length bytes < 4 → events ≡ [] →
    FlagsTell terms (bytes ++ more) told new → TellsEvents new (bytes ++ more) (events ++ told_by (Took more told))
on_flags terms bytes more events None new short none r =
    subst (λ (q : Reader). TellsEvents q (bytes ++ more) (events ++ [])) (sym r.1)
    (inl (record { short = r.0; awaits = refl; none = append-nil events ∙ none }))
on_flags terms bytes more events (Some told) new short none r =
    let flags = number32 (bytes ++ more) 0 in
    subst (λ (q : Reader). TellsEvents q (bytes ++ more) (events ++ told ∷ [])) (sym r.2)
    (subst (λ (e : HandEvent). TellsEvents (behind_flags terms flags (flags_of flags)) (bytes ++ more) (events ++ e ∷ [])) (sym r.1)
    (flags_end terms (bytes ++ more) events none (flags_of flags) refl r.0))

awaiting : (old new : Reader) (bytes : List ℕ) (events : List HandEvent) (call : HandshakeCall) → AwaitsFlags old bytes events → CallLeads old call new → TellsEvents new (bytes ++ taken_by call) (events ++ told_by call)
awaiting old new bytes events (Took more told) p r =
    on_flags old.terms bytes more events told new p.short p.none (subst (λ (q : Phase). Leads old.terms q more told new) p.awaits r)
awaiting old new bytes events (Answered t) p r = absurd (subst (λ (q : Phase). IsBehind old.terms q t new) p.awaits r.1)

refusing : (old new : Reader) (bytes : List ℕ) (events : List HandEvent) (call : HandshakeCall) → RefusesFlags old bytes events → CallLeads old call new → TellsEvents new (bytes ++ taken_by call) (events ++ told_by call)
refusing old new bytes events (Took more None) p r =
    let s = subst (λ (q : Phase). Leads old.terms q more None new) p.stuck r in
    let e = s.1 in absurd (cc)
refusing old new bytes events (Took more (Some told)) p r =
    let s = subst (λ (q : Phase). Leads old.terms q more (Some told) new) p.stuck r in
    let n = p.told.0 in
    let bad = BadFlags (number32 bytes 0) in
    let same : bytes ++ more ≡ bytes = ap (λ xs. bytes ++ xs) s.0 ∙ append-nil bytes in
    subst (λ (xs : List ℕ). TellsEvents new xs (events ++ told ∷ [])) (sym same) (inr (inl (record {
      four = p.four;
      unknown = p.unknown;
      stuck = ap (λ (q : Reader). q.phase) s.2;
      told = (n + 1, ap (λ (xs : List HandEvent). xs ++ told ∷ []) p.told.1 ∙ ap (λ (k : HandEvent). replicate (n + 1) (event.Bad bad) ++ k ∷ []) (some_of told (event.Bad bad) s.1) ∙ replicate_more (n + 1) (event.Bad bad));
    })))
refusing old new bytes events (Answered t) p r = absurd (subst (λ (q : Phase). IsBehind old.terms q t new) p.stuck r.1)

step : (old new : Reader) (bytes : List ℕ) (events : List HandEvent) (call : HandshakeCall) → TellsEvents old bytes events → CallLeads old call new → TellsEvents new (bytes ++ taken_by call) (events ++ told_by call)
unfolding reader
step old new bytes events call (inl p) r = awaiting old new bytes events call p r
step old new bytes events call (inr (inl p)) r = refusing old new bytes events call p r
step old new bytes events call (inr (inr p)) r = inr (inr (on_options old.terms old.phase new bytes events call p r))

run : (old new : Reader) (bytes : List ℕ) (events : List HandEvent) (calls : List HandshakeCall) → TellsEvents old bytes events → CallsLead old calls new → TellsEvents new (bytes ++ flat_map taken_by calls) (events ++ flat_map told_by calls)
run old new bytes events [] p r =
    rw (append-nil bytes, append-nil events) (subst (λ (q : Reader). TellsEvents q bytes events) (sym r) p)
run old new bytes events (call ∷ calls) p r =
    rw (← append_assoc bytes (taken_by call) (flat_map taken_by calls), ← append_assoc events (told_by call) (flat_map told_by calls))
    (run r.0 new (bytes ++ taken_by call) (events ++ told_by call) calls (step old r.0 bytes events call p r.1.0) r.1.1)

pub reads_sessions : ReadsSessions
reads_sessions calls new r = run opening_reader new [] [] calls (inl (record { short = omega arith; awaits = refl; none = refl })) r
