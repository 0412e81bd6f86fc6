-- The calls of a handshake, by what was read in it.
use Rattle.std.proofs.Common.{◌≡◌, ℕ, ◌+◌, ◌<◌, ◌⊎◌, inl, inr, Bool, List, [], ◌∷◌, ◌++◌, length, refl, sym, ap, ◌∙◌, subst, arith, append-nil}
use Rattle.std.specs.Prelude.{Option, None, Some, Result, Ok, Err}
use Rattle.std.specs.List.{flat_map}
use Rattle.qs_bytes.specs.Numbers.{number32}
use Rattle.qs_status.specs.declared.status.SessionEnd.{SessionEnd}
use Rattle.qs_outside.specs.Blocks.{Seen}
use Rattle.qs_outside.specs.declared.stream.Failed.{Failed}
use Rattle.qs_part.specs.declared.graph.ExportInfo.{ExportInfo}
use Rattle.qs_graph.specs.Readings.{info_of}
use Rattle.qs_graph.specs.Table.{GraphValue}
use Rattle.qs_nbd_wire.specs.declared.opening.ClientFlags.{ClientFlags}
use Rattle.qs_nbd_wire.specs.Greetings.{flags_of}
use Rattle.qs_nbd_wire.specs.Options.{option_head_of}
use Rattle.qs_nbd_handshake.specs.declared.event.HandEvent.TheVariants as event
use Rattle.qs_nbd_handshake.specs.declared.event.HandStep.{HandStep}
use Rattle.qs_nbd_handshake.specs.declared.event.HandStep.TheVariants.{Stay}
use Rattle.qs_nbd_handshake.specs.declared.event.Want.{Want}
use Rattle.qs_nbd_handshake.specs.declared.event.Want.TheVariants as want
use Rattle.qs_nbd_handshake.specs.declared.stage.Terms.{Terms}
use Rattle.qs_nbd_handshake.specs.Answers.{CanFind, CanTell, phase_behind, reader_behind}
use Rattle.qs_nbd_handshake.specs.Phases.{Reader, InOption, Asked, Stuck, behind_flags, data_size, event_of, flags_event, opening_reader, option_size, phase_of_option, wish_in}
use Rattle.qs_nbd_handshake.specs.Sessions.{HandshakeCall, Took, CallLeads, CallsLead, IsOption, IsRefused, taken_by}
use Rattle.qs_nbd_handshake.specs.Wishes.{want_of}
use Rattle.qs_nbd_handshake.proofs.Sizes.{size-long, size-least}
use Rattle.qs_stream.specs.Flows.{Flow}
use Rattle.qs_world.specs.Values.{WorldValue}
use Rattle.qs_opening.specs.declared.turn.Opened.{Opened}
use Rattle.qs_opening.specs.Openings.{FinishesOpening, terms_of}
use Rattle.qs_opening.specs.Options.{AllStay, step_for, terms_after, terms_behind, told_for}
use Rattle.qs_opening.specs.Reading.{ReadsHandshakes, flags_call, option_calls}
use Rattle.qs_opening.specs.Telling.{told_info, graph_told}
use Rattle.qs_opening.specs.Turns.{Concludes}

-- calls lead on
joined : (a b c : Reader) (xs ys : List HandshakeCall) → CallsLead a xs b → CallsLead b ys c → CallsLead a (xs ++ ys) c
joined a b c [] ys p q = subst (λ (r : Reader). CallsLead r ys c) p q
joined a b c (x ∷ xs) ys p q = (p.0, (p.1.0, joined p.0 b c xs ys p.1.1 q))

-- what the exports tell may be told
can_find : (name : List ℕ) (known : Option ExportInfo) → CanFind (Some name) (told_info known)
can_find name (Some info) = tt
can_find name None = tt

can_tell : (graph : GraphValue) (w : Want) → CanTell w (graph_told graph w)
can_tell graph want.Nothing = tt
can_tell graph (want.Find None) = tt
can_tell graph (want.Find (Some name)) = can_find name (info_of graph name)
can_tell graph (want.Attach None) = tt
can_tell graph (want.Attach (Some name)) = go (info_of graph name)
  where
    go : (known : Option ExportInfo) → CanTell (want.Attach (Some name)) (told_info known)
    go (Some info) = tt
    go None = tt
can_tell graph want.Names = tt

-- an option is awaited
abbrev between : Terms → Reader
between terms = record { terms = terms; phase = InOption [] }

abbrev asked : Terms → List ℕ → Reader
asked terms option = record { terms = terms; phase = Asked (wish_in option) }

-- an option came
option_leads : (terms : Terms) (option : List ℕ) → IsOption terms.fixed option →
    CallLeads (between terms) (Took option (Some (event.Wanted (want_of (wish_in option))))) (asked terms option)
option_leads terms option is = (
  is.whole,
  ap (λ (d : Option SessionEnd). event_of d (wish_in option)) (sym is.served),
  ap (λ (d : Option SessionEnd). record { terms = terms; phase = phase_of_option d (wish_in option) }) (sym is.served),
)

-- and was answered, and options go on
turn_leads : (graph : GraphValue) (terms : Terms) (option : List ℕ) → IsOption terms.fixed option → step_for graph terms option ≡ Stay →
    CallsLead (between terms) (option_calls graph option) (between (terms_behind terms option))
turn_leads graph terms option is stay = (
  asked terms option,
  (
    option_leads terms option is,
    (
      reader_behind terms (wish_in option) (told_for graph option),
      (
        (can_tell graph (want_of (wish_in option)), refl),
        ap (λ (s : HandStep). record { terms = terms_behind terms option; phase = phase_behind s }) (sym stay),
      ),
    ),
  ),
)

options_lead : (graph : GraphValue) (terms : Terms) (options : List (List ℕ)) → AllStay graph terms options →
    CallsLead (between terms) (flat_map (option_calls graph) options) (between (terms_after terms options))
options_lead graph terms [] stay = refl
options_lead graph terms (o ∷ os) stay =
    joined (between terms) (between (terms_behind terms o)) (between (terms_after (terms_behind terms o) os)) (option_calls graph o) (flat_map (option_calls graph) os)
    (turn_leads graph terms o stay.0 stay.1) (options_lead graph (terms_behind terms o) os stay.2)

-- the flags came
flags_lead : (flags : List ℕ) (known : ClientFlags) → length flags ≡ 4 → flags_of (number32 flags 0) ≡ Some known → CallLeads opening_reader (flags_call flags) (between (terms_of known))
flags_lead flags known four is = (
  four,
  ap (λ (d : Option ClientFlags). flags_event (number32 flags 0) d) (sym is),
  ap (λ (d : Option ClientFlags). behind_flags opening_reader.terms (number32 flags 0) d) (sym is),
)

-- what comes last: a whole option, less than one, or a head that is refused
abbrev IsRest : Bool → List ℕ → Type 0
IsRest fixed rest = IsOption fixed rest ⊎ ((length rest < option_size fixed rest) ⊎ ((bad : SessionEnd) × IsRefused fixed rest bad))

record Rest (terms : Terms) (rest : List ℕ) : Type 0 where
  call : HandshakeCall
  new : Reader
  leads : CallLeads (between terms) call new
  taken : taken_by call ≡ rest

rest_of : (terms : Terms) (rest : List ℕ) → IsRest terms.fixed rest → Rest terms rest
rest_of terms rest (inl is) = record { call = Took rest (Some (event.Wanted (want_of (wish_in rest)))); new = asked terms rest; leads = option_leads terms rest is; taken = refl }
rest_of terms rest (inr (inl short)) = record { call = Took rest None; new = record { terms = terms; phase = InOption rest }; leads = (short, refl); taken = refl }
rest_of terms rest (inr (inr (bad, is))) = record {
  call = Took rest (Some (event.Bad bad));
  new = record { terms = terms; phase = Stuck bad };
  leads = (
    is.whole ∙ sym (size-long terms.fixed rest (omega (arith, is.whole)) ∙ ap (λ (d : Option SessionEnd). 16 + data_size d (option_head_of rest).length) is.fault),
    ap (λ (d : Option SessionEnd). event_of d (wish_in rest)) (sym is.fault),
    ap (λ (d : Option SessionEnd). record { terms = terms; phase = phase_of_option d (wish_in rest) }) (sym is.fault),
  );
  taken = refl;
}

none_short : (fixed : Bool) (rest : List ℕ) → rest ≡ [] → length rest < option_size fixed rest
none_short fixed rest is = omega (arith, ap length is, size-least fixed rest)

finishes_rest : {D : Type 0} (seen : D → Seen) (session : ℕ) (writable : Bool) (budget : ℕ) (options : List (List ℕ)) (terms : Terms) (old : WorldValue D) (result : Result Opened Failed)
    (rest given : List ℕ) (after : Flow) (new : WorldValue D) → FinishesOpening {E = Failed} seen session writable budget options terms old result rest given after new → IsRest terms.fixed rest
finishes_rest seen session writable budget options terms old (Ok opened) rest given after new (inl concludes) = go concludes
  where
    go : Concludes seen session writable terms old opened rest given after new → IsRest terms.fixed rest
    go (inl follows) = inl follows.option
    go (inr (inl closes)) = inl closes.option
    go (inr (inr (inl starves))) = inl starves.option
    go (inr (inr (inr stops))) = elim stops.cause [ inl cut ↦ inr (inl cut.short) | inr bad ↦ inr (inr (bad.bad, bad.refused)) ]
finishes_rest seen session writable budget options terms old (Ok opened) rest given after new (inr spends) = inr (inl (none_short terms.fixed rest spends.rest_is))
finishes_rest seen session writable budget options terms old (Err e) rest given after new fails = inr (inl fails.short)

pub reads_handshakes : {D : Type 0} (seen : D → Seen) → ReadsHandshakes seen
reads_handshakes seen session writable budget before after old new result agrees =
    let terms : Terms = terms_after (terms_of agrees.known) agrees.options in
    let r : Rest terms agrees.rest = rest_of terms agrees.rest
    (finishes_rest seen session writable budget agrees.options terms old result agrees.rest agrees.given after new agrees.finishes) in
    record {
      behind = r.call ∷ [];
      new = r.new;
      leads = (
        between (terms_of agrees.known),
        (
          flags_lead agrees.flags agrees.known agrees.four agrees.read,
          joined (between (terms_of agrees.known)) (between terms) r.new (flat_map (option_calls old.graph) agrees.options) (r.call ∷ [])
              (options_lead old.graph (terms_of agrees.known) agrees.options agrees.stay) (r.new, (r.leads, refl)),
        ),
      );
      rest_is = append-nil (taken_by r.call) ∙ r.taken;
    }
