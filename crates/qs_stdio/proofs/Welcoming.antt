-- The handshake of a valid session is read to its end, and requests follow.
use Rattle.std.proofs.Common.{◌≡◌, ℕ, ◌<◌, ◌≤◌, ◌⊎◌, inl, inr, Bool, true, List, [], ◌∷◌, ◌++◌, length, refl, sym, ap, ◌∙◌, subst, append-nil, append_assoc, arith}
use Rattle.std.specs.Prelude.{All, None, Some}
use Rattle.std.specs.List.{flat_map}
use Rattle.std.proofs.lemmas.List.{length-append, append_cancel_left}
use Rattle.std.proofs.lemmas.List.Elements.{All-head, All-tail}
use Rattle.qs_bytes.specs.declared.ask.Mode.{Mode}
use Rattle.qs_bytes.specs.Numbers.{number32}
use Rattle.qs_status.specs.declared.status.SessionEnd.{SessionEnd}
use Rattle.qs_nbd_wire.specs.declared.opening.ClientFlags.{ClientFlags}
use Rattle.qs_nbd_wire.specs.declared.option.OptionHead.{OptionHead}
use Rattle.qs_nbd_wire.specs.Greetings.{flags_of}
use Rattle.qs_nbd_wire.specs.Options.{option_head_of}
use Rattle.qs_graph.specs.Table.{GraphValue}
use Rattle.qs_nbd_handshake.specs.declared.event.HandStep.TheVariants.{Stay, Transmit as TransmitStep, Close}
use Rattle.qs_nbd_handshake.specs.declared.stage.Terms.{Terms}
use Rattle.qs_nbd_handshake.specs.declared.wish.Wish.{Wish}
use Rattle.qs_nbd_handshake.specs.Answers.{hand_step_of}
use Rattle.qs_nbd_handshake.specs.Phases.{option_size, wish_in}
use Rattle.qs_nbd_handshake.specs.Sessions.{IsOption, IsRefused, sent_bytes}
use Rattle.qs_nbd_handshake.specs.Wishes.{option_fault, want_of}
use Rattle.qs_nbd_handshake.proofs.Reading.{same_front, same_option}
use Rattle.qs_nbd_handshake.proofs.Sizes.{head-append, size-append, size-least}
use Rattle.qs_opening.specs.Openings.{terms_of}
use Rattle.qs_opening.specs.Options.{AllStay, step_for, terms_after, terms_behind}
use Rattle.qs_opening.specs.Telling.{graph_told}
use Rattle.qs_stdio.specs.Sessions.{IsAnswered, IsValidSession, attaches, wish_goes_on}

-- fixed newstyle is agreed on by the flags alone
fixed_after : (terms : Terms) (options : List (List ℕ)) → (terms_after terms options).fixed ≡ terms.fixed
fixed_after terms [] = refl
fixed_after terms (o ∷ os) = fixed_after (terms_behind terms o) os

long : (fixed : Bool) (o : List ℕ) → IsOption fixed o → 16 ≤ length o
long fixed o is = omega (arith, is.whole, size-least fixed o)

-- An option stands next in the stream: one behind which options go on, or the one that attaches, with the requests behind it.
pub record Next (fixed : Bool) (count most : ℕ) (requests bytes : List ℕ) : Type 0 where
  pub option : List ℕ
  pub more : List ℕ
  pub is : IsOption fixed option
  pub whole : bytes ≡ option ++ more
  pub few : count ≤ most
  pub which : (wish_goes_on (wish_in option) ≡ true) ⊎ ((attaches (wish_in option) ≡ true) × (more ≡ requests))

-- the input doesn't end within it
pub next_long : (fixed : Bool) (count most : ℕ) (requests rest remaining : List ℕ) → Next fixed count most requests (rest ++ remaining) → length rest < option_size fixed rest → remaining ≡ [] → ⊥
next_long fixed count most requests rest remaining next short none =
    let whole : rest ≡ next.option ++ next.more = sym (append-nil rest) ∙ ap (λ (xs : List ℕ). rest ++ xs) (sym none) ∙ next.whole in
    omega (
      arith,
      short,
      ap (λ (xs : List ℕ). option_size fixed xs) whole,
      ap length whole,
      size-append fixed next.option next.more (long fixed next.option next.is),
      next.is.whole,
      length-append next.option next.more,
    )

-- nothing of it is refused
pub next_served : (fixed : Bool) (count most : ℕ) (requests rest remaining : List ℕ) (bad : SessionEnd) → Next fixed count most requests (rest ++ remaining) → IsRefused fixed rest bad → ⊥
next_served fixed count most requests rest remaining bad next refused =
    let sixteen : 16 ≤ length rest = omega (arith, refused.whole) in
    let same : option_head_of rest ≡ option_head_of next.option =
    sym (head-append rest remaining sixteen) ∙ ap option_head_of next.whole ∙ head-append next.option next.more (long fixed next.option next.is) in
    none_some bad (sym next.is.served ∙ ap (λ (h : OptionHead). option_fault fixed h) (sym same) ∙ refused.fault)
  where
    none_some : (b : SessionEnd) → None ≡ Some b → ⊥
    none_some b e = cc

-- a whole option is that one
next_same : (fixed : Bool) (count most : ℕ) (requests rest remaining : List ℕ) (next : Next fixed count most requests (rest ++ remaining)) → IsOption fixed rest →
    (rest ≡ next.option) × (remaining ≡ next.more)
next_same fixed count most requests rest remaining next is =
    let same : rest ≡ next.option = same_option fixed rest next.option remaining next.more is.whole next.is.whole next.whole in
    (same, append_cancel_left rest remaining next.more (next.whole ∙ ap (λ (xs : List ℕ). xs ++ next.more) (sym same)))

module _ (graph : GraphValue) (transmits : (mode : Mode) (w : Wish) → attaches w ≡ true → hand_step_of mode w (graph_told graph (want_of w)) ≡ TransmitStep mode)
    (stays : (mode : Mode) (w : Wish) → wish_goes_on w ≡ true → hand_step_of mode w (graph_told graph (want_of w)) ≡ Stay) where
  -- an option that attaches doesn't stay
  never_stays : (terms : Terms) (option : List ℕ) → attaches (wish_in option) ≡ true → step_for graph terms option ≡ Stay → ⊥
  never_stays terms option attached stay = never (sym stay ∙ transmits terms.mode (wish_in option) attached)
    where
      never : Stay ≡ TransmitStep terms.mode → ⊥
      never e = cc

  -- options that were read are those of the session, and the next one stands behind them
  next_behind : (terms : Terms) (read options : List (List ℕ)) (final requests bytes : List ℕ) → AllStay graph terms read → All (IsAnswered terms.fixed) options → IsOption terms.fixed final →
      attaches (wish_in final) ≡ true → flat_map sent_bytes read ++ bytes ≡ flat_map sent_bytes options ++ (final ++ requests) → Next terms.fixed (length read) (length options) requests bytes
  next_behind terms [] [] final requests bytes stay each is attached e =
      record { option = final; more = requests; is = is; whole = e; few = omega arith; which = inr (attached, refl) }
  next_behind terms [] (o ∷ os) final requests bytes stay each is attached e =
      let one : IsAnswered terms.fixed o = All-head (IsAnswered terms.fixed) o os each in
      record {
        option = o;
        more = flat_map sent_bytes os ++ (final ++ requests);
        is = one.whole;
        whole = e ∙ append_assoc o (flat_map sent_bytes os) (final ++ requests);
        few = omega arith;
        which = inl one.on;
      }
  next_behind terms (r ∷ rs) [] final requests bytes stay each is attached e =
      let same : r ≡ final = same_option terms.fixed r final (flat_map sent_bytes rs ++ bytes) requests stay.0.whole is.whole (sym (append_assoc r (flat_map sent_bytes rs) bytes) ∙ e) in
      absurd (never_stays terms r (subst (λ (o : List ℕ). attaches (wish_in o) ≡ true) (sym same) attached) stay.1)
  next_behind terms (r ∷ rs) (o ∷ os) final requests bytes stay each is attached e =
      let one : IsAnswered terms.fixed o = All-head (IsAnswered terms.fixed) o os each in
      let behind : List ℕ = flat_map sent_bytes os ++ (final ++ requests) in
      let f : r ++ (flat_map sent_bytes rs ++ bytes) ≡ o ++ behind = sym (append_assoc r (flat_map sent_bytes rs) bytes) ∙ e ∙ append_assoc o (flat_map sent_bytes os) (final ++ requests) in
      let same : r ≡ o = same_option terms.fixed r o (flat_map sent_bytes rs ++ bytes) behind stay.0.whole one.whole.whole f in
      let next : Next terms.fixed (length rs) (length os) requests bytes =
      next_behind (terms_behind terms r) rs os final requests bytes stay.2 (All-tail (IsAnswered terms.fixed) o os each) is attached
      (append_cancel_left r (flat_map sent_bytes rs ++ bytes) behind (f ∙ ap (λ (xs : List ℕ). xs ++ behind) (sym same))) in
      record { option = next.option; more = next.more; is = next.is; whole = next.whole; few = omega (arith, next.few); which = next.which }

  -- behind flags
  pub next_of : (stream flags : List ℕ) (known : ClientFlags) (read : List (List ℕ)) (bytes : List ℕ) (valid : IsValidSession stream) → length flags ≡ 4 → flags_of (number32 flags 0) ≡ Some known →
      AllStay graph (terms_of known) read → stream ≡ flags ++ (flat_map sent_bytes read ++ bytes) → Next (terms_after (terms_of known) read).fixed (length read) (length valid.options) valid.requests bytes
  next_of stream flags known read bytes valid four is stay e =
      let theirs : List ℕ = flat_map sent_bytes valid.options ++ (valid.final ++ valid.requests) in
      let f : flags ++ (flat_map sent_bytes read ++ bytes) ≡ valid.flags ++ theirs = sym e ∙ valid.whole in
      let same : flags ≡ valid.flags = same_front flags valid.flags (flat_map sent_bytes read ++ bytes) theirs (four ∙ sym valid.four) f in
      let agreed : valid.known ≡ known = known_of valid.known known (sym valid.read ∙ ap (λ (xs : List ℕ). flags_of (number32 xs 0)) (sym same) ∙ is) in
      subst (λ (fixed : Bool). Next fixed (length read) (length valid.options) valid.requests bytes) (sym (fixed_after (terms_of known) read))
      (next_behind (terms_of known) read valid.options valid.final valid.requests bytes stay
      (subst (λ (k : ClientFlags). All (IsAnswered k.fixed) valid.options) agreed valid.each)
      (subst (λ (k : ClientFlags). IsOption k.fixed valid.final) agreed valid.is_final) valid.attached
      (append_cancel_left flags (flat_map sent_bytes read ++ bytes) theirs (f ∙ ap (λ (xs : List ℕ). xs ++ theirs) (sym same))))
    where
      known_of : (a b : ClientFlags) → Some a ≡ Some b → a ≡ b
      known_of a b h = cc

  -- the option behind which requests follow is the one that attaches
  pub requests_follow : (terms : Terms) (mode : Mode) (count most : ℕ) (requests rest remaining : List ℕ) → Next terms.fixed count most requests (rest ++ remaining) → IsOption terms.fixed rest →
      step_for graph terms rest ≡ TransmitStep mode → remaining ≡ requests
  requests_follow terms mode count most requests rest remaining next is step =
      let same = next_same terms.fixed count most requests rest remaining next is in
      elim next.which [
        | inl goes ↦ absurd (never (sym (stays terms.mode (wish_in rest) (subst (λ (o : List ℕ). wish_goes_on (wish_in o) ≡ true) (sym same.0) goes)) ∙ step))
        | inr ends ↦ same.1 ∙ ends.1
      ]
    where
      never : Stay ≡ TransmitStep mode → ⊥
      never e = cc

  -- no option closes the session
  pub never_closes : (terms : Terms) (how : SessionEnd) (count most : ℕ) (requests rest remaining : List ℕ) → Next terms.fixed count most requests (rest ++ remaining) → IsOption terms.fixed rest →
      step_for graph terms rest ≡ Close how → ⊥
  never_closes terms how count most requests rest remaining next is step =
      let same = next_same terms.fixed count most requests rest remaining next is in
      elim next.which [
        | inl goes ↦ staying (sym (stays terms.mode (wish_in rest) (subst (λ (o : List ℕ). wish_goes_on (wish_in o) ≡ true) (sym same.0) goes)) ∙ step)
        | inr ends ↦ attaching (sym (transmits terms.mode (wish_in rest) (subst (λ (o : List ℕ). attaches (wish_in o) ≡ true) (sym same.0) ends.0)) ∙ step)
      ]
    where
      staying : Stay ≡ Close how → ⊥
      staying e = cc

      attaching : TransmitStep terms.mode ≡ Close how → ⊥
      attaching e = cc
