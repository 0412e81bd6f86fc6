-- What a handshake leaves: where it ended the session, and where requests follow.
use Rattle.std.proofs.Common.{◌≡◌, ◌≢◌, ℕ, inl, inr, Bool, List, [], refl, sym, ap, subst}
use Rattle.std.specs.Prelude.{Option, None, Some, Result, Ok, Err}
use Rattle.qs_bytes.specs.declared.ask.Mode.{Mode}
use Rattle.qs_status.specs.declared.status.SessionEnd.{SessionEnd}
use Rattle.qs_status.specs.declared.status.SessionEnd.TheVariants as end
use Rattle.qs_status.specs.declared.status.Status.{Status}
use Rattle.qs_status.specs.declared.status.Status.TheVariants as status
use Rattle.qs_outside.specs.Blocks.{Seen}
use Rattle.qs_part.specs.declared.graph.ExportInfo.{ExportInfo}
use Rattle.qs_graph.specs.Readings.{info_of}
use Rattle.qs_nbd_handshake.specs.declared.event.HandStep.TheVariants.{Transmit as TransmitStep}
use Rattle.qs_nbd_handshake.specs.declared.event.Want.{Want}
use Rattle.qs_nbd_handshake.specs.declared.event.Want.TheVariants as want
use Rattle.qs_nbd_handshake.specs.declared.wish.Wish.{Wish}
use Rattle.qs_nbd_handshake.specs.declared.wish.Wish.TheVariants as wish
use Rattle.qs_nbd_handshake.specs.Answers.{export_step, go_step, hand_step_of}
use Rattle.qs_nbd_handshake.specs.Phases.{wish_in}
use Rattle.qs_nbd_handshake.specs.Wishes.{want_of}
use Rattle.qs_stream.specs.declared.state.State.TheVariants as state
use Rattle.qs_stream.specs.Flows.{Flow, Moved}
use Rattle.qs_stream.proofs.Moves.{moved_none}
use Rattle.qs_world.specs.Values.{WorldValue, disks_of}
use Rattle.qs_single.specs.Resting.{Attaches}
use Rattle.qs_opening.specs.declared.turn.Opened.{Opened}
use Rattle.qs_opening.specs.declared.turn.Opened.TheVariants.{Transmit, Ends as Ended}
use Rattle.qs_opening.specs.Openings.{LacksFlags, OpensSession, terms_of}
use Rattle.qs_opening.specs.Options.{terms_after}
use Rattle.qs_opening.specs.Telling.{WantChanges, JoinsAt, told_info, graph_told}
use Rattle.qs_opening.specs.Turns.{Concludes, status_at}
use Rattle.qs_stdio.specs.Runs.{side_of}

-- how a session may end by its bytes, its budget or for want of memory
abbrev pub IsEnd : Status → Type 0
IsEnd status.Done = Unit {0}
IsEnd (status.Ended how) = Unit {0}
IsEnd status.Memory = Unit {0}
IsEnd status.Spent = Unit {0}
IsEnd other = ⊥

pub end_side : (told : Status) → IsEnd told → side_of told ≡ state.Open
end_side status.Done is = refl
end_side (status.Ended how) is = refl
end_side status.Memory is = refl
end_side status.Spent is = refl
end_side other is = absurd is

how_ends : (how : SessionEnd) → IsEnd (status_at how)
how_ends end.Done = tt
how_ends how = tt

told_ends : (told given : Status) → Ended told ≡ Ended given → IsEnd given → IsEnd told
told_ends told given is ends = subst IsEnd (sym (one told given is)) ends
  where
    one : (a b : Status) → Ended a ≡ Ended b → a ≡ b
    one a b e = cc

lacks_ends : (taken : List ℕ) (told : Status) (after : Flow) → LacksFlags {E = Unit {0}} taken (Ok told) after → IsEnd told
lacks_ends taken told after (inl cut) = subst IsEnd (sym cut.0) (how_ends _)
lacks_ends taken told after (inr bad) = subst IsEnd (sym bad.0) tt

pub never_transmits : (told : Status) (mode : Mode) → Ended told ≡ Transmit mode → ⊥
never_transmits told mode e = cc

module _ {D : Type 0} (seen : D → Seen) (session : ℕ) (writable : Bool) (budget : ℕ) (before : Flow) (old : WorldValue D) (after : Flow) (new : WorldValue D) where
  -- the status is none of a fault
  pub opened_ends : {E : Type 0} (told : Status) → OpensSession {E = E} seen session writable budget before old (Ok (Ended told)) after new → IsEnd told
  opened_ends told (inl agrees) = elim agrees.finishes [
    | inl concludes ↦ go concludes
    | inr spends ↦ told_ends told status.Spent spends.opened_is tt
  ]
    where
      go : Concludes seen session writable (terms_after (terms_of agrees.known) agrees.options) old (Ended told) agrees.rest agrees.given after new → IsEnd told
      go (inl transmits) = absurd (never_transmits told transmits.mode transmits.opened_is)
      go (inr (inl closes)) = told_ends told (status_at closes.how) closes.opened_is (how_ends closes.how)
      go (inr (inr (inl starves))) = told_ends told status.Memory starves.opened_is tt
      go (inr (inr (inr stops))) = told_ends told stops.status stops.opened_is (elim stops.cause [
        | inl cut ↦ subst IsEnd (sym cut.status_is) (how_ends _)
        | inr bad ↦ subst IsEnd (sym bad.status_is) tt
      ])
  opened_ends told (inr (inl greets)) =
      let (given, (opened_is, lacks)) = greets.fruitless in
      told_ends told given opened_is (lacks_ends greets.taken given after lacks)
  opened_ends told (inr (inr forgoes)) = ok_ends forgoes.result_is
    where
      ok_ends : {E : Type 0} → ◌≡◌ {A = Result Opened E} (Ok (Ended told)) (Ok (Ended status.Memory)) → IsEnd told
      ok_ends e = let same : status.Memory ≡ told = cc in subst IsEnd same tt

  -- bytes were taken and given
  pub record Went : Type 0 where
    pub taken : List ℕ
    pub given : List ℕ
    pub moved : Moved taken given before after

  pub opened_moved : {E : Type 0} (opened : Result Opened E) → OpensSession {E = E} seen session writable budget before old opened after new → Went
  opened_moved opened (inl agrees) = record { taken = _; given = _; moved = agrees.moved }
  opened_moved opened (inr (inl greets)) = record { taken = greets.taken; given = _; moved = greets.moved }
  opened_moved opened (inr (inr forgoes)) = record { taken = []; given = []; moved = subst (λ (f : Flow). Moved [] [] before f) (sym forgoes.flow) (moved_none before) }

  joins_disks : (name : List ℕ) (known : Option ExportInfo) → JoinsAt seen session writable old name known new → disks_of seen new ≡ disks_of seen old
  joins_disks name None same = ap (disks_of seen) same
  joins_disks name (Some known) joins = joins.1.disks

  changes_disks : (w : Want) → WantChanges seen session writable old w new → disks_of seen new ≡ disks_of seen old
  changes_disks (want.Attach None) same = ap (disks_of seen) same
  changes_disks (want.Attach (Some name)) joins = joins_disks name (info_of old.graph name) joins
  changes_disks (want.Find name) same = ap (disks_of seen) same
  changes_disks want.Names same = ap (disks_of seen) same
  changes_disks want.Nothing same = ap (disks_of seen) same

  -- the disks stay
  pub opened_disks : {E : Type 0} (opened : Result Opened E) → OpensSession {E = E} seen session writable budget before old opened after new → disks_of seen new ≡ disks_of seen old
  opened_disks (Ok opened) (inl agrees) = elim agrees.finishes [
    | inl concludes ↦ go concludes
    | inr spends ↦ ap (disks_of seen) spends.same
  ]
    where
      go : Concludes seen session writable (terms_after (terms_of agrees.known) agrees.options) old opened agrees.rest agrees.given after new → disks_of seen new ≡ disks_of seen old
      go (inl transmits) = changes_disks _ transmits.changes
      go (inr (inl closes)) = ap (disks_of seen) closes.same
      go (inr (inr (inl starves))) = elim starves.changes [ inl same ↦ ap (disks_of seen) same | inr changes ↦ changes_disks _ changes ]
      go (inr (inr (inr stops))) = ap (disks_of seen) stops.same
  opened_disks (Err e) (inl agrees) = ap (disks_of seen) agrees.finishes.same
  opened_disks opened (inr (inl greets)) = ap (disks_of seen) greets.same
  opened_disks opened (inr (inr forgoes)) = ap (disks_of seen) forgoes.same

  -- the session was attached
  pub record Joined : Type 0 where
    pub name : List ℕ
    pub info : ExportInfo
    pub attaches : Attaches seen session writable old name info new

  joined_at : (mode agreed : Mode) (name : List ℕ) (known : Option ExportInfo) → export_step mode (told_info known) ≡ TransmitStep agreed → JoinsAt seen session writable old name known new → Joined
  joined_at mode agreed name None step joins = absurd (cc)
  joined_at mode agreed name (Some known) step joins = record { name = name; info = joins.0; attaches = joins.1 }

  goes_at : (mode agreed : Mode) (name : List ℕ) (known : Option ExportInfo) → go_step mode (told_info known) ≡ TransmitStep agreed → JoinsAt seen session writable old name known new → Joined
  goes_at mode agreed name None step joins = absurd (cc)
  goes_at mode agreed name (Some known) step joins = record { name = name; info = joins.0; attaches = joins.1 }

  joined_by : (mode agreed : Mode) (w : Wish) → hand_step_of mode w (graph_told old.graph (want_of w)) ≡ TransmitStep agreed → WantChanges seen session writable old (want_of w) new → Joined
  joined_by mode agreed (wish.Export None) step changes = absurd (cc)
  joined_by mode agreed (wish.Export (Some name)) step changes = joined_at mode agreed name (info_of old.graph name) step changes
  joined_by mode agreed (wish.Go inquiry) step changes = by inquiry.name step changes
    where
      by : (name : Option (List ℕ)) → go_step mode (graph_told old.graph (want.Attach name)) ≡ TransmitStep agreed → WantChanges seen session writable old (want.Attach name) new → Joined
      by None step changes = absurd (cc)
      by (Some name) step changes = goes_at mode agreed name (info_of old.graph name) step changes
  joined_by mode agreed wish.Abort step changes = absurd (cc)
  joined_by mode agreed wish.List step changes = absurd (cc)
  joined_by mode agreed (wish.Info inquiry) step changes = absurd (cc)
  joined_by mode agreed wish.Structured step changes = absurd (cc)
  joined_by mode agreed (wish.Malformed number) step changes = absurd (cc)
  joined_by mode agreed (wish.Unknown number) step changes = absurd (cc)

  pub opened_joined : {E : Type 0} (mode : Mode) → OpensSession {E = E} seen session writable budget before old (Ok (Transmit mode)) after new → Joined
  opened_joined mode (inl agrees) = elim agrees.finishes [
    | inl concludes ↦ go concludes
    | inr spends ↦ absurd (never_transmits status.Spent mode (sym spends.opened_is))
  ]
    where
      go : Concludes seen session writable (terms_after (terms_of agrees.known) agrees.options) old (Transmit mode) agrees.rest agrees.given after new → Joined
      go (inl transmits) = joined_by _ transmits.mode (wish_in agrees.rest) transmits.step transmits.changes
      go (inr (inl closes)) = absurd (never_transmits (status_at closes.how) mode (sym closes.opened_is))
      go (inr (inr (inl starves))) = absurd (never_transmits status.Memory mode (sym starves.opened_is))
      go (inr (inr (inr stops))) = absurd (never_transmits stops.status mode (sym stops.opened_is))
  opened_joined mode (inr (inl greets)) = let (given, (opened_is, lacks)) = greets.fruitless in absurd (never_transmits given mode (sym opened_is))
  opened_joined mode (inr (inr forgoes)) = absurd (ok_never forgoes.result_is)
    where
      ok_never : {E : Type 0} → ◌≡◌ {A = Result Opened E} (Ok (Transmit mode)) (Ok (Ended status.Memory)) → ⊥
      ok_never e = cc

  -- where no call was answered, a side failed
  pub opened_failed : {E : Type 0} (e : E) → OpensSession {E = E} seen session writable budget before old (Err e) after new → after.stream.state ≢ state.Open
  opened_failed e (inl agrees) = agrees.finishes.failed
  opened_failed e (inr (inl greets)) = greets.fruitless.1
  opened_failed {E} e (inr (inr forgoes)) = absurd (err_never forgoes.result_is)
    where
      err_never : ◌≡◌ {A = Result Opened E} (Err e) (Ok (Ended status.Memory)) → ⊥
      err_never is = cc
