-- What the reader told.
use Rattle.std.proofs.Common.{refl, sym, ap, ◌∙◌, subst}
use Rattle.std.specs.Prelude.{Option, Some, None}
use Rattle.qs_nbd_handshake.specs.declared.event.HandEvent.{HandEvent}
use Rattle.qs_nbd_handshake.specs.declared.event.HandEvent.TheVariants.{Flags, Wanted, Bad}
use Rattle.qs_nbd_handshake.proofs.Going.{goes_on}
use Rattle.qs_handshake_phase.specs.Scenes.{FeedsOn}
use Rattle.qs_handshake_phase.specs.declared.end.HandshakeEnd.{HandshakeEnd}
use Rattle.qs_handshake_phase.proofs.Hearing.{asked_by, fed_as, going_from, hears_bad, hears_on, hears_wanted}
use Rattle.qs_handshake_phase.proofs.phase.HandshakePhase.hear.Goals as goal

pub invariant_of-self-in-Some-Flags : goal.invariant_of-self-in-Some-Flags
invariant_of-self-in-Some-Flags g c =
    let told = c.in-Some-Flags.is ∙ ap (λ (e : HandEvent). Some e) c.in-Some-Flags.field-0-is in
    let fed = fed_as _ _ c.feed_reader.result (Some (Flags c.in-Some-Flags.field-0-0)) _ _ told c.feed_reader.ensures in
    subst (λ (o : Option HandshakeEnd). FeedsOn o c.feed_reader.new.reader.phase) (sym (going_from _ _ _ c.self.view_is c.requires.going))
    (goes_on.flags c.self.inside.reader c.feed_reader.new.reader fed.bytes c.in-Some-Flags.field-0-0 fed.reaches)

pub answer_option-self-inside-requires-clause-asked : goal.answer_option-self-inside-requires-clause-asked
answer_option-self-inside-requires-clause-asked g c =
    let told = c.in-Some-Wanted.is ∙ ap (λ (e : HandEvent). Some e) c.in-Some-Wanted.field-0-is in
    let fed = fed_as _ _ c.feed_reader.result (Some (Wanted c.in-Some-Wanted.want)) _ _ told c.feed_reader.ensures in
    asked_by c.self.inside.reader c.feed_reader.new.reader fed.bytes c.in-Some-Wanted.want fed.reaches

pub returns-in-None-clause-greets : goal.returns-in-None-clause-greets
returns-in-None-clause-greets g c =
    hears_on g.W.Wire.left g.W.Wire.sent g.W.Wire.read_faults g.W.Wire.write_faults g.W.Wire.waits _ _ c.self.inside.reader
    c.feed_reader.new.reader c.self.inside.over c.self.inside.stream c.feed_reader.new.stream None c.self.view_is
    (going_from _ _ _ c.self.view_is c.requires.going) c.self.invariant
    (fed_as _ _ c.feed_reader.result None _ _ c.in-None.is c.feed_reader.ensures) refl

pub returns-in-Some-Flags-clause-greets : goal.returns-in-Some-Flags-clause-greets
returns-in-Some-Flags-clause-greets g c =
    let told = c.in-Some-Flags.is ∙ ap (λ (e : HandEvent). Some e) c.in-Some-Flags.field-0-is in
    hears_on g.W.Wire.left g.W.Wire.sent g.W.Wire.read_faults g.W.Wire.write_faults g.W.Wire.waits _ _ c.self.inside.reader
    c.feed_reader.new.reader c.self.inside.over c.self.inside.stream c.feed_reader.new.stream (Some (Flags c.in-Some-Flags.field-0-0))
    c.self.view_is (going_from _ _ _ c.self.view_is c.requires.going) c.self.invariant
    (fed_as _ _ c.feed_reader.result (Some (Flags c.in-Some-Flags.field-0-0)) _ _ told c.feed_reader.ensures) refl

pub returns-in-Some-Bad-clause-greets : goal.returns-in-Some-Bad-clause-greets
returns-in-Some-Bad-clause-greets g c =
    let told = c.in-Some-Bad.is ∙ ap (λ (e : HandEvent). Some e) c.in-Some-Bad.field-0-is in
    hears_bad g.W.Wire.left g.W.Wire.sent g.W.Wire.read_faults g.W.Wire.write_faults g.W.Wire.waits _ _ c.self.inside.reader
    c.feed_reader.new.reader c.self.inside.over c.self.inside.stream c.feed_reader.new.stream c.in-Some-Bad.end c.self.view_is
    (going_from _ _ _ c.self.view_is c.requires.going) c.self.invariant
    (fed_as _ _ c.feed_reader.result (Some (Bad c.in-Some-Bad.end)) _ _ told c.feed_reader.ensures)

pub returns-in-Some-Wanted-clause-greets : goal.returns-in-Some-Wanted-clause-greets
returns-in-Some-Wanted-clause-greets g c =
    let told = c.in-Some-Wanted.is ∙ ap (λ (e : HandEvent). Some e) c.in-Some-Wanted.field-0-is in
    hears_wanted g.W.Wire.left g.W.Wire.sent g.W.Wire.read_faults g.W.Wire.write_faults g.W.Wire.waits _ _ _ c.self.inside.reader
    c.feed_reader.new.reader c.answer_option-self-inside.new.reader c.self.inside.over c.answer_option-self-inside.result
    c.self.inside.stream c.feed_reader.new.stream c.answer_option-self-inside.new.stream c.in-Some-Wanted.want c.self.view_is
    (going_from _ _ _ c.self.view_is c.requires.going) c.self.invariant
    (fed_as _ _ c.feed_reader.result (Some (Wanted c.in-Some-Wanted.want)) _ _ told c.feed_reader.ensures)
    c.answer_option-self-inside.ensures.answers
