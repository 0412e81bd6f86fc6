-- What the reader told.
use Rattle.std.proofs.Common.{◌≡◌, true, false, refl, sym, ap, ◌∙◌, subst}
use Rattle.std.specs.Prelude.{Option, Some, None}
use Rattle.qs_nbd_transmission.specs.Heads.{has_data}
use Rattle.qs_nbd_transmission.specs.declared.event.WireEvent.{WireEvent}
use Rattle.qs_nbd_transmission.specs.declared.event.WireEvent.TheVariants.{Head, Body, Disc, Bad}
use Rattle.qs_status.specs.declared.status.SessionEnd.{SessionEnd}
use Rattle.qs_status.specs.declared.status.SessionEnd.TheVariants.{Done}
use Rattle.qs_serving.specs.Steps.{ServingValue}
use Rattle.qs_transmission_phase.specs.Inside.{ReadsOn}
use Rattle.qs_transmission_phase.proofs.Reading.{from_fields, going_from}
use Rattle.qs_transmission_phase.proofs.Hearing.{bare_next, bare_reads, feeds_as, head_next, hears, hears_data, hears_end, hears_none, hears_whole, may_read, reads_going, value_by, wants_room, whole_next, with_crew, with_next}
use Rattle.qs_transmission_phase.proofs.phase.TransmissionPhase.hear.Goals as goal

pub returns-in-None-clause-serves : goal.returns-in-None-clause-serves
returns-in-None-clause-serves g c = λ book.
    let w = c.self.inside in
    let v : ServingValue = value_by w.export w.reader w.next w.requests w.ended w.detached in
    let going : v.ended ≡ None = going_from _ _ _ c.self.view_is c.requires.going in
    from_fields g.W.Wire.left g.W.Wire.sent g.W.Wire.read_faults g.W.Wire.write_faults g.W.Wire.waits book _ _ _ c.self.view_is
    (hears g.W.Wire.left g.W.Wire.sent g.W.Wire.read_faults g.W.Wire.write_faults g.W.Wire.waits book v _ None c.feed_reader.new.reader w.stream c.feed_reader.new.stream _
    going (may_read w.next) c.in-None.ensures (hears_none v c.feed_reader.new.reader book c.in-None.ensures.structured))

pub returns-in-Some-Disc-clause-serves : goal.returns-in-Some-Disc-clause-serves
returns-in-Some-Disc-clause-serves g c = λ book.
    let w = c.self.inside in
    let v : ServingValue = value_by w.export w.reader w.next w.requests w.ended w.detached in
    let going : v.ended ≡ None = going_from _ _ _ c.self.view_is c.requires.going in
    let told : c.feed_reader.result ≡ Some Disc = c.in-Some-Disc.is ∙ ap (λ (e : WireEvent). Some e) c.in-Some-Disc.field-0-is in
    let feeds = feeds_as w.reader w.stream c.feed_reader.result (Some Disc) c.feed_reader.new.reader c.feed_reader.new.stream told c.feed_reader.ensures in
    from_fields g.W.Wire.left g.W.Wire.sent g.W.Wire.read_faults g.W.Wire.write_faults g.W.Wire.waits book _ _ _ c.self.view_is
    (hears g.W.Wire.left g.W.Wire.sent g.W.Wire.read_faults g.W.Wire.write_faults g.W.Wire.waits book v _ (Some Disc) c.feed_reader.new.reader w.stream c.feed_reader.new.stream _
    going (may_read w.next) feeds (hears_end v (Some Disc) Done c.feed_reader.new.reader c.close.new.ended c.close.new.requests book feeds.structured
    (λ phase. refl) c.close.ensures.ended c.close.ensures.left))

pub returns-in-Some-Bad-clause-serves : goal.returns-in-Some-Bad-clause-serves
returns-in-Some-Bad-clause-serves g c = λ book.
    let w = c.self.inside in
    let v : ServingValue = value_by w.export w.reader w.next w.requests w.ended w.detached in
    let going : v.ended ≡ None = going_from _ _ _ c.self.view_is c.requires.going in
    let bad = c.in-Some-Bad.end in
    let told : c.feed_reader.result ≡ Some (Bad bad) = c.in-Some-Bad.is ∙ ap (λ (e : WireEvent). Some e) c.in-Some-Bad.field-0-is in
    let feeds = feeds_as w.reader w.stream c.feed_reader.result (Some (Bad bad)) c.feed_reader.new.reader c.feed_reader.new.stream told c.feed_reader.ensures in
    from_fields g.W.Wire.left g.W.Wire.sent g.W.Wire.read_faults g.W.Wire.write_faults g.W.Wire.waits book _ _ _ c.self.view_is
    (hears g.W.Wire.left g.W.Wire.sent g.W.Wire.read_faults g.W.Wire.write_faults g.W.Wire.waits book v _ (Some (Bad bad)) c.feed_reader.new.reader w.stream c.feed_reader.new.stream _
    going (may_read w.next) feeds (hears_end v (Some (Bad bad)) bad c.feed_reader.new.reader c.close-in-Some-Bad.new.ended c.close-in-Some-Bad.new.requests book
    feeds.structured (λ phase. refl) c.close-in-Some-Bad.ensures.ended c.close-in-Some-Bad.ensures.left))

pub returns-in-Some-Head-clause-serves : goal.returns-in-Some-Head-clause-serves
returns-in-Some-Head-clause-serves g c = λ book.
    let w = c.self.inside in
    let v : ServingValue = value_by w.export w.reader w.next w.requests w.ended w.detached in
    let going : v.ended ≡ None = going_from _ _ _ c.self.view_is c.requires.going in
    let ask = c.in-Some-Head.ask in
    let told : c.feed_reader.result ≡ Some (Head ask) = c.in-Some-Head.is ∙ ap (λ (e : WireEvent). Some e) c.in-Some-Head.field-0-is in
    let feeds = feeds_as w.reader w.stream c.feed_reader.result (Some (Head ask)) c.feed_reader.new.reader c.feed_reader.new.stream told c.feed_reader.ensures in
    let reads = reads_going w.ended w.reader.phase w.next going c.self.invariant.0 in
    let data_are : has_data ask ≡ true = sym c.awaits_data.ensures ∙ c.if-awaits_data.true in
    let room = c.room_for-room.result in
    let wants = wants_room w.reader.structured w.reader.phase c.feed_reader.new.reader.phase w.next feeds.bytes ask reads feeds.reaches data_are room c.room_for-room.ensures.size in
    from_fields g.W.Wire.left g.W.Wire.sent g.W.Wire.read_faults g.W.Wire.write_faults g.W.Wire.waits book _ _ _ c.self.view_is
    (hears g.W.Wire.left g.W.Wire.sent g.W.Wire.read_faults g.W.Wire.write_faults g.W.Wire.waits book v _ (Some (Head ask)) c.feed_reader.new.reader w.stream c.feed_reader.new.stream _
    going (may_read w.next) feeds (λ a. with_crew v c.give.new.self _ c.room_for-room.new.self book _ a _ c.room_for-room.ensures.same
    (hears_data v ask c.feed_reader.new.reader c.give.new.self room book feeds.structured going data_are wants.0 c.give.ensures a)))

pub returns-in-Some-Head-2-clause-serves : goal.returns-in-Some-Head-2-clause-serves
returns-in-Some-Head-2-clause-serves g c = λ book.
    let w = c.self.inside in
    let v : ServingValue = value_by w.export w.reader w.next w.requests w.ended w.detached in
    let going : v.ended ≡ None = going_from _ _ _ c.self.view_is c.requires.going in
    let ask = c.in-Some-Head.ask in
    let told : c.feed_reader.result ≡ Some (Head ask) = c.in-Some-Head.is ∙ ap (λ (e : WireEvent). Some e) c.in-Some-Head.field-0-is in
    let feeds = feeds_as w.reader w.stream c.feed_reader.result (Some (Head ask)) c.feed_reader.new.reader c.feed_reader.new.stream told c.feed_reader.ensures in
    let reads = reads_going w.ended w.reader.phase w.next going c.self.invariant.0 in
    let bare : has_data ask ≡ false = sym c.awaits_data.ensures ∙ c.if-awaits_data.false in
    let next = head_next w.reader.structured w.reader.phase c.feed_reader.new.reader.phase w.next feeds.bytes ask reads feeds.reaches in
    from_fields g.W.Wire.left g.W.Wire.sent g.W.Wire.read_faults g.W.Wire.write_faults g.W.Wire.waits book _ _ _ c.self.view_is
    (hears g.W.Wire.left g.W.Wire.sent g.W.Wire.read_faults g.W.Wire.write_faults g.W.Wire.waits book v _ (Some (Head ask)) c.feed_reader.new.reader w.stream c.feed_reader.new.stream _
    going (may_read w.next) feeds (λ a. with_next v c.feed_reader.new.reader w.next c.begin.new.self book _ a _ next
    (hears_whole v (Head ask) ask None c.feed_reader.new.reader c.begin.new.self book c.begin.ensures feeds.structured going (λ phase. refl)
    (bare_next ask v.next bare) a)))

pub returns-in-Some-clause-serves : goal.returns-in-Some-clause-serves
returns-in-Some-clause-serves g c = λ book.
    let w = c.self.inside in
    let v : ServingValue = value_by w.export w.reader w.next w.requests w.ended w.detached in
    let going : v.ended ≡ None = going_from _ _ _ c.self.view_is c.requires.going in
    let room = c.in-Some-Body.room in
    let ask = c.in-Some.ask in
    let told : c.feed_reader.result ≡ Some (Body room) = c.in-Some-Body.is ∙ ap (λ (e : WireEvent). Some e) c.in-Some-Body.field-0-is in
    let feeds = feeds_as w.reader w.stream c.feed_reader.result (Some (Body room)) c.feed_reader.new.reader c.feed_reader.new.stream told c.feed_reader.ensures in
    let asked : w.next ≡ Some ask = sym c.take.ensures.value ∙ c.in-Some.is in
    from_fields g.W.Wire.left g.W.Wire.sent g.W.Wire.read_faults g.W.Wire.write_faults g.W.Wire.waits book _ _ _ c.self.view_is
    (hears g.W.Wire.left g.W.Wire.sent g.W.Wire.read_faults g.W.Wire.write_faults g.W.Wire.waits book v _ (Some (Body room)) c.feed_reader.new.reader w.stream c.feed_reader.new.stream _
    going (may_read w.next) feeds (λ a. with_next v c.feed_reader.new.reader c.take.new.self c.begin-in-Some.new.self book _ a _ c.take.ensures.after
    (hears_whole v (Body room) ask c.kept_data.result c.feed_reader.new.reader c.begin-in-Some.new.self book c.begin-in-Some.ensures
    feeds.structured going (λ phase. refl) (whole_next ask room w.next c.kept_data.result asked c.kept_data.ensures) a)))

pub invariant_of-self-in-Some-Head-2 : goal.invariant_of-self-in-Some-Head-2
invariant_of-self-in-Some-Head-2 g c =
    let w = c.self.inside in
    let v : ServingValue = value_by w.export w.reader w.next w.requests w.ended w.detached in
    let going : v.ended ≡ None = going_from _ _ _ c.self.view_is c.requires.going in
    let ask = c.in-Some-Head.ask in
    let told : c.feed_reader.result ≡ Some (Head ask) = c.in-Some-Head.is ∙ ap (λ (e : WireEvent). Some e) c.in-Some-Head.field-0-is in
    let feeds = feeds_as w.reader w.stream c.feed_reader.result (Some (Head ask)) c.feed_reader.new.reader c.feed_reader.new.stream told c.feed_reader.ensures in
    let reads = reads_going w.ended w.reader.phase w.next going c.self.invariant.0 in
    let bare : has_data ask ≡ false = sym c.awaits_data.ensures ∙ c.if-awaits_data.false in (
      subst (λ (o : Option SessionEnd). ReadsOn o c.feed_reader.new.reader.phase w.next) (sym going)
          (bare_reads w.reader.structured w.reader.phase c.feed_reader.new.reader.phase w.next feeds.bytes ask reads feeds.reaches bare),
      c.self.invariant.1 ∙ sym feeds.structured,
    )
