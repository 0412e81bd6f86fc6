-- The event was refused, or came.
use Rattle.std.proofs.Common.{refl, sym, ◌∙◌, true≢false}
use Rattle.qs_part.specs.declared.event.Event.TheVariants as event
use Rattle.qs_part.specs.declared.event.Outcome.TheVariants.{Made}
use Rattle.qs_replay_lines.proofs.Playing.{asks_again, asks_event, asks_first, asks_once, asks_played, stopped_cut, stopped_event, stops}
use Rattle.qs_replay_lines.proofs.desk.Desk.ask.Goals as goal

pub returns-then-is_used : goal.returns-then-is_used
returns-then-is_used g c = λ l lost is. (
  asks_again c.args.self.now.table c.number.new.self l lost c.in_ok-number.number c.args.session c.args.ask c.args.body is c.in_ok-number.ensures.ok
      (c.is_used.ensures.0 c.if-is_used.true),
  refl,
  refl,
)

pub returns-in_err-request : goal.returns-in_err-request
returns-in_err-request g c = λ l lost is.
    stops g.D.Disk.seen c.args.self.now l lost c.in_err-request.field-0.0 _ _ c.from_residual-in_err-request.ensures.1
    (stopped_event g.D.Disk.seen c.args.self.now l c.in_err-request.field-0.0 _
    (event.Ask c.in_ok-number.number c.args.ask c.args.body) c.number.new.self lost
    (asks_event c.args.self.now.table c.number.new.self l lost c.in_ok-number.number c.args.session c.args.ask c.args.body is c.in_ok-number.ensures.ok)
    c.in_err-request.ensures.err refl
    (λ e. c.in_err-request.ensures.next (cc)) (λ e. c.in_err-request.ensures.form (cc))
    (asks_once c.args.self.now.table c.number.new.self l lost c.in_ok-number.number c.args.session c.args.ask c.args.body is c.in_ok-number.ensures.ok
    (λ used. true≢false (sym (c.is_used.ensures.1 used) ∙ c.if-is_used.false))))

pub returns-in_err-make : goal.returns-in_err-make
returns-in_err-make g c = λ l lost is.
    stops g.D.Disk.seen c.args.self.now l lost _ _ _ c.from_residual-in_err-make.ensures.1
    (stopped_cut g.D.Disk.seen c.args.self.now l (record { world = c.happen.new.world; table = c.make.new.self; out = c.args.self.now.out; alloc = c.args.self.now.alloc }) _
    (event.Ask c.in_ok-number.number c.args.ask c.args.body) c.number.new.self lost
    (asks_event c.args.self.now.table c.number.new.self l lost c.in_ok-number.number c.args.session c.args.ask c.args.body is c.in_ok-number.ensures.ok)
    (asks_first l lost c.args.session c.args.ask c.args.body (event.Ask c.in_ok-number.number c.args.ask c.args.body) (Made c.in-Made.request) is)
    (rw c.in-Made.is at c.in_ok-request.ensures.ok) refl)

pub returns : goal.returns
returns g c = λ l lost is.
    asks_played g.D.Disk.seen c.args.self.now l lost _ c.in_ok-number.number c.in-Made.request c.number.new.self c.args.session c.args.ask c.args.body is
    c.in_ok-number.ensures.ok (λ used. true≢false (sym (c.is_used.ensures.1 used) ∙ c.if-is_used.false))
    (rw c.in-Made.is at c.in_ok-request.ensures.ok) c.in_ok-make.ensures.ok refl c.quiet.result c.quiet.ensures
