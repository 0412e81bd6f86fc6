use Rattle.std.proofs.Common.{None, false, refl, ap, ◌∙◌, sym, List, ℕ, length}
use Rattle.qs_request_state.specs.Kept.{KeptPads}
use Rattle.qs_request.proofs.Made.{made_request, made_client, made_free, given_length, some_blocks}
use Rattle.qs_request.proofs.machine.Machine.new.Goals as goal

pub returns-clause-request : goal.returns-clause-request
returns-clause-request c =
    made_request (record {
      session = c.args.session;
      export = c.args.export;
      ask = c.args.ask;
      buffered = c.is_buffered-buffered.result;
      route = None;
      shape = c.args.shape;
      dropped = false;
      stage = c.first_stage.result;
      body = c.given.result;
      work = c.parted-work.result.0;
      pads = c.parted-work.result.1;
      waits = false;
      answered = false;
      alloc = c.args.alloc;
    }) _
    (made_client c.args.session c.args.ask c.args.export c.args.body c.args.blocks c.given.result c.is_buffered-buffered.result c.given.ensures c.is_buffered-buffered.ensures)
    refl (ap (λ (k : KeptPads). k.pads) c.parted-work.ensures.pads) c.first_stage.ensures

pub returns-clause-free : goal.returns-clause-free
returns-clause-free c =
    made_free _ c.requires.shape refl refl c.first_stage.ensures
    (λ buffered wants. ap (λ (xs : List ℕ). length xs) c.given.ensures
    ∙ given_length c.args.ask c.args.body c.args.blocks c.requires.body (sym c.is_buffered-buffered.ensures ∙ buffered) wants)
    (λ buffered wants. c.parted-work.ensures.align (some_blocks c.args.ask c.args.body c.args.blocks wants (sym c.is_buffered-buffered.ensures ∙ buffered)))
    (λ buffered wants. c.parted-work.ensures.work (some_blocks c.args.ask c.args.body c.args.blocks wants (sym c.is_buffered-buffered.ensures ∙ buffered)))
