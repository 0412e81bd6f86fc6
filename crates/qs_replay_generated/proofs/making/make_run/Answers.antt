-- The next line was done, or the run ends.
use Rattle.qs_generate.specs.Generated.{made_next}
use Rattle.qs_replay_generated.specs.Making.{place}
use Rattle.qs_replay_generated.proofs.Chains.{breaks, by_live, ended, is_made, next, so_far_more}
use Rattle.qs_replay_generated.proofs.Lines.{plain}
use Rattle.qs_replay_generated.proofs.making.make_run.Goals as goal

pub do_made-requires : goal.do_made-requires
do_made-requires g c =
    let line = by_live c.lines.run c.next_line.new.self c.as_slice.result.now c.lines.live.items _ c.as_slice.ensures.value c.in-Some.ensures.line in
    is_made (made_next c.lines.run c.lines.live.items) c.in-Some.made (plain c.lines.run c.lines.live.items) (next (made_next c.lines.run c.lines.live.items) c.in-Some.made line.line)

pub lines-preserved : goal.lines-preserved
lines-preserved g c =
    let line = by_live c.lines.run c.next_line.new.self c.as_slice.result.now c.lines.live.items _ c.as_slice.ensures.value c.in-Some.ensures.line in
    let n = next (made_next c.lines.run c.lines.live.items) c.in-Some.made line.line in
    let done = c.in_ok-do_made.ensures n.line n.comes in
    so_far_more g.D.Disk.seen _ (place c.lines.run c.lines.live.items c.lines.desk) _ c.lines.counts _ done.0 c.lines.invariant (record {
      line = n.line;
      is_next = n.is;
      lost = done.1;
      text = done.2;
      is = done.3.0;
      run_is = line.after;
      live_is = done.3.1;
    }) done.3.2

pub returns-in_err-do_made : goal.returns-in_err-do_made
returns-in_err-do_made g c =
    let line = by_live c.lines.run c.next_line.new.self c.as_slice.result.now c.lines.live.items _ c.as_slice.ensures.value c.in-Some.ensures.line in
    let n = next (made_next c.lines.run c.lines.live.items) c.in-Some.made line.line in
    let left = c.in_err-do_made.ensures n.line n.comes in
    breaks g.D.Disk.seen _ (place c.lines.run c.lines.live.items c.lines.desk) _ c.lines.counts _ c.in_err-do_made.field-0.0 _ c.from_residual.ensures.1 left.1.2 c.lines.invariant (record {
      line = n.line;
      is_next = n.is;
      cut = left.0;
      plays = left.1.0;
      why = left.1.1;
    })

pub returns : goal.returns
returns g c =
    let line = by_live c.lines.run c.next_line.new.self c.as_slice.result.now c.lines.live.items _ c.as_slice.ensures.value c.in_default.ensures.line in
    (c.lines.run, (c.lines.invariant, ended (made_next c.lines.run c.lines.live.items).0 line.line))
