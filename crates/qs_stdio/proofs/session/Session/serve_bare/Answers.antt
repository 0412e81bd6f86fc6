-- It was answered without data.
use Rattle.std.proofs.Common.{[]}
use Rattle.qs_stdio.proofs.Answering.{bare_body}
use Rattle.qs_stdio.proofs.session.Session.serve_bare.Goals as goal

pub returns-in-Some-clause-bare : goal.returns-in-Some-clause-bare
returns-in-Some-clause-bare g c = λ writable rests. record {
  verdict = c.in-Some.verdict;
  does = c.in-Some.ensures.does writable [] rests (bare_body c.args.ask.now c.read_buffer-body.result c.requires.bare c.read_buffer-body.ensures);
  puts = c.in-Some.ensures.puts;
}
