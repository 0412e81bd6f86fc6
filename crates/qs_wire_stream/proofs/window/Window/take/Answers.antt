-- The part without its front.
use Rattle.std.proofs.Common.{◌≡◌, ◌-◌, arith, ap, ◌∙◌, List, ℕ, drop, length}
use Rattle.qs_bytes.specs.Pieces.{part}
use Rattle.qs_bytes.proofs.Overlays.{length-part}
use Rattle.qs_stream.proofs.Parts.{part-drop}
use Rattle.qs_wire_stream.proofs.window.Window.take.Goals as goal

pub returns : goal.returns
returns c =
    let w = c.self.inside in
    let long : length (part w.bytes.items w.start (w.end - w.start)) ≡ w.end - w.start =
    length-part w.bytes.items w.start (w.end - w.start) (omega (arith, w.bytes.ok)) in
    part-drop w.bytes.items w.start w.end c.args.count (omega (arith, long, ap length c.self.view_is))
    ∙ ap (λ (xs : List ℕ). drop c.args.count xs) c.self.view_is
