use Rattle.std.proofs.Common.{◌≡◌, ap, ◌∙◌, map, string_bytes, refl}
use Rattle.serde_json.specs.View.{members_view}
use Rattle.qs_qmp_arguments.specs.Arguments.{keys_of}
use Rattle.qs_qmp_arguments.proofs.Lists.{keys_listed}
use Rattle.qs_qmp_arguments.proofs.keys.ArgumentKeys.first_other_of.Goals as goal

pub loop-key-init : goal.loop-key-init
loop-key-init c =
    let e : map string_bytes c.into_iter-key-iterator.result ≡ keys_of (members_view c.args.members.now.entries) =
    ap (λ ks. map string_bytes ks) (c.into_iter-key-iterator.ensures.into_iter_gives ∙ c.keys-key-items.ensures.rest) ∙ keys_listed c.args.members.now.entries in
    (tt, tt, rw e refl)
