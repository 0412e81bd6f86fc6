use Rattle.std.proofs.Common.{◌≡◌, refl, ap, ◌∙◌, Bor, Option, Some, None, option_map}
use Rattle.std.specs.Option.{option_copied}
use Rattle.serde_json.specs.View.{view}
use Rattle.serde_json.specs.declared.value.Value.{Value}
use Rattle.serde_json.proofs.Views.{view-lookup}
use Rattle.qs_keyval.proofs.nesting.find.Goals as goal

view_of_ref : (r : Option (Bor Value)) → option_map (λ v. view v.now) r ≡ option_map view (option_copied r)
view_of_ref None = refl
view_of_ref (Some v) = refl

pub returns : goal.returns
returns c = view_of_ref c.get.result ∙ ap (option_map view) c.get.ensures.value ∙ view-lookup c.args.key.now c.args.members.now.entries
