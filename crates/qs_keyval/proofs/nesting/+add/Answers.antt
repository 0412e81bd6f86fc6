use Rattle.std.proofs.Common.{◌≡◌, ◌<◌, length, sym, rules, None}
use Rattle.serde_json.specs.View.{members_view}
use Rattle.qs_keyval.specs.Cutting.{sides, split_first}
use Rattle.qs_keyval.specs.Reading.{dot}
use Rattle.qs_keyval.proofs.Keys.{add_last, add_split, dot_shorter}
use Rattle.qs_keyval.proofs.nesting.+add.Goals as goal

pub returns-in_err-inner-in-Some : goal.returns-in_err-inner-in-Some
returns-in_err-inner-in-Some t c =
    rw (add_split c.args.before.now c.args.key.now c.args.value.now (members_view c.args.members.entries) c.in-Some.part.now c.in-Some.parts.now (sym c.in-Some.ensures))
    (search rules)

pub add-requires : goal.add-requires
add-requires t c =
    let e : split_first dot c.args.key.now ≡ sides c.in-Some.part.now c.in-Some.parts.now = sym c.in-Some.ensures in
    let l : length c.in-Some.parts.now < length c.args.key.now = dot_shorter c.args.key.now c.in-Some.part.now c.in-Some.parts.now e in
    search (rules, l)

pub returns-in_err-inner-in-Some-2 : goal.returns-in_err-inner-in-Some-2
returns-in_err-inner-in-Some-2 t c =
    rw (add_split c.args.before.now c.args.key.now c.args.value.now (members_view c.args.members.entries) c.in-Some.part.now c.in-Some.parts.now (sym c.in-Some.ensures))
    (search rules)

pub returns-in-None : goal.returns-in-None
returns-in-None t c =
    let e : split_first dot c.args.key.now ≡ None = sym c.in-None.ensures in
    rw (add_last c.args.before.now c.args.key.now c.args.value.now (members_view c.args.members.entries) e) c.set_at.ensures

pub returns-in_ok-inner-in-Some-2 : goal.returns-in_ok-inner-in-Some-2
returns-in_ok-inner-in-Some-2 t c =
    rw (add_split c.args.before.now c.args.key.now c.args.value.now (members_view c.args.members.entries) c.in-Some.part.now c.in-Some.parts.now (sym c.in-Some.ensures))
    (search rules)
