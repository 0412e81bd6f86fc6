use Rattle.std.proofs.Common.{◌≡◌, ℕ, ◌<◌, List, ◌∷◌, length, string_bytes, refl, sym, ap, ◌∙◌, arith, rules, None}
use Rattle.qs_keyval.specs.Cutting.{comma, sides, split_first}
use Rattle.qs_keyval.proofs.Fronts.{so_far_none, so_far_more, front_ended, front_last, splits_shorter}
use Rattle.qs_keyval.proofs.cutting.cut_first.Goals as goal

pub loop-front-init : goal.loop-front-init
loop-front-init c = (c.utf8.word, rw c.new-text.ensures.bytes (so_far_none c.args.word.now))

pub returns-in-None-clause-items : goal.returns-in-None-clause-items
returns-in-None-clause-items c =
    let e : split_first comma c.loop-front.rest.now ≡ sides c.in-Some.front.now c.in-Some.behind.now = sym c.in-Some.ensures in
    rw c.in_ok-push_str.ensures.bytes (front_ended c.args.word.now (string_bytes c.loop-front.text) c.loop-front.rest.now c.in-Some.front.now c.in-Some.behind.now
    c.loop-front.invariant.1 e c.in-None.ensures).items

pub returns-in-None-clause-shorter : goal.returns-in-None-clause-shorter
returns-in-None-clause-shorter c =
    let e : split_first comma c.loop-front.rest.now ≡ sides c.in-Some.front.now c.in-Some.behind.now = sym c.in-Some.ensures in
    (front_ended c.args.word.now (string_bytes c.loop-front.text) c.loop-front.rest.now c.in-Some.front.now c.in-Some.behind.now
    c.loop-front.invariant.1 e c.in-None.ensures).shorter

pub loop-front-preserved : goal.loop-front-preserved
loop-front-preserved c =
    let e : split_first comma c.loop-front.rest.now ≡ sides c.in-Some.front.now c.in-Some.behind.now = sym c.in-Some.ensures in
    let m : c.in-Some.behind.now ≡ comma ∷ c.in-Some-behind_comma.more.now = c.in-Some-behind_comma.ensures in (
      search rules,
      rw c.in_ok-push_str-in-Some-behind_comma.ensures.bytes (rw c.in_ok-push_str.ensures.bytes
          (so_far_more c.args.word.now (string_bytes c.loop-front.text) c.loop-front.rest.now c.in-Some.front.now c.in-Some.behind.now c.in-Some-behind_comma.more.now
          c.loop-front.invariant.1 e m)),
    )

pub loop-front-smaller : goal.loop-front-smaller
loop-front-smaller c =
    let e : split_first comma c.loop-front.rest.now ≡ sides c.in-Some.front.now c.in-Some.behind.now = sym c.in-Some.ensures in
    let m : c.in-Some.behind.now ≡ comma ∷ c.in-Some-behind_comma.more.now = c.in-Some-behind_comma.ensures in
    let s : length c.in-Some.behind.now < length c.loop-front.rest.now = splits_shorter c.loop-front.rest.now c.in-Some.front.now c.in-Some.behind.now e in
    let l : length c.in-Some-behind_comma.more.now < length c.loop-front.rest.now = omega (arith, s, ap (λ (xs : List ℕ). length xs) m) in l

pub returns-clause-items : goal.returns-clause-items
returns-clause-items c =
    let e : split_first comma c.loop-front.rest.now ≡ None = sym (c.split_at.ensures) ∙ rw c.in_default.is refl in
    rw c.in_ok-push_str-2.ensures.bytes (front_last c.args.word.now (string_bytes c.loop-front.text) c.loop-front.rest.now c.requires c.loop-front.invariant.1 e).items
