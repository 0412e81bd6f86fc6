-- The name is found, or it is put behind the others.
use Rattle.std.proofs.Common.{inr, sym, ap, ◌∙◌, Bool, List, [], ◌∷◌, ◌++◌, ℕ, subst, if◌then◌else◌}
use Rattle.std.specs.FinMap.{from_entries}
use Rattle.std.specs.Prelude.{IfOk}
use Rattle.qs_replay_lines.specs.Tables.{GivesName, Names}
use Rattle.qs_replay_lines.proofs.Known.{found_known, gives_known, none_lacks, same_name}
use Rattle.qs_replay_lines.proofs.table.Table.number.Goals as goal

pub returns-in-Some-clause-ok : goal.returns-in-Some-clause-ok
returns-in-Some-clause-ok c =
    let at = found_known _ same_name c.self.inside.sessions.keys c.args.name c.in-Some.place (sym c.in-Some.ensures.index) in
    subst (λ (t : Names). IfOk c.as_number.result (λ n. GivesName t c.args.name n t)) c.self.view_is
    (gives_known _ c.args.name c.in-Some.place at c.as_number.result c.as_number.ensures)

pub returns-clause-ok : goal.returns-clause-ok
returns-clause-ok c =
    let known = c.self.inside.sessions.keys in
    let name = c.args.name in
    let lacks = none_lacks _ same_name known name (sym c.in_default.ensures.found) in
    let keys = c.in_ok-insert.ensures.keys ∙ ap (λ (b : Bool). if b then known else known ++ name ∷ []) (sym c.in_default.ensures.found) in
    let with_names : List (List ℕ) → Names = λ names. record { sessions = names; used = c.self.inside.used; live = from_entries c.self.inside.live.entries } in
    subst (λ (t : Names). GivesName t name c.in_ok-number.number (with_names c.insert.new.self.keys)) c.self.view_is
    (inr (lacks, c.in_ok-number.ensures ∙ c.len.ensures.len, ap with_names keys))
