-- A line that crashes or plans a failure, done.
use Rattle.std.proofs.Common.{◌≡◌, ℕ, Bool, true, false, not, ◌&&◌, List, [], ◌∷◌, codes, refl, sym, subst, ◌∙◌, inr, append-nil}
use Rattle.qs_outside.specs.declared.crash.CrashChoice.{CrashChoice}
use Rattle.qs_outside.specs.Blocks.{Seen}
use Rattle.qs_outside.specs.declared.rigged_disk.Fail.{Fail}
use Rattle.qs_script.specs.declared.line.Line.TheVariants as line
use Rattle.qs_world.specs.Crashing.{Crashed, left_at}
use Rattle.qs_world.specs.Openings.{Exports, Planned}
use Rattle.qs_world.specs.Values.{WorldValue, stripes_of}
use Rattle.qs_calls.specs.Calls.{PowerFailed, Rigged, ExportMade, anew}
use Rattle.qs_replay_lines.specs.declared.desk.Desk.{Desk}
use Rattle.qs_replay_lines.specs.declared.stop.Stop.TheVariants as stop
use Rattle.qs_replay_lines.specs.Effects.{Played, Stopped}
use Rattle.qs_replay_lines.specs.Numbers.{quiet}
use Rattle.qs_replay_lines.specs.declared.told.LineTold.{LineTold}
use Rattle.qs_replay_lines.proofs.Numbers.{quiet_tells}

pub crash_played : {D : Type 0} (seen : D → Seen) (old : Desk D) (choice : CrashChoice) (new : Desk D) (mid : WorldValue D) (name : List ℕ) (writable : Bool) →
    Crashed seen old.world choice mid → name ≡ codes "disk" → writable ≡ not mid.graph.read_only → Exports seen mid name writable new.world →
    new.table ≡ old.table → new.out ≡ old.out → (told : LineTold) → told ≡ quiet → Played seen old (line.Crash choice) false told new
crash_played {D} seen old choice new mid name writable crash name_is writable_is made table out told told_is =
    let left : ℕ → List ℕ = left_at (stripes_of seen old.world) choice in
    let exports : Exports seen mid (codes "disk") (not mid.graph.read_only) new.world =
    subst (λ (b : Bool). Exports seen mid (codes "disk") b new.world) writable_is (subst (λ (n : List ℕ). Exports seen mid n writable new.world) name_is made) in
    record {
      calls = PowerFailed choice left ∷ ExportMade (anew mid.graph) exports.place ∷ [];
      text = [];
      is = record {
        plays = (mid, ((crash, refl), (new.world, (record { exports = exports; op_is = refl; place_is = refl }, refl))));
        does = record {
          left = left;
          op = anew mid.graph;
          place = exports.place;
          rests = record { calls_are = refl; text_is = refl; same = table };
        };
      };
      printed = out ∙ sym (append-nil old.out);
      tells = quiet_tells (PowerFailed choice left ∷ ExportMade (anew mid.graph) exports.place ∷ []) told told_is refl refl;
    }

-- memory was refused behind the crash
pub crash_cut : {D : Type 0} (seen : D → Seen) (old : Desk D) (choice : CrashChoice) (new : Desk D) (mid : WorldValue D) → Crashed seen old.world choice mid →
    new.world ≡ mid → new.out ≡ old.out → Stopped seen old (line.Crash choice) stop.Memory new
crash_cut seen old choice new mid crash same out =
    let left : ℕ → List ℕ = left_at (stripes_of seen old.world) choice in
    (PowerFailed choice left ∷ [], (inr (inr (left, refl)), (mid, ((crash, refl), same)), out))

-- an export that is writable where the file is
pub permitted : (read_only : Bool) → (not read_only && read_only) ≡ false
permitted true = refl
permitted false = refl

-- a failure was planned
pub plan_played : {D : Type 0} (seen : D → Seen) (old : Desk D) (j : ℕ) (kind : Fail) (new : Desk D) → Planned seen old.world j kind new.world →
    new.table ≡ old.table → new.out ≡ old.out → (told : LineTold) → told ≡ quiet → Played seen old (line.Fail j kind) false told new
plan_played seen old j kind new planned table out told told_is = record {
  calls = Rigged j kind ∷ [];
  text = [];
  is = record { plays = (new.world, (planned, refl)); does = record { calls_are = refl; text_is = refl; same = table } };
  printed = out ∙ sym (append-nil old.out);
  tells = quiet_tells (Rigged j kind ∷ []) told told_is refl refl;
}
