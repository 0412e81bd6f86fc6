-- A line of one event was done, or memory was refused behind the event.
use Rattle.std.proofs.Common.{◌≡◌, ℕ, ◌%◌, ◌^◌, List, [], ◌∷◌, ◌++◌, length, false, refl}
use Rattle.qs_outside.specs.Blocks.{Seen}
use Rattle.qs_part.specs.declared.event.Actor.{Actor}
use Rattle.qs_part.specs.declared.event.Event.TheVariants as event
use Rattle.qs_part.specs.declared.event.Outcome.{Outcome}
use Rattle.qs_script.specs.Prints.{session_line}
use Rattle.qs_script.specs.declared.actor.ScriptActor.{ScriptActor}
use Rattle.qs_script.specs.declared.line.Line.TheVariants as line
use Rattle.qs_script.specs.declared.print.SessionNews.TheVariants as news
use Rattle.qs_replay_lines.specs.declared.desk.Desk.{Desk}
use Rattle.qs_replay_lines.specs.declared.stop.Stop.TheVariants as stop
use Rattle.qs_calls.specs.Calls.{Call, Happened, Plays}
use Rattle.qs_replay_lines.specs.Effects.{IsActor, Played, Settles, Stopped, news_of, run_text, step_text}
use Rattle.qs_calls.specs.Goings.{RunsOut}
use Rattle.qs_replay_lines.specs.Tables.{GivesName, Names}
use Rattle.qs_replay_lines.specs.Numbers.{ended_by, quiet}
use Rattle.qs_replay_lines.specs.declared.told.LineTold.{LineTold}
use Rattle.qs_replay_lines.proofs.Numbers.{quiet_tells, run_tells, step_tells}
use Rattle.qs_replay_lines.proofs.Playing.{stopped_cut}

pub attach_played : {D : Type 0} (seen : D → Seen) (old : Desk D) (s e : List ℕ) (new : Desk D) (n : ℕ) (o : Outcome) (mid : Names) → GivesName old.table s n mid →
    Plays seen old.world (Happened (event.Attach n e) o ∷ []) new.world → new.table ≡ mid → new.out ≡ old.out ++ session_line s (news_of o) →
    (told : LineTold) → told ≡ quiet → Played seen old (line.Session s e) false told new
attach_played seen old s e new n o mid gives plays table out told told_is = record {
  calls = Happened (event.Attach n e) o ∷ [];
  text = session_line s (news_of o);
  is = record {
    plays = plays;
    does = record {
      made = event.Attach n e;
      mid = mid;
      outcome = o;
      event_is = (n, (gives, refl));
      calls_are = refl;
      notes = table;
      text_is = refl;
    };
  };
  printed = out;
  tells = quiet_tells (Happened (event.Attach n e) o ∷ []) told told_is refl refl;
}

pub end_played : {D : Type 0} (seen : D → Seen) (old : Desk D) (s : List ℕ) (new : Desk D) (n : ℕ) (o : Outcome) (mid : Names) → GivesName old.table s n mid →
    Plays seen old.world (Happened (event.Leave n) o ∷ []) new.world → new.table ≡ mid → new.out ≡ old.out ++ session_line s news.Left →
    (told : LineTold) → told ≡ quiet → Played seen old (line.End s) false told new
end_played seen old s new n o mid gives plays table out told told_is = record {
  calls = Happened (event.Leave n) o ∷ [];
  text = session_line s news.Left;
  is = record {
    plays = plays;
    does = record {
      made = event.Leave n;
      mid = mid;
      outcome = o;
      event_is = (n, (gives, refl));
      calls_are = refl;
      notes = table;
      text_is = refl;
    };
  };
  printed = out;
  tells = quiet_tells (Happened (event.Leave n) o ∷ []) told told_is refl refl;
}

pub step_played : {D : Type 0} (seen : D → Seen) (old : Desk D) (who : ScriptActor) (now : ℕ) (new : Desk D) (a : Actor) (o : Outcome) (mid : Names) →
    IsActor old.table who a mid → Plays seen old.world (Happened (event.Step a now) o ∷ []) new.world → Settles who o mid new.table →
    new.out ≡ old.out ++ step_text who o → (told : LineTold) → told ≡ record { steps = 1; ended = ended_by o } →
    Played seen old (line.Step who now) false told new
step_played seen old who now new a o mid is plays table out told told_is = record {
  calls = Happened (event.Step a now) o ∷ [];
  text = step_text who o;
  is = record {
    plays = plays;
    does = record {
      made = event.Step a now;
      mid = mid;
      outcome = o;
      event_is = (a, (is, refl));
      calls_are = refl;
      notes = table;
      text_is = refl;
    };
  };
  printed = out;
  tells = step_tells a now o told told_is;
}

pub run_played : {D : Type 0} (seen : D → Seen) (old : Desk D) (who : ScriptActor) (now : ℕ) (new : Desk D) (a : Actor) (o : Outcome) (mid : Names) (calls : List Call) →
    IsActor old.table who a mid → Plays seen old.world calls new.world → RunsOut (event.Step a now) calls o → Settles who o mid new.table →
    new.out ≡ old.out ++ run_text who o → (told : LineTold) (count : ℕ) →
    count ≡ length calls % 2 ^ 64 → told ≡ record { steps = count; ended = ended_by o } → Played seen old (line.Run who now) false told new
run_played seen old who now new a o mid calls is plays out table printed told count counted told_is = record {
  calls = calls;
  text = run_text who o;
  is = record {
    plays = plays;
    does = record {
      made = event.Step a now;
      mid = mid;
      outcome = o;
      event_is = (a, (is, refl));
      calls_are = out;
      notes = table;
      text_is = refl;
    };
  };
  printed = printed;
  tells = run_tells a now o calls told count out counted told_is;
}

pub attach_cut : {D : Type 0} (seen : D → Seen) (old : Desk D) (s e : List ℕ) (new : Desk D) (n : ℕ) (o : Outcome) (mid : Names) → GivesName old.table s n mid →
    Plays seen old.world (Happened (event.Attach n e) o ∷ []) new.world → new.out ≡ old.out → Stopped seen old (line.Session s e) stop.Memory new
attach_cut seen old s e new n o mid gives plays out =
    stopped_cut seen old (line.Session s e) new (Happened (event.Attach n e) o ∷ []) (event.Attach n e) mid false (n, (gives, refl)) (o, refl) plays out

pub end_cut : {D : Type 0} (seen : D → Seen) (old : Desk D) (s : List ℕ) (new : Desk D) (n : ℕ) (o : Outcome) (mid : Names) → GivesName old.table s n mid →
    Plays seen old.world (Happened (event.Leave n) o ∷ []) new.world → new.out ≡ old.out → Stopped seen old (line.End s) stop.Memory new
end_cut seen old s new n o mid gives plays out =
    stopped_cut seen old (line.End s) new (Happened (event.Leave n) o ∷ []) (event.Leave n) mid false (n, (gives, refl)) (o, refl) plays out

pub step_cut : {D : Type 0} (seen : D → Seen) (old : Desk D) (who : ScriptActor) (now : ℕ) (new : Desk D) (a : Actor) (o : Outcome) (mid : Names) →
    IsActor old.table who a mid → Plays seen old.world (Happened (event.Step a now) o ∷ []) new.world → new.out ≡ old.out →
    Stopped seen old (line.Step who now) stop.Memory new
step_cut seen old who now new a o mid is plays out =
    stopped_cut seen old (line.Step who now) new (Happened (event.Step a now) o ∷ []) (event.Step a now) mid false (a, (is, refl)) (o, refl) plays out
