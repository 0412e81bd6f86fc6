-- Rows of turns as they are opened.
use Rattle.std.specs.Prelude.{◌≡◌, ℕ, List, [], length, map}
use Rattle.std.specs.declared.snapshot.Snapshot.{Snapshot}
use Rattle.qs_outside.specs.Blocks.{Seen}
use Rattle.qs_part.specs.declared.group.GroupOp.{GroupOp}
use Rattle.qs_part.specs.declared.group.GroupReply.{GroupReply}
use Rattle.qs_part.specs.declared.runs.StripeAnswer.{StripeAnswer}
use Rattle.qs_part.specs.declared.runs.StripeCall.{StripeCall}
use Rattle.qs_group.specs.Table.{GroupValue, fresh as fresh_group}
use Rattle.qs_stripe.specs.Table.{StripeState, Opened, value_of}
use Rattle.qs_turn.specs.declared.view.View.{View}
use Rattle.qs_turn.specs.Names.{Name, Known}
use Rattle.qs_turn.specs.Words.{opening, seen, own, IsPassOf}
use Rattle.qs_turn_rows.specs.Rows.{Pairs, Each, IsAlone}

-- new turns with their first passes, which have seen no call
pub record AreNewTurns {P O R : Type 0} (ts : List (Name (Snapshot P))) (ks : List (Known (View P O R))) : Type 0 where
  pub turns : Pairs IsPassOf ts ks
  pub alone : Each IsAlone ks
  pub none_seen : Each (λ (k : Known (View P O R)). seen k ≡ []) ks
  pub none_own : Each (λ (k : Known (View P O R)). own k ≡ []) ks

-- n new groups
pub record OpensGroups (n : ℕ) (ts : List (Name (Snapshot GroupValue)))
    (ks : List (Known (View GroupValue GroupOp GroupReply))) : Type 0 where
  pub turns : AreNewTurns ts ks
  pub long : length ts ≡ n
  pub fresh : Each (λ (t : Name (Snapshot GroupValue)). opening t ≡ fresh_group) ts

-- the stripes of these disks, as they are opened
pub record OpensStripes {D : Type 0} (disk_seen : D → Seen) (disks : List D)
    (ts : List (Name (Snapshot (StripeState D)))) (ks : List (Known (View (StripeState D) StripeCall StripeAnswer))) :
    Type 0 where
  pub turns : AreNewTurns ts ks
  pub disks_are : map (λ (t : Name (Snapshot (StripeState D))). (opening t).disk) ts ≡ disks
  pub free : Each (λ (t : Name (Snapshot (StripeState D))). Opened (value_of disk_seen (opening t))) ts
