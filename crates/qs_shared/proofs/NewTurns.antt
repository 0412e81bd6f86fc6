-- Rows of new turns, one more at a time.
use Rattle.std.proofs.Common.{◌≡◌, ℕ, ◌+◌, ◌<◌, List, [], ◌∷◌, ◌++◌, length, map, take, drop, get_or, refl, sym, ap, ◌∙◌, subst, append_assoc, append-nil, length-append, arith}
use Rattle.std.proofs.lemmas.List.{map-append}
use Rattle.std.specs.declared.snapshot.Snapshot.{Snapshot}
use Rattle.qs_outside.specs.Blocks.{Seen}
use Rattle.qs_part.specs.declared.group.GroupOp.{GroupOp}
use Rattle.qs_part.specs.declared.group.GroupReply.{GroupReply}
use Rattle.qs_part.specs.declared.runs.StripeAnswer.{StripeAnswer}
use Rattle.qs_part.specs.declared.runs.StripeCall.{StripeCall}
use Rattle.qs_group.specs.Table.{GroupValue, fresh as fresh_group}
use Rattle.qs_stripe.specs.Table.{StripeState, Opened, value_of}
use Rattle.qs_turn.specs.declared.view.View.{View}
use Rattle.qs_turn.specs.Names.{Name, Known}
use Rattle.qs_turn.specs.Words.{opening, seen, own, IsPassOf}
use Rattle.qs_turn_rows.specs.Rows.{Pairs, Each, IsAlone, Opened as OpenedTurn}
use Rattle.qs_turn_rows.proofs.Closes.{each_snoc}
use Rattle.qs_shared.specs.Rows.{AreNewTurns, OpensGroups, OpensStripes}

module _ {P O R : Type 0} where
  pub new_none : AreNewTurns {P = P} {O = O} {R = R} [] []
  new_none = record {
    turns = record { long = refl; each = λ i t k e d. absurd (cc) };
    alone = λ i k e. absurd (cc);
    none_seen = λ i k e. absurd (cc);
    none_own = λ i k e. absurd (cc);
  }

  pub new_more : (ts : List (Name (Snapshot P))) (ks : List (Known (View P O R))) (part : P) (ts' : List (Name (Snapshot P))) (ks' : List (Known (View P O R))) → AreNewTurns ts ks → OpenedTurn ts ks part ts' ks' → Pairs IsPassOf ts' ks'
      → Each IsAlone ks' → AreNewTurns ts' ks'
  new_more ts ks part ts' ks' new o turns alone = record {
    turns = turns;
    alone = alone;
    none_seen = subst (λ (l : List (Known (View P O R))). Each (λ (k : Known (View P O R)). seen k ≡ []) l) (sym o.passes) (each_snoc (λ (k : Known (View P O R)). seen k ≡ []) ks o.pass new.none_seen o.nothing_seen);
    none_own = subst (λ (l : List (Known (View P O R))). Each (λ (k : Known (View P O R)). own k ≡ []) l) (sym o.passes) (each_snoc (λ (k : Known (View P O R)). own k ≡ []) ks o.pass new.none_own o.nothing_own);
  }

pub groups_none : OpensGroups 0 [] []
groups_none = record { turns = new_none; long = refl; fresh = λ i t e. absurd (cc) }

pub groups_more : (n : ℕ) (ts : List (Name (Snapshot GroupValue))) (ks : List (Known (View GroupValue GroupOp GroupReply))) (part : GroupValue) (ts' : List (Name (Snapshot GroupValue))) (ks' : List (Known (View GroupValue GroupOp GroupReply)))
    → OpensGroups n ts ks → part ≡ fresh_group → OpenedTurn ts ks part ts' ks' → Pairs IsPassOf ts' ks' → Each IsAlone ks' → OpensGroups (n + 1) ts' ks'
groups_more n ts ks part ts' ks' g new o turns alone = record {
  turns = new_more ts ks part ts' ks' g.turns o turns alone;
  long = ap length o.turns ∙ length-append ts (o.turn ∷ []) ∙ ap (λ (m : ℕ). m + 1) g.long;
  fresh = subst (λ (l : List (Name (Snapshot GroupValue))). Each (λ (t : Name (Snapshot GroupValue)). opening t ≡ fresh_group) l) (sym o.turns)
      (each_snoc (λ (t : Name (Snapshot GroupValue)). opening t ≡ fresh_group) ts o.turn g.fresh (o.opens ∙ new));
}

module _ {D : Type 0} (disk_seen : D → Seen) where
  -- the turns of the stripes of the first disks, and the disks that are left
  pub record OpeningStripes (disks left : List D) (ts : List (Name (Snapshot (StripeState D)))) (ks : List (Known (View (StripeState D) StripeCall StripeAnswer))) : Type 0 where
    pub turns : AreNewTurns ts ks
    pub disks_are : map (λ (t : Name (Snapshot (StripeState D))). (opening t).disk) ts ++ left ≡ disks
    pub free : Each (λ (t : Name (Snapshot (StripeState D))). Opened (value_of disk_seen (opening t))) ts

  pub stripes_none : (disks : List D) → OpeningStripes disks disks [] []
  stripes_none disks = record { turns = new_none; disks_are = refl; free = λ i t e. absurd (cc) }

  pub stripes_more : (disks left left' : List D) (d : D) (ts : List (Name (Snapshot (StripeState D)))) (ks : List (Known (View (StripeState D) StripeCall StripeAnswer))) (part : StripeState D) (ts' : List (Name (Snapshot (StripeState D))))
      (ks' : List (Known (View (StripeState D) StripeCall StripeAnswer))) → OpeningStripes disks left ts ks → left ≡ d ∷ left' → part.disk ≡ d → Opened (value_of disk_seen part) → OpenedTurn ts ks part ts' ks' → Pairs IsPassOf ts' ks'
      → Each IsAlone ks' → OpeningStripes disks left' ts' ks'
  stripes_more disks left left' d ts ks part ts' ks' s next is free o turns alone = record {
    turns = new_more ts ks part ts' ks' s.turns o turns alone;
    disks_are = ap (λ (l : List D). l ++ left') (ap (map disk_of) o.turns ∙ map-append disk_of ts (o.turn ∷ []))
        ∙ append_assoc (map disk_of ts) (disk_of o.turn ∷ []) left'
        ∙ ap (λ (x : D). map disk_of ts ++ x ∷ left') (ap (λ (p : StripeState D). p.disk) o.opens ∙ is)
        ∙ ap (λ (l : List D). map disk_of ts ++ l) (sym next)
        ∙ s.disks_are;
    free = subst (λ (l : List (Name (Snapshot (StripeState D)))). Each is_opened l) (sym o.turns)
        (each_snoc is_opened ts o.turn s.free (subst (λ (p : StripeState D). Opened (value_of disk_seen p)) (sym o.opens) free));
  }
    where
      disk_of : Name (Snapshot (StripeState D)) → D
      disk_of t = (opening t).disk

      is_opened : Name (Snapshot (StripeState D)) → Type 0
      is_opened t = Opened (value_of disk_seen (opening t))

  pub stripes_all : (disks left : List D) (ts : List (Name (Snapshot (StripeState D)))) (ks : List (Known (View (StripeState D) StripeCall StripeAnswer))) → OpeningStripes disks left ts ks → left ≡ [] → OpensStripes disk_seen disks ts ks
  stripes_all disks left ts ks s none = record {
    turns = s.turns;
    disks_are = sym (append-nil (map (λ (t : Name (Snapshot (StripeState D))). (opening t).disk) ts)) ∙ ap (λ (l : List D). map (λ (t : Name (Snapshot (StripeState D))). (opening t).disk) ts ++ l) (sym none) ∙ s.disks_are;
    free = s.free;
  }

-- the first of some, and the others
pub taken_first : {A : Type 0} (xs : List A) (x : A) (rest : List A) → 0 < length xs → x ≡ get_or xs 0 x → rest ≡ take 0 xs ++ drop (0 + 1) xs → xs ≡ x ∷ rest
taken_first [] x rest some is others = absurd (omega arith)
taken_first {A} (y ∷ ys) x rest some is others = ap (λ (z : A). z ∷ ys) (sym is) ∙ ap (λ (l : List A). x ∷ l) (sym others)
