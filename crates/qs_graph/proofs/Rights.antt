-- Exports that don't conflict share what the other takes.
use Rattle.std.proofs.Common.{◌≡◌, Bool, true, false, refl}
use Rattle.std.specs.Prelude.{IsTrue}
use Rattle.qs_graph.specs.declared.export.Export.{Export}
use Rattle.qs_graph.specs.declared.export.Right.{Right}
use Rattle.qs_graph.specs.declared.export.Right.TheVariants.{Read, Write}
use Rattle.qs_graph.specs.Exports.{conflicts, shares, takes}
use Rattle.qs_graph.specs.History.{SameExport}

-- each of two exports shares what the other takes
abbrev pub Share : Export → Export → Right → Type 0
Share x y right = (IsTrue (takes x right) → IsTrue (shares y right)) × (IsTrue (takes y right) → IsTrue (shares x right))

pub together : (x y : Export) → conflicts x y ≡ false → (right : Right) → Share x y right
together x y none Read = (λ _. refl, λ _. refl)
together x y none Write = go x.writable x.share_write y.writable y.share_write none
  where
    go : (a b c d : Bool) → conflicts (record x { writable = a; share_write = b }) (record y { writable = c; share_write = d }) ≡ false →
        (a ≡ true → d ≡ true) × (c ≡ true → b ≡ true)
    go true b c true none = (λ _. refl, go_back b c none)
      where
        go_back : (b c : Bool) → conflicts (record x { writable = true; share_write = b }) (record y { writable = c; share_write = true }) ≡ false →
            c ≡ true → b ≡ true
        go_back true c none h = refl
        go_back false false none h = cc
        go_back false true none h = cc
    go true true true false none = cc
    go true false true false none = cc
    go true b false false none = cc
    go false true c d none = (λ h. cc, λ _. refl)
    go false false false d none = (λ h. cc, λ h. cc)
    go false false true d none = cc

-- another number of clients changes no right
pub same-takes : (x y : Export) → SameExport x y → (right : Right) → takes y right ≡ takes x right
same-takes x y same Read = refl
same-takes x y same Write = cc

pub same-shares : (x y : Export) → SameExport x y → (right : Right) → shares y right ≡ shares x right
same-shares x y same Read = refl
same-shares x y same Write = cc

pub same-writable : (x y : Export) → SameExport x y → y.writable ≡ x.writable
same-writable x y same = cc
