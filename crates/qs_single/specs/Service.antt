-- The plain service: what one client's requests are answered, one after the other, and what each makes of the image.
-- There are no blocks in it, only contents.
use Rattle.std.specs.Prelude.{◌≡◌, ℕ, ◌<◌, ◌⊎◌, Bool, true, false, List, length, replicate, Some}
use Rattle.qs_bytes.specs.Pieces.{part, overlay}
use Rattle.qs_bytes.specs.declared.ask.Ask.{Ask}
use Rattle.qs_bytes.specs.declared.ask.Errno.TheVariants.{Io}
use Rattle.qs_bytes.specs.declared.ask.Kind.{Kind}
use Rattle.qs_bytes.specs.declared.ask.Kind.TheVariants.{Zero}
use Rattle.qs_bytes.specs.declared.ask.Verdict.{Verdict}
use Rattle.qs_bytes.specs.declared.ask.Verdict.TheVariants.{Got, Fine, Refused}
use Rattle.qs_outside.specs.Blocks.{Seen, Same}
use Rattle.qs_outside.specs.Faults.{Rose}
use Rattle.qs_image.specs.Image.{AllTell, IsFrontWritten, RoseAt, SameDisks, block_past, content, disk}
use Rattle.qs_part.specs.declared.graph.Route.{Route}
use Rattle.qs_model.specs.Requests.{is_flush, stores_bytes}
use Rattle.qs_verdicts.specs.Stories.{Given}
use Rattle.qs_verdicts.specs.Verdicts.{MayWork, verdict_by_way}

-- the way to a whole image of this size
abbrev pub whole_route : ℕ → Bool → Route
whole_route size writable = record {
  offset = 0;
  size = size;
  writable = writable;
  groups = replicate 8 (0, 0);
  count = 0;
}

-- Which answers a request may get: the first line of the table of replies that applies, where its memory was given or
-- not and a disk failed or not. Memory is refused only to a request of some length. A READ that is Got has as many
-- bytes as it asked for.
pub record MayGet (size : ℕ) (writable : Bool) (a : Ask) (v : Verdict) : Type 0 where
  pub buffered : Bool
  pub fault : Bool
  pub got : List ℕ
  pub line : verdict_by_way a buffered (Given (whole_route size writable)) fault got ≡ Some v
  pub wants : buffered ≡ false → 0 < a.length
  pub long : (bytes : List ℕ) → v ≡ Got bytes → length bytes ≡ a.length

-- the bytes that a request stores: a WRITE's own, and zeros of a WRITE_ZEROES
abbrev pub bytes_for : Kind → ℕ → List ℕ → List ℕ
bytes_for Zero n given = replicate n 0
bytes_for _ n given = given

abbrev pub bytes_stored : Ask → List ℕ → List ℕ
bytes_stored a given = bytes_for a.kind a.length given

-- From a content, a request with this answer leads to the next: a READ has the bytes that it covers, a WRITE or
-- WRITE_ZEROES sets just these, one that a disk failed a front of them at most; nothing else changes anything (NBD
-- proto.md, "Request types").
abbrev pub LeadsTo : List ℕ → Ask → List ℕ → Verdict → List ℕ → Type 0
LeadsTo old a given (Got bytes) new = (bytes ≡ part old a.offset a.length) × (new ≡ old)
LeadsTo old a given Fine new = ((stores_bytes a.kind ≡ true) × (new ≡ overlay old a.offset (bytes_stored a given)))
    ⊎ ((stores_bytes a.kind ≡ false) × (new ≡ old))
LeadsTo old a given (Refused Io) new = (new ≡ old)
    ⊎ ((stores_bytes a.kind ≡ true) × IsFrontWritten old a.offset (bytes_stored a given) new)
LeadsTo old a given other new = new ≡ old

-- A disk failed: one that has a block which the request covers, or for a FLUSH any.
abbrev pub HasRisen : List Seen → Ask → List Seen → Type 0
HasRisen old a new =
    ((is_flush a.kind ≡ true) × ((k : ℕ) × ((k < 8) × Rose (disk old k).faults (disk new k).faults)))
    ⊎ RoseAt old a.offset a.length new

-- What one request made of the disks. EIO has the raised count of a disk. A request that neither stores nor syncs
-- changes nothing that a crash may leave. One that is refused but for EIO calls no disk.
pub record Called (old : List Seen) (a : Ask) (given : List ℕ) (v : Verdict) (new : List Seen) : Type 0 where
  pub leads : AllTell old → LeadsTo (content old) a given v (content new)
  pub past : AllTell old → stores_bytes a.kind ≡ false → is_flush a.kind ≡ false →
      Same (block_past old) (block_past new)
  pub uncalled : (MayWork v → ⊥) → new ≡ old
  pub same : SameDisks old new
  pub fault : v ≡ Refused Io → HasRisen old a new
