-- The core as it is made is sound, and stands for the opening state of the model.
use Rattle.std.proofs.Common.{◌≡◌, get_or, ℕ, zero, suc, ◌<◌, List, [], ◌∷◌, length, map, Bool, true, ◌&&◌, refl, sym, ◌∙◌, ap, arith}
use Rattle.std.specs.Prelude.{Some, None}
use Rattle.std.specs.List.{AllByRecursion}
use Rattle.std.proofs.lemmas.List.{length-map}
use Rattle.qs_outside.specs.Blocks.{Seen}
use Rattle.qs_outside.specs.Rigged.{plans_of}
use Rattle.qs_part.specs.declared.stripe.Side.{Side}
use Rattle.qs_image.specs.Image.{disk, align_of, size_of}
use Rattle.qs_image.specs.Opening.{IsImage, IsAlike}
use Rattle.qs_part.specs.declared.graph.GraphOp.{GraphOp}
use Rattle.qs_part.specs.declared.graph.GraphOp.TheVariants.{ExportAdd}
use Rattle.qs_part.specs.declared.graph.GraphReply.TheVariants.{Added}
use Rattle.qs_graph.specs.Exports.{export_at}
use Rattle.qs_graph.specs.Table.{GraphValue, fresh as fresh_graph, answers as graph_answers}
use Rattle.qs_graph.proofs.Rows.{after_length}
use Rattle.qs_model.specs.Acts.{Exported}
use Rattle.qs_world.specs.Events.{Does}
use Rattle.qs_world.proofs.Coming.{exported_does}
use Rattle.qs_world.proofs.Handling.{renewed}
use Rattle.qs_graph.proofs.Standing.{nobody as no_export}
use Rattle.qs_model.specs.Worlds.{Hold}
use Rattle.qs_bytes.specs.Geometry.{stripe_of}
use Rattle.qs_model.specs.Laws.{opening_world}
use Rattle.qs_request_state.specs.declared.shape.Shape.{Shape}
use Rattle.qs_stripe.specs.Table.{StripeState, value_of as stripe_value, Opened}
use Rattle.qs_tracker.specs.Table.{TrackerValue, fresh as fresh_tracker}
use Rattle.qs_world.specs.Images.{stripe_at, all_tell}
use Rattle.qs_world.specs.Openings.{Exports, HasNoExport, IsOpened, opening_over, tells_of}
use Rattle.qs_world.specs.Sound.{IsSound, IsStripe}
use Rattle.qs_world.specs.Stands.{Stands}
use Rattle.qs_world.specs.Values.{WorldValue, stripes_of}

-- a core without requests and sessions, over these disks
pub record IsFresh {D : Type 0} (seen : D → Seen) (disks : List D) (file : List ℕ) (read_only : Bool) (w : WorldValue D) : Type 0 where
  pub image : IsImage (map seen disks)
  pub shape : w.shape ≡ record { align = align_of (map seen disks); size = size_of (map seen disks) }
  pub next : w.next ≡ 0
  pub requests : w.requests ≡ []
  pub sessions : w.sessions ≡ []
  pub graph : w.graph ≡ fresh_graph (size_of (map seen disks)) file read_only
  pub tracker : w.tracker ≡ fresh_tracker 0
  pub stripes : map (λ s. s.disk) w.stripes ≡ disks
  pub free : AllByRecursion (λ s. Opened (stripe_value seen s)) w.stripes

-- a stripe's disk is the disk of its number
pub disk_of : {D : Type 0} (seen : D → Seen) (ss : List (StripeState D)) (j : ℕ) →
    (stripe_at (map (stripe_value seen) ss) j).disk ≡ disk (map seen (map (λ s. s.disk) ss)) j
disk_of seen [] zero = refl
disk_of seen [] (suc j) = refl
disk_of seen (s ∷ ss) zero = refl
disk_of seen (s ∷ ss) (suc j) = disk_of seen ss j

-- nobody holds a block
hold_of : {D : Type 0} (seen : D → Seen) (ss : List (StripeState D)) (j k : ℕ) (side : Side) → AllByRecursion (λ s. Opened (stripe_value seen s)) ss →
    (stripe_at (map (stripe_value seen) ss) j).hold k side ≡ None
hold_of seen [] zero k side free = refl
hold_of seen [] (suc j) k side free = refl
hold_of seen (s ∷ ss) zero k side free = free.0.free k side
hold_of seen (s ∷ ss) (suc j) k side free = hold_of seen ss j k side free.1

-- nothing was stored
clean_of : {D : Type 0} (seen : D → Seen) (ss : List (StripeState D)) (j : ℕ) → AllByRecursion (λ s. Opened (stripe_value seen s)) ss →
    (stripe_at (map (stripe_value seen) ss) j).clean ≡ true
clean_of seen [] zero all = refl
clean_of seen [] (suc j) all = refl
clean_of seen (s ∷ ss) zero all = all.0.clean
clean_of seen (s ∷ ss) (suc j) all = clean_of seen ss j all.1

none_some : (b : ℕ) → None ≡ Some b → ⊥
none_some b e = cc

none_hold : (h : Hold) → None ≡ Some h → ⊥
none_hold h e = cc

disk_here : {D : Type 0} (seen : D → Seen) (disks : List D) (w : WorldValue D) (j : ℕ) → map (λ s. s.disk) w.stripes ≡ disks →
    (stripe_at (stripes_of seen w) j).disk ≡ disk (map seen disks) j
disk_here seen disks w j is = disk_of seen w.stripes j ∙ ap (λ (ds : List _). disk (map seen ds) j) is

-- the stripes tell their content where the disks do
tells_same : {D : Type 0} (seen : D → Seen) (ss : List (StripeState D)) → tells_of (map seen (map (λ s. s.disk) ss)) ≡ all_tell (map (stripe_value seen) ss)
tells_same seen [] = refl
tells_same seen (s ∷ ss) = ap (λ (b : Bool). (seen s.disk).tells && b) (tells_same seen ss)

pub fresh_stands : {D : Type 0} (seen : D → Seen) (disks : List D) (file : List ℕ) (read_only : Bool) (w : WorldValue D) → IsFresh seen disks file read_only w →
    Stands seen w (opening_world (opening_over (map seen disks) file read_only))
fresh_stands seen disks file read_only w f = record {
  tells = sym (ap (λ (ds : List _). tells_of (map seen ds)) f.stripes) ∙ tells_same seen w.stripes;
  next = sym f.next;
  request = λ r. rw f.requests refl;
  session = λ s. rw f.sessions refl;
  graph = sym f.graph;
  tracker = sym f.tracker;
  image = record {
    now = λ tell b. sym (ap (λ (d : Seen). d.now b) (disk_here seen disks w (stripe_of b) f.stripes));
    past = λ tell b. sym (ap (λ (d : Seen). d.past b) (disk_here seen disks w (stripe_of b) f.stripes));
    held = λ b h. (
      λ e. absurd (none_hold h e),
      λ e. absurd (none_some b (sym (hold_of seen w.stripes (stripe_of b) h.place h.side f.free) ∙ e)),
    );
    here = λ j k side b e. absurd (none_some b (sym (hold_of seen w.stripes j k side f.free) ∙ e));
    clean = λ j. sym (clean_of seen w.stripes j f.free);
  };
  plans = λ j. sym (ap (λ (d : Seen). plans_of d.planned) (disk_here seen disks w j f.stripes));
}

many : {D : Type 0} (seen : D → Seen) (disks : List D) (w : WorldValue D) → length (map seen disks) ≡ 8 → map (λ s. s.disk) w.stripes ≡ disks → length w.stripes ≡ 8
many seen disks w long is = sym (length-map w.stripes (λ s. s.disk)) ∙ ap length is ∙ sym (length-map disks seen) ∙ long

pub fresh_sound : {D : Type 0} (seen : D → Seen) (disks : List D) (file : List ℕ) (read_only : Bool) (w : WorldValue D) → IsFresh seen disks file read_only w → IsSound seen w
fresh_sound seen disks file read_only w f = record {
  shape = rw f.shape (record { align = f.image.1.0; whole = f.image.1.1; small = f.image.1.2 });
  count = many seen disks w f.image.0.0 f.stripes;
  stripes = λ j h. stripe j (f.image.0.1 j h);
  size = ap (λ (v : _). v.size) f.graph ∙ sym (ap (λ (s : Shape). s.size) f.shape);
  places = ap (λ (v : _). length v.places) f.graph;
  seats = ap (λ (v : TrackerValue). length v.seats) f.tracker;
  requests = rw f.requests tt;
  numbers = rw f.requests tt;
  sessions = rw f.sessions tt;
  model = (opening_world (opening_over (map seen disks) file read_only), fresh_stands seen disks file read_only w f);
}
  where
    stripe : (j : ℕ) → IsAlike (map seen disks) j → IsStripe seen w j
    stripe j alike =
        ap (λ (d : Seen). record { stripe = d.stripe; align = d.align; size = d.size }) (disk_here seen disks w j f.stripes)
        ∙ ap (λ (n : ℕ). record { stripe = n; align = (disk (map seen disks) j).align; size = (disk (map seen disks) j).size }) alike.stripe
        ∙ ap (λ (n : ℕ). record { stripe = j; align = n; size = (disk (map seen disks) j).size }) alike.align
        ∙ ap (λ (n : ℕ). record { stripe = j; align = align_of (map seen disks); size = n }) alike.size
        ∙ ap (λ (s : Shape). record { stripe = j; align = s.align; size = s.size }) (sym f.shape)

pub fresh_opened : {D : Type 0} (seen : D → Seen) (disks : List D) (file : List ℕ) (read_only : Bool) (w : WorldValue D) → IsFresh seen disks file read_only w →
    IsOpened seen disks file read_only w
fresh_opened seen disks file read_only w f = record {
  image = f.image;
  shape = f.shape;
  next = f.next;
  requests = f.requests;
  sessions = f.sessions;
  graph = f.graph;
  tracker = f.tracker;
  stripes = f.stripes;
  free = f.free;
  stands = fresh_stands seen disks file read_only w f;
}

-- the first disk, by index
pub first_disk : {D : Type 0} (seen : D → Seen) (disks : List D) (d : D) → 0 < length disks → d ≡ get_or disks 0 d → disk (map seen disks) 0 ≡ seen d
first_disk seen [] d some is = absurd (omega arith)
first_disk seen (x ∷ xs) d some is = ap seen (sym is)

-- an export was made
pub exported_all : {D : Type 0} (seen : D → Seen) (old : WorldValue D) (name : List ℕ) (writable : Bool) (e : ℕ) (graph : GraphValue) → IsSound seen old →
    graph_answers old.graph (ExportAdd name name old.graph.file writable true) (Added e) graph → graph.size ≡ old.graph.size →
    Exports seen old name writable (record old { graph = graph }) × IsSound seen (record old { graph = graph })
exported_all {D = D} seen old name writable e graph sound row size =
    let new : WorldValue D = record old { graph = graph } in
    let op : GraphOp = ExportAdd name name old.graph.file writable true in
    let does : Does seen old (Exported op e) new = exported_does seen old new op e (record { shape = refl; tracker = refl; stripes = refl }) refl refl refl row in (
      record {
        place = e;
        does = does;
        same = ap (λ (v : GraphValue). record old { graph = v }) row.1;
      },
      renewed seen old new (Exported op e) sound (record {
        shape = refl;
        tracker = refl;
        stripes = refl;
        size = size;
        places = ap (λ (v : GraphValue). length v.places) row.1 ∙ after_length old.graph op (Added e);
        requests = sound.requests;
        numbers = sound.numbers;
        sessions = sound.sessions;
      }) does,
    )

-- a new core has no export
pub opened_without : {D : Type 0} (seen : D → Seen) (disks : List D) (file : List ℕ) (read_only : Bool) (w : WorldValue D) →
    IsOpened seen disks file read_only w → HasNoExport w
opened_without seen disks file read_only w o e = ap (λ (g : GraphValue). export_at g.places e) o.graph ∙ no_export 64 e
