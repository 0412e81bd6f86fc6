-- A replay is a function of its script and of what its disks held.
use Rattle.std.proofs.Common.{false, ◌≡◌, ◌<◌, ◌≤◌, ℕ, inl, inr, List, [], ◌∷◌, ◌++◌, length, map, refl, sym, subst, ap, ◌∙◌, arith, append-nil, append_assoc, length-append}
use Rattle.std.specs.Prelude.{Option, Some, IsTrue}
use Rattle.qs_status.specs.declared.status.Status.{Status}
use Rattle.qs_status.specs.declared.status.Status.TheVariants as status
use Rattle.qs_outside.specs.Blocks.{Seen}
use Rattle.qs_image.specs.Image.{align_of, block_now, disk}
use Rattle.qs_model.specs.Acts.{Exported}
use Rattle.qs_model.specs.Steps.{world_after}
use Rattle.qs_bytes.specs.Geometry.{stripe_of}
use Rattle.qs_model.specs.Worlds.{World}
use Rattle.qs_world.specs.Stands.{Stands}
use Rattle.qs_world.specs.Values.{WorldValue}
use Rattle.qs_world.proofs.Opening.{disk_of}
use Rattle.qs_calls.specs.Calls.{AreCalls, Call, Plays}
use Rattle.qs_calls.specs.Runs.{image_export, exported, opened_world}
use Rattle.qs_replay.specs.Runs.{IsReplayed, most_lines, first_scene}
use Rattle.qs_same_replay.specs.Same.{AreCalm, AreComparable, AreSame, IsSmooth}
use Rattle.qs_replay.specs.Scripts.{AllDone, EndsScript, ReachesLine, Replays, lines_of}
use Rattle.qs_replay_lines.specs.Tables.{Names, no_names}
use Rattle.qs_replay.proofs.Reaching.{splits_of}
use Rattle.qs_calls.proofs.Runs.{Starts, starts}
use Rattle.qs_same_replay.proofs.Calm.{undisturbed}
use Rattle.qs_same_replay.proofs.LeftAlike.{AreLeftAlike, left_alike, left_flip, left_front}
use Rattle.qs_same_replay.proofs.TwinFronts.{Ended, ends_one, fronts, further_never}
use Rattle.qs_same_replay.proofs.TwinLines.{Behind, given_calls, twin_texts}
use Rattle.qs_same_replay.proofs.TwinStarts.{place_one, twins_begin}
use Rattle.qs_same_replay.proofs.Twins.{Calmly, Twins, calm_parts, calmly, never_later}

-- the lines that were done are the first of the script
first_lines : {D : Type 0} (result : Status) (budget : ℕ) (lines texts : List (List ℕ)) (w : WorldValue D) (t : Names) → ReachesLine result budget lines texts w t →
    (rest : List (List ℕ)) × (lines ≡ texts ++ rest)
first_lines status.Done budget lines texts w t reach = ([], sym reach ∙ sym (append-nil texts))
first_lines (status.BadLine n) budget lines texts w t reach = (reach.1.0 ∷ reach.1.1, reach.1.2.0)
first_lines (status.NotNext n) budget lines texts w t reach = (reach.1.0 ∷ reach.1.1, reach.1.2.0)
first_lines status.Spent budget lines texts w t reach = reach.1
first_lines _ budget lines texts w t reach = reach

-- a smooth replay broke no line off that had calls
nothing_cut : {D : Type 0} (result : Status) (budget : ℕ) (texts : List (List ℕ)) (taken : List ℕ) (cut : List Call) (w : WorldValue D) (t : Names)
    (left : Option (List ℕ)) (waiting : List ℕ) → IsSmooth result → EndsScript result budget texts taken cut w t left waiting → cut ≡ []
nothing_cut status.Done budget texts taken cut w t left waiting smooth ends = ends.2
nothing_cut (status.BadLine n) budget texts taken cut w t left waiting smooth ends = ends.1.why.0
nothing_cut (status.NotNext n) budget texts taken cut w t left waiting smooth ends = ends.1.why.0
nothing_cut status.Spent budget texts taken cut w t left waiting smooth ends = ends.2
nothing_cut status.Memory budget texts taken cut w t left waiting smooth ends = absurd smooth
nothing_cut status.ReadFault budget texts taken cut w t left waiting smooth ends = absurd smooth
nothing_cut status.WriteFault budget texts taken cut w t left waiting smooth ends = absurd smooth
nothing_cut _ budget texts taken cut w t left waiting smooth ends = absurd ends

-- what the disks hold is what the model's blocks hold
held : {D : Type 0} (seen : D → Seen) (w : WorldValue D) (m : World) (disks : List D) → Stands seen w m → IsTrue m.tells → disks ≡ map (λ s. s.disk) w.stripes → (b : ℕ) →
    block_now (map seen disks) b ≡ m.image.now b
held {D} seen w m disks stands told is b =
    ap (λ (ds : List D). (disk (map seen ds) (stripe_of b)).now b) is ∙ sym (ap (λ (d : Seen). d.now b) (disk_of seen w.stripes (stripe_of b))) ∙ sym (stands.image.now told b)

-- One side of the comparison: how it ended, and the calm run of the model from the core with its export to what the core stands for.
record Side {D : Type 0} {seen : D → Seen} {disks : List D} {left sent : Option (List ℕ)} {result : Status} {disks1 : List D} {left1 sent1 : Option (List ℕ)}
    (one : IsReplayed seen disks left sent result disks1 left1 sent1) (A : ℕ) (m : World) (script : List ℕ) : Type 0 where
  pub ended : Ended script (lines_of script) most_lines one.replays.texts one.replays.world one.replays.names result
  pub model : World
  pub calm : Calmly A m one.replays.calls model
  pub stands : Stands seen one.replays.world model
  pub disks_are : disks1 ≡ map (λ s. s.disk) one.replays.world.stripes
  pub align : one.start.shape.align ≡ A
  pub begun : Stands seen one.start m

side : {D : Type 0} {seen : D → Seen} {disks : List D} {left sent : Option (List ℕ)} {result : Status} {disks1 : List D} {left1 sent1 : Option (List ℕ)}
    (one : IsReplayed seen disks left sent result disks1 left1 sent1) (script : List ℕ) → left ≡ Some script → IsSmooth result →
    AreCalm (align_of (map seen disks)) (exported (map seen disks) false one.run.place) one.run.elements one.run.fulls →
    Side one (align_of (map seen disks)) (exported (map seen disks) false one.run.place) script
side {D} {seen} {disks} {left} {sent} {result} one script told smooth calm =
    let r = one.replays in
    let A : ℕ = align_of (map seen disks) in
    let m : World = exported (map seen disks) false one.run.place in
    let s : Starts seen disks false one.begins.exports.place one.start = starts seen disks false one.start one.begins in
    let stands : Stands seen one.start m =
    subst (λ (p : ℕ). Stands seen one.start (exported (map seen disks) false p))
    (place_one (opened_world (map seen disks) false).graph (image_export false) one.run.place one.begins.exports.place one.run.run.0 s.may) s.stands in
    let none : r.cut ≡ [] = nothing_cut result most_lines r.texts r.taken r.cut r.world r.names one.after_all.flow.input.bytes one.after_all.flow.stream.waiting smooth r.ends in
    let whole : r.calls ++ r.cut ≡ r.calls = ap (λ (cs : List Call). r.calls ++ cs) none ∙ append-nil r.calls in
    let same : one.after_all.world ≡ r.world = subst (λ (cs : List Call). Plays seen r.world cs one.after_all.world) none r.cut_plays in
    record {
      ended = record {
        smooth = smooth;
        few = r.few;
        reach = one.reaches script told;
        cut = r.cut;
        taken = r.taken;
        left = one.after_all.flow.input.bytes;
        waiting = one.after_all.flow.stream.waiting;
        split = splits_of script r.taken left one.after_all.flow.input.bytes [] one.after_all.flow.stream.waiting told refl r.moved.takes;
        ends = r.ends;
      };
      model = world_after A m one.run.elements;
      calm = calmly A m r.calls one.run.elements (subst (λ (cs : List Call). AreCalls A cs one.run.elements) whole one.run.are) one.run.run.1
          (undisturbed seen A one.start one.after_all.world m (r.calls ++ r.cut) one.run.elements one.run.fulls s.align stands one.run.walked calm)
          (never_later (Exported (image_export false) one.run.place) one.run.elements one.run.besides.never_odd);
      stands = subst (λ (w : WorldValue D). Stands seen w (world_after A m one.run.elements)) same one.run.stands;
      disks_are = one.disks_are ∙ ap (λ (w : WorldValue D). map (λ s. s.disk) w.stripes) same;
      align = s.align;
      begun = stands;
    }

fewer : (budget : ℕ) (texts longer : List (List ℕ)) (x : List ℕ) (more : List (List ℕ)) → longer ≡ texts ++ x ∷ more → length longer ≤ budget → length texts < budget
fewer budget texts longer x more is few = omega (arith, few, ap length is, length-append texts (x ∷ more))

-- where one replay did the lines of the other, and perhaps more, it did the same
front_same : {D : Type 0} {seen : D → Seen} {disks others : List D} {left sent sent' : Option (List ℕ)} {result result' : Status}
    {disks1 others1 : List D} {left1 left2 sent1 sent2 : Option (List ℕ)} (one : IsReplayed seen disks left sent result disks1 left1 sent1)
    (two : IsReplayed seen others left sent' result' others1 left2 sent2) (A : ℕ) (m m' : World) (script : List ℕ) → Twins m m' → Side one A m script → Side two A m' script →
    AreLeftAlike one.replays.calls two.replays.calls → (rest : List (List ℕ)) → two.replays.texts ≡ one.replays.texts ++ rest → AreSame one two
front_same {D} {seen} {disks} {others} {left} {sent} {sent'} {result} {result'} {disks1} {others1} one two A m m' script twins a b alike rest is =
    go rest is (twin_texts A seen one.start two.start r.world q.world m m' a.model b.model no_names no_names r.texts rest r.calls q.calls r.printed q.printed r.names q.names
    twins refl r.done (subst (λ (xs : List (List ℕ)). AllDone seen two.start no_names xs q.calls q.printed q.world q.names) is q.done) alike a.calm b.calm)
  where
    r : Replays seen (first_scene (record { bytes = left; faults = one.read_faults }) (record { bytes = sent; faults = one.write_faults }) one.start) most_lines result one.after_all
    r = one.replays

    q : Replays seen (first_scene (record { bytes = left; faults = two.read_faults }) (record { bytes = sent'; faults = two.write_faults }) two.start) most_lines result' two.after_all
    q = two.replays

    go : (rest : List (List ℕ)) → q.texts ≡ r.texts ++ rest → Behind seen A a.model b.model rest r.calls q.calls r.printed q.printed q.world r.names q.names → AreSame one two
    go [] is behind =
        let same : q.texts ≡ r.texts = is ∙ append-nil r.texts in
        let model_is : b.model ≡ behind.model = given_calls A behind.model b.model behind.later [] behind.done.calls_are behind.calm in
        let ends : Twins a.model b.model = subst (λ (n : World). Twins a.model n) (sym model_is) behind.twins in
        record {
          status_is = ends_one seen script (lines_of script) most_lines r.texts r.world q.world r.names result result' a.ended
              (subst (λ (t : Names). Ended script (lines_of script) most_lines r.texts q.world t result') behind.done.names
              (subst (λ (xs : List (List ℕ)). Ended script (lines_of script) most_lines xs q.world q.names result') same b.ended));
          texts = same;
          calls = behind.calls_are ∙ ap (λ (cs : List Call). r.calls ++ cs) behind.done.calls_are ∙ append-nil r.calls;
          printed = behind.printed_are ∙ ap (λ (bs : List ℕ). r.printed ++ bs) behind.done.printed_are ∙ append-nil r.printed;
          now = λ x. held seen q.world b.model others1 b.stands (ends.alike.tells ∙ ends.tells) b.disks_are x ∙ ends.alike.now x
              ∙ sym (held seen r.world a.model disks1 a.stands ends.tells a.disks_are x);
        }
    go (x ∷ more) is behind =
        let d = behind.done in
        let (mid, (front, back)) = calm_parts A behind.model b.model d.first d.later (given_calls A behind.model b.model behind.later (d.first ++ d.later) d.calls_are behind.calm) in
        let (rest, at) = first_lines result' most_lines (lines_of script) q.texts q.world q.names b.ended.reach in
        absurd (further_never seen script (lines_of script) most_lines A r.world behind.world d.world a.model behind.model mid r.names d.names r.texts x (more ++ rest) d.first d.words
        result a.stands behind.twins.alike d.is_text d.does front (at ∙ ap (λ (xs : List (List ℕ)). xs ++ rest) is ∙ append_assoc r.texts (x ∷ more) rest)
        (fewer most_lines r.texts q.texts x more is b.ended.few) a.ended)

-- and the other way round
twins_flip : (m m' : World) → Twins m m' → Twins m' m
twins_flip m m' t = record {
  alike = record {
    tells = sym t.alike.tells;
    next = sym t.alike.next;
    req = λ r. sym (t.alike.req r);
    session = λ s. sym (t.alike.session s);
    graph = sym t.alike.graph;
    clients = λ e. sym (t.alike.clients e);
    tracker = sym t.alike.tracker;
    now = λ b. sym (t.alike.now b);
    holder = λ b. sym (t.alike.holder b);
    clean = λ s. sym (t.alike.clean s);
    plans = λ j. sym (t.alike.plans j);
  };
  tells = t.alike.tells ∙ t.tells;
}

same_flip : {D : Type 0} {seen : D → Seen} {disks others : List D} {left sent sent' : Option (List ℕ)} {result result' : Status}
    {disks1 others1 : List D} {left1 left2 sent1 sent2 : Option (List ℕ)} (one : IsReplayed seen disks left sent result disks1 left1 sent1)
    (two : IsReplayed seen others left sent' result' others1 left2 sent2) → AreSame two one → AreSame one two
same_flip one two s = record {
  status_is = sym s.status_is;
  texts = sym s.texts;
  calls = sym s.calls;
  printed = sym s.printed;
  now = λ b. sym (s.now b);
}

pub same_replays : {D : Type 0} {seen : D → Seen} {disks others : List D} {left sent sent' : Option (List ℕ)} {result result' : Status}
    {disks1 others1 : List D} {left1 left2 sent1 sent2 : Option (List ℕ)} (one : IsReplayed seen disks left sent result disks1 left1 sent1)
    (two : IsReplayed seen others left sent' result' others1 left2 sent2) → AreComparable one two → AreSame one two
same_replays {D} {seen} {disks} {others} {left} {sent} {sent'} {result} {result'} one two compared =
    elim (fronts one.replays.texts two.replays.texts front.0 front_too.0 (sym front.1 ∙ front_too.1)) [
      | inl more ↦ front_same one two A m m' compared.script twins a b cuts more.0 more.1
      | inr more ↦ same_flip one two (front_same two one A m' m compared.script (twins_flip m m' twins) b a (left_flip one.replays.calls two.replays.calls cuts) more.0 more.1)
    ]
  where
    A : ℕ
    A = align_of (map seen disks)

    m : World
    m = exported (map seen disks) false one.run.place

    m' : World
    m' = exported (map seen others) false two.run.place

    twins : Twins m m'
    twins = twins_begin seen disks others one.start two.start one.run.place two.run.place one.begins two.begins one.run.run.0 two.run.run.0 compared.alike

    a : Side one A m compared.script
    a = side one compared.script compared.told compared.smooth compared.calm

    b : Side two A m' compared.script
    b = subst (λ (k : ℕ). Side two k m' compared.script) compared.alike.align (side two compared.script compared.told compared.smooth_too compared.calm_too)

    -- each crash of both that found the same left the same
    cuts : AreLeftAlike one.replays.calls two.replays.calls
    cuts = left_front one.replays.calls one.replays.cut two.replays.calls two.replays.cut
        (left_alike seen A one.start two.start one.after_all.world two.after_all.world m m' (one.replays.calls ++ one.replays.cut) (two.replays.calls ++ two.replays.cut)
        one.run.elements two.run.elements one.run.fulls two.run.fulls a.align b.align a.begun b.begun twins.tells
        (twins.alike.tells ∙ twins.tells) one.run.walked two.run.walked compared.cut)

    front : (rest : List (List ℕ)) × (lines_of compared.script ≡ one.replays.texts ++ rest)
    front = first_lines result most_lines (lines_of compared.script) one.replays.texts one.replays.world one.replays.names a.ended.reach

    front_too : (rest : List (List ℕ)) × (lines_of compared.script ≡ two.replays.texts ++ rest)
    front_too = first_lines result' most_lines (lines_of compared.script) two.replays.texts two.replays.world two.replays.names b.ended.reach
