-- What is told fits the options that stand among the words.
use Rattle.std.proofs.Common.{◌≡◌, ℕ, ◌+◌, ◌-◌, ◌≤◌, ◌⊎◌, ◌==◌, ◌||◌, ◌&&◌, Bool, true, false, List, [], ◌∷◌, length, inl, inr, refl, sym, ap, subst, ◌∙◌, arith, length-append}
use Rattle.std.proofs.lemmas.Bool.{leb-true}
use Rattle.std.proofs.lemmas.Bool.Decides.{Decides-eqb}
use Rattle.std.proofs.lemmas.Option.{none-some, same_Some}
use Rattle.std.proofs.lemmas.Slice.Eq.{bytes_eq-Decides}
use Rattle.std.specs.Prelude.{if◌then◌else◌, nat_le, codes, Option, None, Some, IfSome, is_some, unwrap_or, Result, Ok, Err, ⊤, String, string_bytes}
use Rattle.std.specs.Global.{Global}
use Rattle.std.specs.Str.{bytes_eq}
use Rattle.serde_json.specs.Data.{Data}
use Rattle.qs_qmp_arguments.specs.declared.command_name.CommandName.{CommandName}
use Rattle.qs_qmp_arguments.specs.declared.command_name.CommandName.TheVariants.{BlockdevAdd, ObjectAdd, BlockExportAdd}
use Rattle.qs_qmp_arguments.specs.declared.keys.ArgumentKeys.TheVariants as keys
use Rattle.qs_qmp_arguments.specs.Arguments.{id_at, is_word_at, none_but, truth_at, whole_at}
use Rattle.qs_qmp_arguments.specs.Problems.{Problem, ◌>>=◌}
use Rattle.qs_daemon_words.specs.declared.reading.DaemonOption.{DaemonOption}
use Rattle.qs_daemon_words.specs.declared.reading.DaemonOption.TheVariants as options
use Rattle.qs_daemon_words.specs.declared.reading.ToldOptions.{ToldOptions}
use Rattle.qs_daemon_words.specs.declared.told.DaemonWords.{DaemonWords}
use Rattle.qs_daemon_words.specs.declared.told.ImageFile.{ImageFile}
use Rattle.qs_daemon_words.specs.declared.told.WordFault.{WordFault}
use Rattle.qs_daemon_words.specs.declared.told.WordFault.TheVariants.{Bad}
use Rattle.qs_daemon_words.specs.Laws.{AllFit, FitsOptions, one_if, times}
use Rattle.qs_daemon_words.specs.Values.{align_at, as_align, chardev_in, command_in, file_of, image_in, is_named, listen_in, monitor_in, monitor_of, string_at, value_in, workers_in}
use Rattle.qs_daemon_words.specs.Words.{all_options, about, has_told, may_stand, next, nothing_told, one_option, option_named, or_bad, unless_about, whole_by, with_blockdev, with_chardev, with_command, with_image, with_listen, with_monitor, with_value, with_workers}

abbrev Words : Type 0
Words = List (String Global)

abbrev ok_or : {A E : Type 0} → A → Result A E → A
ok_or default (Ok x) = x
ok_or default (Err e) = default

same_ok : {A E : Type 0} (x y : A) → ◌≡◌ {A = Result A E} (Ok x) (Ok y) → x ≡ y
same_ok x y e = ap (λ r. ok_or x r) e

-- ---- what each state keeps

abbrev IsAlign : ℕ → Type 0
IsAlign n = (n ≡ 512) ⊎ (n ≡ 4096)

record IsKept (told : ToldOptions) : Type 0 where
  align : IfSome told.image (λ image. IsAlign image.align)
  crew : IfSome told.workers (λ n. (1 ≤ n) × (n ≤ 8))
  over : told.monitor ≡ true → is_some told.chardev ≡ true

-- So many options of each name were read.
record Moved (b o x s c m w : ℕ) (told more : ToldOptions) : Type 0 where
  servers : one_if (is_some told.listen) + s ≡ one_if (is_some more.listen)
  chardevs : one_if (is_some told.chardev) + c ≡ one_if (is_some more.chardev)
  monitors : one_if told.monitor + m ≡ one_if more.monitor
  crews : one_if (is_some told.workers) + w ≡ one_if (is_some more.workers)
  commands : length told.commands + one_if (is_some told.image) + (b + o + x) ≡ length more.commands + one_if (is_some more.image)
  kept : IsKept told → IsKept more

abbrev MovedBy : (List ℕ → ℕ) → ToldOptions → ToldOptions → Type 0
MovedBy n told more =
    Moved (n (codes "--blockdev")) (n (codes "--object")) (n (codes "--export")) (n (codes "--nbd-server")) (n (codes "--chardev"))
    (n (codes "--monitor")) (n (codes "--workers")) told more

unmoved : (told : ToldOptions) → Moved 0 0 0 0 0 0 0 told told
unmoved told = record {
  servers = omega arith;
  chardevs = omega arith;
  monitors = omega arith;
  crews = omega arith;
  commands = omega arith;
  kept = λ kept. kept;
}

both_moved : (n m : List ℕ → ℕ) (told mid more : ToldOptions) → MovedBy n told mid → MovedBy m mid more → MovedBy (λ t. n t + m t) told more
both_moved n m told mid more a b = record {
  servers = let x = a.servers in let y = b.servers in omega (arith, x, y);
  chardevs = let x = a.chardevs in let y = b.chardevs in omega (arith, x, y);
  monitors = let x = a.monitors in let y = b.monitors in omega (arith, x, y);
  crews = let x = a.crews in let y = b.crews in omega (arith, x, y);
  commands = let x = a.commands in let y = b.commands in omega (arith, x, y);
  kept = λ kept. b.kept (a.kept kept);
}

-- ---- steps that went well

after : {A B : Type 0} (r : Result A Problem) (f : A → Result B Problem) (y : B) → (r >>= f) ≡ Ok y → (x : A) × ((r ≡ Ok x) × (f x ≡ Ok y))
after (Ok x) f y e = (x, (refl, e))
after (Err problem) f y e = absurd cc

after_next : {A B : Type 0} (r : Result A WordFault) (f : A → Result B WordFault) (y : B) → next r f ≡ Ok y → (x : A) × ((r ≡ Ok x) × (f x ≡ Ok y))
after_next (Ok x) f y e = (x, (refl, e))
after_next (Err fault) f y e = absurd cc

-- ---- the values

align_by : (m n : ℕ) (problem : Problem) (a b : Bool) → (a ≡ true → m ≡ 512) → (b ≡ true → m ≡ 4096) → (if a || b then Ok m else Err problem) ≡ Ok n → IsAlign n
align_by m n problem true b one two e = inl (sym (same_ok m n e) ∙ one refl)
align_by m n problem false true one two e = inr (sym (same_ok m n e) ∙ two refl)
align_by m n problem false false one two e = absurd cc

is_align : (o : Option ℕ) (n : ℕ) → as_align o ≡ Ok n → IsAlign n
is_align None n e = inl (sym (same_ok 512 n e))
is_align (Some m) n e = align_by m n _ (m == 512) (m == 4096) (Decides-eqb m 512).0 (Decides-eqb m 4096).0 e

align_of_file : (args : Option Data) (image : ImageFile) → file_of args ≡ Ok image → IsAlign image.align
unfolding file_of align_at
align_of_file args image e =
    let a = after (is_word_at (codes "driver") (codes "file") args) _ image e in
    let b = after (none_but keys.File args) _ image a.1.1 in
    let c = after (string_at (codes "filename") args) _ image b.1.1 in
    let d = after (id_at (codes "node-name") args) _ image c.1.1 in
    let f = after (truth_at (codes "read-only") args) _ image d.1.1 in
    let g = after (align_at args) _ image f.1.1 in
    let h = after (whole_at (codes "x-align") args) _ g.0 g.1.0 in
    subst (λ (i : ImageFile). IsAlign i.align) (same_ok _ image g.1.1) (is_align h.0 g.0 h.1.1)

align_of : (word : List ℕ) (image : ImageFile) → image_in word ≡ Ok image → IsAlign image.align
unfolding image_in
align_of word image e = let a = after (value_in (Some (codes "driver")) word) _ image e in align_of_file (Some a.0) image a.1.1

crew_by : (d n : ℕ) (problem : Problem) (a b : Bool) → (a ≡ true → 49 ≤ d) → (b ≡ true → d ≤ 56) → (if a && b then Ok (d - 48) else Err problem) ≡ Ok n →
    (1 ≤ n) × (n ≤ 8)
crew_by d n problem true true lo hi e =
    let s = same_ok (d - 48) n e in
    let l = lo refl in
    let h = hi refl in
    (omega (arith, s, l, h), omega (arith, s, l, h))
crew_by d n problem true false lo hi e = absurd cc
crew_by d n problem false b lo hi e = absurd cc

crew_of : (word : List ℕ) (n : ℕ) → workers_in word ≡ Ok n → (1 ≤ n) × (n ≤ 8)
crew_of [] n e = absurd cc
crew_of (d ∷ []) n e = crew_by d n _ (nat_le 49 d) (nat_le d 56) (leb-true 49 d) (leb-true d 56) e
crew_of (d ∷ b ∷ word) n e = absurd cc

named_some : (o : Option (List ℕ)) (id : List ℕ) (problem : Problem) (u : ⊤) → (if is_named o id then Ok tt else Err problem) ≡ Ok u → is_some o ≡ true
named_some None id problem u e = absurd cc
named_some (Some name) id problem u e = refl

over_of : (chardev : Option (List ℕ)) (word : List ℕ) (u : ⊤) → monitor_in chardev word ≡ Ok u → is_some chardev ≡ true
unfolding monitor_in monitor_of
over_of chardev word u e =
    let a = after (value_in (Some (codes "chardev")) word) _ u e in
    let b = after (none_but keys.Monitor (Some a.0)) _ u a.1.1 in
    let c = after (id_at (codes "chardev") (Some a.0)) _ u b.1.1 in
    named_some chardev c.0 _ u c.1.1

-- ---- one option

image_moved : (told : ToldOptions) (word : List ℕ) (more : ToldOptions) → is_some told.image ≡ false → with_image told word ≡ Ok more → Moved 1 0 0 0 0 0 0 told more
unfolding with_image
image_moved told word more has e =
    let a = after (image_in word) _ more e in
    let z = ap one_if has in
    subst (λ (m : ToldOptions). Moved 1 0 0 0 0 0 0 told m) (same_ok _ more a.1.1) (record {
      servers = omega arith;
      chardevs = omega arith;
      monitors = omega arith;
      crews = omega arith;
      commands = omega (arith, z);
      kept = λ kept. record { align = align_of word a.0 a.1.0; crew = kept.crew; over = kept.over };
    })

command_moved : (at : ℕ) (name : CommandName) (implied : List ℕ) (b o x : ℕ) (told : ToldOptions) (word : List ℕ) (more : ToldOptions) → b + o + x ≡ 1 →
    with_command at name implied told word ≡ Ok more → Moved b o x 0 0 0 0 told more
unfolding with_command
command_moved at name implied b o x told word more one e =
    let a = after (command_in name implied word) _ more e in
    let long = length-append told.commands (record { word = at; command = a.0 } ∷ []) in
    subst (λ (m : ToldOptions). Moved b o x 0 0 0 0 told m) (same_ok _ more a.1.1) (record {
      servers = omega arith;
      chardevs = omega arith;
      monitors = omega arith;
      crews = omega arith;
      commands = omega (arith, one, long);
      kept = λ kept. record { align = kept.align; crew = kept.crew; over = kept.over };
    })

blockdev_moved : (at : ℕ) (told : ToldOptions) (word : List ℕ) (more : ToldOptions) → with_blockdev at told word ≡ Ok more → Moved 1 0 0 0 0 0 0 told more
blockdev_moved at told word more e = by (is_some told.image) refl e
  where
    by : (b : Bool) → is_some told.image ≡ b →
        (if b then with_command at BlockdevAdd (codes "driver") told word else with_image told word) ≡ Ok more → Moved 1 0 0 0 0 0 0 told more
    by true has e = command_moved at BlockdevAdd (codes "driver") 1 0 0 told word more refl e
    by false has e = image_moved told word more has e

listen_moved : (told : ToldOptions) (word : List ℕ) (more : ToldOptions) → is_some told.listen ≡ false → with_listen told word ≡ Ok more → Moved 0 0 0 1 0 0 0 told more
unfolding with_listen
listen_moved told word more has e =
    let a = after (listen_in word) _ more e in
    let z = ap one_if has in
    subst (λ (m : ToldOptions). Moved 0 0 0 1 0 0 0 told m) (same_ok _ more a.1.1) (record {
      servers = omega (arith, z);
      chardevs = omega arith;
      monitors = omega arith;
      crews = omega arith;
      commands = omega arith;
      kept = λ kept. record { align = kept.align; crew = kept.crew; over = kept.over };
    })

chardev_moved : (told : ToldOptions) (word : List ℕ) (more : ToldOptions) → is_some told.chardev ≡ false → with_chardev told word ≡ Ok more → Moved 0 0 0 0 1 0 0 told more
unfolding with_chardev
chardev_moved told word more has e =
    let a = after (chardev_in word) _ more e in
    let z = ap one_if has in
    subst (λ (m : ToldOptions). Moved 0 0 0 0 1 0 0 told m) (same_ok _ more a.1.1) (record {
      servers = omega arith;
      chardevs = omega (arith, z);
      monitors = omega arith;
      crews = omega arith;
      commands = omega arith;
      kept = λ kept. record { align = kept.align; crew = kept.crew; over = λ told. refl };
    })

monitor_moved : (told : ToldOptions) (word : List ℕ) (more : ToldOptions) → told.monitor ≡ false → with_monitor told word ≡ Ok more → Moved 0 0 0 0 0 1 0 told more
unfolding with_monitor
monitor_moved told word more has e =
    let a = after (monitor_in told.chardev word) _ more e in
    let z = ap one_if has in
    subst (λ (m : ToldOptions). Moved 0 0 0 0 0 1 0 told m) (same_ok _ more a.1.1) (record {
      servers = omega arith;
      chardevs = omega arith;
      monitors = omega (arith, z);
      crews = omega arith;
      commands = omega arith;
      kept = λ kept. record { align = kept.align; crew = kept.crew; over = λ is. over_of told.chardev word a.0 a.1.0 };
    })

workers_moved : (told : ToldOptions) (word : List ℕ) (more : ToldOptions) → is_some told.workers ≡ false → with_workers told word ≡ Ok more → Moved 0 0 0 0 0 0 1 told more
unfolding with_workers
workers_moved told word more has e =
    let a = after (workers_in word) _ more e in
    let z = ap one_if has in
    subst (λ (m : ToldOptions). Moved 0 0 0 0 0 0 1 told m) (same_ok _ more a.1.1) (record {
      servers = omega arith;
      chardevs = omega arith;
      monitors = omega arith;
      crews = omega (arith, z);
      commands = omega arith;
      kept = λ kept. record { align = kept.align; crew = crew_of word a.0 a.1.0; over = kept.over };
    })

abbrev option_text : DaemonOption → List ℕ
option_text options.Blockdev = codes "--blockdev"
option_text options.Object = codes "--object"
option_text options.Export = codes "--export"
option_text options.NbdServer = codes "--nbd-server"
option_text options.Chardev = codes "--chardev"
option_text options.Monitor = codes "--monitor"
option_text options.Workers = codes "--workers"

value_moved : (at : ℕ) (o : DaemonOption) (told : ToldOptions) (word : List ℕ) (more : ToldOptions) → has_told told o ≡ false → with_value at o told word ≡ Ok more →
    MovedBy (λ t. one_if (bytes_eq (option_text o) t)) told more
value_moved at options.Blockdev told word more has e = blockdev_moved at told word more e
value_moved at options.Object told word more has e = command_moved at ObjectAdd (codes "qom-type") 0 1 0 told word more refl e
value_moved at options.Export told word more has e = command_moved at BlockExportAdd (codes "type") 0 0 1 told word more refl e
value_moved at options.NbdServer told word more has e = listen_moved told word more has e
value_moved at options.Chardev told word more has e = chardev_moved told word more has e
value_moved at options.Monitor told word more has e = monitor_moved told word more has e
value_moved at options.Workers told word more has e = workers_moved told word more has e

-- ---- the names

pick : (word : List ℕ) (text : List ℕ) (x : DaemonOption) (rest : Option DaemonOption) (o : DaemonOption) → (word ≡ text → word ≡ option_text x) →
    (rest ≡ Some o → word ≡ option_text o) → (if bytes_eq word text then Some x else rest) ≡ Some o → word ≡ option_text o
pick word text x rest o one two e = by (bytes_eq word text) (bytes_eq-Decides word text).0 e
  where
    by : (b : Bool) → (b ≡ true → word ≡ text) → (if b then Some x else rest) ≡ Some o → word ≡ option_text o
    by true is e = subst (λ (y : DaemonOption). word ≡ option_text y) (same_Some x o e) (one (is refl))
    by false is e = two e

named_text : (word : List ℕ) (o : DaemonOption) → option_named word ≡ Some o → word ≡ option_text o
named_text word o =
    pick word (codes "--blockdev") options.Blockdev _ o (λ s. s)
    (pick word (codes "--object") options.Object _ o (λ s. s)
    (pick word (codes "--export") options.Export _ o (λ s. s)
    (pick word (codes "--nbd-server") options.NbdServer _ o (λ s. s)
    (pick word (codes "--chardev") options.Chardev _ o (λ s. s)
    (pick word (codes "--monitor") options.Monitor _ o (λ s. s)
    (pick word (codes "--workers") options.Workers None o (λ s. s) (λ e. absurd (none-some o e))))))))

stands : (at : ℕ) (told : ToldOptions) (named : Option DaemonOption) (o : DaemonOption) → may_stand at told named ≡ Ok o →
    (named ≡ Some o) × (has_told told o ≡ false)
stands at told None o e = absurd cc
stands at told (Some x) o e = by (has_told told x) refl e
  where
    by : (b : Bool) → has_told told x ≡ b → (if b then Err (Bad at) else Ok x) ≡ Ok o → (Some x ≡ Some o) × (has_told told o ≡ false)
    by true is e = absurd cc
    by false is e = (ap (λ (y : DaemonOption). Some y) (same_ok x o e), subst (λ (y : DaemonOption). has_told told y ≡ false) (same_ok x o e) is)

went_well : (at : ℕ) (r : Result ToldOptions Problem) (more : ToldOptions) → or_bad at r ≡ Ok more → r ≡ Ok more
went_well at (Ok told) more e = ap (λ (x : ToldOptions). Ok x) (same_ok told more e)
went_well at (Err problem) more e = absurd cc

-- ---- all options

one_moved : (at : ℕ) (told : ToldOptions) (name value : String Global) (words : Words) (more : ToldOptions) → one_option at told (name ∷ value ∷ words) ≡ Ok more →
    MovedBy (λ t. one_if (bytes_eq (string_bytes name) t)) told more
one_moved at told name value words more e =
    let a = after_next (may_stand at told (option_named (string_bytes name))) _ more e in
    let s = stands at told (option_named (string_bytes name)) a.0 a.1.0 in
    subst (λ (text : List ℕ). MovedBy (λ t. one_if (bytes_eq text t)) told more) (sym (named_text (string_bytes name) a.0 s.0))
    (value_moved (at + 1) a.0 told (string_bytes value) more s.1 (went_well (at + 1) _ more a.1.1))

all_moved : (at : ℕ) (told : ToldOptions) (words : Words) (more : ToldOptions) → all_options at told words ≡ Ok more → MovedBy (λ t. times t words) told more
unfolding all_options
all_moved at told [] more e = subst (λ (m : ToldOptions). Moved 0 0 0 0 0 0 0 told m) (same_ok told more e) (unmoved told)
all_moved at told (name ∷ []) more e =
    let a = after_next (may_stand at told (option_named (string_bytes name))) _ more e in absurd (no_more at a.0 more a.1.1)
  where
    no_more : (at : ℕ) (o : DaemonOption) (more : ToldOptions) → ◌≡◌ {A = Result ToldOptions WordFault} (Err (Bad (at + 1))) (Ok more) → ⊥
    no_more at o more e = absurd cc
all_moved at told (name ∷ value ∷ words) more e =
    let a = after_next (one_option at told (name ∷ value ∷ [])) _ more e in
    both_moved (λ t. one_if (bytes_eq (string_bytes name) t)) (λ t. times t words) told a.0 more
    (one_moved at told name value [] a.0 a.1.0) (all_moved (at + 2) a.0 words more a.1.1)

-- ---- what is told

one_most : (b : Bool) → one_if b ≤ 1
one_most true = omega arith
one_most false = omega arith

crew_told : (o : Option ℕ) → IfSome o (λ n. (1 ≤ n) × (n ≤ 8)) → (1 ≤ unwrap_or o 4) × (unwrap_or o 4 ≤ 8)
crew_told None is = (omega arith, omega arith)
crew_told (Some n) is = is

four_told : (o : Option ℕ) → one_if (is_some o) ≡ 0 → unwrap_or o 4 ≡ 4
four_told None e = refl
four_told (Some n) e = absurd (omega (arith, e))

nothing_kept : IsKept nothing_told
nothing_kept = record { align = tt; crew = tt; over = λ e. absurd cc }

fit_by : (words : Words) (state : ToldOptions) (o : Option ImageFile) (told : DaemonWords) → state.image ≡ o → MovedBy (λ t. times t words) nothing_told state →
    whole_by (length words) state o ≡ Ok told → FitsOptions words told
fit_by words state None told same moved e = absurd cc
fit_by words state (Some image) told same moved e =
    let kept = moved.kept nothing_kept in
    let servers = moved.servers in
    let chardevs = moved.chardevs in
    let monitors = moved.monitors in
    let crews = moved.crews in
    let commands = moved.commands in
    let there = ap (λ (x : Option ImageFile). one_if (is_some x)) same in
    subst (λ (d : DaemonWords). FitsOptions words d) (same_ok _ told e) (record {
      listen = omega (arith, servers);
      monitor = omega (arith, monitors);
      chardev = let most = one_most (is_some state.chardev) in omega (arith, chardevs, most);
      over = λ is. let one = ap one_if (kept.over is) in omega (arith, chardevs, one);
      once = let most = one_most (is_some state.workers) in omega (arith, crews, most);
      four = λ none. four_told state.workers (omega (arith, crews, none));
      workers = crew_told state.workers kept.crew;
      align = subst (λ (x : Option ImageFile). IfSome x (λ image. IsAlign image.align)) same kept.align;
      commands = omega (arith, commands, there);
    })

told_by : (o : Option WordFault) (r : Result DaemonWords WordFault) (told : DaemonWords) → unless_about o r ≡ Ok told → r ≡ Ok told
told_by None r told e = e
told_by (Some fault) r told e = absurd cc

pub all_fit : AllFit
all_fit words told e =
    let a = after_next (all_options 0 nothing_told words) _ told (told_by (about words) _ told e) in
    fit_by words a.0 a.0.image told refl (all_moved 0 nothing_told words a.0 a.1.0) a.1.1
