-- What the definition of the daemon's words says of every list of words.
use Rattle.std.specs.Prelude.{◌≡◌, ℕ, ◌+◌, ◌<◌, ◌≤◌, ◌⊎◌, Bool, true, false, List, [], ◌∷◌, ◌++◌, codes, length, take, None, Ok, Err, is_some, String, string_bytes}
use Rattle.std.specs.Global.{Global}
use Rattle.std.specs.Str.{bytes_eq}
use Rattle.qs_daemon_words.specs.declared.told.DaemonWords.{DaemonWords}
use Rattle.qs_daemon_words.specs.declared.told.WordFault.TheVariants.{Bad}
use Rattle.qs_daemon_words.specs.Words.{about, daemon_by}

-- The word that is named bad is the first one.
pub record NamesFirst : Type 0 where
  -- it is one of the words, or is missing behind them
  pub among : (words : List (String Global)) (n : ℕ) → daemon_by words ≡ Err (Bad n) → n ≤ length words
  -- what stands behind it has no part in it
  pub alone : (front behind other : List (String Global)) (n : ℕ) → n < length front →
      daemon_by (front ++ behind) ≡ Err (Bad n) → about (front ++ other) ≡ None → daemon_by (front ++ other) ≡ Err (Bad n)
  -- the words before it may stand: alone they tell a daemon, or are one word short
  pub before : (words : List (String Global)) (n m : ℕ) → daemon_by words ≡ Err (Bad n) →
      daemon_by (take n words) ≡ Err (Bad m) → m ≡ n

abbrev pub one_if : Bool → ℕ
one_if true = 1
one_if false = 0

-- how often an option of this name stands among the words: in the first, the third and so on
abbrev pub times : List ℕ → List (String Global) → ℕ
times name [] = 0
times name (option ∷ []) = one_if (bytes_eq (string_bytes option) name)
times name (option ∷ value ∷ words) = one_if (bytes_eq (string_bytes option) name) + times name words

-- What is told, by the options that stand among the words.
pub record FitsOptions (words : List (String Global)) (told : DaemonWords) : Type 0 where
  -- clients come from somewhere exactly where the one `--nbd-server` stands
  pub listen : times (codes "--nbd-server") words ≡ one_if (is_some told.listen)
  -- there is a monitor exactly where the one `--monitor` stands, over the one `--chardev`
  pub monitor : times (codes "--monitor") words ≡ one_if told.monitor
  pub chardev : times (codes "--chardev") words ≤ 1
  pub over : told.monitor ≡ true → times (codes "--chardev") words ≡ 1
  -- there are 1 to 8 workers, 4 where none are told
  pub once : times (codes "--workers") words ≤ 1
  pub four : times (codes "--workers") words ≡ 0 → told.workers ≡ 4
  pub workers : (1 ≤ told.workers) × (told.workers ≤ 8)
  -- a block has 512 or 4096 bytes
  pub align : (told.image.align ≡ 512) ⊎ (told.image.align ≡ 4096)
  -- one `--blockdev` is the image, and each other one, `--object` and `--export` is a command
  pub commands : length told.commands + 1 ≡
      times (codes "--blockdev") words + times (codes "--object") words + times (codes "--export") words

abbrev pub AllFit : Type 0
AllFit = (words : List (String Global)) (told : DaemonWords) → daemon_by words ≡ Ok told → FitsOptions words told
