-- What the names of a script stand for.
use Rattle.std.specs.Prelude.{◌≡◌, ◌≢◌, ℕ, ◌<◌, ◌⊎◌, true, List, [], ◌∷◌, ◌++◌, length, slice_index_or, EachIndex, Option, Some, refl}
use Rattle.std.specs.BTreeMap.{get as entry_at}
use Rattle.std.specs.Coded.{Coded, code_by, coded_list, coded_ℕ, coded×}
use Rattle.std.specs.FinMap as map
use Rattle.std.specs.FinSet as set
use Rattle.qs_cookies.specs.Used.{CookieRuns, by_session}
use Rattle.qs_part.specs.declared.event.Outcome.{Outcome}
use Rattle.qs_part.specs.declared.event.Outcome.TheVariants.{Answered}

-- The names of sessions, in the order in which they came; the cookies that were used, each with its session's number;
-- and by these the numbers of the requests that aren't answered yet.
pub record Names : Type 0 where
  pub sessions : List (List ℕ)
  pub used : set.FinSet by_session
  pub live : map.FinMap by_session ℕ

-- where nothing was named yet
abbrev pub no_names : Names
no_names = record { sessions = []; used = set.empty; live = map.empty }

abbrev pub coded_names : Coded Names
coded_names = code_by (List (List ℕ) × (set.FinSet by_session × map.FinMap by_session ℕ))
    (coded× (coded_list (coded_list coded_ℕ))
    (coded× (set.code (coded× coded_ℕ coded_ℕ)) (map.code (coded× coded_ℕ coded_ℕ) coded_ℕ)))
    (λ n. (n.sessions, (n.used, n.live))) (λ t. record { sessions = t.0; used = t.1.0; live = t.1.1 }) (λ _. refl)

-- a request that isn't answered has used its cookie
abbrev pub AreUsed : set.FinSet by_session → CookieRuns → Type 0
AreUsed used live = (key : ℕ × ℕ) (number : ℕ) → entry_at by_session live key ≡ Some number →
    set.contains used key ≡ true

-- the name came first at this place
pub record IsKnown (names : List (List ℕ)) (name : List ℕ) (at : ℕ) : Type 0 where
  pub inside : at < length names
  pub here : slice_index_or names at [] ≡ name
  pub before : (k : ℕ) → k < at → slice_index_or names k [] ≢ name

-- the name didn't come
abbrev pub Lacks : List (List ℕ) → List ℕ → Type 0
Lacks names name = EachIndex names (λ k. slice_index_or names k [] ≢ name)

-- A name's number is the place where it came first; a name that didn't come is put behind the others.
abbrev pub GivesName : Names → List ℕ → ℕ → Names → Type 0
GivesName t name n t' = (IsKnown t.sessions name n × (t' ≡ t)) ⊎
    (Lacks t.sessions name × (n ≡ length t.sessions) × (t' ≡ record t { sessions = t.sessions ++ name ∷ [] }))

-- the cookie was used with the name of this session
abbrev pub IsUsed : Names → ℕ → ℕ → Type 0
IsUsed t session cookie = set.contains t.used (session, cookie) ≡ true

-- a request of this number, made with a new cookie
abbrev pub adds : Names → ℕ → ℕ → ℕ → Names
adds t session cookie number = record t {
  used = set.insert t.used (session, cookie);
  live = map.insert t.live (session, cookie) number;
}

-- a request that was answered isn't kept
abbrev pub names_settled : Names → Option (ℕ × ℕ) → Outcome → Names
names_settled t (Some key) (Answered _ _) = record t { live = map.remove t.live key }
names_settled t key outcome = t
