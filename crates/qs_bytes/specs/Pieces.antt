-- Parts of a list of bytes, and bytes written over a list.
use Rattle.std.specs.Prelude.{ℕ, ◌+◌, List, ◌++◌, length, take, drop}

-- the n bytes of xs from place `at` on
abbrev pub part : List ℕ → ℕ → ℕ → List ℕ
part xs at n = take n (drop at xs)

-- old, with a piece written over it from place `at` on
unfoldable pub overlay : List ℕ → ℕ → List ℕ → List ℕ
overlay old at piece = take at old ++ piece ++ drop (at + length piece) old

-- a buffer of as many bytes as old, with these written over its front
abbrev pub written : List ℕ → List ℕ → List ℕ
written old ws = take (length old) (ws ++ drop (length ws) old)
