-- The answers of a store, in order: those that a run took, and then any others.
use Rattle.std.proofs.Common.{◌≡◌, ℕ, zero, suc, List, [], ◌∷◌, ◌++◌, refl}
use Rattle.arena_laws.specs.Lawful.{Answer}

abbrev pub first : Answer → (ℕ → Answer) → ℕ → Answer
first a others zero = a
first a others (suc k) = others k

abbrev pub stream : List Answer → (ℕ → Answer) → ℕ → Answer
stream [] others = others
stream (a ∷ rest) others = first a (stream rest others)

pub stream_more : (taken : List Answer) (a : Answer) (others : ℕ → Answer) → stream (taken ++ a ∷ []) others ≡ stream taken (first a others)
stream_more [] a others = refl
stream_more (b ∷ rest) a others = λ i. first b (stream_more rest a others i)
