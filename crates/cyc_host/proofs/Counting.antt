-- How often the words of the code were executed.
use Rattle.std.proofs.Common.{◌≡◌, ℕ, zero, suc, ◌+◌, ◌-◌, ◌/◌, ◌<◌, ◌≤◌, List, [], ◌∷◌, ◌++◌, length, nat_le, replicate, get_or, add-one, refl, sym, ap, ◌∙◌}
use Rattle.std.proofs.Common.{arith}
use Rattle.std.proofs.Math.ListN.{set}
use Rattle.cyc_words.specs.Devices.{one_more}
use Rattle.rv32_machine.specs.State.{code_base}
use Rattle.cyc_host.specs.declared.counts.Count.{Count}
use Rattle.cyc_host.specs.Watched.{counted_once, executed_at, executed_in}

-- another one in its place that was executed as often
pub set_same : (cs : List Count) (n : ℕ) (c d : Count) → n < length cs → c.executed ≡ (get_or cs n d).executed → executed_in (set cs n c) ≡ executed_in cs
set_same [] n c d less same = absurd (omega (arith, less))
set_same (b ∷ cs) zero c d less same = ap (λ e. e ∷ executed_in cs) same
set_same (b ∷ cs) (suc n) c d less same = ap (λ es. b.executed ∷ es) (set_same cs n c d (omega (arith, less)) same)

once_set : (cs : List Count) (n : ℕ) (c d : Count) → n < length cs → c.executed ≡ one_more (get_or cs n d).executed
    → executed_in (set cs n c) ≡ counted_once (executed_in cs) n
once_set [] n c d less more = absurd (omega (arith, less))
once_set (b ∷ cs) zero c d less more = ap (λ e. e ∷ executed_in cs) more
once_set (b ∷ cs) (suc n) c d less more = ap (λ es. b.executed ∷ es) (once_set cs n c d (omega (arith, less)) more)

once_beyond : (cs : List Count) (n : ℕ) → length cs ≤ n → executed_in cs ≡ counted_once (executed_in cs) n
once_beyond [] n more = refl
once_beyond (b ∷ cs) zero more = absurd (omega (arith, more))
once_beyond (b ∷ cs) (suc n) more = ap (λ es. b.executed ∷ es) (once_beyond cs n (omega (arith, more)))

-- by the address of the word
pub at_word : (at : ℕ) (counts : List ℕ) → code_base ≤ at → executed_at at counts ≡ counted_once counts ((at - code_base) / 4)
at_word at counts from = grind (arith, nat_le)

-- with one more of the word at an address
pub set_once : (cs : List Count) (at : ℕ) (c d : Count) → code_base ≤ at → (at - code_base) / 4 < length cs
    → c.executed ≡ one_more (get_or cs ((at - code_base) / 4) d).executed → executed_in (set cs ((at - code_base) / 4) c) ≡ executed_at at (executed_in cs)
set_once cs at c d from less more = once_set cs ((at - code_base) / 4) c d less more ∙ sym (at_word at (executed_in cs) from)

pub none_once : (cs : List Count) (at : ℕ) → code_base ≤ at → length cs ≤ (at - code_base) / 4 → executed_in cs ≡ executed_at at (executed_in cs)
none_once cs at from more = once_beyond cs ((at - code_base) / 4) more ∙ sym (at_word at (executed_in cs) from)

-- ---- a code of which no word was executed

more_in : (cs : List Count) (c : Count) → executed_in (cs ++ c ∷ []) ≡ executed_in cs ++ c.executed ∷ []
more_in [] c = refl
more_in (b ∷ cs) c = ap (λ es. b.executed ∷ es) (more_in cs c)

zeros_more : (n : ℕ) → replicate n zero ++ zero ∷ [] ≡ replicate (suc n) zero
zeros_more zero = refl
zeros_more (suc n) = ap (λ (es : List ℕ). zero ∷ es) (zeros_more n)

-- one word more
pub none_more : (cs : List Count) (c : Count) (n : ℕ) → executed_in cs ≡ replicate n 0 → c.executed ≡ 0 → executed_in (cs ++ c ∷ []) ≡ replicate (n + 1) 0
none_more cs c n none zero_times =
    more_in cs c ∙ ap (λ (es : List ℕ). es ++ c.executed ∷ []) none ∙ ap (λ (e : ℕ). replicate n 0 ++ e ∷ []) zero_times ∙ zeros_more n
    ∙ ap (λ (k : ℕ). replicate k 0) (sym (add-one n))
