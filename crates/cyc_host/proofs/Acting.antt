-- What the instructions of a code do.
use Rattle.std.proofs.Common.{◌≡◌, ℕ, zero, suc, ◌+◌, ◌-◌, ◌/◌, ◌<◌, ◌≤◌, List, [], ◌∷◌, ◌++◌, length, nat_le, replicate, get_or, add-one, refl, sym, ap, ◌∙◌}
use Rattle.std.proofs.Common.{arith}
use Rattle.std.proofs.Math.ListN.{set}
use Rattle.rv32_isa.specs.Table.{decoded}
use Rattle.rv32_machine.specs.State.{code_base}
use Rattle.cyc_words.specs.Devices.{one_more}
use Rattle.cyc_host.specs.declared.actions.Action.{Action}
use Rattle.cyc_host.specs.declared.actions.Action.TheVariants.{Calls, Returns, Asks, Other}
use Rattle.cyc_host.specs.Watched.{action, action_at, actions_of, code_word, counted_once, nth_action}

-- one word more
pub action_more : (code : List ℕ) (all : List Action) (one : Action) (n : ℕ) → all ≡ actions_of code n → one ≡ action (decoded (code_word code n))
    → all ++ one ∷ [] ≡ actions_of code (n + 1)
action_more code all one n is does =
    ap (λ (l : List Action). l ++ one ∷ []) is ∙ ap (λ (a : Action). actions_of code n ++ a ∷ []) does ∙ ap (actions_of code) (sym (add-one n))

nth_within : (all : List Action) (n : ℕ) (default : Action) → n < length all → get_or all n default ≡ nth_action all n
nth_within [] n default less = absurd (omega (arith, less))
nth_within (a ∷ all) zero default less = refl
nth_within (a ∷ all) (suc n) default less = nth_within all n default (omega (arith, less))

nth_beyond : (all : List Action) (n : ℕ) → length all ≤ n → Other ≡ nth_action all n
nth_beyond [] n more = refl
nth_beyond (a ∷ all) zero more = absurd (omega (arith, more))
nth_beyond (a ∷ all) (suc n) more = nth_beyond all n (omega (arith, more))

-- by the address of the word
pub at_action : (all : List Action) (at : ℕ) → code_base ≤ at → action_at all at ≡ nth_action all ((at - code_base) / 4)
at_action all at from = grind (arith, nat_le)

pub before_code : (all : List Action) (at : ℕ) → at < code_base → Other ≡ action_at all at
before_code all at before = grind (arith, nat_le)

pub word_action : (all : List Action) (at : ℕ) (other : Action) → code_base ≤ at → (at - code_base) / 4 < length all
    → get_or all ((at - code_base) / 4) other ≡ action_at all at
word_action all at other from less = nth_within all ((at - code_base) / 4) other less ∙ sym (at_action all at from)

pub no_word_action : (all : List Action) (at : ℕ) → code_base ≤ at → length all ≤ (at - code_base) / 4 → Other ≡ action_at all at
no_word_action all at from more = nth_beyond all ((at - code_base) / 4) more ∙ sym (at_action all at from)

-- ---- requests by their numbers

pub request_once : (counts : List ℕ) (n count other : ℕ) → n < length counts → count ≡ one_more (get_or counts n other)
    → set counts n count ≡ counted_once counts n
request_once [] n count other less more = absurd (omega (arith, less))
request_once (c ∷ counts) zero count other less more = ap (λ (e : ℕ). e ∷ counts) more
request_once (c ∷ counts) (suc n) count other less more = ap (λ (l : List ℕ). c ∷ l) (request_once counts n count other (omega (arith, less)) more)

pub no_request : (counts : List ℕ) (n : ℕ) → length counts ≤ n → counts ≡ counted_once counts n
no_request [] n more = refl
no_request (c ∷ counts) zero more = absurd (omega (arith, more))
no_request (c ∷ counts) (suc n) more = ap (λ (l : List ℕ). c ∷ l) (no_request counts n (omega (arith, more)))
