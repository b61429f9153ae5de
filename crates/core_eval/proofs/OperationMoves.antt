-- Each operation, as the evaluator does it.
use Rattle.std.specs.Prelude.{if◌then◌else◌, nat_eq}
use Rattle.std.proofs.Common.{◌≡◌, ℕ, ◌%◌, ◌^◌, ◌<◌, Bool, Option, Some, None, List, refl, ap, ◌∙◌, sym, arith}
use Rattle.core_meaning.specs.Memory as memory
use Rattle.core_meaning.specs.Memory.{Content, Born, Spot, Part, Pointer, with_part, beyond}
use Rattle.core_meaning.specs.Core as core
use Rattle.core_meaning.specs.Words.{truth, two}
use Rattle.core_meaning.specs.Steps as steps
use Rattle.core_meaning.specs.Steps.{Config, with_temp, with_memory, Step, stuck, word_of, pointer_of, needed, checked}
use Rattle.core_meaning.specs.Operations.{is_null}
use Rattle.core_eval.specs.declared.value.Value.{Value}
use Rattle.core_eval.specs.declared.value.Value.TheVariants as value
use Rattle.core_eval.specs.Values.{content_of, temp_of, null_of}
use Rattle.core_eval.specs.Blocks.{global_place}
use Rattle.core_eval.specs.Pendings.{Execute, Leave, Wait, Go, Wrong, Mark}
use Rattle.core_eval.specs.Standing.{Known, Agrees, Gives}
use Rattle.core_eval.specs.Costs.{IsMove}
use Rattle.core_eval.proofs.Moves.{Becomes, becomes, goes_wrong}

-- what comes of a test for NULL
abbrev pub null_step : (ℕ → Step) → Option Bool → Step
null_step next None = stuck
null_step next (Some b) = next (truth b)

pub null_is : (v : Value) (next : ℕ → Step) → is_null (content_of v) next ≡ null_step next (null_of v)
null_is value.Blank next = refl
null_is (value.Word n) next = refl
null_is value.Null next = refl
null_is (value.Pointer p) next = refl
null_is (value.Birth d) next = refl

-- a state whose temporary was given a content
abbrev pub given : Known → List Value → Known
given known temps = record known { temps = temps }

module _ (known : Known) (temps : List Value) (ws : List Wait) where
  pub agrees_given : (t : ℕ) (v : Content) → Gives t v known.temps temps → (marks : List Mark) (c : Config) → Agrees known ws marks c
      → Agrees (given known temps) ws marks (with_temp t v c)
  agrees_given t v gives marks c h = record {
    temps = λ k. ap (λ x. if nat_eq k t then v else x) (h.temps k) ∙ sym (gives k);
    fresh = h.fresh;
    globals = h.globals;
    nested = h.nested;
    entered = h.entered;
    live = h.live;
    owned = h.owned;
    called = h.called;
    values_live = h.values_live;
    born = h.born;
  }

  pub given_moves : (o : core.Operation) (t : ℕ) (v : Content) → Gives t v known.temps temps → Becomes o ws known (λ next c. next (with_temp t v c))
      → IsMove (Execute (core.Do o)) ws known (Go (Leave steps.Falls)) ws (given known temps)
  given_moves o t v gives does_so = becomes o ws known (given known temps) (with_temp t v) does_so (agrees_given t v gives)

  pub constant_moves : (t w : ℕ) → w < 2 ^ 32 → Gives t (memory.Word w) known.temps temps
      → IsMove (Execute (core.Do (core.Constant t w))) ws known (Go (Leave steps.Falls)) ws (given known temps)
  constant_moves t w small gives =
      let same : w % 2 ^ 32 ≡ w = omega (arith, small) in
      given_moves (core.Constant t w) t (memory.Word w) gives (λ marks c h next. ap (λ (n : ℕ). next (with_temp t (memory.Word n) c)) same)

  pub heap_moves : (t : ℕ) → Gives t (memory.Birth 0) known.temps temps
      → IsMove (Execute (core.Do (core.HeapHandle t))) ws known (Go (Leave steps.Falls)) ws (given known temps)
  heap_moves t gives = given_moves (core.HeapHandle t) t (memory.Birth 0) gives (λ marks c h next. refl)

  pub null_moves : (t : ℕ) → Gives t memory.Null known.temps temps
      → IsMove (Execute (core.Do (core.NullPointer t))) ws known (Go (Leave steps.Falls)) ws (given known temps)
  null_moves t gives = given_moves (core.NullPointer t) t memory.Null gives (λ marks c h next. refl)

  pub address_moves : (t object : ℕ) → Gives t (content_of (value.Pointer (global_place object))) known.temps temps
      → IsMove (Execute (core.Do (core.DataAddress t object))) ws known (Go (Leave steps.Falls)) ws (given known temps)
  address_moves t object gives = given_moves (core.DataAddress t object) t (content_of (value.Pointer (global_place object))) gives (λ marks c h next. refl)

  -- what is read of a temporary
  module _ (x : ℕ) (v : Value) (read : content_of v ≡ temp_of known.temps x) where
    pub holds_it : (marks : List Mark) (c : Config) → Agrees known ws marks c → c.temps x ≡ content_of v
    holds_it marks c h = h.temps x ∙ sym read

    pub move_moves : (t : ℕ) → Gives t (content_of v) known.temps temps
        → IsMove (Execute (core.Do (core.Move t x))) ws known (Go (Leave steps.Falls)) ws (given known temps)
    move_moves t gives = given_moves (core.Move t x) t (content_of v) gives
        (λ marks c h next. ap (λ (u : Content). next (with_temp t u c)) (holds_it marks c h))

    pub narrow_moves : (t n : ℕ) → v ≡ value.Word n → Gives t (memory.Word (n % 256)) known.temps temps
        → IsMove (Execute (core.Do (core.Narrow t x))) ws known (Go (Leave steps.Falls)) ws (given known temps)
    narrow_moves t n is gives =
        given_moves (core.Narrow t x) t (memory.Word (n % 256)) gives
        (λ marks c h next. ap (λ (u : Content). word_of u (λ k. next (with_temp t (memory.Word (k % 256)) c))) (holds_it marks c h ∙ ap content_of is))

    pub test_moves : (t : ℕ) (b : Bool) → null_of v ≡ Some b → Gives t (memory.Word (truth b)) known.temps temps
        → IsMove (Execute (core.Do (core.IsNull t x))) ws known (Go (Leave steps.Falls)) ws (given known temps)
    test_moves t b is gives =
        given_moves (core.IsNull t x) t (memory.Word (truth b)) gives
        (λ marks c h next. ap (λ (u : Content). is_null u (λ n. next (with_temp t (memory.Word n) c))) (holds_it marks c h)
        ∙ null_is v (λ n. next (with_temp t (memory.Word n) c)) ∙ ap (null_step (λ n. next (with_temp t (memory.Word n) c))) is)

    pub apply_moves : (o : core.Binary) (t y a b : ℕ) (u : Value) → content_of u ≡ temp_of known.temps y → v ≡ value.Word a → u ≡ value.Word b
        → Gives t (memory.Word (two o a b)) known.temps temps
        → IsMove (Execute (core.Do (core.Apply o t x y))) ws known (Go (Leave steps.Falls)) ws (given known temps)
    apply_moves o t y a b u second is is' gives =
        given_moves (core.Apply o t x y) t (memory.Word (two o a b)) gives
        (λ marks c h next.
        ap (λ (w : Content). word_of w (λ i. word_of (c.temps y) (λ j. next (with_temp t (memory.Word (two o i j)) c)))) (holds_it marks c h ∙ ap content_of is)
        ∙ ap (λ (w : Content). word_of w (λ j. next (with_temp t (memory.Word (two o a j)) c))) (h.temps y ∙ sym second ∙ ap content_of is'))

-- what is no word
abbrev pub IsNoWord : Value → Type 0
IsNoWord value.Blank = Unit {0}
IsNoWord (value.Word n) = ⊥
IsNoWord value.Null = Unit {0}
IsNoWord (value.Pointer p) = Unit {0}
IsNoWord (value.Birth d) = Unit {0}

-- what is no pointer
abbrev pub IsNoPlace : Value → Type 0
IsNoPlace value.Blank = Unit {0}
IsNoPlace (value.Word n) = Unit {0}
IsNoPlace value.Null = Unit {0}
IsNoPlace (value.Pointer p) = ⊥
IsNoPlace (value.Birth d) = Unit {0}

pub no_word : (v : Value) (next : ℕ → Step) → IsNoWord v → word_of (content_of v) next ≡ stuck
no_word value.Blank next h = refl
no_word (value.Word n) next h = absurd h
no_word value.Null next h = refl
no_word (value.Pointer p) next h = refl
no_word (value.Birth d) next h = refl

pub no_place : (v : Value) (next : Spot → ℕ → Step) → IsNoPlace v → pointer_of (content_of v) next ≡ stuck
no_place value.Blank next h = refl
no_place (value.Word n) next h = refl
no_place value.Null next h = refl
no_place (value.Pointer p) next h = absurd h
no_place (value.Birth d) next h = refl

module _ (known : Known) (ws : List Wait) (x : ℕ) (v : Value) (read : content_of v ≡ temp_of known.temps x) where
  pub test_wrong : (t : ℕ) → null_of v ≡ None → IsMove (Execute (core.Do (core.IsNull t x))) ws known Wrong ws known
  test_wrong t is =
      goes_wrong (core.IsNull t x) ws known
      (λ marks c h next. ap (λ (u : Content). is_null u (λ n. next (with_temp t (memory.Word n) c))) (h.temps x ∙ sym read)
      ∙ null_is v (λ n. next (with_temp t (memory.Word n) c)) ∙ ap (null_step (λ n. next (with_temp t (memory.Word n) c))) is)
